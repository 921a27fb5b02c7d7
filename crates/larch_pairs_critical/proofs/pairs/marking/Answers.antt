use Rattle.std.proofs.Common.{◌∙◌}
use Rattle.larch_pairs_critical.proofs.Different.{marked_same}
use Rattle.larch_pairs_critical.proofs.pairs.marking.Goals as goal

pub substitution_of-requires : goal.substitution_of-requires
substitution_of-requires c = marked_same c.args.mark c.args.rule.now c.in_ok-entries.entries c.in_ok-entries.ensures

pub returns-clause-different : goal.returns-clause-different
returns-clause-different c =
    marked_same c.args.mark c.args.rule.now c.in_ok-marking.marking (c.in_ok-marking.ensures ∙ c.in_ok-entries.ensures)
