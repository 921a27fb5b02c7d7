-- The pairs can be written, and are.
use Rattle.std.proofs.Common.{All, subst, sym}
use Rattle.larch_complete_pairs.specs.Said.{IsPairOf, rule_in}
use Rattle.larch_prove_facts.proofs.Paired.{all_pairs_written}
use Rattle.larch_prove_facts.proofs.pairs.pairs_of_rules.Goals as goal

pub say_pairs-requires-clause-pairs : goal.say_pairs-requires-clause-pairs
say_pairs-requires-clause-pairs c =
    subst (All (IsPairOf c.args.builder.now (rule_in c.args.first.now) (rule_in c.args.second.now)))
    (sym c.as_slice.ensures)
    (all_pairs_written c.args.builder.now c.args.first.now.line c.args.second.now.line (rule_in c.args.first.now)
    (rule_in c.args.second.now) c.args.one c.in-Ok.pairs c.requires.parts c.requires.first c.requires.second
    c.requires.applies c.in-Ok.ensures)
