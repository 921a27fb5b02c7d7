use Rattle.std.specs.Prelude.{All}
use Rattle.std.proofs.Common.{subst, sym}
use Rattle.larch_complete_pairs.specs.Said.{IsPairOf, rule_in}
use Rattle.larch_complete_pairs.proofs.PairEntries.{all_pairs_of}
use Rattle.larch_complete_pairs.proofs.pairs.push_pairs.Goals as goal
use Rattle.larch_derive.proofs.Growth.{extends_refl}

pub returns-in_err-pairs-clause-extends : goal.returns-in_err-pairs-clause-extends
returns-in_err-pairs-clause-extends c = extends_refl _

pub say_pairs-requires-clause-pairs : goal.say_pairs-requires-clause-pairs
say_pairs-requires-clause-pairs c =
    subst (All (IsPairOf c.args.builder.now (rule_in c.args.first.now) (rule_in c.args.second.now)))
    (sym c.as_slice.ensures)
    (all_pairs_of c.args.builder.now c.args.first.now.line c.args.second.now.line (rule_in c.args.first.now)
    (rule_in c.args.second.now) c.args.one c.in_ok-pairs.pairs c.requires.first c.requires.second
    c.requires.first_over c.requires.second_over c.requires.applies c.in_ok-pairs.ensures)
