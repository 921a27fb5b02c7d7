use Rattle.std.proofs.Common.{[], refl}
use Rattle.std.proofs.lemmas.List.Elements.{All-nil}
use Rattle.larch_term.specs.Equality.{same_tree, same_statement}
use Rattle.larch_term.specs.OperatorKey.{same_operator}
use Rattle.larch_calculus.proofs.Names.{box_is_new}
use Rattle.larch_calculus.proofs.WellSorted.{well_sorted}
use Rattle.larch_calculus.specs.Renaming.{IsPlainName}
use Rattle.larch_soundness.specs.Counterexamples.{box_constant}
use Rattle.larch_verify_conditions.proofs.conditions.well_sorted_statements_are_needed.Goals as goal

pub returns : goal.returns
unfolding same_operator same_tree same_statement
returns c =
    record {
      plain = All-nil (λ f. IsPlainName f.name);
      accepted = refl;
      underivable = λ d. let w = well_sorted d in box_is_new [] 0 (box_constant 0) w.0.1.0 refl;
    }
