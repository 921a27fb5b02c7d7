use Rattle.std.proofs.Common.{[], ◌∷◌, refl}
use Rattle.std.proofs.lemmas.List.Elements.{All-nil, All-cons}
use Rattle.larch_term.specs.Equality.{same_tree, same_statement}
use Rattle.larch_term.specs.OperatorKey.{same_operator}
use Rattle.larch_term.specs.Operator.{PlainOperator}
use Rattle.larch_calculus.specs.Example.{nought, successor, plus, numbers, sum_from_nought}
use Rattle.larch_calculus.specs.Renaming.{IsPlainName}
use Rattle.larch_verify_meaning.specs.Examples.{sample}
use Rattle.larch_verify_law.proofs.Accepted.{accepted_derivable}
use Rattle.larch_verify_law.proofs.Verdicts.{verdict_accepts}
use Rattle.larch_soundness.proofs.Counterexamples.{numbers_well_sorted}
use Rattle.larch_verify_conditions.proofs.conditions.worked_is_derivable.Goals as goal

pub returns : goal.returns
unfolding same_operator same_tree same_statement
returns c =
    let P : PlainOperator → Type 0 = λ f. IsPlainName f.name in
    accepted_derivable numbers sum_from_nought sample numbers_well_sorted
    (All-cons P nought (successor ∷ plus ∷ []) tt
    (All-cons P successor (plus ∷ []) tt (All-cons P plus [] tt (All-nil P))))
    (verdict_accepts numbers sum_from_nought sample refl)
