use Rattle.std.proofs.Common.{◌∙◌, IfSome, Some, ap, subst}
use Rattle.larch_sorts_signature.specs.SortsMeaningFound.{Tells}
use Rattle.larch_sorts_signature.specs.SortsMeaningReadings.{ReadsAt, Reads}
use Rattle.larch_sorts_signature.specs.SortsMeaningFoundFound.TheVariants.{Several}
use Rattle.larch_sorts.proofs.SidesTold.{formula_of}
use Rattle.larch_sorts.proofs.counted.counted_formula.Goals as goal

pub returns-in-Some-Some-Several-clause-tells : goal.returns-in-Some-Some-Several-clause-tells
returns-in-Some-Some-Several-clause-tells c =
    formula_of (Reads c.args.signature.now c.args.scope.now c.args.left.now) (Some Several)
    (subst (λ s. Tells (Some Several) (ReadsAt c.args.signature.now c.args.scope.now c.args.left.now s))
    c.in_ok-sort.ensures
    (subst
    (λ o. IfSome o (λ found. Tells found
    (ReadsAt c.args.signature.now c.args.scope.now c.args.left.now c.in_ok-sort.sort)))
    (c.in-Some-Some-Several.is ∙ ap Some
    (c.in-Some-Some-Several.field-0-is ∙ ap Some c.in-Some-Some-Several.field-0-0-is))
    c.in_ok-counted_at.ensures.tells))
