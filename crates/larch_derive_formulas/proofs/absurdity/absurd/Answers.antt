use Rattle.std.specs.Prelude.{[], ◌∷◌, refl}
use Rattle.larch_derive_lines.specs.CalculusFormula.{falsity}
use Rattle.larch_term.specs.BuiltIn.{built_in}
use Rattle.larch_term.specs.Sorts.{sort_of}
use Rattle.larch_term.specs.Truth.{truth}
use Rattle.larch_term.specs.declared.built_in.BuiltIn.TheVariants.{If}
use Rattle.larch_derive_formulas.proofs.Truths.{first_choice, second_choice}
use Rattle.larch_derive_formulas.proofs.absurdity.absurd.Goals as goal

pub returns-in_err-number-clause-extends : goal.returns-in_err-number-clause-extends
returns-in_err-number-clause-extends c p q s e =
    c.in_err-number.ensures.extends (built_in If (sort_of c.args.left.now)) []
    (c.args.left.now ∷ c.args.right.now ∷ []) truth falsity c.args.left.now c.args.right.now
    (first_choice _ _ _ c.args.left.now c.args.right.now c.sort_of-sort.ensures c.in_ok-first.ensures p q s) refl e
    (second_choice _ _ _ c.args.left.now c.args.right.now c.sort_of-sort.ensures c.in_ok-second.ensures p q s)

pub returns-clause-says : goal.returns-clause-says
returns-clause-says c p q s e =
    c.in_ok-number.ensures.says (built_in If (sort_of c.args.left.now)) []
    (c.args.left.now ∷ c.args.right.now ∷ []) truth falsity c.args.left.now c.args.right.now
    (first_choice _ _ _ c.args.left.now c.args.right.now c.sort_of-sort.ensures c.in_ok-first.ensures p q s) refl e
    (second_choice _ _ _ c.args.left.now c.args.right.now c.sort_of-sort.ensures c.in_ok-second.ensures p q s)

pub returns-clause-extends : goal.returns-clause-extends
returns-clause-extends c p q s e =
    c.in_ok-number.ensures.extends (built_in If (sort_of c.args.left.now)) []
    (c.args.left.now ∷ c.args.right.now ∷ []) truth falsity c.args.left.now c.args.right.now
    (first_choice _ _ _ c.args.left.now c.args.right.now c.sort_of-sort.ensures c.in_ok-first.ensures p q s) refl e
    (second_choice _ _ _ c.args.left.now c.args.right.now c.sort_of-sort.ensures c.in_ok-second.ensures p q s)
