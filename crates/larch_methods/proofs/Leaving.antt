-- Boxes that are left with what has none of their constants.
use Rattle.std.specs.Prelude.{◌≡◌, ℕ, suc, List, [], ◌∷◌, map, refl}
use Rattle.std.proofs.Common.{ap, subst, sym}
use Rattle.larch_term.specs.Operator.{PlainOperator}
use Rattle.larch_term.specs.Tree.{Tree}
use Rattle.larch_derive.specs.Predicates.{HasEquation}
use Rattle.larch_derive.specs.declared.builder.Builder.{Builder}
use Rattle.larch_derive.specs.declared.open_box.OpenBox.{OpenBox}
use Rattle.larch_methods.specs.Inside.{closed_in}
use Rattle.larch_methods.specs.Observers.{HasShorterNames, variables_for}
use Rattle.larch_methods.proofs.Words.{term_stays}

-- variables that are named by letters have the sorts of the constants
pub letter_sorts : (n : ℕ) (cs : List PlainOperator) → map (λ c. c.range) cs ≡ map (λ v. v.sort) (variables_for n cs)
letter_sorts n [] = refl
letter_sorts n (c ∷ cs) = ap (λ ss. c.range ∷ ss) (letter_sorts (suc n) cs)

-- an equation of shorter names is the one with constants in the places of these variables
pub closed_by_letters : (b : Builder) (line : ℕ) (x : OpenBox) (n : ℕ) (l r : Tree) → HasShorterNames n l
    → HasShorterNames n r → HasEquation b line l r
    → HasEquation b line (closed_in (variables_for n x.constants) x l) (closed_in (variables_for n x.constants) x r)
closed_by_letters b line x n l r h k e =
    subst (λ t. HasEquation b line t (closed_in (variables_for n x.constants) x r)) (sym (term_stays n x.constants l h))
    (subst (HasEquation b line l) (sym (term_stays n x.constants r k)) e)
