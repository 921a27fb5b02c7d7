-- Which terms have a form with their sides exchanged.
use Rattle.std.specs.Prelude.{◌≡◌, Bool, true, false, cond, Some, None, refl}
use Rattle.std.proofs.Common.{ap, sym, ◌∙◌}
use Rattle.larch_term.specs.Arguments.{has_two_arguments}
use Rattle.larch_term.specs.BuiltIn.{is_built_in_as}
use Rattle.larch_term.specs.Operator.{PlainOperator}
use Rattle.larch_term.specs.Tree.{Tree, var, app, none, more}
use Rattle.larch_term.specs.declared.built_in.BuiltIn.TheVariants.{Equal}
use Rattle.larch_rewrite_match.specs.Exchanged.{exchange_equality}

-- those with two arguments alone
pub turned_of_other : (t : Tree) → has_two_arguments t ≡ false → exchange_equality t ≡ None
turned_of_other (var n s) e = refl
turned_of_other (app f none) e = refl
turned_of_other (app f (more s none)) e = refl
turned_of_other (app f (more s (more t none))) e = cc
turned_of_other (app f (more s (more t (more u us)))) e = refl

pub turned_has_two : (t x : Tree) → exchange_equality t ≡ Some x → has_two_arguments t ≡ true
turned_has_two (var n s) x e = cc
turned_has_two (app f none) x e = cc
turned_has_two (app f (more s none)) x e = cc
turned_has_two (app f (more s (more t none))) x e = refl
turned_has_two (app f (more s (more t (more u us)))) x e = cc

-- and of these the equalities
pub turned_of_two : (t l r : Tree) (f : PlainOperator) (b : Bool) → t ≡ app f (more l (more r none))
    → b ≡ is_built_in_as f Equal → exchange_equality t ≡ cond b (Some (app f (more r (more l none)))) None
turned_of_two t l r f b e q =
    ap exchange_equality e ∙ ap (λ c. cond c (Some (app f (more r (more l none)))) None) (sym q)
