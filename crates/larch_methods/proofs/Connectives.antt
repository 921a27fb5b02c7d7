-- Terms with a connective at their head, where they are known.
use Rattle.std.specs.Prelude.{◌≡◌, ℕ, List, [], ◌∷◌, refl}
use Rattle.std.proofs.Common.{sym, ◌∙◌}
use Rattle.larch_term.specs.BuiltIn.{bool_sort}
use Rattle.larch_term.specs.Operator.{PlainOperator}
use Rattle.larch_term.specs.Sorts.{sort_of}
use Rattle.larch_term.specs.Tree.{Tree, var, app}
use Rattle.larch_calculus.specs.Formula.{apply_two}
use Rattle.larch_derive.specs.Predicates.{Known, written_term}
use Rattle.larch_derive.specs.declared.builder.Builder.{Builder}
use Rattle.larch_derive.specs.declared.open_box.OpenBox.{OpenBox}
use Rattle.larch_methods.specs.Methods.{IsKnownFormula}
use Rattle.larch_methods.specs.Rows.{HasArguments}

joined_same : (f g : PlainOperator) (s r t u : Tree) → apply_two f s r ≡ apply_two g t u → (s ≡ t) × (r ≡ u)
joined_same f g s r t u e = (cc, cc)

-- the arguments of a term are its only ones
pub only_arguments : (whole first second : Tree) (g : PlainOperator) (t u : Tree) → HasArguments whole first second
    → whole ≡ apply_two g t u → (first ≡ t) × (second ≡ u)
only_arguments whole first second g t u h e =
    joined_same h.operator g first second t u (sym h.whole_is ∙ e)

sort_written : (bs : List OpenBox) (t : Tree) → sort_of (written_term bs t) ≡ sort_of t
sort_written bs (var n s) = refl
sort_written bs (app f ts) = refl

two_same : (x y z w : List ℕ) → x ∷ y ∷ [] ≡ z ∷ w ∷ [] → (x ≡ z) × (y ≡ w)
two_same x y z w e = (cc, cc)

-- the arguments of a known term are known, where its operator is one of two truth values
pub known_arguments : (b : Builder) (f : PlainOperator) (t u : Tree) → f.domain ≡ bool_sort ∷ bool_sort ∷ []
    → Known b (apply_two f t u) → IsKnownFormula b t × IsKnownFormula b u
unfolding Known
known_arguments b f t u d (st, k) =
    let p = two_same (sort_of (written_term b.boxes t)) (sort_of (written_term b.boxes u)) bool_sort bool_sort
    (k.over.0.0 ∙ d) in (
      record {
        known = (st, record { stand = k.stand; over = (k.over.0.1.0, k.over.1.1.0); words = k.words.1.0 });
        sort = sym (sort_written b.boxes t) ∙ p.0;
      },
      record {
        known = (st, record { stand = k.stand; over = (k.over.0.1.1.0, k.over.1.1.1.0); words = k.words.1.1.0 });
        sort = sym (sort_written b.boxes u) ∙ p.1;
      },
    )
