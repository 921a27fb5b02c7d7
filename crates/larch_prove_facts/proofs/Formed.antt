-- Instances as they are formed.
use Rattle.std.specs.Prelude.{◌≡◌, ℕ, Option, None, Some, refl}
use Rattle.std.proofs.Common.{ap, ap₂, subst, sym, ◌∙◌}
use Rattle.larch_base.specs.declared.fact_name.FactName.{FactName}
use Rattle.larch_derive.proofs.Growth.{known_left}
use Rattle.larch_derive.specs.Predicates.{HasEquation, Known}
use Rattle.larch_derive.specs.declared.builder.Builder.{Builder}
use Rattle.larch_prove_work.specs.ProveAddingTurns.{Tells}
use Rattle.larch_prove_facts.specs.Instance.{IsFormed, IsWithin, formed_of}
use Rattle.larch_prove_meaning.specs.Facts.{Facts, rules_of}
use Rattle.larch_prove_work.specs.RewriteRefusalRewriteRefusal.{RewriteRefusal}
use Rattle.larch_rewrite_meaning.specs.NormalForm.{normal}
use Rattle.larch_rewrite_meaning.specs.Sides.{Sides}
use Rattle.larch_term.specs.Tree.{Tree}

pub formed_so : (b : Builder) (e : Sides) (n : FactName) (l : Tree) (r : Option Tree) (line : ℕ) → l ≡ e.left
    → IsWithin e.right r → HasEquation b line e.left e.right → IsFormed b e n (formed_of n l r line)
formed_so b e n l None line h w says =
    (h, (refl, (w, subst (Known b) (sym h) (known_left b line e.left e.right says))))
formed_so b e n l (Some r) line h w says = (
  ap₂ (λ (t u : Tree). record { left = t; right = u }) h w,
  (
    refl,
    subst (λ t. HasEquation b line t r) (sym h) (subst (λ u. HasEquation b line e.left u) (sym w) says),
  ),
)

-- a normal form that is refused, by the same facts
pub tells_as_same : (old other : Facts) (limit : ℕ) (t u : Tree) (r : RewriteRefusal) → other ≡ old → u ≡ t
    → Tells (normal (rules_of other.rules) u limit) r → Tells (normal (rules_of old.rules) t limit) r
tells_as_same old other limit t u r same is h =
    subst (λ w. Tells w r) (ap₂ (λ (facts : Facts) x. normal (rules_of facts.rules) x limit) same is) h
