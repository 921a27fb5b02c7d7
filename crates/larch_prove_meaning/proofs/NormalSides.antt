-- What both sides of an equation become: small, and the same where no rule was applied.
use Rattle.std.specs.Prelude.{◌≡◌, ◌≤◌, ℕ, zero, suc, Bool, true, false}
use Rattle.std.specs.Prelude.{List, Option, Some, None, refl}
use Rattle.std.proofs.Common.{inl, inr, ap, arith, sym, subst, true≢false, ◌∙◌}
use Rattle.std.proofs.lemmas.Bool.Decides.{leb_tells}
use Rattle.larch_base.specs.declared.limits.TheConstants.{MAX_TERM_NODES}
use Rattle.larch_term.specs.Tree.{Tree, Forest, var, app, none, more, nodes}
use Rattle.larch_rewrite_meaning.specs.NormalForm.{IsNormal, LeavesAtMost, applied_or, at_root, normal, pass, pass_all}
use Rattle.larch_rewrite_meaning.specs.Rewriting.{rewritten_once}
use Rattle.larch_rewrite_meaning.specs.Sides.{Sides}
use Rattle.larch_rewrite_meaning.specs.Work.{Work, Made, OverLimit, OverSize, is_large, then_work, within_size}
use Rattle.larch_rewrite_meaning.proofs.Normal.{made_normal}
use Rattle.larch_rewrite_meaning.proofs.NormalForms.{normal_most, normal_unfold}
use Rattle.larch_prove_meaning.specs.Facts.{normal_sides}

-- no more is left than there was; and where all is left, this was made
abbrev Leaves : {A : Type 0} → A → ℕ → Work A → Type 0
Leaves x b (Made y r) = (r ≤ b) × (r ≡ b → y ≡ x)
Leaves x b OverLimit = Unit {0}
Leaves x b OverSize = Unit {0}

first_leaves : {B : Type 0} (w : Work B) (y z : B) (b r : ℕ) → r ≤ b → (r ≡ b → z ≡ y) → Leaves z r w → Leaves y b w
first_leaves (Made q s) y z b r m e h = (
  let k = h.0 in omega (arith, m, k),
  λ i.
      let k = h.0 in
      let p : r ≡ b = omega (arith, m, k, i) in
      h.1 (i ∙ sym p) ∙ e p,
)
first_leaves OverLimit y z b r m e h = tt
first_leaves OverSize y z b r m e h = tt

then_leaves : {A B : Type 0} (w : Work A) (f : A → ℕ → Work B) (x : A) (y : A → B) (b : ℕ) → Leaves x b w
    → ((z : A) (r : ℕ) → Leaves (y z) r (f z r)) → Leaves (y x) b (then_work w f)
then_leaves (Made z r) f x y b h k = first_leaves (f z r) (y x) (y z) b r h.0 (λ e. ap y (h.1 e)) (k z r)
then_leaves OverLimit f x y b h k = tt
then_leaves OverSize f x y b h k = tt

within_leaves : {A : Type 0} (large : Bool) (x : A) (b : ℕ) (w : Work A) → Leaves x b w
    → Leaves x b (within_size large w)
within_leaves true x b w h = tt
within_leaves false x b w h = h

-- what leaves less than there was
less_leaves : {A : Type 0} (w : Work A) (x : A) (b : ℕ) → LeavesAtMost b w → Leaves x (suc b) w
less_leaves (Made y r) x b h = (omega (arith, h), λ e. absurd (omega (arith, h, e)))
less_leaves OverLimit x b h = tt
less_leaves OverSize x b h = tt

applied_leaves : (rules : List Sides) (t : Tree) (b : ℕ) (o : Option Tree)
    → Leaves t b (applied_or (λ u c. normal rules u c) t b o)
applied_leaves rules t b None = (omega arith, λ e. refl)
applied_leaves rules t zero (Some u) = tt
applied_leaves rules t (suc b) (Some u) = less_leaves (normal rules u b) t b (normal_most rules u b)

root_leaves : (rules : List Sides) (t : Tree) (b : ℕ) → Leaves t b (at_root (λ u c. normal rules u c) rules t b)
root_leaves rules t b =
    within_leaves (is_large t) t b (applied_or (λ u c. normal rules u c) t b (rewritten_once rules t))
    (applied_leaves rules t b (rewritten_once rules t))

mutual
  pass_leaves : (rules : List Sides) (t : Tree) (b : ℕ) → Leaves t b (pass (λ u c. normal rules u c) rules t b)
  pass_leaves rules (var n s) b = root_leaves rules (var n s) b
  pass_leaves rules (app f ts) b =
      then_leaves (pass_all (λ u c. normal rules u c) rules ts b)
      (λ us r. at_root (λ u c. normal rules u c) rules (app f us) r) ts (λ us. app f us) b (all_leave rules ts b)
      (λ us r. root_leaves rules (app f us) r)

  all_leave : (rules : List Sides) (ts : Forest) (b : ℕ)
      → Leaves ts b (pass_all (λ u c. normal rules u c) rules ts b)
  all_leave rules none b = (omega arith, λ e. refl)
  all_leave rules (more t ts) b =
      then_leaves (pass (λ u c. normal rules u c) rules t b)
      (λ u r. then_work (pass_all (λ v c. normal rules v c) rules ts r) (λ us q. Made (more u us) q)) t
      (λ u. more u ts) b (pass_leaves rules t b)
      (λ u r. then_leaves (pass_all (λ v c. normal rules v c) rules ts r) (λ us q. Made (more u us) q) ts
      (λ us. more u us) r (all_leave rules ts r) (λ us q. (omega arith, λ e. refl)))

normal_leaves : (rules : List Sides) (t : Tree) (b : ℕ) → Leaves t b (normal rules t b)
normal_leaves rules t b =
    subst (Leaves t b) (sym (normal_unfold rules t b))
    (within_leaves (is_large t) t b (pass (λ u c. normal rules u c) rules t b) (pass_leaves rules t b))

made_leaves : (rules : List Sides) (t : Tree) (b : ℕ) (u : Tree) (r : ℕ) → normal rules t b ≡ Made u r
    → (r ≤ b) × (r ≡ b → u ≡ t)
made_leaves rules t b u r e = subst (Leaves t b) e (normal_leaves rules t b)

small_normal : (rules : List Sides) (u : Tree) → IsNormal rules u → is_large u ≡ false
small_normal rules (var n s) h = h.0
small_normal rules (app f ts) h = h.1.0

-- a normal form is small
made_small : (rules : List Sides) (t : Tree) (b : ℕ) (u : Tree) (r : ℕ) → normal rules t b ≡ Made u r
    → nodes u ≤ MAX_TERM_NODES
made_small rules t b u r e =
    let small = small_normal rules u (made_normal rules t b u r e) in
    elim (leb_tells (suc MAX_TERM_NODES) (nodes u)) [
      | inl h ↦ absurd (true≢false (sym h.0 ∙ small))
      | inr h ↦ let k = h.1 in omega (arith, k)
    ]

-- what both sides of an equation became
pub record Found (e d : Sides) (b c : ℕ) : Type 0 where
  pub left : c ≤ b
  pub same : c ≡ b → d ≡ e
  pub small_left : nodes d.left ≤ MAX_TERM_NODES
  pub small_right : nodes d.right ≤ MAX_TERM_NODES

two_sides : Tree → Tree → Sides
two_sides l r = record { left = l; right = r }

pub sides_found : (rules : List Sides) (e d : Sides) (b c : ℕ) → normal_sides rules e b ≡ Made d c → Found e d b c
unfolding two_sides
sides_found rules e d b c q = by_left (normal rules e.left b) refl q
  where
    by_right : (l : Tree) (r : ℕ) (w : Work Tree) → normal rules e.left b ≡ Made l r → normal rules e.right r ≡ w
        → then_work w (λ u s. Made (record { left = l; right = u }) s) ≡ Made d c → Found e d b c
    by_right l r (Made u s) h k i =
        let m = made_leaves rules e.left b l r h in
        let n = made_leaves rules e.right r u s k in
        let p : two_sides l u ≡ d = cc in
        let o : s ≡ c = cc in
        subst (λ (f : Sides). Found e f b c) p (record {
          left = let v = m.0 in let w = n.0 in omega (arith, v, w, o);
          same = λ z.
              let v = m.0 in
              let w = n.0 in
              let first : r ≡ b = omega (arith, v, w, o, z) in
              let second : s ≡ r = omega (arith, v, w, o, z) in
              λ j. two_sides (m.1 first j) (n.1 second j);
          small_left = made_small rules e.left b l r h;
          small_right = made_small rules e.right r u s k;
        })
    by_right l r OverLimit h k i = cc
    by_right l r OverSize h k i = cc

    by_left : (w : Work Tree) → normal rules e.left b ≡ w
        → then_work w (λ l r. then_work (normal rules e.right r) (λ u s. Made (record { left = l; right = u }) s))
        ≡ Made d c → Found e d b c
    by_left (Made l r) h i = by_right l r (normal rules e.right r) h refl i
    by_left OverLimit h i = cc
    by_left OverSize h i = cc
