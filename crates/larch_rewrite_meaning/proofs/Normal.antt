-- Normal forms are normal, and what is normal is its own normal form.
use Rattle.std.specs.Prelude.{◌≡◌, ℕ, zero, suc, Bool, true, false, List, Option, Some, None, refl}
use Rattle.std.proofs.Common.{ap, ◌∙◌, subst}
use Rattle.larch_term.specs.Operator.{PlainOperator}
use Rattle.larch_term.specs.Tree.{Tree, Forest, var, app, none, more}
use Rattle.larch_rewrite_meaning.specs.Work.{Work, Made, OverLimit, OverSize, then_work, within_size, after_forming}
use Rattle.larch_rewrite_meaning.specs.Work.{is_large}
use Rattle.larch_rewrite_meaning.specs.Sides.{Sides}
use Rattle.larch_rewrite_meaning.specs.Rewriting.{rewritten_once}
use Rattle.larch_rewrite_meaning.specs.NormalForm.{Onward, applied_or, at_root, pass, pass_all, normal_by, normal}
use Rattle.larch_rewrite_meaning.specs.NormalForm.{IsNormalAtRoot, IsNormal, AreNormal}
use Rattle.larch_rewrite_meaning.proofs.NormalForms.{normal_unfold}

-- ---- what is normal stays

formed_small : {A : Type 0} (t : Tree) (w : Work A) → is_large t ≡ false → after_forming t w ≡ w
formed_small t w h = ap (λ b. within_size b w) h

stands_stays : (next : Onward) (rules : List Sides) (t : Tree) (b : ℕ) → IsNormalAtRoot rules t
    → at_root next rules t b ≡ Made t b
stands_stays next rules t b h =
    formed_small t (applied_or next t b (rewritten_once rules t)) h.0 ∙ ap (applied_or next t b) h.1

mutual
  pass_stays : (next : Onward) (rules : List Sides) (t : Tree) (b : ℕ) → IsNormal rules t
      → pass next rules t b ≡ Made t b
  pass_stays next rules (var n s) b h = stands_stays next rules (var n s) b h
  pass_stays next rules (app f ts) b h =
      ap (λ w. then_work w (λ us r. at_root next rules (app f us) r)) (all_stay next rules ts b h.0)
      ∙ stands_stays next rules (app f ts) b h.1

  all_stay : (next : Onward) (rules : List Sides) (ts : Forest) (b : ℕ) → AreNormal rules ts
      → pass_all next rules ts b ≡ Made ts b
  all_stay next rules none b h = refl
  all_stay next rules (more t ts) b h =
      ap (λ w. then_work w (λ u r. then_work (pass_all next rules ts r) (λ us q. Made (more u us) q)))
      (pass_stays next rules t b h.0)
      ∙ ap (λ w. then_work w (λ us q. Made (more t us) q)) (all_stay next rules ts b h.1)

normal_is_small : (rules : List Sides) (t : Tree) → IsNormal rules t → is_large t ≡ false
normal_is_small rules (var n s) h = h.0
normal_is_small rules (app f ts) h = h.1.0

pub normal_stays : (rules : List Sides) (t : Tree) (b : ℕ) → IsNormal rules t → normal rules t b ≡ Made t b
normal_stays rules t b h =
    normal_unfold rules t b
    ∙ (formed_small t (pass (λ u c. normal rules u c) rules t b) (normal_is_small rules t h)
    ∙ pass_stays (λ u c. normal rules u c) rules t b h)

-- ---- what is made is normal

-- what goes on makes normal terms
abbrev MakesNormal : List Sides → Onward → Type 0
MakesNormal rules next = (t : Tree) (b : ℕ) (u : Tree) (r : ℕ) → next t b ≡ Made u r → IsNormal rules u

-- the arguments of a term are normal
abbrev HasNormalArguments : List Sides → Tree → Type 0
HasNormalArguments rules (var n s) = Unit {0}
HasNormalArguments rules (app f ts) = AreNormal rules ts

whole_normal : (rules : List Sides) (t : Tree) → HasNormalArguments rules t → IsNormalAtRoot rules t → IsNormal rules t
whole_normal rules (var n s) a h = h
whole_normal rules (app f ts) a h = (a, h)

made_term : {A : Type 0} {x y : A} {b c : ℕ} → Made x b ≡ Made y c → x ≡ y
made_term e = cc

applied_normal : (rules : List Sides) (next : Onward) → MakesNormal rules next → (t : Tree) (b : ℕ) (o : Option Tree)
    (u : Tree) (r : ℕ) → HasNormalArguments rules t → is_large t ≡ false → rewritten_once rules t ≡ o
    → applied_or next t b o ≡ Made u r → IsNormal rules u
applied_normal rules next m t b None u r a s e h =
    subst (IsNormal rules) (made_term h) (whole_normal rules t a (s, e))
applied_normal rules next m t zero (Some v) u r a s e h = cc
applied_normal rules next m t (suc b) (Some v) u r a s e h = m v b u r h

root_by_size : (rules : List Sides) (next : Onward) → MakesNormal rules next → (t : Tree) (b : ℕ) (large : Bool)
    (u : Tree) (r : ℕ) → HasNormalArguments rules t → is_large t ≡ large
    → within_size large (applied_or next t b (rewritten_once rules t)) ≡ Made u r → IsNormal rules u
root_by_size rules next m t b true u r a s h = cc
root_by_size rules next m t b false u r a s h =
    applied_normal rules next m t b (rewritten_once rules t) u r a s refl h

root_normal : (rules : List Sides) (next : Onward) → MakesNormal rules next → (t : Tree) (b : ℕ) (u : Tree) (r : ℕ)
    → HasNormalArguments rules t → at_root next rules t b ≡ Made u r → IsNormal rules u
root_normal rules next m t b u r a h = root_by_size rules next m t b (is_large t) u r a refl h

behind_arguments : (rules : List Sides) (next : Onward) → MakesNormal rules next → (f : PlainOperator) (ts : Forest)
    (b : ℕ) (w : Work Forest) (u : Tree) (r : ℕ)
    → ((us : Forest) (c : ℕ) → pass_all next rules ts b ≡ Made us c → AreNormal rules us) → pass_all next rules ts b ≡ w
    → then_work w (λ us c. at_root next rules (app f us) c) ≡ Made u r → IsNormal rules u
behind_arguments rules next m f ts b (Made us c) u r go e h =
    root_normal rules next m (app f us) c u r (go us c e) h
behind_arguments rules next m f ts b OverLimit u r go e h = cc
behind_arguments rules next m f ts b OverSize u r go e h = cc

behind_others : (rules : List Sides) (v : Tree) (w : Work Forest) (us : Forest) (c : ℕ)
    → ((vs : Forest) (q : ℕ) → w ≡ Made vs q → AreNormal rules vs) → IsNormal rules v
    → then_work w (λ vs q. Made (more v vs) q) ≡ Made us c → AreNormal rules us
behind_others rules v (Made vs q) us c go n h = subst (AreNormal rules) (made_term h) (n, go vs q refl)
behind_others rules v OverLimit us c go n h = cc
behind_others rules v OverSize us c go n h = cc

behind_first : (rules : List Sides) (next : Onward) (ts : Forest) (w : Work Tree) (us : Forest) (c : ℕ)
    → ((v : Tree) (r : ℕ) → w ≡ Made v r → IsNormal rules v)
    → ((r : ℕ) (vs : Forest) (q : ℕ) → pass_all next rules ts r ≡ Made vs q → AreNormal rules vs)
    → then_work w (λ v r. then_work (pass_all next rules ts r) (λ vs q. Made (more v vs) q)) ≡ Made us c
    → AreNormal rules us
behind_first rules next ts (Made v r) us c first others h =
    behind_others rules v (pass_all next rules ts r) us c (others r) (first v r refl) h
behind_first rules next ts OverLimit us c first others h = cc
behind_first rules next ts OverSize us c first others h = cc

mutual
  pass_normal : (rules : List Sides) (next : Onward) → MakesNormal rules next → (t : Tree) (b : ℕ) (u : Tree) (r : ℕ)
      → pass next rules t b ≡ Made u r → IsNormal rules u
  pass_normal rules next m (var n s) b u r h = root_normal rules next m (var n s) b u r tt h
  pass_normal rules next m (app f ts) b u r h =
      behind_arguments rules next m f ts b (pass_all next rules ts b) u r (all_normal rules next m ts b) refl h

  all_normal : (rules : List Sides) (next : Onward) → MakesNormal rules next → (ts : Forest) (b : ℕ) (us : Forest)
      (c : ℕ) → pass_all next rules ts b ≡ Made us c → AreNormal rules us
  all_normal rules next m none b us c h = subst (AreNormal rules) (made_term h) tt
  all_normal rules next m (more t ts) b us c h =
      behind_first rules next ts (pass next rules t b) us c (pass_normal rules next m t b)
      (λ r. all_normal rules next m ts r) h

formed_by : (rules : List Sides) (t : Tree) (large : Bool) (w : Work Tree) (u : Tree) (r : ℕ)
    → (w ≡ Made u r → IsNormal rules u) → within_size large w ≡ Made u r → IsNormal rules u
formed_by rules t true w u r f h = cc
formed_by rules t false w u r f h = f h

normal_by_normal : (n : ℕ) (rules : List Sides) → MakesNormal rules (λ t b. normal_by n rules t b)
normal_by_normal zero rules t b u r h =
    formed_by rules t (is_large t) (pass (λ v c. OverLimit) rules t b) u r
    (pass_normal rules (λ v c. OverLimit) (λ v c x q k. cc) t b u r) h
normal_by_normal (suc n) rules t b u r h =
    formed_by rules t (is_large t) (pass (λ v c. normal_by n rules v c) rules t b) u r
    (pass_normal rules (λ v c. normal_by n rules v c) (normal_by_normal n rules) t b u r) h

pub made_normal : (rules : List Sides) (t : Tree) (b : ℕ) (u : Tree) (r : ℕ) → normal rules t b ≡ Made u r
    → IsNormal rules u
unfolding normal
made_normal rules t b u r h = normal_by_normal b rules t b u r h
