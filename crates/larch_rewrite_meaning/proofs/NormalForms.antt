-- The bound on applications doesn't matter.
use Rattle.std.specs.Prelude.{◌≡◌, ◌<◌, ◌≤◌, ℕ, zero, suc, Bool, true, false, List, Option, Some, None, refl}
use Rattle.std.proofs.Common.{arith, ap, ◌∙◌}
use Rattle.larch_term.specs.Tree.{Tree, Forest, var, app, none, more}
use Rattle.larch_rewrite_meaning.specs.Work.{Work, Made, OverLimit, OverSize, then_work, within_size, after_forming}
use Rattle.larch_rewrite_meaning.specs.Work.{is_large}
use Rattle.larch_rewrite_meaning.specs.Sides.{Sides}
use Rattle.larch_rewrite_meaning.specs.Rewriting.{rewritten_once}
use Rattle.larch_rewrite_meaning.specs.NormalForm.{Onward, applied_or, at_root, pass, pass_all, normal_by, normal}
use Rattle.larch_rewrite_meaning.specs.NormalForm.{LeavesAtMost}

then_same : {A B : Type 0} (w : Work A) (f g : A → ℕ → Work B) (b : ℕ) → LeavesAtMost b w
    → ((x : A) (r : ℕ) → r ≤ b → f x r ≡ g x r) → then_work w f ≡ then_work w g
then_same (Made x r) f g b h e = e x r h
then_same OverLimit f g b h e = refl
then_same OverSize f g b h e = refl

then_most : {A B : Type 0} (w : Work A) (f : A → ℕ → Work B) (b : ℕ) → LeavesAtMost b w
    → ((x : A) (r : ℕ) → r ≤ b → LeavesAtMost b (f x r)) → LeavesAtMost b (then_work w f)
then_most (Made x r) f b h e = e x r h
then_most OverLimit f b h e = tt
then_most OverSize f b h e = tt

weaker : {A : Type 0} (b c : ℕ) (w : Work A) → b ≤ c → LeavesAtMost b w → LeavesAtMost c w
weaker b c (Made x r) h m = omega (arith, h, m)
weaker b c OverLimit h m = tt
weaker b c OverSize h m = tt

within_most : {A : Type 0} (large : Bool) (b : ℕ) (w : Work A) → LeavesAtMost b w
    → LeavesAtMost b (within_size large w)
within_most true b w h = tt
within_most false b w h = h

formed_most : {A : Type 0} (t : Tree) (b : ℕ) (w : Work A) → LeavesAtMost b w → LeavesAtMost b (after_forming t w)
formed_most t b w h = within_most (is_large t) b w h

-- what goes on leaves no more than it gets
abbrev Falls : Onward → Type 0
Falls next = (u : Tree) (c : ℕ) → LeavesAtMost c (next u c)

applied_most : (next : Onward) → Falls next → (t : Tree) (c : ℕ) (o : Option Tree)
    → LeavesAtMost c (applied_or next t c o)
applied_most next f t c None = omega arith
applied_most next f t zero (Some u) = tt
applied_most next f t (suc c) (Some u) = weaker c (suc c) (next u c) (omega arith) (f u c)

root_most : (next : Onward) → Falls next → (rules : List Sides) (t : Tree) (c : ℕ)
    → LeavesAtMost c (at_root next rules t c)
root_most next f rules t c =
    formed_most t c (applied_or next t c (rewritten_once rules t)) (applied_most next f t c (rewritten_once rules t))

mutual
  pass_most : (next : Onward) → Falls next → (rules : List Sides) (t : Tree) (c : ℕ)
      → LeavesAtMost c (pass next rules t c)
  pass_most next f rules (var n s) c = root_most next f rules (var n s) c
  pass_most next f rules (app g ts) c =
      then_most (pass_all next rules ts c) (λ us r. at_root next rules (app g us) r) c (all_most next f rules ts c)
      (λ us r h. weaker r c (at_root next rules (app g us) r) h (root_most next f rules (app g us) r))

  all_most : (next : Onward) → Falls next → (rules : List Sides) (ts : Forest) (c : ℕ)
      → LeavesAtMost c (pass_all next rules ts c)
  all_most next f rules none c = omega arith
  all_most next f rules (more t ts) c =
      then_most (pass next rules t c) (λ u r. then_work (pass_all next rules ts r) (λ us q. Made (more u us) q)) c
      (pass_most next f rules t c)
      (λ u r h. then_most (pass_all next rules ts r) (λ us q. Made (more u us) q) c
      (weaker r c (pass_all next rules ts r) h (all_most next f rules ts r)) (λ us q k. k))

-- two ways to go on that agree below a budget
abbrev Agree : ℕ → Onward → Onward → Type 0
Agree b next other = (u : Tree) (c : ℕ) → c < b → next u c ≡ other u c

applied_same : (next other : Onward) (b : ℕ) → Agree b next other → (t : Tree) (c : ℕ) → c ≤ b → (o : Option Tree)
    → applied_or next t c o ≡ applied_or other t c o
applied_same next other b e t c h None = refl
applied_same next other b e t zero h (Some u) = refl
applied_same next other b e t (suc c) h (Some u) = e u c (omega (arith, h))

root_same : (next other : Onward) (b : ℕ) → Agree b next other → (rules : List Sides) (t : Tree) (c : ℕ) → c ≤ b
    → at_root next rules t c ≡ at_root other rules t c
root_same next other b e rules t c h = ap (after_forming t) (applied_same next other b e t c h (rewritten_once rules t))

mutual
  pass_same : (next other : Onward) (b : ℕ) → Falls next → Agree b next other → (rules : List Sides) (t : Tree) (c : ℕ)
      → c ≤ b → pass next rules t c ≡ pass other rules t c
  pass_same next other b f e rules (var n s) c h = root_same next other b e rules (var n s) c h
  pass_same next other b f e rules (app g ts) c h =
      then_same (pass_all next rules ts c) (λ us r. at_root next rules (app g us) r)
      (λ us r. at_root other rules (app g us) r) c (all_most next f rules ts c)
      (λ us r k. root_same next other b e rules (app g us) r (omega (arith, h, k)))
      ∙ ap (λ w. then_work w (λ us r. at_root other rules (app g us) r)) (all_same next other b f e rules ts c h)

  all_same : (next other : Onward) (b : ℕ) → Falls next → Agree b next other → (rules : List Sides) (ts : Forest)
      (c : ℕ) → c ≤ b → pass_all next rules ts c ≡ pass_all other rules ts c
  all_same next other b f e rules none c h = refl
  all_same next other b f e rules (more t ts) c h =
      then_same (pass next rules t c) (λ u r. then_work (pass_all next rules ts r) (λ us q. Made (more u us) q))
      (λ u r. then_work (pass_all other rules ts r) (λ us q. Made (more u us) q)) c (pass_most next f rules t c)
      (λ u r k. ap (λ w. then_work w (λ us q. Made (more u us) q))
      (all_same next other b f e rules ts r (omega (arith, h, k))))
      ∙ ap (λ w. then_work w (λ u r. then_work (pass_all other rules ts r) (λ us q. Made (more u us) q)))
      (pass_same next other b f e rules t c h)

normal_by_falls : (n : ℕ) (rules : List Sides) → Falls (λ u c. normal_by n rules u c)
normal_by_falls zero rules u c =
    formed_most u c (pass (λ _ _. OverLimit) rules u c) (pass_most (λ _ _. OverLimit) (λ _ _. tt) rules u c)
normal_by_falls (suc n) rules u c =
    formed_most u c (pass (λ v d. normal_by n rules v d) rules u c)
    (pass_most (λ v d. normal_by n rules v d) (normal_by_falls n rules) rules u c)

-- bounds that are at least the budget give one answer
normal_by_same : (n m : ℕ) (rules : List Sides) (t : Tree) (c : ℕ) → c ≤ n → c ≤ m
    → normal_by n rules t c ≡ normal_by m rules t c
normal_by_same zero zero rules t c h k = refl
normal_by_same zero (suc m) rules t c h k =
    ap (after_forming t) (pass_same (λ _ _. OverLimit) (λ v d. normal_by m rules v d) 0 (λ _ _. tt)
    (λ u d i. absurd (omega (arith, i))) rules t c h)
normal_by_same (suc n) zero rules t c h k =
    ap (after_forming t) (pass_same (λ v d. normal_by n rules v d) (λ _ _. OverLimit) 0 (normal_by_falls n rules)
    (λ u d i. absurd (omega (arith, i))) rules t c k)
normal_by_same (suc n) (suc m) rules t c h k =
    ap (after_forming t) (pass_same (λ v d. normal_by n rules v d) (λ v d. normal_by m rules v d) c
    (normal_by_falls n rules)
    (λ u d i. normal_by_same n m rules u d (omega (arith, i, h)) (omega (arith, i, k))) rules t c (omega arith))

-- the normal form is one pass, in which an application goes on with the normal form of what it makes
pub normal_unfold : (rules : List Sides) (t : Tree) (b : ℕ)
    → normal rules t b ≡ after_forming t (pass (λ u c. normal rules u c) rules t b)
unfolding normal
normal_unfold rules t zero =
    ap (after_forming t) (pass_same (λ _ _. OverLimit) (λ u c. normal rules u c) 0 (λ _ _. tt)
    (λ u d i. absurd (omega (arith, i))) rules t 0 (omega arith))
normal_unfold rules t (suc n) =
    ap (after_forming t) (pass_same (λ u c. normal_by n rules u c) (λ u c. normal rules u c) (suc n)
    (normal_by_falls n rules)
    (λ u c i. normal_by_same n c rules u c (omega (arith, i)) (omega arith)) rules t (suc n) (omega arith))

-- no more is left than there was
pub normal_most : (rules : List Sides) (t : Tree) (b : ℕ) → LeavesAtMost b (normal rules t b)
unfolding normal
normal_most rules t b = normal_by_falls b rules t b
