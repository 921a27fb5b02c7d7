-- The cost of a normal form is the same under every budget.
use Rattle.std.specs.Prelude.{◌≡◌, ◌<◌, ◌≤◌, ◌+◌, ◌-◌, ◌⊎◌, ℕ, zero, suc, Bool, true, false, List, Option, Some, None}
use Rattle.std.specs.Prelude.{refl}
use Rattle.std.proofs.Common.{inl, inr, arith, ap, ap₂, sym, subst, ◌∙◌}
use Rattle.larch_term.specs.Tree.{Tree, Forest, var, app, none, more}
use Rattle.larch_rewrite_meaning.specs.Work.{Work, Made, OverLimit, OverSize, then_work, within_size, after_forming}
use Rattle.larch_rewrite_meaning.specs.Work.{is_large}
use Rattle.larch_rewrite_meaning.specs.Sides.{Sides}
use Rattle.larch_rewrite_meaning.specs.Rewriting.{rewritten_once}
use Rattle.larch_rewrite_meaning.specs.NormalForm.{Onward, spent, applied_or, at_root, pass, pass_all, normal}
use Rattle.larch_rewrite_meaning.proofs.NormalForms.{normal_unfold}
use Rattle.larch_rewrite_law.specs.Costs.{Charges, HasCost}

-- what work under a budget makes has a cost, which the budget had more than is left of it
record Costs {A : Type 0} (work : ℕ → Work A) (b : ℕ) (x : A) (r : ℕ) : Type 0 where
  cost : ℕ
  had : b ≡ cost + r
  charges : Charges cost x work

abbrev SteadyAt : {A : Type 0} → (ℕ → Work A) → ℕ → Type 0
SteadyAt {A} work b = (x : A) (r : ℕ) → work b ≡ Made x r → Costs work b x r

abbrev Steady : {A : Type 0} → ℕ → (ℕ → Work A) → Type 0
Steady b work = (c : ℕ) → c ≤ b → SteadyAt work c

made_left : {A : Type 0} {x y : A} {b c : ℕ} → Made x b ≡ Made y c → x ≡ y
made_left e = cc

made_rest : {A : Type 0} {x y : A} {b c : ℕ} → Made x b ≡ Made y c → b ≡ c
made_rest e = cc

-- ---- work behind work

split : (c k : ℕ) → (c < k) ⊎ (k ≤ c)
split c zero = inr (omega arith)
split zero (suc k) = inl (omega arith)
split (suc c) (suc k) = elim (split c k) [ inl h ↦ inl (omega (arith, h)) | inr h ↦ inr (omega (arith, h)) ]

behind_less : {A B : Type 0} (g : ℕ → Work A) (h : A → ℕ → Work B) (x : A) (y : B) (k l c : ℕ) → Charges k x g
    → Charges l y (h x) → c < k + l → (c < k) ⊎ (k ≤ c) → then_work (g c) h ≡ OverLimit
behind_less g h x y k l c p q lt (inl m) = ap (λ w. then_work w h) (p.less c m)
behind_less g h x y k l c p q lt (inr m) =
    ap (λ w. then_work w h) (subst (λ n. g n ≡ Made x (c - k)) (whole k c m) (p.enough (c - k)))
    ∙ q.less (c - k) (omega (arith, lt, m))
  where
    whole : (k c : ℕ) → k ≤ c → k + (c - k) ≡ c
    whole k c m = omega (arith, m)

behind_charges : {A B : Type 0} (g : ℕ → Work A) (h : A → ℕ → Work B) (x : A) (y : B) (k l : ℕ) → Charges k x g
    → Charges l y (h x) → Charges (k + l) y (λ c. then_work (g c) h)
behind_charges g h x y k l p q = record {
  enough = λ c. ap (λ n. then_work (g n) h) (bracketed k l c)
      ∙ (ap (λ w. then_work w h) (p.enough (l + c)) ∙ q.enough c);
  less = λ c lt. behind_less g h x y k l c p q lt (split c k);
}
  where
    bracketed : (k l c : ℕ) → k + l + c ≡ k + (l + c)
    bracketed k l c = omega arith

behind_at : {A B : Type 0} (g : ℕ → Work A) (h : A → ℕ → Work B) (b c : ℕ) → c ≤ b → Steady b g
    → ((x : A) → Steady b (h x)) → (w : Work A) → g c ≡ w → (y : B) (q : ℕ) → then_work w h ≡ Made y q
    → Costs (λ n. then_work (g n) h) c y q
behind_at g h b c le s t (Made x r) e y q f =
    let one = s c le x r e in
    let two = t x r (omega (arith, le, one.had)) y q f in
    record {
      cost = one.cost + two.cost;
      had = omega (arith, one.had, two.had);
      charges = behind_charges g h x y one.cost two.cost one.charges two.charges;
    }
behind_at g h b c le s t OverLimit e y q f = cc
behind_at g h b c le s t OverSize e y q f = cc

behind_steady : {A B : Type 0} (g : ℕ → Work A) (h : A → ℕ → Work B) (b : ℕ) → Steady b g
    → ((x : A) → Steady b (h x)) → Steady b (λ c. then_work (g c) h)
behind_steady g h b s t c le y q f = behind_at g h b c le s t (g c) refl y q f

-- ---- work that makes at once

nought_more : (n : ℕ) → 0 + n ≡ n
nought_more n = omega arith

no_cost : (c r : ℕ) → c ≡ r → c ≡ 0 + r
no_cost c r e = omega (arith, e)

at_once : {A : Type 0} (x : A) (b : ℕ) → Steady b (λ c. Made x c)
at_once x b c le y r e = record {
  cost = 0;
  had = no_cost c r (made_rest e);
  charges = record {
    enough = λ n. ap₂ Made (made_left e) (nought_more n);
    less = λ n lt. absurd (omega (arith, lt));
  };
}

-- ---- one application

-- how work goes on has costs below a budget
abbrev NextSteady : ℕ → Onward → Type 0
NextSteady b next = (u : Tree) (c : ℕ) → c < b → SteadyAt (λ n. next u n) c

spent_less : (next : Onward) (u x : Tree) (k c : ℕ) → Charges k x (λ n. next u n) → c < suc k
    → spent next u c ≡ OverLimit
spent_less next u x k zero p lt = refl
spent_less next u x k (suc c) p lt = p.less c (omega (arith, lt))

spent_enough : (next : Onward) (u x : Tree) (k n : ℕ) → next u (k + n) ≡ Made x n → spent next u (suc k + n) ≡ Made x n
spent_enough next u x k n h = subst (λ m. spent next u m ≡ Made x n) (moved k n) h
  where
    moved : (k n : ℕ) → suc (k + n) ≡ suc k + n
    moved k n = omega arith

spent_at : (next : Onward) (u : Tree) (b c : ℕ) → c ≤ b → NextSteady b next → SteadyAt (λ n. spent next u n) c
spent_at next u b zero le s x r e = cc
spent_at next u b (suc c) le s x r e =
    let one = s u c (omega (arith, le)) x r e in record {
      cost = suc one.cost;
      had = omega (arith, one.had);
      charges = record {
        enough = λ n. spent_enough next u x one.cost n (one.charges.enough n);
        less = λ n lt. spent_less next u x one.cost n one.charges lt;
      };
    }

applied_steady : (next : Onward) (t : Tree) (b : ℕ) → NextSteady b next → (o : Option Tree)
    → Steady b (λ c. applied_or next t c o)
applied_steady next t b s None = at_once t b
applied_steady next t b s (Some u) = λ c le. spent_at next u b c le s

within_steady : {A : Type 0} (large : Bool) (b : ℕ) (work : ℕ → Work A) → Steady b work
    → Steady b (λ c. within_size large (work c))
within_steady true b work s c le x r e = cc
within_steady false b work s c le x r e = s c le x r e

root_steady : (next : Onward) (rules : List Sides) (t : Tree) (b : ℕ) → NextSteady b next
    → Steady b (λ c. at_root next rules t c)
root_steady next rules t b s =
    within_steady (is_large t) b (λ c. applied_or next t c (rewritten_once rules t))
    (applied_steady next t b s (rewritten_once rules t))

-- ---- a pass

mutual
  pass_steady : (next : Onward) (rules : List Sides) (t : Tree) (b : ℕ) → NextSteady b next
      → Steady b (λ c. pass next rules t c)
  pass_steady next rules (var n z) b s = root_steady next rules (var n z) b s
  pass_steady next rules (app f ts) b s =
      behind_steady (λ c. pass_all next rules ts c) (λ us r. at_root next rules (app f us) r) b
      (all_steady next rules ts b s) (λ us. root_steady next rules (app f us) b s)

  all_steady : (next : Onward) (rules : List Sides) (ts : Forest) (b : ℕ) → NextSteady b next
      → Steady b (λ c. pass_all next rules ts c)
  all_steady next rules none b s = at_once none b
  all_steady next rules (more t ts) b s =
      behind_steady (λ c. pass next rules t c)
      (λ u r. then_work (pass_all next rules ts r) (λ us q. Made (more u us) q)) b
      (pass_steady next rules t b s)
      (λ u. behind_steady (λ r. pass_all next rules ts r) (λ us q. Made (more u us) q) b (all_steady next rules ts b s)
      (λ us. at_once (more u us) b))

-- ---- normal forms

costs_same : {A : Type 0} (f g : ℕ → Work A) (b : ℕ) (x : A) (r : ℕ) → ((c : ℕ) → f c ≡ g c) → Costs f b x r
    → Costs g b x r
costs_same f g b x r e h = record {
  cost = h.cost;
  had = h.had;
  charges = record {
    enough = λ c. sym (e (h.cost + c)) ∙ h.charges.enough c;
    less = λ c lt. sym (e c) ∙ h.charges.less c lt;
  };
}

steady_same : {A : Type 0} (f g : ℕ → Work A) (b : ℕ) → ((c : ℕ) → f c ≡ g c) → Steady b f → Steady b g
steady_same f g b e s c le x r h = costs_same f g c x r e (s c le x r (e c ∙ h))

normal_steady : (rules : List Sides) (b : ℕ) (t : Tree) → Steady b (λ c. normal rules t c)
normal_steady rules zero t =
    steady_same (λ c. after_forming t (pass (λ u n. normal rules u n) rules t c)) (λ c. normal rules t c) zero
    (λ c. sym (normal_unfold rules t c))
    (within_steady (is_large t) zero (λ c. pass (λ u n. normal rules u n) rules t c)
    (pass_steady (λ u n. normal rules u n) rules t zero (λ u c lt. absurd (omega (arith, lt)))))
normal_steady rules (suc b) t =
    steady_same (λ c. after_forming t (pass (λ u n. normal rules u n) rules t c)) (λ c. normal rules t c) (suc b)
    (λ c. sym (normal_unfold rules t c))
    (within_steady (is_large t) (suc b) (λ c. pass (λ u n. normal rules u n) rules t c)
    (pass_steady (λ u n. normal rules u n) rules t (suc b)
    (λ u c lt. normal_steady rules b u c (omega (arith, lt)))))

pub made_costs : (rules : List Sides) (t u : Tree) (b r : ℕ) → normal rules t b ≡ Made u r
    → (r ≤ b) × HasCost rules t u (b - r)
unfolding HasCost
made_costs rules t u b r h =
    let k = normal_steady rules b t b (omega arith) u r h in (
      omega (arith, k.had),
      subst (λ n. Charges n u (λ c. normal rules t c)) (is_rest b k.cost r k.had) k.charges,
    )
  where
    is_rest : (b k r : ℕ) → b ≡ k + r → k ≡ b - r
    is_rest b k r e = omega (arith, e)

pub cost_made : (rules : List Sides) (t u : Tree) (k b : ℕ) → HasCost rules t u k → k ≤ b
    → normal rules t b ≡ Made u (b - k)
unfolding HasCost
cost_made rules t u k b h e = subst (λ n. normal rules t n ≡ Made u (b - k)) (whole k b e) (h.enough (b - k))
  where
    whole : (k b : ℕ) → k ≤ b → k + (b - k) ≡ b
    whole k b e = omega (arith, e)

pub cost_used_up : (rules : List Sides) (t u : Tree) (k b : ℕ) → HasCost rules t u k → b < k
    → normal rules t b ≡ OverLimit
unfolding HasCost
cost_used_up rules t u k b h e = h.less b e
