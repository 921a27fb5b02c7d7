-- The first of some statements that doesn't hold, and what holds where there is none.
use Rattle.std.proofs.Common.{◌≡◌, ◌↔◌, ◌+◌, ℕ, suc, inl, inr, Bool, true, false, cond, List, [], ◌∷◌, ◌++◌, length}
use Rattle.std.proofs.Common.{Option, Some, None, refl, sym, ◌∙◌, ap, subst, arith}
use Rattle.std.specs.List.{list_all}
use Rattle.larch_base.proofs.Bools.{true_or_false, and_left, and_right, and_both}
use Rattle.larch_base.proofs.Options.{some_inj}
use Rattle.larch_term.specs.declared.statement.Statement.{Statement}
use Rattle.larch_models_meaning.specs.Computed.{holds}
use Rattle.larch_models_meaning.specs.FiniteModel.{FailsFirst, first_failing, first_failing_from}
use Rattle.larch_models_meaning.specs.Interpretation.{Interpretation}

some_is_not_none : (n : ℕ) → Some n ≡ None → ⊥
some_is_not_none n h = cc

none_is_not_some : (k : ℕ) → None ≡ Some k → ⊥
none_is_not_some k h = cc

none_fails : (n : ℕ) (m : Interpretation) (ss : List Statement) → first_failing_from n m ss ≡ None
    → list_all (holds m) ss ≡ true
none_fails n m [] h = refl
none_fails n m (s ∷ ss) h =
    elim (true_or_false (holds m s)) [
      | inl e ↦ and_both (holds m s) (list_all (holds m) ss) e
          (none_fails (suc n) m ss (subst (λ b. cond b (first_failing_from (suc n) m ss) (Some n) ≡ None) e h))
      | inr e ↦ absurd (some_is_not_none n
          (subst (λ b. cond b (first_failing_from (suc n) m ss) (Some n) ≡ None) e h))
    ]

all_pass : (n : ℕ) (m : Interpretation) (ss : List Statement) → list_all (holds m) ss ≡ true
    → first_failing_from n m ss ≡ None
all_pass n m [] h = refl
all_pass n m (s ∷ ss) h =
    subst (λ b. cond b (first_failing_from (suc n) m ss) (Some n) ≡ None)
    (sym (and_left (holds m s) (list_all (holds m) ss) h))
    (all_pass (suc n) m ss (and_right (holds m s) (list_all (holds m) ss) h))

pub none_fails_where_all_hold : (m : Interpretation) (ss : List Statement)
    → (first_failing m ss ≡ None ↔ list_all (holds m) ss ≡ true)
none_fails_where_all_hold m ss = (none_fails 1 m ss, all_pass 1 m ss)

-- the statement with number k, counted from n, is the first that fails
record FailsFrom (n : ℕ) (m : Interpretation) (ss : List Statement) (k : ℕ) : Type 0 where
  pub before : List Statement
  pub failing : Statement
  pub behind : List Statement
  pub list : ss ≡ before ++ failing ∷ behind
  pub number : k ≡ n + length before
  pub hold : list_all (holds m) before ≡ true
  pub fails : holds m failing ≡ false

further : (n : ℕ) (us : List Statement) → suc n + length us ≡ n + suc (length us)
further n us = omega arith

nothing_before : (n : ℕ) → n ≡ n + 0
nothing_before n = omega arith

one_fails : (n : ℕ) (m : Interpretation) (ss : List Statement) (k : ℕ) → first_failing_from n m ss ≡ Some k
    → FailsFrom n m ss k
one_fails n m [] k h = absurd (none_is_not_some k h)
one_fails n m (s ∷ ss) k h =
    elim (true_or_false (holds m s)) [
      | inl e ↦
          let f = one_fails (suc n) m ss k
          (subst (λ b. cond b (first_failing_from (suc n) m ss) (Some n) ≡ Some k) e h) in
          record {
            before = s ∷ f.before;
            failing = f.failing;
            behind = f.behind;
            list = ap (λ us. s ∷ us) f.list;
            number = f.number ∙ further n f.before;
            hold = and_both (holds m s) (list_all (holds m) f.before) e f.hold;
            fails = f.fails;
          }
      | inr e ↦ record {
        before = [];
        failing = s;
        behind = ss;
        list = refl;
        number = sym (some_inj (subst (λ b. cond b (first_failing_from (suc n) m ss) (Some n) ≡ Some k) e h))
            ∙ nothing_before n;
        hold = refl;
        fails = e;
      }
    ]

one_more : (us : List Statement) → 1 + length us ≡ suc (length us)
one_more us = omega arith

pub first_one_fails : (m : Interpretation) (ss : List Statement) (k : ℕ) → first_failing m ss ≡ Some k
    → FailsFirst m ss k
first_one_fails m ss k h =
    let f = one_fails 1 m ss k h in
    record {
      before = f.before;
      failing = f.failing;
      behind = f.behind;
      list = f.list;
      number = f.number ∙ one_more f.before;
      hold = f.hold;
      fails = f.fails;
    }
