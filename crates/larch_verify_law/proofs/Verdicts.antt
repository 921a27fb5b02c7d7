-- The verdict is the one that acceptance and the first bad line give.
use Rattle.std.proofs.Common.{◌≡◌, ℕ, suc, inl, inr, Bool, true, false, cond, List, [], ◌∷◌, length, Option, Some, None}
use Rattle.std.proofs.Common.{refl, sym, ◌∙◌, ap, arith}
use Rattle.std.specs.Option.{option_map_or}
use Rattle.std.proofs.lemmas.Option.{option_and_then_some}
use Rattle.larch_base.proofs.Bools.{true_or_false, and_left, and_right, and_both}
use Rattle.larch_base.proofs.Options.{some_inj}
use Rattle.larch_term.proofs.Decided.{statement_Decides}
use Rattle.larch_term.specs.Equality.{same_statement}
use Rattle.larch_term.specs.declared.statement.Statement.{Statement}
use Rattle.larch_term.specs.declared.statement.Theory.{Theory}
use Rattle.larch_certificate.specs.declared.line.Line.{Line}
use Rattle.larch_verify_meaning.specs.Acceptance.{last_statement, Accepts, no_box_open, ends_with, verdict_from}
use Rattle.larch_verify_meaning.specs.Acceptance.{verdict}
use Rattle.larch_verify_meaning.specs.Context.{innermost}
use Rattle.larch_verify_meaning.specs.Events.{PlainBox, Event, State, start}
use Rattle.larch_verify_meaning.specs.Run.{step, run, bad_from, first_bad}
use Rattle.larch_verify_law.proofs.Runs.{run_count, none_bad_runs}
use Rattle.larch_verify_law.proofs.Told.{map_or_true, statement_told}

-- how a certificate ends that is accepted
record Ends (s : Statement) (h : List Event) : Type 0 where
  closed : innermost h ≡ None
  last : last_statement h ≡ Some s

none_open : (o : Option (PlainBox × List Event)) → option_map_or (λ p. false) o true ≡ true → o ≡ None
none_open None e = refl
none_open (Some p) e = cc

end_told : (s : Statement) (h : List Event) → ends_with s h ≡ true → Ends s h
end_told s h e =
    let says = option_map_or (same_statement s) (last_statement h) false in
    record {
      closed = none_open (innermost h) (and_left (no_box_open h) says e);
      last = map_or_true (same_statement s) (last_statement h) (and_right (no_box_open h) says e)
          (λ r p q. p ∙ ap Some (sym (statement_told s r q)));
    }

end_tested : (s : Statement) (h : List Event) → Ends s h → ends_with s h ≡ true
end_tested s h e =
    and_both (no_box_open h) (option_map_or (same_statement s) (last_statement h) false)
    (ap (λ o. option_map_or (λ p. false) o true) e.closed)
    (ap (λ o. option_map_or (same_statement s) o false) e.last ∙ (statement_Decides s s).1 refl)

pub accepted_ends : (t : Theory) (s : Statement) (ls : List Line) (a : Accepts t s ls)
    → ends_with s a.state.history ≡ true
accepted_ends t s ls a = end_tested s a.state.history (record { closed = a.closed; last = a.last })

-- behind a run the verdict depends on its end alone
pub verdict_at_end : (t : Theory) (s : Statement) (st last : State) (ls : List Line) → run t st ls ≡ Some last
    → verdict_from t s st ls ≡ cond (ends_with s last.history) None (Some (suc last.count))
verdict_at_end t s st last [] e = ap (λ u. cond (ends_with s u.history) None (Some (suc u.count))) (some_inj e)
verdict_at_end t s st last (l ∷ ls) e =
    option_and_then_some (λ u. run t u ls) (step t st l) last e
    (λ u p q. ap (λ o. option_map_or (λ v. verdict_from t s v ls) o (Some (suc st.count))) p
    ∙ verdict_at_end t s u last ls q)

-- accepted is what has no number
pub accepted_verdict : (t : Theory) (s : Statement) (ls : List Line) → Accepts t s ls → verdict t s ls ≡ None
accepted_verdict t s ls a =
    verdict_at_end t s start a.state ls a.none_bad
    ∙ ap (λ b. cond b None (Some (suc a.state.count))) (accepted_ends t s ls a)

nothing_bad : (t : Theory) (s : Statement) (ls : List Line) (n : ℕ) (o : Option State)
    → ((u : State) → verdict_from t s u ls ≡ None → bad_from t u ls ≡ None)
    → option_map_or (λ u. verdict_from t s u ls) o (Some n) ≡ None
    → option_map_or (λ u. bad_from t u ls) o (Some n) ≡ None
nothing_bad t s ls n None k e = cc
nothing_bad t s ls n (Some u) k e = k u e

verdict_none_bad : (t : Theory) (s : Statement) (st : State) (ls : List Line) → verdict_from t s st ls ≡ None
    → bad_from t st ls ≡ None
verdict_none_bad t s st [] e = refl
verdict_none_bad t s st (l ∷ ls) e = nothing_bad t s ls (suc st.count) (step t st l) (λ u. verdict_none_bad t s u ls) e

chosen_none : {A : Type 0} (b : Bool) (x : A) → cond b None (Some x) ≡ None → b ≡ true
chosen_none true x e = refl
chosen_none false x e = cc

pub verdict_accepts : (t : Theory) (s : Statement) (ls : List Line) → verdict t s ls ≡ None → Accepts t s ls
verdict_accepts t s ls e =
    let r = none_bad_runs t start ls (verdict_none_bad t s start ls e) in
    let ends = end_told s r.0.history
    (chosen_none (ends_with s r.0.history) (suc r.0.count) (sym (verdict_at_end t s start r.0 ls r.1) ∙ e)) in
    record { state = r.0; none_bad = r.1; closed = ends.closed; last = ends.last }

same_number : (t : Theory) (s : Statement) (ls : List Line) (n d : ℕ) (o : Option State)
    → ((u : State) → bad_from t u ls ≡ Some n → verdict_from t s u ls ≡ Some n)
    → option_map_or (λ u. bad_from t u ls) o (Some d) ≡ Some n
    → option_map_or (λ u. verdict_from t s u ls) o (Some d) ≡ Some n
same_number t s ls n d None k e = e
same_number t s ls n d (Some u) k e = k u e

bad_verdict_from : (t : Theory) (s : Statement) (st : State) (ls : List Line) (n : ℕ) → bad_from t st ls ≡ Some n
    → verdict_from t s st ls ≡ Some n
bad_verdict_from t s st [] n e = cc
bad_verdict_from t s st (l ∷ ls) n e =
    same_number t s ls n (suc st.count) (step t st l) (λ u. bad_verdict_from t s u ls n) e

-- where a line is bad the verdict is the number of the first
pub bad_verdict : (t : Theory) (s : Statement) (ls : List Line) (n : ℕ) → first_bad t ls ≡ Some n
    → verdict t s ls ≡ Some n
bad_verdict t s ls n e = bad_verdict_from t s start ls n e

-- where none is, and the certificate isn't accepted, it is the number behind that of the last line
pub end_verdict : (t : Theory) (s : Statement) (ls : List Line) → first_bad t ls ≡ None → (Accepts t s ls → ⊥)
    → verdict t s ls ≡ Some (suc (length ls))
end_verdict t s ls e n =
    let r = none_bad_runs t start ls e in
    let counted = run_count t start r.0 ls r.1 in
    let c : r.0.count ≡ length ls = omega (arith, counted) in
    elim (true_or_false (ends_with s r.0.history)) [
      | inl p ↦ let ends = end_told s r.0.history p in
          absurd (n (record { state = r.0; none_bad = r.1; closed = ends.closed; last = ends.last }))
      | inr p ↦
          verdict_at_end t s start r.0 ls r.1 ∙ ap (λ b. cond b None (Some (suc r.0.count))) p
          ∙ ap (λ k. Some (suc k)) c
    ]

-- a certificate is accepted for one statement at most
pub one_statement : (t : Theory) (s r : Statement) (ls : List Line) → Accepts t s ls → Accepts t r ls → s ≡ r
one_statement t s r ls a b =
    let same = some_inj (sym a.none_bad ∙ b.none_bad) in
    some_inj (sym a.last ∙ ap (λ u. last_statement u.history) same ∙ b.last)
