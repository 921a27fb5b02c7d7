-- Runs of lines: one after the other, and where they end.
use Rattle.std.proofs.Common.{◌≡◌, ℕ, suc, ◌+◌, List, [], ◌∷◌, ◌++◌, length, Option, Some, None, option_and_then, refl}
use Rattle.std.proofs.Common.{sym, ◌∙◌, ap, subst, arith}
use Rattle.std.specs.Option.{option_map_or}
use Rattle.std.proofs.lemmas.Option.{option_and_then_some}
use Rattle.larch_base.proofs.Options.{some_inj}
use Rattle.larch_term.specs.declared.statement.Theory.{Theory}
use Rattle.larch_certificate.specs.declared.line.Line.{Line}
use Rattle.larch_verify_meaning.specs.Events.{State}
use Rattle.larch_verify_meaning.specs.Run.{happens, step, run, bad_from}
use Rattle.larch_verify_law.specs.FirstBad.{IsFirstBad}
use Rattle.larch_verify_law.proofs.Told.{option_map_some}

run_both : (t : Theory) (ls ms : List Line) (o : Option State)
    → ((u : State) → run t u (ls ++ ms) ≡ option_and_then (λ v. run t v ms) (run t u ls))
    → option_and_then (λ u. run t u (ls ++ ms)) o
    ≡ option_and_then (λ v. run t v ms) (option_and_then (λ u. run t u ls) o)
run_both t ls ms None k = refl
run_both t ls ms (Some u) k = k u

-- lines behind others begin where those end
pub run_append : (t : Theory) (st : State) (ls ms : List Line)
    → run t st (ls ++ ms) ≡ option_and_then (λ u. run t u ms) (run t st ls)
run_append t st [] ms = refl
run_append t st (l ∷ ls) ms = run_both t ls ms (step t st l) (λ u. run_append t u ls ms)

-- what begins a run is a run, and so is the rest from where that ends
pub run_parts : (t : Theory) (st last : State) (ls ms : List Line) → run t st (ls ++ ms) ≡ Some last
    → (u : State) × (run t st ls ≡ Some u) × (run t u ms ≡ Some last)
run_parts t st last ls ms e =
    option_and_then_some (λ u. run t u ms) (run t st ls) last (sym (run_append t st ls ms) ∙ e) (λ u p q. (u, p, q))

step_count : (t : Theory) (st next : State) (l : Line) → step t st l ≡ Some next → next.count ≡ suc st.count
step_count t st next l e =
    option_map_some (λ h. record { count = suc st.count; history = h }) (happens t st.history (suc st.count) l) next e
    (λ h p q. sym (ap (λ u. u.count) q))

-- the count is that of the lines
pub run_count : (t : Theory) (st last : State) (ls : List Line) → run t st ls ≡ Some last
    → last.count ≡ st.count + length ls
run_count t st last [] e = let p = ap (λ u. u.count) (some_inj e) in omega (arith, p)
run_count t st last (l ∷ ls) e =
    option_and_then_some (λ u. run t u ls) (step t st l) last e
    (λ u p q. let a = step_count t st u l p in let b = run_count t u last ls q in omega (arith, a, b))

bad_later : (t : Theory) (st u : State) (l : Line) (ls : List Line) (n : ℕ) → step t st l ≡ Some u
    → IsFirstBad t u ls n → IsFirstBad t st (l ∷ ls) n
bad_later t st u l ls n e b =
    let c = step_count t st u l e in
    let k = b.number in
    record {
      front = l ∷ b.front;
      line = b.line;
      rest = b.rest;
      before = b.before;
      parts = ap (λ xs. l ∷ xs) b.parts;
      good = ap (option_and_then (λ v. run t v b.front)) e ∙ b.good;
      bad = b.bad;
      number = omega (arith, c, k);
    }

bad_here : (t : Theory) (st : State) (l : Line) (ls : List Line) → step t st l ≡ None
    → IsFirstBad t st (l ∷ ls) (suc st.count)
bad_here t st l ls e =
    record { front = []; line = l; rest = ls; before = st; parts = refl; good = refl; bad = e; number = omega arith }

first_or_later : (t : Theory) (st : State) (l : Line) (ls : List Line) (n : ℕ) (o : Option State) → step t st l ≡ o
    → ((u : State) → bad_from t u ls ≡ Some n → IsFirstBad t u ls n)
    → option_map_or (λ u. bad_from t u ls) o (Some (suc st.count)) ≡ Some n → IsFirstBad t st (l ∷ ls) n
first_or_later t st l ls n None p k e = subst (IsFirstBad t st (l ∷ ls)) (some_inj e) (bad_here t st l ls p)
first_or_later t st l ls n (Some u) p k e = bad_later t st u l ls n p (k u e)

-- the first bad line stands behind lines of which none is bad
pub first_bad_is : (t : Theory) (st : State) (ls : List Line) (n : ℕ) → bad_from t st ls ≡ Some n → IsFirstBad t st ls n
first_bad_is t st [] n e = cc
first_bad_is t st (l ∷ ls) n e = first_or_later t st l ls n (step t st l) refl (λ u. first_bad_is t u ls n) e

runs_or_bad : (t : Theory) (ls : List Line) (n : ℕ) (o : Option State)
    → ((u : State) → bad_from t u ls ≡ None → (v : State) × (run t u ls ≡ Some v))
    → option_map_or (λ u. bad_from t u ls) o (Some n) ≡ None
    → (v : State) × (option_and_then (λ u. run t u ls) o ≡ Some v)
runs_or_bad t ls n None k e = cc
runs_or_bad t ls n (Some u) k e = k u e

-- where no line is bad there is a run, and the other way round
pub none_bad_runs : (t : Theory) (st : State) (ls : List Line) → bad_from t st ls ≡ None
    → (u : State) × (run t st ls ≡ Some u)
none_bad_runs t st [] e = (st, refl)
none_bad_runs t st (l ∷ ls) e = runs_or_bad t ls (suc st.count) (step t st l) (λ u. none_bad_runs t u ls) e

pub runs_none_bad : (t : Theory) (st u : State) (ls : List Line) → run t st ls ≡ Some u → bad_from t st ls ≡ None
runs_none_bad t st u [] e = refl
runs_none_bad t st u (l ∷ ls) e =
    option_and_then_some (λ v. run t v ls) (step t st l) u e
    (λ v p q. ap (λ o. option_map_or (λ w. bad_from t w ls) o (Some (suc st.count))) p ∙ runs_none_bad t v u ls q)
