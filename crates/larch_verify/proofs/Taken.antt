-- Lines one after the other.
use Rattle.std.proofs.Common.{◌≡◌, ℕ, suc, ◌+◌, Bool, true, false, IsTrue, if◌then◌else◌, List, [], ◌∷◌, length, Option}
use Rattle.std.proofs.Common.{Some, None, refl, sym, ◌∙◌, ap, subst, arith}
use Rattle.std.specs.Prelude.{IfSome}
use Rattle.std.specs.Option.{option_map, option_map_or}
use Rattle.larch_term.specs.declared.statement.Statement.{Statement}
use Rattle.larch_term.specs.declared.statement.Theory.{Theory}
use Rattle.larch_certificate.specs.declared.line.Line.{Line}
use Rattle.larch_verify_meaning.specs.Acceptance.{ends_with, verdict_from, verdict}
use Rattle.larch_verify_meaning.specs.Events.{Event, State, start}
use Rattle.larch_verify_meaning.specs.Run.{step, happens}
use Rattle.larch_verify_pool.specs.Pooled.{Pooled}
use Rattle.larch_verify_history.specs.Past.{history_of}
use Rattle.larch_verify_history.specs.declared.past.KeptHistory.{KeptHistory}
use Rattle.larch_verify.specs.Checking.{state_of}

-- nothing has happened yet
pub begun : (p : Pooled) (past : KeptHistory) → length past.places.items ≡ 0 → history_of p past ≡ []
    → state_of p past ≡ start
begun p past n h = λ i. record { count = n i; history = h i }

-- a good line
pub verdict_on : (t : Theory) (s : Statement) (st next : State) (line : Line) (lines : List Line) (b : Bool)
    → step t st line ≡ (if b then Some next else None) → b ≡ true
    → verdict_from t s st (line ∷ lines) ≡ verdict_from t s next lines
verdict_on t s st next line lines b e n =
    ap (λ o. option_map_or (λ u. verdict_from t s u lines) o (Some (suc st.count)))
    (e ∙ ap (λ c. if c then Some next else None) n)

-- a step is what happens, counted
pub stepped : (t : Theory) (h g : List Event) (n m : ℕ) (line : Line) (b : Bool)
    → happens t h (suc n) line ≡ (if b then Some g else None) → (IsTrue b → m ≡ n + 1)
    → step t (record { count = n; history = h }) line ≡ (if b then Some (record { count = m; history = g }) else None)
stepped t h g n m line true e c =
    ap (option_map (λ x. record { count = suc n; history = x })) e
    ∙ (let k : suc n ≡ m = omega (arith, c refl) in λ i. Some (record { count = k i; history = g }))
stepped t h g n m line false e c = ap (option_map (λ x. record { count = suc n; history = x })) e

-- the verdict where a line is bad
pub bad_verdict : (t : Theory) (s : Statement) (st : State) (lines : List Line) (o : Option ℕ) (n : ℕ)
    → IfSome o (λ m. (r : Statement) → verdict_from t r st lines ≡ Some m) → o ≡ Some n → st ≡ start
    → Some n ≡ verdict t s lines
bad_verdict t s st lines o n b e f =
    sym (subst (λ x. IfSome x (λ m. (r : Statement) → verdict_from t r st lines ≡ Some m)) e b s)
    ∙ ap (λ u. verdict_from t s u lines) f

-- the verdict at the end
pub end_verdict : (t : Theory) (s : Statement) (last : State) (b c : Bool) → b ≡ ends_with s last.history → b ≡ c
    → (if c then None else Some (suc last.count)) ≡ verdict_from t s last []
end_verdict t s last b c e n = ap (λ x. if x then None else Some (suc last.count)) (sym n ∙ e)

-- the verdict where no line is bad
pub good_verdict : (t : Theory) (s : Statement) (st last : State) (lines : List Line) (o : Option ℕ)
    → verdict_from t s st lines ≡ verdict_from t s last [] → st ≡ start → o ≡ verdict_from t s last []
    → o ≡ verdict t s lines
good_verdict t s st last lines o a f e = e ∙ sym a ∙ ap (λ u. verdict_from t s u lines) f
