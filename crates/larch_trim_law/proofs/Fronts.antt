-- The state behind the first lines of a certificate.
use Rattle.std.proofs.Common.{◌≡◌, ℕ, zero, suc, ◌+◌, ◌<◌, ◌≤◌, List, [], ◌∷◌, ◌++◌, length, take, drop, Option, Some}
use Rattle.std.proofs.Common.{None}
use Rattle.std.proofs.Common.{option_and_then, refl, sym, ◌∙◌, ap, arith}
use Rattle.std.specs.List.{slice_get}
use Rattle.std.proofs.lemmas.List.{take-append-drop, length-take}
use Rattle.larch_base.proofs.Options.{some_inj}
use Rattle.larch_term.specs.declared.statement.Theory.{Theory}
use Rattle.larch_certificate.specs.declared.line.Line.{Line}
use Rattle.larch_verify_meaning.specs.Events.{State, start}
use Rattle.larch_verify_meaning.specs.Run.{step, run}
use Rattle.larch_verify_law.proofs.Runs.{run_append, run_parts, run_count}

pub take_step : {X : Type 0} (xs : List X) (i : ℕ) (x : X) → slice_get xs i ≡ Some x
    → take (suc i) xs ≡ take i xs ++ x ∷ []
take_step [] i x e = cc
take_step (y ∷ xs) zero x e = ap (λ z. z ∷ []) (some_inj e)
take_step (y ∷ xs) (suc i) x e = ap (λ ys. y ∷ ys) (take_step xs i x e)

pub drop_step : {X : Type 0} (xs : List X) (i : ℕ) (x : X) (ys : List X) → drop i xs ≡ x ∷ ys
    → (slice_get xs i ≡ Some x) × (drop (suc i) xs ≡ ys)
drop_step [] zero x ys e = cc
drop_step [] (suc i) x ys e = cc
drop_step (z ∷ xs) zero x ys e = (cc, cc)
drop_step (z ∷ xs) (suc i) x ys e = drop_step xs i x ys e

pub got_below : {X : Type 0} (xs : List X) (i : ℕ) (x : X) → slice_get xs i ≡ Some x → i < length xs
got_below [] i x e = cc
got_below (y ∷ xs) zero x e = omega arith
got_below (y ∷ xs) (suc i) x e = let lt = got_below xs i x e in omega (arith, lt)

pub got : {X : Type 0} (xs : List X) (i : ℕ) → i < length xs → (x : X) × (slice_get xs i ≡ Some x)
got [] i lt = absurd (omega (arith, lt))
got (y ∷ xs) zero lt = (y, refl)
got (y ∷ xs) (suc i) lt = got xs i (omega (arith, lt))

all_taken : {X : Type 0} (xs : List X) → take (length xs) xs ≡ xs
all_taken [] = refl
all_taken (x ∷ xs) = ap (λ ys. x ∷ ys) (all_taken xs)

-- the state behind so many lines
abbrev pub Behind : Theory → List Line → ℕ → State → Type 0
Behind t lines i st = run t start (take i lines) ≡ Some st

pub one_step : (t : Theory) (st next : State) (l : Line) → step t st l ≡ Some next → run t st (l ∷ []) ≡ Some next
one_step t st next l e = ap (option_and_then (λ v. run t v [])) e

stepped : (t : Theory) (st next : State) (l : Line) (o : Option State) → step t st l ≡ o
    → option_and_then (λ v. run t v []) o ≡ Some next → step t st l ≡ Some next
stepped t st next l None p e = cc
stepped t st next l (Some v) p e = p ∙ e

pub behind_all : (t : Theory) (lines : List Line) (st : State) → run t start lines ≡ Some st
    → Behind t lines (length lines) st
behind_all t lines st e = ap (run t start) (all_taken lines) ∙ e

pub behind_next : (t : Theory) (lines : List Line) (i : ℕ) (st next : State) (l : Line) → Behind t lines i st
    → slice_get lines i ≡ Some l → step t st l ≡ Some next → Behind t lines (suc i) next
behind_next t lines i st next l b e s =
    ap (run t start) (take_step lines i l e) ∙ run_append t start (take i lines) (l ∷ [])
    ∙ ap (option_and_then (λ u. run t u (l ∷ []))) b ∙ one_step t st next l s

-- the line behind so many others, and the state between
pub record Before (t : Theory) (lines : List Line) (i : ℕ) (next : State) (l : Line) : Type 0 where
  pub state : State
  pub behind : Behind t lines i state
  pub steps : step t state l ≡ Some next

pub before : (t : Theory) (lines : List Line) (i : ℕ) (next : State) (l : Line) → slice_get lines i ≡ Some l
    → Behind t lines (suc i) next → Before t lines i next l
before t lines i next l e b =
    let p = run_parts t start next (take i lines) (l ∷ []) (ap (run t start) (sym (take_step lines i l e)) ∙ b) in
    record { state = p.0; behind = p.1; steps = stepped t p.0 next l (step t p.0 l) refl p.2 }

-- where all lines are good there is a state behind each
pub behind_each : (t : Theory) (lines : List Line) (last : State) → run t start lines ≡ Some last → (i : ℕ)
    → (st : State) × Behind t lines i st
behind_each t lines last e i =
    let p = run_parts t start last (take i lines) (drop i lines)
    (ap (run t start) (take-append-drop i lines) ∙ e) in
    (p.0, p.1)

pub behind_count : (t : Theory) (lines : List Line) (i : ℕ) (st : State) → Behind t lines i st → i ≤ length lines
    → st.count ≡ i
behind_count t lines i st b le =
    let c = run_count t start st (take i lines) b in
    let d = length-take i lines in
    omega (arith, c, d, le)

pub behind_once : (t : Theory) (lines : List Line) (i : ℕ) (st su : State) → Behind t lines i st → Behind t lines i su
    → st ≡ su
behind_once t lines i st su b c = some_inj (sym b ∙ c)
