-- States of blocks: the last one, cut, and gone on from.
use Rattle.std.proofs.Common.{◌≡◌, refl, sym, ap, subst, ◌∙◌, ℕ, zero, suc, Bool, true, false, if◌then◌else◌, List, []}
use Rattle.std.proofs.Common.{◌∷◌, ◌++◌, ◌-◌, arith, get_or, length, map, min, take, Some, None, Result}
use Rattle.std.proofs.Common.{Ok, Err}
use Rattle.std.specs.List.{slice_get}
use Rattle.std.proofs.lemmas.Option.{slice_get-get_or}
use Rattle.larch_prove.specs.State.{IsGoing, IsStateOf, told_outcome}
use Rattle.larch_prove.specs.declared.outcome.Outcome.{Outcome}
use Rattle.larch_prove.specs.declared.state.ProofState.{ProofState}
use Rattle.larch_prove_meaning.specs.Levels.{Proof}
use Rattle.larch_prove_meaning.specs.Replays as defined
use Rattle.larch_prove_meaning.specs.Replays.{Refusal, outcome_of, step_command}
use Rattle.larch_script_commands.specs.declared.command.CommandKind.{CommandKind}
use Rattle.larch_session_trail.specs.Trail.{AreStates, IsTrailOf, behind, is_refusal, is_refused, later_in}
use Rattle.larch_session_trail.specs.Trail.{then_command}
use Rattle.larch_session_trail.specs.declared.trail.Trail.{Trail}
use Rattle.larch_term.specs.Tree.{Tree}
use Rattle.larch_term.specs.declared.statement.Statement.{Statement}

abbrev Answer : Type 0
Answer = Result Proof Refusal

-- ---- what commands lead to

pub none_behind : (answer : Answer) → behind answer [] ≡ answer
none_behind (Ok p) = refl
none_behind (Err r) = refl

pub stopped : (answer : Answer) (cs : List CommandKind) → is_refused answer ≡ true → behind answer cs ≡ answer
stopped (Ok p) cs e = absurd (cc)
stopped (Err r) cs e = refl

pub more_behind : (answer : Answer) (c : CommandKind) (cs : List CommandKind)
    → behind (then_command answer c) cs ≡ behind answer (c ∷ cs)
more_behind (Ok p) c cs = refl
more_behind (Err r) c cs = refl

-- ---- the last state

abbrev pub last_of : ProofState → List ProofState → ProofState
last_of x [] = x
last_of x (y ∷ ys) = last_of y ys

pub first_is : (s : Statement) (answer : Answer) (cs : List CommandKind) (x : ProofState) (ys : List ProofState)
    → AreStates s answer cs x ys → IsStateOf s x answer
first_is s answer [] x ys h = h.0
first_is s answer (c ∷ cs) x [] h = h.0
first_is s answer (c ∷ cs) x (y ∷ ys) h = h.0

pub last_is : (s : Statement) (answer : Answer) (cs : List CommandKind) (x : ProofState) (ys : List ProofState)
    → AreStates s answer cs x ys → IsStateOf s (last_of x ys) (behind answer cs)
last_is s answer [] x [] h = subst (IsStateOf s x) (sym (none_behind answer)) h.0
last_is s answer [] x (y ∷ ys) h = let e = h.1 in absurd (cc)
last_is s answer (c ∷ cs) x [] h = subst (IsStateOf s x) (sym (stopped answer (c ∷ cs) h.1)) h.0
last_is s answer (c ∷ cs) x (y ∷ ys) h =
    subst (IsStateOf s (last_of y ys)) (more_behind answer c cs) (last_is s (then_command answer c) cs y ys h.1)

-- ---- a front

pub front_is : (n : ℕ) (s : Statement) (answer : Answer) (cs : List CommandKind) (x : ProofState) (ys : List ProofState)
    → AreStates s answer cs x ys → AreStates s answer (take n cs) x (take n ys)
front_is zero s answer cs x ys h = (first_is s answer cs x ys h, refl)
front_is (suc n) s answer [] x [] h = h
front_is (suc n) s answer [] x (y ∷ ys) h = let e = h.1 in absurd (cc)
front_is (suc n) s answer (c ∷ cs) x [] h = h
front_is (suc n) s answer (c ∷ cs) x (y ∷ ys) h = (h.0, front_is n s (then_command answer c) cs y ys h.1)

-- the same of a trail, whose states are shared
pub cut : (n : ℕ) (s : Statement) (answer : Answer) (cs : List CommandKind) (whole front : Trail)
    → front.first.value ≡ whole.first.value → later_in front ≡ take n (later_in whole)
    → IsTrailOf s answer cs whole → IsTrailOf s answer (take n cs) front
cut n s answer cs whole front e f h =
    subst (λ x. AreStates s answer (take n cs) x (later_in front)) (sym e)
    (subst (AreStates s answer (take n cs) whole.first.value) (sym f)
    (front_is n s answer cs whole.first.value (later_in whole) h))

-- ---- lists of states

-- up to a number, and no further than there are things
pub take_least : {A : Type 0} (xs : List A) (n m : ℕ) → m ≡ min (length xs) n → take m xs ≡ take n xs
take_least [] zero zero e = refl
take_least [] zero (suc m) e = refl
take_least [] (suc n) zero e = refl
take_least [] (suc n) (suc m) e = refl
take_least (x ∷ xs) zero m e = let z : m ≡ 0 = omega (arith, e) in ap (λ k. take k (x ∷ xs)) z
take_least (x ∷ xs) (suc n) m e =
    let p : m ≡ suc (min (length xs) n) = omega (arith, e) in
    ap (λ k. take k (x ∷ xs)) p ∙ ap (λ ys. x ∷ ys) (take_least xs n (min (length xs) n) refl)

less_one : (n : ℕ) → suc n - 1 ≡ n
less_one n = omega arith

some_same : {A : Type 0} (x y : A) → Some x ≡ Some y → x ≡ y
some_same x y e = cc

-- the last one, where there are some
pub last_got : {A : Type 0} (f : A → ProofState) (x : ProofState) (ys : List A) (y : A)
    → Some y ≡ slice_get ys (length ys - 1) → f y ≡ last_of x (map f ys)
last_got f x [] y e = absurd (cc)
last_got f x (z ∷ []) y e =
    ap f (some_same y z (e ∙ ap (slice_get (z ∷ [])) (less_one 0)))
last_got f x (z ∷ w ∷ ys) y e =
    last_got f (f z) (w ∷ ys) y
    (e ∙ ap (slice_get (z ∷ w ∷ ys)) (less_one (suc (length ys)))
    ∙ sym (ap (slice_get (w ∷ ys)) (less_one (length ys))))

-- and where there are none
pub last_missed : {A : Type 0} (f : A → ProofState) (x : ProofState) (ys : List A)
    → None ≡ slice_get ys (length ys - 1) → x ≡ last_of x (map f ys)
last_missed f x [] e = refl
last_missed f x (z ∷ zs) e =
    let k : None ≡ Some (get_or (z ∷ zs) (length (z ∷ zs) - 1) z) =
    e ∙ slice_get-get_or (z ∷ zs) (length (z ∷ zs) - 1) z (omega arith) in
    absurd (cc)

-- ---- a command more

pub stays : (s : Statement) (answer : Answer) (cs : List CommandKind) (x : ProofState) (ys : List ProofState)
    (c : CommandKind) → is_refused (behind answer cs) ≡ true → AreStates s answer cs x ys
    → AreStates s answer (cs ++ c ∷ []) x ys
stays s answer [] x [] c e h = (h.0, sym (ap is_refused (none_behind answer)) ∙ e)
stays s answer [] x (y ∷ ys) c e h = let k = h.1 in absurd (cc)
stays s answer (d ∷ ds) x [] c e h = h
stays s answer (d ∷ ds) x (y ∷ ys) c e h =
    (h.0, stays s (then_command answer d) ds y ys c (ap is_refused (more_behind answer d ds) ∙ e) h.1)

pub pushed : (s : Statement) (answer : Answer) (cs : List CommandKind) (x : ProofState) (ys : List ProofState)
    (c : CommandKind) (z : ProofState) → is_refused (behind answer cs) ≡ false
    → IsStateOf s z (then_command (behind answer cs) c) → AreStates s answer cs x ys
    → AreStates s answer (cs ++ c ∷ []) x (ys ++ z ∷ [])
pushed s answer [] x [] c z e k h =
    (h.0, (subst (λ (a : Answer). IsStateOf s z (then_command a c)) (none_behind answer) k, refl))
pushed s answer [] x (y ∷ ys) c z e k h = let i = h.1 in absurd (cc)
pushed s answer (d ∷ ds) x [] c z e k h =
    let i : true ≡ false = sym (ap is_refused (stopped answer (d ∷ ds) h.1) ∙ h.1) ∙ e in absurd (cc)
pushed s answer (d ∷ ds) x (y ∷ ys) c z e k h = (
  h.0,
  pushed s (then_command answer d) ds y ys c z (ap is_refused (more_behind answer d ds) ∙ e)
      (subst (λ (a : Answer). IsStateOf s z (then_command a c)) (sym (more_behind answer d ds)) k) h.1,
)

-- ---- refused or not

refused_told : (b : Bool) (n : ℕ) (goal : Tree)
    → is_refusal (if b then defined.Proved else defined.Suspended n goal) ≡ false
refused_told true n goal = refl
refused_told false n goal = refl

told_refused : (answer : Answer) → is_refusal (outcome_of answer) ≡ is_refused answer
told_refused (Ok p) = refused_told p.is_proved _ p.current.goal
told_refused (Err r) = refl

-- whether an outcome is a refusal tells whether the state is refused
pub refused_so : (state : ProofState) (outcome : Outcome) (b : Bool) → b ≡ is_refusal (told_outcome outcome)
    → ((s : Statement) (answer : Answer) → IsStateOf s state answer → told_outcome outcome ≡ outcome_of answer)
    → (s : Statement) (answer : Answer) → IsStateOf s state answer → b ≡ is_refused answer
refused_so state outcome b e f s answer h = e ∙ ap is_refusal (f s answer h) ∙ told_refused answer

-- a state that isn't refused goes on
pub going : (s : Statement) (now : ProofState) (answer : Answer) → is_refused answer ≡ false → IsStateOf s now answer
    → IsGoing now
going s now (Ok p) e h = (s, (p, h))
going s now (Err r) e h = absurd (cc)

-- the state behind a command, whatever the state before it is of
pub stepped : (s : Statement) (now next : ProofState) (c : CommandKind) (answer : Answer) → is_refused answer ≡ false
    → ((p : Proof) → IsStateOf s now (Ok p) → IsStateOf s next (step_command c p)) → IsStateOf s now answer
    → IsStateOf s next (then_command answer c)
stepped s now next c (Ok p) e f h = f p h
stepped s now next c (Err r) e f h = absurd (cc)
