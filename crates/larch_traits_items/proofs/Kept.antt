-- What steps keep, and what was taken where a chain of steps answers.
use Rattle.std.proofs.Common.{◌≡◌, Bool, true, false, cond, not, Option, Some, None, Result, Ok, Err, List, [], ◌∷◌}
use Rattle.std.proofs.Common.{◌++◌, All, Contains, find, option_map, refl, subst}
use Rattle.std.proofs.lemmas.List.Elements.{All-nil, All-cons, All-append, All-push, All-head, All-tail}
use Rattle.larch_base.specs.declared.code.Code.{Code}
use Rattle.larch_base.specs.declared.fault.Fault.{Fault}
use Rattle.larch_base.specs.declared.position.Pos.{Pos}
use Rattle.larch_base.proofs.Lists.{all_from}
use Rattle.larch_base.proofs.Members.{contains_here, contains_later}
use Rattle.larch_base.proofs.Options.{some_inj}
use Rattle.larch_sorts.specs.SortsMeaningFaults.{fault_at, unless}
use Rattle.larch_base_meaning.specs.Steps.{after, all_behind, all_taken, each, each_several, first_position, one_behind}

abbrev Same : (A E : Type 0) → Result A E → Result A E → Type 0
Same A E r q = r ≡ q

-- equal values of two answers
pub ok_inj : {A E : Type 0} {x y : A} → Same A E (Ok x) (Ok y) → x ≡ y
ok_inj e = cc

-- what answers went on from a step that did
pub after_was : {A B E : Type 0} (r : Result A E) (next : A → Result B E) (c : B) → after r next ≡ Ok c
    → (x : A) × (r ≡ Ok x) × (next x ≡ Ok c)
after_was (Ok x) next c e = (x, refl, e)
after_was (Err f) next c e = cc

pub unless_was : {A : Type 0} (o : Option Fault) (answer : Result A Fault) (c : A) → unless o answer ≡ Ok c
    → (o ≡ None) × (answer ≡ Ok c)
unless_was None answer c e = (refl, e)
unless_was (Some f) answer c e = cc

-- what each step keeps, of things with a property, all keep
pub kept : {A B E : Type 0} (take : A → B → Result B E) (Q : A → Type 0) (P : B → Type 0)
    → ((x : A) (b c : B) → Q x → take x b ≡ Ok c → P b → P c)
    → (xs : List A) (b c : B) → All Q xs → all_taken take xs b ≡ Ok c → P b → P c
kept take Q P step [] b c q e p = subst P (ok_inj e) p
kept take Q P step (x ∷ xs) b c q e p =
    let r = after_was (take x b) (all_taken take xs) c e in
    kept take Q P step xs r.0 c (All-tail Q x xs q) r.2 (step x b r.0 (All-head Q x xs q) r.1 p)

pub each_kept : {A B E : Type 0} (answer : A → Result B E) (Q : A → Type 0) (P : B → Type 0)
    → ((x : A) (y : B) → Q x → answer x ≡ Ok y → P y)
    → (xs : List A) (ys : List B) → All Q xs → each answer xs ≡ Ok ys → All P ys
each_kept answer Q P h xs ys q e =
    kept (λ x. one_behind (answer x)) Q (All P)
    (λ x b c w s p. let r = after_was (answer x) (λ y. Ok (b ++ y ∷ [])) c s in
    subst (All P) (ok_inj r.2) (All-push P b r.0 p (h x r.0 w r.1)))
    xs [] ys q e (All-nil P)

pub several_kept : {A B E : Type 0} (answer : A → Result (List B) E) (Q : A → Type 0) (P : B → Type 0)
    → ((x : A) (ys : List B) → Q x → answer x ≡ Ok ys → All P ys)
    → (xs : List A) (ys : List B) → All Q xs → each_several answer xs ≡ Ok ys → All P ys
several_kept answer Q P h xs ys q e =
    kept (λ x. all_behind (answer x)) Q (All P)
    (λ x b c w s p. let r = after_was (answer x) (λ zs. Ok (b ++ zs)) c s in
    subst (All P) (ok_inj r.2) (All-append P b r.0 p (h x r.0 w r.1)))
    xs [] ys q e (All-nil P)

-- nothing is asked of things
abbrev pub Any : {A : Type 0} → A → Type 0
Any x = Unit {0}

pub all_any : {A : Type 0} (xs : List A) → All Any xs
all_any xs = all_from Any xs (λ x c. tt)

found_here : {A : Type 0} (p : A → Bool) (x y : A) (xs : List A) (b : Bool) → p x ≡ b
    → (find p xs ≡ Some y → Contains xs y × (p y ≡ true))
    → cond b (Some x) (find p xs) ≡ Some y → Contains (x ∷ xs) y × (p y ≡ true)
found_here p x y xs true e later h = let q : x ≡ y = some_inj h in
    (subst (Contains (x ∷ xs)) q (contains_here x xs), subst (λ z. p z ≡ true) q e)
found_here p x y xs false e later h = let r = later h in (contains_later x y xs r.0, r.1)

-- what is found stands in the list, and is so
pub found_is : {A : Type 0} (p : A → Bool) (xs : List A) (y : A) → find p xs ≡ Some y → Contains xs y × (p y ≡ true)
found_is p [] y e = cc
found_is p (x ∷ xs) y e = found_here p x y xs (p x) refl (found_is p xs y) e

missed_here : {A : Type 0} (p : A → Bool) (x : A) (xs : List A) (b : Bool) → p x ≡ b
    → (find p xs ≡ None → All (λ y. p y ≡ false) xs)
    → cond b (Some x) (find p xs) ≡ None → All (λ y. p y ≡ false) (x ∷ xs)
missed_here p x xs true e later h = cc
missed_here p x xs false e later h = All-cons (λ y. p y ≡ false) x xs e (later h)

-- where nothing is found nothing is so
pub missed_is : {A : Type 0} (p : A → Bool) (xs : List A) → find p xs ≡ None → All (λ y. p y ≡ false) xs
missed_is p [] e = All-nil (λ y. p y ≡ false)
missed_is p (x ∷ xs) e = missed_here p x xs (p x) refl (missed_is p xs) e

no_fault : {A : Type 0} (code : Code) (position : A → Pos) (found : Option A)
    → fault_at code (option_map position found) ≡ None → found ≡ None
no_fault code position None e = refl
no_fault code position (Some x) e = cc

-- where no fault is told nothing is so
pub no_fault_is : {A : Type 0} (code : Code) (p : A → Bool) (position : A → Pos) (xs : List A)
    → fault_at code (first_position p position xs) ≡ None → All (λ y. p y ≡ false) xs
no_fault_is code p position xs e = missed_is p xs (no_fault code position (find p xs) e)

pub not_false : (b : Bool) → not b ≡ false → b ≡ true
not_false true e = refl
not_false false e = cc
