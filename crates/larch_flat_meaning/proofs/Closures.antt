-- A closure is exactly what is reached, of the names of which there are files.
use Rattle.std.proofs.Common.{◌≡◌, refl, ℕ, zero, suc, ◌≤◌, Bool, true, false, cond, ◌||◌, ◌==◌, length, ap, sym, subst}
use Rattle.std.proofs.Common.{arith, inl, inr}
use Rattle.std.proofs.Common.{Option, Some, None, List, [], ◌∷◌, Contains, Result, Ok}
use Rattle.std.specs.Prelude.{bytes_eq, is_some, fold}
use Rattle.std.specs.Bool.{Decides}
use Rattle.std.specs.List.{list_any, flat_map}
use Rattle.std.proofs.lemmas.Bool.Decides.{Decides-eqb}
use Rattle.std.proofs.lemmas.Slice.Eq.{bytes_eq-Decides}
use Rattle.larch_base.specs.declared.fault.Fault.{Fault}
use Rattle.larch_base.proofs.Members.{contained_in_filter, contains_cases, contains_filter, contains_flat_map}
use Rattle.larch_base.proofs.Members.{contains_here, contains_later, contains_none}
use Rattle.larch_raw.specs.declared.equation.RawTrait.{RawTrait}
use Rattle.larch_shorthand.proofs.TraitsItemsKept.{ok_inj}
use Rattle.larch_flat_meaning.specs.Files.{Files, Reaches, closure, here, is_there, next_files, spread, targets_in}
use Rattle.larch_flat_meaning.specs.Files.{there, with_name}
use Rattle.larch_flat_meaning.specs.Stops.{Stop}
use Rattle.larch_flat_meaning.proofs.Agreement.{every_fold}
use Rattle.larch_flat_meaning.proofs.Every.{Every, every_contained, every_flat_map}

abbrev pub Names : Type 0
Names = List (List ℕ)

then_reaches : (files : Files) (a b c : List ℕ) → Reaches files a b → Contains (targets_in (files b)) c
    → Reaches files a c
then_reaches files a b c here t = there t here
then_reaches files a b c (there {b = m} s r) t = there s (then_reaches files m b c r t)

next_reached : (files : Files) (a m : List ℕ) → Reaches files a m → Every (Reaches files a) (next_files files m)
next_reached files a m r =
    every_contained (Reaches files a) (next_files files m)
    (λ c t. then_reaches files a m c r (contained_in_filter (is_there files) (targets_in (files m)) c t).0)

reached_round : (files : Files) (a : List ℕ) (names ms : Names) (rest : Result Names Stop) (b : Bool)
    → Every (Reaches files a) names
    → (rest ≡ Ok ms → Every (Reaches files a) ms) → cond b (Ok names) rest ≡ Ok ms → Every (Reaches files a) ms
reached_round files a names ms rest true h k e = subst (Every (Reaches files a)) (ok_inj e) h
reached_round files a names ms rest false h k e = k e

-- what a closure has is reached
pub closure_reaches : (files : Files) (a : List ℕ) (n : ℕ) (names ms : Names) → Every (Reaches files a) names
    → closure files n names ≡ Ok ms → Every (Reaches files a) ms
closure_reaches files a zero names ms h e = cc
closure_reaches files a (suc n) names ms h e =
    reached_round files a names ms (closure files n (spread files names))
    (length (spread files names) == length names) h
    (closure_reaches files a n (spread files names) ms
    (every_fold (Reaches files a) names (flat_map (next_files files) names) h
    (every_flat_map (Reaches files a) (Reaches files a) (next_files files) (next_reached files a) names h))) e

abbrev pub Within : Names → Names → Type 0
Within xs ys = (x : List ℕ) → Contains xs x → Contains ys x

found_by : (n m : List ℕ) (names : Names) (b : Bool) → bytes_eq n m ≡ b
    → (list_any (bytes_eq n) names ≡ true → Contains names n) → (b || list_any (bytes_eq n) names) ≡ true
    → Contains (m ∷ names) n
found_by n m names true q k e = subst (Contains (m ∷ names)) (sym ((bytes_eq-Decides n m).0 q)) (contains_here m names)
found_by n m names false q k e = contains_later m n names (k e)

pub found : (n : List ℕ) (names : Names) → list_any (bytes_eq n) names ≡ true → Contains names n
found n [] e = cc
found n (m ∷ names) e = found_by n m names (bytes_eq n m) refl (found n names) e

long_by : (names more : Names) (n : List ℕ) (b : Bool) → length names ≤ length (fold with_name names more)
    → length (n ∷ names) ≤ length (fold with_name (n ∷ names) more)
    → length names ≤ length (fold with_name (cond b names (n ∷ names)) more)
long_by names more n true h k = h
long_by names more n false h k = omega (arith, k)

pub fold_long : (names more : Names) → length names ≤ length (fold with_name names more)
fold_long names [] = omega arith
fold_long names (n ∷ more) =
    long_by names more n (list_any (bytes_eq n) names) (fold_long names more) (fold_long (n ∷ names) more)

first_or : (n : List ℕ) (more names : Names) → Contains names n → Within more names → Within (n ∷ more) names
first_or n more names c w x d = elim (contains_cases n x more d) [ inl e ↦ subst (Contains names) e c | inr r ↦ w x r ]

same_by : (names more : Names) (n : List ℕ) (b : Bool) → list_any (bytes_eq n) names ≡ b
    → (length (fold with_name names more) ≡ length names → Within more names)
    → length (fold with_name (cond b names (n ∷ names)) more) ≡ length names → Within (n ∷ more) names
same_by names more n true q k e = first_or n more names (found n names q) (k e)
same_by names more n false q k e = let l = fold_long (n ∷ names) more in absurd (omega (arith, l, e))

-- what adds nothing was there
pub fold_same : (names more : Names) → length (fold with_name names more) ≡ length names → Within more names
fold_same names [] e x c = absurd (contains_none x c)
fold_same names (n ∷ more) e x c = same_by names more n (list_any (bytes_eq n) names) refl (fold_same names more) e x c

stays_by : (names : Names) (n x : List ℕ) (b : Bool) → Contains names x → Contains (cond b names (n ∷ names)) x
stays_by names n x true c = c
stays_by names n x false c = contains_later n x names c

fold_stays : (names more : Names) → Within names (fold with_name names more)
fold_stays names [] x c = c
fold_stays names (n ∷ more) x c =
    fold_stays (with_name names n) more x (stays_by names n x (list_any (bytes_eq n) names) c)

-- names with all files that their files refer to
abbrev pub Holds : Files → Names → Names → Type 0
Holds files names ms =
    Within names ms × ((m b : List ℕ) → Contains ms m → Contains (next_files files m) b → Contains ms b)

holds_by : (files : Files) (names ms : Names) (rest : Result Names Stop) (b : Bool)
    → (length (spread files names) == length names) ≡ b → (rest ≡ Ok ms → Holds files (spread files names) ms)
    → cond b (Ok names) rest ≡ Ok ms → Holds files names ms
holds_by files names ms rest true q k e =
    subst (Holds files names) (ok_inj e) (
      (λ x c. c),
      (λ m b c t. fold_same names (flat_map (next_files files) names)
          ((Decides-eqb (length (spread files names)) (length names)).0 q) b
          (contains_flat_map (next_files files) names m b c t)),
    )
holds_by files names ms rest false q k e =
    let r = k e in ((λ x c. r.0 x (fold_stays names (flat_map (next_files files) names) x c)), r.1)

-- a closure has what it began with, and all files that the files of its names refer to
pub closure_holds : (files : Files) (n : ℕ) (names ms : Names) → closure files n names ≡ Ok ms → Holds files names ms
closure_holds files zero names ms e = cc
closure_holds files (suc n) names ms e =
    holds_by files names ms (closure files n (spread files names)) (length (spread files names) == length names) refl
    (closure_holds files n (spread files names) ms) e

pub has_text : (o : Option (Result RawTrait Fault)) (c : List ℕ) → Contains (targets_in o) c → is_some o ≡ true
has_text None c t = absurd (contains_none c t)
has_text (Some text) c t = refl

-- what leads to a file is a file
pub leads_there : (files : Files) (a b : List ℕ) → Reaches files a b → is_there files b ≡ true → is_there files a ≡ true
leads_there files a b here h = h
leads_there files a b (there {b = m} t r) h = has_text (files a) m t

-- what is reached from a name of a closure, and is a file, is in it
pub closure_complete : (files : Files) (n : ℕ) (names ms : Names) → closure files n names ≡ Ok ms → (a b : List ℕ)
    → Contains ms a → Reaches files a b → is_there files b ≡ true → Contains ms b
closure_complete files n names ms e a b c here h = c
closure_complete files n names ms e a b c (there {b = m} t r) h =
    closure_complete files n names ms e m b
    ((closure_holds files n names ms e).1 a m c
    (contains_filter (is_there files) (targets_in (files a)) m t (leads_there files m b r h))) r h

every_has : (P : List ℕ → Type 0) (xs : Names) (x : List ℕ) → Every P xs → Contains xs x → P x
every_has P [] x h c = absurd (contains_none x c)
every_has P (y ∷ ys) x h c = elim (contains_cases y x ys c) [ inl e ↦ subst P e h.0 | inr d ↦ every_has P ys x h.1 d ]

or_later : (a b : Bool) → b ≡ true → (a || b) ≡ true
or_later true b e = refl
or_later false b e = e

pub any_has : (n : List ℕ) (names : Names) → Contains names n → list_any (bytes_eq n) names ≡ true
any_has n [] c = absurd (contains_none n c)
any_has n (m ∷ names) c =
    elim (contains_cases m n names c) [
      | inl e ↦ ap (λ b. b || list_any (bytes_eq n) names) ((bytes_eq-Decides n m).1 (sym e))
      | inr d ↦ or_later (bytes_eq n m) (list_any (bytes_eq n) names) (any_has n names d)
    ]

-- a name of a file is in the closure of another one exactly where it is reached from it
pub closure_tells : (files : Files) (n : ℕ) (m name : List ℕ) (ms : Names) → closure files n (m ∷ []) ≡ Ok ms
    → is_there files name ≡ true
    → Decides (list_any (bytes_eq name) ms) (Reaches files m name)
closure_tells files n m name ms e h = (
  (λ q. every_has (Reaches files m) ms name (closure_reaches files m n (m ∷ []) ms (here, tt) e) (found name ms q)),
  (λ r. any_has name ms (closure_complete files n (m ∷ []) ms e m name
      ((closure_holds files n (m ∷ []) ms e).0 m (contains_here m [])) r h)),
)
