-- A flat trait depends only on the files that are reached.
use Rattle.std.proofs.Common.{◌≡◌, refl, ℕ, zero, suc, Bool, true, false, not, cond, ◌==◌, length, ap, ◌∙◌}
use Rattle.std.proofs.Common.{Option, Some, None, List, [], ◌∷◌, map, filter, Result, Ok, Err}
use Rattle.std.specs.Prelude.{bytes_eq, is_none, is_some, fold}
use Rattle.std.specs.List.{list_any, flat_map}
use Rattle.larch_base.specs.declared.code.Code.TheVariants.{UnknownTrait, TraitName}
use Rattle.larch_base.specs.declared.fault.Fault.{Fault}
use Rattle.larch_raw.specs.declared.equation.RawTrait.{RawTrait}
use Rattle.larch_raw.specs.declared.reference.RawReference.{RawReference}
use Rattle.larch_shorthand.specs.BaseMeaningSteps.{after, all_taken}
use Rattle.larch_flat_meaning.specs.Files.{Files, closure, here, is_there, next_files, spread, target, targets_in}
use Rattle.larch_flat_meaning.specs.Files.{there, with_name}
use Rattle.larch_flat_meaning.specs.Flat.{FlatTrait, flat, flat_by, flat_file, take_reference, take_new, take_rest}
use Rattle.larch_flat_meaning.specs.Gathered.{Gathered, nothing}
use Rattle.larch_flat_meaning.specs.Laws.{AgreeFrom}
use Rattle.larch_flat_meaning.specs.Stops.{Stop, surely, stopped_if}
use Rattle.larch_flat_meaning.proofs.Every.{Every, every_contained, every_filter, every_flat_map, every_weaker}
use Rattle.larch_flat_meaning.proofs.Every.{filter_same, flat_map_same}

abbrev Names : Type 0
Names = List (List ℕ)

if_there : (P : List ℕ → Type 0) (b : Bool) (names : Names) (n : List ℕ) → Every P names → P n
    → Every P (cond b names (n ∷ names))
if_there P true names n h k = h
if_there P false names n h k = (k, h)

pub every_fold : (P : List ℕ → Type 0) (names more : Names) → Every P names → Every P more
    → Every P (fold with_name names more)
every_fold P names [] h k = h
every_fold P names (n ∷ more) h k =
    every_fold P (with_name names n) more (if_there P (list_any (bytes_eq n) names) names n h k.0) k.1

agree_targets : (files other : Files) (m : List ℕ) → AgreeFrom files other m
    → Every (AgreeFrom files other) (targets_in (files m))
agree_targets files other m h =
    every_contained (AgreeFrom files other) (targets_in (files m)) (λ b c k r. h k (there c r))

next_same : (files other : Files) (m : List ℕ) → AgreeFrom files other m → next_files files m ≡ next_files other m
next_same files other m h =
    filter_same (is_there files) (is_there other) (targets_in (files m))
    (every_weaker (AgreeFrom files other) (λ t. is_there files t ≡ is_there other t) (λ t a. ap is_some (a t here))
    (targets_in (files m)) (agree_targets files other m h))
    ∙ ap (λ o. filter (is_there other) (targets_in o)) (h m here)

agree_next : (files other : Files) (m : List ℕ) → AgreeFrom files other m
    → Every (AgreeFrom files other) (next_files files m)
agree_next files other m h =
    every_filter (AgreeFrom files other) (is_there files) (targets_in (files m)) (agree_targets files other m h)

spread_same : (files other : Files) (names : Names) → Every (AgreeFrom files other) names
    → spread files names ≡ spread other names
spread_same files other names h =
    ap (fold with_name names)
    (flat_map_same (next_files files) (next_files other) names
    (every_weaker (AgreeFrom files other) (λ m. next_files files m ≡ next_files other m)
    (next_same files other) names h))

agree_spread : (files other : Files) (names : Names) → Every (AgreeFrom files other) names
    → Every (AgreeFrom files other) (spread files names)
agree_spread files other names h =
    every_fold (AgreeFrom files other) names (flat_map (next_files files) names) h
    (every_flat_map (AgreeFrom files other) (AgreeFrom files other) (next_files files) (agree_next files other) names h)

closure_same : (files other : Files) (n : ℕ) (names : Names) → Every (AgreeFrom files other) names
    → closure files n names ≡ closure other n names
closure_same files other zero names h = refl
closure_same files other (suc n) names h =
    ap (λ c. cond (length (spread files names) == length names) (Ok names) c)
    (closure_same files other n (spread files names) (agree_spread files other names h))
    ∙ ap (λ ns. cond (length ns == length names) (Ok names) (closure other n ns)) (spread_same files other names h)

after_same : {A B E : Type 0} (a : Result A E) (go to : A → Result B E) → ((x : A) → go x ≡ to x)
    → after a go ≡ after a to
after_same (Ok x) go to h = h x
after_same (Err e) go to h = refl

pub all_same : {A G E : Type 0} (take to : A → G → Result G E) (xs : List A) (g : G)
    → Every (λ x. (h : G) → take x h ≡ to x h) xs → all_taken take xs g ≡ all_taken to xs g
all_same take to [] g h = refl
all_same take to (x ∷ xs) g h =
    ap (λ a. after a (all_taken take xs)) (h.0 g)
    ∙ after_same (to x g) (all_taken take xs) (all_taken to xs) (λ k. all_same take to xs k h.1)

reference_same : (limit : ℕ) (files other : Files) (name : List ℕ) (next to : List ℕ → Result FlatTrait Stop)
    → ((m : List ℕ) → AgreeFrom files other m → next m ≡ to m) → (r : RawReference) → AgreeFrom files other (target r)
    → (g : Gathered)
    → take_reference limit files name next r g ≡ take_reference limit other name to r g
reference_same limit files other name next to h r a g =
    ap (λ o. stopped_if UnknownTrait r.target.name.pos (is_none o)
    (after (closure files limit (target r ∷ [])) (take_new name r g (next (target r))))) (a (target r) here)
    ∙ ap (λ c. stopped_if UnknownTrait r.target.name.pos (is_none (other (target r)))
    (after c (take_new name r g (next (target r))))) (closure_same files other limit (target r ∷ []) (a, tt))
    ∙ ap (λ t. stopped_if UnknownTrait r.target.name.pos (is_none (other (target r)))
    (after (closure other limit (target r ∷ [])) (take_new name r g t))) (h (target r) a)

references_same : (limit : ℕ) (files other : Files) (name : List ℕ) (next to : List ℕ → Result FlatTrait Stop)
    → ((m : List ℕ) → AgreeFrom files other m → next m ≡ to m) → (rs : List RawReference)
    → Every (AgreeFrom files other) (map target rs)
    → Every (λ r. (g : Gathered) → take_reference limit files name next r g ≡ take_reference limit other name to r g) rs
references_same limit files other name next to h [] e = tt
references_same limit files other name next to h (r ∷ rs) e =
    (reference_same limit files other name next to h r e.0, references_same limit files other name next to h rs e.1)

file_same : (limit : ℕ) (files other : Files) (name : List ℕ) (next to : List ℕ → Result FlatTrait Stop)
    → ((m : List ℕ) → AgreeFrom files other m → next m ≡ to m) → (text : Option (Result RawTrait Fault))
    → Every (AgreeFrom files other) (targets_in text)
    → flat_file limit files name next text ≡ flat_file limit other name to text
file_same limit files other name next to h None k = refl
file_same limit files other name next to h (Some (Err f)) k = refl
file_same limit files other name next to h (Some (Ok raw)) k =
    ap (λ a. stopped_if TraitName raw.name.pos (not (bytes_eq raw.name.name name))
    (after a (λ g. surely (take_rest raw g))))
    (all_same (take_reference limit files name next) (take_reference limit other name to) raw.references nothing
    (references_same limit files other name next to h raw.references k))

-- a flat trait depends only on the files that are reached
pub reached_only : (n limit : ℕ) (files other : Files) (name : List ℕ) → AgreeFrom files other name
    → flat_by n limit files name ≡ flat_by n limit other name
reached_only zero limit files other name a = refl
reached_only (suc n) limit files other name a =
    file_same limit files other name (λ m. flat_by n limit files m) (λ m. flat_by n limit other m)
    (λ m b. reached_only n limit files other m b) (files name)
    (agree_targets files other name a)
    ∙ ap (flat_file limit other name (λ m. flat_by n limit other m)) (a name here)

pub flat_reached_only : (limit : ℕ) (files other : Files) (name : List ℕ) → AgreeFrom files other name
    → flat limit files name ≡ flat limit other name
unfolding flat
flat_reached_only limit files other name a = reached_only (suc limit) (suc limit) files other name a
