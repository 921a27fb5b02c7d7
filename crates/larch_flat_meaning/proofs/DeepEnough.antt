-- References that are followed as deep as there are files always tell.
use Rattle.std.proofs.Common.{◌≡◌, refl, ℕ, zero, suc, ◌≤◌, ◌<◌, Bool, true, false, not, cond, ◌==◌, length, subst}
use Rattle.std.proofs.Common.{arith, inl, inr}
use Rattle.std.proofs.Common.{Option, Some, None, List, [], ◌∷◌, map, Contains, Result, Ok, Err}
use Rattle.std.specs.Prelude.{bytes_eq, is_none, is_some}
use Rattle.std.specs.List.{list_any, flat_map}
use Rattle.larch_base.specs.declared.code.Code.{Code}
use Rattle.larch_base.specs.declared.code.Code.TheVariants.{UnknownTrait, Cycle, TraitName}
use Rattle.larch_base.specs.declared.fault.Fault.{Fault}
use Rattle.larch_base.specs.declared.position.Pos.{Pos}
use Rattle.larch_base.proofs.Bools.{true_or_false}
use Rattle.larch_base.proofs.Members.{contained_in_filter, contains_cases, contains_here}
use Rattle.larch_raw.specs.declared.equation.RawTrait.{RawTrait}
use Rattle.larch_raw.specs.declared.reference.RawReference.{RawReference}
use Rattle.larch_shorthand.specs.BaseMeaningSteps.{after, all_taken}
use Rattle.larch_shorthand.proofs.TraitsItemsKept.{ok_inj}
use Rattle.larch_flat_meaning.specs.Files.{Files, Reaches, closure, here, is_there, next_files, spread, target}
use Rattle.larch_flat_meaning.specs.Files.{targets_in, there}
use Rattle.larch_flat_meaning.specs.Flat.{FlatTrait, flat, flat_by, flat_file, take_reference, take_new, take_told}
use Rattle.larch_flat_meaning.specs.Flat.{take_flat, take_rest, at_reference}
use Rattle.larch_flat_meaning.specs.Gathered.{Gathered, nothing}
use Rattle.larch_flat_meaning.specs.Laws.{AreAmong, IsTold}
use Rattle.larch_flat_meaning.specs.Stops.{Stop, Refused, TooDeep, surely, stopped_if}
use Rattle.larch_flat_meaning.proofs.Closures.{Names, Within, closure_complete, closure_holds, closure_reaches}
use Rattle.larch_flat_meaning.proofs.Counting.{Distinct, IsFound, distinct_fold, every_within, pigeon, rounds_tell}
use Rattle.larch_flat_meaning.proofs.Every.{Every, every_both, every_contained, every_flat_map, every_weaker}
use Rattle.larch_flat_meaning.proofs.Agreement.{every_fold}

found_told : (o : Result Names Stop) → IsFound o → IsTold o
found_told (Ok ms) h = tt
found_told (Err stop) h = absurd h

told_after : {A B : Type 0} (a : Result A Stop) (go : A → Result B Stop) → IsTold a
    → ((x : A) → a ≡ Ok x → IsTold (go x)) → IsTold (after a go)
told_after (Ok x) go h k = k x refl
told_after (Err (Refused f)) go h k = tt
told_after (Err TooDeep) go h k = h

told_surely : {A : Type 0} (a : Result A Fault) → IsTold (surely a)
told_surely (Ok x) = tt
told_surely (Err f) = tt

told_stopped : {A : Type 0} (code : Code) (pos : Pos) (b : Bool) (next : Result A Stop) → (b ≡ false → IsTold next)
    → IsTold (stopped_if code pos b next)
told_stopped code pos true next h = tt
told_stopped code pos false next h = h refl

told_referred : (pos : Pos) (a : Result FlatTrait Stop) → IsTold a → IsTold (at_reference pos a)
told_referred pos (Ok x) h = tt
told_referred pos (Err (Refused f)) h = tt
told_referred pos (Err TooDeep) h = h

told_all : {A G : Type 0} (take : A → G → Result G Stop) (xs : List A) (g : G)
    → Every (λ x. (h : G) → IsTold (take x h)) xs → IsTold (all_taken take xs g)
told_all take [] g h = tt
told_all take (x ∷ xs) g h = told_after (take x g) (all_taken take xs) (h.0 g) (λ k q. told_all take xs k h.1)

distinct_round : (names ms : Names) (rest : Result Names Stop) (b : Bool) → Distinct names
    → (rest ≡ Ok ms → Distinct ms) → cond b (Ok names) rest ≡ Ok ms → Distinct ms
distinct_round names ms rest true d k e = subst Distinct (ok_inj e) d
distinct_round names ms rest false d k e = k e

pub closure_distinct : (files : Files) (n : ℕ) (names ms : Names) → Distinct names → closure files n names ≡ Ok ms
    → Distinct ms
closure_distinct files zero names ms d e = cc
closure_distinct files (suc n) names ms d e =
    distinct_round names ms (closure files n (spread files names)) (length (spread files names) == length names) d
    (closure_distinct files n (spread files names) ms (distinct_fold names (flat_map (next_files files) names) d)) e

both : (x : List ℕ) (xs ys : Names) → Contains ys x → Within xs ys → Within (x ∷ xs) ys
both x xs ys c w z d = elim (contains_cases x z xs d) [ inl e ↦ subst (Contains ys) e c | inr r ↦ w z r ]

present : (o : Option (Result RawTrait Fault)) → is_none o ≡ false → is_some o ≡ true
present None e = cc
present (Some text) e = refl

-- each name that a closure of a file has is that of a file
spread_there : (files : Files) (names : Names) → Every (λ m. is_there files m ≡ true) names
    → Every (λ m. is_there files m ≡ true) (spread files names)
spread_there files names h =
    every_fold (λ m. is_there files m ≡ true) names (flat_map (next_files files) names) h
    (every_flat_map (λ m. is_there files m ≡ true) (λ m. is_there files m ≡ true) (next_files files)
    (λ m _. every_contained (λ c. is_there files c ≡ true) (next_files files m)
    (λ c t. (contained_in_filter (is_there files) (targets_in (files m)) c t).1)) names h)

there_round : (files : Files) (names ms : Names) (rest : Result Names Stop) (b : Bool)
    → Every (λ m. is_there files m ≡ true) names
    → (rest ≡ Ok ms → Every (λ m. is_there files m ≡ true) ms) → cond b (Ok names) rest ≡ Ok ms
    → Every (λ m. is_there files m ≡ true) ms
there_round files names ms rest true h k e = subst (Every (λ m. is_there files m ≡ true)) (ok_inj e) h
there_round files names ms rest false h k e = k e

pub closure_there : (files : Files) (n : ℕ) (names ms : Names) → Every (λ m. is_there files m ≡ true) names
    → closure files n names ≡ Ok ms → Every (λ m. is_there files m ≡ true) ms
closure_there files zero names ms h e = cc
closure_there files (suc n) names ms h e =
    there_round files names ms (closure files n (spread files names)) (length (spread files names) == length names) h
    (closure_there files n (spread files names) ms (spread_there files names h)) e

-- the closure of a target that doesn't lead back is shorter
pub shorter : (files : Files) (limit : ℕ) (name m : List ℕ) (ms ks : Names) → closure files limit (name ∷ []) ≡ Ok ms
    → Contains (targets_in (files name)) m → is_there files m ≡ true
    → closure files limit (m ∷ []) ≡ Ok ks → list_any (bytes_eq name) ks ≡ false → length ks < length ms
shorter files limit name m ms ks e t there_m d q =
    let start : Contains ms name = (closure_holds files limit (name ∷ []) ms e).0 name (contains_here name []) in
    let r : Every (Reaches files m) ks = closure_reaches files m limit (m ∷ []) ks (here, tt) d in
    let h : Every (λ k. is_there files k ≡ true) ks = closure_there files limit (m ∷ []) ks (there_m, tt) d in
    let w : Within ks ms = every_within ks ms
    (every_both (Reaches files m) (λ k. is_there files k ≡ true) (Contains ms)
    (λ k s p. closure_complete files limit (name ∷ []) ms e name k start (there t s) p) ks r h) in
    let p =
    pigeon (name ∷ ks) ms (q, closure_distinct files limit (m ∷ []) ks (refl, tt) d) (both name ks ms start w) in
    omega (arith, p)

told_reference : (files : Files) (all : Names) → AreAmong files all → (limit : ℕ) → length all ≤ limit
    → (name : List ℕ) (next : List ℕ → Result FlatTrait Stop)
    → (r : RawReference)
    → ((ks : Names) → is_there files (target r) ≡ true → closure files limit (target r ∷ []) ≡ Ok ks
    → list_any (bytes_eq name) ks ≡ false → IsTold (next (target r)))
    → (g : Gathered) → IsTold (take_reference limit files name next r g)
told_reference files all among limit l name next r k g =
    let m : List ℕ = target r in let pos : Pos = r.target.name.pos in
    told_stopped UnknownTrait pos (is_none (files m))
    (after (closure files limit (m ∷ [])) (take_new name r g (next m))) (λ p.
    let h : is_there files m ≡ true = present (files m) p in
    told_after (closure files limit (m ∷ [])) (take_new name r g (next m))
    (found_told (closure files limit (m ∷ []))
    (rounds_tell files all among limit (m ∷ []) (refl, tt) (among m h, tt) (omega (arith, l))))
    (λ ks d. told_stopped Cycle pos (list_any (bytes_eq name) ks) (take_told r g (next m)) (λ q.
    told_after (at_reference pos (next m)) (λ t. surely (take_flat r g t)) (told_referred pos (next m) (k ks h d q))
    (λ t _. told_surely (take_flat r g t)))))

-- what is asked of the targets of a file
abbrev Asked : Files → ℕ → List ℕ → (List ℕ → Result FlatTrait Stop) → List ℕ → Type 0
Asked files limit name next m =
    (ks : Names) → is_there files m ≡ true → closure files limit (m ∷ []) ≡ Ok ks → list_any (bytes_eq name) ks ≡ false
    → IsTold (next m)

told_references : (files : Files) (all : Names) → AreAmong files all → (limit : ℕ) → length all ≤ limit
    → (name : List ℕ) (next : List ℕ → Result FlatTrait Stop)
    → (rs : List RawReference) → Every (Asked files limit name next) (map target rs)
    → Every (λ r. (g : Gathered) → IsTold (take_reference limit files name next r g)) rs
told_references files all among limit l name next [] h = tt
told_references files all among limit l name next (r ∷ rs) h = (
  (λ g. told_reference files all among limit l name next r h.0 g),
  told_references files all among limit l name next rs h.1,
)

told_file : (files : Files) (all : Names) → AreAmong files all → (limit : ℕ) → length all ≤ limit
    → (name : List ℕ) (next : List ℕ → Result FlatTrait Stop)
    → (text : Option (Result RawTrait Fault)) → Every (Asked files limit name next) (targets_in text)
    → IsTold (flat_file limit files name next text)
told_file files all among limit l name next None h = tt
told_file files all among limit l name next (Some (Err f)) h = tt
told_file files all among limit l name next (Some (Ok raw)) h =
    told_stopped TraitName raw.name.pos (not (bytes_eq raw.name.name name))
    (after (all_taken (take_reference limit files name next) raw.references nothing) (λ g. surely (take_rest raw g)))
    (λ _.
    told_after (all_taken (take_reference limit files name next) raw.references nothing) (λ g. surely (take_rest raw g))
    (told_all (take_reference limit files name next) raw.references nothing
    (told_references files all among limit l name next raw.references h))
    (λ g _. told_surely (take_rest raw g)))

told_deep : (files : Files) (all : Names) → AreAmong files all → (limit : ℕ) → length all ≤ limit
    → (n : ℕ) (name : List ℕ) (ms : Names) → closure files limit (name ∷ []) ≡ Ok ms → length ms ≤ n
    → IsTold (flat_by n limit files name)
told_deep files all among limit l zero name ms e s =
    let start : Contains ms name = (closure_holds files limit (name ∷ []) ms e).0 name (contains_here name []) in
    let lt = start.1 in absurd (omega (arith, lt, s))
told_deep files all among limit l (suc n) name ms e s =
    told_file files all among limit l name (λ m. flat_by n limit files m) (files name)
    (every_contained (Asked files limit name (λ m. flat_by n limit files m)) (targets_in (files name)) (λ m t ks h d q.
    let k = shorter files limit name m ms ks e t h d q in
    told_deep files all among limit l n m ks d (omega (arith, k, s))))

pub names_of : (o : Result Names Stop) → IsFound o → (ms : Names) × (o ≡ Ok ms)
names_of (Ok ms) h = (ms, refl)
names_of (Err stop) h = absurd h

told_absent : (limit : ℕ) (files : Files) (name : List ℕ) (next : List ℕ → Result FlatTrait Stop)
    (o : Option (Result RawTrait Fault)) → is_some o ≡ false
    → IsTold (flat_file limit files name next o)
told_absent limit files name next None e = tt
told_absent limit files name next (Some text) e = cc

told_there : (files : Files) (all : Names) → AreAmong files all → (limit : ℕ) → length all ≤ limit → (name : List ℕ)
    → is_there files name ≡ true
    → IsTold (flat_by (suc limit) (suc limit) files name)
told_there files all among limit l name h =
    let r = names_of (closure files (suc limit) (name ∷ []))
    (rounds_tell files all among (suc limit) (name ∷ []) (refl, tt) (among name h, tt) (omega (arith, l))) in
    let t : Every (λ k. is_there files k ≡ true) r.0 = closure_there files (suc limit) (name ∷ []) r.0 (h, tt) r.1 in
    let w : Within r.0 all =
    every_within r.0 all (every_weaker (λ k. is_there files k ≡ true) (Contains all) among r.0 t) in
    let p = pigeon r.0 all (closure_distinct files (suc limit) (name ∷ []) r.0 (refl, tt) r.1) w in
    told_deep files all among (suc limit) (omega (arith, l)) (suc limit) name r.0 r.1 (omega (arith, p, l))

-- where there are no more files than this a flat trait is told, or what is wrong
pub deep_enough : (files : Files) (all : Names) → AreAmong files all → (limit : ℕ) → length all ≤ limit
    → (name : List ℕ) → IsTold (flat limit files name)
unfolding flat
deep_enough files all among limit l name =
    elim (true_or_false (is_there files name)) [
      | inl h ↦ told_there files all among limit l name h
      | inr h ↦ told_absent (suc limit) files name (λ m. flat_by limit (suc limit) files m) (files name) h
    ]
