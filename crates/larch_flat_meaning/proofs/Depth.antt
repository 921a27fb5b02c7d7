-- References that are followed deeper tell no other answer.
use Rattle.std.proofs.Common.{◌≡◌, refl, ℕ, zero, suc, Bool, true, false, not, cond, ◌==◌, length, ap, sym, subst}
use Rattle.std.proofs.Common.{Option, Some, None, List, [], ◌∷◌, Result, Ok, Err}
use Rattle.std.specs.Prelude.{bytes_eq, is_none}
use Rattle.std.specs.List.{list_any}
use Rattle.larch_base.specs.declared.code.Code.{Code}
use Rattle.larch_base.specs.declared.code.Code.TheVariants.{UnknownTrait, Cycle, TraitName}
use Rattle.larch_base.specs.declared.fault.Fault.{Fault}
use Rattle.larch_base.specs.declared.position.Pos.{Pos}
use Rattle.larch_raw.specs.declared.equation.RawTrait.{RawTrait}
use Rattle.larch_raw.specs.declared.reference.RawReference.{RawReference}
use Rattle.larch_shorthand.specs.BaseMeaningSteps.{after, all_taken}
use Rattle.larch_flat_meaning.specs.Files.{Files, closure, spread, target}
use Rattle.larch_flat_meaning.specs.Flat.{FlatTrait, flat, flat_by, flat_file, take_reference, at_reference, take_flat}
use Rattle.larch_flat_meaning.specs.Flat.{take_told, take_new, take_rest}
use Rattle.larch_flat_meaning.specs.Gathered.{Gathered, nothing}
use Rattle.larch_flat_meaning.specs.Laws.{IsKeptBy, IsTold}
use Rattle.larch_flat_meaning.specs.Stops.{Stop, Refused, TooDeep, surely, stopped_if}

abbrev Names : Type 0
Names = List (List ℕ)

pub kept_refl : {A : Type 0} (a : Result A Stop) → IsKeptBy a a
kept_refl (Ok x) = refl
kept_refl (Err (Refused f)) = refl
kept_refl (Err TooDeep) = tt

kept_after : {A B : Type 0} (a b : Result A Stop) (go to : A → Result B Stop) → IsKeptBy a b
    → ((x : A) → IsKeptBy (go x) (to x)) → IsKeptBy (after a go) (after b to)
kept_after (Ok x) b go to e k = subst (λ z. IsKeptBy (go x) (after z to)) (sym e) (k x)
kept_after (Err (Refused f)) b go to e k = ap (λ z. after z to) e
kept_after (Err TooDeep) b go to h k = tt

kept_stopped : {A : Type 0} (code : Code) (pos : Pos) (is_so : Bool) (a b : Result A Stop) → IsKeptBy a b
    → IsKeptBy (stopped_if code pos is_so a) (stopped_if code pos is_so b)
kept_stopped code pos true a b h = refl
kept_stopped code pos false a b h = h

kept_all : {A G : Type 0} (take to : A → G → Result G Stop) → ((x : A) (g : G) → IsKeptBy (take x g) (to x g))
    → (xs : List A) (g : G) → IsKeptBy (all_taken take xs g) (all_taken to xs g)
kept_all take to k [] g = refl
kept_all take to k (x ∷ xs) g =
    kept_after (take x g) (to x g) (all_taken take xs) (all_taken to xs) (k x g) (λ h. kept_all take to k xs h)

kept_referred : (pos : Pos) (a b : Result FlatTrait Stop) → IsKeptBy a b
    → IsKeptBy (at_reference pos a) (at_reference pos b)
kept_referred pos (Ok x) b e = ap (at_reference pos) e
kept_referred pos (Err (Refused f)) b e = ap (at_reference pos) e
kept_referred pos (Err TooDeep) b h = tt

kept_round : (b : Bool) (names : Names) (x y : Result Names Stop) → IsKeptBy x y
    → IsKeptBy (cond b (Ok names) x) (cond b (Ok names) y)
kept_round true names x y k = refl
kept_round false names x y k = k

-- more rounds tell the same
pub kept_closure : (files : Files) (n : ℕ) (names : Names)
    → IsKeptBy (closure files n names) (closure files (suc n) names)
kept_closure files zero names = tt
kept_closure files (suc n) names =
    kept_round (length (spread files names) == length names) names (closure files n (spread files names))
    (closure files (suc n) (spread files names))
    (kept_closure files n (spread files names))

-- more rounds tell each closure that fewer tell
abbrev pub TellsMore : ℕ → ℕ → Files → Type 0
TellsMore limit more files = (names : Names) → IsKeptBy (closure files limit names) (closure files more names)

kept_reference : (limit more : ℕ) (files : Files) → TellsMore limit more files
    → (name : List ℕ) (next to : List ℕ → Result FlatTrait Stop)
    → ((m : List ℕ) → IsKeptBy (next m) (to m)) → (r : RawReference) (g : Gathered)
    → IsKeptBy (take_reference limit files name next r g) (take_reference more files name to r g)
kept_reference limit more files h name next to k r g =
    let m : List ℕ = target r in let pos : Pos = r.target.name.pos in
    let c : Result Names Stop = closure files limit (m ∷ []) in
    let d : Result Names Stop = closure files more (m ∷ []) in
    kept_stopped UnknownTrait pos (is_none (files m)) (after c (take_new name r g (next m)))
    (after d (take_new name r g (to m)))
    (kept_after c d (take_new name r g (next m)) (take_new name r g (to m)) (h (m ∷ []))
    (λ names. kept_stopped Cycle pos (list_any (bytes_eq name) names) (take_told r g (next m)) (take_told r g (to m))
    (kept_after (at_reference pos (next m)) (at_reference pos (to m)) (λ t. surely (take_flat r g t))
    (λ t. surely (take_flat r g t))
    (kept_referred pos (next m) (to m) (k m)) (λ t. kept_refl (surely (take_flat r g t))))))

-- the flat trait of a file, where more is told of the files that it refers to
pub kept_file : (limit more : ℕ) (files : Files) → TellsMore limit more files
    → (name : List ℕ) (next to : List ℕ → Result FlatTrait Stop)
    → ((m : List ℕ) → IsKeptBy (next m) (to m))
    → (text : Option (Result RawTrait Fault))
    → IsKeptBy (flat_file limit files name next text) (flat_file more files name to text)
kept_file limit more files h name next to k None = refl
kept_file limit more files h name next to k (Some (Err f)) = refl
kept_file limit more files h name next to k (Some (Ok raw)) =
    let a : Result Gathered Stop = all_taken (take_reference limit files name next) raw.references nothing in
    let b : Result Gathered Stop = all_taken (take_reference more files name to) raw.references nothing in
    kept_stopped TraitName raw.name.pos (not (bytes_eq raw.name.name name)) (after a (λ g. surely (take_rest raw g)))
    (after b (λ g. surely (take_rest raw g)))
    (kept_after a b (λ g. surely (take_rest raw g)) (λ g. surely (take_rest raw g))
    (kept_all (take_reference limit files name next) (take_reference more files name to)
    (kept_reference limit more files h name next to k) raw.references nothing)
    (λ g. kept_refl (surely (take_rest raw g))))

-- references that are followed one step deeper tell the same
pub deeper : (n limit : ℕ) (files : Files) (name : List ℕ)
    → IsKeptBy (flat_by n limit files name) (flat_by (suc n) (suc limit) files name)
deeper zero limit files name = tt
deeper (suc n) limit files name =
    kept_file limit (suc limit) files (kept_closure files limit) name (λ m. flat_by n limit files m)
    (λ m. flat_by (suc n) (suc limit) files m) (λ m. deeper n limit files m) (files name)

pub flat_deeper : (limit : ℕ) (files : Files) (name : List ℕ)
    → IsKeptBy (flat limit files name) (flat (suc limit) files name)
unfolding flat
flat_deeper limit files name = deeper (suc limit) (suc limit) files name

-- the same, where as many rounds tell what they lead to
pub further : (n limit : ℕ) (files : Files) (name : List ℕ)
    → IsKeptBy (flat_by n limit files name) (flat_by (suc n) limit files name)
further zero limit files name = tt
further (suc n) limit files name =
    kept_file limit limit files (λ names. kept_refl (closure files limit names)) name (λ m. flat_by n limit files m)
    (λ m. flat_by (suc n) limit files m)
    (λ m. further n limit files m) (files name)

-- what is kept is the same where it is told
pub kept_told : {A : Type 0} (a b : Result A Stop) → IsKeptBy a b → IsTold a → a ≡ b
kept_told (Ok x) b k t = sym k
kept_told (Err (Refused f)) b k t = sym k
kept_told (Err TooDeep) b k t = absurd t
