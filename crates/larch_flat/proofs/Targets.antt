-- The file that a reference names, and where it leads.
use Rattle.std.proofs.Common.{◌≡◌, refl, sym, ap, subst, ◌∙◌, ℕ, zero, suc, ◌<◌, ◌≤◌, Bool, true, false, length, get_or}
use Rattle.std.proofs.Common.{map, List, [], ◌∷◌, Contains, Option, Some, None, Result, Ok, Err, arith}
use Rattle.std.specs.Prelude.{bytes_eq}
use Rattle.std.specs.List.{list_any}
use Rattle.larch_base.specs.declared.code.Code.TheVariants.{Cycle}
use Rattle.larch_raw.specs.declared.reference.RawReference.{RawReference}
use Rattle.larch_flat_sources.specs.SortsMeaningFaults.{fault}
use Rattle.larch_flat_sources.specs.FlatMeaningFiles.{closure, is_there, target, targets_in}
use Rattle.larch_flat_sources.specs.FlatMeaningGathered.{Gathered}
use Rattle.larch_flat_sources.specs.FlatMeaningReach.{reach_count}
use Rattle.larch_flat_sources.specs.FlatMeaningStops.{Refused}
use Rattle.larch_flat_sources.proofs.FlatMeaningShrinking.{falls_told, told_closure}
use Rattle.larch_flat_sources.proofs.FlatMeaningUnfolding.{unfolds}
use Rattle.larch_base.proofs.Members.{contains_here, contains_later}
use Rattle.larch_flat_sources.specs.Sources.{Table, files_in, name_at, names_in, targets_of}
use Rattle.larch_flat_sources.proofs.Tables.{among, names_length, there_at}
use Rattle.larch_flat.specs.Known.{IsTarget}
use Rattle.larch_flat.specs.Parts.{flat_trait, with_reference}
use Rattle.larch_flat.proofs.Files.{Unfolds}
use Rattle.larch_flat.proofs.References.{cyclic_target}

enough : (sources : Table) → length (names_in sources) ≤ length sources
enough sources = let l = names_length sources in omega (arith, l)

more_than_enough : (sources : Table) → length (names_in sources) ≤ suc (length sources)
more_than_enough sources = let l = names_length sources in omega (arith, l)

-- a flat trait is that of its file
pub unfolded : (sources : Table) (name : List ℕ) → Unfolds sources name
unfolded sources name =
    unfolds (files_in sources) (names_in sources) (among sources) (length sources) (enough sources) name

-- what the file of a name leads to is told
pub led : (sources : Table) (m : List ℕ) → is_there (files_in sources) m ≡ true
    → (ms : List (List ℕ)) × (closure (files_in sources) (suc (length sources)) (m ∷ []) ≡ Ok ms)
led sources m there =
    told_closure (files_in sources) (names_in sources) (among sources) (suc (length sources))
    (more_than_enough sources) m there

-- it leads back
pub cyclic : (sources : Table) (name : List ℕ) (found : ℕ) (r : RawReference) (g : Gathered)
    → name_at sources found ≡ target r → is_there (files_in sources) (target r) ≡ true
    → ((limit : ℕ) (ms : List (List ℕ)) → closure (files_in sources) limit (name_at sources found ∷ []) ≡ Ok ms
    → list_any (bytes_eq name) ms ≡ true)
    → with_reference sources name r g ≡ Err (Refused (fault Cycle r.target.name.pos))
cyclic sources name found r g named there back =
    let p = led sources (target r) there in
    cyclic_target (suc (length sources)) (files_in sources) name (flat_trait sources) r g p.0 there p.1
    (back (suc (length sources)) p.0 (ap (λ m. closure (files_in sources) (suc (length sources)) (m ∷ [])) named ∙ p.1))

contains_target : (rs : List RawReference) (i : ℕ) (r : RawReference) → i < length rs → r ≡ get_or rs i r
    → Contains (map target rs) (target r)
contains_target [] i r lt e = absurd (omega (arith, lt))
contains_target (x ∷ xs) zero r lt e =
    subst (λ t. Contains (target x ∷ map target xs) t) (ap target (sym e)) (contains_here (target x) (map target xs))
contains_target (x ∷ xs) (suc i) r lt e =
    contains_later (target x) (target r) (map target xs) (contains_target xs i r (omega (arith, lt)) e)

-- how many files the file with a number leads to
abbrev pub reached : Table → ℕ → ℕ
reached sources number = reach_count (length sources) (files_in sources) (name_at sources number)

-- a target leads to fewer files
pub fewer : (sources : Table) (number : ℕ) (rs : List RawReference) (i : ℕ) (r : RawReference) (found : ℕ)
    → targets_of sources number ≡ map target rs
    → i < length rs → r ≡ get_or rs i r → IsTarget sources number r found
    → reached sources found < reached sources number
fewer sources number rs i r found targets lt at is =
    let there = there_at sources found is.within in
    let c : Contains (targets_of sources number) (name_at sources found) =
    subst (λ ts. Contains ts (name_at sources found)) (sym targets)
    (subst (Contains (map target rs)) (sym is.named) (contains_target rs i r lt at)) in
    let p = led sources (name_at sources found) there in
    falls_told (files_in sources) (names_in sources) (among sources) (length sources) (enough sources)
    (name_at sources number) (name_at sources found) c there
    (suc (length sources)) p.0 p.1 (is.away (suc (length sources)) p.0 p.1)
