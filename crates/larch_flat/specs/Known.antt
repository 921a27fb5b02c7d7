-- What the code knows of flat traits, and what a reference of a file names.
use Rattle.std.specs.Prelude.{◌≡◌, ℕ, ◌<◌, Bool, true, false, bytes_eq, length, List, [], ◌∷◌, get_or}
use Rattle.std.specs.Prelude.{Option, None, Some, is_some, option_map, IfSome, Result, Ok, Err}
use Rattle.std.specs.List.{list_any}
use Rattle.larch_base.specs.declared.fault.Fault.{Fault}
use Rattle.larch_raw.specs.declared.reference.RawReference.{RawReference}
use Rattle.larch_flat_sources.specs.TraitsItemsRefusal.{cause}
use Rattle.larch_flat_sources.specs.TraitsItemsRefusalTraitRefusal.{TraitRefusal}
use Rattle.larch_flat_sources.specs.FlatMeaningFiles.{closure, target}
use Rattle.larch_flat_sources.specs.FlatMeaningGathered.{Gathered}
use Rattle.larch_flat_sources.specs.FlatMeaningStops.{Stop, Refused}
use Rattle.larch_flat_sources.specs.Sources.{Table, files_in, name_at}
use Rattle.larch_flat_gathering.specs.Keeping.{Keeps, Gathering}
use Rattle.larch_flat.specs.Parts.{IsFlat}

-- something is known of the file with a number
abbrev pub is_known : List (Option (Result Gathered Fault)) → ℕ → Bool
is_known known number = is_some (get_or known number None)

-- of each file something is known or nothing, and what is known is so
pub record Knows (sources : Table) (known : List (Option (Result Gathered Fault))) : Type 0 where
  pub size : length known ≡ length sources
  pub flat : (number : ℕ) (answer : Result Gathered Fault) → get_or known number None ≡ Some answer
      → IsFlat sources (name_at sources number) answer

-- what was known of is known of still
abbrev pub Grows : List (Option (Result Gathered Fault)) → List (Option (Result Gathered Fault)) → Type 0
Grows before behind = (number : ℕ) → is_known before number ≡ true → is_known behind number ≡ true

-- something is known of each file
abbrev pub AreAllKnown : Table → List (Option (Result Gathered Fault)) → Type 0
AreAllKnown sources known = (number : ℕ) → number < length sources → is_known known number ≡ true

-- what a refusal tells of an answer that may not be told
abbrev pub stop_told : TraitRefusal → Option Stop
stop_told refusal = option_map Refused (cause refusal)

-- the file with a number is what a reference of another file names, and it doesn't lead back to that
pub record IsTarget (sources : Table) (number : ℕ) (r : RawReference) (found : ℕ) : Type 0 where
  pub within : found < length sources
  pub named : name_at sources found ≡ target r
  pub away : (limit : ℕ) (ms : List (List ℕ)) → closure (files_in sources) limit (name_at sources found ∷ []) ≡ Ok ms
      → list_any (bytes_eq (name_at sources number)) ms ≡ false

-- a store keeps what is answered
abbrev pub KeepsTold : Gathering → Result Gathered Stop → Type 0
KeepsTold s (Ok g) = Keeps s g
KeepsTold s (Err stop) = ⊥

-- a call leaves a store that keeps what is answered, or a refusal that tells why nothing is
abbrev pub LeavesFlat : {Value : Type 0} → Gathering → Result Value TraitRefusal → Result Gathered Stop → Type 0
LeavesFlat s (Ok value) answer = KeepsTold s answer
LeavesFlat s (Err refusal) answer = IfSome (stop_told refusal) (λ stop. answer ≡ Err stop)
