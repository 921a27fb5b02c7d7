-- The flat traits of what is read of files, by what they have beside their texts.
use Rattle.std.specs.Prelude.{◌≡◌, ℕ, suc, length, List, fold, map, Result, Ok, Err}
use Rattle.larch_base.specs.declared.fault.Fault.{Fault}
use Rattle.larch_raw.specs.declared.declared.RawForm.{RawForm}
use Rattle.larch_raw.specs.declared.reference.RawReference.{RawReference}
use Rattle.larch_term.specs.Operator.{PlainOperator}
use Rattle.larch_base_meaning.specs.Steps.{after}
use Rattle.larch_flat_sources.specs.FlatMeaningFlat.{FlatTrait, flat, renamed_marked, take_reference, within}
use Rattle.larch_flat_sources.specs.FlatMeaningGathered.{Gathered, Marked, with_operators, with_taken}
use Rattle.larch_flat_sources.specs.FlatMeaningLaws.{gathered_in}
use Rattle.larch_flat_sources.specs.FlatMeaningReplacements.{Replacements, new_operator, replacements_of}
use Rattle.larch_flat_sources.specs.FlatMeaningStops.{Stop, surely}
use Rattle.larch_flat_sources.specs.Sources.{Table, files_in}

-- the flat trait of a name: references are followed as deep as there are files, which is deep enough
abbrev pub flat_trait : Table → List ℕ → Result FlatTrait Stop
flat_trait sources name = flat (length sources) (files_in sources) name

-- what a flat trait has beside its text
abbrev pub parts_of : Result FlatTrait Stop → Result Gathered Stop
parts_of (Ok t) = Ok (gathered_in t)
parts_of (Err stop) = Err stop

-- this is what the flat trait of a name has, or what is wrong with it first
abbrev pub IsFlat : Table → List ℕ → Result Gathered Fault → Type 0
IsFlat sources name answer = parts_of (flat_trait sources name) ≡ surely answer

-- what is gathered, with a reference to a trait of which all others are told
abbrev pub with_reference : Table → List ℕ → RawReference → Gathered → Result Gathered Stop
with_reference sources name r g =
    take_reference (suc (length sources)) (files_in sources) name (flat_trait sources) r g

-- with these operators and marked statements by other names
abbrev pub with_new : RawReference → Replacements → List PlainOperator → List Marked → Gathered → Gathered
with_new r by operators marked g =
    fold (λ h m. with_taken r.assumed m h) (with_operators (map (new_operator by) operators) g)
    (renamed_marked by marked)

-- with the operators and marked statements of a trait with these formals, by the names that a reference gives
abbrev pub with_parts : RawReference → List RawForm → List PlainOperator → List Marked → Gathered
    → Result Gathered Fault
with_parts r formals operators marked g =
    after (replacements_of operators formals r.target) (λ by.
    within r.target.name.pos (with_new r by operators marked g))
