-- What is known of files is known of others that say the same of what is reached.
use Rattle.std.proofs.Common.{◌≡◌, sym, ap, ◌∙◌, arith, ℕ, ◌+◌, ◌≤◌, length, List, Result}
use Rattle.larch_base.specs.declared.fault.Fault.{Fault}
use Rattle.larch_flat_sources.specs.FlatMeaningFlat.{flat}
use Rattle.larch_flat_sources.specs.FlatMeaningGathered.{Gathered}
use Rattle.larch_flat_sources.specs.FlatMeaningReached.{AgreeOn, AreReached}
use Rattle.larch_flat_sources.proofs.FlatMeaningReached.{depths_same, flat_same}
use Rattle.larch_flat_sources.specs.Sources.{Table, files_in, names_in}
use Rattle.larch_flat_sources.proofs.Tables.{among, names_length}
use Rattle.larch_flat.specs.Parts.{IsFlat, flat_trait, parts_of}

-- a flat trait is the same where references are followed deeper than there are files
deeper : (sources : Table) (more : ℕ) → length sources ≤ more → (name : List ℕ)
    → flat_trait sources name ≡ flat more (files_in sources) name
deeper sources more h name =
    let e = names_length sources in
    depths_same (files_in sources) (names_in sources) (among sources) (length sources) more (omega (arith, e))
    (omega (arith, e, h)) name

pub flat_elsewhere : (sources others : Table) (name : List ℕ) (names : List (List ℕ))
    → AreReached (files_in sources) name names → AgreeOn names (files_in sources) (files_in others)
    → flat_trait sources name ≡ flat_trait others name
flat_elsewhere sources others name names r a =
    let more : ℕ = length sources + length others in
    deeper sources more (omega arith) name
    ∙ flat_same (files_in sources) (files_in others) name names r a more
    ∙ sym (deeper others more (omega arith) name)

pub known_elsewhere : (sources others : Table) (name : List ℕ) (names : List (List ℕ)) (answer : Result Gathered Fault)
    → AreReached (files_in sources) name names → AgreeOn names (files_in sources) (files_in others)
    → IsFlat sources name answer → IsFlat others name answer
known_elsewhere sources others name names answer r a h =
    ap parts_of (sym (flat_elsewhere sources others name names r a)) ∙ h
