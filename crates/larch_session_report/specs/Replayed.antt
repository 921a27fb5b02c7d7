-- What a report replays, trait by trait.
use Rattle.std.specs.Prelude.{ℕ, List}
use Rattle.larch_prove_meaning.specs.Redo.{Replayed}
use Rattle.larch_session_replay.specs.DutiesTraitDuties.{trait_claims}
use Rattle.larch_session_replay.specs.FlatSourcesSources.{name_at}
use Rattle.larch_session_replay.specs.SessionMeaningFiles.{script_among}
use Rattle.larch_session_replay.specs.SessionMeaningRedone.{replayed_for_trait}
use Rattle.larch_session_replay.specs.declared.from_session_sources.Looked.{Looked}

-- what is replayed for the trait of the file with a number
abbrev pub replayed_at : Looked → ℕ → List Replayed
replayed_at looked number =
    replayed_for_trait looked.limit (script_among looked.files.now (name_at looked.sources.now number))
    (name_at looked.sources.now number) (trait_claims looked.sources.now (name_at looked.sources.now number))
