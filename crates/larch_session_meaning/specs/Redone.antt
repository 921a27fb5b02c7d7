-- What a report replays.
use Rattle.std.specs.Prelude.{ℕ, List, [], flat_map, map, Result, Ok, Err}
use Rattle.larch_duties.specs.TraitDuties.{trait_claims}
use Rattle.larch_traits.specs.DutiesMeaningClaims.{Claim}
use Rattle.larch_duties.specs.FlatMeaningStops.{Stop}
use Rattle.larch_traits.specs.FlatSourcesSources.{Table as Sources}
use Rattle.larch_prove_meaning.specs.Redo.{Replayed, trait_replayed}
use Rattle.larch_script_commands.specs.declared.script.Script.{Script}
use Rattle.larch_session_meaning.specs.Files.{script_among}
use Rattle.larch_session_meaning.specs.Traits.{script_duty}
use Rattle.larch_traits.specs.Files.{Table}
use Rattle.larch_traits.specs.Reading.{read_files}

-- what is replayed for a trait with this name and script, by what it claims: nothing where it is wrong
abbrev pub replayed_for_trait : ℕ → Script → List ℕ → Result (List Claim) Stop → List Replayed
replayed_for_trait limit script stem (Ok claims) = trait_replayed limit stem script (map script_duty claims)
replayed_for_trait limit script stem (Err stop) = []

-- the same for the traits that were read
abbrev pub replayed_in : ℕ → Table → Sources → List Replayed
replayed_in limit files sources =
    flat_map
    (λ source. replayed_for_trait limit (script_among files source.0) source.0 (trait_claims sources source.0)) sources

-- what a report on these files replays
unfoldable pub replayed_on : ℕ → Table → List Replayed
replayed_on limit files = replayed_in limit files (read_files files)
