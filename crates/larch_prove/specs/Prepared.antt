-- What a preamble has set.
use Rattle.std.specs.Prelude.{◌≡◌, Option, None, Some, Result, Ok, Err, All}
use Rattle.larch_base.specs.declared.code.Code.{Code}
use Rattle.larch_prove.specs.State.{place_of}
use Rattle.larch_prove.specs.declared.duty.ProofDuty.{ProofDuty}
use Rattle.larch_prove.specs.declared.outcome.Place.{Place}
use Rattle.larch_prove.specs.declared.preparing.Prepared.{Prepared}
use Rattle.larch_prove_beginning.specs.Beginning.{unopened_proof}
use Rattle.larch_prove_meaning.specs.InWords.{IsStatementInWords}
use Rattle.larch_prove_meaning.specs.Levels.{Proof}
use Rattle.larch_prove_meaning.specs.Named.{HaveDifferentNumbers}
use Rattle.larch_prove_meaning.specs.Replays.{Duty, Refusal}
use Rattle.larch_prove_meaning.specs.WellSorted.{IsWellSortedDuty}
use Rattle.larch_prove_beginning.specs.ProveOpeningStating.{duties_of, what_state}
use Rattle.larch_prove_beginning.specs.ProveSettingsSettings.{AreSettingsOf}
use Rattle.larch_sorts_meaning.specs.Laws.{OperatorSorts}
use Rattle.larch_base_meaning.specs.Word.{IsWord}
use Rattle.larch_prove_resuming.specs.TraitsItemsLaws.{NamesOwn}

-- what a replay starts from, as the definitions have it
abbrev pub duty_of : ProofDuty → Duty
duty_of d = record { theory = d.theory.now; statement = d.statement.now; lemmas = duties_of d.lemmas.now }

-- A duty can be replayed: it is well sorted and in words, a clause names the theory's operators, and no two lemmas have
-- one number.
pub record CanReplay (d : ProofDuty) : Type 0 where
  pub sorted : IsWellSortedDuty (duty_of d)
  pub named : NamesOwn d.theory.now.operators d.statement.now
  pub operators : All (OperatorSorts IsWord) d.theory.now.operators
  pub statements : All IsStatementInWords d.theory.now.statements
  pub lemmas : All IsStatementInWords (what_state (duties_of d.lemmas.now))
  pub statement : IsStatementInWords d.statement.now
  pub numbers : HaveDifferentNumbers (duties_of d.lemmas.now)

-- the proof before its opening, with what a preamble has set
abbrev pub prepared_proof : Duty → Prepared → Proof
prepared_proof duty prepared =
    unopened_proof duty prepared.settings.scope.value prepared.settings.precedence.value prepared.settings.limit
    prepared.checking

-- the settings are those of the proof
abbrev pub IsPreparedFor : Duty → Prepared → Type 0
IsPreparedFor duty prepared = AreSettingsOf prepared.settings (prepared_proof duty prepared)

-- what a preamble comes to: what it has set, or where and why it is refused
abbrev pub ComesTo : Duty → Prepared → Option (Place × Code) → Result Proof Refusal → Type 0
ComesTo duty prepared None answer = (answer ≡ Ok (prepared_proof duty prepared)) × IsPreparedFor duty prepared
ComesTo duty prepared (Some refused) answer = answer ≡ Err (record { place = place_of refused.0; code = refused.1 })
