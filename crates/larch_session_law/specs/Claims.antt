-- What a trait claims, as it has to be for its duties to be replayed.
use Rattle.std.specs.Prelude.{◌≡◌, ◌≤◌, true, List, length, All, Contains}
use Rattle.larch_base.specs.declared.limits.TheConstants.{MAX_DUTIES}
use Rattle.larch_calculus.specs.Renaming.{HasPlainNames}
use Rattle.larch_calculus.specs.Theories.{IsIncluded}
use Rattle.larch_prove_meaning.specs.InWords.{IsStatementInWords}
use Rattle.larch_prove_meaning.specs.Reports.{may_serve}
use Rattle.larch_prove_meaning.specs.Scripts.{ClaimedDuty}
use Rattle.larch_prove_meaning.specs.SortsMeaningLaws.{OperatorSorts}
use Rattle.larch_term.specs.Statement.{IsStatementOver, IsWellSortedTheory}
use Rattle.larch_base_meaning.specs.Word.{IsWord}
use Rattle.larch_session_meaning.specs.TraitsItemsLaws.{NamesOwn}

-- a duty is well sorted and in words over its theory, whose operators have plain names and which a clause names alone
pub record IsClaim (d : ClaimedDuty) : Type 0 where
  pub theory : IsWellSortedTheory d.theory
  pub statement : IsStatementOver d.theory.operators d.statement
  pub named : NamesOwn d.theory.operators d.statement
  pub plain : HasPlainNames d.theory
  pub operators : All (OperatorSorts IsWord) d.theory.operators
  pub statements : All IsStatementInWords d.theory.statements
  pub words : IsStatementInWords d.statement

-- so is each of these duties, and there aren't too many; of what may serve a duty as a lemma the theory is part of the
-- duty's
pub record AreClaims (ds : List ClaimedDuty) : Type 0 where
  pub each : All IsClaim ds
  pub few : length ds ≤ MAX_DUTIES
  pub serve : (d e : ClaimedDuty) → Contains ds d → Contains ds e → may_serve d.clause e.clause ≡ true
      → IsIncluded d.theory e.theory
