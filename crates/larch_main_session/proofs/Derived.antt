-- What is written of derivations.
use Rattle.std.proofs.Common.{◌≡◌, ◌↔◌, ℕ, true, false, List, Option, Some, None, codes, sym, subst, ap, ◌∙◌}
use Rattle.std.specs.Cmp.Lexicographic.{bytes_decides}
use Rattle.larch_base.specs.declared.label.Label.{Label}
use Rattle.larch_certificate.specs.declared.line.Line.{Line}
use Rattle.larch_main_session.specs.Laws.{HasOneText}
use Rattle.larch_main_session.specs.Replies.{Reply, said, reported, derived, ShowsDerivation, shows_none, shows_lines}
use Rattle.larch_main_session.specs.Replies.{Spells, SpellsDerivation}
use Rattle.larch_prove_meaning.specs.Reports.{Answered, is_proved}
use Rattle.larch_session_derive_meaning.proofs.Called.{none_derived}
use Rattle.larch_session_derive_meaning.proofs.Shown.{derived_verified}
use Rattle.larch_session_derive_meaning.specs.Called.{calls_proved}
use Rattle.larch_session_derive_meaning.specs.Derived.{Derives, IsDerivedOf, answer_with, answers_on, derivation_reply}
use Rattle.larch_session_derive_meaning.specs.SessionMeaningFiles.{report_of}
use Rattle.larch_main_status.specs.TraitsFiles.{Table}

true_is_false : {A : Type 0} → true ≡ false → A
true_is_false e = cc

-- a derivation doesn't say that there is none
some_is_not_none : {A : Type 0} (lines : List Line) → derivation_reply (Some lines) ≡ codes "none\n" → A
some_is_not_none lines e =
    true_is_false (sym ((bytes_decides (derivation_reply (Some lines)) (codes "none\n")).1 e))

-- a duty is proved, or it isn't
not_both : {A : Type 0} (answer : Option Answered) (lines : List Line) → IsDerivedOf answer (Some lines)
    → IsDerivedOf answer None → A
not_both (Some a) lines derives none = true_is_false (sym (ap is_proved derives.0) ∙ none)
not_both None lines derives none = cc

module _ (limit : ℕ) (files : Table) (stem : List ℕ) (label : Label) where
  shows_by : (written : List ℕ) (derivation : Option (List Line)) → Derives limit files stem label derivation
      → written ≡ derivation_reply derivation → ShowsDerivation files stem label written
  shows_by written None derives is = subst (ShowsDerivation files stem label) (sym is) shows_none
  shows_by written (Some lines) derives is =
      subst (ShowsDerivation files stem label) (sym is)
      (shows_lines lines (derived_verified limit files stem label lines derives))

  -- what is written is accepted for the duty, which is so derivable
  pub derivation_shows : (written : List ℕ) → SpellsDerivation limit files stem label written
      → ShowsDerivation files stem label written
  derivation_shows written s = shows_by written s.derivation s.derives s.is_text

  none_where_said : (written : List ℕ) (derivation : Option (List Line)) → Derives limit files stem label derivation
      → written ≡ derivation_reply derivation → written ≡ codes "none\n" → Derives limit files stem label None
  none_where_said written None derives is none = derives
  none_where_said written (Some lines) derives is none = some_is_not_none lines (sym is ∙ none)

  said_where_none : (written : List ℕ) (derivation : Option (List Line)) → Derives limit files stem label derivation
      → written ≡ derivation_reply derivation → Derives limit files stem label None → written ≡ codes "none\n"
  said_where_none written None derives is none = is
  said_where_none written (Some lines) derives is none =
      not_both (answer_with label (answers_on limit files stem)) lines derives none

  -- it is said that there is none exactly where the report doesn't call the duty proved
  pub none_is_said : (written : List ℕ) → SpellsDerivation limit files stem label written
      → (written ≡ codes "none\n") ↔ (calls_proved (report_of limit files) stem label ≡ false)
  none_is_said written s = (
    λ none. (none_derived limit files stem label).0
        (none_where_said written s.derivation s.derives s.is_text none),
    λ unproved. said_where_none written s.derivation s.derives s.is_text
        ((none_derived limit files stem label).1 unproved),
  )

-- each other reply has one text
pub other_text : (reply : Reply) (first second : List ℕ) → HasOneText reply → Spells reply first → Spells reply second
    → first ≡ second
other_text (said these) first second one p q = p ∙ sym q
other_text (reported limit files) first second one p q = p ∙ sym q
other_text (derived limit files stem label) first second one p q = absurd one
