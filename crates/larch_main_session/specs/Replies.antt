-- What a session replies: which bytes may be written for it, what these show, and which work it is.
use Rattle.std.specs.Prelude.{◌≡◌, ℕ, List, [], ◌∷◌, ◌++◌, Option, Some, None}
use Rattle.larch_base.specs.declared.label.Label.{Label}
use Rattle.larch_certificate.specs.declared.line.Line.{Line}
use Rattle.larch_prove_meaning.specs.Redo.{redo}
use Rattle.larch_report.specs.Text.{report_text}
use Rattle.larch_session.specs.SessionSourcesJustified.{IsJustifiedReport}
use Rattle.larch_session_derive_meaning.specs.Derived.{Derives, derivation_reply}
use Rattle.larch_session_derive_meaning.specs.Verified.{IsVerified}
use Rattle.larch_session_derive_meaning.specs.SessionMeaningFiles.{report_of}
use Rattle.larch_session_derive_meaning.specs.SessionMeaningRedone.{replayed_on}
use Rattle.larch_main_status.specs.TraitsFiles.{Table}

-- what a command answers
pub data Reply : Type 0 where
  -- these bytes
  said : List ℕ → Reply
  -- the report on these files, each duty beginning with this rewriting limit
  reported : (limit : ℕ) (files : Table) → Reply
  -- what is derived of the duty of a trait with a label, among these files and with this limit
  derived : (limit : ℕ) (files : Table) (stem : List ℕ) (label : Label) → Reply

-- a command without an answer
abbrev pub nothing : Reply
nothing = said []

-- The bytes are a derivation of a duty, or say that there is none. Which derivation it is is left open.
pub record SpellsDerivation (limit : ℕ) (files : Table) (stem : List ℕ) (label : Label) (written : List ℕ)
    : Type 0 where
  pub derivation : Option (List Line)
  pub derives : Derives limit files stem label derivation
  pub is_text : written ≡ derivation_reply derivation

-- these bytes may be written as the reply; only of a derivation there may be several texts
abbrev pub Spells : Reply → List ℕ → Type 0
Spells (said these) written = written ≡ these
Spells (reported limit files) written = written ≡ report_text (report_of limit files)
Spells (derived limit files stem label) written = SpellsDerivation limit files stem label written

-- A derivation is written: read again, it is accepted for the duty over its own theory, which it so shows derivable. Or
-- it is said that there is none.
pub data ShowsDerivation (files : Table) (stem : List ℕ) (label : Label) : List ℕ → Type 0 where
  shows_none : ShowsDerivation files stem label (derivation_reply None)
  shows_lines : (lines : List Line) → IsVerified files stem label lines
      → ShowsDerivation files stem label (derivation_reply (Some lines))

-- what a reply shows as these bytes: each duty that a report calls proved is derivable from its own theory, and so is
-- the duty of a derivation
abbrev pub Justifies : Reply → List ℕ → Type 0
Justifies (said these) written = Unit {0}
Justifies (reported limit files) written = IsJustifiedReport limit files
Justifies (derived limit files stem label) written = ShowsDerivation files stem label written

-- these bytes may be written as the reply, and show what they are to show
pub record IsShown (reply : Reply) (written : List ℕ) : Type 0 where
  pub spells : Spells reply written
  pub justifies : Justifies reply written

-- how many steps a reply takes at most: a report opens each duty and carries out each command, from nothing, and a
-- derivation no more than a report
abbrev pub steps_of : Reply → ℕ
steps_of (said these) = 0
steps_of (reported limit files) = redo [] (replayed_on limit files)
steps_of (derived limit files stem label) = redo [] (replayed_on limit files)

-- texts of replies, one behind the other; which bytes are texts of a reply is given
pub data Texts (IsText : Reply → List ℕ → Type 0) : List Reply → List ℕ → Type 0 where
  no_texts : Texts IsText [] []
  one_text : {reply : Reply} {replies : List Reply} {output : List ℕ} (written : List ℕ)
      → IsText reply written → Texts IsText replies output → Texts IsText (reply ∷ replies) (written ++ output)

-- a front of such texts, which may end within one
pub data Front (IsText : Reply → List ℕ → Type 0) : List Reply → List ℕ → Type 0 where
  no_front : {replies : List Reply} → Front IsText replies []
  front_within : {reply : Reply} {replies : List Reply} (front rest : List ℕ)
      → IsText reply (front ++ rest) → Front IsText (reply ∷ replies) front
  front_behind : {reply : Reply} {replies : List Reply} {front : List ℕ} (written : List ℕ)
      → IsText reply written → Front IsText replies front → Front IsText (reply ∷ replies) (written ++ front)
