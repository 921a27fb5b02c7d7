-- What is derived of the duties that a report calls proved.
use Rattle.std.specs.Prelude.{◌≡◌, ℕ, false, true, codes, decimal, find, length, List, [], ◌++◌, map, Option, Some}
use Rattle.std.specs.Prelude.{None}
use Rattle.std.specs.Prelude.{Result, Ok, Err}
use Rattle.larch_base.specs.declared.label.Label.{Label}
use Rattle.larch_certificate.specs.declared.line.Line.{Line}
use Rattle.larch_certificate_text.specs.CertificateText.{certificate_text}
use Rattle.larch_derive.specs.Finished.{IsFinished}
use Rattle.larch_session_law.specs.DutiesTraitDuties.{trait_claims}
use Rattle.larch_duties_meaning.specs.Claims.{Claim, same_label}
use Rattle.larch_flat_meaning.specs.Stops.{Stop}
use Rattle.larch_prove_meaning.specs.Replays.{Proved}
use Rattle.larch_prove_meaning.specs.Reports.{Answered, all_answered, is_proved}
use Rattle.larch_script_commands.specs.declared.script.Script.{Script}
use Rattle.larch_session_law.specs.SessionMeaningFiles.{script_among}
use Rattle.larch_session_law.specs.SessionMeaningTraits.{script_duty}
use Rattle.larch_session_law.specs.TraitsFiles.{Table}
use Rattle.larch_session_law.specs.TraitsReading.{read_files}

-- what the duties of a trait come to by a script, by what it claims: there are none where it is wrong
abbrev pub answers_by : ℕ → Script → Result (List Claim) Stop → List Answered
answers_by limit script (Ok claims) = all_answered limit script [] 1 (map script_duty claims)
answers_by limit script (Err stop) = []

-- what the duties of the trait of a stem come to among files: there are none where it isn't there
abbrev pub answers_on : ℕ → Table → List ℕ → List Answered
answers_on limit files stem = answers_by limit (script_among files stem) (trait_claims (read_files files) stem)

-- the first of these that has a label
abbrev pub answer_with : Label → List Answered → Option Answered
answer_with label answers = find (λ a. same_label label a.duty.label) answers

-- what may be derived of a duty: nothing where it isn't proved; else lines of a certificate of it over its own theory,
-- which can be written, and which don't end with an axiom line of a clause
abbrev pub IsDerived : Answered → Option (List Line) → Type 0
IsDerived a None = is_proved a.outcome ≡ false
IsDerived a (Some lines) = (a.outcome ≡ Proved) × IsFinished a.duty.theory a.duty.statement lines

-- the same where there may be no such duty
abbrev pub IsDerivedOf : Option Answered → Option (List Line) → Type 0
IsDerivedOf (Some a) derived = IsDerived a derived
IsDerivedOf None derived = derived ≡ None

-- What may be derived of the duty of a trait with a label among these files, with a rewriting limit: nothing exactly
-- where a report on them doesn't call it proved.
abbrev pub Derives : ℕ → Table → List ℕ → Label → Option (List Line) → Type 0
Derives limit files stem label derived = IsDerivedOf (answer_with label (answers_on limit files stem)) derived

-- a derivation as it is written: in the second version
abbrev pub derivation_text : List Line → List ℕ
derivation_text lines = certificate_text true lines

-- the line in front of a text of this length
abbrev pub length_line : ℕ → List ℕ
length_line n = codes "derivation " ++ (decimal n ++ codes "\n")

-- what is replied where one is asked for: its length and its text, or that there is none
abbrev pub derivation_reply : Option (List Line) → List ℕ
derivation_reply None = codes "none\n"
derivation_reply (Some lines) = length_line (length (derivation_text lines)) ++ derivation_text lines
