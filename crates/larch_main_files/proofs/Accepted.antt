-- What is accepted is derivable.
use Rattle.std.proofs.Common.{◌≡◌, ◌≢◌, refl, sym, ap, subst, ◌∙◌, ℕ, Bool, true, List, [], Option, Some, None}
use Rattle.std.proofs.Common.{Result, Ok, Err}
use Rattle.std.specs.Prelude.{bytes_eq, codes, length}
use Rattle.std.proofs.lemmas.List.Elements.{All-contains}
use Rattle.larch_base.specs.Label.{label_text}
use Rattle.larch_base.specs.declared.label.Label.{Label}
use Rattle.larch_calculus.specs.Derivable.{Derivable}
use Rattle.larch_calculus.specs.Renaming.{HasPlainNames}
use Rattle.larch_certificate.specs.declared.line.Line.{Line}
use Rattle.larch_certificate_text.specs.CertificateText.{read_certificate}
use Rattle.larch_verify_meaning.specs.Acceptance.{verdict}
use Rattle.larch_term.specs.Statement.{IsWellSortedTheory}
use Rattle.larch_term.specs.declared.statement.Statement.{Statement}
use Rattle.larch_term.specs.declared.statement.Theory.{Theory}
use Rattle.larch_traits_items.proofs.Kept.{after_was, found_is}
use Rattle.larch_traits.specs.FlatParts.{flat_trait}
use Rattle.larch_flat_sources.specs.Sources.{Table as Sources, files_in}
use Rattle.larch_traits.specs.Files.{Table}
use Rattle.larch_traits.specs.Reading.{read_files}
use Rattle.larch_traits.proofs.Worded.{read_worded}
use Rattle.larch_duties_meaning.specs.Duties.{Duty, all_duties}
use Rattle.larch_duties_meaning.specs.Laws.{IsSoundDuty}
use Rattle.larch_duties_meaning.proofs.Plain.{duties_plain}
use Rattle.larch_duties_meaning.proofs.Sound.{duties_sound}
use Rattle.larch_session_meaning.specs.DutiesTraitDuties.{claims_of, trait_duties}
use Rattle.larch_io.specs.Folder.{FileMap, file_of}
use Rattle.larch_models_answer.specs.Failing.{HasLine, failing_line}
use Rattle.larch_models_answer.proofs.Failing.{no_failing, words_lack}
use Rattle.larch_words.specs.declared.call.Verification.{Verification}
use Rattle.larch_main_files.specs.Answer.{AnswersBy, IsAnswer}
use Rattle.larch_main_files.specs.Gather.{Gathered, Whole, Absent, TooLarge, and_then, evidence_in, fetching}
use Rattle.larch_main_files.specs.Gather.{gather_names}
use Rattle.larch_main_files.specs.Model.{trial_answer}
use Rattle.larch_main_status.specs.declared.status.Status.{Status}
use Rattle.larch_main_files.specs.Verify.{IsShown, duty_in, judged_by, verdict_told, verification_answer}
use Rattle.larch_main_files.specs.declared.answer.Answer.{Answer}
use Rattle.larch_main_files.specs.declared.gather.Evidence.{Evidence}
use Rattle.larch_main_status.specs.declared.status.Status.TheVariants.{Good, NoFile, Size}
use Rattle.larch_main_files.proofs.Fails.{duty_from, fails_in_none}

-- a good answer is that to something whole
pub answer_good : {A : Type 0} (told : A → Answer) (found : Gathered A) (output : List ℕ)
    → AnswersBy (λ a. IsAnswer (told a)) found output Good
    → (whole : A) × (found ≡ Whole whole) × ((told whole).status ≡ Good) × (output ≡ (told whole).text)
answer_good told (Whole whole) output is = (whole, refl, sym is.1, is.0)
answer_good told (Absent name) output is = let other : Good ≡ NoFile = is.1 in cc
answer_good told TooLarge output is = let other : Good ≡ Size = is.1 in cc

pub then_whole : {A B : Type 0} (found : Gathered A) (next : A → Gathered B) (b : B) → and_then found next ≡ Whole b
    → (a : A) × (found ≡ Whole a) × (next a ≡ Whole b)
then_whole (Whole a) next b e = (a, refl, e)
then_whole (Absent name) next b e = cc
then_whole TooLarge next b e = cc

abbrev pub SameFound : Gathered Evidence → Gathered Evidence → Type 0
SameFound found other = found ≡ other

abbrev SameTables : Gathered Table → Gathered Table → Type 0
SameTables found other = found ≡ other

whole_inj : (one other : Table) → SameTables (Whole one) (Whole other) → one ≡ other
whole_inj one other e = cc

whole_same : (one e : Evidence) → SameFound (Whole one) (Whole e) → one.files ≡ e.files
whole_same one e is = let same : one ≡ e = cc in ap (λ x. x.files) same

-- the files of the evidence are those that were gathered
pub evidence_files : (folder : FileMap) (certificate : List ℕ) (names : List (List ℕ)) (e : Evidence)
    → evidence_in folder certificate names ≡ Whole e
    → gather_names folder [] names ≡ Whole e.files
evidence_files folder certificate names e is =
    let a = then_whole (fetching certificate (file_of folder certificate))
    (λ text. and_then (gather_names folder [] names) (λ files. Whole (record { text = text; files = files }))) e
    is in
    let b = then_whole (gather_names folder [] names)
    (λ files. Whole (record { text = a.0; files = files })) e a.2 in
    b.1 ∙ ap Whole (whole_same (record { text = a.0; files = b.0 }) e b.2)

told_good : (o : Option ℕ) → (verdict_told o).status ≡ Good → o ≡ None
told_good None e = refl
told_good (Some number) e = cc

-- a text is read as a certificate that is accepted for a duty
abbrev pub IsAcceptedFor : Option Duty → Result (Bool × List Line) ℕ → Type 0
IsAcceptedFor duty read =
    (d : Duty) × (duty ≡ Some d) × (p : Bool × List Line) × (read ≡ Ok p)
    × (verdict d.theory d.statement p.1 ≡ None)

pub judged_good : (duty : Option Duty) (read : Result (Bool × List Line) ℕ) → (judged_by duty read).status ≡ Good
    → IsAcceptedFor duty read
judged_good None (Ok read) e = cc
judged_good (Some d) (Ok read) e = (d, refl, read, refl, told_good (verdict d.theory d.statement read.1) e)
judged_good duty (Err number) e = cc

-- what is answered about a text as a model of a trait among files has a line that says that a claim fails
abbrev SaysFails : Label → List ℕ → List ℕ → Table → Type 0
SaysFails label stem text files =
    HasLine (trial_answer stem (record { text = text; files = files })).text (failing_line label)

-- the theory of a duty of a trait is well sorted, and its operators have plain names
pub duty_worded : (files : Table) (stem : List ℕ) (label : Label) (d : Duty) → duty_in files stem label ≡ Some d
    → IsWellSortedTheory d.theory × HasPlainNames d.theory
duty_worded files stem label d found =
    let sources : Sources = read_files files in
    let a = duty_from (label_text label) (trait_duties sources stem) d found in
    let b = after_was (flat_trait sources stem) (claims_of sources) a.0 a.1 in
    let c = found_is (λ x. bytes_eq (label_text label) (label_text x.label)) (all_duties a.0) d a.2 in
    let sound = All-contains IsSoundDuty (all_duties a.0) d
    (duties_sound (files_in sources) (read_worded files) (length sources) stem b.0 a.0 b.1 b.2) c.0 in
    let plain = All-contains (λ x. HasPlainNames x.theory) (all_duties a.0) d
    (duties_plain (files_in sources) (length sources) stem b.0 a.0 b.1 b.2) c.0 in
    (sound.0.0.well_sorted, plain)

module _ (law : (t : Theory) (s : Statement) (lines : List Line) → IsWellSortedTheory t → HasPlainNames t
    → verdict t s lines ≡ None → Derivable t s) where
  -- a duty for which the certificate among these is accepted is so
  pub shown_by : (asked : Verification) (names : List (List ℕ)) (folder : FileMap) (e : Evidence)
      → evidence_in folder asked.certificate names ≡ Whole e
      → (verification_answer asked.stem asked.label e).status ≡ Good → IsShown folder asked names
  shown_by asked names folder e from good =
      let j = judged_good (duty_in e.files asked.stem asked.label) (read_certificate true e.text) good in
      let w = duty_worded e.files asked.stem asked.label j.0 j.1 in
      let so = law j.0.theory j.0.statement j.2.1 w.0 w.1 j.4 in
      record {
        files = e.files;
        are_files = evidence_files folder asked.certificate names e from;
        duty = j.0;
        is_duty = j.1;
        derivable = so;
        fails_nowhere = fails_in_none e.files asked.stem asked.label j.0 j.1 w.0 so;
      }

  pub shown : (asked : Verification) (names : List (List ℕ)) (folder : FileMap) (output : List ℕ)
      → AnswersBy (λ evidence. IsAnswer (verification_answer asked.stem asked.label evidence))
      (evidence_in folder asked.certificate names) output Good → IsShown folder asked names
  shown asked names folder output is =
      let a = answer_good (verification_answer asked.stem asked.label)
      (evidence_in folder asked.certificate names) output is in
      shown_by asked names folder a.0 a.1 a.2

  -- nothing that is answered about a model of the trait has a line that says that the duty fails
  pub never_fails : (asked : Verification) (names : List (List ℕ)) (folder : FileMap) (output : List ℕ)
      → AnswersBy (λ evidence. IsAnswer (verification_answer asked.stem asked.label evidence))
      (evidence_in folder asked.certificate names) output Good
      → (stem model text : List ℕ) (status : Status) → stem ≡ asked.stem → status ≢ NoFile
      → AnswersBy (λ evidence. IsAnswer (trial_answer stem evidence)) (evidence_in folder model names) text status
      → HasLine text (failing_line asked.label) → ⊥
  never_fails asked names folder output is stem model text status same here answers h =
      by_found (shown asked names folder output is) (evidence_in folder model names) refl answers
    where
      by_found : IsShown folder asked names → (found : Gathered Evidence) → evidence_in folder model names ≡ found
          → AnswersBy (λ evidence. IsAnswer (trial_answer stem evidence)) found text status → ⊥
      by_found s (Whole e) from answer =
          let files : e.files ≡ s.files =
          whole_inj e.files s.files (sym (evidence_files folder model names e from) ∙ s.are_files) in
          let says : SaysFails asked.label stem e.text e.files =
          subst (λ t. HasLine t (failing_line asked.label)) answer.0 h in
          s.fails_nowhere e.text
          (subst (λ t. SaysFails asked.label t e.text s.files) same
          (subst (SaysFails asked.label stem e.text) files says))
      by_found s (Absent name) from answer = here answer.1
      by_found s TooLarge from answer =
          no_failing asked.label (codes "too large") (words_lack (codes "too large") refl) refl
          (subst (λ t. HasLine t (failing_line asked.label)) answer.0 h)
