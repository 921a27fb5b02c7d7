-- What is there is gathered, and where all is gathered a call is done.
use Rattle.std.proofs.Common.{◌≡◌, refl, sym, subst, ap, ◌∙◌, ℕ, ◌+◌, ◌<◌, ◌≤◌, Bool, true, false, cond, nat_lt}
use Rattle.std.proofs.Common.{◌||◌, ◌&&◌, not, nat_le, codes, List, [], ◌∷◌, length, Option, Some, None, Result, Ok}
use Rattle.std.proofs.Common.{Err, arith}
use Rattle.std.specs.List.{All, list_all}
use Rattle.std.specs.Prelude.{IsSomeAnd}
use Rattle.std.specs.Cmp.Lexicographic.{slice_cmp}
use Rattle.std.specs.Ordering.{match_ordering, nat_cmp}
use Rattle.std.specs.declared.cmp.Ordering.{Ordering}
use Rattle.std.specs.declared.cmp.Ordering.TheVariants.{Less, Equal, Greater}
use Rattle.std.proofs.lemmas.Bool.Decides.{nat_tests}
use Rattle.std.proofs.lemmas.List.Elements.{All-head, All-tail}
use Rattle.larch_base.proofs.Bools.{and_not_right}
use Rattle.larch_base.specs.declared.limits.TheConstants.{MAX_FILES, MAX_FILE_BYTES}
use Rattle.larch_certificate.specs.declared.line.Line.{Line}
use Rattle.larch_complete_answer.specs.Told.{completion_told}
use Rattle.larch_duties_meaning.specs.Duties.{Duty}
use Rattle.larch_session_meaning.specs.DutiesOwn.{trait_own_claims}
use Rattle.larch_session_meaning.specs.DutiesOwnOwnClaims.{OwnClaims}
use Rattle.larch_flat_meaning.specs.Stops.{Stop}
use Rattle.larch_io.specs.Folder.{FileMap, file_of}
use Rattle.larch_models_answer.specs.Judgements.{ending_of, finding_by, found, is_small, judge, judge_reading}
use Rattle.larch_models_answer.specs.declared.finding.Ending.TheVariants as ending_
use Rattle.larch_models_answer.specs.declared.finding.Finding.{Finding}
use Rattle.larch_models_meaning.specs.Computed.{holds}
use Rattle.larch_models_meaning.specs.FiniteModel.{first_failing, interpretation_of}
use Rattle.larch_models_meaning.specs.Interpretation.{Interpretation}
use Rattle.larch_models_meaning.specs.declared.finite_model.FiniteModel.{FiniteModel}
use Rattle.larch_term.specs.declared.statement.Statement.{Statement}
use Rattle.larch_term.specs.declared.statement.Theory.{Theory}
use Rattle.larch_report.specs.Counts.{counts_of, is_good}
use Rattle.larch_traits.specs.Files.{Table, has_file, put_file}
use Rattle.larch_traits.specs.Reading.{read_files}
use Rattle.larch_verify_meaning.specs.Acceptance.{verdict}
use Rattle.larch_words.specs.declared.call.Question.{Question}
use Rattle.larch_words.specs.declared.call.DutyName.{DutyName}
use Rattle.larch_words.specs.declared.call.Question.TheVariants.{Check, Complete, Derive, Model, Obligations}
use Rattle.larch_words.specs.declared.call.Question.TheVariants.{Replay, Trim, Verify}
use Rattle.larch_main_files.specs.Answer.{AnswersBy, IsAnswer, good_or_remains}
use Rattle.larch_main_files.specs.Check.{check_answer}
use Rattle.larch_main_files.specs.Complete.{AreSmall, HasAll, HasCertificate, HasFiles, HasShort, IsCertificate}
use Rattle.larch_main_files.specs.Complete.{IsCertificateThere, IsThere, Suits}
use Rattle.larch_main_files.specs.Completion.{completed_over, completion_answer}
use Rattle.larch_main_files.specs.Derive.{MayDerive, derivation_answer}
use Rattle.larch_main_files.specs.Gather.{Gathered, Whole, TooLarge, and_then, evidence_in, fetching, gather_names}
use Rattle.larch_main_files.specs.Gather.{putting}
use Rattle.larch_main_files.specs.Model.{ending_status, trial_answer, tried_over}
use Rattle.larch_main_files.specs.Obligations.{obligations_answer}
use Rattle.larch_main_files.specs.Questions.{MayAnswer}
use Rattle.larch_main_files.specs.Report.{check_of}
use Rattle.larch_main_files.specs.Replay.{replay_answer}
use Rattle.larch_main_files.specs.Theory.{trait_theory}
use Rattle.larch_main_status.specs.Status.{IsDone}
use Rattle.larch_main_status.specs.Limits.{put_is_refused}
use Rattle.larch_session_meaning.specs.Files.{report_of}
use Rattle.larch_main_files.specs.Trim.{left_read, trimming_answer}
use Rattle.larch_main_files.specs.Verify.{duty_in, judged_by, verdict_told, verification_answer}
use Rattle.larch_main_files.specs.declared.answer.Answer.{Answer}
use Rattle.larch_main_status.specs.declared.status.Status.{Status}
use Rattle.larch_main_files.proofs.Left.{left_keeps}
use Rattle.larch_main_files.proofs.Verdicts.{text_read}

either_done : (b : Bool) → IsDone (good_or_remains b)
either_done true = tt
either_done false = tt

verdict_done : (o : Option ℕ) → IsDone (verdict_told o).status
verdict_done None = tt
verdict_done (Some number) = tt

judged_done : (duty : Option Duty) (read : Bool × List Line) → IsDone (judged_by duty (Ok read)).status
judged_done None read = tt
judged_done (Some duty) read = verdict_done (verdict duty.theory duty.statement read.1)

ending_done : (b : Bool) → IsDone (ending_status (ending_of b))
ending_done true = tt
ending_done false = tt

found_done : (m : Interpretation) (assumed implied : List Statement) (o : Option ℕ)
    → IsDone (ending_status (finding_by m assumed implied o).ending)
found_done m assumed implied None = ending_done (list_all (holds m) assumed && list_all (holds m) implied)
found_done m assumed implied (Some k) = tt

judgement_done : (m : FiniteModel) (own : OwnClaims) → AreSmall m own.theory.statements → AreSmall m own.assumed
    → AreSmall m own.implied → IsDone (ending_status (judge m own.theory own.assumed own.implied).ending)
judgement_done m own stated assumed implied =
    let small : (list_all (is_small m) own.theory.statements
    && (list_all (is_small m) own.assumed && list_all (is_small m) own.implied)) ≡ true =
    ap (λ a. a && (list_all (is_small m) own.assumed && list_all (is_small m) own.implied)) stated
    ∙ ap (λ b. b && list_all (is_small m) own.implied) assumed ∙ implied in
    let claims : Finding = finding_by (interpretation_of m) own.assumed own.implied
    (first_failing (interpretation_of m) own.theory.statements) in
    subst (λ s. IsDone (ending_status (cond s claims (found (codes "too large\n") ending_.TooLarge)).ending))
    (sym small)
    (found_done (interpretation_of m) own.assumed own.implied
    (first_failing (interpretation_of m) own.theory.statements))

tried_done : (text : List ℕ) (claims : Result OwnClaims Stop) → Suits claims text
    → IsDone (tried_over text claims).status
tried_done text (Err stop) suits = tt
tried_done text (Ok own) (m, read, first, second, third) =
    subst (λ reading. IsDone (ending_status (judge_reading own.theory own.assumed own.implied reading).ending))
    (sym read) (judgement_done m own first second third)

derivation_done : (derived : Option (List Line)) → IsDone (derivation_answer derived).status
derivation_done None = tt
derivation_done (Some lines) = tt

derived_done : (limit : ℕ) (asked : DutyName) (files : Table) (text : List ℕ) (status : Status)
    → MayDerive limit asked files text status → IsDone status
derived_done limit asked files text status may = subst IsDone (sym may.answers.1) (derivation_done may.derivation)

completed_done : (limit : ℕ) (r : Result Theory Stop) → IsDone (completed_over limit r).status
completed_done limit (Ok theory) = either_done (completion_told theory limit).complete
completed_done limit (Err stop) = tt

-- what may be answered to what is whole
whole_answer : {A : Type 0} (told : A → Answer) (found : Gathered A) (a : A) (text : List ℕ) (status : Status)
    → found ≡ Whole a → AnswersBy (λ x. IsAnswer (told x)) found text status → IsDone (told a).status → IsDone status
whole_answer told found a text status whole is done =
    let answer : IsAnswer (told a) text status =
    subst (λ f. AnswersBy (λ x. IsAnswer (told x)) f text status) whole is in
    subst IsDone (sym answer.1) done

pub there_is_done : (question : Question) (names : List (List ℕ)) (folder : FileMap) (text : List ℕ) (status : Status)
    → IsThere question names folder → MayAnswer question names folder text status → IsDone status
there_is_done Check names folder text status there is =
    whole_answer check_answer (gather_names folder [] names) there.0 text status there.1 is
    (either_done (is_good (counts_of (check_of there.0))))
there_is_done Obligations names folder text status there is =
    whole_answer obligations_answer (gather_names folder [] names) there.0 text status there.1 is
    (either_done (is_good (counts_of (check_of there.0))))
there_is_done (Replay limit) names folder text status there is =
    whole_answer (replay_answer limit) (gather_names folder [] names) there.0 text status there.1 is
    (either_done (is_good (counts_of (report_of limit there.0))))
there_is_done (Derive asked limit) names folder text status there is =
    derived_done limit asked there.0 text status
    (subst (λ found. AnswersBy (MayDerive limit asked) found text status) there.1 is)
there_is_done (Verify asked) names folder text status (evidence, whole, (second, lines, is_text)) is =
    let duty = duty_in evidence.files asked.stem asked.label in
    whole_answer (verification_answer asked.stem asked.label) (evidence_in folder asked.certificate names) evidence text
    status whole is
    (subst (λ read. IsDone (judged_by duty read).status) (sym (text_read evidence.text second lines is_text))
    (judged_done duty (second, lines)))
there_is_done (Trim asked) names folder text status (evidence, whole, (second, lines, is_text)) is =
    let duty = duty_in evidence.files asked.stem asked.label in
    whole_answer (trimming_answer asked.stem asked.label) (evidence_in folder asked.certificate names) evidence text
    status whole is
    (subst (λ read. IsDone (left_read (judged_by duty read) read).status)
    (sym (text_read evidence.text second lines is_text))
    (left_keeps IsDone tt (judged_by duty (Ok (second, lines))) (Ok (second, lines))
    (judged_done duty (second, lines))))
there_is_done (Model tried) names folder text status (evidence, whole, suits) is =
    whole_answer (trial_answer tried.stem) (evidence_in folder tried.model names) evidence text status whole is
    (tried_done evidence.text (trait_own_claims (read_files evidence.files) tried.stem) suits)
there_is_done (Complete stem limit) names folder text status there is =
    whole_answer (completion_answer stem limit) (gather_names folder [] names) there.0 text status there.1 is
    (completed_done limit (trait_theory (read_files there.0) stem))

-- a file more makes the table longer by one at most
put_length_by : (file : List ℕ × List ℕ) (files : Table) (name text : List ℕ) (r : Ordering)
    → length (put_file files name text) ≤ length files + 1
    → length (match_ordering r ((name, text) ∷ file ∷ files) ((file.0, text) ∷ files) (file ∷ put_file files name text))
    ≤ length (file ∷ files) + 1
put_length_by file files name text Less more = omega arith
put_length_by file files name text Equal more = omega arith
put_length_by file files name text Greater more = omega (arith, more)

put_length : (files : Table) (name text : List ℕ) → length (put_file files name text) ≤ length files + 1
put_length [] name text = omega arith
put_length (file ∷ files) name text =
    put_length_by file files name text (slice_cmp nat_cmp name file.0) (put_length files name text)

else_whole : {A : Type 0} (b : Bool) (a : A) → b ≡ false → cond b TooLarge (Whole a) ≡ Whole a
else_whole true a e = cc
else_whole false a e = refl

neither : (a b : Bool) → a ≡ false → b ≡ false → (a || b) ≡ false
neither true b p q = cc
neither false b p q = q

not_refused : (files : Table) (name : List ℕ) → length files < MAX_FILES → put_is_refused files name ≡ false
not_refused files name few =
    let fewer : nat_le MAX_FILES (length files) ≡ false = grind (arith, nat_tests, few) in
    and_not_right (not (has_file files name)) (nat_le MAX_FILES (length files)) fewer

-- a name that is there is put in
put_whole : (files : Table) (name : List ℕ) (seen : Option (List ℕ))
    → IsSomeAnd seen (λ bytes. length bytes ≤ MAX_FILE_BYTES) → length files < MAX_FILES
    → (more : Table) × (putting files name seen ≡ Whole more) × (length more ≤ length files + 1)
put_whole files name None there few = absurd there
put_whole files name (Some bytes) there few =
    let small : nat_lt MAX_FILE_BYTES (length bytes) ≡ false = grind (arith, nat_tests) in (
      put_file files name bytes,
      else_whole _ (put_file files name bytes) (neither _ _ small (not_refused files name few)),
      put_length files name bytes,
    )

gathered_whole : (folder : FileMap) (names : List (List ℕ)) (files : Table) → All (HasShort folder) names
    → length files + length names ≤ MAX_FILES → (all : Table) × (gather_names folder files names ≡ Whole all)
gathered_whole folder [] files there few = (files, refl)
gathered_whole folder (name ∷ names) files there few =
    let one = put_whole files name (file_of folder name) (All-head (HasShort folder) name names there) (omega arith) in
    let size = one.2 in
    let rest = gathered_whole folder names one.0 (All-tail (HasShort folder) name names there) (omega (arith, size)) in
    (rest.0, ap (λ found. and_then found (λ more. gather_names folder more names)) one.1 ∙ rest.1)

files_whole : (folder : FileMap) (names : List (List ℕ)) → HasFiles folder names
    → (files : Table) × (gather_names folder [] names ≡ Whole files)
files_whole folder names there =
    let few = there.1 in gathered_whole folder names [] there.0 (omega (arith, few))

-- a certificate or a model that is there is fetched
pub fetched_whole : (name : List ℕ) (seen : Option (List ℕ)) (P : List ℕ → Type 0)
    → IsSomeAnd seen (λ text. (length text ≤ MAX_FILE_BYTES) × P text)
    → (text : List ℕ) × (fetching name seen ≡ Whole text) × P text
fetched_whole name None P there = absurd there
fetched_whole name (Some text) P (short, suits) =
    let small : nat_lt MAX_FILE_BYTES (length text) ≡ false = grind (arith, nat_tests, short) in
    (text, else_whole _ text small, suits)

-- a certificate and files that are there are gathered
certificate_whole : (certificate : List ℕ) (names : List (List ℕ)) (folder : FileMap)
    → HasCertificate folder certificate → HasFiles folder names → IsCertificateThere certificate names folder
certificate_whole certificate names folder here there =
    let c = fetched_whole certificate (file_of folder certificate) IsCertificate here in
    let f = files_whole folder names there in (
      record { text = c.0; files = f.0 },
      ap (λ found. and_then found (λ text.
          and_then (gather_names folder [] names) (λ files. Whole (record { text = text; files = files })))) c.1
          ∙ ap (λ found. and_then found (λ files. Whole (record { text = c.0; files = files }))) f.1,
      c.2,
    )

pub all_is_there : (question : Question) (names : List (List ℕ)) (folder : FileMap) → HasAll question names folder
    → IsThere question names folder
all_is_there Check names folder has = files_whole folder names has
all_is_there Obligations names folder has = files_whole folder names has
all_is_there (Replay limit) names folder has = files_whole folder names has
all_is_there (Derive asked limit) names folder has = files_whole folder names has
all_is_there (Complete stem limit) names folder has = files_whole folder names has
all_is_there (Verify asked) names folder has = certificate_whole asked.certificate names folder has.0 has.1
all_is_there (Trim asked) names folder has = certificate_whole asked.certificate names folder has.0 has.1
all_is_there (Model tried) names folder has =
    let c = fetched_whole tried.model (file_of folder tried.model)
    (λ text. (files : Table) → gather_names folder [] names ≡ Whole files
    → Suits (trait_own_claims (read_files files) tried.stem) text) has.0 in
    let f = files_whole folder names has.1 in (
      record { text = c.0; files = f.0 },
      ap (λ found. and_then found (λ text.
          and_then (gather_names folder [] names) (λ files. Whole (record { text = text; files = files })))) c.1
          ∙ ap (λ found. and_then found (λ files. Whole (record { text = c.0; files = files }))) f.1,
      c.2 f.0 f.1,
    )
