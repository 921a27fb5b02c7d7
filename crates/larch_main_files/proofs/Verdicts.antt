-- The verdict on a certificate for a duty.
use Rattle.std.proofs.Common.{◌≡◌, refl, subst, sym, ap, ◌∙◌, ℕ, Bool, true, false, List, Option, Some, None}
use Rattle.std.proofs.Common.{option_map, Result, Ok, Err, IfOk}
use Rattle.std.specs.Prelude.{suc, is_some, length}
use Rattle.larch_base.specs.Answering.{Answers}
use Rattle.larch_base.proofs.Options.{some_inj}
use Rattle.larch_base.specs.Label.{label_text}
use Rattle.larch_base.specs.declared.fault.Fault.{Fault}
use Rattle.larch_base.specs.declared.label.Label.{Label}
use Rattle.larch_raw.specs.declared.equation.RawTrait.{RawTrait}
use Rattle.larch_certificate.specs.declared.line.Line.{Line}
use Rattle.larch_certificate_text.specs.CertificateText.{IsTextOf, read_certificate}
use Rattle.larch_certificate_text.proofs.CertificateLaws.{certificate_again}
use Rattle.larch_verify_meaning.specs.Acceptance.{verdict}
use Rattle.larch_term.specs.declared.statement.Statement.{Statement}
use Rattle.larch_term.specs.declared.statement.Theory.{Theory}
use Rattle.larch_base.specs.declared.code.Code.{Code}
use Rattle.larch_base.specs.declared.position.Pos.{Pos}
use Rattle.larch_base_meaning.specs.Steps.{after}
use Rattle.larch_traits_items.specs.declared.refusal.TraitRefusal.{TraitRefusal}
use Rattle.larch_traits_items.specs.declared.refusal.TraitRefusal.TheVariants.{Wrong}
use Rattle.larch_flat_meaning.specs.Files.{Files, is_there}
use Rattle.larch_flat_meaning.specs.Flat.{FlatTrait, flat, flat_by, flat_file}
use Rattle.larch_flat_meaning.specs.Stops.{Stop, Refused}
use Rattle.larch_traits.specs.FlatKnown.{stop_told}
use Rattle.larch_flat_sources.specs.Sources.{Table as Sources, files_in, name_at}
use Rattle.larch_traits.specs.Files.{Table}
use Rattle.larch_traits.specs.Reading.{read_files}
use Rattle.larch_duties_meaning.specs.Duties.{Duties, Duty}
use Rattle.larch_session_meaning.specs.DutiesTraitDuties.{claims_of, trait_duties}
use Rattle.larch_main_files.specs.Verify.{duty_among, duty_in, verdict_of, judged_by, verdict_told}
use Rattle.larch_main_files.specs.declared.answer.Answer.{Answer}
use Rattle.larch_main_files.proofs.Answering.{same_ok}

-- the text of a certificate is read as it, in either version
pub text_read : (text : List ℕ) (second : Bool) (lines : List Line) → IsTextOf text second lines
    → read_certificate true text ≡ Ok (second, lines)
text_read text second lines is = ap (read_certificate true) is.0 ∙ certificate_again true second lines refl is.1

-- what is told where a theory and a statement are found
abbrev pair_told : List Line → Theory × Statement → Answer
pair_told lines p = verdict_told (verdict p.0 p.1 lines)

abbrev SamePair : Option (Theory × Statement) → Option (Theory × Statement) → Type 0
SamePair found other = found ≡ other

pair_same : (p q : Theory × Statement) → SamePair (Some p) (Some q) → p ≡ q
pair_same p q e = some_inj e

-- a duty that was found is judged by its theory and its statement
pub found_judged : (duty : Option Duty) (theory : Theory) (statement : Statement) (lines : List Line)
    → option_map {U = Theory × Statement} (λ d. (d.theory, d.statement)) duty ≡ Some (theory, statement)
    → verdict_of duty lines ≡ verdict_told (verdict theory statement lines)
found_judged None theory statement lines e = cc
found_judged (Some duty) theory statement lines e =
    ap (pair_told lines) (pair_same (duty.theory, duty.statement) (theory, statement) e)

pub none_judged : (duty : Option Duty) (lines : List Line)
    → option_map {U = Theory × Statement} (λ d. (d.theory, d.statement)) duty ≡ None
    → verdict_of duty lines ≡ verdict_of None lines
none_judged None lines e = refl
none_judged (Some duty) lines e = cc

-- a trait whose file isn't there has no duty
absent_by : (limit : ℕ) (files : Files) (name : List ℕ) (next : List ℕ → Result FlatTrait Stop) (label : List ℕ)
    (claims : FlatTrait → Result Duties Stop)
    → is_some (files name) ≡ false
    → duty_among label (after (flat_file limit files name next (files name)) claims) ≡ None
absent_by limit files name next label claims e = by_text (files name) e
  where
    by_text : (text : Option (Result RawTrait Fault)) → is_some text ≡ false
        → duty_among label (after (flat_file limit files name next text) claims) ≡ None
    by_text None e = refl
    by_text (Some text) e = cc

pub absent_has_none : (sources : Sources) (name label : List ℕ) → is_there (files_in sources) name ≡ false
    → duty_among label (trait_duties sources name) ≡ None
unfolding flat
absent_has_none sources name label e =
    absent_by (suc (length sources)) (files_in sources) name
    (flat_by (length sources) (suc (length sources)) (files_in sources)) label (claims_of sources) e

-- nor has one that is refused
pub refused_has_none : (sources : Sources) (name label : List ℕ) (stop : Stop) → trait_duties sources name ≡ Err stop
    → duty_among label (trait_duties sources name) ≡ None
refused_has_none sources name label stop e = ap (duty_among label) e

-- what is judged where no file has the trait's name
pub judged_absent : (files : Table) (stem : List ℕ) (label : Label) (lines : List Line) (sources : Sources)
    (place : Option ℕ) → sources ≡ read_files files
    → is_some place ≡ is_there (files_in sources) stem → place ≡ None
    → verdict_of None lines ≡ verdict_of (duty_in files stem label) lines
judged_absent files stem label lines sources place read there none =
    let absent : is_there (files_in sources) stem ≡ false = sym there ∙ ap is_some none in
    let has_none : duty_among (label_text label) (trait_duties sources stem) ≡ None =
    absent_has_none sources stem (label_text label) absent in
    ap (λ duty. verdict_of duty lines) (sym has_none)
    ∙ ap (λ s. verdict_of (duty_among (label_text label) (trait_duties s stem)) lines) read

-- and where something is wrong with the trait
pub judged_refused : (files : Table) (stem : List ℕ) (label : Label) (lines : List Line) (sources : Sources)
    (number : ℕ) (result : Result Duties TraitRefusal)
    (refusal : TraitRefusal) (pos : Pos) (code : Code) → sources ≡ read_files files → name_at sources number ≡ stem
    → result ≡ Err refusal → refusal ≡ Wrong pos code
    → Answers stop_told result (trait_duties sources (name_at sources number))
    → verdict_of None lines ≡ verdict_of (duty_in files stem label) lines
judged_refused files stem label lines sources number result refusal pos code read name is wrong answers =
    let says : Answers stop_told (Err (Wrong pos code)) (trait_duties sources (name_at sources number)) =
    subst (λ r. Answers stop_told (Err r) (trait_duties sources (name_at sources number))) wrong
    (subst (λ r. Answers stop_told r (trait_duties sources (name_at sources number))) is answers) in
    let has_none : duty_among (label_text label) (trait_duties sources (name_at sources number)) ≡ None =
    refused_has_none sources (name_at sources number) (label_text label)
    (Refused (record { pos = pos; code = code })) says in
    ap (λ duty. verdict_of duty lines) (sym has_none)
    ∙ ap (λ n. verdict_of (duty_among (label_text label) (trait_duties sources n)) lines) name
    ∙ ap (λ s. verdict_of (duty_among (label_text label) (trait_duties s stem)) lines) read

-- what is answered to a verdict on a duty that was found
pub told_found : {E : Type 0} (duty : Option Duty) (found : Option (Theory × Statement)) (theory : Theory)
    (statement : Statement) (lines : List Line) (v : Option ℕ)
    (result : Result Answer E) → found ≡ option_map {U = Theory × Statement} (λ d. (d.theory, d.statement)) duty
    → found ≡ Some (theory, statement) → v ≡ verdict theory statement lines
    → IfOk result (λ answer. answer ≡ verdict_told v) → IfOk result (λ answer. answer ≡ verdict_of duty lines)
told_found duty found theory statement lines v result by is says told =
    same_ok (verdict_told v) (verdict_of duty lines) result
    (ap verdict_told says ∙ sym (found_judged duty theory statement lines (sym by ∙ is))) told

-- and where none was found
pub told_none : {E : Type 0} (duty : Option Duty) (found : Option (Theory × Statement)) (lines : List Line)
    (result : Result Answer E)
    → found ≡ option_map {U = Theory × Statement} (λ d. (d.theory, d.statement)) duty → found ≡ None
    → IfOk result (λ answer. answer ≡ verdict_of None lines)
    → IfOk result (λ answer. answer ≡ verdict_of duty lines)
told_none duty found lines result by is told =
    same_ok (verdict_of None lines) (verdict_of duty lines) result (sym (none_judged duty lines (sym by ∙ is))) told

-- what is answered to the lines that a text is read as
pub told_text : {E : Type 0} (duty : Option Duty) (seen text : List ℕ) (second : Bool) (lines shown : List Line)
    (result : Result Answer E) → seen ≡ text → read_certificate true seen ≡ Ok (second, lines)
    → shown ≡ lines → IfOk result (λ answer. answer ≡ verdict_of duty shown)
    → IfOk result (λ answer. answer ≡ judged_by duty (read_certificate true text))
told_text duty seen text second lines shown result same read all told =
    same_ok (verdict_of duty shown) (judged_by duty (read_certificate true text)) result
    (ap (verdict_of duty) all ∙ sym (ap (judged_by duty) (ap (read_certificate true) (sym same) ∙ read))) told
