-- When all that a call needs is there.
use Rattle.std.specs.Prelude.{◌≡◌, ◌≤◌, ℕ, Bool, true, List, [], length, All, IsSomeAnd, Result, Ok, Err}
use Rattle.std.specs.List.{list_all}
use Rattle.larch_base.specs.declared.limits.TheConstants.{MAX_FILES, MAX_FILE_BYTES}
use Rattle.larch_certificate.specs.declared.line.Line.{Line}
use Rattle.larch_certificate_text.specs.CertificateText.{IsTextOf}
use Rattle.larch_session_meaning.specs.DutiesOwn.{trait_own_claims}
use Rattle.larch_session_meaning.specs.DutiesOwnOwnClaims.{OwnClaims}
use Rattle.larch_flat_meaning.specs.Stops.{Stop}
use Rattle.larch_io.specs.Folder.{FileMap, file_of}
use Rattle.larch_models_answer.specs.Judgements.{is_small}
use Rattle.larch_models_meaning.specs.ModelText.{read_model}
use Rattle.larch_models_meaning.specs.declared.finite_model.FiniteModel.{FiniteModel}
use Rattle.larch_term.specs.declared.statement.Statement.{Statement}
use Rattle.larch_traits.specs.Files.{Table}
use Rattle.larch_traits.specs.Reading.{read_files}
use Rattle.larch_words.specs.declared.call.Question.{Question}
use Rattle.larch_words.specs.declared.call.Question.TheVariants.{Check, Complete, Derive, Model, Obligations}
use Rattle.larch_words.specs.declared.call.Question.TheVariants.{Replay, Trim, Verify}
use Rattle.larch_main_files.specs.Gather.{Whole, evidence_in, gather_names}
use Rattle.larch_main_files.specs.declared.gather.Evidence.{Evidence}

-- a folder has a file of this name, and it isn't too long
abbrev pub HasShort : FileMap → List ℕ → Type 0
HasShort folder name = IsSomeAnd (file_of folder name) (λ bytes. length bytes ≤ MAX_FILE_BYTES)

-- a folder has the files of these names, none of them too long, and there aren't too many
abbrev pub HasFiles : FileMap → List (List ℕ) → Type 0
HasFiles folder names = All (HasShort folder) names × (length names ≤ MAX_FILES)

-- a text is that of a certificate, in either version
abbrev pub IsCertificate : List ℕ → Type 0
IsCertificate text = (second : Bool) × (lines : List Line) × IsTextOf text second lines

-- a folder has a certificate of this name, and it isn't too long
abbrev pub HasCertificate : FileMap → List ℕ → Type 0
HasCertificate folder name =
    IsSomeAnd (file_of folder name) (λ text. (length text ≤ MAX_FILE_BYTES) × IsCertificate text)

-- the certificate of this name and the files of these are all there, within the limits
abbrev pub IsCertificateThere : List ℕ → List (List ℕ) → FileMap → Type 0
IsCertificateThere certificate names folder =
    (evidence : Evidence) × (evidence_in folder certificate names ≡ Whole evidence) × IsCertificate evidence.text

-- each statement has few enough assignments to be tried
abbrev pub AreSmall : FiniteModel → List Statement → Type 0
AreSmall m ss = list_all (is_small m) ss ≡ true

-- A text is in the grammar of models of what a trait claims, and each statement has few enough assignments; where there
-- is no such trait, nothing is asked of it.
abbrev pub Suits : Result OwnClaims Stop → List ℕ → Type 0
Suits (Ok own) text =
    (m : FiniteModel) × (read_model own.theory.operators text ≡ Ok m)
    × AreSmall m own.theory.statements × AreSmall m own.assumed × AreSmall m own.implied
Suits (Err stop) text = Unit {0}

-- a folder has a file of this name that isn't too long, and suits a trait among these files as a model
abbrev pub HasModel : FileMap → List ℕ → List ℕ → List (List ℕ) → Type 0
HasModel folder name stem names =
    IsSomeAnd (file_of folder name)
    (λ text. (length text ≤ MAX_FILE_BYTES) × ((files : Table) → gather_names folder [] names ≡ Whole files
    → Suits (trait_own_claims (read_files files) stem) text))

-- what a question is about is all there, within the limits and in its grammar
abbrev pub IsThere : Question → List (List ℕ) → FileMap → Type 0
IsThere Check names folder = (files : Table) × (gather_names folder [] names ≡ Whole files)
IsThere Obligations names folder = (files : Table) × (gather_names folder [] names ≡ Whole files)
IsThere (Replay limit) names folder = (files : Table) × (gather_names folder [] names ≡ Whole files)
IsThere (Derive asked limit) names folder = (files : Table) × (gather_names folder [] names ≡ Whole files)
IsThere (Verify asked) names folder = IsCertificateThere asked.certificate names folder
IsThere (Trim asked) names folder = IsCertificateThere asked.certificate names folder
IsThere (Model tried) names folder =
    (evidence : Evidence) × (evidence_in folder tried.model names ≡ Whole evidence)
    × Suits (trait_own_claims (read_files evidence.files) tried.stem) evidence.text
IsThere (Complete stem limit) names folder = (files : Table) × (gather_names folder [] names ≡ Whole files)

-- a folder has what a question is about
abbrev pub HasAll : Question → List (List ℕ) → FileMap → Type 0
HasAll Check names folder = HasFiles folder names
HasAll Obligations names folder = HasFiles folder names
HasAll (Replay limit) names folder = HasFiles folder names
HasAll (Derive asked limit) names folder = HasFiles folder names
HasAll (Verify asked) names folder = HasCertificate folder asked.certificate × HasFiles folder names
HasAll (Trim asked) names folder = HasCertificate folder asked.certificate × HasFiles folder names
HasAll (Model tried) names folder = HasModel folder tried.model tried.stem names × HasFiles folder names
HasAll (Complete stem limit) names folder = HasFiles folder names
