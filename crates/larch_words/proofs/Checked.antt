-- What files are named by.
use Rattle.std.proofs.Common.{◌≡◌, refl, subst, Bool, true, false, not, ◌&&◌, cond, List, [], ◌∷◌, ℕ, Option, Some}
use Rattle.std.proofs.Common.{None, is_some}
use Rattle.std.specs.List.{list_all}
use Rattle.std.specs.Str.{bytes_eq}
use Rattle.std.specs.Prelude.{codes, ◌<◌, ◌≤◌, length}
use Rattle.std.proofs.Common.{arith}
use Rattle.std.specs.Option.{option_and_then, option_map_or}
use Rattle.clap.specs.Walk.{is_empty}
use Rattle.larch_base.specs.FileName.{is_file_name, is_stem}
use Rattle.larch_base.specs.declared.label.Label.{Label}
use Rattle.larch_base.proofs.Bools.{and_right}
use Rattle.larch_words.specs.Call.{are_files, asked, call_of, call_from, files_named, generate_call}
use Rattle.larch_words.specs.Call.{generated_by, has_seed_or_size, is_certificate}
use Rattle.larch_words.specs.Call.{certificate_call, certified_by, complete_call, derive_call, derived_by}
use Rattle.larch_words.specs.Call.{is_model, limited_call, migrate_call, on_files, plain_call}
use Rattle.larch_words.specs.Call.{takes_limit, takes_seed, trial_call}
use Rattle.larch_words.specs.CommandLine.{Request, request_of}
use Rattle.larch_words.specs.Options.{limit_of, read_seed, read_size}
use Rattle.larch_base.specs.Label.{read_label}
use Rattle.larch_words.specs.declared.call.Call.{Call}
use Rattle.larch_words.specs.declared.call.Call.TheVariants.{Session, OnFiles, Migrate, Generate, Nothing}
use Rattle.larch_words.specs.declared.call.Generation.{Generation}
use Rattle.larch_words.specs.declared.call.Question.{Question}
use Rattle.larch_words.specs.declared.call.Question.TheVariants.{Check, Complete, Derive, Model, Obligations, Replay}
use Rattle.larch_words.specs.declared.call.Question.TheVariants.{Trim, Verify}
use Rattle.larch_words.specs.declared.call.Trial.{Trial}
use Rattle.larch_words.specs.declared.call.Verification.{Verification}
use Rattle.larch_words.specs.declared.options.TheConstants.{MAX_SEED, MAX_SIZE}
use Rattle.larch_words.proofs.Small.{IsAtMost, IsPositive, seed_at_most, size_at_most, size_positive}

-- the files that a call names have names of files
abbrev AreNamed : Call → Type 0
AreNamed call = list_all is_file_name (files_named call) ≡ true

either : (b : Bool) (x y : Call) → AreNamed x → AreNamed y → AreNamed (cond b x y)
either true x y p q = p
either false x y p q = q

asked_of : (question : Question) (these : List (List ℕ)) (b : Bool) → are_files these ≡ b
    → AreNamed (cond b (OnFiles question these) Nothing)
asked_of question these true e = and_right (not (is_empty these)) (list_all is_file_name these) e
asked_of question these false e = refl

on_files_named : (question : Question) (these : List (List ℕ)) → AreNamed (on_files question these)
on_files_named question these = asked_of question these (are_files these) refl

certified_by_named : (ask : Verification → Question) (stem : List ℕ) (label : Option Label) (certificate : List ℕ)
    (files : List (List ℕ)) → AreNamed (certified_by ask stem label certificate files)
certified_by_named ask stem None certificate files = refl
certified_by_named ask stem (Some label) certificate files =
    either (is_stem stem && is_certificate certificate) _ _
    (on_files_named (ask (record { stem = stem; label = label; certificate = certificate })) files) refl

certified_named : (ask : Verification → Question) (words : List (List ℕ)) → AreNamed (certificate_call ask words)
certified_named ask [] = refl
certified_named ask (stem ∷ []) = refl
certified_named ask (stem ∷ label ∷ []) = refl
certified_named ask (stem ∷ label ∷ certificate ∷ files) =
    certified_by_named ask stem (read_label label) certificate files

tried_named : (words : List (List ℕ)) → AreNamed (trial_call words)
tried_named [] = refl
tried_named (stem ∷ []) = refl
tried_named (stem ∷ model ∷ files) =
    either (is_stem stem && is_model model) _ _
    (on_files_named (Model (record { stem = stem; model = model })) files) refl

migrated_named : (words : List (List ℕ)) → AreNamed (migrate_call words)
migrated_named [] = refl
migrated_named (certificate ∷ others) =
    either (is_empty others) _ _ (either (is_certificate certificate) _ _ refl refl) refl

derived_by_named : (stem : List ℕ) (label : Option Label) (files : List (List ℕ)) (limit : ℕ)
    → AreNamed (derived_by stem label files limit)
derived_by_named stem None files limit = refl
derived_by_named stem (Some label) files limit =
    either (is_stem stem) _ _ (on_files_named (Derive (record { stem = stem; label = label }) limit) files) refl

derived_named : (words : List (List ℕ)) (limit : ℕ) → AreNamed (derive_call words limit)
derived_named [] limit = refl
derived_named (stem ∷ []) limit = refl
derived_named (stem ∷ label ∷ files) limit = derived_by_named stem (read_label label) files limit

completed_named : (words : List (List ℕ)) (limit : ℕ) → AreNamed (complete_call words limit)
completed_named [] limit = refl
completed_named (stem ∷ files) limit = either (is_stem stem) _ _ (on_files_named (Complete stem limit) files) refl

plain_named : (command : List ℕ) (words : List (List ℕ)) → AreNamed (plain_call command words)
plain_named command words =
    either (bytes_eq command (codes "check")) _ _ (on_files_named Check words)
    (either (bytes_eq command (codes "obligations")) _ _ (on_files_named Obligations words)
    (either (bytes_eq command (codes "verify")) _ _ (certified_named Verify words)
    (either (bytes_eq command (codes "model")) _ _ (tried_named words)
    (either (bytes_eq command (codes "trim")) _ _ (certified_named Trim words)
    (either (bytes_eq command (codes "migrate")) _ _ (migrated_named words) refl)))))

limited_named : (command : List ℕ) (words : List (List ℕ)) (limit : Option ℕ)
    → AreNamed (option_map_or (limited_call command words) limit Nothing)
limited_named command words None = refl
limited_named command words (Some limit) =
    either (bytes_eq command (codes "session")) _ _ (either (is_empty words) _ _ refl refl)
    (either (bytes_eq command (codes "replay")) _ _ (on_files_named (Replay limit) words)
    (either (bytes_eq command (codes "derive")) _ _ (derived_named words limit) (completed_named words limit)))

called_named : (command : List ℕ) (given : Bool) (limit : Option ℕ) (words : List (List ℕ))
    → AreNamed (call_from command given limit words)
called_named command given limit words =
    either (takes_limit command) _ _ (limited_named command words limit)
    (either given _ _ refl (plain_named command words))

generated_by_named : (seed size : Option ℕ) → AreNamed (generated_by seed size)
generated_by_named None size = refl
generated_by_named (Some seed) None = refl
generated_by_named (Some seed) (Some size) = refl

generated_named : (request : Request) → AreNamed (generate_call request)
generated_named request =
    either (is_some request.limit) _ _ refl
    (either (is_empty request.words) _ _
    (generated_by_named (option_and_then read_seed request.seed) (option_and_then read_size request.size)) refl)

found_named : (request : Option Request) → AreNamed (option_map_or asked request Nothing)
found_named None = refl
found_named (Some request) =
    either (takes_seed request.command) _ _ (generated_named request)
    (either (has_seed_or_size request) _ _ refl
    (called_named request.command (is_some request.limit) (limit_of request.limit) request.words))

pub names_files : (words : List (List ℕ)) → AreNamed (call_of words)
names_files words = found_named (request_of words)

-- beside its files a question names what has the name of a certificate, or of a model
abbrev HasEvidence : Question → Type 0
HasEvidence Check = Unit {0}
HasEvidence Obligations = Unit {0}
HasEvidence (Replay limit) = Unit {0}
HasEvidence (Verify asked) = is_certificate asked.certificate ≡ true
HasEvidence (Model tried) = is_model tried.model ≡ true
HasEvidence (Trim asked) = is_certificate asked.certificate ≡ true
HasEvidence (Derive duty limit) = Unit {0}
HasEvidence (Complete stem limit) = Unit {0}

-- a seed and a size are no larger than may be given, and the size is from 1
abbrev pub IsSmall : Generation → Type 0
IsSmall traits = (traits.seed ≤ MAX_SEED) × ((traits.size ≤ MAX_SIZE) × (0 < traits.size))

-- so does a call; and what it names of traits that are to be generated is small
abbrev pub IsEvidenced : Call → Type 0
IsEvidenced (Session limit) = Unit {0}
IsEvidenced (OnFiles question names) = HasEvidence question
IsEvidenced (Migrate certificate) = is_certificate certificate ≡ true
IsEvidenced (Generate traits) = IsSmall traits
IsEvidenced Nothing = Unit {0}

either_evidenced : (b : Bool) (x y : Call) → IsEvidenced x → IsEvidenced y → IsEvidenced (cond b x y)
either_evidenced true x y p q = p
either_evidenced false x y p q = q

on_files_evidenced : (question : Question) (these : List (List ℕ)) → HasEvidence question
    → IsEvidenced (on_files question these)
on_files_evidenced question these has = either_evidenced (are_files these) _ _ has tt

-- what is asked of a certificate names it
module _ (ask : Verification → Question)
    (has : (asked : Verification) → is_certificate asked.certificate ≡ true → HasEvidence (ask asked)) where
  certified_evidenced : (stem : List ℕ) (label : Label) (certificate : List ℕ) (files : List (List ℕ)) (b : Bool)
      → (is_stem stem && is_certificate certificate) ≡ b
      → IsEvidenced
      (cond b (on_files (ask (record { stem = stem; label = label; certificate = certificate })) files) Nothing)
  certified_evidenced stem label certificate files true e =
      let asked : Verification = record { stem = stem; label = label; certificate = certificate } in
      on_files_evidenced (ask asked) files (has asked (and_right (is_stem stem) (is_certificate certificate) e))
  certified_evidenced stem label certificate files false e = tt

  certified_by_evidenced : (stem : List ℕ) (label : Option Label) (certificate : List ℕ) (files : List (List ℕ))
      → IsEvidenced (certified_by ask stem label certificate files)
  certified_by_evidenced stem None certificate files = tt
  certified_by_evidenced stem (Some label) certificate files =
      certified_evidenced stem label certificate files (is_stem stem && is_certificate certificate) refl

  certificate_evidenced : (words : List (List ℕ)) → IsEvidenced (certificate_call ask words)
  certificate_evidenced [] = tt
  certificate_evidenced (stem ∷ []) = tt
  certificate_evidenced (stem ∷ label ∷ []) = tt
  certificate_evidenced (stem ∷ label ∷ certificate ∷ files) =
      certified_by_evidenced stem (read_label label) certificate files

tried_by_evidenced : (stem model : List ℕ) (files : List (List ℕ)) (b : Bool) → (is_stem stem && is_model model) ≡ b
    → IsEvidenced (cond b (on_files (Model (record { stem = stem; model = model })) files) Nothing)
tried_by_evidenced stem model files true e =
    on_files_evidenced (Model (record { stem = stem; model = model })) files
    (and_right (is_stem stem) (is_model model) e)
tried_by_evidenced stem model files false e = tt

tried_evidenced : (words : List (List ℕ)) → IsEvidenced (trial_call words)
tried_evidenced [] = tt
tried_evidenced (stem ∷ []) = tt
tried_evidenced (stem ∷ model ∷ files) =
    tried_by_evidenced stem model files (is_stem stem && is_model model) refl

migrated_by_evidenced : (certificate : List ℕ) (b : Bool) → is_certificate certificate ≡ b
    → IsEvidenced (cond b (Migrate certificate) Nothing)
migrated_by_evidenced certificate true e = e
migrated_by_evidenced certificate false e = tt

migrated_evidenced : (words : List (List ℕ)) → IsEvidenced (migrate_call words)
migrated_evidenced [] = tt
migrated_evidenced (certificate ∷ others) =
    either_evidenced (is_empty others) _ _
    (migrated_by_evidenced certificate (is_certificate certificate) refl) tt

derived_by_evidenced : (stem : List ℕ) (label : Option Label) (files : List (List ℕ)) (limit : ℕ)
    → IsEvidenced (derived_by stem label files limit)
derived_by_evidenced stem None files limit = tt
derived_by_evidenced stem (Some label) files limit =
    either_evidenced (is_stem stem) _ _
    (on_files_evidenced (Derive (record { stem = stem; label = label }) limit) files tt) tt

derived_evidenced : (words : List (List ℕ)) (limit : ℕ) → IsEvidenced (derive_call words limit)
derived_evidenced [] limit = tt
derived_evidenced (stem ∷ []) limit = tt
derived_evidenced (stem ∷ label ∷ files) limit = derived_by_evidenced stem (read_label label) files limit

completed_evidenced : (words : List (List ℕ)) (limit : ℕ) → IsEvidenced (complete_call words limit)
completed_evidenced [] limit = tt
completed_evidenced (stem ∷ files) limit =
    either_evidenced (is_stem stem) _ _ (on_files_evidenced (Complete stem limit) files tt) tt

plain_evidenced : (command : List ℕ) (words : List (List ℕ)) → IsEvidenced (plain_call command words)
plain_evidenced command words =
    either_evidenced (bytes_eq command (codes "check")) _ _ (on_files_evidenced Check words tt)
    (either_evidenced (bytes_eq command (codes "obligations")) _ _ (on_files_evidenced Obligations words tt)
    (either_evidenced (bytes_eq command (codes "verify")) _ _ (certificate_evidenced Verify (λ asked is. is) words)
    (either_evidenced (bytes_eq command (codes "model")) _ _ (tried_evidenced words)
    (either_evidenced (bytes_eq command (codes "trim")) _ _ (certificate_evidenced Trim (λ asked is. is) words)
    (either_evidenced (bytes_eq command (codes "migrate")) _ _ (migrated_evidenced words) tt)))))

limited_evidenced : (command : List ℕ) (words : List (List ℕ)) (limit : Option ℕ)
    → IsEvidenced (option_map_or (limited_call command words) limit Nothing)
limited_evidenced command words None = tt
limited_evidenced command words (Some limit) =
    either_evidenced (bytes_eq command (codes "session")) _ _ (either_evidenced (is_empty words) _ _ tt tt)
    (either_evidenced (bytes_eq command (codes "replay")) _ _ (on_files_evidenced (Replay limit) words tt)
    (either_evidenced (bytes_eq command (codes "derive")) _ _ (derived_evidenced words limit)
    (completed_evidenced words limit)))

called_evidenced : (command : List ℕ) (given : Bool) (limit : Option ℕ) (words : List (List ℕ))
    → IsEvidenced (call_from command given limit words)
called_evidenced command given limit words =
    either_evidenced (takes_limit command) _ _ (limited_evidenced command words limit)
    (either_evidenced given _ _ tt (plain_evidenced command words))

generated_by_evidenced : (seed size : Option ℕ) → IsAtMost MAX_SEED seed → IsAtMost MAX_SIZE size → IsPositive size
    → IsEvidenced (generated_by seed size)
generated_by_evidenced None size s m p = tt
generated_by_evidenced (Some seed) None s m p = tt
generated_by_evidenced (Some seed) (Some size) s m p = (s, (m, p))

generated_evidenced : (request : Request) → IsEvidenced (generate_call request)
generated_evidenced request =
    either_evidenced (is_some request.limit) _ _ tt
    (either_evidenced (is_empty request.words) _ _
    (generated_by_evidenced (option_and_then read_seed request.seed) (option_and_then read_size request.size)
    (seed_at_most request.seed) (size_at_most request.size) (size_positive request.size)) tt)

found_evidenced : (request : Option Request) → IsEvidenced (option_map_or asked request Nothing)
found_evidenced None = tt
found_evidenced (Some request) =
    either_evidenced (takes_seed request.command) _ _ (generated_evidenced request)
    (either_evidenced (has_seed_or_size request) _ _ tt
    (called_evidenced request.command (is_some request.limit) (limit_of request.limit) request.words))

names_evidence : (words : List (List ℕ)) → IsEvidenced (call_of words)
names_evidence words = found_evidenced (request_of words)

-- the certificate that a call names has the name of one
pub names_certificates : (words names : List (List ℕ)) (asked : Verification)
    → call_of words ≡ OnFiles (Verify asked) names → is_certificate asked.certificate ≡ true
names_certificates words names asked e = subst IsEvidenced e (names_evidence words)

pub names_trimmed : (words names : List (List ℕ)) (asked : Verification)
    → call_of words ≡ OnFiles (Trim asked) names → is_certificate asked.certificate ≡ true
names_trimmed words names asked e = subst IsEvidenced e (names_evidence words)

pub names_migrated : (words : List (List ℕ)) (certificate : List ℕ) → call_of words ≡ Migrate certificate
    → is_certificate certificate ≡ true
names_migrated words certificate e = subst IsEvidenced e (names_evidence words)

-- traits that are to be generated are few, and their seed is small
pub names_generated : (words : List (List ℕ)) (traits : Generation) → call_of words ≡ Generate traits → IsSmall traits
names_generated words traits e = subst IsEvidenced e (names_evidence words)

-- and so has the model
pub names_models : (words names : List (List ℕ)) (tried : Trial) → call_of words ≡ OnFiles (Model tried) names
    → is_model tried.model ≡ true
names_models words names tried e = subst IsEvidenced e (names_evidence words)

-- fewer than three words don't say what a certificate is to show
pub too_few : (ask : Verification → Question) (words : List (List ℕ)) → length words < 3
    → Nothing ≡ certificate_call ask words
too_few ask [] few = refl
too_few ask (stem ∷ []) few = refl
too_few ask (stem ∷ label ∷ []) few = refl
too_few ask (stem ∷ label ∷ certificate ∷ files) few = absurd (omega (arith, few))

-- fewer than two don't say what is to be tried
pub too_few_tried : (words : List (List ℕ)) → length words < 2 → Nothing ≡ trial_call words
too_few_tried [] few = refl
too_few_tried (stem ∷ []) few = refl
too_few_tried (stem ∷ model ∷ files) few = absurd (omega (arith, few))

-- fewer than two don't say of which duty a certificate is wanted
pub too_few_derived : (words : List (List ℕ)) (limit : ℕ) → length words < 2 → Nothing ≡ derive_call words limit
too_few_derived [] limit few = refl
too_few_derived (stem ∷ []) limit few = refl
too_few_derived (stem ∷ label ∷ files) limit few = absurd (omega (arith, few))

-- without a word there is no trait, and no certificate
pub too_few_completed : (words : List (List ℕ)) (limit : ℕ) → length words < 1 → Nothing ≡ complete_call words limit
too_few_completed [] limit few = refl
too_few_completed (stem ∷ files) limit few = absurd (omega (arith, few))

pub too_few_migrated : (words : List (List ℕ)) → length words < 1 → Nothing ≡ migrate_call words
too_few_migrated [] few = refl
too_few_migrated (certificate ∷ others) few = absurd (omega (arith, few))
