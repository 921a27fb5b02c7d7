-- What the words of the command line ask for.
use Rattle.std.specs.Prelude.{ℕ, nat_le, if◌then◌else◌, ◌-◌, ◌&&◌, ◌||◌, not, Bool, List, [], ◌∷◌, drop, length}
use Rattle.std.specs.Prelude.{codes, Option, Some, None, is_some, take}
use Rattle.std.specs.List.{list_all}
use Rattle.std.specs.Option.{option_and_then, option_map_or}
use Rattle.std.specs.Str.{bytes_eq}
use Rattle.clap.specs.Walk.{is_empty}
use Rattle.larch_base.specs.FileName.{is_file_name, is_stem}
use Rattle.larch_base.specs.Label.{read_label}
use Rattle.larch_base.specs.declared.label.Label.{Label}
use Rattle.larch_words.specs.CommandLine.{Request, request_of}
use Rattle.larch_words.specs.Options.{limit_of, read_seed, read_size}
use Rattle.larch_words.specs.declared.call.Call.{Call}
use Rattle.larch_words.specs.declared.call.Call.TheVariants.{Session, OnFiles, Migrate, Generate, Nothing}
use Rattle.larch_words.specs.declared.call.Question.{Question}
use Rattle.larch_words.specs.declared.call.Question.TheVariants.{Check, Complete, Derive, Model, Obligations, Replay}
use Rattle.larch_words.specs.declared.call.Question.TheVariants.{Trim, Verify}
use Rattle.larch_words.specs.declared.call.Verification.{Verification}

-- whether words are names of files, and there is one
abbrev pub are_files : List (List ℕ) → Bool
are_files words = not (is_empty words) && list_all is_file_name words

-- what is asked about files, where words are names of some
abbrev pub on_files : Question → List (List ℕ) → Call
on_files question words = if are_files words then OnFiles question words else Nothing

-- whether a word ends in `.cert`
abbrev pub is_certificate : List ℕ → Bool
is_certificate word = nat_le 5 (length word) && bytes_eq (drop (length word - 5) word) (codes ".cert")

-- this is asked of the certificate of a trait's duty, over these files
abbrev pub certified_by : (Verification → Question) → List ℕ → Option Label → List ℕ → List (List ℕ) → Call
certified_by ask stem None certificate files = Nothing
certified_by ask stem (Some label) certificate files =
    if is_stem stem && is_certificate certificate
    then on_files (ask (record { stem = stem; label = label; certificate = certificate })) files else Nothing

-- a trait, a label, a certificate and files
abbrev pub certificate_call : (Verification → Question) → List (List ℕ) → Call
certificate_call ask (stem ∷ label ∷ certificate ∷ files) = certified_by ask stem (read_label label) certificate files
certificate_call ask _ = Nothing

-- whether a word is a stem with `.mod` behind it
abbrev pub is_model : List ℕ → Bool
is_model word =
    nat_le 4 (length word)
    && (bytes_eq (drop (length word - 4) word) (codes ".mod") && is_stem (take (length word - 4) word))

-- a text is to be tried as a model of a trait, over these files
abbrev pub tried_by : List ℕ → List ℕ → List (List ℕ) → Call
tried_by stem model files =
    if is_stem stem && is_model model then on_files (Model (record { stem = stem; model = model })) files else Nothing

-- a trait, a model and files
abbrev pub trial_call : List (List ℕ) → Call
trial_call (stem ∷ model ∷ files) = tried_by stem model files
trial_call _ = Nothing

-- a certificate is to be written in the second version
abbrev pub migrated_by : List ℕ → Call
migrated_by certificate = if is_certificate certificate then Migrate certificate else Nothing

-- a certificate alone
abbrev pub migrated_alone : List ℕ → List (List ℕ) → Call
migrated_alone certificate others = if is_empty others then migrated_by certificate else Nothing

abbrev pub migrate_call : List (List ℕ) → Call
migrate_call (certificate ∷ others) = migrated_alone certificate others
migrate_call [] = Nothing

-- a certificate of a trait's duty is wanted, over these files
abbrev pub derived_by : List ℕ → Option Label → List (List ℕ) → ℕ → Call
derived_by stem None files limit = Nothing
derived_by stem (Some label) files limit =
    if is_stem stem then on_files (Derive (record { stem = stem; label = label }) limit) files else Nothing

-- a trait, a label and files
abbrev pub derive_call : List (List ℕ) → ℕ → Call
derive_call (stem ∷ label ∷ files) limit = derived_by stem (read_label label) files limit
derive_call _ limit = Nothing

-- rules are to decide the equations of a trait, over these files
abbrev pub completed_by : List ℕ → List (List ℕ) → ℕ → Call
completed_by stem files limit = if is_stem stem then on_files (Complete stem limit) files else Nothing

-- a trait and files
abbrev pub complete_call : List (List ℕ) → ℕ → Call
complete_call (stem ∷ files) limit = completed_by stem files limit
complete_call [] limit = Nothing

-- a session takes no words
abbrev pub session_call : List (List ℕ) → ℕ → Call
session_call words limit = if is_empty words then Session limit else Nothing

-- whether a command takes a rewriting limit
abbrev pub takes_limit : List ℕ → Bool
takes_limit command =
    bytes_eq command (codes "session") || bytes_eq command (codes "replay")
    || bytes_eq command (codes "derive") || bytes_eq command (codes "complete")

-- such a command with a limit
abbrev pub limited_call : List ℕ → List (List ℕ) → ℕ → Call
limited_call command words limit =
    if bytes_eq command (codes "session") then session_call words limit
    else if bytes_eq command (codes "replay") then on_files (Replay limit) words
    else if bytes_eq command (codes "derive") then derive_call words limit
    else complete_call words limit

-- a command without options
abbrev pub plain_call : List ℕ → List (List ℕ) → Call
plain_call command words =
    if bytes_eq command (codes "check") then on_files Check words
    else if bytes_eq command (codes "obligations") then on_files Obligations words
    else if bytes_eq command (codes "verify") then certificate_call Verify words
    else if bytes_eq command (codes "model") then trial_call words
    else if bytes_eq command (codes "trim") then certificate_call Trim words
    else if bytes_eq command (codes "migrate") then migrate_call words
    else Nothing

-- what a command with words asks for, by whether a limit was given, and which one it is
abbrev pub call_from : List ℕ → Bool → Option ℕ → List (List ℕ) → Call
call_from command given limit words =
    if takes_limit command then option_map_or (limited_call command words) limit Nothing
    else if given then Nothing
    else plain_call command words

-- what is asked for where neither a seed nor a size has a say
abbrev pub call_in : Request → Call
call_in request = call_from request.command (is_some request.limit) (limit_of request.limit) request.words

-- whether a command takes a seed and a size
abbrev pub takes_seed : List ℕ → Bool
takes_seed command = bytes_eq command (codes "generate")

-- traits are to be generated, by a seed and a size
abbrev pub generated_by : Option ℕ → Option ℕ → Call
generated_by (Some seed) (Some size) = Generate (record { seed = seed; size = size })
generated_by _ _ = Nothing

-- by these alone, without words
abbrev pub generated_alone : List (List ℕ) → Option ℕ → Option ℕ → Call
generated_alone words seed size = if is_empty words then generated_by seed size else Nothing

-- by those that are given
abbrev pub generation_in : Request → Call
generation_in request =
    generated_alone request.words (option_and_then read_seed request.seed) (option_and_then read_size request.size)

-- and without a limit
abbrev pub generate_call : Request → Call
generate_call request = if is_some request.limit then Nothing else generation_in request

-- whether a seed or a size was given
abbrev pub has_seed_or_size : Request → Bool
has_seed_or_size request = is_some request.seed || is_some request.size

-- no other command takes a seed or a size
abbrev pub asked : Request → Call
asked request =
    if takes_seed request.command then generate_call request
    else if has_seed_or_size request then Nothing
    else call_in request

-- what these words ask for; words without matches mean nothing
abbrev pub call_of : List (List ℕ) → Call
call_of words = option_map_or asked (request_of words) Nothing

-- the files that a call names
abbrev pub files_named : Call → List (List ℕ)
files_named (OnFiles question names) = names
files_named (Session limit) = []
files_named (Migrate certificate) = []
files_named (Generate traits) = []
files_named Nothing = []
