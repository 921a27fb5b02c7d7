-- What is read of files is written with words.
use Rattle.std.proofs.Common.{◌≡◌, ℕ, Bool, true, false, cond, length, List, [], ◌∷◌, All, Option, Some, None, Result}
use Rattle.std.proofs.Common.{Ok, Err, refl}
use Rattle.std.specs.Prelude.{bytes_eq, fold}
use Rattle.std.specs.Map.{lookup}
use Rattle.std.specs.Result.{result_map_both}
use Rattle.indexmap.specs.IndexMap.{insert_entry}
use Rattle.larch_base.specs.FileName.{is_trait_file, stem_of}
use Rattle.larch_base.specs.declared.code.Code.TheVariants.{Lex}
use Rattle.larch_base.specs.declared.fault.Fault.{Fault}
use Rattle.larch_duties_meaning.specs.CalculusRenaming.{HasPlainNames}
use Rattle.larch_lexer.specs.Lexing.{lexing_of}
use Rattle.larch_lexer.specs.TokenTable.{LexAnswer}
use Rattle.larch_raw.specs.Worded.{WordedTrait}
use Rattle.larch_raw.specs.declared.equation.RawTrait.{RawTrait}
use Rattle.larch_syntax.specs.Read.{trait_of}
use Rattle.larch_syntax.proofs.Words.{lexed_words, read_words}
use Rattle.larch_base_meaning.specs.Steps.{after}
use Rattle.larch_duties_meaning.proofs.TraitsItemsKept.{after_was}
use Rattle.larch_duties_meaning.specs.FlatMeaningLaws.{AreWorded}
use Rattle.larch_duties_meaning.specs.Claims.{claims_in, duty_of}
use Rattle.larch_duties_meaning.specs.Duties.{Duties, all_duties, duties}
use Rattle.larch_duties_meaning.specs.Laws.{IsDutyInWords, IsSoundDuty}
use Rattle.larch_duties_meaning.proofs.Claims.{each_has}
use Rattle.larch_duties_meaning.proofs.Plain.{duties_plain}
use Rattle.larch_duties_meaning.proofs.Sound.{duties_sound}
use Rattle.larch_duties_meaning.proofs.Words.{duties_words}
use Rattle.larch_flat.specs.FlatSourcesSources.{Table as Sources, files_in, put_text}
use Rattle.larch_flat.specs.Parts.{flat_trait}
use Rattle.larch_traits.specs.Files.{Table, names_of, text_of}
use Rattle.larch_traits.specs.Reading.{duties_of, read_files, read_text, with_file}

-- what is read is written with words
abbrev IsWorded : Result RawTrait Fault → Type 0
IsWorded text = (raw : RawTrait) → text ≡ Ok raw → WordedTrait raw

text_worded : (text : List ℕ) → IsWorded (read_text text)
text_worded text raw e = by_tokens (lexing_of text) refl e
  where
    by_tokens : (answer : LexAnswer) → lexing_of text ≡ answer
        → after (result_map_both (λ tokens. tokens) (λ pos. record { pos = pos; code = Lex }) answer) trait_of ≡ Ok raw
        → WordedTrait raw
    by_tokens (Ok tokens) f e = read_words tokens raw (lexed_words text tokens f) e
    by_tokens (Err position) f e = absurd cc

-- all that is read is
abbrev AreAllWorded : Sources → Type 0
AreAllWorded [] = Unit {0}
AreAllWorded (source ∷ sources) = IsWorded source.1 × AreAllWorded sources

first_worded : (same : Bool) (text : Result RawTrait Fault) (rest : Option (Result RawTrait Fault)) (raw : RawTrait)
    → IsWorded text → (rest ≡ Some (Ok raw) → WordedTrait raw)
    → cond same (Some text) rest ≡ Some (Ok raw) → WordedTrait raw
first_worded true text rest raw w k e = w raw cc
first_worded false text rest raw w k e = k e

found_worded : (sources : Sources) (name : List ℕ) (raw : RawTrait) → AreAllWorded sources
    → lookup (bytes_eq name) sources ≡ Some (Ok raw) → WordedTrait raw
found_worded [] name raw ws e = absurd cc
found_worded (source ∷ sources) name raw ws e =
    first_worded (bytes_eq name source.0) source.1 (lookup (bytes_eq name) sources) raw ws.0
    (found_worded sources name raw ws.1) e

put_first : (same : Bool) (source : List ℕ × Result RawTrait Fault) (sources next : Sources)
    (text : Result RawTrait Fault) → IsWorded source.1 → AreAllWorded sources → IsWorded text
    → AreAllWorded next → AreAllWorded (cond same ((source.0, text) ∷ sources) (source ∷ next))
put_first true source sources next text s ws w ns = (w, ws)
put_first false source sources next text s ws w ns = (s, ns)

put_worded : (sources : Sources) (name : List ℕ) (text : Result RawTrait Fault) → AreAllWorded sources → IsWorded text
    → AreAllWorded (insert_entry bytes_eq sources name text)
put_worded [] name text ws w = (w, tt)
put_worded (source ∷ sources) name text ws w =
    put_first (bytes_eq name source.0) source sources (insert_entry bytes_eq sources name text) text ws.0 ws.1 w
    (put_worded sources name text ws.1 w)

file_worded : (sources : Sources) (name : List ℕ) (text : Option (List ℕ)) → AreAllWorded sources
    → AreAllWorded (with_file sources name text)
file_worded sources name None ws = ws
file_worded sources name (Some text) ws = by_kind (is_trait_file name)
  where
    by_kind : (is_trait : Bool) → AreAllWorded
        (cond is_trait (put_text sources (stem_of name) (read_text text)) sources)
    by_kind true = put_worded sources (stem_of name) (read_text text) ws (text_worded text)
    by_kind false = ws

files_worded : (files : Table) (names : List (List ℕ)) (sources : Sources) → AreAllWorded sources
    → AreAllWorded (fold (λ read name. with_file read name (text_of files name)) sources names)
files_worded files [] sources ws = ws
files_worded files (name ∷ names) sources ws =
    files_worded files names (with_file sources name (text_of files name))
    (file_worded sources name (text_of files name) ws)

-- what is read of files is written with words
pub read_worded : (files : Table) → AreWorded (files_in (read_files files))
read_worded files name raw e = found_worded (read_files files) name raw (files_worded files (names_of files) [] tt) e

-- the duties of a trait are in words, and sound
module _ (files : Table) (stem : List ℕ) (d : Duties) (e : duties_of files stem ≡ Ok d) where
  abbrev read : Sources
  read = read_files files

  pub duties_worded : All IsDutyInWords (all_duties d)
  duties_worded =
      let p = after_was (flat_trait read stem) (duties (length read) (files_in read)) d e in
      duties_words (files_in read) (read_worded files) (length read) stem p.0 d p.1 p.2

  pub claims_worded : All (λ c. IsDutyInWords (duty_of c)) (claims_in d)
  claims_worded = each_has IsDutyInWords d duties_worded

  pub duties_are_theories : All IsSoundDuty (all_duties d)
  duties_are_theories =
      let p = after_was (flat_trait read stem) (duties (length read) (files_in read)) d e in
      duties_sound (files_in read) (read_worded files) (length read) stem p.0 d p.1 p.2

  pub duties_are_plain : All (λ duty. HasPlainNames duty.theory) (all_duties d)
  duties_are_plain =
      let p = after_was (flat_trait read stem) (duties (length read) (files_in read)) d e in
      duties_plain (files_in read) (length read) stem p.0 d p.1 p.2
