-- What is read of the trait files of a session.
use Rattle.std.specs.Prelude.{◌≡◌, ℕ, if◌then◌else◌, codes, fold, length, List, [], ◌++◌, Contains, Option, Some, None}
use Rattle.std.specs.Prelude.{Result}
use Rattle.std.specs.Result.{result_map_both}
use Rattle.larch_base.specs.FileName.{is_stem, is_trait_file, stem_of}
use Rattle.larch_base.specs.declared.code.Code.TheVariants.{Lex}
use Rattle.larch_base.specs.declared.fault.Fault.{Fault}
use Rattle.larch_lexer.specs.Lexing.{lexing_of}
use Rattle.larch_lexer.specs.TokenList.{TokenList}
use Rattle.larch_raw.specs.declared.equation.RawTrait.{RawTrait}
use Rattle.larch_syntax.specs.Read.{trait_of}
use Rattle.larch_base_meaning.specs.Steps.{after}
use Rattle.larch_duties_meaning.specs.FlatMeaningFlat.{FlatTrait}
use Rattle.larch_duties_meaning.specs.FlatMeaningReached.{AreReached}
use Rattle.larch_duties_meaning.specs.FlatMeaningStops.{Stop}
use Rattle.larch_duties_meaning.specs.Duties.{Duties, duties_named}
use Rattle.larch_flat.specs.FlatSourcesSources.{Table as Sources, files_in, put_text}
use Rattle.larch_flat.specs.Parts.{flat_trait}
use Rattle.larch_traits.specs.Files.{Table, names_of, text_of}

-- the tokens of a text, or the first byte that begins none
abbrev pub tokens_of : List ℕ → Result TokenList Fault
tokens_of text = result_map_both (λ tokens. tokens) (λ pos. record { pos = pos; code = Lex }) (lexing_of text)

-- the trait that a text is as it is written, or what is wrong with it first: a byte, or else its grammar
abbrev pub read_text : List ℕ → Result RawTrait Fault
read_text text = after (tokens_of text) trait_of

-- what is read so far, with the file of a name: a trait file by its stem
abbrev pub with_file : Sources → List ℕ → Option (List ℕ) → Sources
with_file read name None = read
with_file read name (Some text) = if is_trait_file name then put_text read (stem_of name) (read_text text) else read

-- what is read of the trait files, by their stems in byte order of the names
abbrev pub read_files : Table → Sources
read_files files = fold (λ read name. with_file read name (text_of files name)) [] (names_of files)

-- the flat trait of a stem among the trait files, or what is wrong with it first
abbrev pub flat_of : Table → List ℕ → Result FlatTrait Stop
flat_of files stem = flat_trait (read_files files) stem

-- the duties of the trait of a stem among the trait files, or what is wrong first: its flat trait comes before its
-- claims
abbrev pub duties_of : Table → List ℕ → Result Duties Stop
duties_of files stem = duties_named (length (read_files files)) (files_in (read_files files)) stem

-- the name of the trait file of a stem
abbrev pub file_of : List ℕ → List ℕ
file_of stem = stem ++ codes ".lsl"

-- the text of the trait file of a stem, where there is one
abbrev pub trait_text : Table → List ℕ → Option (List ℕ)
trait_text files stem = if is_stem stem then text_of files (file_of stem) else None

-- the trait files of these stems, and that there is none of some of them, decide the trait of a stem and its duties
abbrev pub AreDeciding : Table → List ℕ → List (List ℕ) → Type 0
AreDeciding files stem stems = AreReached (files_in (read_files files)) stem stems

-- of each of these stems the trait files have the same text, or both have none
abbrev pub HaveSame : List (List ℕ) → Table → Table → Type 0
HaveSame stems files others = (m : List ℕ) → Contains stems m → trait_text files m ≡ trait_text others m
