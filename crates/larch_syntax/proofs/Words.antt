-- What is lexed and read has the words of its text.
use Rattle.std.proofs.Common.{◌≡◌, ℕ, ◌+◌, IsTrue, List, [], ◌∷◌, ◌++◌, length, drop, Result, Ok, Err, ap, subst}
use Rattle.std.proofs.Math.Seq.{take-append_seam}
use Rattle.std.proofs.lemmas.List.Elements.{All-nil, All-cons, All-drop, All-take}
use Rattle.larch_base.specs.declared.fault.Fault.{Fault}
use Rattle.larch_base.specs.declared.position.Pos.{Pos}
use Rattle.larch_lexer.specs.Lexing.{lexed_line, lexing_of}
use Rattle.larch_lexer.specs.TokenList.{TokenList}
use Rattle.larch_lexer.specs.TokenTable.{has_form, LexAnswer, with_tokens, Lexes, at_end, skips_blank, skips_comment}
use Rattle.larch_lexer.specs.TokenTable.{takes_token, no_token}
use Rattle.larch_lexer.specs.declared.token.Token.{Token}
use Rattle.larch_lexer.proofs.OneAnswer.{lexes_given, line_lexes}
use Rattle.larch_grammar_law.specs.declared.mark.Flaw.{Flaw}
use Rattle.larch_grammar.specs.Answers.{reference_answer, term_answer, trait_answer}
use Rattle.larch_grammar.specs.WordTokens.{IsWordToken, AreWordTokens}
use Rattle.larch_grammar.proofs.Law.{reference_law, term_law, trait_law}
use Rattle.larch_grammar.proofs.Words.{equation_worded, reference_worded, trait_worded}
use Rattle.larch_raw.specs.Worded.{WordedEquation, WordedForm, WordedRef, WordedTrait}
use Rattle.larch_raw.specs.declared.declared.RawOpRef.{RawOpRef}
use Rattle.larch_raw.specs.declared.equation.RawEquation.{RawEquation}
use Rattle.larch_raw.specs.declared.equation.RawTrait.{RawTrait}
use Rattle.larch_syntax.specs.Read.{from_there, reference_of, term_of, with_fault, trait_of}

-- the words among the tokens that are answered are words
abbrev WordsIn : LexAnswer → Type 0
WordsIn (Ok all) = AreWordTokens all.tokens
WordsIn (Err position) = Unit {0}

one_more_word : (token : Token) (answer : LexAnswer) → IsWordToken token → WordsIn answer
    → WordsIn (with_tokens (token ∷ []) answer)
one_more_word token (Ok all) w ws = All-cons IsWordToken token all.tokens w ws
one_more_word token (Err position) w ws = ws

words_in : {position : Pos} {text : List ℕ} {answer : LexAnswer} → Lexes position text answer → WordsIn answer
words_in (at_end position) = All-nil IsWordToken
words_in (skips_blank blank rest) = words_in rest
words_in (skips_comment words rest inside ends on) = words_in on
words_in (takes_token {position} {answer} kind front behind longest rest) =
    one_more_word (record { kind = kind; text = front; pos = position }) answer
    (λ e. subst (λ k. IsTrue (has_form k front behind)) e longest.has_it) (words_in rest)
words_in (no_token position byte rest blank percent none) = record {}

-- the words among the tokens of a text are words
pub lexed_words : (text : List ℕ) (tokens : TokenList) → lexing_of text ≡ Ok tokens → AreWordTokens tokens.tokens
lexed_words text tokens e = words_in (lexes_given text (Ok tokens) e)

read_from : (answer : Result RawTrait (Flaw × Pos)) (raw : RawTrait) → with_fault answer ≡ Ok raw → answer ≡ Ok raw
read_from (Ok other) raw e = let p : other ≡ raw = cc in ap Ok p
read_from (Err found) raw e = absurd cc

-- what is read of them is written with words
pub read_words : (tokens : TokenList) (raw : RawTrait) → AreWordTokens tokens.tokens → trait_of tokens ≡ Ok raw
    → WordedTrait raw
read_words tokens raw ws e =
    let means = trait_law tokens (Ok raw) (read_from (trait_answer tokens) raw e) in
    trait_worded means.0 tokens.tokens raw ws means.1.1

-- so are those of a line
pub line_words : (number : ℕ) (line : List ℕ) (tokens : TokenList) → lexed_line number line ≡ Ok tokens
    → AreWordTokens tokens.tokens
line_words number line tokens e = subst WordsIn e (words_in (line_lexes number line))

-- the words of a front
front_words : (from : ℕ) (tokens before rest : List Token) → drop from tokens ≡ before ++ rest → AreWordTokens tokens
    → AreWordTokens before
front_words from tokens before rest e ws =
    subst AreWordTokens (take-append_seam before rest)
    (All-take IsWordToken (length before) (before ++ rest)
    (subst AreWordTokens e (All-drop IsWordToken from tokens ws)))

-- the value of a front that was read
abbrev first_or : {Value : Type 0} → Value → Result (Value × ℕ) Fault → Value
first_or value (Ok read) = read.0
first_or value (Err fault) = value

-- what was read at a front
front_from : {Value : Type 0} (from : ℕ) (answer : Result (Value × ℕ) (Flaw × Pos)) (read : Value × ℕ)
    → from_there from (with_fault answer) ≡ Ok read → (taken : ℕ) × (answer ≡ Ok (read.0, taken))
front_from from (Ok other) read e = (other.1, ap (λ v. Ok (v, other.1)) (ap (first_or other.0) e))
front_from from (Err found) read e = absurd cc

-- an equation or a lone term that is read of them says sorts that are words
pub equation_words : (tokens : TokenList) (from : ℕ) (read : RawEquation × ℕ) → AreWordTokens tokens.tokens
    → term_of tokens from ≡ Ok read → WordedEquation read.0
equation_words tokens from read ws e =
    let answered = front_from from (term_answer tokens from) read e in
    let means = (term_law tokens from (Ok (read.0, answered.0))).0 answered.1 in
    equation_worded means.0 read.0 (front_words from tokens.tokens means.0 means.1 means.2 ws) means.4

-- and a reference has such sorts, and such a name where it is a bare word
pub reference_words : (tokens : TokenList) (from : ℕ) (read : RawOpRef × ℕ) → AreWordTokens tokens.tokens
    → reference_of tokens from ≡ Ok read → WordedForm read.0.form × WordedRef read.0
reference_words tokens from read ws e =
    let answered = front_from from (reference_answer tokens from) read e in
    let means = (reference_law tokens from (Ok (read.0, answered.0))).0 answered.1 in
    reference_worded means.0 read.0 (front_words from tokens.tokens means.0 means.1 means.2 ws) means.4
