-- Tokens as the grammar knows them.
use Rattle.std.specs.Prelude.{ℕ, List, ◌∷◌, Bool, true, false, cond, codes, ◌&&◌, ◌||◌}
use Rattle.std.specs.Char.{is_ascii_lowercase}
use Rattle.std.specs.Str.{bytes_eq}
use Rattle.larch_base.specs.Position.{start_of_text}
use Rattle.larch_base.specs.declared.position.Pos.{Pos}
use Rattle.larch_lexer.specs.declared.token.Kind.{Kind}
use Rattle.larch_lexer.specs.declared.token.Kind.TheVariants as kind
use Rattle.larch_lexer.specs.declared.token.Token.{Token}
use Rattle.larch_grammar.specs.declared.terminal.Bracket.TheVariants.{Square, Curly}
use Rattle.larch_grammar.specs.declared.terminal.Terminal.{Terminal}
use Rattle.larch_grammar.specs.declared.terminal.Terminal.TheVariants.{Word, Symbol, Not, Connective, Equality, Equates}
use Rattle.larch_grammar.specs.declared.terminal.Terminal.TheVariants.{Arrow, Colon, Comma, Semicolon, Dot, Marker}
use Rattle.larch_grammar.specs.declared.terminal.Terminal.TheVariants.{Open, Close, OpenBracket, CloseBracket, ForAll}
use Rattle.larch_grammar.specs.declared.terminal.Terminal.TheVariants.{Trait, Introduces, Asserts, Implies, Converts}
use Rattle.larch_grammar.specs.declared.terminal.Terminal.TheVariants.{Exempting, Generated, Partitioned, By, Includes}
use Rattle.larch_grammar.specs.declared.terminal.Terminal.TheVariants.{Assumes, For, Enumeration, Tuple, Union, Of, If}
use Rattle.larch_grammar.specs.declared.terminal.Terminal.TheVariants.{Then, Else, Other}

-- the text begins with two small letters, as each reserved word does
abbrev pub begins_reserved : List ℕ → Bool
begins_reserved (first ∷ second ∷ bytes) = is_ascii_lowercase first && is_ascii_lowercase second
begins_reserved _ = false

-- a word of terms, or one that isn't reserved
abbrev pub term_word : List ℕ → Pos → Terminal
term_word text pos =
    cond (bytes_eq text (codes "if")) (If pos)
    (cond (bytes_eq text (codes "then")) Then
    (cond (bytes_eq text (codes "else")) Else (Word (record { name = text; pos = pos }))))

-- a word of what a trait is said to imply and to convert, or one of those above; and whether references follow
-- `implies`
abbrev pub claim_word : Bool → List ℕ → Pos → Terminal
claim_word lists text pos =
    cond (bytes_eq text (codes "implies")) (Implies lists)
    (cond (bytes_eq text (codes "converts")) Converts
    (cond (bytes_eq text (codes "exempting")) Exempting (term_word text pos)))

-- a word of shorthands and references, or one of those above
abbrev pub head_word : Bool → List ℕ → Pos → Terminal
head_word lists text pos =
    cond (bytes_eq text (codes "includes")) Includes
    (cond (bytes_eq text (codes "assumes")) Assumes
    (cond (bytes_eq text (codes "for")) For
    (cond (bytes_eq text (codes "enumeration")) Enumeration
    (cond (bytes_eq text (codes "tuple")) Tuple
    (cond (bytes_eq text (codes "union")) Union
    (cond (bytes_eq text (codes "of")) Of (claim_word lists text pos)))))))

-- a token of kind word with this text, which stands there
abbrev pub word_terminal : Bool → List ℕ → Pos → Terminal
word_terminal lists text pos =
    cond (bytes_eq text (codes "trait")) Trait
    (cond (bytes_eq text (codes "introduces")) Introduces
    (cond (bytes_eq text (codes "asserts")) Asserts
    (cond (bytes_eq text (codes "generated")) Generated
    (cond (bytes_eq text (codes "partitioned")) Partitioned
    (cond (bytes_eq text (codes "by")) By (head_word lists text pos))))))

-- a run: one with a meaning of its own, or a symbol
abbrev pub run_terminal : List ℕ → Pos → Terminal
run_terminal text pos =
    cond (bytes_eq text (codes "->")) Arrow
    (cond (bytes_eq text (codes "==")) (Equates pos)
    (cond (bytes_eq text (codes "=") || bytes_eq text (codes "~=")) (Equality (record { name = text; pos = pos }))
    (cond (bytes_eq text (codes "~")) (Not (record { name = text; pos = pos }))
    (cond (bytes_eq text (codes "=>") || bytes_eq text (codes "<=>")) (Connective (record { name = text; pos = pos }))
    (Symbol (record { name = text; pos = pos }))))))

-- a bracket
abbrev pub bracket_terminal : List ℕ → Pos → Terminal
bracket_terminal text pos =
    cond (bytes_eq text (codes "(")) (Open pos)
    (cond (bytes_eq text (codes ")")) Close
    (cond (bytes_eq text (codes "[")) (OpenBracket Square pos)
    (cond (bytes_eq text (codes "]")) (CloseBracket Square)
    (cond (bytes_eq text (codes "{")) (OpenBracket Curly pos)
    (cond (bytes_eq text (codes "}")) (CloseBracket Curly) Other)))))

-- punctuation
abbrev pub punctuation_terminal : List ℕ → Pos → Terminal
punctuation_terminal text pos =
    cond (bytes_eq text (codes ":")) (Colon pos)
    (cond (bytes_eq text (codes ",")) Comma
    (cond (bytes_eq text (codes ";")) Semicolon
    (cond (bytes_eq text (codes ".")) (Dot pos) (bracket_terminal text pos))))

-- a token of this kind with this text, which stands there, where references follow `implies` or not
abbrev pub terminal_by : Bool → Kind → List ℕ → Pos → Terminal
terminal_by lists kind.Word text pos = word_terminal lists text pos
terminal_by lists kind.Marker text pos = Marker pos
terminal_by lists kind.Backslash text pos =
    cond (bytes_eq text (codes "\\forall")) ForAll (Symbol (record { name = text; pos = pos }))
terminal_by lists kind.Connective text pos = Connective (record { name = text; pos = pos })
terminal_by lists kind.Run text pos = run_terminal text pos
terminal_by lists kind.Punctuation text pos = punctuation_terminal text pos

-- a token, where references follow `implies` or not
abbrev pub terminal_of : Bool → Token → Terminal
terminal_of lists token = terminal_by lists token.kind token.text token.pos

-- where a token stands that can begin an equation
abbrev pub position_of : Terminal → Pos
position_of (Word w) = w.pos
position_of (Symbol x) = x.pos
position_of (Not x) = x.pos
position_of (Open p) = p
position_of (OpenBracket b p) = p
position_of (If p) = p
position_of _ = start_of_text

-- a list of references ends before this token, or goes on with it: `,`, `\forall`, a word or a reserved word
abbrev pub ends_reference : Terminal → Bool
ends_reference (Symbol x) = false
ends_reference (Not x) = false
ends_reference (Connective x) = false
ends_reference (Equality x) = false
ends_reference (Equates p) = false
ends_reference Arrow = false
ends_reference (Colon p) = false
ends_reference Semicolon = false
ends_reference (Dot p) = false
ends_reference (Marker p) = false
ends_reference (Open p) = false
ends_reference Close = false
ends_reference (OpenBracket b p) = false
ends_reference (CloseBracket b) = false
ends_reference Other = false
ends_reference _ = true
