-- Which of two refusals stands.
use Rattle.std.specs.Prelude.{◌≡◌, Bool, true, false, Option, Some, None, IfSome}
use Rattle.larch_base.specs.declared.position.Pos.{Pos}
use Rattle.larch_grammar_law.specs.declared.mark.Flaw.{Flaw}
use Rattle.larch_lexer.specs.TokenList.{TokenList}
use Rattle.larch_grammar.specs.Refused.{which}
use Rattle.larch_syntax.specs.Refusal.{flaw_told}
use Rattle.larch_syntax.specs.declared.refusal.SyntaxRefusal.{SyntaxRefusal}
use Rattle.larch_syntax.specs.declared.refusal.SyntaxRefusal.TheVariants.{Syntax, Mixed, Deep, Large, Memory}

-- the one of two flaws that stands; none where one of them isn't told
abbrev pub of_two : TokenList → Option (Flaw × Pos) → Option (Flaw × Pos) → Option (Flaw × Pos)
of_two tokens (Some item) (Some list) = Some (which tokens item list)
of_two tokens _ _ = None

-- a refusal tells the one of the flaws that two refusals tell; out of memory is free
abbrev pub refused : TokenList → SyntaxRefusal → SyntaxRefusal → SyntaxRefusal → Type 0
refused tokens item list result =
    IfSome (flaw_told result) (λ found. of_two tokens (flaw_told item) (flaw_told list) ≡ Some found)

-- the position of a refusal; out of memory has none
abbrev pub position : SyntaxRefusal → Option Pos
position (Syntax pos) = Some pos
position (Mixed pos) = Some pos
position (Deep pos) = Some pos
position (Large pos) = Some pos
position Memory = None

-- it is MIXED, DEEP or SIZE
abbrev pub counted : SyntaxRefusal → Bool
counted (Syntax pos) = false
counted (Mixed pos) = true
counted (Deep pos) = true
counted (Large pos) = true
counted Memory = false
