-- Where tokens stand in their text.
use Rattle.std.specs.Prelude.{◌≡◌, ℕ, ◌<◌, ◌⊎◌, List, [], ◌∷◌, ◌++◌, All}
use Rattle.larch_base.specs.Position.{position_behind}
use Rattle.larch_base.specs.declared.position.Pos.{Pos}
use Rattle.larch_lexer.specs.declared.token.Token.{Token}

-- the token's text is a slice of the whole, which begins at a position, and the token's position is where the slice
-- does
pub record IsSliceOf (start : Pos) (whole : List ℕ) (token : Token) : Type 0 where
  pub before : List ℕ
  pub behind : List ℕ
  pub cut : whole ≡ before ++ (token.text ++ behind)
  pub begins : token.pos ≡ position_behind start before

-- an earlier line, or an earlier column of the same line
abbrev pub Precedes : Pos → Pos → Type 0
Precedes earlier later = (earlier.line < later.line) ⊎ ((earlier.line ≡ later.line) × (earlier.column < later.column))

-- each token precedes all that follow it
abbrev pub Rising : List Token → Type 0
Rising [] = Unit {0}
Rising (token ∷ tokens) = All (λ later. Precedes token.pos later.pos) tokens × Rising tokens
