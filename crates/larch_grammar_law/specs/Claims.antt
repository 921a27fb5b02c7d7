-- What a language says of tokens: which of them begin a text of it, and what is counted at them. A language holds
-- tokens beside their marks, and their tree. It has two readings: with `false` it is the grammar, and with `true`
-- symbols are let in at which MIXED stands in any case.
use Rattle.std.specs.Prelude.{◌≡◌, ℕ, length, Bool, true, false, IsTrue, Result, Ok, Err, List, [], ◌∷◌, ◌++◌, map}
use Rattle.larch_grammar_law.specs.Mark.{counts, heads_of}
use Rattle.larch_grammar_law.specs.declared.mark.Flaw.{Flaw}
use Rattle.larch_grammar_law.specs.declared.mark.Flaw.TheVariants.{Mixed, Syntax, Deep, Large}
use Rattle.larch_grammar_law.specs.declared.mark.Mark.{Mark}

-- tokens without their marks
abbrev pub tokens_of : {Token : Type 0} → List (Token × Mark) → List Token
tokens_of marked = map (λ m. m.0) marked

-- where the first of these tokens stands, or the end of the text where there is none
abbrev pub position_or : {Token Position : Type 0} → (Token → Position) → Position → List Token → Position
position_or position end [] = end
position_or position end (token ∷ tokens) = position token

module _ {Token Tree : Type 0} (L : Bool → List (Token × Mark) → Tree → Type 0) where
  -- these tokens are a text with this tree
  abbrev pub Spells : List Token → Tree → Type 0
  Spells tokens tree = (marked : List (Token × Mark)) × L false marked tree × (tokens_of marked ≡ tokens)

  -- these tokens begin a text
  abbrev pub Begins : List Token → Type 0
  Begins tokens = (rest : List Token) × (tree : Tree) × Spells (tokens ++ rest) tree

  -- some text begins with these tokens and this one, and counts this one so
  abbrev pub Counted : Flaw → List Token → Token → Type 0
  Counted flaw before token = (marked : List (Token × Mark)) × (mark : Mark) × (rest : List (Token × Mark))
      × (tree : Tree) × L true (marked ++ (token, mark) ∷ rest) tree × (tokens_of marked ≡ before)
      × IsTrue (counts flaw (heads_of 0 marked) mark)

  -- behind these tokens, nothing stands at this one
  abbrev pub Free : List Token → Token → Type 0
  Free before token = (¬ Counted Mixed before token) × Begins (before ++ token ∷ []) × (¬ Counted Deep before token)
      × (¬ Counted Large before token)

  -- behind these tokens, nothing stands at these
  abbrev pub AllFree : List Token → List Token → Type 0
  AllFree before [] = Unit {0}
  AllFree before (token ∷ tokens) = Free before token × AllFree (before ++ token ∷ []) tokens

  -- behind these tokens, this stands at this one
  abbrev pub StandsAt : Flaw → List Token → Token → Type 0
  StandsAt Mixed before token = Counted Mixed before token
  StandsAt Syntax before token = (¬ Counted Mixed before token) × Begins before × (¬ Begins (before ++ token ∷ []))
  StandsAt Deep before token =
      (¬ Counted Mixed before token) × Begins (before ++ token ∷ []) × Counted Deep before token
  StandsAt Large before token = (¬ Counted Mixed before token) × Begins (before ++ token ∷ [])
      × (¬ Counted Deep before token) × Counted Large before token

  -- behind these tokens, this stands at the end of the text
  abbrev pub StandsAtEnd : Flaw → List Token → Type 0
  StandsAtEnd Mixed before = ⊥
  StandsAtEnd Syntax before = Begins before × ((tree : Tree) → ¬ Spells before tree)
  StandsAtEnd Deep before = ⊥
  StandsAtEnd Large before = ⊥

  -- behind these tokens, this stands at the first of those
  abbrev pub Stands : Flaw → List Token → List Token → Type 0
  Stands flaw before [] = StandsAtEnd flaw before
  Stands flaw before (token ∷ tokens) = StandsAt flaw before token

  -- the tree of these tokens, at which nothing stands; or the first flaw and its position
  abbrev pub Means : {Position : Type 0} → (Token → Position) → Position → List Token → Result Tree (Flaw × Position)
      → Type 0
  Means position end tokens (Ok tree) = AllFree [] tokens × Spells tokens tree
  Means position end tokens (Err flaw) = (before rest : List Token) × (tokens ≡ before ++ rest) × AllFree [] before
      × Stands flaw.0 before rest × (flaw.1 ≡ position_or position end rest)

  -- a text ends here for good: with the next token these tokens begin none, and MIXED doesn't stand there
  abbrev pub EndsBefore : List Token → List Token → Type 0
  EndsBefore before [] = Unit {0}
  EndsBefore before (token ∷ tokens) = (¬ Begins (before ++ token ∷ [])) × (¬ Counted Mixed before token)

  -- behind these tokens, this stands at the first of those, where a text may end before it
  abbrev pub StandsBehind : Flaw → List Token → List Token → Type 0
  StandsBehind Syntax before tokens =
      Begins before × EndsBefore before tokens × ((tree : Tree) → ¬ Spells before tree)
  StandsBehind flaw before tokens = Stands flaw before tokens

  -- the tree of the longest front of these tokens that begins a text, and its number of tokens: it is a text, nothing
  -- stands in it, and MIXED doesn't stand directly behind it; or the first flaw and its position
  abbrev pub MeansFront : {Position : Type 0} → (Token → Position) → Position → List Token
      → Result (Tree × ℕ) (Flaw × Position) → Type 0
  MeansFront position end tokens (Ok read) = (before rest : List Token) × (tokens ≡ before ++ rest)
      × AllFree [] before × Spells before read.0 × EndsBefore before rest × (read.1 ≡ length before)
  MeansFront position end tokens (Err flaw) = (before rest : List Token) × (tokens ≡ before ++ rest)
      × AllFree [] before × StandsBehind flaw.0 before rest × (flaw.1 ≡ position_or position end rest)
