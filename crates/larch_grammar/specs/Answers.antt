-- The languages of traits, of equations and of references over the tokens of a text, and what the machine answers for
-- them.
use Rattle.std.specs.Prelude.{◌≡◌, ℕ, Bool, true, false, List, [], ◌∷◌, ◌++◌, map, drop, Result, Ok, Err}
use Rattle.larch_base.specs.declared.position.Pos.{Pos}
use Rattle.larch_lexer.specs.TokenList.{TokenList}
use Rattle.larch_lexer.specs.declared.token.Token.{Token}
use Rattle.larch_grammar_law.specs.Answer.{front, look}
use Rattle.larch_grammar_law.specs.Claims.{Begins, Counted, Means, Spells}
use Rattle.larch_grammar_law.specs.declared.mark.Flaw.{Flaw}
use Rattle.larch_grammar_law.specs.declared.mark.Flaw.TheVariants.{Syntax}
use Rattle.larch_grammar_law.specs.declared.mark.Mark.{Mark}
use Rattle.larch_raw.specs.declared.declared.RawOpRef.{RawOpRef}
use Rattle.larch_raw.specs.declared.equation.RawEquation.{RawEquation}
use Rattle.larch_raw.specs.declared.equation.RawTrait.{RawTrait}
use Rattle.larch_grammar.specs.Machine.{as_equation, as_reference, as_trait, final, step_at}
use Rattle.larch_grammar.specs.Form.{IsOpRef}
use Rattle.larch_grammar.specs.Refused.{position_of_token, which}
use Rattle.larch_grammar.specs.Terms.{IsEquation}
use Rattle.larch_grammar.specs.Traits.{IsMarkedTrait, as_marked}
use Rattle.larch_grammar.specs.declared.machine.Naming.TheVariants.{Lone}
use Rattle.larch_grammar.specs.declared.machine.State.{State}
use Rattle.larch_grammar.specs.declared.machine.State.TheVariants.{Start, NeedEquation, NeedForm}
use Rattle.larch_grammar.specs.declared.machine.Waiting.TheVariants.{Alone}

-- these marked tokens are this trait, where references follow `implies` or not
abbrev pub Traits : Bool → Bool → List (Token × Mark) → RawTrait → Type 0
Traits lists s marked raw = IsMarkedTrait s (map (as_marked lists) marked) raw

-- these marked tokens are this trait, where references follow `implies` or where they don't
abbrev pub AnyTrait : Bool → List (Token × Mark) → RawTrait → Type 0
AnyTrait s marked raw = (lists : Bool) × Traits lists s marked raw

-- these marked tokens are this equation
abbrev pub Equations : Bool → List (Token × Mark) → RawEquation → Type 0
Equations s marked raw = IsEquation s (map (as_marked false) marked) [] raw

-- these marked tokens are this reference to operators; in one nothing is counted, and no symbol is let in
abbrev pub References : Bool → List (Token × Mark) → RawOpRef → Type 0
References s marked raw = IsOpRef (map (as_marked false) marked) [] raw

-- the trait of a token list from a state on, with so many head tokens before it, or the first flaw with its position
abbrev pub trait_from : Bool → Pos → ℕ → State → List Token → Result RawTrait (Flaw × Pos)
trait_from lists end heads state tokens =
    look (step_at lists true) (λ n. as_trait (final n)) position_of_token end heads state tokens

-- the trait of a token list where references follow `implies` or not, or the first flaw with its position
abbrev pub trait_by : Bool → TokenList → Result RawTrait (Flaw × Pos)
trait_by lists tokens = trait_from lists tokens.end 0 Start tokens.tokens

-- of two answers the trait, or where both are flaws one of them
abbrev pub either : TokenList → Result RawTrait (Flaw × Pos) → Result RawTrait (Flaw × Pos)
    → Result RawTrait (Flaw × Pos)
either tokens (Ok raw) other = Ok raw
either tokens (Err flaw) (Ok raw) = Ok raw
either tokens (Err flaw) (Err other) = Err (which tokens flaw other)

-- the trait of a token list: a word behind `implies` is read as the beginning of an item and as a reference
abbrev pub trait_answer : TokenList → Result RawTrait (Flaw × Pos)
trait_answer tokens = either tokens (trait_by false tokens) (trait_by true tokens)

-- the trait of a token list, where references follow `implies` or where they don't; or the one of two flaws
abbrev pub MeansTrait : TokenList → Result RawTrait (Flaw × Pos) → Type 0
MeansTrait tokens (Ok raw) = (lists : Bool) × Means (Traits lists) position_of_token tokens.end tokens.tokens (Ok raw)
MeansTrait tokens (Err flaw) =
    (item list : Flaw × Pos) × Means (Traits false) position_of_token tokens.end tokens.tokens (Err item)
    × Means (Traits true) position_of_token tokens.end tokens.tokens (Err list) × (flaw ≡ which tokens item list)

-- the equation at the front of a token list from a state on, with so many head tokens and tokens before it
abbrev pub term_from : Pos → ℕ → ℕ → State → List Token → Result (RawEquation × ℕ) (Flaw × Pos)
term_from end heads taken state tokens =
    front (step_at false true) (λ n. as_equation (final n)) position_of_token end heads taken state tokens

-- the equation at the longest front of the tokens from this one on, and its number of tokens; or the first flaw
abbrev pub term_answer : TokenList → ℕ → Result (RawEquation × ℕ) (Flaw × Pos)
term_answer tokens from = term_from tokens.end 0 0 (NeedEquation Alone) (drop from tokens.tokens)

-- the same of a reference to operators, from a state on
abbrev pub reference_from : Pos → ℕ → ℕ → State → List Token → Result (RawOpRef × ℕ) (Flaw × Pos)
reference_from end heads taken state tokens =
    front (step_at false true) (λ n. as_reference (final n)) position_of_token end heads taken state tokens

-- the reference at the longest front of the tokens from this one on, and its number of tokens; or the first flaw
abbrev pub reference_answer : TokenList → ℕ → Result (RawOpRef × ℕ) (Flaw × Pos)
reference_answer tokens from = reference_from tokens.end 0 0 (NeedForm Lone) (drop from tokens.tokens)

-- behind these tokens, this stands at the first of those, whether references follow `implies` or not. SYNTAX: these
-- begin a trait, and with that token they begin none, or they are none at the end. MIXED, DEEP and SIZE: some trait
-- that begins so counts that token so
abbrev pub StandsInAny : Flaw → List Token → List Token → Type 0
StandsInAny Syntax before [] = Begins AnyTrait before × ((raw : RawTrait) → ¬ Spells AnyTrait before raw)
StandsInAny Syntax before (token ∷ tokens) = Begins AnyTrait before × (¬ Begins AnyTrait (before ++ token ∷ []))
StandsInAny flaw before [] = ⊥
StandsInAny flaw before (token ∷ tokens) = Counted AnyTrait flaw before token
