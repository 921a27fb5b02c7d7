-- The answer of a machine that takes one token at a time.
use Rattle.std.specs.Prelude.{ℕ, suc, Option, Some, None, Result, Ok, Err, List, [], ◌∷◌}
use Rattle.larch_grammar_law.specs.Mark.{admission}
use Rattle.larch_grammar_law.specs.declared.mark.Flaw.{Flaw}
use Rattle.larch_grammar_law.specs.declared.mark.Flaw.TheVariants.{Syntax}
use Rattle.larch_grammar_law.specs.declared.mark.Mark.{Mark}

-- behind all tokens: the tree, or SYNTAX at the end of the text
abbrev pub at_end : {Tree Position : Type 0} → Position → Option Tree → Result Tree (Flaw × Position)
at_end end None = Err (Syntax, end)
at_end end (Some tree) = Ok tree

-- behind a token that is taken: the number of head tokens, and the state
abbrev pub at_mark : {State Position : Type 0} → Position → State → Result ℕ Flaw
    → Result (ℕ × State) (Flaw × Position)
at_mark position after (Err flaw) = Err (flaw, position)
at_mark position after (Ok heads) = Ok (heads, after)

-- at a token behind so many head tokens: no step is SYNTAX there, and a step has a mark
abbrev pub at_step : {State Position : Type 0} → Position → ℕ → Option (Mark × State)
    → Result (ℕ × State) (Flaw × Position)
at_step position heads None = Err (Syntax, position)
at_step position heads (Some taken) = at_mark position taken.1 (admission heads taken.0)

-- the number of head tokens and the state behind a token, or the flaw that stands at it, with its position
abbrev pub take : {Token State Position : Type 0} → (State → Token → Option (Mark × State)) → (Token → Position) → ℕ
    → State → Token → Result (ℕ × State) (Flaw × Position)
take step position heads state token = at_step (position token) heads (step state token)

-- a flaw stays, and what is taken goes on
abbrev pub go_on : {State Tree Position : Type 0} → Result (ℕ × State) (Flaw × Position)
    → (ℕ → State → Result Tree (Flaw × Position)) → Result Tree (Flaw × Position)
go_on (Err flaw) further = Err flaw
go_on (Ok taken) further = further taken.0 taken.1

-- the tree of these tokens, or the first flaw with its position, from a state with so many head tokens before it
abbrev pub look : {Token State Tree Position : Type 0} → (State → Token → Option (Mark × State))
    → (State → Option Tree) → (Token → Position) → Position → ℕ → State → List Token → Result Tree (Flaw × Position)
look step final position end heads state [] = at_end end (final state)
look step final position end heads state (token ∷ tokens) =
    go_on (take step position heads state token) (λ more after. look step final position end more after tokens)

-- behind the longest front: the tree with the number of tokens it takes, or SYNTAX there
abbrev pub at_front : {Tree Position : Type 0} → Position → ℕ → Option Tree → Result (Tree × ℕ) (Flaw × Position)
at_front position taken None = Err (Syntax, position)
at_front position taken (Some tree) = Ok (tree, taken)

-- a flaw stays, and what is taken goes on
abbrev pub front_on : {State Tree Position : Type 0} → Result (ℕ × State) (Flaw × Position)
    → (ℕ → State → Result (Tree × ℕ) (Flaw × Position)) → Result (Tree × ℕ) (Flaw × Position)
front_on (Err flaw) further = Err flaw
front_on (Ok taken) further = further taken.0 taken.1

-- at a token: where no text goes on so, the front ends before it; else it is admitted, and what is taken goes on
abbrev pub front_at : {State Tree Position : Type 0} → Position → ℕ → ℕ → Option Tree → Option (Mark × State)
    → (ℕ → State → Result (Tree × ℕ) (Flaw × Position)) → Result (Tree × ℕ) (Flaw × Position)
front_at position heads taken tree None further = at_front position taken tree
front_at position heads taken tree (Some step) further =
    front_on (at_mark position step.1 (admission heads step.0)) further

-- the tree of the longest front of these tokens that begins a text, with its number of tokens, so many being before
-- them; or the first flaw with its position
abbrev pub front : {Token State Tree Position : Type 0} → (State → Token → Option (Mark × State))
    → (State → Option Tree) → (Token → Position) → Position → ℕ → ℕ → State → List Token
    → Result (Tree × ℕ) (Flaw × Position)
front step final position end heads taken state [] = at_front end taken (final state)
front step final position end heads taken state (token ∷ tokens) = front_at (position token) heads taken (final state)
    (step state token) (λ more after. front step final position end more (suc taken) after tokens)
