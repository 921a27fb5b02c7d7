-- What reading tokens as a trait or a term answers.
use Rattle.std.specs.Prelude.{◌≡◌, ℕ, suc, Bool, ◌+◌, Some, None, IfSome, Result, Ok, Err, List, [], ◌∷◌, drop}
use Rattle.larch_base.specs.declared.fault.Fault.{Fault}
use Rattle.larch_base.specs.declared.position.Pos.{Pos}
use Rattle.larch_grammar_law.specs.Claims.{MeansFront}
use Rattle.larch_grammar_law.specs.Mark.{admission}
use Rattle.larch_grammar_law.specs.declared.mark.Flaw.{Flaw}
use Rattle.larch_grammar.specs.Answers.{Equations, References, reference_answer, term_answer, trait_answer}
use Rattle.larch_grammar.specs.Machine.{final}
use Rattle.larch_grammar.specs.Refused.{position_of_token}
use Rattle.larch_grammar.specs.Terminal.{terminal_of}
use Rattle.larch_grammar.specs.declared.machine.State.{State}
use Rattle.larch_lexer.specs.TokenList.{TokenList}
use Rattle.larch_lexer.specs.declared.token.Token.{Token}
use Rattle.larch_raw.specs.declared.declared.RawOpRef.{RawOpRef}
use Rattle.larch_raw.specs.declared.equation.RawEquation.{RawEquation}
use Rattle.larch_raw.specs.declared.equation.RawTrait.{RawTrait}
use Rattle.larch_syntax_heads.specs.Outcome.{step_state}
use Rattle.larch_syntax.specs.Refusal.{fault_of, flaw_told}
use Rattle.larch_syntax_heads.specs.declared.outcome.Outcome.{Outcome}
use Rattle.larch_syntax_heads.specs.declared.outcome.Outcome.TheVariants as outcome
use Rattle.larch_syntax.specs.declared.read.Front.{Front}
use Rattle.larch_syntax.specs.declared.read.Taken.{Taken}
use Rattle.larch_syntax.specs.declared.read.Taken.TheVariants.{On, Stops}
use Rattle.larch_syntax.specs.declared.refusal.SyntaxRefusal.{SyntaxRefusal}

-- an answer with a fault in place of a flaw and its position
abbrev pub with_fault : {Value : Type 0} → Result Value (Flaw × Pos) → Result Value Fault
with_fault (Ok value) = Ok value
with_fault (Err found) = Err (fault_of found)

-- the same of what is counted at a token that stands there
abbrev pub fault_at : {Value : Type 0} → Pos → Result Value Flaw → Result Value Fault
fault_at pos (Ok value) = Ok value
fault_at pos (Err flaw) = Err (fault_of (flaw, pos))

-- the raw trait of a token list, or the first fault
abbrev pub trait_of : TokenList → Result RawTrait Fault
trait_of tokens = with_fault (trait_answer tokens)

-- a tree with its number of tokens, as the tree with the number of the token behind it
abbrev pub from_there : {Tree : Type 0} → ℕ → Result (Tree × ℕ) Fault → Result (Tree × ℕ) Fault
from_there from (Ok read) = Ok (read.0, from + read.1)
from_there from (Err fault) = Err fault

-- the raw equation at the front of the tokens from this one on, and the number of the token behind it; or the first
-- fault
abbrev pub term_of : TokenList → ℕ → Result (RawEquation × ℕ) Fault
term_of tokens from = from_there from (with_fault (term_answer tokens from))

-- the same of a reference to operators
abbrev pub reference_of : TokenList → ℕ → Result (RawOpRef × ℕ) Fault
reference_of tokens from = from_there from (with_fault (reference_answer tokens from))

-- what the grammar claims of an answer holds of what is answered; out of memory is free
abbrev pub ClaimHolds : {Value : Type 0} → (Result Value (Flaw × Pos) → Type 0) → Result Value SyntaxRefusal → Type 0
ClaimHolds claim (Ok value) = claim (Ok value)
ClaimHolds claim (Err refusal) = IfSome (flaw_told refusal) (λ found. claim (Err found))

-- the equation is that of the longest front of the tokens from this one on, with the number of the token behind it; or
-- the flaw stands where the grammar of equations says of that front
abbrev pub MeansFrom : TokenList → ℕ → Result (RawEquation × ℕ) (Flaw × Pos) → Type 0
MeansFrom tokens from (Ok read) =
    (taken : ℕ) × MeansFront Equations position_of_token tokens.end (drop from tokens.tokens) (Ok (read.0, taken)) ×
    (read.1 ≡ from + taken)
MeansFrom tokens from (Err found) =
    MeansFront Equations position_of_token tokens.end (drop from tokens.tokens) (Err found)

-- the same of a reference to operators
abbrev pub MeansReference : TokenList → ℕ → Result (RawOpRef × ℕ) (Flaw × Pos) → Type 0
MeansReference tokens from (Ok read) =
    (taken : ℕ) × MeansFront References position_of_token tokens.end (drop from tokens.tokens) (Ok (read.0, taken)) ×
    (read.1 ≡ from + taken)
MeansReference tokens from (Err found) =
    MeansFront References position_of_token tokens.end (drop from tokens.tokens) (Err found)

-- a token that is taken leads to a state, with so many head tokens behind it, unless something is counted at it
abbrev pub leads_to : State → Result ℕ Fault → Result Taken Fault
leads_to after (Ok more) = Ok (On more after)
leads_to after (Err fault) = Err fault

-- what comes of a token that stands there, behind so many head tokens
abbrev pub count_token : Pos → ℕ → Outcome → Result Taken Fault
count_token pos heads (outcome.Taken mark after) = leads_to after (fault_at pos (admission heads mark))
count_token pos heads (outcome.Handed term frames terminal) = Ok (Stops None)
count_token pos heads (outcome.Stops whole) = Ok (Stops whole)

-- what a token does in a state behind so many head tokens, where references follow `implies` or not
abbrev pub taken_at : Bool → ℕ → State → Token → Result Taken Fault
taken_at lists heads state token = count_token token.pos heads (step_state state (terminal_of lists token))

-- how a front goes on after a token that stands there, so many being before it, by what the token does
abbrev pub front_after : Pos → ℕ → Result Taken Fault → (ℕ → State → Result Front Fault) → Result Front Fault
front_after pos taken (Ok (On more after)) further = further more after
front_after pos taken (Ok (Stops whole)) further = Ok (record { whole = whole; taken = taken; next = Some pos })
front_after pos taken (Err fault) further = Err fault

-- the longest front of these tokens from a state on, with so many head tokens and tokens before them, where references
-- follow `implies` or not; or the first fault
abbrev pub longest : Bool → ℕ → ℕ → State → List Token → Result Front Fault
longest lists heads taken state [] = Ok (record { whole = final state; taken = taken; next = None })
longest lists heads taken state (token ∷ tokens) =
    front_after token.pos taken (taken_at lists heads state token)
    (λ more after. longest lists more (suc taken) after tokens)
