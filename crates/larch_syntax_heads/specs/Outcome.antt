-- What a token does in a state, as the code answers it.
use Rattle.std.specs.Prelude.{◌≡◌, Bool, true, false, Option, Some, None, Result, IfOk, List}
use Rattle.larch_grammar.specs.Machine.{Taking, final, finish, hand, step}
use Rattle.larch_grammar.specs.declared.machine.Frame.{Frame}
use Rattle.larch_grammar.specs.declared.machine.State.{State}
use Rattle.larch_grammar.specs.declared.machine.Whole.{Whole}
use Rattle.larch_grammar.specs.declared.terminal.Bracket.{Bracket}
use Rattle.larch_grammar.specs.declared.terminal.Bracket.TheVariants.{Square, Curly}
use Rattle.larch_grammar.specs.declared.terminal.Terminal.{Terminal}
use Rattle.larch_grammar.specs.declared.terminal.Terminal.TheVariants.{CloseBracket}
use Rattle.larch_raw.specs.RawTree.{RawTree}
use Rattle.larch_syntax_heads.specs.declared.outcome.Outcome.{Outcome}
use Rattle.larch_syntax_heads.specs.declared.outcome.Outcome.TheVariants.{Taken, Handed, Stops}

-- a step of the machine, or where there is none the whole that ends before the token
abbrev pub outcome : Taking → Option Whole → Outcome
outcome (Some taken) whole = Taken taken.0 taken.1
outcome None whole = Stops whole

-- what a token does in a state
abbrev pub step_state : State → Terminal → Outcome
step_state state terminal = outcome (step true state terminal) (final state)

-- what it does where a term comes to these frames
abbrev pub hand_over : RawTree → List Frame → Terminal → Outcome
hand_over term frames terminal = outcome (hand true term frames terminal) (finish term frames)

-- what comes of an outcome
abbrev pub settle : Outcome → Outcome
settle (Taken mark after) = Taken mark after
settle (Handed term frames terminal) = hand_over term frames terminal
settle (Stops whole) = Stops whole

-- this comes of what is answered
abbrev pub Settles : {Refusal : Type 0} → Result Outcome Refusal → Outcome → Type 0
Settles result expected = IfOk result (λ answer. settle answer ≡ expected)

-- what is handed on is handed to these frames
abbrev pub Leaves : List Frame → Outcome → Type 0
Leaves frames (Taken mark after) = Unit {0}
Leaves frames (Handed term left terminal) = left ≡ frames
Leaves frames (Stops whole) = Unit {0}

-- whether a token ends a bracket
abbrev pub closes : Bracket → Terminal → Bool
closes Square (CloseBracket Square) = true
closes Curly (CloseBracket Curly) = true
closes _ _ = false
