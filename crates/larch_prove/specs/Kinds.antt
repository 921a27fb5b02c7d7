-- Kinds of commands.
use Rattle.larch_prove_meaning.specs.Levels.{Next}
use Rattle.larch_prove_meaning.specs.Replays.{unless_marks_wait, unless_proved}
use Rattle.larch_prove_meaning.specs.Steps.{carried_out}
use Rattle.larch_script_commands.specs.declared.command.CommandKind.{CommandKind}
use Rattle.larch_script_commands.specs.declared.command.CommandKind.TheVariants as command

-- a command in its turn: no mark waits, and the duty isn't proved
abbrev pub in_turn : CommandKind → Next
in_turn c p = unless_marks_wait p (unless_proved p (carried_out c p))

-- a command works on the proof itself
abbrev pub WorksOnProof : CommandKind → Type 0
WorksOnProof (command.Declare names sort) = ⊥
WorksOnProof (command.Limit n) = ⊥
WorksOnProof (command.BoxChecking on) = ⊥
WorksOnProof (command.Height upper lower) = ⊥
WorksOnProof (command.Status way r) = ⊥
WorksOnProof (command.Prove e) = Unit {0}
WorksOnProof (command.Cases t) = Unit {0}
WorksOnProof command.Implication = Unit {0}
WorksOnProof command.Conjunction = Unit {0}
WorksOnProof command.Contradiction = Unit {0}
WorksOnProof (command.Induction x) = Unit {0}
WorksOnProof command.Partition = Unit {0}
WorksOnProof (command.Instantiate is n) = Unit {0}
WorksOnProof (command.CriticalPairs n m) = Unit {0}
WorksOnProof (command.Normalize n) = Unit {0}
WorksOnProof command.Qed = ⊥
WorksOnProof (command.Mark proved) = ⊥
WorksOnProof (command.Bad code) = ⊥

-- a line is a command
abbrev pub IsCommand : CommandKind → Type 0
IsCommand (command.Declare names sort) = Unit {0}
IsCommand (command.Limit n) = Unit {0}
IsCommand (command.BoxChecking on) = Unit {0}
IsCommand (command.Height upper lower) = Unit {0}
IsCommand (command.Status way r) = Unit {0}
IsCommand (command.Prove e) = Unit {0}
IsCommand (command.Cases t) = Unit {0}
IsCommand command.Implication = Unit {0}
IsCommand command.Conjunction = Unit {0}
IsCommand command.Contradiction = Unit {0}
IsCommand (command.Induction x) = Unit {0}
IsCommand command.Partition = Unit {0}
IsCommand (command.Instantiate is n) = Unit {0}
IsCommand (command.CriticalPairs n m) = Unit {0}
IsCommand (command.Normalize n) = Unit {0}
IsCommand command.Qed = Unit {0}
IsCommand (command.Mark proved) = Unit {0}
IsCommand (command.Bad code) = ⊥

-- a command needs its turn: it is neither a mark nor `qed`, and doesn't set whether boxes are checked
abbrev pub HasTurn : CommandKind → Type 0
HasTurn (command.Declare names sort) = Unit {0}
HasTurn (command.Limit n) = Unit {0}
HasTurn (command.BoxChecking on) = ⊥
HasTurn (command.Height upper lower) = Unit {0}
HasTurn (command.Status way r) = Unit {0}
HasTurn (command.Prove e) = Unit {0}
HasTurn (command.Cases t) = Unit {0}
HasTurn command.Implication = Unit {0}
HasTurn command.Conjunction = Unit {0}
HasTurn command.Contradiction = Unit {0}
HasTurn (command.Induction x) = Unit {0}
HasTurn command.Partition = Unit {0}
HasTurn (command.Instantiate is n) = Unit {0}
HasTurn (command.CriticalPairs n m) = Unit {0}
HasTurn (command.Normalize n) = Unit {0}
HasTurn command.Qed = ⊥
HasTurn (command.Mark proved) = ⊥
HasTurn (command.Bad code) = ⊥
