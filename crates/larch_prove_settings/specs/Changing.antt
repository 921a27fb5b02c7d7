-- Commands that change settings alone.
use Rattle.larch_script_commands.specs.declared.command.CommandKind.{CommandKind}
use Rattle.larch_script_commands.specs.declared.command.CommandKind.TheVariants as command

-- a command declares variables, sets the rewriting limit or registers an operator
abbrev pub ChangesSettings : CommandKind → Type 0
ChangesSettings (command.Declare names sort) = Unit {0}
ChangesSettings (command.Limit n) = Unit {0}
ChangesSettings (command.BoxChecking on) = ⊥
ChangesSettings (command.Height upper lower) = Unit {0}
ChangesSettings (command.Status way r) = Unit {0}
ChangesSettings (command.Prove e) = ⊥
ChangesSettings (command.Cases t) = ⊥
ChangesSettings command.Implication = ⊥
ChangesSettings command.Conjunction = ⊥
ChangesSettings command.Contradiction = ⊥
ChangesSettings (command.Induction x) = ⊥
ChangesSettings command.Partition = ⊥
ChangesSettings (command.Instantiate is n) = ⊥
ChangesSettings (command.CriticalPairs n m) = ⊥
ChangesSettings (command.Normalize n) = ⊥
ChangesSettings command.Qed = ⊥
ChangesSettings (command.Mark proved) = ⊥
ChangesSettings (command.Bad code) = ⊥
