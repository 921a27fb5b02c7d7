-- Commands that are in words: their variables and sorts are words, and so is each name that is a bare word.
use Rattle.std.specs.Prelude.{◌≡◌, All, None}
use Rattle.larch_raw.specs.Worded.{Worded, WordedEquation, WordedForm, WordedRef}
use Rattle.larch_raw.specs.declared.declared.RawOpRef.{RawOpRef}
use Rattle.larch_raw.specs.declared.equation.RawEquation.{RawEquation}
use Rattle.larch_script_commands.specs.declared.command.CommandKind.{CommandKind}
use Rattle.larch_script_commands.specs.declared.command.CommandKind.TheVariants as command
use Rattle.larch_script_commands.specs.declared.command.RawCommand.{RawCommand}
use Rattle.larch_script_commands.specs.declared.command.RawInstance.{RawInstance}
use Rattle.larch_script_commands.specs.declared.script.Block.{Block}
use Rattle.larch_script_commands.specs.declared.script.Script.{Script}

-- the name of a reference, where it is a bare word, and its sorts
abbrev pub WordedOperator : RawOpRef → Type 0
WordedOperator reference = WordedForm reference.form × WordedRef reference

-- the sorts that a term says, which stands alone: it has no right side
abbrev pub WordedLone : RawEquation → Type 0
WordedLone term = WordedEquation term × (term.right ≡ None)

-- a variable, and the term in its place
abbrev pub WordedInstance : RawInstance → Type 0
WordedInstance instance = Worded instance.name × WordedLone instance.term

-- what is commanded is in words; a term's sorts are those that it says
abbrev pub WordedKind : CommandKind → Type 0
WordedKind (command.Declare names sort) = All Worded names × Worded sort
WordedKind (command.Limit number) = Unit {0}
WordedKind (command.BoxChecking on) = Unit {0}
WordedKind (command.Height upper lower) = WordedOperator upper × WordedOperator lower
WordedKind (command.Status way reference) = WordedOperator reference
WordedKind (command.Prove equation) = WordedEquation equation
WordedKind (command.Cases term) = WordedLone term
WordedKind command.Implication = Unit {0}
WordedKind command.Conjunction = Unit {0}
WordedKind command.Contradiction = Unit {0}
WordedKind (command.Induction variable) = Worded variable
WordedKind command.Partition = Unit {0}
WordedKind (command.Instantiate instances fact) = All WordedInstance instances
WordedKind (command.CriticalPairs first second) = Unit {0}
WordedKind (command.Normalize fact) = Unit {0}
WordedKind command.Qed = Unit {0}
WordedKind (command.Mark proved) = Unit {0}
WordedKind (command.Bad code) = Unit {0}

-- a command is in words, whatever its line
abbrev pub WordedCommand : RawCommand → Type 0
WordedCommand command = WordedKind command.kind

-- so is each command of a block
abbrev pub WordedBlock : Block → Type 0
WordedBlock block = All WordedCommand block.commands

-- and each of a script, in its preamble and its blocks
abbrev pub WordedScript : Script → Type 0
WordedScript script = All WordedCommand script.preamble × All WordedBlock script.blocks
