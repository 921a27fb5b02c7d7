-- Scripts, and the duties that they are about.
use Rattle.std.specs.Prelude.{ℕ, ◌==◌, Bool, false, List, map, Option, find}
use Rattle.larch_base.specs.declared.label.Label.{Label}
use Rattle.larch_base.specs.declared.label.Label.TheVariants.{Assume, Imply, Convert}
use Rattle.larch_script_commands.specs.declared.command.CommandKind.{CommandKind}
use Rattle.larch_script_commands.specs.declared.command.RawCommand.{RawCommand}
use Rattle.larch_script_commands.specs.declared.script.Block.{Block}
use Rattle.larch_script_commands.specs.declared.script.Script.{Script}
use Rattle.larch_term.specs.declared.statement.Statement.{Statement}
use Rattle.larch_term.specs.declared.statement.Theory.{Theory}

-- a duty of a trait: its label, the `converts` clause that it belongs to, if it does, its theory, and what it states
pub record ClaimedDuty : Type 0 where
  pub label : Label
  pub clause : Option ℕ
  pub theory : Theory
  pub statement : Statement

-- commands without their lines
abbrev pub commands_of : List RawCommand → List CommandKind
commands_of cs = map (λ c. c.kind) cs

-- whether two labels are one
abbrev pub same_label : Label → Label → Bool
same_label (Assume n) (Assume m) = n == m
same_label (Imply n) (Imply m) = n == m
same_label (Convert n) (Convert m) = n == m
same_label l m = false

-- the first block of a label
abbrev pub block_of : Script → Label → Option Block
block_of script label = find (λ b. same_label b.label label) script.blocks
