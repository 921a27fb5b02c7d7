-- How many steps duties take at most.
use Rattle.std.specs.Prelude.{ℕ, ◌+◌, List, length, sum_by}
use Rattle.larch_base.specs.declared.label.Label.{Label}
use Rattle.larch_session_law.specs.ProveMeaningReports.{commands_in}
use Rattle.larch_session_law.specs.ProveMeaningScripts.{ClaimedDuty, block_of}
use Rattle.larch_script_commands.specs.declared.script.Script.{Script}

-- how many steps the duty with a label takes at most: its opening, and the commands of its block
abbrev pub block_steps : Script → Label → ℕ
block_steps script label = 1 + length (commands_in (block_of script label))

-- the same for duties
abbrev pub script_steps : Script → List ClaimedDuty → ℕ
script_steps script ds = sum_by (λ d. block_steps script d.label) ds
