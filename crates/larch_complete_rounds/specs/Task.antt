-- What a completion works with, with lines.
use Rattle.std.specs.Prelude.{map}
use Rattle.larch_complete_meaning.specs.Rounds.{Task}
use Rattle.larch_complete_pairs.specs.Said.{sides_in}
use Rattle.larch_complete_rounds.specs.declared.task.CompletionTask.{CompletionTask}

-- what it is without the lines
abbrev pub task_in : CompletionTask → Task
task_in t = record { ranks = t.precedence; budget = t.budget; equations = map sides_in t.equations }
