-- What a checker keeps between lines, as the definitions see it.
use Rattle.std.specs.Prelude.{◌≡◌, List, length, map, All}
use Rattle.larch_term.specs.declared.statement.Theory.{Theory}
use Rattle.larch_verify_meaning.specs.Events.{State}
use Rattle.larch_verify_pool.specs.Pooled.{Pooled}
use Rattle.larch_verify_history.specs.Past.{IsStated, stated_in, history_of}
use Rattle.larch_verify_history.specs.declared.past.KeptHistory.{KeptHistory}
use Rattle.larch_verify_history.specs.declared.stated.Stated.{Stated}

-- how many lines there were, and what happened in them
abbrev pub state_of : Pooled → KeptHistory → State
state_of p past = record { count = length past.places.items; history = history_of p past }

-- these are the statements of the theory, in order
pub record AreStatements (t : Theory) (p : Pooled) (ss : List Stated) : Type 0 where
  pub within : All (IsStated p) ss
  pub says : map (stated_in p) ss ≡ t.statements
