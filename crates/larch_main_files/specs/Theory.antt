-- The theory of a trait among what is read of files.
use Rattle.std.specs.Prelude.{List, ℕ, Result, Ok}
use Rattle.larch_base_meaning.specs.Steps.{after}
use Rattle.larch_traits.specs.FlatParts.{flat_trait}
use Rattle.larch_flat_meaning.specs.Flat.{theory_of}
use Rattle.larch_flat_meaning.specs.Gathered.{Gathered, statements_in}
use Rattle.larch_flat_meaning.specs.Stops.{Stop}
use Rattle.larch_flat_sources.specs.Sources.{Table}
use Rattle.larch_term.specs.declared.statement.Theory.{Theory}

-- the theory of what a flat trait gathers
abbrev pub theory_in : Gathered → Theory
theory_in g = record { operators = g.operators; statements = statements_in g.marked }

-- the theory of the trait of a name, or what is wrong with its flat trait first
abbrev pub trait_theory : Table → List ℕ → Result Theory Stop
trait_theory sources name = after (flat_trait sources name) (λ flat. Ok (theory_of flat))
