-- Terms by how many arguments they have.
use Rattle.std.specs.Prelude.{Bool, true, false}
use Rattle.larch_term.specs.Tree.{Tree, var, app, none, more}

-- whether a term is an operator with two arguments
abbrev pub has_two_arguments : Tree → Bool
has_two_arguments (var n s) = false
has_two_arguments (app f none) = false
has_two_arguments (app f (more s none)) = false
has_two_arguments (app f (more s (more t none))) = true
has_two_arguments (app f (more s (more t (more u us)))) = false
