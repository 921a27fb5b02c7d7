-- Variables as terms.
use Rattle.larch_term.specs.Tree.{Tree, var}
use Rattle.larch_term.specs.declared.variable.Variable.{Variable}

-- the term that is a variable
abbrev pub term_of : Variable → Tree
term_of v = var v.name v.sort
