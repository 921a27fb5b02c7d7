-- Whether all sorts are named.
use Rattle.std.specs.Prelude.{ℕ, ◌&&◌, Bool, true, List, is_some}
use Rattle.std.specs.List.{list_all}
use Rattle.larch_term.specs.Operator.{PlainOperator}
use Rattle.larch_term.specs.Tree.{Tree, Forest, var, app, none, more}
use Rattle.larch_term.specs.declared.statement.Statement.{Statement}
use Rattle.larch_term.specs.declared.statement.Statement.TheVariants.{Equation, Generated, Partitioned}
use Rattle.larch_term.specs.declared.statement.Theory.{Theory}
use Rattle.larch_import_names.specs.Names.{named_sort}
use Rattle.larch_import_names.specs.declared.pairs.Renaming.{Renaming}

-- whether the sort is named
abbrev pub names_sort : Renaming → List ℕ → Bool
names_sort by s = is_some (named_sort by s)

-- whether the sorts of an operator are
abbrev pub names_operator : Renaming → PlainOperator → Bool
names_operator by f = list_all (names_sort by) f.domain && names_sort by f.range

abbrev mutual
  -- whether all sorts in a term are
  pub names_term : Renaming → Tree → Bool
  names_term by (var n s) = names_sort by s
  names_term by (app f ts) = names_operator by f && names_terms by ts

  pub names_terms : Renaming → Forest → Bool
  names_terms by none = true
  names_terms by (more t ts) = names_term by t && names_terms by ts

-- whether all sorts in a statement are
abbrev pub names_statement : Renaming → Statement → Bool
names_statement by (Equation left right) = names_term by left && names_term by right
names_statement by (Generated s fs) = names_sort by s && list_all (names_operator by) fs
names_statement by (Partitioned s fs) = names_sort by s && list_all (names_operator by) fs

-- whether all sorts of a theory are
abbrev pub names_theory : Renaming → Theory → Bool
names_theory by t = list_all (names_operator by) t.operators && list_all (names_statement by) t.statements
