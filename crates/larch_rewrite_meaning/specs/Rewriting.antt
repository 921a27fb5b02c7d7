-- Rules, and the first of them that applies at the root of a term.
use Rattle.std.specs.Prelude.{ℕ, ◌-◌, true, false, if◌then◌else◌, List, [], ◌∷◌, ◌++◌, take, get_or, length, Option}
use Rattle.std.specs.Prelude.{Some, None, option_map}
use Rattle.std.specs.List.{flat_map}
use Rattle.larch_term.specs.Operator.{PlainOperator}
use Rattle.larch_term.specs.Tree.{Tree, var, app, none, more}
use Rattle.larch_term.specs.BuiltIn.{is_built_in, is_built_in_as}
use Rattle.larch_term.specs.Substitution.{instance_of}
use Rattle.larch_term.specs.declared.built_in.BuiltIn.TheVariants.{Equal}
use Rattle.larch_tables.specs.Tables.{built_in_rows}
use Rattle.larch_rewrite_meaning.specs.Matching.{match_term}
use Rattle.larch_rewrite_meaning.specs.Sides.{Sides, sides_of}

-- what a rule makes of a term at its root, where its left side matches
abbrev pub rewritten_by : Sides → Tree → Option Tree
rewritten_by rule t = option_map (λ es. instance_of es rule.right) (match_term rule.left t [])

-- what the first rule that matches makes of a term
abbrev pub rewrite_of : List Sides → Tree → Option Tree
rewrite_of [] t = None
rewrite_of (rule ∷ rules) t = elim (rewritten_by rule t) [
  | None ↦ rewrite_of rules t
  | Some u ↦ Some u
]

-- the rule whose left side is an equality, with the sides of that exchanged
abbrev pub exchange_rule : Sides → List Sides
exchange_rule rule = elim rule.left [
  | app f (more s (more t none)) ↦
      if is_built_in_as f Equal then record { left = app f (more t (more s none)); right = rule.right } ∷ [] else []
  | _ ↦ []
]

-- a rule as it is tried: as it stands, and right behind that exchanged
abbrev pub tries_of : Sides → List Sides
tries_of rule = rule ∷ exchange_rule rule

-- the sort at which a built-in operator stands: the last of its domain
abbrev pub sort_at : PlainOperator → List ℕ
sort_at f = get_or f.domain (length f.domain - 1) []

-- how many of the built-in rows rewrite; the others only make lines of derivations
abbrev pub rewriting_row_count : ℕ
rewriting_row_count = 33

-- the built-in rows that rewrite, at a sort
abbrev pub rewriting_rows : List ℕ → List Sides
rewriting_rows s = flat_map (λ row. sides_of row.given) (take rewriting_row_count (built_in_rows s))

-- the rows that are tried at the root of a term: those at the sort of its operator, where that is built in
abbrev pub rows_for : Tree → List Sides
rows_for (var n s) = []
rows_for (app f ts) = elim (is_built_in f) [
  | true ↦ flat_map tries_of (rewriting_rows (sort_at f))
  | false ↦ []
]

-- what the first row, or else the first of these rules, that matches makes of a term
abbrev pub rewritten_once : List Sides → Tree → Option Tree
rewritten_once rules t = rewrite_of (rows_for t ++ flat_map tries_of rules) t
