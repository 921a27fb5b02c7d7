-- The variables of critical pairs.
use Rattle.std.specs.Prelude.{◌≡◌, ℕ, List, ◌++◌, All, Contains, codes, map}
use Rattle.std.specs.Fmt.{decimal}
use Rattle.larch_term.specs.Tree.{Tree}
use Rattle.larch_term.specs.Variable.{occurrences}
use Rattle.larch_term.specs.declared.substitution.Entry.{Entry}
use Rattle.larch_term.specs.declared.variable.Variable.{Variable}
use Rattle.larch_pairs.specs.Unify.{variables_of_both}
use Rattle.larch_pairs_critical.specs.declared.pair.Pair.{Pair}
use Rattle.larch_pairs_critical.specs.declared.pair.Rule.{Rule}

-- the variable of an entry
abbrev pub variable_in : Entry → Variable
variable_in e = record { name = e.name; sort = e.sort }

-- the sorts of the variables of two rules
abbrev pub sorts_of_rules : Rule → Rule → List (List ℕ)
sorts_of_rules r q = map (λ v. v.sort) (variables_of_both r.left r.right ++ variables_of_both q.left q.right)

-- the variable is called v with a number, and its sort is one of these
pub record IsNumbered (sorts : List (List ℕ)) (v : Variable) : Type 0 where
  pub number : ℕ
  pub name : v.name ≡ codes "v" ++ decimal number
  pub sort : Contains sorts v.sort

-- so are all variables of a term
abbrev pub HasNumbered : List (List ℕ) → Tree → Type 0
HasNumbered sorts t = All (IsNumbered sorts) (occurrences t)

-- and those of a pair, in its sides and in the terms of its substitutions
pub record IsNumberedPair (sorts : List (List ℕ)) (p : Pair) : Type 0 where
  pub left : HasNumbered sorts p.left
  pub right : HasNumbered sorts p.right
  pub first : All (λ e. HasNumbered sorts e.term) p.first
  pub second : All (λ e. HasNumbered sorts e.term) p.second
