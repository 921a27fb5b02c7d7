-- What is gathered for a flat trait: operators and statements, each where it occurs first.
use Rattle.std.specs.Prelude.{ℕ, ◌+◌, if◌then◌else◌, nat_lt, ◌&&◌, ◌||◌, Bool, true, false, not, List, [], ◌∷◌, ◌++◌}
use Rattle.std.specs.Prelude.{map, filter, fold, length, sum_by}
use Rattle.std.specs.List.{list_any}
use Rattle.larch_base.specs.declared.limits.TheConstants.{MAX_OPERATORS, MAX_STATEMENTS, MAX_TRAIT_NODES}
use Rattle.larch_term.specs.Equality.{same_operator, same_statement}
use Rattle.larch_term.specs.Operator.{PlainOperator}
use Rattle.larch_term.specs.Tree.{nodes}
use Rattle.larch_term.specs.declared.statement.Statement.{Statement}
use Rattle.larch_term.specs.declared.statement.Statement.TheVariants.{Equation, Generated, Partitioned}

-- a statement, and whether it is only assumed
pub record Marked : Type 0 where
  pub statement : Statement
  pub assumed : Bool

-- operators, statements with their marks, and the statements that are to be discharged
pub record Gathered : Type 0 where
  pub operators : List PlainOperator
  pub marked : List Marked
  pub discharge : List Statement

-- nothing is gathered
abbrev pub nothing : Gathered
nothing = record { operators = []; marked = []; discharge = [] }

-- operators with one more behind them, unless it is there
abbrev pub with_operator : List PlainOperator → PlainOperator → List PlainOperator
with_operator fs f = if list_any (same_operator f) fs then fs else (fs ++ f ∷ [])

-- statements with one more behind them, unless it is there; what is asserted once is asserted
abbrev pub with_statement : Statement → Bool → List Marked → List Marked
with_statement s assumed [] = record { statement = s; assumed = assumed } ∷ []
with_statement s assumed (m ∷ ms) =
    if same_statement m.statement s then record { statement = m.statement; assumed = m.assumed && assumed } ∷ ms
    else m ∷ with_statement s assumed ms

-- with these operators
abbrev pub with_operators : List PlainOperator → Gathered → Gathered
with_operators fs g =
    record { operators = fold with_operator g.operators fs; marked = g.marked; discharge = g.discharge }

-- with a statement of this mark
abbrev pub with_marked : Bool → Statement → Gathered → Gathered
with_marked assumed s g =
    record { operators = g.operators; marked = with_statement s assumed g.marked; discharge = g.discharge }

-- with a statement that is to be discharged
abbrev pub with_discharge : Statement → Gathered → Gathered
with_discharge s g = record { operators = g.operators; marked = g.marked; discharge = g.discharge ++ s ∷ [] }

-- with these asserted statements
abbrev pub with_asserted : List Statement → Gathered → Gathered
with_asserted ss g = fold (λ h s. with_marked false s h) g ss

-- with a statement of a trait that is assumed, or else included: all that is assumed is assumed; what is included is
-- asserted, unless that trait only assumed it: then it is to be discharged
abbrev pub with_taken : Bool → Marked → Gathered → Gathered
with_taken assumes m g =
    if assumes then with_marked true m.statement g
    else (if m.assumed then with_discharge m.statement g else with_marked false m.statement g)

-- the nodes of a statement's terms
abbrev pub statement_nodes : Statement → ℕ
statement_nodes (Equation l r) = nodes l + nodes r
statement_nodes (Generated s fs) = 0
statement_nodes (Partitioned s fs) = 0

-- the nodes of all statements' terms
abbrev pub nodes_in : List Marked → ℕ
nodes_in ms = sum_by (λ m. statement_nodes m.statement) ms

-- a limit is passed: of operators, of statements or of nodes
abbrev pub is_too_large : Gathered → Bool
is_too_large g =
    nat_lt MAX_OPERATORS (length g.operators)
    || (nat_lt MAX_STATEMENTS (length g.marked) || nat_lt MAX_TRAIT_NODES (nodes_in g.marked))

-- the statements of marked ones
abbrev pub statements_in : List Marked → List Statement
statements_in ms = map (λ m. m.statement) ms

-- a statement stands among others
abbrev pub stands_in : List Statement → Statement → Bool
stands_in ss s = list_any (same_statement s) ss

-- statements with one more behind them, unless it is there
abbrev pub with_new : List Statement → Statement → List Statement
with_new ss s = if stands_in ss s then ss else (ss ++ s ∷ [])

-- statements that don't stand among those known, each where it occurs first
abbrev pub new_among : List Statement → List Statement → List Statement
new_among known ss = fold with_new [] (filter (λ s. not (stands_in known s)) ss)
