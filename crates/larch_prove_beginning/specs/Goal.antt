-- The goal with which a duty opens: by the statement alone, and as a builder has it.
use Rattle.std.specs.Prelude.{◌≡◌, ℕ, List, [], ◌∷◌, ◌++◌, All, Contains, codes, map}
use Rattle.std.specs.List.{flat_map}
use Rattle.larch_calculus.specs.Formula.{formula}
use Rattle.larch_calculus.specs.Theories.{AreNew}
use Rattle.larch_derive.specs.Words.{AreWordedOperators, IsWordedStatement}
use Rattle.larch_derive.specs.declared.builder.Builder.{Builder}
use Rattle.larch_prove_opening.specs.ProveAddingEquation.{IsSaid, sides_in}
use Rattle.larch_prove_beginning.specs.declared.goal.FirstGoal.{FirstGoal}
use Rattle.larch_prove_settling.specs.ProveBoxesLowest.{IsBegun}
use Rattle.larch_prove_opening.specs.ProveInvariantBook.{made_in}
use Rattle.larch_prove_opening.specs.ProveInvariantHolding.{IsStart}
use Rattle.larch_prove_meaning.specs.NewNames.{free_name}
use Rattle.larch_prove_meaning.specs.Replays.{scope_of}
use Rattle.larch_prove_meaning.specs.Steps.{with_all_new}
use Rattle.larch_prove_opening.specs.ProvePlansClauseGoals.{generation_goal, partition_goal}
use Rattle.larch_prove_opening.specs.ProvePlansPlanning.{names_of_operators}
use Rattle.larch_prove_opening.specs.ProvePlansSubgoalsSubgoal as stated
use Rattle.larch_rewrite_meaning.specs.Sides.{Sides, sides_of}
use Rattle.larch_sorts_meaning.specs.Scope.{Variables}
use Rattle.larch_term.specs.BuiltIn.{bool_sort}
use Rattle.larch_term.specs.Operator.{PlainOperator, name_bytes}
use Rattle.larch_term.specs.Sorts.{sort_of}
use Rattle.larch_term.specs.Statement.{IsStatementOver}
use Rattle.larch_term.specs.Tree.{Tree}
use Rattle.larch_term.specs.declared.statement.Statement.{Statement}
use Rattle.larch_term.specs.declared.statement.Statement.TheVariants.{Equation, Generated, Partitioned}
use Rattle.larch_term.specs.declared.statement.Theory.{Theory}

-- a goal, what is supposed for it, the constants that are made for it, and the variables that are then in scope
pub record Posed : Type 0 where
  pub goal : Tree
  pub supposed : List Sides
  pub constants : List PlainOperator
  pub scope : Variables

-- what has to be shown of a clause
abbrev pub posed_by : stated.Subgoal → Variables → Posed
posed_by g scope = record {
  goal = g.goal;
  supposed = flat_map sides_of g.hypotheses;
  constants = g.constants;
  scope = scope;
}

-- the variables of an equation, before others
abbrev pub scope_with : Tree → Tree → Variables → Variables
scope_with l r scope = with_all_new [] (scope_of l ++ scope_of r ++ scope)

-- a generation clause, and a partition clause, where some names are taken
abbrev pub generation_for : List (List ℕ) → List ℕ → List PlainOperator → stated.Subgoal
generation_for taken s fs = generation_goal (free_name taken (codes "gen")) s fs

abbrev pub partition_for : List (List ℕ) → List ℕ → List PlainOperator → stated.Subgoal
partition_for taken s os =
    let n = free_name taken (codes "lc") in
    partition_goal n (free_name (n ∷ taken) (codes "rc")) s os

-- the goal of a statement, where some names are taken and variables are in scope
abbrev pub goal_of : Statement → List (List ℕ) → Variables → Posed
goal_of (Equation l r) taken scope =
    record { goal = formula l r; supposed = []; constants = []; scope = scope_with l r scope }
goal_of (Generated s fs) taken scope = posed_by (generation_for taken s fs) scope
goal_of (Partitioned s os) taken scope = posed_by (partition_for taken s os) scope

-- the names that are taken before a duty opens
abbrev pub taken_by : Theory → Variables → List (List ℕ)
taken_by t scope = names_of_operators t.operators ++ map (λ v. v.0) scope

-- each operator's name is taken
abbrev pub AreTaken : List PlainOperator → List (List ℕ) → Type 0
AreTaken fs taken = (f : PlainOperator) → Contains fs f → Contains taken (name_bytes f.name)

-- a builder is at its start, and the statement is well sorted and in words; the names of the theory's operators are
-- taken
pub record MayPose (t : Theory) (a : Builder) (s : Statement) (taken : List (List ℕ)) : Type 0 where
  pub start : IsStart t a
  pub sorted : IsStatementOver t.operators s
  pub written : IsWordedStatement s
  pub taken_are : AreTaken t.operators taken

-- From the first builder to the second the lowest level begins for a statement, with this goal: its box makes these
-- constants, whose names are new, and lines say what is supposed.
pub record IsPosed (t : Theory) (a b : Builder) (s : Statement) (g : Posed) (f : FirstGoal) : Type 0 where
  pub begun : IsBegun a b s f.beginning
  pub first : f.beginning.first ≡ g.goal
  pub formula : sort_of g.goal ≡ bool_sort
  pub supposed : map sides_in f.hypotheses.items ≡ g.supposed
  pub said : All (IsSaid b) f.hypotheses.items
  pub constants : f.constants ≡ g.constants
  pub scope : f.scope ≡ g.scope
  pub made : made_in begun.boxes ≡ g.constants
  pub new : AreNew t g.constants
  pub words : AreWordedOperators g.constants
