-- Plans as the code has them.
use Rattle.std.specs.Prelude.{ℕ, List, [], ◌∷◌, ◌++◌, map, Option, Some, None, Result, Ok, Err}
use Rattle.std.specs.List.{flat_map}
use Rattle.larch_base.specs.declared.code.Code.{Code}
use Rattle.larch_base.specs.declared.code.Code.TheVariants as code
use Rattle.larch_term.specs.Operator.{PlainOperator, name_bytes}
use Rattle.larch_term.specs.Statement.{statement_zero}
use Rattle.larch_term.specs.Tree.{Tree}
use Rattle.larch_term.specs.declared.statement.Statement.{Statement}
use Rattle.larch_term.specs.declared.statement.Statement.TheVariants.{Equation}
use Rattle.larch_term.specs.declared.statement.Theory.{Theory}
use Rattle.larch_prove_meaning.specs.RewriteMeaningSides.{Sides, sides_of}
use Rattle.larch_prove_meaning.specs.Plans as defined
use Rattle.larch_prove_plans.specs.declared.subgoals.Method.{Method}
use Rattle.larch_prove_plans.specs.declared.subgoals.Method.TheVariants.{Cases, Implication, Conjunction, Contradiction}
use Rattle.larch_prove_plans.specs.declared.subgoals.Method.TheVariants.{Induction, Partition}
use Rattle.larch_prove_plans.specs.declared.subgoals.Plan.{Plan}
use Rattle.larch_prove_plans.specs.declared.subgoals.Subgoal.{Subgoal}
use Rattle.larch_prove_plans.specs.declared.refusal.PlanRefusal.{PlanRefusal}
use Rattle.larch_prove_plans.specs.declared.refusal.PlanRefusal.TheVariants.{Shape, Variable, Generated, Partitioned}
use Rattle.larch_prove_plans.specs.declared.refusal.PlanRefusal.TheVariants.{Memory}

-- the code that a refusal tells; out of memory is none
abbrev pub cause : PlanRefusal → Option Code
cause Shape = Some code.Shape
cause Variable = Some code.Variable
cause Generated = Some code.Generated
cause Partitioned = Some code.Partitioned
cause Memory = None

-- the method that the code's method stands for
abbrev pub method_of : Method → defined.Method
method_of (Cases f) = defined.Cases f
method_of Implication = defined.Implication
method_of Conjunction = defined.Conjunction
method_of Contradiction = defined.Contradiction
method_of (Induction n) = defined.Induction n
method_of Partition = defined.Partition

-- both sides as an equation
abbrev pub equate : Sides → Statement
equate e = Equation e.left e.right

-- a subgoal whose hypotheses are statements
abbrev pub subgoal_of : defined.Subgoal → Subgoal
subgoal_of s = record { constants = s.constants; hypotheses = map equate s.hypotheses; goal = s.goal }

-- and the other way: the subgoal with the sides of its hypotheses, which are equations
abbrev pub plain_subgoal : Subgoal → defined.Subgoal
plain_subgoal s = record { constants = s.constants; hypotheses = flat_map sides_of s.hypotheses; goal = s.goal }

-- a goal by itself
abbrev pub alone : Tree → Subgoal
alone goal = subgoal_of (defined.shared_subgoal [] goal)

-- a plan with such subgoals
abbrev pub plan_of : defined.Plan → Plan
plan_of made = record { constants = made.constants; subgoals = map subgoal_of made.subgoals }

-- such a plan, or the refusal
abbrev pub planned_by : Result defined.Plan Code → Result Plan Code
planned_by (Ok made) = Ok (plan_of made)
planned_by (Err code) = Err code

-- the names of operators
abbrev pub names_of_operators : List PlainOperator → List (List ℕ)
names_of_operators fs = map (λ f. name_bytes f.name) fs

-- What a method looks at: the clauses of a theory, that of truth values before them; and the names that are taken are
-- those of the theory's operators and others.
abbrev pub setting_over : Theory → List (List ℕ) → defined.Setting
setting_over t taken = record {
  clauses = statement_zero ∷ t.statements;
  taken = names_of_operators t.operators ++ taken;
}

-- the plan of a method for a goal, over a theory
abbrev pub plan_answer : Theory → List (List ℕ) → Tree → Method → Result Plan Code
plan_answer t taken goal method = planned_by (defined.plan (setting_over t taken) goal (method_of method))
