-- Completion: rules that decide a theory's equations, if it comes to an end.
use Rattle.std.specs.Prelude.{◌≡◌, ℕ, zero, suc, ◌==◌, List, [], ◌∷◌, All, drop, Option, Some, None, Ok, Err}
use Rattle.std.specs.List.{flat_map, slice_get}
use Rattle.larch_order.specs.Precedence.{precedence_of}
use Rattle.larch_term.specs.Tree.{Tree}
use Rattle.larch_term.specs.declared.statement.Statement.TheVariants.{Equation}
use Rattle.larch_term.specs.declared.statement.Theory.{Theory}
use Rattle.larch_calculus.specs.Derivable.{Derivable}
use Rattle.larch_pairs_critical.specs.Overlap.{IsApplication}
use Rattle.larch_rewrite_meaning.specs.NormalForm.{normal}
use Rattle.larch_rewrite_meaning.specs.Sides.{Sides, sides_of}
use Rattle.larch_rewrite_meaning.specs.Work.{Made}
use Rattle.larch_complete_meaning.specs.Steps.{Step}
use Rattle.larch_complete_meaning.specs.LastTest.{last_test}
use Rattle.larch_complete_meaning.specs.Pairs.{pairs_in, pairs_of_new}
use Rattle.larch_complete_meaning.specs.Rounds.{Stage, Task, settle, with_rule, with_waiting}
use Rattle.larch_complete_meaning.specs.declared.answer.CompletionAnswer.{CompletionAnswer}
use Rattle.larch_complete_meaning.specs.declared.answer.CompletionAnswer.TheVariants.{Complete, Spent}

-- what a completion comes to: how it ends, and the rules so far
pub record Completion : Type 0 where
  pub answer : CompletionAnswer
  pub rules : List Sides

-- a completion that ends at a stage
abbrev pub ends : Stage → CompletionAnswer → Completion
ends stage answer = record { answer = answer; rules = stage.rules }

-- how a completion goes on behind a step; or it ends with the step's answer
abbrev pub go_on : {A : Type 0} → Stage → (A → Completion) → Step A → Completion
go_on stage next (Ok x) = next x
go_on stage next (Err answer) = ends stage answer

-- what the last test comes to: an equation to be taken, or the end
abbrev pub take_found : Step (Option Sides) → Step Sides
take_found (Ok (Some e)) = Ok e
take_found (Ok None) = Err Complete
take_found (Err answer) = Err answer

-- the equation that is taken next: the first that waits; where none does, the one that the last test finds
abbrev pub next_equation : Task → Stage → Step Sides
next_equation task stage = elim stage.waiting [
  | [] ↦ take_found (last_test task stage.rules)
  | e ∷ es ↦ Ok e
]

-- the stage when it is taken
abbrev pub without_next : Stage → Stage
without_next stage = record stage { waiting = drop 1 stage.waiting }

-- how a completion goes on with the rule that an equation made, if it made one: the rule goes behind the others, and
-- its critical pairs go behind the equations that wait
abbrev pub add_rule : (Stage → Completion) → Stage → Option Sides → Completion
add_rule next stage None = next stage
add_rule next stage (Some rule) =
    go_on (with_rule stage rule) (λ pairs. next (with_waiting (with_rule stage rule) pairs))
    (pairs_of_new stage.rules rule)

-- round by round, where so many equations may still be taken
abbrev pub complete_from : ℕ → Task → Stage → Completion
complete_from zero task stage = go_on stage (λ e. ends stage Spent) (next_equation task stage)
complete_from (suc n) task stage =
    go_on stage (λ e. go_on stage (λ rule. add_rule (λ later. complete_from n task later) (without_next stage) rule)
    (settle task stage.rules e)) (next_equation task stage)

-- how many equations are taken at most
abbrev pub most_equations : ℕ
most_equations = 200

-- the equations of a theory; clauses aren't used
abbrev pub equations_of : Theory → List Sides
equations_of theory = flat_map sides_of theory.statements

-- a theory's completion, with a budget for each equation
abbrev pub task_of : Theory → ℕ → Task
task_of theory limit = record {
  ranks = precedence_of theory.operators;
  budget = limit;
  equations = equations_of theory;
}

-- the rules of a theory's equations under a rewriting limit, and how their making ends
unfoldable pub complete : Theory → ℕ → Completion
complete theory limit =
    complete_from most_equations (task_of theory limit) (record { rules = []; waiting = equations_of theory })

-- the sides of an equation have one normal form by rules, under one budget
pub record HasOneForm (rules : List Sides) (b : ℕ) (e : Sides) : Type 0 where
  pub form : Tree
  pub between : ℕ
  pub rest : ℕ
  pub left : normal rules e.left b ≡ Made form between
  pub right : normal rules e.right between ≡ Made form rest

-- rules decide equations and all critical pairs of their own: none is too large, and the sides of each have one normal
-- form
pub record Decides (rules : List Sides) (b : ℕ) (equations : List Sides) : Type 0 where
  pub equations_join : All (HasOneForm rules b) equations
  pub pairs_join : (i j : ℕ) (r q : Sides) → slice_get rules i ≡ Some r → slice_get rules j ≡ Some q
      → (es : List Sides) × ((pairs_in r q (i == j) ≡ Ok es) × All (HasOneForm rules b) es)

-- the equation of a rule is derivable
abbrev pub IsDerivable : Theory → Sides → Type 0
IsDerivable theory rule = Derivable theory (Equation rule.left rule.right)

-- a rule's equation is derivable, and its left side is no variable
abbrev pub IsRuleOf : Theory → Sides → Type 0
IsRuleOf theory rule = IsDerivable theory rule × IsApplication rule.left

-- all rules of a stage, and all equations that wait there, are derivable
abbrev pub IsStage : Theory → Stage → Type 0
IsStage theory stage = All (IsRuleOf theory) stage.rules × All (IsDerivable theory) stage.waiting
