-- What the methods make of a goal: new constants, and subgoals.
use Rattle.std.specs.Prelude.{◌≡◌, ℕ, suc, ◌==◌, Bool, true, false, if◌then◌else◌, All, Contains, List, [], ◌∷◌, ◌++◌}
use Rattle.std.specs.Prelude.{map, bytes_eq, codes, Option, Some, None, option_map, Result, Ok, Err, find}
use Rattle.larch_base.specs.declared.code.Code.{Code}
use Rattle.larch_base.specs.declared.code.Code.TheVariants as refusal
use Rattle.larch_term.specs.Operator.{PlainOperator, name_bytes}
use Rattle.larch_term.specs.Tree.{Tree, Forest, var, app, none, more}
use Rattle.larch_term.specs.BuiltIn.{bool_sort, built_in, is_built_in_as}
use Rattle.larch_term.specs.Equality.{same_operator}
use Rattle.larch_term.specs.Sorts.{sort_of, IsTermOver}
use Rattle.larch_term.specs.Truth.{truth}
use Rattle.larch_term.specs.Variable.{variables_of}
use Rattle.larch_term.specs.Substitution.{instance_of}
use Rattle.larch_term.specs.declared.variable.Variable.{Variable}
use Rattle.larch_term.specs.declared.built_in.BuiltIn.TheVariants.{And, Implies, Equal}
use Rattle.larch_term.specs.declared.statement.Statement.{Statement}
use Rattle.larch_term.specs.declared.statement.Statement.TheVariants.{Equation, Generated, Partitioned}
use Rattle.larch_rewrite_meaning.specs.CalculusFormula.{falsity, constant, formula}
use Rattle.larch_rewrite_meaning.specs.CalculusFreed.{constants_for}
use Rattle.larch_rewrite_meaning.specs.CalculusGeneration.{only, constant_terms}
use Rattle.larch_rewrite_meaning.specs.CalculusObservation.{Observation, observations_of}
use Rattle.larch_rewrite_meaning.specs.Sides.{Sides, AreSidesOver}
use Rattle.larch_prove_meaning.specs.NewNames.{new_constants, variable_names}

-- a subgoal: its own constants, its hypotheses and its goal
pub record Subgoal : Type 0 where
  pub constants : List PlainOperator
  pub hypotheses : List Sides
  pub goal : Tree

-- what a method makes of a goal: the constants that all subgoals share, and the subgoals
pub record Plan : Type 0 where
  pub constants : List PlainOperator
  pub subgoals : List Subgoal

-- what a method looks at beside the goal: the clauses, of which the first of a sort counts, and the names that are
-- taken
pub record Setting : Type 0 where
  pub clauses : List Statement
  pub taken : List (List ℕ)

-- that a formula is true, and that it is false
abbrev pub holds : Tree → Sides
holds t = record { left = t; right = truth }

abbrev pub fails : Tree → Sides
fails t = record { left = t; right = falsity }

-- a subgoal without constants of its own
abbrev pub shared_subgoal : List Sides → Tree → Subgoal
shared_subgoal hs g = record { constants = []; hypotheses = hs; goal = g }

-- the names that are taken beside a goal: the goal's variables have names too
abbrev pub taken_beside : List (List ℕ) → Tree → List (List ℕ)
taken_beside taken goal = taken ++ variable_names goal

-- new constants for the variables of a term, beside a goal
abbrev pub constants_of : List (List ℕ) → Tree → Tree → List PlainOperator
constants_of taken goal t = new_constants (taken_beside taken goal) (variables_of t)

-- a term with constants in the places of the variables of another one
abbrev pub closed_by : Tree → List PlainOperator → Tree → Tree
closed_by t cs u = instance_of (constants_for (variables_of t) cs) u

-- by cases: a formula, closed by new constants, is true in a first subgoal and false in a second
abbrev pub cases_plan : List (List ℕ) → Tree → Tree → Plan
cases_plan taken goal f =
    let cs = constants_of taken goal f in
    record {
      constants = cs;
      subgoals = shared_subgoal (holds (closed_by f cs f) ∷ []) (closed_by f cs goal)
          ∷ shared_subgoal (fails (closed_by f cs f) ∷ []) (closed_by f cs goal) ∷ [];
    }

-- the two arguments of a term whose head passes a test
abbrev pub two_arguments : (PlainOperator → Bool) → Tree → Option (Tree × Tree)
two_arguments test (app f (more t (more u none))) = if test f then Some (t, u) else None
two_arguments test t = None

-- of an implication: its premise, closed by new constants, is supposed, and its conclusion is the subgoal
abbrev pub implication_of : List (List ℕ) → Tree → Tree × Tree → Plan
implication_of taken goal p =
    let cs = constants_of taken goal p.0 in
    record {
      constants = cs;
      subgoals = shared_subgoal (holds (closed_by p.0 cs p.0) ∷ []) (closed_by p.0 cs p.1) ∷ [];
    }

abbrev pub implication_plan : List (List ℕ) → Tree → Option Plan
implication_plan taken goal =
    option_map (implication_of taken goal) (two_arguments (same_operator (built_in Implies bool_sort)) goal)

abbrev mutual
  -- the conjuncts of a term, nested conjunctions taken apart, from left to right
  pub conjuncts : Tree → List Tree
  conjuncts (var n s) = var n s ∷ []
  conjuncts (app f ts) = elim (same_operator (built_in And bool_sort) f) [
    | true ↦ conjuncts_in ts
    | false ↦ app f ts ∷ []
  ]

  pub conjuncts_in : Forest → List Tree
  conjuncts_in none = []
  conjuncts_in (more t ts) = conjuncts t ++ conjuncts_in ts

-- of a conjunction: each conjunct is a subgoal
abbrev pub conjunction_plan : Tree → Option Plan
conjunction_plan goal =
    option_map (λ p. record { constants = []; subgoals = map (shared_subgoal []) (conjuncts goal) })
    (two_arguments (same_operator (built_in And bool_sort)) goal)

-- by contradiction: the goal, closed by new constants, is supposed to be false, and false is the subgoal
abbrev pub contradiction_plan : List (List ℕ) → Tree → Plan
contradiction_plan taken goal =
    let cs = constants_of taken goal goal in
    record { constants = cs; subgoals = shared_subgoal (fails (closed_by goal cs goal) ∷ []) falsity ∷ [] }

-- the generators of a sort by the first clause that has it
abbrev pub generators : List ℕ → List Statement → Option (List PlainOperator)
generators s [] = None
generators s (Equation l r ∷ ss) = generators s ss
generators s (Generated z fs ∷ ss) = if bytes_eq z s then Some fs else generators s ss
generators s (Partitioned z fs ∷ ss) = generators s ss

-- the observers of a sort by the first clause that has it
abbrev pub observers : List ℕ → List Statement → Option (List PlainOperator)
observers s [] = None
observers s (Equation l r ∷ ss) = observers s ss
observers s (Generated z fs ∷ ss) = observers s ss
observers s (Partitioned z fs ∷ ss) = if bytes_eq z s then Some fs else observers s ss

-- a variable named a, at a sort: what constants at other places are named after
abbrev pub a_variable : List ℕ → Variable
a_variable s = record { name = codes "a"; sort = s }

-- what a generator's constants are named after: the variable at its sort, and a at others
abbrev pub argument_variables : Variable → List (List ℕ) → List Variable
argument_variables x sorts = map (λ s. if bytes_eq s x.sort then x else a_variable s) sorts

-- the goal with a term in the place of a variable
abbrev pub goal_at : Variable → Tree → Tree → Tree
goal_at x goal t = instance_of (only x.name x.sort t) goal

-- the goal is supposed of each constant of the variable's sort
abbrev pub supposed_of : Variable → Tree → List PlainOperator → List Sides
supposed_of x goal [] = []
supposed_of x goal (c ∷ cs) =
    if bytes_eq c.range x.sort then holds (goal_at x goal (constant c)) ∷ supposed_of x goal cs
    else supposed_of x goal cs

-- the names of constants
abbrev pub names_of : List PlainOperator → List (List ℕ)
names_of cs = map (λ c. name_bytes c.name) cs

-- by induction: one subgoal for each generator, each with constants that are new beside those before
abbrev pub induction_subgoals : List (List ℕ) → Variable → Tree → List PlainOperator → List Subgoal
induction_subgoals taken x goal [] = []
induction_subgoals taken x goal (f ∷ fs) =
    let cs = new_constants taken (argument_variables x f.domain) in
    record { constants = cs; hypotheses = supposed_of x goal cs; goal = goal_at x goal (app f (constant_terms cs)) }
    ∷ induction_subgoals (names_of cs ++ taken) x goal fs

-- arguments of these sorts, the first having a number: a term at a place, and these constants in turn at the others,
-- of which there never are fewer
abbrev pub arguments_around : ℕ → Tree → ℕ → List (List ℕ) → List PlainOperator → Forest
arguments_around place t k [] cs = none
arguments_around place t k (s ∷ ss) [] = elim (k == place) [
  | true ↦ more t (arguments_around place t (suc k) ss [])
  | false ↦ none
]
arguments_around place t k (s ∷ ss) (c ∷ cs) = elim (k == place) [
  | true ↦ more t (arguments_around place t (suc k) ss (c ∷ cs))
  | false ↦ more (constant c) (arguments_around place t (suc k) ss cs)
]

-- the sorts at the other places
abbrev pub other_sorts : ℕ → ℕ → List (List ℕ) → List (List ℕ)
other_sorts place k [] = []
other_sorts place k (s ∷ ss) =
    if k == place then other_sorts place (suc k) ss else s ∷ other_sorts place (suc k) ss

-- what an observer shows of a term, with constants for the other arguments
abbrev pub shown : Observation → List PlainOperator → Tree → Tree
shown w cs t = app w.observer (arguments_around w.place t 1 w.observer.domain cs)

-- by partition: one subgoal for each observation, that it shows the same of both terms
abbrev pub partition_subgoals : List (List ℕ) → Tree → Tree → List Observation → List Subgoal
partition_subgoals taken t u [] = []
partition_subgoals taken t u (w ∷ ws) =
    let cs = new_constants taken (map a_variable (other_sorts w.place 1 w.observer.domain)) in
    record { constants = cs; hypotheses = []; goal = formula (shown w cs t) (shown w cs u) }
    ∷ partition_subgoals (names_of cs ++ taken) t u ws

-- the methods
pub data Method : Type 0 where
  Cases : Tree → Method
  Implication : Method
  Conjunction : Method
  Contradiction : Method
  Induction : List ℕ → Method
  Partition : Method

-- what was found, or a refusal
abbrev pub found_or : {A : Type 0} → Code → Option A → Result A Code
found_or code None = Err code
found_or code (Some x) = Ok x

-- by what was found, or a refusal
abbrev pub with_found : {A B : Type 0} → Code → Option A → (A → Result B Code) → Result B Code
with_found code None next = Err code
with_found code (Some x) next = next x

-- induction on the first variable of a name, by the first clause that generates its sort
abbrev pub induction_plan : Setting → Tree → List ℕ → Result Plan Code
induction_plan setting goal n =
    with_found refusal.Variable (find (λ v. bytes_eq v.name n) (variables_of goal)) (λ x.
    with_found refusal.Generated (generators x.sort setting.clauses) (λ fs.
    Ok (record { constants = []; subgoals = induction_subgoals (taken_beside setting.taken goal) x goal fs })))

-- an equality, by the first clause that partitions the sort of its sides
abbrev pub partition_plan : Setting → Tree → Result Plan Code
partition_plan setting goal =
    with_found refusal.Shape (two_arguments (λ f. is_built_in_as f Equal) goal) (λ p.
    with_found refusal.Partitioned (observers (sort_of p.0) setting.clauses) (λ os.
    Ok (record {
      constants = [];
      subgoals = partition_subgoals (taken_beside setting.taken goal) p.0 p.1 (observations_of (sort_of p.0) os);
    })))

-- the plan of a method for a goal, or why there is none
unfoldable pub plan : Setting → Tree → Method → Result Plan Code
plan setting goal (Cases f) = Ok (cases_plan setting.taken goal f)
plan setting goal Implication = found_or refusal.Shape (implication_plan setting.taken goal)
plan setting goal Conjunction = found_or refusal.Shape (conjunction_plan goal)
plan setting goal Contradiction = Ok (contradiction_plan setting.taken goal)
plan setting goal (Induction n) = induction_plan setting goal n
plan setting goal Partition = partition_plan setting goal

-- a well sorted formula over operators
abbrev pub IsFormulaOver : List PlainOperator → Tree → Type 0
IsFormulaOver fs t = IsTermOver fs t × (sort_of t ≡ bool_sort)

-- what a method is carried out with is well sorted over operators
abbrev pub IsMethodOver : List PlainOperator → Method → Type 0
IsMethodOver fs (Cases f) = IsFormulaOver fs f
IsMethodOver fs Implication = Unit {0}
IsMethodOver fs Conjunction = Unit {0}
IsMethodOver fs Contradiction = Unit {0}
IsMethodOver fs (Induction n) = Unit {0}
IsMethodOver fs Partition = Unit {0}

-- a subgoal is well sorted over operators
abbrev pub IsSubgoalOver : List PlainOperator → Subgoal → Type 0
IsSubgoalOver fs s = All (AreSidesOver fs) s.hypotheses × IsFormulaOver fs s.goal

-- each subgoal of a plan is well sorted over operators, the plan's constants and its own
abbrev pub IsPlanOver : List PlainOperator → Plan → Type 0
IsPlanOver fs made =
    (s : Subgoal) → Contains made.subgoals s → IsSubgoalOver (fs ++ (made.constants ++ s.constants)) s
