-- What each method plans.
use Rattle.std.specs.Prelude.{◌≡◌, ℕ, List, [], ◌∷◌, ◌++◌, bytes_eq, find, Option, Some, None, option_map}
use Rattle.std.specs.Prelude.{Result, Ok, Err}
use Rattle.std.proofs.Common.{ap, sym, ◌∙◌}
use Rattle.larch_base.specs.declared.code.Code.{Code}
use Rattle.larch_base.specs.declared.code.Code.TheVariants as code
use Rattle.larch_term.specs.Operator.{PlainOperator}
use Rattle.larch_term.specs.Statement.{statement_zero}
use Rattle.larch_term.specs.Tree.{Tree}
use Rattle.larch_term.specs.Variable.{variables_of}
use Rattle.larch_term.specs.declared.statement.Theory.{Theory}
use Rattle.larch_term.specs.declared.variable.Variable.{Variable}
use Rattle.larch_prove_meaning.specs.Plans as defined
use Rattle.larch_prove_meaning.specs.Plans.{cases_plan, conjunction_plan, contradiction_plan, implication_plan}
use Rattle.larch_prove_meaning.specs.Plans.{induction_plan}
use Rattle.larch_prove_meaning.specs.Plans.{partition_plan, plan, induction_subgoals, found_or, with_found, generators}
use Rattle.larch_prove_meaning.specs.Plans.{taken_beside}
use Rattle.larch_prove_plans.specs.Planning.{method_of, names_of_operators, plan_of, plan_answer, planned_by}
use Rattle.larch_prove_plans.specs.declared.subgoals.Method.{Method}
use Rattle.larch_prove_plans.specs.declared.subgoals.Method.TheVariants.{Cases, Implication, Conjunction, Contradiction}
use Rattle.larch_prove_plans.specs.declared.subgoals.Method.TheVariants.{Induction, Partition}
use Rattle.larch_prove_plans.specs.declared.subgoals.Plan.{Plan}

-- a setting in which these names are taken
abbrev setting_with : Theory → List (List ℕ) → defined.Setting
setting_with t names = record { clauses = statement_zero ∷ t.statements; taken = names }

abbrev all_names : Theory → List (List ℕ) → List (List ℕ)
all_names t taken = names_of_operators t.operators ++ taken

-- by the method and the names
planned_with : (t : Theory) (taken names : List (List ℕ)) (goal : Tree) (m n : Method) → m ≡ n
    → names ≡ all_names t taken
    → plan_answer t taken goal m ≡ planned_by (defined.plan (setting_with t names) goal (method_of n))
planned_with t taken names goal m n e h =
    ap (λ x. plan_answer t taken goal x) e
    ∙ ap (λ ns. planned_by (defined.plan (setting_with t ns) goal (method_of n))) (sym h)

pub planned_cases : (t : Theory) (taken names : List (List ℕ)) (goal f : Tree) (m : Method) (made : Plan)
    → m ≡ Cases f → names ≡ names_of_operators t.operators ++ taken → made ≡ plan_of (cases_plan names goal f)
    → plan_answer t taken goal m ≡ Ok made
unfolding plan
planned_cases t taken names goal f m made e h w =
    planned_with t taken names goal m (Cases f) e h ∙ ap (λ x. Ok x) (sym w)

shape_or : (o : Option defined.Plan) (p : Option Plan) (a : Result Plan Code) → p ≡ option_map plan_of o
    → found_or code.Shape p ≡ a → planned_by (found_or code.Shape o) ≡ a
shape_or None p a e h = ap (found_or code.Shape) (sym e) ∙ h
shape_or (Some x) p a e h = ap (found_or code.Shape) (sym e) ∙ h

pub planned_implication : (t : Theory) (taken names : List (List ℕ)) (goal : Tree) (m : Method) (o : Option Plan)
    (a : Result Plan Code) → m ≡ Implication → names ≡ names_of_operators t.operators ++ taken
    → o ≡ option_map plan_of (implication_plan names goal) → found_or code.Shape o ≡ a → plan_answer t taken goal m ≡ a
unfolding plan
planned_implication t taken names goal m o a e h w q =
    planned_with t taken names goal m Implication e h ∙ shape_or (implication_plan names goal) o a w q

pub planned_conjunction : (t : Theory) (taken names : List (List ℕ)) (goal : Tree) (m : Method) (o : Option Plan)
    (a : Result Plan Code) → m ≡ Conjunction → names ≡ names_of_operators t.operators ++ taken
    → o ≡ option_map plan_of (conjunction_plan goal) → found_or code.Shape o ≡ a → plan_answer t taken goal m ≡ a
unfolding plan
planned_conjunction t taken names goal m o a e h w q =
    planned_with t taken names goal m Conjunction e h ∙ shape_or (conjunction_plan goal) o a w q

pub planned_contradiction : (t : Theory) (taken names : List (List ℕ)) (goal : Tree) (m : Method) (made : Plan)
    → m ≡ Contradiction → names ≡ names_of_operators t.operators ++ taken
    → made ≡ plan_of (contradiction_plan names goal) → plan_answer t taken goal m ≡ Ok made
unfolding plan
planned_contradiction t taken names goal m made e h w =
    planned_with t taken names goal m Contradiction e h ∙ ap (λ x. Ok x) (sym w)

pub planned_induction : (t : Theory) (taken names : List (List ℕ)) (goal : Tree) (n : List ℕ) (m : Method)
    → m ≡ Induction n → names ≡ names_of_operators t.operators ++ taken
    → plan_answer t taken goal m
    ≡ planned_by (induction_plan (record { clauses = statement_zero ∷ t.statements; taken = names }) goal n)
unfolding plan
planned_induction t taken names goal n m e h = planned_with t taken names goal m (Induction n) e h

pub planned_partition : (t : Theory) (taken names : List (List ℕ)) (goal : Tree) (m : Method) → m ≡ Partition
    → names ≡ names_of_operators t.operators ++ taken
    → plan_answer t taken goal m
    ≡ planned_by (partition_plan (record { clauses = statement_zero ∷ t.statements; taken = names }) goal)
unfolding plan
planned_partition t taken names goal m e h = planned_with t taken names goal m Partition e h

-- ---- induction

some_found : {A B : Type 0} (c : Code) (o : Option A) (x : A) (next : A → Result B Code) → o ≡ Some x
    → with_found c o next ≡ next x
some_found c o x next e = ap (λ p. with_found c p next) e

none_found : {A B : Type 0} (c : Code) (o : Option A) (next : A → Result B Code) → o ≡ None
    → with_found c o next ≡ Err c
none_found c o next e = ap (λ p. with_found c p next) e

-- what is planned for a variable
abbrev for_variable : defined.Setting → Tree → Variable → Result defined.Plan Code
for_variable s goal x =
    with_found code.Generated (generators x.sort s.clauses) (λ fs.
    Ok (record { constants = []; subgoals = induction_subgoals (taken_beside s.taken goal) x goal fs }))

by_variable : (s : defined.Setting) (goal : Tree) (n : List ℕ) (x : Variable)
    → find (λ v. bytes_eq v.name n) (variables_of goal) ≡ Some x → induction_plan s goal n ≡ for_variable s goal x
by_variable s goal n x e =
    some_found code.Variable (find (λ v. bytes_eq v.name n) (variables_of goal)) x (for_variable s goal) e

pub not_generated : (s : defined.Setting) (goal : Tree) (n : List ℕ) (x : Variable)
    → find (λ v. bytes_eq v.name n) (variables_of goal) ≡ Some x → generators x.sort s.clauses ≡ None
    → planned_by (induction_plan s goal n) ≡ Err code.Generated
not_generated s goal n x e g = ap planned_by (by_variable s goal n x e ∙ none_found code.Generated _ _ g)

pub generated : (s : defined.Setting) (goal : Tree) (n : List ℕ) (x : Variable) (fs : List PlainOperator) (made : Plan)
    → find (λ v. bytes_eq v.name n) (variables_of goal) ≡ Some x → generators x.sort s.clauses ≡ Some fs
    → made ≡ plan_of (record { constants = []; subgoals = induction_subgoals (taken_beside s.taken goal) x goal fs })
    → planned_by (induction_plan s goal n) ≡ Ok made
generated s goal n x fs made e g w =
    ap planned_by (by_variable s goal n x e ∙ some_found code.Generated _ fs _ g) ∙ ap (λ p. Ok p) (sym w)
