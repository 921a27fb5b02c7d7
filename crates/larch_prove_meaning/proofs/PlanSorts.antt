-- Plans keep sorts.
use Rattle.std.specs.Prelude.{◌≡◌, ℕ, List, [], find, All, Contains, bytes_eq, Option, Some, None, Ok, refl}
use Rattle.std.proofs.Common.{ap, sym, subst, ◌∙◌}
use Rattle.larch_base.specs.declared.code.Code.TheVariants as refusal
use Rattle.larch_term.specs.Operator.{PlainOperator}
use Rattle.larch_term.specs.Tree.{Tree}
use Rattle.larch_term.specs.BuiltIn.{bool_sort, built_in, is_built_in_as}
use Rattle.larch_term.specs.Equality.{same_operator}
use Rattle.larch_term.specs.OperatorKey.{operator_Decides}
use Rattle.larch_term.specs.Sorts.{sort_of, IsKnown, IsTermOver}
use Rattle.larch_term.specs.Statement.{IsStatementOver}
use Rattle.larch_term.specs.Variable.{variables_of}
use Rattle.larch_term.specs.declared.built_in.BuiltIn.TheVariants.{And, Implies, Equal}
use Rattle.larch_term.specs.declared.variable.Variable.{Variable}
use Rattle.larch_rewrite_meaning.specs.CalculusObservation.{Observation, observations_of, places_of_sort}
use Rattle.larch_rewrite_meaning.specs.CalculusTheories.{IsTermOf}
use Rattle.larch_rewrite_meaning.proofs.CalculusObserved.{observation_is}
use Rattle.larch_rewrite_meaning.proofs.CalculusSorted.{sides_over}
use Rattle.larch_prove_meaning.specs.Plans.{Plan, Setting, Method, Cases, Implication, Conjunction, Contradiction}
use Rattle.larch_prove_meaning.specs.Plans.{Induction, Partition, taken_beside, two_arguments, generators, observers}
use Rattle.larch_prove_meaning.specs.Plans.{induction_subgoals, partition_subgoals, with_found, plan, IsFormulaOver}
use Rattle.larch_prove_meaning.specs.Plans.{IsMethodOver, IsPlanOver}
use Rattle.larch_prove_meaning.proofs.CasePlans.{HasArguments, arguments_found, cases_over, conjunction_plan_over}
use Rattle.larch_prove_meaning.proofs.CasePlans.{contradiction_over, implication_plan_over}
use Rattle.larch_prove_meaning.proofs.InductionPlans.{generators_over, induction_over, observers_over}
use Rattle.larch_prove_meaning.proofs.PartitionPlans.{partition_over}
use Rattle.larch_prove_meaning.proofs.PlanParts.{ok_same}

induction_found : (fs : List PlainOperator) (setting : Setting) (goal : Tree) (o : Option Variable) (made : Plan)
    → All (IsStatementOver fs) setting.clauses → IsFormulaOver fs goal
    → with_found refusal.Variable o (λ x.
    with_found refusal.Generated (generators x.sort setting.clauses) (λ gens.
    Ok (record { constants = []; subgoals = induction_subgoals (taken_beside setting.taken goal) x goal gens })))
    ≡ Ok made → IsPlanOver fs made
induction_found fs setting goal None made h w e = cc
induction_found fs setting goal (Some x) made h w e =
    by_clause (generators x.sort setting.clauses) (generators_over fs x.sort setting.clauses) e
  where
    by_clause : (o : Option (List PlainOperator))
        → ((gens : List PlainOperator) → All (IsStatementOver fs) setting.clauses → o ≡ Some gens
        → All (λ g. IsKnown fs g × (g.range ≡ x.sort)) gens)
        → with_found refusal.Generated o (λ gens.
        Ok (record { constants = []; subgoals = induction_subgoals (taken_beside setting.taken goal) x goal gens }))
        ≡ Ok made → IsPlanOver fs made
    by_clause None k q = cc
    by_clause (Some gens) k q =
        subst (IsPlanOver fs) (ok_same q)
        (induction_over fs x goal gens (taken_beside setting.taken goal) w (k gens h refl))

observed_in : (fs : List PlainOperator) (s : List ℕ) (os : List PlainOperator)
    → All (λ g. IsKnown fs g × Contains g.domain s) os → (w : Observation) → Contains (observations_of s os) w
    → IsKnown fs w.observer × Contains (places_of_sort s 1 w.observer.domain) w.place
observed_in fs s os h w c =
    let is = observation_is s os w c in
    ((subst (λ g. IsKnown fs g × Contains g.domain s) (is.0.2) (h is.0.0 w.observer is.0.1)).0, is.1)

partition_found : (fs : List PlainOperator) (setting : Setting) (goal : Tree) (p : Tree × Tree) (made : Plan)
    → All (IsStatementOver fs) setting.clauses → IsTermOf fs (sort_of p.0) p.0 → IsTermOf fs (sort_of p.0) p.1
    → with_found refusal.Partitioned (observers (sort_of p.0) setting.clauses) (λ os.
    Ok (record {
      constants = [];
      subgoals = partition_subgoals (taken_beside setting.taken goal) p.0 p.1 (observations_of (sort_of p.0) os);
    })) ≡ Ok made → IsPlanOver fs made
partition_found fs setting goal p made h w v e =
    by_clause (observers (sort_of p.0) setting.clauses) (observers_over fs (sort_of p.0) setting.clauses) e
  where
    by_clause : (o : Option (List PlainOperator))
        → ((os : List PlainOperator) → All (IsStatementOver fs) setting.clauses → o ≡ Some os
        → All (λ g. IsKnown fs g × Contains g.domain (sort_of p.0)) os)
        → with_found refusal.Partitioned o (λ os.
        Ok (record {
          constants = [];
          subgoals = partition_subgoals (taken_beside setting.taken goal) p.0 p.1 (observations_of (sort_of p.0) os);
        })) ≡ Ok made → IsPlanOver fs made
    by_clause None k q = cc
    by_clause (Some os) k q =
        subst (IsPlanOver fs) (ok_same q)
        (partition_over fs (sort_of p.0) p.0 p.1 (observations_of (sort_of p.0) os)
        (taken_beside setting.taken goal) w v
        (observed_in fs (sort_of p.0) os (k os h refl)))

equal_sides : (fs : List PlainOperator) (goal : Tree) (p : Tree × Tree) → IsTermOver fs goal
    → HasArguments (λ f. is_built_in_as f Equal) goal p → IsTermOf fs (sort_of p.0) p.0 × IsTermOf fs (sort_of p.0) p.1
equal_sides fs goal p w a =
    let f = a.0 in
    let e = (operator_Decides f (built_in Equal _)).0 a.1.0 in
    let s = sides_over fs f _ _ p.0 p.1 (ap (λ g. g.domain) e) (subst (IsTermOver fs) a.1.1 w) in
    ((s.0.0, refl), (s.1.0, s.1.1 ∙ sym s.0.1))

partition_plan_found : (fs : List PlainOperator) (setting : Setting) (goal : Tree) (o : Option (Tree × Tree))
    (made : Plan) → All (IsStatementOver fs) setting.clauses → IsTermOver fs goal
    → two_arguments (λ f. is_built_in_as f Equal) goal ≡ o
    → with_found refusal.Shape o (λ p.
    with_found refusal.Partitioned (observers (sort_of p.0) setting.clauses) (λ os.
    Ok (record {
      constants = [];
      subgoals = partition_subgoals (taken_beside setting.taken goal) p.0 p.1 (observations_of (sort_of p.0) os);
    }))) ≡ Ok made → IsPlanOver fs made
partition_plan_found fs setting goal None made h w q e = cc
partition_plan_found fs setting goal (Some p) made h w q e =
    let s = equal_sides fs goal p w (arguments_found (λ f. is_built_in_as f Equal) goal p q) in
    partition_found fs setting goal p made h s.0 s.1 e

-- where the clauses, a goal and what a method is carried out with are well sorted over operators, each subgoal of the
-- plan
-- is so over these, the plan's constants and its own
pub plan_over : (fs : List PlainOperator) (setting : Setting) (goal : Tree) (method : Method) (made : Plan)
    → All (IsStatementOver fs) setting.clauses → IsFormulaOver fs goal → IsMethodOver fs method
    → plan setting goal method ≡ Ok made → IsPlanOver fs made
unfolding plan
plan_over fs setting goal (Cases f) made h w m e =
    subst (IsPlanOver fs) (ok_same e) (cases_over fs setting.taken goal f w m)
plan_over fs setting goal Implication made h w m e =
    implication_plan_over fs setting.taken goal
    (two_arguments (same_operator (built_in Implies bool_sort)) goal) made w.0
    refl e
plan_over fs setting goal Conjunction made h w m e =
    conjunction_plan_over fs goal (two_arguments (same_operator (built_in And bool_sort)) goal) made w e
plan_over fs setting goal Contradiction made h w m e =
    subst (IsPlanOver fs) (ok_same e) (contradiction_over fs setting.taken goal w)
plan_over fs setting goal (Induction n) made h w m e =
    induction_found fs setting goal (find (λ v. bytes_eq v.name n) (variables_of goal)) made h w e
plan_over fs setting goal Partition made h w m e =
    partition_plan_found fs setting goal (two_arguments (λ f. is_built_in_as f Equal) goal) made h w.0 refl e
