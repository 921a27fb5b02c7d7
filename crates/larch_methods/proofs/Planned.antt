-- What each method plans, and the sorts of its constants.
use Rattle.std.specs.Prelude.{◌≡◌, ℕ, Bool, true, false, cond, List, [], ◌∷◌, map, bytes_eq, find, Option, Some, None}
use Rattle.std.specs.Prelude.{option_map, Result, Ok, refl}
use Rattle.std.proofs.Common.{ap, ap₂, sym, ◌∙◌}
use Rattle.std.proofs.lemmas.Slice.Eq.{bytes_eq-Decides}
use Rattle.larch_base.specs.declared.code.Code.{Code}
use Rattle.larch_base.specs.declared.code.Code.TheVariants as refusal
use Rattle.larch_term.specs.BuiltIn.{bool_sort, built_in, is_built_in_as}
use Rattle.larch_term.specs.Equality.{same_operator}
use Rattle.larch_term.specs.Operator.{PlainOperator}
use Rattle.larch_term.specs.OperatorKey.{operator_Decides}
use Rattle.larch_term.specs.Sorts.{sort_of}
use Rattle.larch_term.specs.Tree.{Tree}
use Rattle.larch_term.specs.Truth.{truth}
use Rattle.larch_term.specs.Variable.{variables_of}
use Rattle.larch_term.specs.declared.built_in.BuiltIn.TheVariants.{And, Equal, Implies}
use Rattle.larch_term.specs.declared.variable.Variable.{Variable}
use Rattle.larch_calculus.specs.Formula.{constant, implication}
use Rattle.larch_calculus.specs.Generation.{equation_at, induction_hypotheses}
use Rattle.larch_calculus.specs.Observation.{observations_of}
use Rattle.larch_prove_plans.specs.Planning.{equate}
use Rattle.larch_prove_plans.specs.ProveMeaningNewNames.{free_name, new_constants}
use Rattle.larch_prove_plans.specs.ProveMeaningPlans.{Cases, Conjunction, Contradiction, Implication}
use Rattle.larch_prove_plans.specs.ProveMeaningPlans.{Induction, Partition, Plan}
use Rattle.larch_prove_plans.specs.ProveMeaningPlans.{Setting, a_variable, argument_variables, cases_plan, conjuncts}
use Rattle.larch_prove_plans.specs.ProveMeaningPlans.{contradiction_plan, found_or, generators}
use Rattle.larch_prove_plans.specs.ProveMeaningPlans.{goal_at, holds, implication_of}
use Rattle.larch_prove_plans.specs.ProveMeaningPlans.{induction_subgoals, observers, partition_subgoals}
use Rattle.larch_prove_plans.specs.ProveMeaningPlans.{plan, shared_subgoal}
use Rattle.larch_prove_plans.specs.ProveMeaningPlans.{supposed_of, taken_beside, two_arguments, with_found}
use Rattle.larch_prove_plans.proofs.ProveMeaningLevelSorts.{ok_inj}

-- ---- plans

pub cases_planned : (setting : Setting) (goal f : Tree) (made : Plan) → plan setting goal (Cases f) ≡ Ok made
    → made ≡ cases_plan setting.taken goal f
unfolding plan
cases_planned setting goal f made e = sym (ok_inj e)

pub contradiction_planned : (setting : Setting) (goal : Tree) (made : Plan) → plan setting goal Contradiction ≡ Ok made
    → made ≡ contradiction_plan setting.taken goal
unfolding plan
contradiction_planned setting goal made e = sym (ok_inj e)

implication_found : (goal p q : Tree) → goal ≡ implication p q
    → two_arguments (same_operator (built_in Implies bool_sort)) goal ≡ Some (p, q)
implication_found goal p q e =
    let f = built_in Implies bool_sort in
    ap (two_arguments (same_operator f)) e
    ∙ ap (λ b. cond b (Some (p, q)) None) ((operator_Decides f f).1 refl)

pub implication_planned : (setting : Setting) (goal p q : Tree) (made : Plan) → goal ≡ implication p q
    → plan setting goal Implication ≡ Ok made → made ≡ implication_of setting.taken goal (p, q)
unfolding plan
implication_planned setting goal p q made e h =
    sym (ok_inj (sym (ap (λ o. found_or refusal.Shape (option_map (implication_of setting.taken goal) o))
    (implication_found goal p q e)) ∙ h))

conjuncts_by : (goal : Tree) (made : Plan) (o : Option (Tree × Tree))
    → found_or refusal.Shape (option_map
    (λ p. record { constants = []; subgoals = map (shared_subgoal []) (conjuncts goal) }) o)
    ≡ Ok made → made.subgoals ≡ map (shared_subgoal []) (conjuncts goal)
conjuncts_by goal made None h = cc
conjuncts_by goal made (Some p) h = ap (λ (m : Plan). m.subgoals) (sym (ok_inj h))

pub conjunction_planned : (setting : Setting) (goal : Tree) (made : Plan) → plan setting goal Conjunction ≡ Ok made
    → made.subgoals ≡ map (shared_subgoal []) (conjuncts goal)
unfolding plan
conjunction_planned setting goal made h =
    conjuncts_by goal made (two_arguments (same_operator (built_in And bool_sort)) goal) h

-- what is made for generators, and for a variable
abbrev induction_made : Setting → Tree → Variable → List PlainOperator → Plan
induction_made setting goal x fs =
    record { constants = []; subgoals = induction_subgoals (taken_beside setting.taken goal) x goal fs }

abbrev by_generators : Setting → Tree → Variable → Result Plan Code
by_generators setting goal x =
    with_found refusal.Generated (generators x.sort setting.clauses) (λ fs. Ok (induction_made setting goal x fs))

pub induction_planned : (setting : Setting) (goal : Tree) (n : List ℕ) (v : Variable) (fs : List PlainOperator)
    (made : Plan) → plan setting goal (Induction n) ≡ Ok made
    → find (λ v. bytes_eq v.name n) (variables_of goal) ≡ Some v
    → generators v.sort setting.clauses ≡ Some fs
    → made.subgoals ≡ induction_subgoals (taken_beside setting.taken goal) v goal fs
unfolding plan
induction_planned setting goal n v fs made h e g =
    let first = ap (λ o. with_found refusal.Variable o (by_generators setting goal)) e in
    let second = ap (λ o. with_found refusal.Generated o (λ gs. Ok (induction_made setting goal v gs))) g in
    ap (λ (m : Plan). m.subgoals) (sym (ok_inj (sym (first ∙ second) ∙ h)))

-- what is made for observers, and for the sides of an equality
abbrev partition_made : Setting → Tree → Tree × Tree → List PlainOperator → Plan
partition_made setting goal p os = record {
  constants = [];
  subgoals = partition_subgoals (taken_beside setting.taken goal) p.0 p.1 (observations_of (sort_of p.0) os);
}

abbrev by_observers : Setting → Tree → Tree × Tree → Result Plan Code
by_observers setting goal p =
    with_found refusal.Partitioned (observers (sort_of p.0) setting.clauses)
    (λ os. Ok (partition_made setting goal p os))

pub partition_planned : (setting : Setting) (goal l r : Tree) (os : List PlainOperator) (made : Plan)
    → plan setting goal Partition ≡ Ok made → two_arguments (λ f. is_built_in_as f Equal) goal ≡ Some (l, r)
    → observers (sort_of l) setting.clauses ≡ Some os
    → made.subgoals ≡ partition_subgoals (taken_beside setting.taken goal) l r (observations_of (sort_of l) os)
unfolding plan
partition_planned setting goal l r os made h e g =
    let first = ap (λ o. with_found refusal.Shape o (by_observers setting goal)) e in
    let second = ap (λ o. with_found refusal.Partitioned o (λ ps. Ok (partition_made setting goal (l, r) ps))) g in
    ap (λ (m : Plan). m.subgoals) (sym (ok_inj (sym (first ∙ second) ∙ h)))

-- ---- constants

pub new_sorts : (taken : List (List ℕ)) (vs : List Variable)
    → map (λ c. c.range) (new_constants taken vs) ≡ map (λ v. v.sort) vs
new_sorts taken [] = refl
new_sorts taken (v ∷ vs) = ap (λ ss. v.sort ∷ ss) (new_sorts (free_name taken _ ∷ taken) vs)

pub argument_sorts : (x : Variable) (ss : List (List ℕ)) → map (λ v. v.sort) (argument_variables x ss) ≡ ss
argument_sorts x [] = refl
argument_sorts x (s ∷ ss) =
    ap₂ (λ r rs. r ∷ rs) (chosen (bytes_eq s x.sort) (bytes_eq-Decides s x.sort).0) (argument_sorts x ss)
  where
    chosen : (b : Bool) → (b ≡ true → s ≡ x.sort) → (let v : Variable = cond b x (a_variable s) in v.sort) ≡ s
    chosen true e = sym (e refl)
    chosen false e = refl

pub other_are : (ss : List (List ℕ)) → map (λ v. v.sort) (map a_variable ss) ≡ ss
other_are [] = refl
other_are (s ∷ ss) = ap (λ rs. s ∷ rs) (other_are ss)

-- the hypotheses of a generator's subgoal are those of its case
pub supposed_as : (v : Variable) (g : Tree) (cs : List PlainOperator)
    → map equate (supposed_of v g cs) ≡ induction_hypotheses v.name v.sort g truth cs
supposed_as v g [] = refl
supposed_as v g (c ∷ cs) = chosen (bytes_eq c.range v.sort) (supposed_as v g cs)
  where
    chosen : (b : Bool)
        → map equate (supposed_of v g cs) ≡ induction_hypotheses v.name v.sort g truth cs
        → map equate (cond b (holds (goal_at v g (constant c)) ∷ supposed_of v g cs) (supposed_of v g cs))
        ≡ cond b (equation_at v.name v.sort g truth (constant c) ∷ induction_hypotheses v.name v.sort g truth cs)
        (induction_hypotheses v.name v.sort g truth cs)
    chosen true e = ap (λ hs. equation_at v.name v.sort g truth (constant c) ∷ hs) e
    chosen false e = e
