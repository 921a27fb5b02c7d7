-- The boxes of a plan's subgoals, and of clauses, may be opened.
use Rattle.std.specs.Prelude.{◌≡◌, ℕ, Bool, true, false, List, [], ◌∷◌, ◌++◌, map, bytes_eq, find, All, Some, Ok, refl}
use Rattle.std.proofs.Common.{ap, sym, subst, ◌∙◌}
use Rattle.std.proofs.lemmas.List.Elements.{All-cons, All-contains, All-head, All-nil, All-tail}
use Rattle.larch_base.proofs.Members.{contains_here, contains_later}
use Rattle.larch_term.specs.BuiltIn.{bool_sort, built_in, is_built_in_as}
use Rattle.larch_term.specs.Operator.{PlainOperator}
use Rattle.larch_term.specs.Sorts.{sort_of, IsKnown}
use Rattle.larch_term.specs.Statement.{IsStatementOver}
use Rattle.larch_term.specs.Tree.{Tree, app}
use Rattle.larch_term.specs.Truth.{truth}
use Rattle.larch_term.specs.Variable.{variables_of}
use Rattle.larch_term.specs.declared.built_in.BuiltIn.TheVariants.{Equal, Implies}
use Rattle.larch_term.specs.declared.statement.Statement.TheVariants.{Equation, Generated, Partitioned}
use Rattle.larch_term.specs.declared.variable.Variable.{Variable}
use Rattle.larch_calculus.specs.Formula.{falsity, formula, implication}
use Rattle.larch_calculus.specs.Generation.{constant_terms}
use Rattle.larch_calculus.specs.Observation.{Observation, observations_of}
use Rattle.larch_calculus.proofs.Observed.{observation_is}
use Rattle.larch_base.proofs.Lists.{all_from}
use Rattle.larch_derive.specs.Builder.{boxes_in, theory_in}
use Rattle.larch_derive.specs.Predicates.{AreOthers, HasNoBadLine}
use Rattle.larch_derive.specs.declared.builder.Builder.{Builder}
use Rattle.larch_derive.specs.declared.open_box.OpenBox.{OpenBox}
use Rattle.larch_derive.proofs.Growth.{known_stands}
use Rattle.larch_derive.specs.Words.{IsWordedOperator, AreWordedOperators, IsWordedTerm, IsWordedStatement}
use Rattle.larch_derive_clauses.specs.DeriveBoxesBoxes.{AreOwnConstants, MaySuppose, Opens}
use Rattle.larch_derive_clauses.proofs.DeriveBoxesInside.{generation_supposed, induction_supposed}
use Rattle.larch_derive_clauses.proofs.DeriveBoxesInside.{observations_supposed}
use Rattle.larch_derive_clauses.proofs.DeriveBoxesOpening.{may_suppose}
use Rattle.larch_prove_plans.specs.ClauseGoals.{generation_goal, partition_goal, predicate_named}
use Rattle.larch_prove_plans.specs.Planning.{equate}
use Rattle.larch_prove_plans.specs.ProveMeaningNewNames.{constant_named, new_constants}
use Rattle.larch_prove_plans.specs.ProveMeaningPlans.{Cases, Contradiction, Implication, Induction}
use Rattle.larch_prove_plans.specs.ProveMeaningPlans.{Partition, Plan, Setting}
use Rattle.larch_prove_plans.specs.ProveMeaningPlans.{Subgoal, a_variable, argument_variables}
use Rattle.larch_prove_plans.specs.ProveMeaningPlans.{closed_by, constants_of, fails}
use Rattle.larch_prove_plans.specs.ProveMeaningPlans.{generators, goal_at, holds}
use Rattle.larch_prove_plans.specs.ProveMeaningPlans.{induction_subgoals, names_of, observers}
use Rattle.larch_prove_plans.specs.ProveMeaningPlans.{other_sorts, partition_subgoals, plan}
use Rattle.larch_prove_plans.specs.ProveMeaningPlans.{shared_subgoal, shown, supposed_of}
use Rattle.larch_prove_plans.specs.ProveMeaningPlans.{taken_beside, two_arguments}
use Rattle.larch_prove_plans.proofs.ProveMeaningPlanParts.{new_are_constants}
use Rattle.larch_methods.specs.Inside.{IsInside, value_term}
use Rattle.larch_methods.specs.Methods.{IsKnownFormula}
use Rattle.larch_methods.specs.Opening.{HasOtherConstants, MayBegin, MayBeginAll, MayOpen}
use Rattle.larch_methods.proofs.Opened.{begins_inside, closed_known, may_open_bare}
use Rattle.larch_methods.proofs.Planned.{cases_planned, contradiction_planned, implication_planned, induction_planned}
use Rattle.larch_methods.proofs.Planned.{argument_sorts, new_sorts, other_are, partition_planned, supposed_as}
use Rattle.larch_methods.proofs.Connectives.{known_arguments}
use Rattle.larch_methods.proofs.Worded.{new_worded, others_worded, variables_worded}
use Rattle.larch_methods.proofs.Sharing.{value_known, value_sort}

-- ---- a box for one formula

formula_opens : (b : Builder) (f : Tree) (v : Bool) → IsKnownFormula b f
    → MayOpen b [] (Equation f (value_term v) ∷ [])
formula_opens b f v k =
    let none : AreOthers (theory_in b) [] = All-nil (λ c. IsKnown (theory_in b).operators c → ⊥) in
    let st = known_stands b f k.known in
    record {
      stands = st;
      others = none;
      parts = All-nil IsWordedOperator;
      supposed = λ n.
          let x : OpenBox = record { number = n; constants = [] } in
          All-cons (MaySuppose b x) (Equation f (value_term v)) []
          (may_suppose b x f (value_term v) none k.known (value_known b v st) (k.sort ∙ sym (value_sort v)))
          (All-nil (MaySuppose b x));
    }

one_begins : (b : Builder) (s : Subgoal) → MayBegin b s → All (MayBegin b) (s ∷ [])
one_begins b s m = All-cons (MayBegin b) s [] m (All-nil (MayBegin b))

pub cases_begin : (a b : Builder) (x : OpenBox) (setting : Setting) (goal f : Tree) (made : Plan)
    → plan setting goal (Cases f) ≡ Ok made → x.constants ≡ made.constants → IsInside a b x (variables_of f)
    → IsKnownFormula a f → MayBeginAll b made
cases_begin a b x setting goal f made h e i k =
    let p = cases_planned setting goal f made h in
    let cs = constants_of setting.taken goal f in
    let g = closed_by f cs goal in
    let q : x.constants ≡ cs = e ∙ ap (λ (m : Plan). m.constants) p in
    let known = subst (λ ds. IsKnownFormula b (closed_by f ds f)) q (closed_known a b x (variables_of f) f i k) in
    subst (MayBeginAll b) (sym p)
    (All-cons (MayBegin b) (shared_subgoal (holds (closed_by f cs f) ∷ []) g)
    (shared_subgoal (fails (closed_by f cs f) ∷ []) g ∷ [])
    (formula_opens b (closed_by f cs f) true known)
    (one_begins b (shared_subgoal (fails (closed_by f cs f) ∷ []) g) (formula_opens b (closed_by f cs f) false known)))

pub implication_begins : (a b : Builder) (x : OpenBox) (setting : Setting) (goal p q : Tree) (made : Plan)
    → goal ≡ implication p q → plan setting goal Implication ≡ Ok made → x.constants ≡ made.constants
    → IsInside a b x (variables_of p) → IsKnownFormula a goal → MayBeginAll b made
implication_begins a b x setting goal p q made w h e i k =
    let m = implication_planned setting goal p q made w h in
    let cs = constants_of setting.taken goal p in
    let c : x.constants ≡ cs = e ∙ ap (λ (m : Plan). m.constants) m in
    let premise =
    (known_arguments a (built_in Implies bool_sort) p q refl (subst (λ t. IsKnownFormula a t) w k).known).0 in
    let known = subst (λ ds. IsKnownFormula b (closed_by p ds p)) c (closed_known a b x (variables_of p) p i premise) in
    subst (MayBeginAll b) (sym m)
    (one_begins b (shared_subgoal (holds (closed_by p cs p) ∷ []) (closed_by p cs q))
    (formula_opens b (closed_by p cs p) true known))

pub contradiction_begins : (a b : Builder) (x : OpenBox) (setting : Setting) (goal : Tree) (made : Plan)
    → plan setting goal Contradiction ≡ Ok made → x.constants ≡ made.constants → IsInside a b x (variables_of goal)
    → IsKnownFormula a goal → MayBeginAll b made
contradiction_begins a b x setting goal made h e i k =
    let m = contradiction_planned setting goal made h in
    let cs = constants_of setting.taken goal goal in
    let c : x.constants ≡ cs = e ∙ ap (λ (m : Plan). m.constants) m in
    let known = subst (λ ds. IsKnownFormula b (closed_by goal ds goal)) c
    (closed_known a b x (variables_of goal) goal i k) in
    subst (MayBeginAll b) (sym m)
    (one_begins b (shared_subgoal (fails (closed_by goal cs goal) ∷ []) falsity)
    (formula_opens b (closed_by goal cs goal) false known))

-- ---- shared boxes

pub cases_inside : (a b : Builder) (x : OpenBox) (setting : Setting) (goal f : Tree) (made : Plan)
    → plan setting goal (Cases f) ≡ Ok made → Opens a b x [] → x.constants ≡ made.constants
    → AreOwnConstants (boxes_in a) x → IsWordedTerm f → IsInside a b x (variables_of f)
cases_inside a b x setting goal f made h o e own w =
    begins_inside a b x (variables_of f) o own
    (ap (map (λ c. c.range)) (e ∙ ap (λ (m : Plan). m.constants) (cases_planned setting goal f made h))
    ∙ new_sorts (taken_beside setting.taken goal) (variables_of f)) (variables_worded f w)

pub implication_inside : (a b : Builder) (x : OpenBox) (setting : Setting) (goal p q : Tree) (made : Plan)
    → goal ≡ implication p q → plan setting goal Implication ≡ Ok made → Opens a b x [] → x.constants ≡ made.constants
    → AreOwnConstants (boxes_in a) x → IsWordedTerm p → IsInside a b x (variables_of p)
implication_inside a b x setting goal p q made w h o e own ws =
    begins_inside a b x (variables_of p) o own
    (ap (map (λ c. c.range)) (e ∙ ap (λ (m : Plan). m.constants) (implication_planned setting goal p q made w h))
    ∙ new_sorts (taken_beside setting.taken goal) (variables_of p)) (variables_worded p ws)

pub contradiction_inside : (a b : Builder) (x : OpenBox) (setting : Setting) (goal : Tree) (made : Plan)
    → plan setting goal Contradiction ≡ Ok made → Opens a b x [] → x.constants ≡ made.constants
    → AreOwnConstants (boxes_in a) x → IsWordedTerm goal → IsInside a b x (variables_of goal)
contradiction_inside a b x setting goal made h o e own w =
    begins_inside a b x (variables_of goal) o own
    (ap (map (λ c. c.range)) (e ∙ ap (λ (m : Plan). m.constants) (contradiction_planned setting goal made h))
    ∙ new_sorts (taken_beside setting.taken goal) (variables_of goal)) (variables_worded goal w)

-- ---- induction

case_opens : (b : Builder) (v : Variable) (g : Tree) (cs : List PlainOperator) → IsKnownFormula b g
    → AreOthers (theory_in b) cs → All (λ f. f.domain ≡ []) cs → AreWordedOperators cs
    → MayOpen b cs (map equate (supposed_of v g cs))
case_opens b v g cs k o a w =
    let st = known_stands b g k.known in
    record {
      stands = st;
      others = o;
      parts = w;
      supposed = λ n.
          let x : OpenBox = record { number = n; constants = cs } in
          subst (All (MaySuppose b x)) (sym (supposed_as v g cs))
          (induction_supposed b x v.name v.sort g truth o a k.known (value_known b true st) k.sort w);
    }

abbrev OtherConstants : Builder → Subgoal → Type 0
OtherConstants b s = AreOthers (theory_in b) s.constants

induction_subgoals_begin : (b : Builder) (v : Variable) (g : Tree) (taken : List (List ℕ)) (fs : List PlainOperator)
    → IsKnownFormula b g → All (OtherConstants b) (induction_subgoals taken v g fs) → AreWordedOperators fs
    → All (MayBegin b) (induction_subgoals taken v g fs)
induction_subgoals_begin b v g taken [] k o ws = All-nil (MayBegin b)
induction_subgoals_begin b v g taken (f ∷ fs) k o ws =
    let vs = argument_variables v f.domain in
    let cs = new_constants taken vs in
    let first : Subgoal = record {
      constants = cs;
      hypotheses = supposed_of v g cs;
      goal = goal_at v g (app f (constant_terms cs));
    } in
    let rest = induction_subgoals (names_of cs ++ taken) v g fs in
    All-cons (MayBegin b) first rest
    (case_opens b v g cs k (All-head (OtherConstants b) first rest o) (new_are_constants taken vs)
    (new_worded taken vs f.domain (argument_sorts v f.domain) (All-head IsWordedOperator f fs ws).0))
    (induction_subgoals_begin b v g (names_of cs ++ taken) fs k (All-tail (OtherConstants b) first rest o)
    (All-tail IsWordedOperator f fs ws))

pub induction_begins : (b : Builder) (setting : Setting) (goal : Tree) (n : List ℕ) (v : Variable)
    (fs : List PlainOperator) (made : Plan) → plan setting goal (Induction n) ≡ Ok made
    → find (λ v. bytes_eq v.name n) (variables_of goal) ≡ Some v → generators v.sort setting.clauses ≡ Some fs
    → IsKnownFormula b goal → HasOtherConstants b made → AreWordedOperators fs → MayBeginAll b made
induction_begins b setting goal n v fs made h e g k o w =
    let p = induction_planned setting goal n v fs made h e g in
    subst (All (MayBegin b)) (sym p)
    (induction_subgoals_begin b v goal (taken_beside setting.taken goal) fs k (subst (All (OtherConstants b)) p o) w)

-- ---- partition

partition_subgoals_begin : (b : Builder) (l r : Tree) (taken : List (List ℕ)) (ws : List Observation) → HasNoBadLine b
    → All (OtherConstants b) (partition_subgoals taken l r ws) → All (λ w. IsWordedOperator w.observer) ws
    → All (MayBegin b) (partition_subgoals taken l r ws)
partition_subgoals_begin b l r taken [] st o k = All-nil (MayBegin b)
partition_subgoals_begin b l r taken (w ∷ ws) st o k =
    let ss = other_sorts w.place 1 w.observer.domain in
    let cs = new_constants taken (map a_variable ss) in
    let here = All-head (λ w. IsWordedOperator w.observer) w ws k in
    let first : Subgoal = record {
      constants = cs;
      hypotheses = [];
      goal = formula (shown w cs l) (shown w cs r);
    } in
    let rest = partition_subgoals (names_of cs ++ taken) l r ws in
    All-cons (MayBegin b) first rest
    (may_open_bare b cs st (All-head (OtherConstants b) first rest o)
    (new_worded taken (map a_variable ss) ss (other_are ss) (others_worded w.place 1 w.observer.domain here.0)))
    (partition_subgoals_begin b l r (names_of cs ++ taken) ws st (All-tail (OtherConstants b) first rest o)
    (All-tail (λ w. IsWordedOperator w.observer) w ws k))

pub partition_begins : (b : Builder) (setting : Setting) (goal l r : Tree) (os : List PlainOperator) (made : Plan)
    → plan setting goal Partition ≡ Ok made → two_arguments (λ f. is_built_in_as f Equal) goal ≡ Some (l, r)
    → observers (sort_of l) setting.clauses ≡ Some os → HasNoBadLine b → HasOtherConstants b made
    → AreWordedOperators os → MayBeginAll b made
partition_begins b setting goal l r os made h e g st o w =
    let p = partition_planned setting goal l r os made h e g in
    subst (All (MayBegin b)) (sym p)
    (partition_subgoals_begin b l r (taken_beside setting.taken goal) (observations_of (sort_of l) os) st
    (subst (All (OtherConstants b)) p o)
    (all_from (λ w. IsWordedOperator w.observer) (observations_of (sort_of l) os)
    (λ v c. All-contains IsWordedOperator os v.observer w (observation_is (sort_of l) os v c).0)))

-- ---- clauses

pub generation_begins : (b : Builder) (n s : List ℕ) (fs : List PlainOperator) → HasNoBadLine b
    → AreOthers (theory_in b) (predicate_named n s ∷ []) → IsStatementOver (theory_in b).operators (Generated s fs)
    → IsWordedStatement (Generated s fs)
    → MayOpen b (generation_goal n s fs).constants (generation_goal n s fs).hypotheses
generation_begins b n s fs st o w ws =
    record {
      stands = st;
      others = o;
      parts = All-cons IsWordedOperator (predicate_named n s) [] ((ws.0, tt), refl) (All-nil IsWordedOperator);
      supposed = λ k. generation_supposed b (record { number = k; constants = predicate_named n s ∷ [] })
          (predicate_named n s) s fs st o refl refl refl w ws;
    }

pub partition_goal_begins : (b : Builder) (n m s : List ℕ) (os : List PlainOperator) → HasNoBadLine b
    → AreOthers (theory_in b) (constant_named n s ∷ constant_named m s ∷ [])
    → IsStatementOver (theory_in b).operators (Partitioned s os) → IsWordedStatement (Partitioned s os)
    → MayOpen b (partition_goal n m s os).constants (partition_goal n m s os).hypotheses
partition_goal_begins b n m s os st o w ws =
    let c = constant_named n s in
    let d = constant_named m s in
    record {
      stands = st;
      others = o;
      parts = All-cons IsWordedOperator c (d ∷ []) (tt, ws.0)
          (All-cons IsWordedOperator d [] (tt, ws.0) (All-nil IsWordedOperator));
      supposed = λ k. observations_supposed b (record { number = k; constants = c ∷ d ∷ [] }) c d s os st o
          (All-cons (λ f. f.domain ≡ []) c (d ∷ []) refl
          (All-cons (λ f. f.domain ≡ []) d [] refl (All-nil (λ f. f.domain ≡ []))))
          (contains_here c (d ∷ [])) (contains_later c d (d ∷ []) (contains_here d [])) refl refl w ws;
    }
