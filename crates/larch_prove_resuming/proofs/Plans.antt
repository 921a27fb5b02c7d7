-- Plans, as they were asked for.
use Rattle.std.specs.Prelude.{◌≡◌, ◌<◌, ◌≤◌, ◌+◌, ℕ, List, [], ◌∷◌, ◌++◌, map, IfSome, Option, None, Some, option_map}
use Rattle.std.specs.Prelude.{Result, Ok, Err, get_or, length, refl, take}
use Rattle.std.specs.List.{flat_map, slice_get}
use Rattle.std.proofs.Common.{ap, sym, ◌∙◌}
use Rattle.std.proofs.lemmas.Grind.{flat_map-append}
use Rattle.std.proofs.lemmas.List.{append_assoc, append-nil, take_all, take_more}
use Rattle.larch_base.proofs.Options.{some_inj}
use Rattle.larch_base.specs.declared.code.Code.{Code}
use Rattle.larch_base.specs.declared.code.Code.TheVariants as refusal
use Rattle.larch_prove_work.specs.ProveInvariantHolding.{shared_shapes}
use Rattle.larch_prove_work.specs.ProveLevelsLevelPlanned.{Planned}
use Rattle.larch_prove_meaning.specs.Levels.{Proof, all_constants}
use Rattle.larch_prove_meaning.specs.Plans as defined
use Rattle.larch_prove_meaning.specs.Plans.{Cases, Conjunction, Contradiction, Implication, Induction, Method}
use Rattle.larch_prove_meaning.specs.Plans.{Partition, Plan, Setting, cases_plan, contradiction_plan, found_or}
use Rattle.larch_prove_meaning.specs.Plans.{implication_of, plan, two_arguments}
use Rattle.larch_prove_plans.specs.Planning.{cause, plan_of, planned_by, subgoal_of}
use Rattle.larch_prove_plans.specs.declared.refusal.PlanRefusal.{PlanRefusal}
use Rattle.larch_prove_plans.specs.declared.refusal.PlanRefusal.TheVariants.{Shape, Variable, Generated, Partitioned}
use Rattle.larch_prove_plans.specs.declared.refusal.PlanRefusal.TheVariants.{Memory}
use Rattle.larch_prove_plans.specs.declared.subgoals.Plan as stated
use Rattle.larch_prove_plans.specs.declared.subgoals.Subgoal as stated_goal
use Rattle.larch_prove_resuming.specs.Resuming.{IsPlannedFor, constants_in, plan_refusal}
use Rattle.larch_prove_work.specs.ProveSettingsTelling.{Tells}
use Rattle.larch_term.specs.BuiltIn.{bool_sort, built_in}
use Rattle.larch_term.specs.Equality.{same_operator}
use Rattle.larch_term.specs.Operator.{PlainOperator}
use Rattle.larch_term.specs.Tree.{Tree}
use Rattle.larch_term.specs.declared.built_in.BuiltIn.TheVariants.{Implies}

made_same : (m n : Plan) → ◌≡◌ {A = Result Plan Code} (Ok m) (Ok n) → m ≡ n
made_same m n e = cc

-- an implication has a subgoal
one_subgoal : (taken : List (List ℕ)) (goal : Tree) (o : Option (Tree × Tree)) (made : Plan)
    → found_or refusal.Shape (option_map (implication_of taken goal) o) ≡ Ok made → made.subgoals ≡ [] → ⊥
one_subgoal taken goal None made e h = absurd (cc)
one_subgoal taken goal (Some p) made e h =
    let x : (implication_of taken goal p).subgoals ≡ [] = ap (λ (m : Plan). m.subgoals) (made_same _ made e) ∙ h in
    absurd (cc)

-- a plan without subgoals shares no box
pub no_shared : (setting : Setting) (goal : Tree) (method : Method) (made : Plan) → plan setting goal method ≡ Ok made
    → made.subgoals ≡ [] → shared_shapes method made ≡ []
unfolding plan
no_shared setting goal (Cases f) made e h =
    let x : (cases_plan setting.taken goal f).subgoals ≡ [] = ap (λ (m : Plan). m.subgoals) (made_same _ made e) ∙ h in
    absurd (cc)
no_shared setting goal Implication made e h =
    absurd (one_subgoal setting.taken goal (two_arguments (same_operator (built_in Implies bool_sort)) goal) made e h)
no_shared setting goal Conjunction made e h = refl
no_shared setting goal Contradiction made e h =
    let x : (contradiction_plan setting.taken goal).subgoals ≡ [] =
    ap (λ (m : Plan). m.subgoals) (made_same _ made e) ∙ h in absurd (cc)
no_shared setting goal (Induction n) made e h = refl
no_shared setting goal Partition made e h = refl

stated_same : (m n : stated.Plan) → ◌≡◌ {A = Result stated.Plan Code} (Ok m) (Ok n) → n ≡ m
stated_same m n e = cc

-- what the code has planned is planned
pub planned_from : (answer : Result Plan Code) (x : stated.Plan) → planned_by answer ≡ Ok x
    → (made : Plan) × ((answer ≡ Ok made) × (x ≡ plan_of made))
planned_from (Ok made) x e = (made, (refl, stated_same (plan_of made) x e))
planned_from (Err code) x e = absurd (cc)

refused_from : (answer : Result Plan Code) (code : Code) → planned_by answer ≡ Err code → answer ≡ Err code
refused_from (Ok made) code e = absurd (cc)
refused_from (Err x) code e = cc

-- and what refuses it refuses the command
pub unplanned : (answer : Result Plan Code) (r : PlanRefusal)
    → IfSome (cause r) (λ code. planned_by answer ≡ Err code) → Tells answer (plan_refusal r)
unplanned answer Shape h = refused_from answer refusal.Shape h
unplanned answer Variable h = refused_from answer refusal.Variable h
unplanned answer Generated h = refused_from answer refusal.Generated h
unplanned answer Partitioned h = refused_from answer refusal.Partitioned h
unplanned answer Memory h = tt

-- the constants of a plan are those of the code's
flat_constants : (gs : List defined.Subgoal)
    → flat_map (λ (g : stated_goal.Subgoal). g.constants) (map subgoal_of gs)
    ≡ flat_map (λ (g : defined.Subgoal). g.constants) gs
flat_constants [] = refl
flat_constants (g ∷ gs) = ap (λ fs. g.constants ++ fs) (flat_constants gs)

pub constants_same : (made : Plan) → constants_in (plan_of made) ≡ all_constants made
constants_same made = ap (λ fs. made.constants ++ fs) (flat_constants made.subgoals)

pub constants_planned : (p : Proof) (planned : Planned) (made : Plan) (constants : List PlainOperator)
    → constants ≡ constants_in planned.plan → IsPlannedFor p planned made → constants ≡ all_constants made
constants_planned p planned made constants e w = e ∙ ap constants_in w.same ∙ constants_same made

-- a subgoal's constants more
pub constants_added : (first found more : List PlainOperator) (gs : List stated_goal.Subgoal) (i : ℕ)
    (g : stated_goal.Subgoal) → i < length gs → g ≡ get_or gs i g
    → found ≡ first ++ flat_map (λ (h : stated_goal.Subgoal). h.constants) (take i gs) → more ≡ found ++ g.constants
    → more ≡ first ++ flat_map (λ (h : stated_goal.Subgoal). h.constants) (take (i + 1) gs)
constants_added first found more gs i g lt is so far =
    let before = flat_map (λ (h : stated_goal.Subgoal). h.constants) (take i gs) in
    let longer : take (i + 1) gs ≡ take i gs ++ g ∷ [] =
    take_more gs i g lt ∙ ap (λ h. take i gs ++ h ∷ []) (sym is) in
    far ∙ ap (λ fs. fs ++ g.constants) so
    ∙ append_assoc first before g.constants
    ∙ ap (λ fs. first ++ fs)
    (sym (ap (flat_map (λ (h : stated_goal.Subgoal). h.constants)) longer
    ∙ flat_map-append (λ (h : stated_goal.Subgoal). h.constants) (take i gs) (g ∷ [])
    ∙ ap (λ fs. before ++ fs) (append-nil g.constants)))

pub constants_all : (first found : List PlainOperator) (gs : List stated_goal.Subgoal) (i : ℕ) → length gs ≤ i
    → found ≡ first ++ flat_map (λ (h : stated_goal.Subgoal). h.constants) (take i gs)
    → found ≡ first ++ flat_map (λ (h : stated_goal.Subgoal). h.constants) gs
constants_all first found gs i le so =
    so ∙ ap (λ hs. first ++ flat_map (λ (h : stated_goal.Subgoal). h.constants) hs) (take_all i gs le)

-- the subgoals of the code's plan, one by one
none_of : (gs : List defined.Subgoal) → map subgoal_of gs ≡ [] → gs ≡ []
none_of [] e = refl
none_of (g ∷ gs) e = absurd (cc)

pub none_planned : (x : stated.Plan) (made : Plan) → x ≡ plan_of made → x.subgoals ≡ [] → made.subgoals ≡ []
none_planned x made e h = none_of made.subgoals (sym (ap (λ (y : stated.Plan). y.subgoals) e) ∙ h)

pub record HasFirst (made : Plan) (first : stated_goal.Subgoal) : Type 0 where
  pub one : defined.Subgoal
  pub rest : List defined.Subgoal
  pub order : made.subgoals ≡ one ∷ rest
  pub same : first ≡ subgoal_of one

first_same : (g h : stated_goal.Subgoal) (gs hs : List stated_goal.Subgoal) → g ∷ gs ≡ h ∷ hs → h ≡ g
first_same g h gs hs e = cc

first_of : (made : Plan) (first : stated_goal.Subgoal) (others : List stated_goal.Subgoal)
    (gs : List defined.Subgoal) → made.subgoals ≡ gs → map subgoal_of gs ≡ first ∷ others → HasFirst made first
first_of made first others [] d e = absurd (cc)
first_of made first others (g ∷ gs) d e =
    record { one = g; rest = gs; order = d; same = first_same (subgoal_of g) first (map subgoal_of gs) others e }

pub first_planned : (x : stated.Plan) (made : Plan) (first : stated_goal.Subgoal)
    (others : List stated_goal.Subgoal) → x ≡ plan_of made → x.subgoals ≡ first ∷ others → HasFirst made first
first_planned x made first others e h =
    first_of made first others made.subgoals refl (sym (ap (λ (y : stated.Plan). y.subgoals) e) ∙ h)

-- ---- the first of a list

pub none_first : {A : Type 0} (xs : List A) → slice_get xs 0 ≡ None → xs ≡ []
none_first [] e = refl
none_first (x ∷ xs) e = absurd (cc)

pub one_first : {A : Type 0} (xs : List A) (y : A) → slice_get xs 0 ≡ Some y → (rest : List A) × (xs ≡ y ∷ rest)
one_first [] y e = absurd (cc)
one_first (x ∷ xs) y e = (xs, ap (λ z. z ∷ xs) (some_inj e))
