-- Plans by cases, of an implication, by contradiction and of a conjunction keep sorts.
use Rattle.std.specs.Prelude.{◌≡◌, ℕ, Bool, true, false, cond, List, [], ◌∷◌, ◌++◌, map, Contains, Option, Some, None}
use Rattle.std.specs.Prelude.{option_map, Ok, refl}
use Rattle.std.proofs.Common.{inl, inr, ap, ap₂, sym, subst, ◌∙◌}
use Rattle.std.proofs.lemmas.List.Elements.{All-nil}
use Rattle.larch_base.specs.declared.code.Code.TheVariants as refusal
use Rattle.larch_base.proofs.Members.{contains_cases, contains_none, contains_either, contained_in_map}
use Rattle.larch_term.specs.Operator.{PlainOperator}
use Rattle.larch_term.specs.Tree.{Tree, Forest, var, app, none, more}
use Rattle.larch_term.specs.BuiltIn.{bool_sort, built_in}
use Rattle.larch_term.specs.Equality.{same_operator}
use Rattle.larch_term.specs.OperatorKey.{operator_Decides}
use Rattle.larch_term.specs.Sorts.{sort_of, sorts_of, AllWellSorted, AllOver, IsTermOver}
use Rattle.larch_term.specs.declared.built_in.BuiltIn.TheVariants.{And, Implies}
use Rattle.larch_rewrite_meaning.specs.CalculusFormula.{falsity, apply_two}
use Rattle.larch_rewrite_meaning.proofs.CalculusSorted.{term_over_more, knows_more, sides_over}
use Rattle.larch_rewrite_meaning.specs.Sides.{AreSidesOver}
use Rattle.larch_prove_meaning.specs.Plans.{Subgoal, Plan, holds, fails, shared_subgoal, taken_beside, constants_of}
use Rattle.larch_prove_meaning.specs.Plans.{closed_by, cases_plan, two_arguments, implication_of, conjuncts}
use Rattle.larch_prove_meaning.specs.Plans.{conjuncts_in, contradiction_plan, found_or, IsFormulaOver, IsSubgoalOver}
use Rattle.larch_prove_meaning.specs.Plans.{IsPlanOver}
use Rattle.larch_prove_meaning.proofs.AddingSorts.{falsity_over}
use Rattle.larch_prove_meaning.proofs.PlanParts.{among_first, closed_formula, fails_over, holds_over, knows_front}
use Rattle.larch_prove_meaning.proofs.PlanParts.{ok_same, one_hypothesis, one_subgoal, two_subgoals}

pub cases_over : (fs : List PlainOperator) (taken : List (List ℕ)) (goal f : Tree) → IsFormulaOver fs goal
    → IsFormulaOver fs f → IsPlanOver fs (cases_plan taken goal f)
cases_over fs taken goal f w v =
    let names = taken_beside taken goal in
    let cs = constants_of taken goal f in
    let k = knows_front fs cs [] in
    let m = among_first fs cs [] in
    let g = closed_formula fs (fs ++ (cs ++ [])) f goal names k m w in
    let h = closed_formula fs (fs ++ (cs ++ [])) f f names k m v in
    two_subgoals fs cs (holds (closed_by f cs f) ∷ []) (fails (closed_by f cs f) ∷ []) (closed_by f cs goal)
    (closed_by f cs goal) (one_hypothesis _ (holds (closed_by f cs f)) (holds_over _ (closed_by f cs f) h)) g
    (one_hypothesis _ (fails (closed_by f cs f)) (fails_over _ (closed_by f cs f) h)) g

pub contradiction_over : (fs : List PlainOperator) (taken : List (List ℕ)) (goal : Tree) → IsFormulaOver fs goal
    → IsPlanOver fs (contradiction_plan taken goal)
contradiction_over fs taken goal w =
    let cs = constants_of taken goal goal in
    let g = closed_formula fs (fs ++ (cs ++ [])) goal goal (taken_beside taken goal) (knows_front fs cs [])
    (among_first fs cs []) w in
    one_subgoal fs cs (fails (closed_by goal cs goal) ∷ []) falsity
    (one_hypothesis _ (fails (closed_by goal cs goal)) (fails_over _ (closed_by goal cs goal) g))
    (falsity_over (fs ++ (cs ++ [])), refl)

implication_over : (fs : List PlainOperator) (taken : List (List ℕ)) (goal : Tree) (p : Tree × Tree)
    → IsFormulaOver fs p.0 → IsFormulaOver fs p.1 → IsPlanOver fs (implication_of taken goal p)
implication_over fs taken goal p w v =
    let cs = constants_of taken goal p.0 in
    let names = taken_beside taken goal in
    let k = knows_front fs cs [] in
    let m = among_first fs cs [] in
    let h = closed_formula fs (fs ++ (cs ++ [])) p.0 p.0 names k m w in
    one_subgoal fs cs (holds (closed_by p.0 cs p.0) ∷ []) (closed_by p.0 cs p.1)
    (one_hypothesis _ (holds (closed_by p.0 cs p.0)) (holds_over _ (closed_by p.0 cs p.0) h))
    (closed_formula fs (fs ++ (cs ++ [])) p.0 p.1 names k m v)

-- a term is an application of an operator that passes a test, to these two
abbrev pub HasArguments : (PlainOperator → Bool) → Tree → Tree × Tree → Type 0
HasArguments test t p = (f : PlainOperator) × ((test f ≡ true) × (t ≡ apply_two f p.0 p.1))

pair_by : (test : PlainOperator → Bool) (f : PlainOperator) (t u : Tree) (b : Bool) (p : Tree × Tree) → test f ≡ b
    → cond b (Some (t, u)) None ≡ Some p → HasArguments test (apply_two f t u) p
pair_by test f t u true p e h = (f, (e, ap₂ (apply_two f) (first h) (second h)))
  where
    first : {a b : Tree × Tree} → Some a ≡ Some b → a.0 ≡ b.0
    first q = cc

    second : {a b : Tree × Tree} → Some a ≡ Some b → a.1 ≡ b.1
    second q = cc
pair_by test f t u false p e h = cc

pub arguments_found : (test : PlainOperator → Bool) (t : Tree) (p : Tree × Tree) → two_arguments test t ≡ Some p
    → HasArguments test t p
arguments_found test (var n s) p h = cc
arguments_found test (app f none) p h = cc
arguments_found test (app f (more t none)) p h = cc
arguments_found test (app f (more t (more u none))) p h = pair_by test f t u (test f) p refl h
arguments_found test (app f (more t (more u (more v vs)))) p h = cc

-- both sides of an implication are formulas
implied_formulas : (fs : List PlainOperator) (goal : Tree) (p : Tree × Tree) → IsTermOver fs goal
    → HasArguments (same_operator (built_in Implies bool_sort)) goal p → IsFormulaOver fs p.0 × IsFormulaOver fs p.1
implied_formulas fs goal p w a =
    let e = (operator_Decides (built_in Implies bool_sort) a.0).0 a.1.0 in
    sides_over fs a.0 bool_sort bool_sort p.0 p.1 (sym (ap (λ f. f.domain) e)) (subst (IsTermOver fs) a.1.1 w)

pub implication_plan_over : (fs : List PlainOperator) (taken : List (List ℕ)) (goal : Tree) (o : Option (Tree × Tree))
    (made : Plan) → IsTermOver fs goal → two_arguments (same_operator (built_in Implies bool_sort)) goal ≡ o
    → found_or refusal.Shape (option_map (implication_of taken goal) o) ≡ Ok made → IsPlanOver fs made
implication_plan_over fs taken goal None made w e h = cc
implication_plan_over fs taken goal (Some p) made w e h =
    let g = implied_formulas fs goal p w (arguments_found (same_operator (built_in Implies bool_sort)) goal p e) in
    subst (IsPlanOver fs) (ok_same h) (implication_over fs taken goal p g.0 g.1)

-- each argument is of sort Bool
abbrev AllBoolean : Forest → Type 0
AllBoolean none = Unit {0}
AllBoolean (more t ts) = (sort_of t ≡ bool_sort) × AllBoolean ts

two_boolean : (ts : Forest) → sorts_of ts ≡ bool_sort ∷ bool_sort ∷ [] → AllBoolean ts
two_boolean none h = cc
two_boolean (more t none) h = cc
two_boolean (more t (more u none)) h = (first h, (second h, tt))
  where
    first : {a b c d : List ℕ} → a ∷ b ∷ [] ≡ c ∷ d ∷ [] → a ≡ c
    first q = cc

    second : {a b c d : List ℕ} → a ∷ b ∷ [] ≡ c ∷ d ∷ [] → b ≡ d
    second q = cc
two_boolean (more t (more u (more v vs))) h = cc

-- terms of a list are formulas over operators
abbrev AreFormulas : List PlainOperator → List Tree → Type 0
AreFormulas fs us = (u : Tree) → Contains us u → IsFormulaOver fs u

one_formula : (fs : List PlainOperator) (t : Tree) → IsFormulaOver fs t → AreFormulas fs (t ∷ [])
one_formula fs t w u c = elim (contains_cases t u [] c) [
  | inl e ↦ subst (IsFormulaOver fs) e w
  | inr n ↦ absurd (contains_none u n)
]

conjuncts_by : (fs : List PlainOperator) (f : PlainOperator) (ts : Forest) (b : Bool)
    → (b ≡ true → built_in And bool_sort ≡ f) → IsFormulaOver fs (app f ts)
    → (AllBoolean ts → AreFormulas fs (conjuncts_in ts))
    → AreFormulas fs (elim b [ true ↦ conjuncts_in ts | false ↦ app f ts ∷ [] ])
conjuncts_by fs f ts true e w go = go (two_boolean ts (w.0.0.0 ∙ sym (ap (λ g. g.domain) (e refl))))
conjuncts_by fs f ts false e w go = one_formula fs (app f ts) w

mutual
  conjuncts_over : (fs : List PlainOperator) (t : Tree) → IsFormulaOver fs t → AreFormulas fs (conjuncts t)
  conjuncts_over fs (var n s) w = one_formula fs (var n s) w
  conjuncts_over fs (app f ts) w =
      conjuncts_by fs f ts (same_operator (built_in And bool_sort) f) (operator_Decides (built_in And bool_sort) f).0 w
      (conjuncts_in_over fs ts w.0.0.1 w.0.1.1)

  conjuncts_in_over : (fs : List PlainOperator) (ts : Forest) → AllWellSorted ts → AllOver fs ts → AllBoolean ts
      → AreFormulas fs (conjuncts_in ts)
  conjuncts_in_over fs none w o b u c = absurd (contains_none u c)
  conjuncts_in_over fs (more t ts) w o b u c =
      elim (contains_either (conjuncts t) (conjuncts_in ts) u c) [
        | inl d ↦ conjuncts_over fs t ((w.0, o.0), b.0) u d
        | inr d ↦ conjuncts_in_over fs ts w.1 o.1 b.1 u d
      ]

conjunction_over : (fs : List PlainOperator) (goal : Tree) → IsFormulaOver fs goal
    → IsPlanOver fs (record { constants = []; subgoals = map (shared_subgoal []) (conjuncts goal) })
conjunction_over fs goal w s c =
    let found = contained_in_map (shared_subgoal []) (conjuncts goal) s c in
    let g = conjuncts_over fs goal w found.0 found.1 in
    subst (λ (x : Subgoal). IsSubgoalOver (fs ++ ([] ++ x.constants)) x) found.2
    (All-nil (AreSidesOver (fs ++ [])), (term_over_more fs (fs ++ []) (knows_more fs []) found.0 g.0, g.1))

pub conjunction_plan_over : (fs : List PlainOperator) (goal : Tree) (o : Option (Tree × Tree)) (made : Plan)
    → IsFormulaOver fs goal
    → found_or refusal.Shape (option_map
    (λ p. record { constants = []; subgoals = map (shared_subgoal []) (conjuncts goal) }) o)
    ≡ Ok made → IsPlanOver fs made
conjunction_plan_over fs goal None made w h = cc
conjunction_plan_over fs goal (Some p) made w h = subst (IsPlanOver fs) (ok_same h) (conjunction_over fs goal w)
