-- Plans by induction keep sorts.
use Rattle.std.specs.Prelude.{◌≡◌, ℕ, Bool, true, false, cond, List, [], ◌∷◌, ◌++◌, map, All, Contains, bytes_eq, Some}
use Rattle.std.specs.Prelude.{refl}
use Rattle.std.proofs.Common.{inl, inr, ap, ap₂, sym, subst, ◌∙◌}
use Rattle.std.proofs.lemmas.List.Elements.{All-cons, All-nil, All-head, All-tail}
use Rattle.std.proofs.lemmas.Slice.Eq.{bytes_eq-Decides}
use Rattle.larch_base.proofs.Members.{contains_here, contains_later, contains_cases, contains_none}
use Rattle.larch_term.specs.Operator.{PlainOperator}
use Rattle.larch_term.specs.Tree.{Tree, app}
use Rattle.larch_term.specs.Sorts.{sort_of, sorts_of, AllWellSorted, IsOver, AllOver, IsKnown, IsTermOver}
use Rattle.larch_term.specs.Statement.{IsStatementOver}
use Rattle.larch_term.specs.declared.statement.Statement.{Statement}
use Rattle.larch_term.specs.declared.statement.Statement.TheVariants.{Equation, Generated, Partitioned}
use Rattle.larch_term.specs.declared.variable.Variable.{Variable}
use Rattle.larch_pairs_critical.proofs.TermLawSubstitutions.{substituted_sort, substituted_well_sorted}
use Rattle.larch_pairs_critical.proofs.TermLawSubstitutions.{substituted_over}
use Rattle.larch_rewrite_meaning.specs.CalculusFormula.{constant}
use Rattle.larch_rewrite_meaning.specs.CalculusGeneration.{only, constant_terms}
use Rattle.larch_rewrite_meaning.specs.CalculusTheories.{AreConstants}
use Rattle.larch_rewrite_meaning.proofs.CalculusSorted.{Knows, over_more, only_fits}
use Rattle.larch_rewrite_meaning.specs.Sides.{AreSidesOver}
use Rattle.larch_prove_meaning.specs.NewNames.{new_constants}
use Rattle.larch_prove_meaning.specs.Plans.{Subgoal, holds, generators, observers, a_variable, argument_variables}
use Rattle.larch_prove_meaning.specs.Plans.{goal_at, supposed_of, names_of, induction_subgoals, IsFormulaOver}
use Rattle.larch_prove_meaning.specs.Plans.{IsSubgoalOver}
use Rattle.larch_prove_meaning.proofs.PlanParts.{AreAmong, among_last, holds_over, knows_front, new_are_constants}
use Rattle.larch_prove_meaning.proofs.PlanParts.{new_have_sorts, some_same}

argument_sorts : (x : Variable) (ss : List (List ℕ)) → map (λ v. v.sort) (argument_variables x ss) ≡ ss
argument_sorts x [] = refl
argument_sorts x (s ∷ ss) =
    ap₂ (λ r rs. r ∷ rs) (chosen (bytes_eq s x.sort) (bytes_eq-Decides s x.sort).0) (argument_sorts x ss)
  where
    chosen : (b : Bool) → (b ≡ true → s ≡ x.sort)
        → (let v : Variable = cond b x (a_variable s) in v.sort) ≡ s
    chosen true e = sym (e refl)
    chosen false e = refl

constants_have_sorts : (cs : List PlainOperator) → sorts_of (constant_terms cs) ≡ map (λ c. c.range) cs
constants_have_sorts [] = refl
constants_have_sorts (c ∷ cs) = ap (λ ss. c.range ∷ ss) (constants_have_sorts cs)

constants_well_sorted : (cs : List PlainOperator) → AreConstants cs → AllWellSorted (constant_terms cs)
constants_well_sorted [] k = tt
constants_well_sorted (c ∷ cs) k = (
  (sym (All-head (λ f. f.domain ≡ []) c cs k), tt),
  constants_well_sorted cs (All-tail (λ f. f.domain ≡ []) c cs k),
)

constants_all_over : (gs cs : List PlainOperator) → AreAmong gs cs → AllOver gs (constant_terms cs)
constants_all_over gs [] h = tt
constants_all_over gs (c ∷ cs) h =
    ((inl (h c (contains_here c cs)), tt), constants_all_over gs cs (λ d i. h d (contains_later c d cs i)))

-- the goal with a term of the variable's sort
goal_at_over : (fs gs : List PlainOperator) (x : Variable) (goal t : Tree) → Knows fs gs → IsFormulaOver fs goal
    → IsTermOver gs t → sort_of t ≡ x.sort → IsFormulaOver gs (goal_at x goal t)
goal_at_over fs gs x goal t k w v e =
    let es = only x.name x.sort t in
    let fit = only_fits x.name x.sort t v.0 e in (
      (
        substituted_well_sorted es goal fit w.0.0,
        substituted_over gs es goal
            (All-cons (λ d. IsOver gs d.term) (record { name = x.name; sort = x.sort; term = t }) [] v.1
            (All-nil (λ d. IsOver gs d.term))) (over_more fs gs k goal w.0.1),
      ),
      substituted_sort es goal fit ∙ w.1,
    )

pub constant_over : (gs : List PlainOperator) (c : PlainOperator) → Contains gs c → c.domain ≡ []
    → IsTermOver gs (constant c)
constant_over gs c h e = ((sym e, tt), (inl h, tt))

supposed_over : (fs gs : List PlainOperator) (x : Variable) (goal : Tree) (cs : List PlainOperator) → Knows fs gs
    → IsFormulaOver fs goal → AreAmong gs cs → AreConstants cs → All (AreSidesOver gs) (supposed_of x goal cs)
supposed_over fs gs x goal [] k w h a = All-nil (AreSidesOver gs)
supposed_over fs gs x goal (c ∷ cs) k w h a =
    let rest = supposed_over fs gs x goal cs k w (λ d i. h d (contains_later c d cs i))
    (All-tail (λ f. f.domain ≡ []) c cs a) in
    by_sort (bytes_eq c.range x.sort) (bytes_eq-Decides c.range x.sort).0 rest
  where
    by_sort : (b : Bool) → (b ≡ true → c.range ≡ x.sort) → All (AreSidesOver gs) (supposed_of x goal cs)
        → All (AreSidesOver gs) (cond b (holds (goal_at x goal (constant c)) ∷ supposed_of x goal cs)
        (supposed_of x goal cs))
    by_sort true e r =
        All-cons (AreSidesOver gs) (holds (goal_at x goal (constant c))) (supposed_of x goal cs)
        (holds_over gs (goal_at x goal (constant c)) (goal_at_over fs gs x goal (constant c) k w
        (constant_over gs c (h c (contains_here c cs)) (All-head (λ f. f.domain ≡ []) c cs a)) (e refl))) r
    by_sort false e r = r

induction_case : (fs : List PlainOperator) (x : Variable) (goal : Tree) (f : PlainOperator) (taken : List (List ℕ))
    → IsFormulaOver fs goal → IsKnown fs f → f.range ≡ x.sort
    → (let cs = new_constants taken (argument_variables x f.domain) in
    IsSubgoalOver (fs ++ ([] ++ cs)) (record {
      constants = cs;
      hypotheses = supposed_of x goal cs;
      goal = goal_at x goal (app f (constant_terms cs));
    }))
induction_case fs x goal f taken w kf r =
    let vs = argument_variables x f.domain in
    let cs = new_constants taken vs in
    let gs = fs ++ ([] ++ cs) in
    let k = knows_front fs [] cs in
    let m = among_last fs [] cs in
    let a = new_are_constants taken vs in (
      supposed_over fs gs x goal cs k w m a,
      goal_at_over fs gs x goal (app f (constant_terms cs)) k w (
        (constants_have_sorts cs ∙ (new_have_sorts taken vs ∙ argument_sorts x f.domain), constants_well_sorted cs a),
        (k f kf, constants_all_over gs cs m),
      ) r,
    )

pub subgoal_moved : (fs : List PlainOperator) (r s : Subgoal) → r ≡ s → IsSubgoalOver (fs ++ ([] ++ r.constants)) r
    → IsSubgoalOver (fs ++ ([] ++ s.constants)) s
subgoal_moved fs r s e h = subst (λ (x : Subgoal). IsSubgoalOver (fs ++ ([] ++ x.constants)) x) e h

pub induction_over : (fs : List PlainOperator) (x : Variable) (goal : Tree) (gens : List PlainOperator)
    (taken : List (List ℕ)) → IsFormulaOver fs goal → All (λ g. IsKnown fs g × (g.range ≡ x.sort)) gens → (s : Subgoal)
    → Contains (induction_subgoals taken x goal gens) s → IsSubgoalOver (fs ++ ([] ++ s.constants)) s
induction_over fs x goal [] taken w g s c = absurd (contains_none s c)
induction_over fs x goal (f ∷ gens) taken w g s c =
    let cs = new_constants taken (argument_variables x f.domain) in
    let own = All-head (λ h. IsKnown fs h × (h.range ≡ x.sort)) f gens g in
    let first : Subgoal = record {
      constants = cs;
      hypotheses = supposed_of x goal cs;
      goal = goal_at x goal (app f (constant_terms cs));
    } in
    elim (contains_cases first s (induction_subgoals (names_of cs ++ taken) x goal gens) c) [
      | inl e ↦ subgoal_moved fs first s e (induction_case fs x goal f taken w own.0 own.1)
      | inr d ↦ induction_over fs x goal gens (names_of cs ++ taken) w
          (All-tail (λ h. IsKnown fs h × (h.range ≡ x.sort)) f gens g) s d
    ]

pub generators_over : (fs : List PlainOperator) (s : List ℕ) (ss : List Statement) (gens : List PlainOperator)
    → All (IsStatementOver fs) ss → generators s ss ≡ Some gens → All (λ g. IsKnown fs g × (g.range ≡ s)) gens
generators_over fs s [] gens h e = cc
generators_over fs s (Equation l r ∷ ss) gens h e =
    generators_over fs s ss gens (All-tail (IsStatementOver fs) (Equation l r) ss h) e
generators_over fs s (Partitioned z fs2 ∷ ss) gens h e =
    generators_over fs s ss gens (All-tail (IsStatementOver fs) (Partitioned z fs2) ss h) e
generators_over fs s (Generated z hs ∷ ss) gens h e =
    by_sort (bytes_eq z s) (bytes_eq-Decides z s).0
    (generators_over fs s ss gens (All-tail (IsStatementOver fs) (Generated z hs) ss h)) e
  where
    by_sort : (b : Bool) → (b ≡ true → z ≡ s)
        → (generators s ss ≡ Some gens → All (λ g. IsKnown fs g × (g.range ≡ s)) gens)
        → cond b (Some hs) (generators s ss) ≡ Some gens → All (λ g. IsKnown fs g × (g.range ≡ s)) gens
    by_sort true q go i =
        subst (λ r. All (λ g. IsKnown fs g × (g.range ≡ r)) gens) (q refl)
        (subst (All (λ g. IsKnown fs g × (g.range ≡ z))) (some_same i)
        (All-head (IsStatementOver fs) (Generated z hs) ss h))
    by_sort false q go i = go i

pub observers_over : (fs : List PlainOperator) (s : List ℕ) (ss : List Statement) (os : List PlainOperator)
    → All (IsStatementOver fs) ss → observers s ss ≡ Some os → All (λ g. IsKnown fs g × Contains g.domain s) os
observers_over fs s [] os h e = cc
observers_over fs s (Equation l r ∷ ss) os h e =
    observers_over fs s ss os (All-tail (IsStatementOver fs) (Equation l r) ss h) e
observers_over fs s (Generated z hs ∷ ss) os h e =
    observers_over fs s ss os (All-tail (IsStatementOver fs) (Generated z hs) ss h) e
observers_over fs s (Partitioned z hs ∷ ss) os h e =
    by_sort (bytes_eq z s) (bytes_eq-Decides z s).0
    (observers_over fs s ss os (All-tail (IsStatementOver fs) (Partitioned z hs) ss h)) e
  where
    by_sort : (b : Bool) → (b ≡ true → z ≡ s)
        → (observers s ss ≡ Some os → All (λ g. IsKnown fs g × Contains g.domain s) os)
        → cond b (Some hs) (observers s ss) ≡ Some os → All (λ g. IsKnown fs g × Contains g.domain s) os
    by_sort true q go i =
        subst (λ r. All (λ g. IsKnown fs g × Contains g.domain r) os) (q refl)
        (subst (All (λ g. IsKnown fs g × Contains g.domain z)) (some_same i)
        (All-head (IsStatementOver fs) (Partitioned z hs) ss h))
    by_sort false q go i = go i
