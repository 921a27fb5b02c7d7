-- A method that may begin has its plan, and each subgoal's goal can be written in its box.
use Rattle.std.specs.Prelude.{◌≡◌, List, [], ◌∷◌, ◌++◌, map, All, Contains, Ok, Option, None, Some, Result, bytes_eq}
use Rattle.std.specs.Prelude.{find, option_map, refl}
use Rattle.std.specs.List.{flat_map}
use Rattle.std.proofs.Common.{ap, inl, inr, subst, sym, ◌∙◌}
use Rattle.std.proofs.lemmas.List.{append-nil}
use Rattle.std.proofs.lemmas.List.Elements.{All-append, All-cons, All-contains, All-head, All-nil, All-weaker}
use Rattle.larch_base.specs.declared.code.Code.{Code}
use Rattle.larch_base.specs.declared.code.Code.TheVariants as refusal
use Rattle.larch_base.proofs.Lists.{all_from}
use Rattle.larch_base.proofs.Members.{contained_in_map, contains_either, contains_left, contains_none, contains_right}
use Rattle.larch_term.specs.BuiltIn.{bool_sort, built_in, is_built_in_as}
use Rattle.larch_term.specs.Equality.{same_operator}
use Rattle.larch_term.specs.Operator.{PlainOperator}
use Rattle.larch_term.specs.Sorts.{IsKnown, IsTermOver, sort_of}
use Rattle.larch_term.specs.Statement.{IsStatementOver, statement_zero}
use Rattle.larch_term.specs.Tree.{Tree}
use Rattle.larch_term.specs.Variable.{variables_of}
use Rattle.larch_term.specs.declared.built_in.BuiltIn.TheVariants.{And, Equal, False, True}
use Rattle.larch_term.specs.declared.statement.Statement.{Statement}
use Rattle.larch_term.specs.declared.statement.Theory.{Theory}
use Rattle.larch_calculus.specs.Observation.{observations_of}
use Rattle.larch_calculus.proofs.Sorted.{Knows, knows_more, statement_over_more, term_over_more}
use Rattle.larch_derive.specs.Builder.{theory_in}
use Rattle.larch_derive.specs.Predicates.{AreOthers, Known}
use Rattle.larch_derive.specs.Words.{AreWordedOperators, AreWordedStatements, IsWordedOperator, IsWordedTerm}
use Rattle.larch_derive.specs.declared.builder.Builder.{Builder}
use Rattle.larch_derive.proofs.Growth.{known_right}
use Rattle.larch_derive.proofs.Words.{known_worded}
use Rattle.larch_methods.specs.DeriveBoxesBoxes.{IsPart}
use Rattle.larch_methods.specs.ProveMeaningLevels.{EarlierDuty, Level, Proof, all_constants}
use Rattle.larch_methods.specs.ProveMeaningPlans.{Cases, Conjunction, Contradiction}
use Rattle.larch_methods.specs.ProveMeaningPlans.{Implication, Induction, IsFormulaOver}
use Rattle.larch_methods.specs.ProveMeaningPlans.{IsMethodOver, IsPlanOver, Method, Partition, Plan, Setting, Subgoal}
use Rattle.larch_methods.specs.ProveMeaningPlans.{conjuncts, found_or, generators, induction_subgoals, observers}
use Rattle.larch_methods.specs.ProveMeaningPlans.{partition_subgoals, plan, shared_subgoal, taken_beside, two_arguments}
use Rattle.larch_methods.specs.ProveMeaningPlans.{with_found}
use Rattle.larch_methods.specs.ProveMeaningSteps.{own_operators, setting_of}
use Rattle.larch_methods.specs.ProveMeaningWellSorted.{IsLevelOver, IsWellSortedProof}
use Rattle.larch_methods.proofs.ProveMeaningPlanParts.{ok_same}
use Rattle.larch_methods.proofs.ProveMeaningPlanSorts.{plan_over}
use Rattle.larch_methods.specs.Methods.{IsKnownFormula}
use Rattle.larch_methods.proofs.Planned.{cases_planned, conjunction_planned, contradiction_planned}
use Rattle.larch_methods.proofs.Planned.{implication_planned}
use Rattle.larch_prove_invariant.specs.Book.{Kept, Running, SupposingBox, made_in}
use Rattle.larch_prove_invariant.specs.Holding.{AreOwn, HoldsLevels, HoldsProof, IsKnownFor, IsPlanned, Shape, Through}
use Rattle.larch_prove_invariant.specs.Holding.{entrances, open_constants, shape_of, shared_shapes, theory_for}
use Rattle.larch_prove_invariant.proofs.Boxes.{through_boxes, through_stands}
use Rattle.larch_prove_invariant.proofs.BlockConstants.{open_parts, shapes_made}
use Rattle.larch_prove_invariant.proofs.Held.{boxes_held, current_said, holding_stands, running_is, shared_is}
use Rattle.larch_prove_invariant.proofs.Knowing.{known_over, open_known}
use Rattle.larch_prove_invariant.proofs.Making.{open_inside}
use Rattle.larch_prove_invariant.proofs.Own.{plan_others, shared_own, subgoal_constant, subgoals_own}
use Rattle.larch_prove_invariant.proofs.PlanWords.{IsWordedFor, IsWordedSubgoal, cases_worded, contradiction_worded}
use Rattle.larch_prove_invariant.proofs.PlanWords.{implication_worded, method_worded, own_worded, plan_worded}
use Rattle.larch_prove_invariant.proofs.PlanWords.{planned_worded, stated_worded}
use Rattle.larch_prove_invariant.proofs.Shared.{is_implication}

-- ---- plans

head_same : (k l : Level) (ks ls : List Level) → k ∷ ks ≡ l ∷ ls → k ≡ l
head_same k l ks ls e = cc

pub current_level : (s : Statement) (b : Builder) (p : Proof) (k : Kept) (ks : List Kept) → HoldsProof s b p (k ∷ ks)
    → k.level ≡ p.current
current_level s b p k ks h =
    head_same k.level p.current (map (λ (j : Kept). j.level) ks) p.below h.levels.levels_are

pub goal_known : (s : Statement) (b : Builder) (p : Proof) (k : Kept) (ks : List Kept) → HoldsProof s b p (k ∷ ks)
    → IsWellSortedProof p → IsKnownFormula b k.level.goal
goal_known s b p k ks h w =
    let level = All-head (IsLevelOver (own_operators p)) p.current p.below w.levels in
    record {
      known = known_right b k.book.way k.book.first k.level.goal
          (current_said (theory_for p) s b k ks h.levels.held).way;
      sort = ap (λ (l : Level). sort_of l.goal) (current_level s b p k ks h) ∙ level.goal.1;
    }

-- what all methods look at is well sorted over the theory's operators and others
zero_over : (fs : List PlainOperator) → IsStatementOver fs statement_zero
zero_over fs =
    let P : PlainOperator → Type 0 = λ g. IsKnown fs g × (g.range ≡ bool_sort) in
    All-cons P (built_in True bool_sort) (built_in False bool_sort ∷ []) (inr (True, (bool_sort, refl)), refl)
    (All-cons P (built_in False bool_sort) [] (inr (False, (bool_sort, refl)), refl) (All-nil P))

pub clauses_over : (p : Proof) (cs : List PlainOperator) → IsWellSortedProof p
    → All (IsStatementOver (p.theory.operators ++ cs)) (setting_of p).clauses
clauses_over p cs w =
    let own = p.theory.operators in
    let fs = own ++ cs in
    let more = statement_over_more own fs (knows_more own cs) in
    let lemmas = map (λ (l : EarlierDuty). l.statement) p.lemmas in
    All-cons (IsStatementOver fs) statement_zero (p.theory.statements ++ lemmas) (zero_over fs)
    (All-append (IsStatementOver fs) p.theory.statements lemmas
    (All-weaker (IsStatementOver own) (IsStatementOver fs) more p.theory.statements w.theory)
    (all_from (IsStatementOver fs) lemmas (λ s c.
    let found = contained_in_map (λ (l : EarlierDuty). l.statement) p.lemmas s c in
    subst (IsStatementOver fs) found.2 (more found.0.statement
    (All-contains (λ (l : EarlierDuty). IsStatementOver own l.statement) p.lemmas found.0 w.lemmas found.1)))))

formula_open : (b : Builder) (g : Tree) → IsKnownFormula b g
    → IsFormulaOver ((theory_in b).operators ++ open_constants b) g
formula_open b g k = (known_over b g k.known, k.sort)

method_open : (b : Builder) (method : Method) → IsKnownFor b method
    → IsMethodOver ((theory_in b).operators ++ open_constants b) method
method_open b (Cases f) k = formula_open b f k
method_open b Implication k = tt
method_open b Conjunction k = tt
method_open b Contradiction k = tt
method_open b (Induction n) k = tt
method_open b Partition k = tt

plan_is_over : (s : Statement) (b : Builder) (p : Proof) (k : Kept) (ks : List Kept) (method : Method) (made : Plan)
    → HoldsProof s b p (k ∷ ks) → IsWellSortedProof p → IsKnownFor b method
    → plan (setting_of p) p.current.goal method ≡ Ok made
    → IsPlanOver ((theory_in b).operators ++ open_constants b) made
plan_is_over s b p k ks method made h w m e =
    let fs = (theory_in b).operators ++ open_constants b in
    let theory = (boxes_held (theory_for p) s b (k ∷ ks) h.levels.held).0 in
    let clauses = subst (λ (t : Theory). All (IsStatementOver (t.operators ++ open_constants b)) (setting_of p).clauses)
    (sym theory) (clauses_over p (open_constants b) w) in
    let goal = subst (λ (l : Level). IsFormulaOver fs l.goal) (current_level s b p k ks h)
    (formula_open b k.level.goal (goal_known s b p k ks h w)) in
    plan_over fs (setting_of p) p.current.goal method made clauses goal (method_open b method m) e

-- a method whose shared box is opened on the current level has its plan
pub planned_for : (s : Statement) (b c : Builder) (p : Proof) (k : Kept) (ks : List Kept) (r : Running)
    → HoldsProof s b p (k ∷ ks) → IsWellSortedProof p → r.setting ≡ setting_of p
    → plan (setting_of p) p.current.goal r.method ≡ Ok r.plan → IsKnownFor b r.method
    → map shape_of r.shared ≡ shared_shapes r.method r.plan → Through b r.shared c → IsPlanned b c k.level.goal r
planned_for s b c p k ks r h w e q m y t =
    let level = current_level s b p k ks h in
    let alike = through_boxes b c r.shared t in
    let theory = (boxes_held (theory_for p) s b (k ∷ ks) h.levels.held).0 in
    let others = plan_others s b p (k ∷ ks) r.method r.plan h q in
    record {
      planned = subst (λ (z : Setting). plan z k.level.goal r.method ≡ Ok r.plan) (sym e)
          (subst (λ (l : Level). plan (setting_of p) l.goal r.method ≡ Ok r.plan) (sym level) q);
      clauses = ap (λ (z : Setting). z.clauses) e
          ∙ ap (λ (u : Theory). statement_zero ∷ u.statements) (sym theory);
      goal_known = goal_known s b p k ks h w;
      method_known = m;
      shared = y;
      apart = shared_own s b p (k ∷ ks) r.method r.plan h q;
      over = plan_is_over s b p k ks r.method r.plan h w m q;
      own = subgoals_own s b c p (k ∷ ks) r.method r.plan r.shared h q alike.1 y;
      others = all_from (λ (g : Subgoal). AreOthers (theory_in c) g.constants) r.plan.subgoals (λ g i.
          subst (λ u. AreOthers u g.constants) (sym alike.0)
          (all_from (λ f. IsKnown (theory_in b).operators f → ⊥) g.constants (λ f d.
          All-contains (λ f. IsKnown (theory_in b).operators f → ⊥) (all_constants r.plan) f others
          (subgoal_constant r.plan g f i d))));
    }

-- ---- goals of subgoals

abbrev Bare : Plan → Type 0
Bare made = made.constants ≡ []

mapped_bare : {A : Type 0} (f : A → Plan) (o : Option A) (made : Plan) → ((x : A) → Bare (f x))
    → found_or refusal.Shape (option_map f o) ≡ Ok made → Bare made
mapped_bare f None made h e = cc
mapped_bare f (Some x) made h e = subst Bare (ok_same e) (h x)

found_bare : {A : Type 0} (code : Code) (o : Option A) (next : A → Result Plan Code) (made : Plan)
    → ((x : A) → next x ≡ Ok made → Bare made) → with_found code o next ≡ Ok made → Bare made
found_bare code None next made h e = cc
found_bare code (Some x) next made h e = h x e

-- a plan as an answer
abbrev answered : Plan → Result Plan Code
answered made = Ok made

made_bare : (ss : List Subgoal) (made : Plan) → answered (record { constants = []; subgoals = ss }) ≡ answered made
    → Bare made
made_bare ss made e = subst Bare (ok_same e) refl

-- three methods have shared constants, each in the shared box; the others have none
shared_hold : (setting : Setting) (goal : Tree) (method : Method) (made : Plan) (f : PlainOperator)
    → plan setting goal method ≡ Ok made → Contains made.constants f
    → Contains (flat_map (λ (h : Shape). h.constants) (shared_shapes method made)) f
unfolding plan
shared_hold setting goal (Cases t) made f e c = contains_left made.constants [] f c
shared_hold setting goal Implication made f e c = contains_left made.constants [] f c
shared_hold setting goal Conjunction made f e c =
    subst (λ fs. Contains fs f) (mapped_bare _ (two_arguments (same_operator (built_in And bool_sort)) goal) made
    (λ p. refl) e) c
shared_hold setting goal Contradiction made f e c = contains_left made.constants [] f c
shared_hold setting goal (Induction n) made f e c =
    subst (λ fs. Contains fs f) (found_bare refusal.Variable (find (λ v. bytes_eq v.name n) (variables_of goal)) _ made
    (λ x q. found_bare refusal.Generated (generators x.sort setting.clauses) _ made
    (λ fs w. made_bare (induction_subgoals (taken_beside setting.taken goal) x goal fs) made w) q) e) c
shared_hold setting goal Partition made f e c =
    subst (λ fs. Contains fs f) (found_bare refusal.Shape (two_arguments (λ f. is_built_in_as f Equal) goal) _ made
    (λ p q. found_bare refusal.Partitioned (observers (sort_of p.0) setting.clauses) _ made
    (λ os w. made_bare (partition_subgoals (taken_beside setting.taken goal) p.0 p.1
    (observations_of (sort_of p.0) os)) made w) q) e) c

-- the sorts of the shared constants are words
shared_worded : (setting : Setting) (goal : Tree) (method : Method) (made : Plan) → IsWordedTerm goal
    → IsWordedFor method → plan setting goal method ≡ Ok made → AreWordedOperators made.constants
shared_worded setting goal (Cases f) made w v e =
    subst (λ (m : Plan). AreWordedOperators m.constants) (sym (cases_planned setting goal f made e))
    (cases_worded setting.taken goal f w v).constants
shared_worded setting goal Implication made w v e =
    let i = is_implication setting goal made e in
    let words = subst IsWordedTerm i.1 w in
    subst (λ (m : Plan). AreWordedOperators m.constants)
    (sym (implication_planned setting goal i.0.0 i.0.1 made i.1 e))
    (implication_worded setting.taken goal i.0.0 i.0.1 words.1.0 words.1.1.0).constants
shared_worded setting goal Conjunction made w v e =
    all_from IsWordedOperator made.constants (λ f c.
    absurd (contains_none f (shared_hold setting goal Conjunction made f e c)))
shared_worded setting goal Contradiction made w v e =
    subst (λ (m : Plan). AreWordedOperators m.constants) (sym (contradiction_planned setting goal made e))
    (contradiction_worded setting.taken goal w).constants
shared_worded setting goal (Induction n) made w v e =
    all_from IsWordedOperator made.constants (λ f c.
    absurd (contains_none f (shared_hold setting goal (Induction n) made f e c)))
shared_worded setting goal Partition made w v e =
    all_from IsWordedOperator made.constants (λ f c.
    absurd (contains_none f (shared_hold setting goal Partition made f e c)))

-- and so are those of all constants of a plan
pub made_worded : (s : Statement) (b : Builder) (p : Proof) (k : Kept) (ks : List Kept) (method : Method)
    (made : Plan) → HoldsProof s b p (k ∷ ks) → IsWellSortedProof p → IsKnownFor b method
    → plan (setting_of p) p.current.goal method ≡ Ok made → AreWordedOperators (all_constants made)
made_worded s b p k ks method made h w m e =
    let t = theory_for p in
    let known = goal_known s b p k ks h w in
    let goal = subst (λ (l : Level). IsWordedTerm l.goal) (current_level s b p k ks h)
    (known_worded b k.level.goal known.known) in
    let clauses = subst (λ (u : Theory). AreWordedStatements (statement_zero ∷ u.statements))
    (boxes_held t s b (k ∷ ks) h.levels.held).0 (stated_worded b (holding_stands t s b (k ∷ ks) h.levels.held)) in
    let words = method_worded b method m in
    All-append IsWordedOperator made.constants (flat_map (λ (z : Subgoal). z.constants) made.subgoals)
    (shared_worded (setting_of p) p.current.goal method made goal words e)
    (own_worded made.subgoals (plan_worded (setting_of p) p.current.goal method made clauses goal words e))

-- a conjunct has no constants of its own, and other subgoals have theirs in their box
own_hold : (setting : Setting) (goal : Tree) (method : Method) (made : Plan) (g : Subgoal) (f : PlainOperator)
    → plan setting goal method ≡ Ok made → Contains made.subgoals g → Contains g.constants f
    → Contains (flat_map (λ (h : Shape). h.constants) (entrances method g)) f
own_hold setting goal (Cases t) made g f e i c = contains_left g.constants [] f c
own_hold setting goal Implication made g f e i c = contains_left g.constants [] f c
own_hold setting goal Conjunction made g f e i c =
    let found = contained_in_map (shared_subgoal []) (conjuncts goal) g
    (subst (λ ss. Contains ss g) (conjunction_planned setting goal made e) i) in
    subst (λ (s : Subgoal). Contains s.constants f) (sym found.2) c
own_hold setting goal Contradiction made g f e i c = contains_left g.constants [] f c
own_hold setting goal (Induction n) made g f e i c = contains_left g.constants [] f c
own_hold setting goal Partition made g f e i c = contains_left g.constants [] f c

only_one : (cs : List PlainOperator) (f : PlainOperator) → Contains (cs ++ []) f → Contains cs f
only_one cs f c = subst (λ fs. Contains fs f) (append-nil cs) c

-- the boxes of a subgoal make its own constants
entrances_make : (method : Method) (g : Subgoal) (f : PlainOperator)
    → Contains (flat_map (λ (h : Shape). h.constants) (entrances method g)) f → Contains g.constants f
entrances_make (Cases t) g f c = only_one g.constants f c
entrances_make Implication g f c = only_one g.constants f c
entrances_make Conjunction g f c = absurd (contains_none f c)
entrances_make Contradiction g f c = only_one g.constants f c
entrances_make (Induction n) g f c = only_one g.constants f c
entrances_make Partition g f c = only_one g.constants f c

-- inside of the shared box and of the subgoal's own all of its operators can be written
all_open : (a b d : Builder) (r : Running) (g : Subgoal) (xs : List SupposingBox) (goal : Tree) → Through a r.shared b
    → IsPlanned a b goal r → Contains r.plan.subgoals g → Through b xs d → map shape_of xs ≡ entrances r.method g
    → Knows (((theory_in a).operators ++ open_constants a) ++ (r.plan.constants ++ g.constants))
    ((theory_in d).operators ++ open_constants d)
all_open a b d r g xs goal m p c n e f (inr i) = inr i
all_open a b d r g xs goal m p c n e f (inl i) = inl (subst (λ t. Contains (t ++ open_constants d) f)
    (sym theory) found)
  where
    theory : (theory_in d).operators ≡ (theory_in a).operators
    theory = ap (λ (t : Theory). t.operators) ((through_boxes b d xs n).0 ∙ (through_boxes a b r.shared m).0)

    opened : open_constants d ≡ (open_constants a ++ made_in r.shared) ++ made_in xs
    opened = open_inside b d xs n ∙ ap (λ fs. fs ++ made_in xs) (open_inside a b r.shared m)

    own : List PlainOperator
    own = (theory_in a).operators

    outer : Contains (open_constants a ++ made_in r.shared) f → Contains (own ++ open_constants d) f
    outer j =
        contains_right own (open_constants d) f (subst (λ fs. Contains fs f) (sym opened)
        (contains_left (open_constants a ++ made_in r.shared) (made_in xs) f j))

    inner : Contains (r.plan.constants ++ g.constants) f → Contains (own ++ open_constants d) f
    inner j =
        elim (contains_either r.plan.constants g.constants f j) [
          | inl x ↦
              outer (contains_right (open_constants a) (made_in r.shared) f
              (subst (λ fs. Contains fs f) (sym (shapes_made r.shared))
              (subst (λ hs. Contains (flat_map (λ (h : Shape). h.constants) hs) f) (sym p.shared)
              (shared_hold r.setting goal r.method r.plan f p.planned x))))
          | inr y ↦
              contains_right own (open_constants d) f (subst (λ fs. Contains fs f) (sym opened)
              (contains_right (open_constants a ++ made_in r.shared) (made_in xs) f
              (subst (λ fs. Contains fs f) (sym (shapes_made xs))
              (subst (λ hs. Contains (flat_map (λ (h : Shape). h.constants) hs) f) (sym e)
              (own_hold r.setting goal r.method r.plan g f p.planned c y)))))
        ]

    found : Contains (own ++ open_constants d) f
    found =
        elim (contains_either (own ++ open_constants a) (r.plan.constants ++ g.constants) f i) [
          | inl x ↦ elim (contains_either own (open_constants a) f x) [
            | inl y ↦ contains_left own (open_constants d) f y
            | inr y ↦ outer (contains_left (open_constants a) (made_in r.shared) f y)
          ]
          | inr x ↦ inner x
        ]

-- terms in words over these operators can be written in a subgoal's box
pub inside_known : (t : Theory) (s : Statement) (b d : Builder) (cs : List PlainOperator) (levels : List Level)
    (k : Kept) (ks : List Kept) (r : Running) (g : Subgoal) (xs : List SupposingBox)
    → (h : HoldsLevels t s b cs levels (k ∷ ks)) → k.book.running ≡ Some r → Contains r.plan.subgoals g
    → Through b xs d → map shape_of xs ≡ entrances r.method g → (a : Tree)
    → IsTermOver (((theory_in h.held.1.1.1.outside).operators ++ open_constants h.held.1.1.1.outside)
    ++ (r.plan.constants ++ g.constants)) a → IsWordedTerm a → Known d a
inside_known t s b d cs levels k ks r g xs h e c n q a over words =
    let l = h.held.1.1.1 in
    let p = (running_is l.outside b k r e l.running).planned in
    let m = shared_is l.outside b k r e l.shared in
    let own : AreOwn b g.constants = All-contains (λ (z : Subgoal). AreOwn b z.constants) r.plan.subgoals g p.own c in
    let parts = subst (All IsPart) (sym (open_inside b d xs n))
    (All-append IsPart (open_constants b) (made_in xs) (open_parts t s b cs (k ∷ ks) h.held h.constants)
    (all_from IsPart (made_in xs) (λ f i.
    inl (All-contains (λ (z : PlainOperator). z.domain ≡ []) g.constants f own.constants
    (entrances_make r.method g f (subst (λ hs. Contains (flat_map (λ (z : Shape). z.constants) hs) f) q
    (subst (λ fs. Contains fs f) (shapes_made xs) i))))))) in
    open_known d a (through_stands b d xs n (holding_stands t s b (k ∷ ks) h.held)) parts
    (term_over_more (((theory_in l.outside).operators ++ open_constants l.outside)
    ++ (r.plan.constants ++ g.constants)) ((theory_in d).operators ++ open_constants d)
    (all_open l.outside b d r g xs k.level.goal m p c n q) a over) words

-- the goal of a subgoal can be written in its box
pub subgoal_known : (t : Theory) (s : Statement) (b d : Builder) (cs : List PlainOperator) (levels : List Level)
    (k : Kept) (ks : List Kept) (r : Running) (g : Subgoal) (xs : List SupposingBox)
    → HoldsLevels t s b cs levels (k ∷ ks) → k.book.running ≡ Some r → Contains r.plan.subgoals g → Through b xs d
    → map shape_of xs ≡ entrances r.method g → IsKnownFormula d g.goal
subgoal_known t s b d cs levels k ks r g xs h e c n q =
    let l = h.held.1.1.1 in
    let p = (running_is l.outside b k r e l.running).planned in
    let over = p.over g c in
    record {
      known = inside_known t s b d cs levels k ks r g xs h e c n q g.goal over.1.0
          (All-contains IsWordedSubgoal r.plan.subgoals g
          (planned_worded l.outside b k.level.goal r p) c).goal;
      sort = over.1.1;
    }

-- terms over the theory's operators and the constants of open boxes can be written
pub levels_known : (t : Theory) (s : Statement) (b : Builder) (cs : List PlainOperator) (levels : List Level)
    (ks : List Kept) (a : Tree) → HoldsLevels t s b cs levels ks → IsTermOver (t.operators ++ open_constants b) a
    → IsWordedTerm a → Known b a
levels_known t s b cs levels ks a h w words =
    open_known b a (holding_stands t s b ks h.held) (open_parts t s b cs ks h.held h.constants)
    (subst (λ (u : Theory). IsTermOver (u.operators ++ open_constants b) a) (sym (boxes_held t s b ks h.held).0) w)
    words
