-- What plans make is in words, where the goal, the clauses and what the method is carried out with are.
use Rattle.std.specs.Prelude.{◌≡◌, ◌==◌, ℕ, suc, Bool, true, false, cond, List, [], ◌∷◌, ◌++◌, map, bytes_eq, codes}
use Rattle.std.specs.Prelude.{All, Ok, Some, refl}
use Rattle.std.specs.List.{flat_map}
use Rattle.std.proofs.Common.{subst, sym}
use Rattle.std.proofs.lemmas.List.Elements.{All-append, All-cons, All-contains, All-head, All-nil, All-tail}
use Rattle.larch_base.proofs.Lists.{all_from}
use Rattle.larch_base.proofs.Options.{some_inj}
use Rattle.larch_term.specs.BuiltIn.{bool_sort, built_in, is_built_in_as}
use Rattle.larch_term.specs.Equality.{same_operator}
use Rattle.larch_term.specs.Operator.{PlainOperator}
use Rattle.larch_term.specs.Sorts.{sort_of}
use Rattle.larch_term.specs.Statement.{statement_zero}
use Rattle.larch_term.specs.Tree.{Forest, Tree, var, app, none, more}
use Rattle.larch_term.specs.Truth.{is_truth}
use Rattle.larch_term.specs.Variable.{occurrences, occurrences_in, variables_of}
use Rattle.larch_term.specs.declared.built_in.BuiltIn.TheVariants.{And, Equal, False, True}
use Rattle.larch_term.specs.declared.statement.Statement.{Statement}
use Rattle.larch_term.specs.declared.statement.Statement.TheVariants.{Equation, Generated, Partitioned}
use Rattle.larch_term.specs.declared.substitution.Entry.{Entry}
use Rattle.larch_term.specs.declared.variable.Variable.{Variable}
use Rattle.larch_calculus.proofs.TermLawOccurring.{listed_occurs}
use Rattle.larch_calculus.specs.Formula.{constant, equality, equivalence, falsity, formula}
use Rattle.larch_calculus.specs.Freed.{constants_for}
use Rattle.larch_calculus.specs.Generation.{constant_terms, only}
use Rattle.larch_calculus.specs.Observation.{Observation, observations_of}
use Rattle.larch_calculus.proofs.Observed.{observation_is}
use Rattle.larch_derive.specs.CertificateTextLineText.{IsWord}
use Rattle.larch_derive.specs.Builder.{theory_in}
use Rattle.larch_derive.specs.Predicates.{HasNoBadLine}
use Rattle.larch_derive.specs.Words.{AreWordedOperators, AreWordedStatements, AreWordedTerms, IsWordedOperator}
use Rattle.larch_derive.specs.Words.{IsWordedStatement, IsWordedTerm}
use Rattle.larch_derive.specs.declared.builder.Builder.{Builder}
use Rattle.larch_derive.proofs.Growth.{known_stands}
use Rattle.larch_derive.proofs.Words.{instance_worded, known_worded, theory_worded}
use Rattle.larch_methods.specs.ProveMeaningNewNames.{constant_named, free_name, new_constants}
use Rattle.larch_methods.specs.ProveMeaningPlans.{Cases, Conjunction, Contradiction, Implication, Induction, Method}
use Rattle.larch_methods.specs.ProveMeaningPlans.{Partition}
use Rattle.larch_methods.specs.ProveMeaningPlans.{Plan, Setting, Subgoal}
use Rattle.larch_methods.specs.ProveMeaningPlans.{a_variable, argument_variables, arguments_around}
use Rattle.larch_methods.specs.ProveMeaningPlans.{cases_plan, closed_by, conjuncts, conjuncts_in, constants_of}
use Rattle.larch_methods.specs.ProveMeaningPlans.{contradiction_plan, fails, generators, goal_at, holds, implication_of}
use Rattle.larch_methods.specs.ProveMeaningPlans.{induction_subgoals, names_of, observers}
use Rattle.larch_methods.specs.ProveMeaningPlans.{other_sorts, partition_subgoals}
use Rattle.larch_methods.specs.ProveMeaningPlans.{plan, shared_subgoal, shown, supposed_of, taken_beside}
use Rattle.larch_methods.proofs.ProveMeaningCasePlans.{arguments_found}
use Rattle.larch_methods.proofs.Planned.{argument_sorts, cases_planned, conjunction_planned, contradiction_planned}
use Rattle.larch_methods.proofs.Planned.{implication_planned, induction_planned, other_are, partition_planned}
use Rattle.larch_methods.proofs.Worded.{new_worded, others_worded}
use Rattle.larch_prove_invariant.specs.Book.{Running}
use Rattle.larch_prove_invariant.specs.Holding.{IsKnownFor, IsPlanned}
use Rattle.larch_prove_invariant.proofs.Shared.{is_implication, is_induction, is_partition}

-- the subgoal's goal is in words, and the sorts of its constants are words
pub record IsWordedSubgoal (s : Subgoal) : Type 0 where
  pub constants : AreWordedOperators s.constants
  pub goal : IsWordedTerm s.goal

-- so it is of all subgoals of a plan, and so are the sorts of the constants that they share
pub record IsWordedPlan (made : Plan) : Type 0 where
  pub constants : AreWordedOperators made.constants
  pub subgoals : All IsWordedSubgoal made.subgoals

-- a formula of a method is in words
abbrev pub IsWordedFor : Method → Type 0
IsWordedFor (Cases f) = IsWordedTerm f
IsWordedFor Implication = Unit {0}
IsWordedFor Conjunction = Unit {0}
IsWordedFor Contradiction = Unit {0}
IsWordedFor (Induction n) = Unit {0}
IsWordedFor Partition = Unit {0}

-- ---- constants for variables

abbrev HasWordedSort : Variable → Type 0
HasWordedSort v = IsWord v.sort

mutual
  occurring_sorts : (t : Tree) → IsWordedTerm t → All HasWordedSort (occurrences t)
  occurring_sorts (var n s) w =
      All-cons HasWordedSort (record { name = n; sort = s }) [] w.1 (All-nil HasWordedSort)
  occurring_sorts (app f ts) w = all_occurring_sorts ts w.1

  all_occurring_sorts : (ts : Forest) → AreWordedTerms ts → All HasWordedSort (occurrences_in ts)
  all_occurring_sorts none w = All-nil HasWordedSort
  all_occurring_sorts (more t ts) w =
      All-append HasWordedSort (occurrences t) (occurrences_in ts) (occurring_sorts t w.0) (all_occurring_sorts ts w.1)

variable_sorts : (t : Tree) → IsWordedTerm t → All HasWordedSort (variables_of t)
variable_sorts t w =
    all_from HasWordedSort (variables_of t)
    (λ v c. All-contains HasWordedSort (occurrences t) v (occurring_sorts t w) ((listed_occurs t v).0 c))

constants_made : (taken : List (List ℕ)) (vs : List Variable) → All HasWordedSort vs
    → AreWordedOperators (new_constants taken vs)
constants_made taken [] h = All-nil IsWordedOperator
constants_made taken (v ∷ vs) h =
    let n = free_name taken (v.name ++ codes "c") in
    All-cons IsWordedOperator (constant_named n v.sort) (new_constants (n ∷ taken) vs)
    (tt, All-head HasWordedSort v vs h) (constants_made (n ∷ taken) vs (All-tail HasWordedSort v vs h))

abbrev HasWordedTerm : Entry → Type 0
HasWordedTerm e = IsWordedTerm e.term

entries_made : (vs : List Variable) (cs : List PlainOperator) → AreWordedOperators cs
    → All HasWordedTerm (constants_for vs cs)
entries_made [] cs h = All-nil HasWordedTerm
entries_made (v ∷ vs) [] h = All-nil HasWordedTerm
entries_made (v ∷ vs) (c ∷ cs) h =
    All-cons HasWordedTerm (record { name = v.name; sort = v.sort; term = constant c }) (constants_for vs cs)
    (All-head IsWordedOperator c cs h, tt) (entries_made vs cs (All-tail IsWordedOperator c cs h))

-- a term with constants in the places of another one's variables
pub closed_worded : (t : Tree) (cs : List PlainOperator) (u : Tree) → AreWordedOperators cs → IsWordedTerm u
    → IsWordedTerm (closed_by t cs u)
closed_worded t cs u h w = instance_worded (constants_for (variables_of t) cs) u (entries_made (variables_of t) cs h) w

bare_worded : (s : Subgoal) → s.constants ≡ [] → IsWordedTerm s.goal → IsWordedSubgoal s
bare_worded s e w =
    record { constants = subst AreWordedOperators (sym e) (All-nil IsWordedOperator); goal = w }

one_worded : (s : Subgoal) → IsWordedSubgoal s → All IsWordedSubgoal (s ∷ [])
one_worded s w = All-cons IsWordedSubgoal s [] w (All-nil IsWordedSubgoal)

-- ---- cases, implications, contradictions

pub cases_worded : (taken : List (List ℕ)) (goal f : Tree) → IsWordedTerm goal → IsWordedTerm f
    → IsWordedPlan (cases_plan taken goal f)
cases_worded taken goal f w v =
    let cs = constants_of taken goal f in
    let c = constants_made (taken_beside taken goal) (variables_of f) (variable_sorts f v) in
    let g = closed_worded f cs goal c w in
    let first = shared_subgoal (holds (closed_by f cs f) ∷ []) (closed_by f cs goal) in
    let second = shared_subgoal (fails (closed_by f cs f) ∷ []) (closed_by f cs goal) in
    record {
      constants = c;
      subgoals = All-cons IsWordedSubgoal first (second ∷ []) (bare_worded first refl g)
          (one_worded second (bare_worded second refl g));
    }

pub implication_worded : (taken : List (List ℕ)) (goal p q : Tree) → IsWordedTerm p → IsWordedTerm q
    → IsWordedPlan (implication_of taken goal (p, q))
implication_worded taken goal p q w v =
    let cs = constants_of taken goal p in
    let c = constants_made (taken_beside taken goal) (variables_of p) (variable_sorts p w) in
    let only = shared_subgoal (holds (closed_by p cs p) ∷ []) (closed_by p cs q) in
    record { constants = c; subgoals = one_worded only (bare_worded only refl (closed_worded p cs q c v)) }

pub contradiction_worded : (taken : List (List ℕ)) (goal : Tree) → IsWordedTerm goal
    → IsWordedPlan (contradiction_plan taken goal)
contradiction_worded taken goal w =
    let cs = constants_of taken goal goal in
    let c = constants_made (taken_beside taken goal) (variables_of goal) (variable_sorts goal w) in
    let only = shared_subgoal (fails (closed_by goal cs goal) ∷ []) falsity in
    record { constants = c; subgoals = one_worded only (bare_worded only refl ((tt, refl), tt)) }

-- ---- conjunctions

either_conjuncts : (f : PlainOperator) (ts : Forest) (b : Bool) → IsWordedTerm (app f ts)
    → All IsWordedTerm (conjuncts_in ts)
    → All IsWordedTerm (elim b [ true ↦ conjuncts_in ts | false ↦ app f ts ∷ [] ])
either_conjuncts f ts true w h = h
either_conjuncts f ts false w h = All-cons IsWordedTerm (app f ts) [] w (All-nil IsWordedTerm)

mutual
  conjuncts_worded : (t : Tree) → IsWordedTerm t → All IsWordedTerm (conjuncts t)
  conjuncts_worded (var n s) w = All-cons IsWordedTerm (var n s) [] w (All-nil IsWordedTerm)
  conjuncts_worded (app f ts) w =
      either_conjuncts f ts (same_operator (built_in And bool_sort) f) w (all_conjuncts_worded ts w.1)

  all_conjuncts_worded : (ts : Forest) → AreWordedTerms ts → All IsWordedTerm (conjuncts_in ts)
  all_conjuncts_worded none w = All-nil IsWordedTerm
  all_conjuncts_worded (more t ts) w =
      All-append IsWordedTerm (conjuncts t) (conjuncts_in ts) (conjuncts_worded t w.0) (all_conjuncts_worded ts w.1)

shared_worded : (ts : List Tree) → All IsWordedTerm ts → All IsWordedSubgoal (map (shared_subgoal []) ts)
shared_worded [] h = All-nil IsWordedSubgoal
shared_worded (t ∷ ts) h =
    All-cons IsWordedSubgoal (shared_subgoal [] t) (map (shared_subgoal []) ts)
    (bare_worded (shared_subgoal [] t) refl (All-head IsWordedTerm t ts h))
    (shared_worded ts (All-tail IsWordedTerm t ts h))

-- ---- induction

terms_worded : (cs : List PlainOperator) → AreWordedOperators cs → AreWordedTerms (constant_terms cs)
terms_worded [] h = tt
terms_worded (c ∷ cs) h =
    ((All-head IsWordedOperator c cs h, tt), terms_worded cs (All-tail IsWordedOperator c cs h))

at_worded : (x : Variable) (goal t : Tree) → IsWordedTerm goal → IsWordedTerm t → IsWordedTerm (goal_at x goal t)
at_worded x goal t w v =
    instance_worded (only x.name x.sort t) goal
    (All-cons HasWordedTerm (record { name = x.name; sort = x.sort; term = t }) [] v (All-nil HasWordedTerm)) w

induction_worded : (taken : List (List ℕ)) (x : Variable) (goal : Tree) (fs : List PlainOperator) → IsWordedTerm goal
    → AreWordedOperators fs → All IsWordedSubgoal (induction_subgoals taken x goal fs)
induction_worded taken x goal [] w h = All-nil IsWordedSubgoal
induction_worded taken x goal (f ∷ fs) w h =
    let vs = argument_variables x f.domain in
    let cs = new_constants taken vs in
    let own = All-head IsWordedOperator f fs h in
    let c = new_worded taken vs f.domain (argument_sorts x f.domain) own.0 in
    All-cons IsWordedSubgoal
    (record {
      constants = cs;
      hypotheses = supposed_of x goal cs;
      goal = goal_at x goal (app f (constant_terms cs));
    })
    (induction_subgoals (names_of cs ++ taken) x goal fs)
    (record { constants = c; goal = at_worded x goal (app f (constant_terms cs)) w (own, terms_worded cs c) })
    (induction_worded (names_of cs ++ taken) x goal fs w (All-tail IsWordedOperator f fs h))

-- the generators of a sort, by a clause in words
pub generators_worded : (s : List ℕ) (ss : List Statement) (fs : List PlainOperator) → AreWordedStatements ss
    → generators s ss ≡ Some fs → AreWordedOperators fs
generators_worded s [] fs h e = cc
generators_worded s (Equation l r ∷ ss) fs h e =
    generators_worded s ss fs (All-tail IsWordedStatement (Equation l r) ss h) e
generators_worded s (Generated z gs ∷ ss) fs h e =
    by_sort (bytes_eq z s) (All-head IsWordedStatement (Generated z gs) ss h).1
    (λ q. generators_worded s ss fs (All-tail IsWordedStatement (Generated z gs) ss h) q) e
  where
    by_sort : (b : Bool) → AreWordedOperators gs → (generators s ss ≡ Some fs → AreWordedOperators fs)
        → cond b (Some gs) (generators s ss) ≡ Some fs → AreWordedOperators fs
    by_sort true g k q = subst AreWordedOperators (some_inj q) g
    by_sort false g k q = k q
generators_worded s (Partitioned z gs ∷ ss) fs h e =
    generators_worded s ss fs (All-tail IsWordedStatement (Partitioned z gs) ss h) e

-- ---- partition

pub observers_worded : (s : List ℕ) (ss : List Statement) (fs : List PlainOperator) → AreWordedStatements ss
    → observers s ss ≡ Some fs → AreWordedOperators fs
observers_worded s [] fs h e = cc
observers_worded s (Equation l r ∷ ss) fs h e =
    observers_worded s ss fs (All-tail IsWordedStatement (Equation l r) ss h) e
observers_worded s (Generated z gs ∷ ss) fs h e =
    observers_worded s ss fs (All-tail IsWordedStatement (Generated z gs) ss h) e
observers_worded s (Partitioned z gs ∷ ss) fs h e =
    by_sort (bytes_eq z s) (All-head IsWordedStatement (Partitioned z gs) ss h).1
    (λ q. observers_worded s ss fs (All-tail IsWordedStatement (Partitioned z gs) ss h) q) e
  where
    by_sort : (b : Bool) → AreWordedOperators gs → (observers s ss ≡ Some fs → AreWordedOperators fs)
        → cond b (Some gs) (observers s ss) ≡ Some fs → AreWordedOperators fs
    by_sort true g k q = subst AreWordedOperators (some_inj q) g
    by_sort false g k q = k q

term_or_none : (t : Tree) (ts : Forest) (b : Bool) → IsWordedTerm t → AreWordedTerms ts
    → AreWordedTerms (elim b [ true ↦ more t ts | false ↦ none ])
term_or_none t ts true w h = (w, h)
term_or_none t ts false w h = tt

term_or_constant : (t u : Tree) (ts us : Forest) (b : Bool) → IsWordedTerm t → AreWordedTerms ts → IsWordedTerm u
    → AreWordedTerms us → AreWordedTerms (elim b [ true ↦ more t ts | false ↦ more u us ])
term_or_constant t u ts us true w h v g = (w, h)
term_or_constant t u ts us false w h v g = (v, g)

around_worded : (place : ℕ) (t : Tree) (k : ℕ) (ss : List (List ℕ)) (cs : List PlainOperator) → IsWordedTerm t
    → AreWordedOperators cs → AreWordedTerms (arguments_around place t k ss cs)
around_worded place t k [] cs w h = tt
around_worded place t k (s ∷ ss) [] w h =
    term_or_none t (arguments_around place t (suc k) ss []) (k == place) w (around_worded place t (suc k) ss [] w h)
around_worded place t k (s ∷ ss) (c ∷ cs) w h =
    term_or_constant t (constant c) (arguments_around place t (suc k) ss (c ∷ cs))
    (arguments_around place t (suc k) ss cs) (k == place) w (around_worded place t (suc k) ss (c ∷ cs) w h)
    (All-head IsWordedOperator c cs h, tt) (around_worded place t (suc k) ss cs w (All-tail IsWordedOperator c cs h))

shown_worded : (w : Observation) (cs : List PlainOperator) (t : Tree) → IsWordedOperator w.observer
    → AreWordedOperators cs → IsWordedTerm t → IsWordedTerm (shown w cs t)
shown_worded w cs t o h v = (o, around_worded w.place t 1 w.observer.domain cs v h)

sort_worded : (t : Tree) → IsWordedTerm t → IsWord (sort_of t)
sort_worded (var n s) w = w.1
sort_worded (app f ts) w = w.0.1

pub formula_worded : (l r : Tree) → IsWordedTerm l → IsWordedTerm r → IsWordedTerm (formula l r)
formula_worded l r w v = by_tests (is_truth r) (is_truth l) (bytes_eq (sort_of l) bool_sort)
  where
    by_tests : (a b c : Bool)
        → IsWordedTerm (cond a l (cond b r (cond c (equivalence l r) (equality (sort_of l) l r))))
    by_tests true b c = w
    by_tests false true c = v
    by_tests false false true = (((refl, (refl, tt)), refl), (w, (v, tt)))
    by_tests false false false = (((sort_worded l w, (sort_worded l w, tt)), refl), (w, (v, tt)))

abbrev HasWordedObserver : Observation → Type 0
HasWordedObserver w = IsWordedOperator w.observer

partition_worded : (taken : List (List ℕ)) (l r : Tree) (ws : List Observation) → IsWordedTerm l → IsWordedTerm r
    → All HasWordedObserver ws → All IsWordedSubgoal (partition_subgoals taken l r ws)
partition_worded taken l r [] p q h = All-nil IsWordedSubgoal
partition_worded taken l r (w ∷ ws) p q h =
    let ss = other_sorts w.place 1 w.observer.domain in
    let cs = new_constants taken (map a_variable ss) in
    let own = All-head HasWordedObserver w ws h in
    let c = new_worded taken (map a_variable ss) ss (other_are ss) (others_worded w.place 1 w.observer.domain own.0) in
    All-cons IsWordedSubgoal
    (record { constants = cs; hypotheses = []; goal = formula (shown w cs l) (shown w cs r) })
    (partition_subgoals (names_of cs ++ taken) l r ws)
    (record {
      constants = c;
      goal = formula_worded (shown w cs l) (shown w cs r) (shown_worded w cs l own c p) (shown_worded w cs r own c q);
    })
    (partition_worded (names_of cs ++ taken) l r ws p q (All-tail HasWordedObserver w ws h))

observations_worded : (s : List ℕ) (os : List PlainOperator) → AreWordedOperators os
    → All HasWordedObserver (observations_of s os)
observations_worded s os h =
    all_from HasWordedObserver (observations_of s os)
    (λ w c. All-contains IsWordedOperator os w.observer h (observation_is s os w c).0)

-- ---- plans

pub plan_worded : (setting : Setting) (goal : Tree) (method : Method) (made : Plan)
    → AreWordedStatements setting.clauses → IsWordedTerm goal → IsWordedFor method → plan setting goal method ≡ Ok made
    → All IsWordedSubgoal made.subgoals
plan_worded setting goal (Cases f) made cl w v e =
    subst (λ (m : Plan). All IsWordedSubgoal m.subgoals) (sym (cases_planned setting goal f made e))
    (cases_worded setting.taken goal f w v).subgoals
plan_worded setting goal Implication made cl w v e =
    let i = is_implication setting goal made e in
    let words = subst IsWordedTerm i.1 w in
    subst (λ (m : Plan). All IsWordedSubgoal m.subgoals)
    (sym (implication_planned setting goal i.0.0 i.0.1 made i.1 e))
    (implication_worded setting.taken goal i.0.0 i.0.1 words.1.0 words.1.1.0).subgoals
plan_worded setting goal Conjunction made cl w v e =
    subst (All IsWordedSubgoal) (sym (conjunction_planned setting goal made e))
    (shared_worded (conjuncts goal) (conjuncts_worded goal w))
plan_worded setting goal Contradiction made cl w v e =
    subst (λ (m : Plan). All IsWordedSubgoal m.subgoals) (sym (contradiction_planned setting goal made e))
    (contradiction_worded setting.taken goal w).subgoals
plan_worded setting goal (Induction n) made cl w v e =
    let f = is_induction setting goal n made e in
    subst (All IsWordedSubgoal) (sym (induction_planned setting goal n f.0 f.1.1.0 made e f.1.0 f.1.1.1))
    (induction_worded (taken_beside setting.taken goal) f.0 goal f.1.1.0 w
    (generators_worded f.0.sort setting.clauses f.1.1.0 cl f.1.1.1))
plan_worded setting goal Partition made cl w v e =
    let f = is_partition setting goal made e in
    let l = f.0 in
    let r = f.1.0 in
    let os = f.1.1.1.0 in
    let two = arguments_found (λ g. is_built_in_as g Equal) goal (l, r) f.1.1.0 in
    let words = subst IsWordedTerm two.1.1 w in
    subst (All IsWordedSubgoal) (sym (partition_planned setting goal l r os made e f.1.1.0 f.1.1.1.1))
    (partition_worded (taken_beside setting.taken goal) l r (observations_of (sort_of l) os) words.1.0 words.1.1.0
    (observations_worded (sort_of l) os (observers_worded (sort_of l) setting.clauses os cl f.1.1.1.1)))

-- the constants of subgoals, one after the other
pub own_worded : (ss : List Subgoal) → All IsWordedSubgoal ss
    → AreWordedOperators (flat_map (λ (s : Subgoal). s.constants) ss)
own_worded [] h = All-nil IsWordedOperator
own_worded (s ∷ ss) h =
    All-append IsWordedOperator s.constants (flat_map (λ (x : Subgoal). x.constants) ss)
    (All-head IsWordedSubgoal s ss h).constants (own_worded ss (All-tail IsWordedSubgoal s ss h))

-- ---- builders

-- what every theory states is in words
zero_worded : IsWordedStatement statement_zero
zero_worded = (
  refl,
  All-cons IsWordedOperator (built_in True bool_sort) (built_in False bool_sort ∷ []) (tt, refl)
      (All-cons IsWordedOperator (built_in False bool_sort) [] (tt, refl) (All-nil IsWordedOperator)),
)

-- and so is what a builder's theory does
pub stated_worded : (b : Builder) → HasNoBadLine b → AreWordedStatements (statement_zero ∷ (theory_in b).statements)
stated_worded b st =
    All-cons IsWordedStatement statement_zero (theory_in b).statements zero_worded (theory_worded b st).1

pub method_worded : (b : Builder) (method : Method) → IsKnownFor b method → IsWordedFor method
method_worded b (Cases f) k = known_worded b f k.known
method_worded b Implication k = tt
method_worded b Conjunction k = tt
method_worded b Contradiction k = tt
method_worded b (Induction n) k = tt
method_worded b Partition k = tt

-- the clauses of a method that has its plan
pub clauses_worded : (a b : Builder) (goal : Tree) (r : Running) → IsPlanned a b goal r
    → AreWordedStatements r.setting.clauses
clauses_worded a b goal r p =
    subst AreWordedStatements (sym p.clauses) (stated_worded a (known_stands a goal p.goal_known.known))

-- and its subgoals
pub planned_worded : (a b : Builder) (goal : Tree) (r : Running) → IsPlanned a b goal r
    → All IsWordedSubgoal r.plan.subgoals
planned_worded a b goal r p =
    plan_worded r.setting goal r.method r.plan (clauses_worded a b goal r p) (known_worded a goal p.goal_known.known)
    (method_worded a r.method p.method_known) p.planned
