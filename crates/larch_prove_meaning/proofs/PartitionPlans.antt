-- Plans by partition keep sorts.
use Rattle.std.specs.Prelude.{◌≡◌, ◌==◌, ℕ, suc, Bool, true, false, cond, List, [], ◌∷◌, ◌++◌, map, Contains, bytes_eq}
use Rattle.std.specs.Prelude.{refl}
use Rattle.std.proofs.Common.{inl, inr, ap, ap₂, sym, ◌∙◌}
use Rattle.std.proofs.lemmas.List.Elements.{All-nil, All-head, All-tail}
use Rattle.std.proofs.lemmas.Slice.Eq.{bytes_eq-Decides}
use Rattle.larch_base.proofs.Members.{contains_here, contains_later, contains_cases, contains_none}
use Rattle.larch_term.specs.Operator.{PlainOperator}
use Rattle.larch_term.specs.Tree.{Tree, Forest, var, none, more}
use Rattle.larch_term.specs.BuiltIn.{bool_sort}
use Rattle.larch_term.specs.Sorts.{sort_of, sorts_of, AllWellSorted, AllOver, IsKnown, IsTermOver}
use Rattle.larch_term.specs.Truth.{truth, is_truth}
use Rattle.larch_term.proofs.TruthTest.{is_truth_Decides}
use Rattle.larch_rewrite_meaning.specs.CalculusFormula.{constant, formula, equivalence, equality}
use Rattle.larch_rewrite_meaning.specs.CalculusGeneration.{place_name}
use Rattle.larch_rewrite_meaning.specs.CalculusObservation.{Observation, arguments_with, places_of_sort}
use Rattle.larch_rewrite_meaning.specs.CalculusTheories.{AreConstants, IsTermOf}
use Rattle.larch_rewrite_meaning.proofs.CalculusObserved.{sorts_with}
use Rattle.larch_rewrite_meaning.proofs.CalculusSorted.{Knows, term_over_more}
use Rattle.larch_rewrite_meaning.specs.Sides.{AreSidesOver}
use Rattle.larch_prove_meaning.specs.NewNames.{new_constants}
use Rattle.larch_prove_meaning.specs.Plans.{Subgoal, a_variable, names_of, arguments_around, other_sorts, shown}
use Rattle.larch_prove_meaning.specs.Plans.{partition_subgoals, IsFormulaOver, IsSubgoalOver}
use Rattle.larch_prove_meaning.proofs.AddingSorts.{equality_over, equivalence_over}
use Rattle.larch_prove_meaning.proofs.InductionPlans.{constant_over, subgoal_moved}
use Rattle.larch_prove_meaning.proofs.PlanParts.{AreAmong, among_last, knows_front, new_are_constants, new_have_sorts}

head_same : {a b : List ℕ} {xs ys : List (List ℕ)} → a ∷ xs ≡ b ∷ ys → a ≡ b
head_same q = cc

tail_same : {a b : List ℕ} {xs ys : List (List ℕ)} → a ∷ xs ≡ b ∷ ys → xs ≡ ys
tail_same q = cc

-- that arguments have the sorts of others, where the constants have those of the other places
abbrev AreAround : ℕ → Tree → ℕ → List (List ℕ) → List PlainOperator → Type 0
AreAround place t k ss cs =
    map (λ c. c.range) cs ≡ other_sorts place k ss
    → sorts_of (arguments_around place t k ss cs) ≡ sorts_of (arguments_with place_name place t k ss)

none_around : (place : ℕ) (t : Tree) (k : ℕ) (s : List ℕ) (ss : List (List ℕ)) (b : Bool)
    → AreAround place t (suc k) ss []
    → [] ≡ cond b (other_sorts place (suc k) ss) (s ∷ other_sorts place (suc k) ss)
    → sorts_of (elim b [ true ↦ more t (arguments_around place t (suc k) ss []) | false ↦ none ])
    ≡ sort_of (cond b t (var (place_name k) s)) ∷ sorts_of (arguments_with place_name place t (suc k) ss)
none_around place t k s ss true go q = ap (λ rs. sort_of t ∷ rs) (go q)
none_around place t k s ss false go q = cc

one_around : (place : ℕ) (t : Tree) (k : ℕ) (s : List ℕ) (ss : List (List ℕ)) (c : PlainOperator)
    (cs : List PlainOperator) (b : Bool) → AreAround place t (suc k) ss (c ∷ cs) → AreAround place t (suc k) ss cs
    → c.range ∷ map (λ d. d.range) cs ≡ cond b (other_sorts place (suc k) ss) (s ∷ other_sorts place (suc k) ss)
    → sorts_of (elim b [
      | true ↦ more t (arguments_around place t (suc k) ss (c ∷ cs))
      | false ↦ more (constant c) (arguments_around place t (suc k) ss cs)
    ])
    ≡ sort_of (cond b t (var (place_name k) s)) ∷ sorts_of (arguments_with place_name place t (suc k) ss)
one_around place t k s ss c cs true here behind q = ap (λ rs. sort_of t ∷ rs) (here q)
one_around place t k s ss c cs false here behind q =
    ap₂ (λ a rs. a ∷ rs) (head_same q) (behind (tail_same q))

-- the arguments around a term have the sorts of those with variables in the constants' places
around_sorts : (place : ℕ) (t : Tree) (k : ℕ) (ss : List (List ℕ)) (cs : List PlainOperator)
    → AreAround place t k ss cs
around_sorts place t k [] [] e = refl
around_sorts place t k [] (c ∷ cs) e = refl
around_sorts place t k (s ∷ ss) [] e =
    none_around place t k s ss (k == place) (around_sorts place t (suc k) ss []) e
around_sorts place t k (s ∷ ss) (c ∷ cs) e =
    one_around place t k s ss c cs (k == place) (around_sorts place t (suc k) ss (c ∷ cs))
    (around_sorts place t (suc k) ss cs) e

-- arguments are well sorted terms over operators
abbrev AreTermsOver : List PlainOperator → Forest → Type 0
AreTermsOver gs ts = AllWellSorted ts × AllOver gs ts

first_term : (gs : List PlainOperator) (t : Tree) (ts : Forest) → IsTermOver gs t → AreTermsOver gs ts
    → AreTermsOver gs (more t ts)
first_term gs t ts w r = ((w.0, r.0), (w.1, r.1))

term_or_none : (gs : List PlainOperator) (t : Tree) (ts : Forest) (b : Bool) → IsTermOver gs t → AreTermsOver gs ts
    → AreTermsOver gs (elim b [ true ↦ more t ts | false ↦ none ])
term_or_none gs t ts true w r = first_term gs t ts w r
term_or_none gs t ts false w r = (tt, tt)

term_or_constant : (gs : List PlainOperator) (t u : Tree) (ts us : Forest) (b : Bool) → IsTermOver gs t
    → AreTermsOver gs ts → IsTermOver gs u → AreTermsOver gs us
    → AreTermsOver gs (elim b [ true ↦ more t ts | false ↦ more u us ])
term_or_constant gs t u ts us true w r v q = first_term gs t ts w r
term_or_constant gs t u ts us false w r v q = first_term gs u us v q

around_terms : (gs : List PlainOperator) (place : ℕ) (t : Tree) (k : ℕ) (ss : List (List ℕ)) (cs : List PlainOperator)
    → IsTermOver gs t → AreAmong gs cs → AreConstants cs → AreTermsOver gs (arguments_around place t k ss cs)
around_terms gs place t k [] cs w h a = (tt, tt)
around_terms gs place t k (s ∷ ss) [] w h a =
    term_or_none gs t (arguments_around place t (suc k) ss []) (k == place) w
    (around_terms gs place t (suc k) ss [] w h a)
around_terms gs place t k (s ∷ ss) (c ∷ cs) w h a =
    term_or_constant gs t (constant c) (arguments_around place t (suc k) ss (c ∷ cs))
    (arguments_around place t (suc k) ss cs) (k == place) w (around_terms gs place t (suc k) ss (c ∷ cs) w h a)
    (constant_over gs c (h c (contains_here c cs)) (All-head (λ f. f.domain ≡ []) c cs a))
    (around_terms gs place t (suc k) ss cs w (λ d i. h d (contains_later c d cs i))
    (All-tail (λ f. f.domain ≡ []) c cs a))

others_sorted : (ss : List (List ℕ)) → map (λ v. v.sort) (map a_variable ss) ≡ ss
others_sorted [] = refl
others_sorted (s ∷ ss) = ap (λ rs. s ∷ rs) (others_sorted ss)

shown_over : (fs gs : List PlainOperator) (s : List ℕ) (w : Observation) (cs : List PlainOperator) (t : Tree)
    → Knows fs gs → IsKnown fs w.observer → Contains (places_of_sort s 1 w.observer.domain) w.place
    → map (λ c. c.range) cs ≡ other_sorts w.place 1 w.observer.domain → AreAmong gs cs → AreConstants cs
    → IsTermOver gs t → sort_of t ≡ s → IsTermOver gs (shown w cs t)
shown_over fs gs s w cs t k o p e h a v q =
    let r = around_terms gs w.place t 1 w.observer.domain cs v h a in (
      (
        around_sorts w.place t 1 w.observer.domain cs e
            ∙ sorts_with place_name w.place t s 1 w.observer.domain q p,
        r.0,
      ),
      (k w.observer o, r.1),
    )

-- the formula of an equation is a formula
pub formula_over : (gs : List PlainOperator) (l r : Tree) → IsTermOver gs l → IsTermOver gs r → sort_of l ≡ sort_of r
    → IsFormulaOver gs (formula l r)
formula_over gs l r w v e =
    by_tests (is_truth r) (is_truth l) (bytes_eq (sort_of l) bool_sort) (is_truth_Decides r).0 (is_truth_Decides l).0
    (bytes_eq-Decides (sort_of l) bool_sort).0
  where
    by_tests : (a b c : Bool) → (a ≡ true → r ≡ truth) → (b ≡ true → l ≡ truth) → (c ≡ true → sort_of l ≡ bool_sort)
        → IsFormulaOver gs (cond a l (cond b r (cond c (equivalence l r) (equality (sort_of l) l r))))
    by_tests true b c p q i = (w, e ∙ ap sort_of (p refl))
    by_tests false true c p q i = (v, sym e ∙ ap sort_of (q refl))
    by_tests false false true p q i =
        (equivalence_over gs (record { left = l; right = r }) (w, v, e) (i refl), refl)
    by_tests false false false p q i = (equality_over gs (record { left = l; right = r }) (w, v, e), refl)

partition_case : (fs : List PlainOperator) (s : List ℕ) (t u : Tree) (w : Observation) (taken : List (List ℕ))
    → IsTermOf fs s t → IsTermOf fs s u → IsKnown fs w.observer
    → Contains (places_of_sort s 1 w.observer.domain) w.place
    → (let cs = new_constants taken (map a_variable (other_sorts w.place 1 w.observer.domain)) in
    IsSubgoalOver (fs ++ ([] ++ cs)) (record {
      constants = cs;
      hypotheses = [];
      goal = formula (shown w cs t) (shown w cs u);
    }))
partition_case fs s t u w taken h i o p =
    let vs = map a_variable (other_sorts w.place 1 w.observer.domain) in
    let cs = new_constants taken vs in
    let gs = fs ++ ([] ++ cs) in
    let k = knows_front fs [] cs in
    let m = among_last fs [] cs in
    let a = new_are_constants taken vs in
    let e = new_have_sorts taken vs ∙ others_sorted (other_sorts w.place 1 w.observer.domain) in
    let l = shown_over fs gs s w cs t k o p e m a (term_over_more fs gs k t h.0) h.1 in
    let r = shown_over fs gs s w cs u k o p e m a (term_over_more fs gs k u i.0) i.1 in
    (All-nil (AreSidesOver gs), formula_over gs (shown w cs t) (shown w cs u) l r refl)

pub partition_over : (fs : List PlainOperator) (s : List ℕ) (t u : Tree) (ws : List Observation) (taken : List (List ℕ))
    → IsTermOf fs s t → IsTermOf fs s u
    → ((w : Observation) → Contains ws w
    → IsKnown fs w.observer × Contains (places_of_sort s 1 w.observer.domain) w.place)
    → (g : Subgoal) → Contains (partition_subgoals taken t u ws) g → IsSubgoalOver (fs ++ ([] ++ g.constants)) g
partition_over fs s t u [] taken h i o g c = absurd (contains_none g c)
partition_over fs s t u (w ∷ ws) taken h i o g c =
    let cs = new_constants taken (map a_variable (other_sorts w.place 1 w.observer.domain)) in
    let first : Subgoal = record {
      constants = cs;
      hypotheses = [];
      goal = formula (shown w cs t) (shown w cs u);
    } in
    let own = o w (contains_here w ws) in
    elim (contains_cases first g (partition_subgoals (names_of cs ++ taken) t u ws) c) [
      | inl e ↦ subgoal_moved fs first g e (partition_case fs s t u w taken h i own.0 own.1)
      | inr d ↦ partition_over fs s t u ws (names_of cs ++ taken) h i (λ v j. o v (contains_later w v ws j)) g d
    ]
