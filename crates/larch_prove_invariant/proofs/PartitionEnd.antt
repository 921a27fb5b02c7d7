-- What was left of a partition's subgoals is what its end takes.
use Rattle.std.specs.Prelude.{◌≡◌, ◌==◌, ℕ, Bool, true, false, cond, List, [], ◌∷◌, ◌++◌, map, bytes_eq, All, Contains}
use Rattle.std.specs.Prelude.{Ok, codes, refl}
use Rattle.std.specs.List.{AllZip}
use Rattle.std.proofs.Common.{ap, inl, inr, subst, sym, ◌∙◌}
use Rattle.std.proofs.lemmas.List.Elements.{All-head, All-tail}
use Rattle.larch_base.proofs.Lists.{all_from}
use Rattle.larch_base.proofs.Members.{contains_cases, contains_none}
use Rattle.larch_term.specs.BuiltIn.{bool_sort, built_in, is_built_in_as}
use Rattle.larch_term.specs.Operator.{PlainOperator}
use Rattle.larch_term.specs.OperatorKey.{operator_Decides}
use Rattle.larch_term.specs.Sorts.{sort_of}
use Rattle.larch_term.specs.Tree.{Forest, Tree, app, none, more}
use Rattle.larch_term.specs.declared.built_in.BuiltIn.TheVariants.{Equal}
use Rattle.larch_term.specs.declared.statement.Statement.TheVariants.{Equation}
use Rattle.larch_calculus.specs.Formula.{apply_two, constant, equality, equivalence, formula}
use Rattle.larch_calculus.specs.Observation.{Observation, observations_of, places_of_sort}
use Rattle.larch_calculus.proofs.Observed.{observation_is}
use Rattle.larch_derive.specs.Predicates.{Known}
use Rattle.larch_derive.specs.declared.builder.Builder.{Builder}
use Rattle.larch_derive.specs.declared.open_box.OpenBox.{OpenBox}
use Rattle.larch_methods.specs.DeriveBoxesBoxes.{HasResult}
use Rattle.larch_methods.specs.RewriteMeaningSides.{Sides}
use Rattle.larch_methods.specs.ProveMeaningNewNames.{constant_named, free_name, new_constants}
use Rattle.larch_methods.specs.ProveMeaningPlans.{Partition, Plan, Setting, Subgoal}
use Rattle.larch_methods.specs.ProveMeaningPlans.{a_variable, arguments_around, names_of}
use Rattle.larch_methods.specs.ProveMeaningPlans.{other_sorts, partition_subgoals, plan, shown, taken_beside}
use Rattle.larch_methods.proofs.ProveMeaningCasePlans.{arguments_found}
use Rattle.larch_methods.specs.Opening.{IsShownIn}
use Rattle.larch_methods.proofs.Left.{partition_left}
use Rattle.larch_methods.proofs.Planned.{partition_planned}
use Rattle.larch_prove_invariant.specs.Book.{Left, Running}
use Rattle.larch_prove_invariant.specs.Ending.{EndsByPartition, HasAllLeft}
use Rattle.larch_prove_invariant.specs.Holding.{HasLeft, said_of, sides_within}
use Rattle.larch_prove_invariant.proofs.Held.{zip_kept}
use Rattle.larch_prove_invariant.proofs.Knowing.{known_over}
use Rattle.larch_prove_invariant.proofs.MethodEnds.{all_boxes_left, shares_none}
use Rattle.larch_prove_invariant.proofs.Shared.{formula_grows, is_partition}

-- ---- the sides of an observation's formula

-- there is a first argument
abbrev HasFirst : Forest → Type 0
HasFirst ts = (u : Tree) × ((us : Forest) × (ts ≡ more u us))

around_here : (place : ℕ) (t : Tree) (s : List ℕ) (ss : List (List ℕ)) (cs : List PlainOperator) → (1 == place) ≡ true
    → HasFirst (arguments_around place t 1 (s ∷ ss) cs)
around_here place t s ss [] e = (
  t,
  (
    arguments_around place t 2 ss [],
    ap (λ (b : Bool). elim b [ true ↦ more t (arguments_around place t 2 ss []) | false ↦ none ]) e,
  ),
)
around_here place t s ss (c ∷ cs) e = (
  t,
  (
    arguments_around place t 2 ss (c ∷ cs),
    ap (λ (b : Bool). elim b [
      | true ↦ more t (arguments_around place t 2 ss (c ∷ cs))
      | false ↦ more (constant c) (arguments_around place t 2 ss cs)
    ]) e,
  ),
)

around_there : (place : ℕ) (t : Tree) (s : List ℕ) (ss : List (List ℕ)) (c : PlainOperator) (cs : List PlainOperator)
    → (1 == place) ≡ false → HasFirst (arguments_around place t 1 (s ∷ ss) (c ∷ cs))
around_there place t s ss c cs e = (
  constant c,
  (
    arguments_around place t 2 ss cs,
    ap (λ (b : Bool). elim b [
      | true ↦ more t (arguments_around place t 2 ss (c ∷ cs))
      | false ↦ more (constant c) (arguments_around place t 2 ss cs)
    ]) e,
  ),
)

-- the constants for the other arguments
abbrev others_made : List (List ℕ) → ℕ → List (List ℕ) → List PlainOperator
others_made taken place ss = new_constants taken (map a_variable (other_sorts place 1 ss))

first_by : (place : ℕ) (taken : List (List ℕ)) (t : Tree) (s : List ℕ) (ss : List (List ℕ)) (b : Bool)
    → (1 == place) ≡ b → HasFirst (arguments_around place t 1 (s ∷ ss) (others_made taken place (s ∷ ss)))
first_by place taken t s ss true e = around_here place t s ss (others_made taken place (s ∷ ss)) e
first_by place taken t s ss false e =
    let rest = other_sorts place 2 ss in
    let n = free_name taken (codes "a" ++ codes "c") in
    subst (λ zs. HasFirst (arguments_around place t 1 (s ∷ ss) (new_constants taken (map a_variable zs))))
    (sym (ap (λ (b : Bool). cond b rest (s ∷ rest)) e))
    (around_there place t s ss (constant_named n s) (new_constants (n ∷ taken) (map a_variable rest)) e)

shown_first : (place : ℕ) (taken : List (List ℕ)) (t : Tree) (s : List ℕ) (ss : List (List ℕ))
    → Contains (places_of_sort s 1 ss) place → HasFirst (arguments_around place t 1 ss (others_made taken place ss))
shown_first place taken t s [] c = absurd (contains_none place c)
shown_first place taken t s (z ∷ ss) c = first_by place taken t z ss (1 == place) refl

sides_by : (l r : Tree) (b : Bool)
    → sides_within (cond b (equivalence l r) (equality (sort_of l) l r)) ≡ record { left = l; right = r }
sides_by l r true = refl
sides_by l r false = refl

sides_first : (f : PlainOperator) (t u : Tree) (ts us : Forest)
    → sides_within (formula (app f (more t ts)) (app f (more u us)))
    ≡ record { left = app f (more t ts); right = app f (more u us) }
sides_first f t u ts us = sides_by (app f (more t ts)) (app f (more u us)) (bytes_eq f.range bool_sort)

sides_of_shown : (f : PlainOperator) (ts us : Forest) → HasFirst ts → HasFirst us
    → sides_within (formula (app f ts) (app f us)) ≡ record { left = app f ts; right = app f us }
sides_of_shown f ts us (t, (vs, e)) (u, (ws, q)) =
    subst (λ xs. sides_within (formula (app f xs) (app f us)) ≡ record { left = app f xs; right = app f us }) (sym e)
    (subst (λ ys. sides_within (formula (app f (more t vs)) (app f ys))
    ≡ record { left = app f (more t vs); right = app f ys }) (sym q) (sides_first f t u vs ws))

-- ---- subgoal by subgoal

-- the place of each observation is one of the sort
abbrev HasPlace : List ℕ → Observation → Type 0
HasPlace s w = Contains (places_of_sort s 1 w.observer.domain) w.place

abbrev ShowsSides : Builder → Tree → Tree → Observation → OpenBox → Type 0
ShowsSides b l r w x = HasResult b x [] (Equation (shown w x.constants l) (shown w x.constants r))

results : (b : Builder) (s : List ℕ) (l r : Tree) (taken : List (List ℕ)) (ws : List Observation) (xs : List OpenBox)
    → All (HasPlace s) ws
    → AllZip (λ (g : Subgoal) x. IsShownIn b g (said_of Partition g) x) (partition_subgoals taken l r ws) xs
    → AllZip (ShowsSides b l r) ws xs
results b s l r taken [] [] p h = tt
results b s l r taken [] (x ∷ xs) p h = absurd h
results b s l r taken (w ∷ ws) [] p h = absurd h
results b s l r taken (w ∷ ws) (x ∷ xs) p h =
    let ss = w.observer.domain in
    let cs = others_made taken w.place ss in
    let here = All-head (HasPlace s) w ws p in
    let sides = sides_of_shown w.observer (arguments_around w.place l 1 ss cs) (arguments_around w.place r 1 ss cs)
    (shown_first w.place taken l s ss here) (shown_first w.place taken r s ss here) in (
      subst (λ ds. HasResult b x [] (Equation (shown w ds l) (shown w ds r))) (sym h.0.constants)
          (subst (λ (e : Sides). HasResult b x [] (Equation e.left e.right)) sides h.0.result),
      results b s l r (names_of cs ++ taken) ws xs (All-tail (HasPlace s) w ws p) h.1,
    )

-- a subgoal's goal is the formula of the equation that must be said of it
observed : (l r : Tree) (z : List ℕ) (taken : List (List ℕ)) (ws : List Observation) → All (HasPlace z) ws
    → (g : Subgoal) → Contains (partition_subgoals taken l r ws) g
    → g.goal ≡ formula (said_of Partition g).left (said_of Partition g).right
observed l r z taken [] p g c = absurd (contains_none g c)
observed l r z taken (w ∷ ws) p g c =
    let ss = w.observer.domain in
    let cs = others_made taken w.place ss in
    let here = All-head (HasPlace z) w ws p in
    let sides = sides_of_shown w.observer (arguments_around w.place l 1 ss cs) (arguments_around w.place r 1 ss cs)
    (shown_first w.place taken l z ss here) (shown_first w.place taken r z ss here) in
    let first : Subgoal = record {
      constants = cs;
      hypotheses = [];
      goal = formula (shown w cs l) (shown w cs r);
    } in
    elim (contains_cases first g (partition_subgoals (names_of cs ++ taken) l r ws) c) [
      | inl e ↦
          subst (λ (h : Subgoal). h.goal ≡ formula (said_of Partition h).left (said_of Partition h).right) e
          (sym (ap (λ (e : Sides). formula e.left e.right) sides))
      | inr d ↦ observed l r z (names_of cs ++ taken) ws (All-tail (HasPlace z) w ws p) g d
    ]

pub observations_said : (setting : Setting) (goal : Tree) (made : Plan) (g : Subgoal)
    → plan setting goal Partition ≡ Ok made → Contains made.subgoals g
    → g.goal ≡ formula (said_of Partition g).left (said_of Partition g).right
observations_said setting goal made g e c =
    let f = is_partition setting goal made e in
    let l = f.0 in
    let u = f.1.0 in
    let os = f.1.1.1.0 in
    let q = partition_planned setting goal l u os made e f.1.1.0 f.1.1.1.1 in
    let ws = observations_of (sort_of l) os in
    observed l u (sort_of l) (taken_beside setting.taken goal) ws
    (all_from (HasPlace (sort_of l)) ws (λ w i. (observation_is (sort_of l) os w i).1)) g
    (subst (λ ss. Contains ss g) q c)

-- ---- the sides of the goal

known_sides : (b : Builder) (f : PlainOperator) (t u : Tree) → Known b (apply_two f t u) → Known b t × Known b u
unfolding Known
known_sides b f t u (st, k) = (
  (st, record { stand = k.stand; over = (k.over.0.1.0, k.over.1.1.0); words = k.words.1.0 }),
  (st, record { stand = k.stand; over = (k.over.0.1.1.0, k.over.1.1.1.0); words = k.words.1.1.0 }),
)

two_same : (x y z : List ℕ) → x ∷ y ∷ [] ≡ z ∷ z ∷ [] → x ≡ y
two_same x y z e = cc

same_sorts : (b : Builder) (f : PlainOperator) (t u : Tree) → is_built_in_as f Equal ≡ true → Known b (apply_two f t u)
    → sort_of t ≡ sort_of u
same_sorts b f t u e k =
    let w = known_over b (apply_two f t u) k in
    let q = (operator_Decides f (built_in Equal _)).0 e in
    two_same (sort_of t) (sort_of u) _ (w.0.0 ∙ ap (λ (g : PlainOperator). g.domain) q)

pub partition_end : (a b : Builder) (goal : Tree) (r : Running) (lefts : List Left) → r.method ≡ Partition
    → HasAllLeft a b goal r lefts → EndsByPartition b r.setting goal lefts
partition_end a b goal r lefts e h =
    let p = subst (λ m. plan r.setting goal m ≡ Ok r.plan) e h.planned.planned in
    let f = is_partition r.setting goal r.plan p in
    let l = f.0 in
    let u = f.1.0 in
    let os = f.1.1.1.0 in
    let ws = observations_of (sort_of l) os in
    let xs = all_boxes_left b Partition (λ s w. cc) r.plan.subgoals lefts
    (subst (λ m. AllZip (HasLeft b m) r.plan.subgoals lefts) e h.left) in
    let q = partition_planned r.setting goal l u os r.plan p f.1.1.0 f.1.1.1.1 in
    let known = formula_grows a b goal (shares_none a b goal r lefts Partition e refl h) h.planned.goal_known in
    let two = arguments_found (λ g. is_built_in_as g Equal) goal (l, u) f.1.1.0 in
    let there = subst (Known b) two.1.1 known.known in
    let sides = known_sides b two.0 l u there in
    record {
      left = l;
      right = u;
      goal_is = f.1.1.0;
      operators = os;
      observing = f.1.1.1.1;
      boxes = xs.0;
      lefts_are = xs.1.0;
      shown = λ clause st.
          partition_left b r.setting goal l u os clause r.plan xs.0 p f.1.1.0 f.1.1.1.1 st h.planned.own
          (zip_kept (λ (g : Subgoal) x. IsShownIn b g (said_of Partition g) x)
          (λ (g : Subgoal) (x : OpenBox). x.constants ≡ g.constants) (λ g x i. i.constants) r.plan.subgoals xs.0 xs.1.1)
          (results b (sort_of l) l u (taken_beside r.setting.taken goal) ws xs.0
          (all_from (HasPlace (sort_of l)) ws (λ w i. (observation_is (sort_of l) os w i).1))
          (subst (λ ss. AllZip (λ (g : Subgoal) x. IsShownIn b g (said_of Partition g) x) ss xs.0) q xs.1.1))
          sides.0 sides.1 (same_sorts b two.0 l u two.1.0 there);
    }
