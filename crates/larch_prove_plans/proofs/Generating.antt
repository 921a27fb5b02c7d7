-- What has to be shown of clauses: one step of each loop.
use Rattle.std.proofs.Common.{◌≡◌, ◌<◌, ◌≤◌, ◌+◌, ◌==◌, ℕ, suc, Bool, true, false, cond, List, [], ◌∷◌, ◌++◌, map}
use Rattle.std.proofs.Common.{length, drop, get_or, Some, Option, refl, sym, ◌∙◌, ap, arith}
use Rattle.std.specs.Prelude.{None, if◌then◌else◌, option_map, position}
use Rattle.std.specs.List.{position_from, slice_get}
use Rattle.std.proofs.lemmas.Iterator.Adapters.{position_from-zero}
use Rattle.std.proofs.lemmas.List.{append-nil, append_assoc, drop_more, drop_all}
use Rattle.std.proofs.lemmas.Option.{slice_get-get_or}
use Rattle.std.proofs.lemmas.Slice.Eq.{bytes_eq-Decides}
use Rattle.larch_term.specs.Operator.{PlainOperator}
use Rattle.larch_term.specs.Tree.{Tree, Forest, forest_of, list_of, more, var}
use Rattle.larch_term.proofs.TreeLists.{forest_of-list_of}
use Rattle.larch_term.specs.declared.statement.Statement.{Statement}
use Rattle.larch_term.specs.declared.statement.Statement.TheVariants.{Equation, Generated, Partitioned}
use Rattle.larch_term.specs.declared.variable.Variable.{Variable}
use Rattle.larch_calculus.specs.Generation.{implied_by, place_name, variable_terms, variables_from}
use Rattle.larch_calculus.specs.Observation.{arguments_with}
use Rattle.larch_prove_meaning.specs.Plans.{generators, observers}
use Rattle.larch_prove_plans.specs.ClauseGoals.{as_term, generates, implied_if, partitions, with_conjunct}
use Rattle.larch_prove_plans.specs.ClauseGoals.{with_conjuncts}

pub implied_so : (ts : List Tree) (t : Tree) → implied_if (with_conjuncts None ts) t ≡ implied_by ts t
implied_so [] t = refl
implied_so (u ∷ us) t = refl

pub conjunct_joined : (p : Option Tree) (t : Tree) (ts : List Tree)
    → with_conjuncts (Some (with_conjunct p t)) ts ≡ with_conjuncts p (t ∷ ts)
conjunct_joined None t ts = refl
conjunct_joined (Some u) t ts = refl

pub nothing_joined : (p : Option Tree) → with_conjuncts p [] ≡ p
nothing_joined None = refl
nothing_joined (Some t) = refl

pub variables_as_terms : (vs : List Variable) → forest_of (map as_term vs) ≡ variable_terms vs
variables_as_terms [] = refl
variables_as_terms (v ∷ vs) = ap (λ ts. more (var v.name v.sort) ts) (variables_as_terms vs)

-- ---- clauses

next_number : (x : Statement) (ss : List Statement) (n i : ℕ) → n ≡ 1 + i → slice_get (x ∷ ss) n ≡ slice_get ss i
next_number x ss n i e = ap (slice_get (x ∷ ss)) (e ∙ (let q : 1 + i ≡ suc i = omega arith in q))

-- the first of several that passes a test
pub first_here : (p : Statement → Bool) (ss : List Statement) (n i : ℕ) (x : Statement) (o : Option ℕ) → i < length ss
    → x ≡ get_or ss i x → p x ≡ true → position_from p n (drop i ss) ≡ o → Some n ≡ o
first_here p ss n i x o lt q t h =
    sym (ap (position_from p n) (drop_more ss i x lt) ∙ ap (λ y. position_from p n (y ∷ drop (i + 1) ss)) (sym q)
    ∙ ap (λ b. cond b (Some n) (position_from p (n + 1) (drop (i + 1) ss))) t) ∙ h

-- none of them does
pub first_nowhere : (p : Statement → Bool) (ss : List Statement) (n i : ℕ) (o : Option ℕ) → length ss ≤ i
    → position_from p n (drop i ss) ≡ o → None ≡ o
first_nowhere p ss n i o le h = sym (ap (position_from p n) (drop_all i ss le)) ∙ h

-- it isn't the one before them all
pub first_behind : (p : Statement → Bool) (zero : Statement) (ss : List Statement) (o : Option ℕ) → p zero ≡ false
    → o ≡ position_from p 1 ss → o ≡ position p (zero ∷ ss)
first_behind p zero ss o f e =
    e ∙ sym (ap (λ b. cond b (Some 0) (position_from p 1 ss)) f) ∙ sym (position_from-zero p (zero ∷ ss))

-- a clause with the sort, and the generators by it
generated_here : (s : List ℕ) (x : Statement) (ss : List Statement) → generates s x ≡ true
    → (fs : List PlainOperator) × (x ≡ Generated s fs) × (generators s (x ∷ ss) ≡ Some fs)
generated_here s (Equation l r) ss g = absurd cc
generated_here s (Partitioned z os) ss g = absurd cc
generated_here s (Generated z gs) ss g =
    (gs, ap (λ y. Generated y gs) ((bytes_eq-Decides z s).0 g), ap (λ b. cond b (Some gs) (generators s ss)) g)

-- the number of a statement that says that a sort is generated
pub generated_at : (zero : Statement) (s : List ℕ) (ss : List Statement) (n i : ℕ) (x : Statement)
    → n ≡ 1 + i → i < length ss → x ≡ get_or ss i x → generates s x ≡ true
    → generators s (drop i ss) ≡ generators s ss
    → slice_get (zero ∷ ss) n ≡ option_map (Generated s) (generators s ss)
generated_at zero s ss n i x e lt q g h =
    let r = generated_here s x (drop (i + 1) ss) g in
    next_number zero ss n i e
    ∙ (slice_get-get_or ss i x lt ∙ ap Some (sym q ∙ r.1))
    ∙ ap (option_map (Generated s)) (sym r.2 ∙ ap (λ y. generators s (y ∷ drop (i + 1) ss)) q
    ∙ sym (ap (generators s) (drop_more ss i x lt)) ∙ h)

partitioned_here : (s : List ℕ) (x : Statement) (ss : List Statement) → partitions s x ≡ true
    → (os : List PlainOperator) × (x ≡ Partitioned s os) × (observers s (x ∷ ss) ≡ Some os)
partitioned_here s (Equation l r) ss g = absurd cc
partitioned_here s (Generated z gs) ss g = absurd cc
partitioned_here s (Partitioned z ps) ss g =
    (ps, ap (λ y. Partitioned y ps) ((bytes_eq-Decides z s).0 g), ap (λ b. cond b (Some ps) (observers s ss)) g)

pub partitioned_at : (zero : Statement) (s : List ℕ) (ss : List Statement) (n i : ℕ) (x : Statement)
    → n ≡ 1 + i → i < length ss → x ≡ get_or ss i x → partitions s x ≡ true
    → observers s (drop i ss) ≡ observers s ss
    → slice_get (zero ∷ ss) n ≡ option_map (Partitioned s) (observers s ss)
partitioned_at zero s ss n i x e lt q g h =
    let r = partitioned_here s x (drop (i + 1) ss) g in
    next_number zero ss n i e
    ∙ (slice_get-get_or ss i x lt ∙ ap Some (sym q ∙ r.1))
    ∙ ap (option_map (Partitioned s)) (sym r.2 ∙ ap (λ y. observers s (y ∷ drop (i + 1) ss)) q
    ∙ sym (ap (observers s) (drop_more ss i x lt)) ∙ h)

-- ---- variables and arguments by their places

after : (k : ℕ) → suc k ≡ k + 1
after k = omega arith

-- one variable more
pub variables_step : (done vs : List Variable) (v : Variable) (all : List Variable) (i : ℕ) (ss : List (List ℕ))
    → i < length ss → v ≡ record { name = place_name (i + 1); sort = get_or ss i [] } → vs ≡ done ++ v ∷ []
    → done ++ variables_from (i + 1) (drop i ss) ≡ all → vs ++ variables_from (i + 1 + 1) (drop (i + 1) ss) ≡ all
variables_step done vs v all i ss lt e q h =
    ap (λ ws. ws ++ variables_from (i + 1 + 1) (drop (i + 1) ss)) q
    ∙ (append_assoc done (v ∷ []) (variables_from (i + 1 + 1) (drop (i + 1) ss))
    ∙ (ap (λ w. done ++ w ∷ variables_from (i + 1 + 1) (drop (i + 1) ss)) e
    ∙ (ap (λ k. done ++ record { name = place_name (i + 1); sort = get_or ss i [] }
    ∷ variables_from k (drop (i + 1) ss)) (sym (after (i + 1)))
    ∙ (ap (λ zs. done ++ variables_from (i + 1) zs) (sym (drop_more ss i [] lt)) ∙ h))))

-- the argument at a place
abbrev argument_at : ℕ → ℕ → Tree → List ℕ → Tree
argument_at place k t s = if k == place then t else var (place_name k) s

-- one argument more
arguments_step : (done ts : List Tree) (u : Tree) (all : List Tree) (place i : ℕ) (t : Tree) (s : List ℕ)
    (ss : List (List ℕ)) → drop i ss ≡ s ∷ drop (i + 1) ss → u ≡ argument_at place (i + 1) t s → ts ≡ done ++ u ∷ []
    → done ++ list_of (arguments_with place_name place t (i + 1) (drop i ss)) ≡ all
    → ts ++ list_of (arguments_with place_name place t (i + 1 + 1) (drop (i + 1) ss)) ≡ all
arguments_step done ts u all place i t s ss d e q h =
    let rest = list_of (arguments_with place_name place t (i + 1 + 1) (drop (i + 1) ss)) in
    ap (λ ws. ws ++ rest) q
    ∙ (append_assoc done (u ∷ []) rest
    ∙ (ap (λ w. done ++ w ∷ rest) e
    ∙ (ap (λ k. done ++ argument_at place (i + 1) t s
    ∷ list_of (arguments_with place_name place t k (drop (i + 1) ss))) (sym (after (i + 1)))
    ∙ (ap (λ zs. done ++ list_of (arguments_with place_name place t (i + 1) zs)) (sym d) ∙ h))))

argument_here : (place k : ℕ) (t : Tree) (s : List ℕ) → k ≡ place → argument_at place k t s ≡ t
argument_here place k t s e =
    ap (λ b. cond b t (var (place_name k) s)) (let q : (k == place) ≡ true = grind (arith, e) in q)

argument_beside : (place k : ℕ) (t : Tree) (s : List ℕ) → (k ≡ place → ⊥)
    → argument_at place k t s ≡ var (place_name k) s
argument_beside place k t s e =
    ap (λ b. cond b t (var (place_name k) s)) (let q : (k == place) ≡ false = grind (arith, e) in q)

-- the term itself, or a variable
pub arguments_here : (done ts : List Tree) (u : Tree) (all : List Tree) (place i : ℕ) (t : Tree) (ss : List (List ℕ))
    → i < length ss → i + 1 ≡ place → u ≡ t → ts ≡ done ++ u ∷ []
    → done ++ list_of (arguments_with place_name place t (i + 1) (drop i ss)) ≡ all
    → ts ++ list_of (arguments_with place_name place t (i + 1 + 1) (drop (i + 1) ss)) ≡ all
arguments_here done ts u all place i t ss lt p e q h =
    arguments_step done ts u all place i t (get_or ss i []) ss (drop_more ss i [] lt)
    (e ∙ sym (argument_here place (i + 1) t (get_or ss i []) p)) q h

pub arguments_beside : (done ts : List Tree) (u : Tree) (all : List Tree) (place i : ℕ) (t : Tree) (s : List ℕ)
    (ss : List (List ℕ)) → i < length ss → (i + 1 ≡ place → ⊥) → s ≡ get_or ss i s → u ≡ var (place_name (i + 1)) s
    → ts ≡ done ++ u ∷ [] → done ++ list_of (arguments_with place_name place t (i + 1) (drop i ss)) ≡ all
    → ts ++ list_of (arguments_with place_name place t (i + 1 + 1) (drop (i + 1) ss)) ≡ all
arguments_beside done ts u all place i t s ss lt p g e q h =
    arguments_step done ts u all place i t s ss
    (drop_more ss i s lt ∙ ap (λ z. z ∷ drop (i + 1) ss) (sym g))
    (e ∙ sym (argument_beside place (i + 1) t s p)) q h

pub arguments_done : (ts : List Tree) (place i : ℕ) (t : Tree) (ss : List (List ℕ)) (all : Forest) → length ss ≤ i
    → ts ++ list_of (arguments_with place_name place t (i + 1) (drop i ss)) ≡ list_of all → forest_of ts ≡ all
arguments_done ts place i t ss all le h =
    ap forest_of (sym (append-nil ts)
    ∙ (ap (λ zs. ts ++ list_of (arguments_with place_name place t (i + 1) zs)) (sym (drop_all i ss le)) ∙ h))
    ∙ forest_of-list_of all
