-- The goal with which a duty opens, as a builder has it.
use Rattle.std.specs.Prelude.{◌≡◌, ◌≢◌, ℕ, List, [], ◌∷◌, ◌++◌, All, Contains, codes, map, None, refl}
use Rattle.std.specs.List.{flat_map}
use Rattle.std.proofs.Common.{ap, ap₂, subst, sym, ◌∙◌}
use Rattle.std.proofs.lemmas.List.{append-nil}
use Rattle.std.proofs.lemmas.List.Elements.{All-cons, All-head, All-nil}
use Rattle.larch_base.proofs.Lists.{pairs_head}
use Rattle.larch_calculus.specs.Formula.{apply_two, constant}
use Rattle.larch_calculus.specs.Theories.{AreNew}
use Rattle.larch_derive.specs.Words.{AreWordedOperators, IsWordedOperator, IsWordedStatement}
use Rattle.larch_derive.specs.declared.builder.Builder.{Builder}
use Rattle.larch_prove_opening.specs.ProveAddingEquation.{IsSaid, sides_in}
use Rattle.larch_prove_beginning.proofs.Saying.{equations_said, sides_all}
use Rattle.larch_prove_beginning.specs.Goal.{AreTaken, IsPosed, MayPose, generation_for, partition_for, goal_of}
use Rattle.larch_prove_beginning.specs.Goal.{posed_by}
use Rattle.larch_prove_beginning.specs.Hypotheses.{all_said}
use Rattle.larch_prove_beginning.specs.declared.goal.FirstGoal.{FirstGoal}
use Rattle.larch_prove_settling.specs.ProveBoxesLowest.{AreSaidBy, IsBegun}
use Rattle.larch_prove_opening.proofs.ProveInvariantBlockConstants.{shapes_made}
use Rattle.larch_prove_opening.specs.ProveInvariantBook.{Book, SupposingBox, made_in}
use Rattle.larch_prove_opening.specs.ProveInvariantHolding.{IsStart, Shape, shape_of, stated_shape}
use Rattle.larch_prove_meaning.proofs.NewConstants.{grown_new, none_are_new, predicate_new, two_new}
use Rattle.larch_prove_meaning.proofs.PartitionPlans.{formula_over}
use Rattle.larch_prove_meaning.specs.NewNames.{constant_named, free_name}
use Rattle.larch_prove_opening.specs.ProvePlansClauseGoals.{generation_goal, partition_goal, predicate_named}
use Rattle.larch_prove_opening.specs.ProvePlansSubgoalsSubgoal as stated
use Rattle.larch_sorts_meaning.specs.Scope.{Variables}
use Rattle.larch_term.specs.BuiltIn.{bool_sort}
use Rattle.larch_term.specs.Operator.{PlainOperator, name_bytes, plain}
use Rattle.larch_term.specs.Sorts.{sort_of}
use Rattle.larch_term.specs.Statement.{IsStatementOver}
use Rattle.larch_term.specs.Tree.{Forest, Tree, app}
use Rattle.larch_term.specs.declared.statement.Statement.{Statement}
use Rattle.larch_term.specs.declared.statement.Statement.TheVariants.{Equation, Generated, Partitioned}
use Rattle.larch_term.specs.declared.statement.Theory.{Theory}

-- ---- new names

names_taken : (t : Theory) (taken : List (List ℕ)) → AreTaken t.operators taken → (f : PlainOperator)
    → Contains (t.operators ++ []) f → Contains taken (name_bytes f.name)
names_taken t taken h f c = h f (subst (λ fs. Contains fs f) (append-nil t.operators) c)

predicate_is_new : (t : Theory) (taken : List (List ℕ)) (s : List ℕ) → AreTaken t.operators taken
    → AreNew t (predicate_named (free_name taken (codes "gen")) s ∷ [])
predicate_is_new t taken s h =
    let f = predicate_named (free_name taken (codes "gen")) s in
    grown_new t [] (f ∷ []) taken (names_taken t taken h) (predicate_new taken f refl) (none_are_new t)

constants_are_new : (t : Theory) (taken : List (List ℕ)) (s : List ℕ) (os : List PlainOperator)
    → AreTaken t.operators taken → AreNew t (partition_for taken s os).constants
constants_are_new t taken s os h =
    let n = free_name taken (codes "lc") in
    let c = constant_named n s in
    let d = constant_named (free_name (n ∷ taken) (codes "rc")) s in
    grown_new t [] (c ∷ d ∷ []) taken (names_taken t taken h) (two_new taken c d refl refl) (none_are_new t)

names_differ : (t : Theory) (n m s : List ℕ) → AreNew t (constant_named n s ∷ constant_named m s ∷ []) → n ≢ m
names_differ t n m s new e =
    let c = constant_named n s in
    let d = constant_named m s in
    All-head (λ (f : PlainOperator). c.name ≢ f.name) d []
    (pairs_head (λ (f g : PlainOperator). f.name ≢ g.name) c (d ∷ []) new.different) (ap plain e)

plain_same : (n m : List ℕ) → plain n ≡ plain m → n ≡ m
plain_same n m e = cc

-- ---- terms with the same parts

head_same : (f g : PlainOperator) (ts us : Forest) → app f ts ≡ app g us → f ≡ g
head_same f g ts us e = cc

first_same : (p q c d e f : PlainOperator)
    → apply_two p (constant c) (constant d) ≡ apply_two q (constant e) (constant f) → c ≡ e
first_same p q c d e f h = cc

second_same : (p q c d e f : PlainOperator)
    → apply_two p (constant c) (constant d) ≡ apply_two q (constant e) (constant f) → d ≡ f
second_same p q c d e f h = cc

-- the goals of clauses name what is new
generation_same : (first : Tree) (x n s : List ℕ) (fs : List PlainOperator) → first ≡ (generation_goal x s fs).goal
    → first ≡ (generation_goal n s fs).goal → x ≡ n
generation_same first x n s fs e d =
    plain_same x n (ap (λ (o : PlainOperator). o.name)
    (head_same (predicate_named x s) (predicate_named n s) _ _ (sym e ∙ d)))

partition_same : (first : Tree) (x y n m s : List ℕ) (os : List PlainOperator)
    → first ≡ (partition_goal x y s os).goal → first ≡ (partition_goal n m s os).goal → (x ≡ n) × (y ≡ m)
partition_same first x y n m s os e d = (
  plain_same x n (ap (λ (o : PlainOperator). o.name)
      (first_same _ _ (constant_named x s) (constant_named y s) (constant_named n s) (constant_named m s) (sym e ∙ d))),
  plain_same y m (ap (λ (o : PlainOperator). o.name)
      (second_same _ _ (constant_named x s) (constant_named y s) (constant_named n s) (constant_named m s)
      (sym e ∙ d))),
)

-- ---- the box of a clause

shapes_supposed : (xs : List SupposingBox)
    → flat_map (λ (x : SupposingBox). x.hypotheses) xs ≡ flat_map (λ (h : Shape). h.hypotheses) (map shape_of xs)
shapes_supposed [] = refl
shapes_supposed (x ∷ xs) = ap (λ hs. x.hypotheses ++ hs) (shapes_supposed xs)

-- what the box makes, and what is supposed in it
box_makes : (xs : List SupposingBox) (g h : stated.Subgoal) → map shape_of xs ≡ stated_shape h ∷ [] → h ≡ g
    → made_in xs ≡ g.constants
box_makes xs g h e d =
    shapes_made xs ∙ (ap (flat_map (λ (y : Shape). y.constants)) e
    ∙ (append-nil h.constants ∙ ap (λ (y : stated.Subgoal). y.constants) d))

box_supposes : (xs : List SupposingBox) (g h : stated.Subgoal) → map shape_of xs ≡ stated_shape h ∷ [] → h ≡ g
    → flat_map (λ (x : SupposingBox). x.hypotheses) xs ≡ g.hypotheses
box_supposes xs g h e d =
    shapes_supposed xs ∙ (ap (flat_map (λ (y : Shape). y.hypotheses)) e
    ∙ (append-nil h.hypotheses ∙ ap (λ (y : stated.Subgoal). y.hypotheses) d))

-- a level that begins so
abbrev begun_book : Tree → List SupposingBox → Book
begun_book first boxes = record {
  lines = [];
  absurd = None;
  first = first;
  way = 0;
  entrance = boxes;
  extras = [];
  running = None;
}

-- ---- clauses

-- what has to be shown of a clause is posed where it is begun so
clause_posed : (t : Theory) (a b : Builder) (s : Statement) (g : stated.Subgoal) (scope : Variables) (f : FirstGoal)
    (w : IsBegun a b s f.beginning) (h : stated.Subgoal) → map shape_of w.boxes ≡ stated_shape h ∷ [] → h ≡ g
    → f.beginning.first ≡ g.goal → sort_of g.goal ≡ bool_sort
    → f.hypotheses.items ≡ all_said g.hypotheses f.beginning.hypotheses → f.constants ≡ g.constants → f.scope ≡ scope
    → AreNew t g.constants → AreWordedOperators g.constants → IsPosed t a b s (posed_by g scope) f
clause_posed t a b s g scope f w h shapes e first sort said constants scope_is new words =
    let lines = subst (λ hs. AreSaidBy b hs f.beginning.hypotheses) (box_supposes w.boxes g h shapes e)
    w.hypotheses in
    record {
      begun = w;
      first = first;
      formula = sort;
      supposed = ap (map sides_in) said ∙ sides_all b g.hypotheses f.beginning.hypotheses lines;
      said = subst (All (IsSaid b)) (sym said) (equations_said b g.hypotheses f.beginning.hypotheses lines);
      constants = constants;
      scope = scope_is;
      made = box_makes w.boxes g h shapes e;
      new = new;
      words = words;
    }

pub generation_posed : (t : Theory) (a b : Builder) (taken : List (List ℕ)) (s : List ℕ) (fs : List PlainOperator)
    (scope : Variables) (g : stated.Subgoal) (f : FirstGoal) → g ≡ generation_for taken s fs
    → MayPose t a (Generated s fs) taken → f.beginning.first ≡ g.goal
    → ((u : Theory) (n z : List ℕ) (gs : List PlainOperator) → IsStart u a → g ≡ generation_goal n z gs
    → AreNew u g.constants → IsStatementOver u.operators (Generated z gs) → IsWordedStatement (Generated z gs)
    → IsBegun a b (Generated z gs) f.beginning)
    → f.hypotheses.items ≡ all_said g.hypotheses f.beginning.hypotheses → f.constants ≡ g.constants → f.scope ≡ scope
    → IsPosed t a b (Generated s fs) (goal_of (Generated s fs) taken scope) f
generation_posed t a b taken s fs scope g f e may first begins said constants scope_is =
    let n = free_name taken (codes "gen") in
    let new = predicate_is_new t taken s may.taken_are in
    let w = begins t n s fs may.start e (subst (λ (h : stated.Subgoal). AreNew t h.constants) (sym e) new) may.sorted
    may.written in
    let there = first ∙ ap (λ (h : stated.Subgoal). h.goal) e in
    let k = w.begins (begun_book f.beginning.first w.boxes) refl refl in
    let same = generation_same f.beginning.first k.0 n s fs k.1.first there in
    clause_posed t a b (Generated s fs) (generation_for taken s fs) scope f w (generation_goal k.0 s fs) k.1.entrance
    (ap (λ m. generation_goal m s fs) same) there refl
    (said ∙ ap (λ (h : stated.Subgoal). all_said h.hypotheses f.beginning.hypotheses) e)
    (constants ∙ ap (λ (h : stated.Subgoal). h.constants) e) scope_is new
    (All-cons IsWordedOperator (predicate_named n s) [] ((may.written.0, tt), refl) (All-nil IsWordedOperator))

pub partition_posed : (t : Theory) (a b : Builder) (taken : List (List ℕ)) (s : List ℕ) (os : List PlainOperator)
    (scope : Variables) (g : stated.Subgoal) (f : FirstGoal) → g ≡ partition_for taken s os
    → MayPose t a (Partitioned s os) taken → f.beginning.first ≡ g.goal
    → ((u : Theory) (n p z : List ℕ) (gs : List PlainOperator) → IsStart u a → g ≡ partition_goal n p z gs → n ≢ p
    → AreNew u g.constants → IsStatementOver u.operators (Partitioned z gs) → IsWordedStatement (Partitioned z gs)
    → IsBegun a b (Partitioned z gs) f.beginning)
    → f.hypotheses.items ≡ all_said g.hypotheses f.beginning.hypotheses → f.constants ≡ g.constants → f.scope ≡ scope
    → IsPosed t a b (Partitioned s os) (goal_of (Partitioned s os) taken scope) f
partition_posed t a b taken s os scope g f e may first begins said constants scope_is =
    let n = free_name taken (codes "lc") in
    let m = free_name (n ∷ taken) (codes "rc") in
    let c = constant_named n s in
    let d = constant_named m s in
    let new = constants_are_new t taken s os may.taken_are in
    let w = begins t n m s os may.start e (names_differ t n m s new)
    (subst (λ (h : stated.Subgoal). AreNew t h.constants) (sym e) new) may.sorted may.written in
    let there = first ∙ ap (λ (h : stated.Subgoal). h.goal) e in
    let k = w.begins (begun_book f.beginning.first w.boxes) refl refl in
    let same = partition_same f.beginning.first k.0 k.1.0 n m s os k.1.1.1.first there in
    clause_posed t a b (Partitioned s os) (partition_for taken s os) scope f w (partition_goal k.0 k.1.0 s os)
    k.1.1.1.entrance (ap₂ (λ x y. partition_goal x y s os) same.0 same.1) there refl
    (said ∙ ap (λ (h : stated.Subgoal). all_said h.hypotheses f.beginning.hypotheses) e)
    (constants ∙ ap (λ (h : stated.Subgoal). h.constants) e) scope_is new
    (All-cons IsWordedOperator c (d ∷ []) (tt, may.written.0)
    (All-cons IsWordedOperator d [] (tt, may.written.0) (All-nil IsWordedOperator)))

-- ---- equations

pub equation_posed : (t : Theory) (a b : Builder) (taken : List (List ℕ)) (l r : Tree) (scope : Variables)
    (f : FirstGoal) → MayPose t a (Equation l r) taken
    → ((u : Theory) → IsStart u a → IsStatementOver u.operators (Equation l r) → IsWordedStatement (Equation l r)
    → IsBegun a b (Equation l r) f.beginning)
    → f.hypotheses.items ≡ [] → f.constants ≡ [] → f.scope ≡ (goal_of (Equation l r) taken scope).scope
    → IsPosed t a b (Equation l r) (goal_of (Equation l r) taken scope) f
equation_posed t a b taken l r scope f may begins none constants scope_is =
    let w = begins t may.start may.sorted may.written in
    let k = w.begins (begun_book f.beginning.first w.boxes) refl refl in
    record {
      begun = w;
      first = k.0;
      formula = (formula_over t.operators l r may.sorted.0 may.sorted.1 may.sorted.2).1;
      supposed = ap (map sides_in) none;
      said = subst (All (IsSaid b)) (sym none) (All-nil (IsSaid b));
      constants = constants;
      scope = scope_is;
      made = ap made_in k.1;
      new = none_are_new t;
      words = All-nil IsWordedOperator;
    }

-- ---- statements

-- a statement that is one of some form
pub posed_as : (t : Theory) (a b : Builder) (s u : Statement) (taken names : List (List ℕ)) (scope : Variables)
    (f : FirstGoal) → s ≡ u → names ≡ taken → (MayPose t a u names → IsPosed t a b u (goal_of u names scope) f)
    → MayPose t a s taken → IsPosed t a b s (goal_of s taken scope) f
posed_as t a b s u taken names scope f e d h m =
    subst (λ x. IsPosed t a b x (goal_of x taken scope) f) (sym e)
    (subst (λ ns. IsPosed t a b u (goal_of u ns scope) f) d
    (h (subst (λ ns. MayPose t a u ns) (sym d) (subst (λ x. MayPose t a x taken) e m))))
