-- What a builder of certificates holds of a proof's levels while commands are carried out.
use Rattle.std.specs.Prelude.{◌≡◌, ◌≢◌, ◌⊎◌, ℕ, IsTrue, true, false, List, [], ◌∷◌, ◌++◌, map, All, AllPairs, Contains}
use Rattle.std.specs.Prelude.{Option, None, Some, Ok}
use Rattle.std.specs.List.{AllZip, flat_map}
use Rattle.larch_term.specs.Operator.{PlainOperator}
use Rattle.larch_term.specs.Sorts.{IsTermOver}
use Rattle.larch_term.specs.Statement.{statement_zero}
use Rattle.larch_term.specs.Tree.{Tree, var, app, none, more}
use Rattle.larch_term.specs.Truth.{truth}
use Rattle.larch_term.specs.declared.statement.Statement.{Statement}
use Rattle.larch_term.specs.declared.statement.Statement.TheVariants.{Equation, Generated, Partitioned}
use Rattle.larch_term.specs.declared.statement.Theory.{Theory}
use Rattle.larch_calculus.specs.Formula.{falsity, formula, implication}
use Rattle.larch_calculus.specs.Theories.{AreNew, with_statements}
use Rattle.larch_derive.specs.Builder.{boxes_in, lines_in, theory_in}
use Rattle.larch_derive.specs.Finished.{IsFinished}
use Rattle.larch_derive.specs.Predicates.{Grows, HasEquation, HasNoBadLine}
use Rattle.larch_derive.specs.Words.{AreWordedOperators, IsWordedTerm}
use Rattle.larch_derive.specs.declared.builder.Builder.{Builder}
use Rattle.larch_methods.specs.DeriveBoxesBoxes.{AreOwnConstants, IsOpen, Opens}
use Rattle.larch_methods.specs.RewriteMeaningSides.{Sides}
use Rattle.larch_methods.specs.ProveMeaningFacts.{Fact}
use Rattle.larch_methods.specs.ProveMeaningLevels.{Level, OfDuty, OfProof, OfSubgoal, Proof, Purpose}
use Rattle.larch_methods.specs.ProveMeaningPlans.{Cases, Conjunction, Contradiction, Implication, Induction, Method}
use Rattle.larch_methods.specs.ProveMeaningPlans.{IsPlanOver, Partition, Plan, Subgoal, holds, plan}
use Rattle.larch_methods.specs.ProvePlansClauseGoals.{generation_goal, partition_goal}
use Rattle.larch_methods.specs.ProvePlansPlanning.{equate}
use Rattle.larch_methods.specs.ProvePlansSubgoalsSubgoal as stated
use Rattle.larch_methods.specs.Methods.{IsKnownFormula}
use Rattle.larch_methods.specs.Opening.{HasOtherConstants, HasOwnConstants, IsShownIn}
use Rattle.larch_prove_invariant.specs.Book.{AtLine, Book, InBox, Kept, Left, Running, SupposingBox, all_boxes}
use Rattle.larch_prove_invariant.specs.Book.{levels_of, made_first, made_in, own_boxes, shared_boxes}

-- ---- boxes

-- From one builder to another boxes are opened in turn, and each of them is open still: what else was opened between is
-- closed again.
abbrev pub Through : Builder → List SupposingBox → Builder → Type 0
Through a [] b = Grows a b
Through a (x ∷ xs) b =
    (c : Builder) × ((d : Builder) × (Grows a c × (Opens c d x.box x.hypotheses × Through d xs b)))

-- the operators that a box makes, and what is supposed in it
pub record Shape : Type 0 where
  pub constants : List PlainOperator
  pub hypotheses : List Statement

abbrev pub shape_of : SupposingBox → Shape
shape_of x = record { constants = x.box.constants; hypotheses = x.hypotheses }

-- what a subgoal's box makes and supposes
abbrev pub own_shape : Subgoal → Shape
own_shape s = record { constants = s.constants; hypotheses = map equate s.hypotheses }

-- the boxes in which a method proves a subgoal: one, but for a conjunct none
abbrev pub entrances : Method → Subgoal → List Shape
entrances (Cases f) s = own_shape s ∷ []
entrances Implication s = own_shape s ∷ []
entrances Conjunction s = []
entrances Contradiction s = own_shape s ∷ []
entrances (Induction n) s = own_shape s ∷ []
entrances Partition s = own_shape s ∷ []

-- a box that makes constants and supposes nothing
abbrev pub making : List PlainOperator → Shape
making cs = record { constants = cs; hypotheses = [] }

-- the boxes around all subgoals of a method: three methods have one, if only for no constants
abbrev pub shared_shapes : Method → Plan → List Shape
shared_shapes (Cases f) made = making made.constants ∷ []
shared_shapes Implication made = making made.constants ∷ []
shared_shapes Conjunction made = []
shared_shapes Contradiction made = making made.constants ∷ []
shared_shapes (Induction n) made = []
shared_shapes Partition made = []

-- the box is open, and has these hypotheses
abbrev pub IsThere : Builder → SupposingBox → Type 0
IsThere b x = IsOpen b x.box x.hypotheses

-- the operators are different constants, and none of them stands for one of an open box
abbrev pub AreOwn : Builder → List PlainOperator → Type 0
AreOwn b cs = AreOwnConstants (boxes_in b) (record { number = 0; constants = cs })

-- all constants of the boxes that are open
abbrev pub open_constants : Builder → List PlainOperator
open_constants b = flat_map (λ x. x.constants) (boxes_in b)

-- ---- methods

-- the left side of the first of equations
abbrev pub premise : List Sides → Tree
premise [] = truth
premise (e ∷ es) = e.left

-- the sides of an equality or equivalence
abbrev pub sides_within : Tree → Sides
sides_within (var n s) = holds (var n s)
sides_within (app f none) = holds (app f none)
sides_within (app f (more t none)) = holds (app f (more t none))
sides_within (app f (more t (more u none))) = record { left = t; right = u }
sides_within (app f (more t (more u (more v vs)))) = holds (app f (more t (more u (more v vs))))

-- what must be said of a subgoal for the method's rule: that its goal is true; of an implication, that the whole is; of
-- a contradiction, that the supposed goal is; of an observation, its equation
abbrev pub said_of : Method → Subgoal → Sides
said_of (Cases f) s = holds s.goal
said_of Implication s = holds (implication (premise s.hypotheses) s.goal)
said_of Conjunction s = holds s.goal
said_of Contradiction s = holds (premise s.hypotheses)
said_of (Induction n) s = holds s.goal
said_of Partition s = sides_within s.goal

-- what is there of a subgoal that was left: in its closed box, or where it has none in a line, what must be said of it
abbrev pub HasLeft : Builder → Method → Subgoal → Left → Type 0
HasLeft b method s (InBox x) = (entrances method s ≡ own_shape s ∷ []) × IsShownIn b s (said_of method s) x
HasLeft b method s (AtLine n) =
    (entrances method s ≡ []) × HasEquation b n (said_of method s).left (said_of method s).right

-- what a method is carried out with can be written
abbrev pub IsKnownFor : Builder → Method → Type 0
IsKnownFor b (Cases f) = IsKnownFormula b f
IsKnownFor b Implication = Unit {0}
IsKnownFor b Conjunction = Unit {0}
IsKnownFor b Contradiction = Unit {0}
IsKnownFor b (Induction n) = Unit {0}
IsKnownFor b Partition = Unit {0}

-- A method has its plan for a goal. Outside of the box that its subgoals share, the goal and what the method is carried
-- out with can be written, its clauses are those of the theory, and the shared constants stand for none of an open box;
-- the subgoals have operators of the theory, constants that are open there, the shared ones and their own. Inside, the
-- subgoals' own constants don't stand for any of an open box either; and they are neither the theory's nor built in.
pub record IsPlanned (a b : Builder) (goal : Tree) (r : Running) : Type 0 where
  pub planned : plan r.setting goal r.method ≡ Ok r.plan
  pub clauses : r.setting.clauses ≡ statement_zero ∷ (theory_in a).statements
  pub goal_known : IsKnownFormula a goal
  pub method_known : IsKnownFor a r.method
  pub shared : map shape_of r.shared ≡ shared_shapes r.method r.plan
  pub apart : AreOwn a r.plan.constants
  pub over : IsPlanOver ((theory_in a).operators ++ open_constants a) r.plan
  pub own : HasOwnConstants b r.plan
  pub others : HasOtherConstants b r.plan

-- A method runs on a level: it has its plan for the level's goal, and the subgoals are in order those that were left,
-- the one that is open, and those that wait.
pub record Runs (a b : Builder) (level : Level) (r : Running) : Type 0 where
  pub planned : IsPlanned a b level.goal r
  pub order : r.plan.subgoals ≡ map (λ d. d.subgoal) r.done ++ r.now ∷ level.remaining
  pub done : All (λ d. HasLeft b r.method d.subgoal d.left) r.done

-- where no method runs, no subgoal waits
abbrev pub RunsIfAny : Builder → Builder → Level → Option Running → Type 0
RunsIfAny a b level None = level.remaining ≡ []
RunsIfAny a b level (Some r) = Runs a b level r

-- ---- levels

-- each fact stands in a line
abbrev pub HasFacts : Builder → List Fact → List ℕ → Type 0
HasFacts b facts lines = AllZip (λ fact n. HasEquation b n fact.sides.left fact.sides.right) facts lines

-- a line says that true is false
abbrev pub HasAbsurd : Builder → Option ℕ → Type 0
HasAbsurd b None = ⊥
HasAbsurd b (Some n) = HasEquation b n truth falsity

-- lines say the facts of a level, that true is false where these contradict, and how its first goal became this one
pub record Says (b : Builder) (k : Kept) : Type 0 where
  pub facts : HasFacts b k.level.facts.rules k.book.lines
  pub absurd : IsTrue k.level.facts.contradictory → HasAbsurd b k.book.absurd
  pub way : HasEquation b k.book.way k.book.first k.level.goal

-- Where a level was entered from a builder, its first goal can be written outside of the level's extra boxes: it is in
-- words, over the theory's operators, the constants that were open, and those of the box by which it was entered.
pub record HasFirst (a : Builder) (k : Book) : Type 0 where
  pub over : IsTermOver ((theory_in a).operators ++ (open_constants a ++ made_in k.entrance)) k.first
  pub words : IsWordedTerm k.first

-- What is held of a level that was entered from a builder. Outside of the box of its method, but in its own boxes,
-- lines say of it what there is to say; since then that box was opened, if a method runs that has one.
pub record HoldsOf (a b : Builder) (k : Kept) : Type 0 where
  pub first : HasFirst a k.book
  pub outside : Builder
  pub boxes : Through a (own_boxes k.book) outside
  pub says : Says outside k
  pub shared : Through outside (shared_boxes k.book.running) b
  pub running : RunsIfAny outside b k.level k.book.running

-- a level was entered for a subgoal of the method that runs on the one below: in the subgoal's box, if it has one
pub record EntersSubgoal (r : Running) (k : Book) : Type 0 where
  pub first : k.first ≡ r.now.goal
  pub entrance : map shape_of k.entrance ≡ entrances r.method r.now

abbrev pub IsForSubgoal : Option Running → Book → Type 0
IsForSubgoal None k = ⊥
IsForSubgoal (Some r) k = EntersSubgoal r k

-- or for a formula that a command proves: without a box, where no method runs below
pub record EntersProof (f : Tree) (running : Option Running) (k : Book) : Type 0 where
  pub first : k.first ≡ f
  pub entrance : k.entrance ≡ []
  pub idle : running ≡ None

-- how a level was entered from the one below, on which this method runs, if one does
abbrev pub Enters : Purpose → Option Running → Book → Type 0
Enters OfDuty below k = ⊥
Enters OfSubgoal below k = IsForSubgoal below k
Enters (OfProof f) below k = EntersProof f below k

-- the box of a clause: it makes what is new in it, and supposes the hypotheses of its rule
abbrev pub stated_shape : stated.Subgoal → Shape
stated_shape s = record { constants = s.constants; hypotheses = s.hypotheses }

-- the level has a clause's goal as its first, and was entered in its box
pub record EntersClause (s : stated.Subgoal) (k : Book) : Type 0 where
  pub first : k.first ≡ s.goal
  pub entrance : map shape_of k.entrance ≡ stated_shape s ∷ []

-- how the lowest level was entered for what is to be proved: a clause is shown in a box
abbrev pub Begins : Statement → Book → Type 0
Begins (Equation l r) k = (k.first ≡ formula l r) × (k.entrance ≡ [])
Begins (Generated s fs) k = (n : List ℕ) × EntersClause (generation_goal n s fs) k
Begins (Partitioned s os) k =
    (n : List ℕ) × ((m : List ℕ) × ((n ≢ m) × EntersClause (partition_goal n m s os) k))

-- how a level was entered upon those below
abbrev pub IsEntered : Statement → List Kept → Kept → Type 0
IsEntered s [] k = (k.level.purpose ≡ OfDuty) × Begins s k.book
IsEntered s (j ∷ ks) k = Enters k.level.purpose j.book.running k.book

-- the builder is one of the theory, no line of it is bad, and no box is open
pub record IsStart (t : Theory) (b : Builder) : Type 0 where
  pub theory : theory_in b ≡ t
  pub boxes : boxes_in b ≡ []
  pub stands : HasNoBadLine b

-- What a builder holds of levels, the current one first. Of those below an earlier builder held it, before the boxes of
-- the current one were opened; so a command touches the current level alone, and when its boxes are closed, all is held
-- again of those below. Where there is no level, no box is open.
abbrev pub Holds : Theory → Statement → Builder → List Kept → Type 0
Holds t s b [] = IsStart t b
Holds t s b (k ∷ ks) = (a : Builder) × (Holds t s a ks × (IsEntered s ks k × HoldsOf a b k))

-- ---- proofs

-- the theory with what the lemmas state behind its own statements
abbrev pub theory_for : Proof → Theory
theory_for p = with_statements p.theory (map (λ lemma. lemma.statement) p.lemmas)

-- no method runs on the current level, which is the first
abbrev pub IsIdle : List Kept → Type 0
IsIdle [] = ⊥
IsIdle (k ∷ ks) = k.book.running ≡ None

-- The constants of a block: those that the boxes of levels make are among them, each in one place; all have new names,
-- their sorts are words, and they are constants, but for a predicate for which the lowest level was entered.
pub record HasConstants (t : Theory) (cs : List PlainOperator) (ks : List Kept) : Type 0 where
  pub among : All (Contains cs) (made_in (all_boxes ks))
  pub once : AllPairs (λ f g. f ≢ g) (made_in (all_boxes ks))
  pub plain : All (λ f. (f.domain ≡ []) ⊎ Contains (made_first ks) f) cs
  pub new : AreNew t cs
  pub words : AreWordedOperators cs

-- a builder holds levels of a proof of a statement whose block has made these constants: of each what is kept of it
pub record HoldsLevels (t : Theory) (s : Statement) (b : Builder) (cs : List PlainOperator) (levels : List Level)
    (ks : List Kept) : Type 0 where
  pub levels_are : levels_of ks ≡ levels
  pub held : Holds t s b ks
  pub constants : HasConstants t cs ks

-- a builder holds a proof that isn't done, between commands: no method runs on its current level
pub record HoldsProof (s : Statement) (b : Builder) (p : Proof) (ks : List Kept) : Type 0 where
  pub levels : HoldsLevels (theory_for p) s b p.constants (p.current ∷ p.below) ks
  pub idle : IsIdle ks

-- behind each command: a builder holds the proof, or where that is done its lines are a certificate of the statement
-- that can be handed over
abbrev pub HoldsState : Statement → Builder → Proof → List Kept → Type 0
HoldsState s b p ks = elim p.is_proved [
  | true ↦ IsFinished (theory_for p) s (lines_in b)
  | false ↦ HoldsProof s b p ks
]
