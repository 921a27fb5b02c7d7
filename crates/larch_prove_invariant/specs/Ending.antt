-- The end of a method: what was left of its subgoals, and what its end takes of that.
use Rattle.std.specs.Prelude.{◌≡◌, ℕ, List, [], ◌∷◌, map, bytes_eq, find, Some}
use Rattle.std.specs.List.{AllZip}
use Rattle.larch_term.specs.BuiltIn.{is_built_in_as}
use Rattle.larch_term.specs.Operator.{PlainOperator}
use Rattle.larch_term.specs.Sorts.{sort_of}
use Rattle.larch_term.specs.Tree.{Tree}
use Rattle.larch_term.specs.Variable.{variables_of}
use Rattle.larch_term.specs.declared.built_in.BuiltIn.TheVariants.{Equal}
use Rattle.larch_term.specs.declared.statement.Statement.{Statement}
use Rattle.larch_term.specs.declared.statement.Statement.TheVariants.{Generated, Partitioned}
use Rattle.larch_term.specs.declared.statement.Theory.{Theory}
use Rattle.larch_term.specs.declared.variable.Variable.{Variable}
use Rattle.larch_calculus.specs.Formula.{implication}
use Rattle.larch_derive.specs.Predicates.{Grows}
use Rattle.larch_derive.specs.declared.builder.Builder.{Builder}
use Rattle.larch_derive.specs.declared.open_box.OpenBox.{OpenBox}
use Rattle.larch_methods.specs.ProveMeaningPlans.{Setting, closed_by, conjuncts, generators, observers, two_arguments}
use Rattle.larch_methods.specs.Clauses.{ByConstants, ByPredicate}
use Rattle.larch_methods.specs.Conjuncts.{AreTrue}
use Rattle.larch_methods.specs.Methods.{ByCases, ByContradiction, ByImplication, ByInduction, IsKnownFormula, IsStated}
use Rattle.larch_methods.specs.Observers.{ByObservers}
use Rattle.larch_prove_invariant.specs.Book.{AtLine, InBox, Kept, Left, Running, SupposingBox, own_boxes}
use Rattle.larch_prove_invariant.specs.Holding.{HasLeft, IsPlanned, Says, Through}
use Rattle.larch_prove_invariant.specs.Leaving.{Leaving}

-- the builder stands in a level's own boxes alone, where lines say of it what there is to say; the levels below are
-- held
pub record StandsAt (t : Theory) (s : Statement) (b : Builder) (k : Kept) (ks : List Kept) : Type 0 where
  pub leaving : Leaving t s b (own_boxes k.book) ks
  pub says : Says b k

-- all subgoals of a method were left, in order, inside of the box that they share
pub record HasAllLeft (a b : Builder) (goal : Tree) (r : Running) (lefts : List Left) : Type 0 where
  pub planned : IsPlanned a b goal r
  pub shared : Through a r.shared b
  pub left : AllZip (HasLeft b r.method) r.plan.subgoals lefts

-- the box that the subgoals share, and a builder just outside of it
pub record SharedBox (a : Builder) (shared : List SupposingBox) : Type 0 where
  pub outside : Builder
  pub grows : Grows a outside
  pub supposing : SupposingBox
  pub is_shared : shared ≡ supposing ∷ []

-- by cases of a formula: two boxes were left in the shared one
pub record EndsByCases (a b : Builder) (f goal : Tree) (shared : List SupposingBox) (lefts : List Left) : Type 0 where
  pub around : SharedBox a shared
  pub first : OpenBox
  pub second : OpenBox
  pub lefts_are : lefts ≡ InBox first ∷ InBox second ∷ []
  pub shown : ByCases around.outside b f goal around.supposing.box.number first.number second.number

-- of an implication: one box was left in the shared one
pub record EndsByImplication (a b : Builder) (goal : Tree) (shared : List SupposingBox) (lefts : List Left)
    : Type 0 where
  pub around : SharedBox a shared
  pub premise : Tree
  pub conclusion : Tree
  pub goal_is : goal ≡ implication premise conclusion
  pub only : OpenBox
  pub lefts_are : lefts ≡ InBox only ∷ []
  pub shown : ByImplication around.outside b premise conclusion
      (closed_by premise around.supposing.box.constants goal) around.supposing.box.number only.number

-- by contradiction: so it was
pub record EndsByContradiction (a b : Builder) (goal : Tree) (shared : List SupposingBox) (lefts : List Left)
    : Type 0 where
  pub around : SharedBox a shared
  pub only : OpenBox
  pub lefts_are : lefts ≡ InBox only ∷ []
  pub shown : ByContradiction around.outside b goal (closed_by goal around.supposing.box.constants goal)
      around.supposing.box.number only.number

-- of a conjunction: lines were left
pub record EndsByConjunction (b : Builder) (goal : Tree) (lefts : List Left) : Type 0 where
  pub lines : List ℕ
  pub lefts_are : lefts ≡ map AtLine lines
  pub known : IsKnownFormula b goal
  pub shown : AreTrue b (conjuncts goal) lines

-- by induction on a variable: a box was left for each generator
pub record EndsByInduction (b : Builder) (setting : Setting) (goal : Tree) (n : List ℕ) (lefts : List Left)
    : Type 0 where
  pub variable : Variable
  pub found : find (λ v. bytes_eq v.name n) (variables_of goal) ≡ Some variable
  pub operators : List PlainOperator
  pub generating : generators variable.sort setting.clauses ≡ Some operators
  pub boxes : List OpenBox
  pub lefts_are : lefts ≡ map InBox boxes
  pub shown : (clause : ℕ) → IsStated b clause (Generated variable.sort operators)
      → ByInduction b clause variable goal (map (λ x. x.number) boxes)

-- by partition: a box was left for each observation
pub record EndsByPartition (b : Builder) (setting : Setting) (goal : Tree) (lefts : List Left) : Type 0 where
  pub left : Tree
  pub right : Tree
  pub goal_is : two_arguments (λ f. is_built_in_as f Equal) goal ≡ Some (left, right)
  pub operators : List PlainOperator
  pub observing : observers (sort_of left) setting.clauses ≡ Some operators
  pub boxes : List OpenBox
  pub lefts_are : lefts ≡ map InBox boxes
  pub shown : (clause : ℕ) → IsStated b clause (Partitioned (sort_of left) operators)
      → ByObservers b clause left right boxes

-- in the box of a clause, the only one that is open, a line says what its end takes, that operators generate a sort
pub record EndsGeneration (t : Theory) (s : Statement) (b : Builder) (z : List ℕ) (fs : List PlainOperator)
    (entrance : List SupposingBox) (line : ℕ) : Type 0 where
  pub box : SupposingBox
  pub alone : entrance ≡ box ∷ []
  pub outside : Builder
  pub leaving : Leaving t s outside [] []
  pub shown : ByPredicate outside b z fs box.box.number line

-- or that they partition it
pub record EndsPartition (t : Theory) (s : Statement) (b : Builder) (z : List ℕ) (os : List PlainOperator)
    (entrance : List SupposingBox) (line : ℕ) : Type 0 where
  pub box : SupposingBox
  pub alone : entrance ≡ box ∷ []
  pub outside : Builder
  pub leaving : Leaving t s outside [] []
  pub shown : ByConstants outside b z os box.box.number line
