-- What is said of a subgoal that is shown.
use Rattle.std.specs.Prelude.{◌≡◌, ℕ, false, List, [], ◌∷◌, get_or, map, IfOk, OnOk, Result, refl}
use Rattle.std.proofs.Common.{ap, subst, sym, ◌∙◌}
use Rattle.larch_base.specs.declared.memory.Memory.{Memory}
use Rattle.larch_term.specs.Arguments.{has_two_arguments}
use Rattle.larch_term.specs.Operator.{PlainOperator}
use Rattle.larch_term.specs.Tree.{Tree, app, more, none, var}
use Rattle.larch_term.specs.Truth.{truth}
use Rattle.larch_term.specs.declared.statement.Statement.{Statement}
use Rattle.larch_term.specs.declared.statement.Statement.TheVariants.{Equation, Generated, Partitioned}
use Rattle.larch_calculus.specs.Formula.{formula}
use Rattle.larch_derive.specs.Predicates.{Extends, HasEquation}
use Rattle.larch_derive.specs.declared.builder.Builder.{Builder}
use Rattle.larch_prove_invariant.specs.RewriteMeaningSides.{Sides}
use Rattle.larch_prove_invariant.specs.ProveMeaningPlans.{Subgoal, holds}
use Rattle.larch_prove_invariant.specs.ProvePlansPlanning.{equate, method_of, subgoal_of}
use Rattle.larch_prove_invariant.specs.ProvePlansSubgoalsMethod as stated
use Rattle.larch_prove_invariant.specs.ProvePlansSubgoalsSubgoal as planned
use Rattle.larch_prove_invariant.specs.Holding.{said_of, sides_within}
use Rattle.larch_prove_boxes.specs.Saying.{MaySay}

-- ---- by method

-- what the call says where a method is so, and that it only adds lines
abbrev pub SaysLeft : Builder → Builder → planned.Subgoal → ℕ → ℕ → Result ℕ Memory → stated.Method → Type 0
SaysLeft a b s number line o m =
    IfOk o (λ n. (g : Subgoal) → s ≡ subgoal_of g → MaySay a (method_of m) g number → HasEquation a line g.goal truth
    → HasEquation b n (said_of (method_of m) g).left (said_of (method_of m) g).right)

abbrev pub ExtendsLeft : Builder → Builder → planned.Subgoal → ℕ → ℕ → Result ℕ Memory → stated.Method → Type 0
ExtendsLeft a b s number line o m =
    OnOk o ((g : Subgoal) → s ≡ subgoal_of g → MaySay a (method_of m) g number → HasEquation a line g.goal truth
    → Extends a b)

-- ---- the first of equations

-- what is stated first is no clause
pub not_generated : (ss : List Statement) (x : Statement) (hs : List Sides) (z : List ℕ) (fs : List PlainOperator)
    → x ≡ get_or ss 0 x → x ≡ Generated z fs → ss ≡ map equate hs → hs ≡ []
not_generated ss x [] z fs i e q = refl
not_generated ss x (h ∷ hs) z fs i e q =
    let k : Equation h.left h.right ≡ Generated z fs = sym (i ∙ ap (λ ts. get_or ts 0 x) q) ∙ e in cc

pub not_partitioned : (ss : List Statement) (x : Statement) (hs : List Sides) (z : List ℕ) (fs : List PlainOperator)
    → x ≡ get_or ss 0 x → x ≡ Partitioned z fs → ss ≡ map equate hs → hs ≡ []
not_partitioned ss x [] z fs i e q = refl
not_partitioned ss x (h ∷ hs) z fs i e q =
    let k : Equation h.left h.right ≡ Partitioned z fs = sym (i ∙ ap (λ ts. get_or ts 0 x) q) ∙ e in cc

-- ---- observations

not_two : (t : Tree) → has_two_arguments t ≡ false → sides_within t ≡ holds t
not_two (var n s) e = refl
not_two (app f none) e = refl
not_two (app f (more t none)) e = refl
not_two (app f (more t (more u none))) e = cc
not_two (app f (more t (more u (more v vs)))) e = refl

-- where the goal has two arguments, they are the sides
pub sides_two : (goal : Tree) (f : PlainOperator) (l r : Tree) → goal ≡ app f (more l (more r none))
    → sides_within goal ≡ record { left = l; right = r }
sides_two goal f l r e = ap sides_within e

pub is_formula : (goal l r : Tree) → sides_within goal ≡ record { left = l; right = r }
    → goal ≡ formula (sides_within goal).left (sides_within goal).right → goal ≡ formula l r
is_formula goal l r e q = q ∙ ap (λ (s : Sides). formula s.left s.right) e

pub two_said : (a b : Builder) (goal : Tree) (f : PlainOperator) (l r : Tree) (line n : ℕ)
    → goal ≡ app f (more l (more r none)) → (HasEquation a line (formula l r) truth → HasEquation b n l r)
    → goal ≡ formula (sides_within goal).left (sides_within goal).right → HasEquation a line goal truth
    → HasEquation b n (sides_within goal).left (sides_within goal).right
two_said a b goal f l r line n e h q s =
    let two = sides_two goal f l r e in
    subst (λ (w : Sides). HasEquation b n w.left w.right) (sym two)
    (h (subst (λ t. HasEquation a line t truth) (is_formula goal l r two q) s))

pub two_extends : (a b : Builder) (goal : Tree) (f : PlainOperator) (l r : Tree) (line : ℕ)
    → goal ≡ app f (more l (more r none)) → (HasEquation a line (formula l r) truth → Extends a b)
    → goal ≡ formula (sides_within goal).left (sides_within goal).right → HasEquation a line goal truth → Extends a b
two_extends a b goal f l r line e h q s =
    h (subst (λ t. HasEquation a line t truth) (is_formula goal l r (sides_two goal f l r e) q) s)

-- where it hasn't, it holds
pub other_said : (a : Builder) (goal : Tree) (line : ℕ) → has_two_arguments goal ≡ false
    → HasEquation a line goal truth → HasEquation a line (sides_within goal).left (sides_within goal).right
other_said a goal line e h =
    subst (λ (w : Sides). HasEquation a line w.left w.right) (sym (not_two goal e)) h

-- ---- the subgoal's goal, as the code has it

abbrev ItsFormula : Tree → Type 0
ItsFormula goal = goal ≡ formula (sides_within goal).left (sides_within goal).right

pub goal_said_as : (a b : Builder) (s : planned.Subgoal) (g : Subgoal) (line n : ℕ) → s ≡ subgoal_of g
    → g.goal ≡ formula (sides_within g.goal).left (sides_within g.goal).right → HasEquation a line g.goal truth
    → (s.goal ≡ formula (sides_within s.goal).left (sides_within s.goal).right → HasEquation a line s.goal truth
    → HasEquation b n (sides_within s.goal).left (sides_within s.goal).right)
    → HasEquation b n (sides_within g.goal).left (sides_within g.goal).right
goal_said_as a b s g line n e q h f =
    subst (λ (z : planned.Subgoal). ItsFormula z.goal → HasEquation a line z.goal truth
    → HasEquation b n (sides_within z.goal).left (sides_within z.goal).right) e f q h

pub goal_extends_as : (a b : Builder) (s : planned.Subgoal) (g : Subgoal) (line : ℕ) → s ≡ subgoal_of g
    → g.goal ≡ formula (sides_within g.goal).left (sides_within g.goal).right → HasEquation a line g.goal truth
    → (s.goal ≡ formula (sides_within s.goal).left (sides_within s.goal).right → HasEquation a line s.goal truth
    → Extends a b) → Extends a b
goal_extends_as a b s g line e q h f =
    subst (λ (z : planned.Subgoal). ItsFormula z.goal → HasEquation a line z.goal truth → Extends a b) e f q h
