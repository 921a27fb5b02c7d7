-- The tests of operators, terms and statements tell exactly what is equal.
use Rattle.std.proofs.Common.{◌≡◌, List, Bool, false, ◌&&◌, bytes_eq, IsTrue, ◌↔◌, refl, ap₂}
use Rattle.std.specs.Bool.{Decides}
use Rattle.std.proofs.lemmas.Bool.Decides.{Decides-and, Decides-like, same_from_decides}
use Rattle.std.proofs.lemmas.Slice.Eq.{bytes_eq-Decides, slice_eq-Decides}
use Rattle.std.specs.Cmp.Lexicographic.{pointwise}
use Rattle.larch_term.specs.Operator.{PlainOperator}
pub use Rattle.larch_term.specs.OperatorKey.{name_Decides, sorts_Decides, operator_Decides}
use Rattle.larch_term.specs.Tree.{Tree, Forest, var, app, none, more}
use Rattle.larch_term.specs.declared.statement.Statement.{Statement}
use Rattle.larch_term.specs.declared.statement.Statement.TheVariants.{Equation, Generated, Partitioned}
use Rattle.larch_term.specs.Equality.{same_operator, same_tree, same_forest, same_statement}

-- a test that is never passed
never : {R : Type 0} → (R → ⊥) → Decides false R
never f = (λ e. cc, λ r. absurd (f r))

mutual
  unfolding same_tree same_forest

  pub tree_Decides : (t u : Tree) → Decides (same_tree t u) (t ≡ u)
  tree_Decides (var n s) (var m r) =
      Decides-like (bytes_eq n m && bytes_eq s r) (λ h. ap₂ var h.0 h.1) (λ e. (cc, cc))
      (Decides-and (bytes_eq n m) (bytes_eq s r) (bytes_eq-Decides n m) (bytes_eq-Decides s r))
  tree_Decides (var n s) (app g us) = never (λ e. cc)
  tree_Decides (app f ts) (var m r) = never (λ e. cc)
  tree_Decides (app f ts) (app g us) =
      Decides-like (same_operator f g && same_forest ts us) (λ h. ap₂ app h.0 h.1) (λ e. (cc, cc))
      (Decides-and (same_operator f g) (same_forest ts us) (operator_Decides f g) (forest_Decides ts us))

  pub forest_Decides : (ts us : Forest) → Decides (same_forest ts us) (ts ≡ us)
  forest_Decides none none = (λ _. refl, λ _. refl)
  forest_Decides none (more u us) = never (λ e. cc)
  forest_Decides (more t ts) none = never (λ e. cc)
  forest_Decides (more t ts) (more u us) =
      Decides-like (same_tree t u && same_forest ts us) (λ h. ap₂ more h.0 h.1) (λ e. (cc, cc))
      (Decides-and (same_tree t u) (same_forest ts us) (tree_Decides t u) (forest_Decides ts us))

operators_Decides : (fs gs : List PlainOperator) → Decides (pointwise same_operator fs gs) (fs ≡ gs)
operators_Decides fs gs = slice_eq-Decides operator_Decides fs gs (pointwise same_operator fs gs) refl

pub statement_Decides : (s z : Statement) → Decides (same_statement s z) (s ≡ z)
unfolding same_statement
statement_Decides (Equation l r) (Equation k q) =
    Decides-like (same_tree l k && same_tree r q) (λ h. ap₂ Equation h.0 h.1) (λ e. (cc, cc))
    (Decides-and (same_tree l k) (same_tree r q) (tree_Decides l k) (tree_Decides r q))
statement_Decides (Equation l r) (Generated z gs) = never (λ e. cc)
statement_Decides (Equation l r) (Partitioned z gs) = never (λ e. cc)
statement_Decides (Generated s fs) (Equation k q) = never (λ e. cc)
statement_Decides (Generated s fs) (Generated z gs) =
    Decides-like (bytes_eq s z && pointwise same_operator fs gs) (λ h. ap₂ Generated h.0 h.1) (λ e. (cc, cc))
    (Decides-and (bytes_eq s z) (pointwise same_operator fs gs) (bytes_eq-Decides s z) (operators_Decides fs gs))
statement_Decides (Generated s fs) (Partitioned z gs) = never (λ e. cc)
statement_Decides (Partitioned s fs) (Equation k q) = never (λ e. cc)
statement_Decides (Partitioned s fs) (Generated z gs) = never (λ e. cc)
statement_Decides (Partitioned s fs) (Partitioned z gs) =
    Decides-like (bytes_eq s z && pointwise same_operator fs gs) (λ h. ap₂ Partitioned h.0 h.1) (λ e. (cc, cc))
    (Decides-and (bytes_eq s z) (pointwise same_operator fs gs) (bytes_eq-Decides s z) (operators_Decides fs gs))

pub trees_told : (t u : Tree) (r : Bool) → IsTrue r ↔ (t ≡ u) → r ≡ same_tree t u
trees_told t u r h = same_from_decides r (same_tree t u) h (tree_Decides t u)

pub operators_told : (f g : PlainOperator) (r : Bool) → IsTrue r ↔ (f ≡ g) → r ≡ same_operator f g
operators_told f g r h = same_from_decides r (same_operator f g) h (operator_Decides f g)

pub statements_told : (s z : Statement) (r : Bool) → IsTrue r ↔ (s ≡ z) → r ≡ same_statement s z
statements_told s z r h = same_from_decides r (same_statement s z) h (statement_Decides s z)
