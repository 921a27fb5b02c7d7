-- Tests of operators, terms and statements for equality.
use Rattle.std.specs.Prelude.{◌&&◌, Bool, true, false, bytes_eq}
use Rattle.std.specs.Cmp.Lexicographic.{pointwise}
pub use Rattle.larch_term.specs.OperatorKey.{same_name, same_operator}
use Rattle.larch_term.specs.Tree.{Tree, Forest, var, app, none, more}
use Rattle.larch_term.specs.declared.statement.Statement.{Statement}
use Rattle.larch_term.specs.declared.statement.Statement.TheVariants.{Equation, Generated, Partitioned}

unfoldable mutual
  -- whether two terms are equal
  pub same_tree : Tree → Tree → Bool
  same_tree (var n s) (var m r) = bytes_eq n m && bytes_eq s r
  same_tree (var n s) (app g us) = false
  same_tree (app f ts) (var m r) = false
  same_tree (app f ts) (app g us) = same_operator f g && same_forest ts us

  pub same_forest : Forest → Forest → Bool
  same_forest none none = true
  same_forest none (more u us) = false
  same_forest (more t ts) none = false
  same_forest (more t ts) (more u us) = same_tree t u && same_forest ts us

-- whether two statements are equal
unfoldable pub same_statement : Statement → Statement → Bool
same_statement (Equation l r) (Equation k q) = same_tree l k && same_tree r q
same_statement (Equation l r) (Generated z gs) = false
same_statement (Equation l r) (Partitioned z gs) = false
same_statement (Generated s fs) (Equation k q) = false
same_statement (Generated s fs) (Generated z gs) = bytes_eq s z && pointwise same_operator fs gs
same_statement (Generated s fs) (Partitioned z gs) = false
same_statement (Partitioned s fs) (Equation k q) = false
same_statement (Partitioned s fs) (Generated z gs) = false
same_statement (Partitioned s fs) (Partitioned z gs) = bytes_eq s z && pointwise same_operator fs gs
