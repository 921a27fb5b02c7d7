-- What is hashed of a statement: the names in it.
use Rattle.std.specs.Prelude.{◌≡◌, ℕ, ◌++◌, true, List, []}
use Rattle.std.proofs.Common.{ap}
use Rattle.std.specs.Cmp.{IsEquivalence, decided}
use Rattle.std.specs.Hash as fed
use Rattle.larch_term.specs.Equality.{same_statement}
use Rattle.larch_term.specs.OperatorKey.{name_input, operator_input}
use Rattle.larch_term.specs.Tree.{Tree, Forest, var, app, none, more}
use Rattle.larch_term.specs.declared.statement.Statement.{Statement}
use Rattle.larch_term.specs.declared.statement.Statement.TheVariants.{Equation, Generated, Partitioned}
use Rattle.larch_term.proofs.Decided.{statement_Decides}

abbrev mutual
  -- what is hashed of a term: names of operators, and names and sorts of variables, from left to right
  pub tree_input : Tree → List (List ℕ)
  tree_input (var n s) = fed.slice fed.u8 n ++ fed.slice fed.u8 s
  tree_input (app f ts) = name_input f.name ++ forest_input ts

  -- what is hashed of arguments
  pub forest_input : Forest → List (List ℕ)
  forest_input none = []
  forest_input (more t ts) = tree_input t ++ forest_input ts

-- what is hashed of a statement
abbrev pub statement_input : Statement → List (List ℕ)
statement_input (Equation l r) = tree_input l ++ tree_input r
statement_input (Generated s fs) = fed.slice fed.u8 s ++ fed.slice operator_input fs
statement_input (Partitioned s fs) = fed.slice fed.u8 s ++ fed.slice operator_input fs

-- equal statements are hashed alike
pub fed_alike : (s z : Statement) → same_statement s z ≡ true → statement_input s ≡ statement_input z
fed_alike s z e = ap statement_input ((statement_Decides s z).0 e)

-- the test for equal statements is an equivalence
pub statement_equivalence : IsEquivalence same_statement
statement_equivalence = decided same_statement statement_Decides
