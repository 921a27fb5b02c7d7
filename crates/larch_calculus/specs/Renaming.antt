-- Derivability with other sorts and operators in the places of a theory's own.
use Rattle.std.specs.Prelude.{◌≡◌, ℕ, List, All, Contains}
use Rattle.larch_term.specs.BuiltIn.{IsBuiltIn}
use Rattle.larch_term.specs.Operator.{OperatorName, PlainOperator, plain, boxed}
use Rattle.larch_term.specs.Statement.{IsWellSortedTheory}
use Rattle.larch_term.specs.declared.statement.Statement.{Statement}
use Rattle.larch_term.specs.declared.statement.Theory.{Theory}
use Rattle.larch_renaming.specs.Renaming.{Renaming, no_renaming, after, renamed_statement, FitsSignatures}
use Rattle.larch_renaming.specs.Renaming.{KeepsBuiltIns, Carries, AreAlike}
use Rattle.larch_calculus.specs.Derivable.{Derivable}

-- no two sorts become one
abbrev pub KeepsSortsApart : Renaming → Type 0
KeepsSortsApart r = (s q : List ℕ) → r.sort s ≡ r.sort q → s ≡ q

-- operators have the signatures of those in whose places they stand, built-in ones stay, and no two sorts become one
pub record IsFaithful (r : Renaming) : Type 0 where
  pub signatures : FitsSignatures r
  pub built_in : KeepsBuiltIns r
  pub apart : KeepsSortsApart r

-- the first renaming takes the second one back
abbrev pub TakesBack : Renaming → Renaming → Type 0
TakesBack q r = AreAlike (after q r) no_renaming

-- both theories are well sorted; the first one's operators, as they become, are known in the second, and its
-- statements are derivable there
pub record IsTranslation (r : Renaming) (t u : Theory) : Type 0 where
  pub source : IsWellSortedTheory t
  pub target : IsWellSortedTheory u
  pub faithful : IsFaithful r
  pub operators : Carries r t.operators u.operators
  pub statements : (s : Statement) → Contains t.statements s → Derivable u (renamed_statement r s)

-- built-in operators keep their names
abbrev pub KeepsBuiltIn : (OperatorName → OperatorName) → Type 0
KeepsBuiltIn new = (f : PlainOperator) → IsBuiltIn f → new f.name ≡ f.name

-- what is plain keeps its name: only constants of boxes get other ones
abbrev pub RenamesBoxes : (OperatorName → OperatorName) → Type 0
RenamesBoxes new = (n : List ℕ) → new (plain n) ≡ plain n

-- the name is bytes
abbrev pub IsPlainName : OperatorName → Type 0
IsPlainName (plain n) = Unit {0}
IsPlainName (boxed b k) = ⊥

-- the theory's operators have plain names: no constant of a box is among them
abbrev pub HasPlainNames : Theory → Type 0
HasPlainNames t = All (λ f. IsPlainName f.name) t.operators
