-- What laws say of flat traits.
use Rattle.std.specs.Prelude.{◌≡◌, ◌≢◌, ℕ, true, List, All, AllPairs, Contains, Some, Result, Ok, Err}
use Rattle.larch_raw.specs.Worded.{WordedTrait}
use Rattle.larch_raw.specs.declared.equation.RawTrait.{RawTrait}
use Rattle.larch_term.specs.BuiltIn.{IsBuiltIn}
use Rattle.larch_term.specs.Operator.{PlainOperator}
use Rattle.larch_term.specs.Statement.{IsStatementOver}
use Rattle.larch_term.specs.declared.statement.Statement.{Statement}
use Rattle.larch_term.specs.declared.statement.Theory.{Theory}
use Rattle.larch_shorthand.specs.SortsMeaningLaws.{IsSortOf, OperatorSorts, StatementSorts, StatementVariables}
use Rattle.larch_shorthand.specs.BaseMeaningWord.{IsWord}
use Rattle.larch_shorthand.specs.TraitsItemsLaws.{NamesOwn}
use Rattle.larch_flat_meaning.specs.Files.{Files, Reaches, is_there}
use Rattle.larch_flat_meaning.specs.Flat.{FlatTrait}
use Rattle.larch_flat_meaning.specs.Gathered.{Gathered}
use Rattle.larch_flat_meaning.specs.Stops.{Stop, Refused, TooDeep}

-- the second answer is the first one, unless that isn't told
abbrev pub IsKeptBy : {A : Type 0} → Result A Stop → Result A Stop → Type 0
IsKeptBy (Ok x) b = b ≡ Ok x
IsKeptBy (Err (Refused f)) b = b ≡ Err (Refused f)
IsKeptBy (Err TooDeep) b = Unit {0}

-- files say the same of each name that one leads to
abbrev pub AgreeFrom : Files → Files → List ℕ → Type 0
AgreeFrom files other name = (m : List ℕ) → Reaches files name m → files m ≡ other m

-- the answer is told
abbrev pub IsTold : {A : Type 0} → Result A Stop → Type 0
IsTold (Ok x) = Unit {0}
IsTold (Err (Refused f)) = Unit {0}
IsTold (Err TooDeep) = ⊥

-- all names of which there are files are among these
abbrev pub AreAmong : Files → List (List ℕ) → Type 0
AreAmong files all = (m : List ℕ) → is_there files m ≡ true → Contains all m

-- a statement of a trait with these operators: well sorted over them, its clauses name these alone, and each sort in
-- it is Bool or stands in one of them
abbrev pub IsStatedOver : List PlainOperator → Statement → Type 0
IsStatedOver fs s = IsStatementOver fs s × NamesOwn fs s × StatementSorts (IsSortOf fs) s

-- what is gathered is sound: its operators differ and aren't built in, and its statements are statements over them
pub record IsSound (g : Gathered) : Type 0 where
  pub different : AllPairs (λ f h. f ≢ h) g.operators
  pub own : All (λ f. IsBuiltIn f → ⊥) g.operators
  pub marked : All (λ m. IsStatedOver g.operators m.statement) g.marked
  pub discharge : All (IsStatedOver g.operators) g.discharge

-- what a flat trait has
abbrev pub gathered_in : FlatTrait → Gathered
gathered_in t = record { operators = t.operators; marked = t.marked; discharge = t.discharge }

-- the traits of all files are written with words
abbrev pub AreWorded : Files → Type 0
AreWorded files = (name : List ℕ) (raw : RawTrait) → files name ≡ Some (Ok raw) → WordedTrait raw

-- each sort and each variable in the statement is a word
abbrev pub IsInWords : Statement → Type 0
IsInWords s = StatementSorts IsWord s × StatementVariables IsWord s

-- each sort and each variable in the theory is a word
abbrev pub IsTheoryInWords : Theory → Type 0
IsTheoryInWords t = All (OperatorSorts IsWord) t.operators × All IsInWords t.statements
