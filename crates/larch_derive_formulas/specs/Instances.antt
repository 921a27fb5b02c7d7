-- Rows with terms in the places of their variables.
use Rattle.std.specs.Prelude.{◌≡◌, ℕ, true, List, [], ◌∷◌, map, codes, Some, None}
use Rattle.larch_term.specs.BuiltIn.{bool_sort}
use Rattle.larch_term.specs.Sorts.{sort_of}
use Rattle.larch_term.specs.Substitution.{instance_of}
use Rattle.larch_term.specs.Tree.{Tree}
use Rattle.larch_term.specs.declared.statement.Statement.TheVariants.{Equation}
use Rattle.larch_term.specs.declared.substitution.Entry.{Entry}
use Rattle.larch_derive_lines.specs.VerifyMeaningMatching.{all_different}
use Rattle.larch_derive_lines.specs.VerifyMeaningRules.{row_says}
use Rattle.larch_derive_lines.specs.DerivePredicates.{Known, HasNoBadLine}
use Rattle.larch_derive_lines.specs.DeriveBuilderBuilder.{Builder}
use Rattle.larch_derive_lines.specs.Rules.{variable_in, AreKnownEntries, IsWordedSort}
use Rattle.larch_derive_formulas.specs.declared.instances.Instance.{Instance}

-- terms for the variables x and y of rows
abbrev pub truths : Tree → Tree → List Entry
truths t u =
    record { name = codes "x"; sort = bool_sort; term = t }
    ∷ record { name = codes "y"; sort = bool_sort; term = u } ∷ []

-- terms for the variables a and b of rows at a sort
abbrev pub values : List ℕ → Tree → Tree → List Entry
values s t u = record { name = codes "a"; sort = s; term = t } ∷ record { name = codes "b"; sort = s; term = u } ∷ []

-- a row with terms for x and y
abbrev pub of_truths : ℕ → Tree → Tree → Instance
of_truths row t u = record { row = row; sort = None; by = truths t u }

-- a row at a sort, with terms for a and b
abbrev pub of_values : ℕ → List ℕ → Tree → Tree → Instance
of_values row s t u = record { row = row; sort = Some s; by = values s t u }

-- a known term of a sort
abbrev pub IsKnownAt : Builder → List ℕ → Tree → Type 0
IsKnownAt b s t = Known b t × (sort_of t ≡ s)

-- no line of the builder is bad, and these entries may take the places of variables
abbrev pub MayReplace : Builder → List Entry → Type 0
MayReplace b es = HasNoBadLine b × (AreKnownEntries b es × (all_different (map variable_in es) ≡ true))

-- the row with these terms says that both sides are equal, and a line may say so, at a sort that is a word
pub record IsInstance (b : Builder) (i : Instance) (l r : Tree) : Type 0 where
  pub given : Tree
  pub gives : Tree
  pub row : row_says i.row i.sort ≡ Some (Equation given gives)
  pub left : instance_of i.by given ≡ l
  pub right : instance_of i.by gives ≡ r
  pub may : MayReplace b i.by
  pub words : IsWordedSort i.sort
