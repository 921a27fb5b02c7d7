-- What the subgoals of a method have to show for its goal to be true, by the boxes and lines that they left.
use Rattle.std.specs.Prelude.{◌≡◌, ℕ, true, false, List, ◌∷◌, Some}
use Rattle.std.specs.List.{slice_get}
use Rattle.larch_term.specs.BuiltIn.{bool_sort}
use Rattle.larch_term.specs.Operator.{PlainOperator}
use Rattle.larch_term.specs.Sorts.{sort_of}
use Rattle.larch_term.specs.Statement.{IsStatementOver, statement_zero}
use Rattle.larch_term.specs.Tree.{Tree}
use Rattle.larch_term.specs.Truth.{truth}
use Rattle.larch_term.specs.Variable.{variables_of}
use Rattle.larch_term.specs.declared.statement.Statement.{Statement}
use Rattle.larch_term.specs.declared.statement.Statement.TheVariants.{Generated}
use Rattle.larch_term.specs.declared.variable.Variable.{Variable}
use Rattle.larch_calculus.specs.Formula.{implication}
use Rattle.larch_derive.specs.CertificateTextLineText.{IsWord}
use Rattle.larch_derive.specs.Builder.{theory_in}
use Rattle.larch_derive.specs.Predicates.{Known}
use Rattle.larch_derive.specs.declared.builder.Builder.{Builder}
use Rattle.larch_derive.specs.declared.open_box.OpenBox.{OpenBox}
use Rattle.larch_derive_clauses.specs.Showing.{ShowCases}
use Rattle.larch_methods.specs.Inside.{IsInside, ShowsUnder, closed_in, written_variable}

-- a formula can be written
pub record IsKnownFormula (b : Builder) (g : Tree) : Type 0 where
  pub known : Known b g
  pub sort : sort_of g ≡ bool_sort

-- by cases of a formula: in a box with constants for its variables one closed box shows the goal where it is true, and
-- a second one where it is false
pub record ByCases (a b : Builder) (f g : Tree) (shared first second : ℕ) : Type 0 where
  pub box : OpenBox
  pub number_is : box.number ≡ shared
  pub inside : IsInside a b box (variables_of f)
  pub positive : ShowsUnder b (closed_in (variables_of f) box f) true (closed_in (variables_of f) box g) first
  pub negative : ShowsUnder b (closed_in (variables_of f) box f) false (closed_in (variables_of f) box g) second
  pub formula : IsKnownFormula a g

-- by contradiction: in a box with constants for the goal's variables a closed box shows the goal, where it is supposed
-- to be false
pub record ByContradiction (a b : Builder) (g closed : Tree) (shared number : ℕ) : Type 0 where
  pub box : OpenBox
  pub number_is : box.number ≡ shared
  pub inside : IsInside a b box (variables_of g)
  pub closed_is : closed ≡ closed_in (variables_of g) box g
  pub closed_known : IsKnownFormula b closed
  pub shows : ShowsUnder b closed false closed number
  pub formula : IsKnownFormula a g

-- of an implication: in a box with constants for its premise's variables a closed box shows all of it, where the
-- premise is true
pub record ByImplication (a b : Builder) (p q closed : Tree) (shared number : ℕ) : Type 0 where
  pub box : OpenBox
  pub number_is : box.number ≡ shared
  pub inside : IsInside a b box (variables_of p)
  pub closed_is : closed ≡ closed_in (variables_of p) box (implication p q)
  pub closed_known : IsKnownFormula b closed
  pub shows : ShowsUnder b (closed_in (variables_of p) box p) true closed number
  pub formula : IsKnownFormula a (implication p q)

-- a statement has a number among those of the theory, 0 being that of what every theory states
pub record IsStated (b : Builder) (number : ℕ) (s : Statement) : Type 0 where
  pub found : slice_get (statement_zero ∷ (theory_in b).statements) number ≡ Some s
  pub over : IsStatementOver (theory_in b).operators s

-- by induction on a variable, whose name is a word: a clause generates its sort, and closed boxes show the goal of what
-- each generator makes
pub record ByInduction (b : Builder) (clause : ℕ) (v : Variable) (g : Tree) (boxes : List ℕ) : Type 0 where
  pub generators : List PlainOperator
  pub stated : IsStated b clause (Generated v.sort generators)
  pub shown : ShowCases b (written_variable v) g truth generators boxes
  pub name : IsWord v.name
  pub formula : IsKnownFormula b g
