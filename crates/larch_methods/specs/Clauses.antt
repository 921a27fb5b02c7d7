-- What must be shown in the box of a clause, by the line that its goal left.
use Rattle.std.specs.Prelude.{◌≡◌, ℕ, List, [], ◌∷◌, All, Contains, None}
use Rattle.larch_term.specs.BuiltIn.{bool_sort}
use Rattle.larch_term.specs.Operator.{PlainOperator}
use Rattle.larch_term.specs.Tree.{var}
use Rattle.larch_term.specs.Truth.{truth}
use Rattle.larch_term.specs.declared.statement.Statement.{Statement}
use Rattle.larch_calculus.specs.Formula.{apply_one, constant, equality}
use Rattle.larch_calculus.specs.Generation.{generation_hypotheses, place_name}
use Rattle.larch_calculus.specs.Observation.{observations}
use Rattle.larch_derive.specs.Builder.{boxes_in}
use Rattle.larch_derive.specs.OpenBox.{constant_of}
use Rattle.larch_derive.specs.Predicates.{Grows, HasEquation}
use Rattle.larch_derive.specs.declared.builder.Builder.{Builder}
use Rattle.larch_derive.specs.declared.open_box.OpenBox.{OpenBox}
use Rattle.larch_derive_clauses.specs.DeriveBoxesBoxes.{Opens, AreOwnConstants}

-- the second builder stands in a box that the first one opened, with these hypotheses
pub record IsSupposing (a b : Builder) (x : OpenBox) (hs : List Statement) : Type 0 where
  pub opened : Builder
  pub opens : Opens a opened x hs
  pub grows : Grows opened b

-- that operators generate a sort: in the box of a new predicate, which supposes that their values inherit it, a line
-- says that it holds of a variable
pub record ByPredicate (a b : Builder) (s : List ℕ) (fs : List PlainOperator) (number line : ℕ) : Type 0 where
  pub box : OpenBox
  pub predicate : PlainOperator
  pub variable : List ℕ
  pub number_is : box.number ≡ number
  pub inside : IsSupposing a b box (generation_hypotheses predicate s fs)
  pub alone : box.constants ≡ predicate ∷ []
  pub domain : predicate.domain ≡ s ∷ []
  pub range : predicate.range ≡ bool_sort
  pub outer : constant_of (boxes_in a) predicate ≡ None
  pub ranges : All (λ f. f.range ≡ s) fs
  pub says : HasEquation b line (apply_one predicate (var variable s)) truth

-- that operators partition a sort: in the box of two new constants, which supposes that observers show the same of
-- them, a line says that they are equal
pub record ByConstants (a b : Builder) (s : List ℕ) (os : List PlainOperator) (number line : ℕ) : Type 0 where
  pub box : OpenBox
  pub first : PlainOperator
  pub second : PlainOperator
  pub number_is : box.number ≡ number
  pub inside : IsSupposing a b box (observations place_name s os (constant first) (constant second))
  pub two : box.constants ≡ first ∷ second ∷ []
  pub own : AreOwnConstants (boxes_in a) box
  pub first_sort : first.range ≡ s
  pub second_sort : second.range ≡ s
  pub domains : All (λ o. Contains o.domain s) os
  pub says : HasEquation b line (equality s (constant first) (constant second)) truth
