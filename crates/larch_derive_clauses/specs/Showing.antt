-- What lines and closed boxes show, by which an equation holds of all values, or a clause does.
use Rattle.std.specs.Prelude.{◌≡◌, ℕ, true, List, [], ◌∷◌, map, None}
use Rattle.larch_term.specs.BuiltIn.{bool_sort}
use Rattle.larch_term.specs.Operator.{PlainOperator}
use Rattle.larch_term.specs.Tree.{Tree, var, app}
use Rattle.larch_term.specs.Truth.{truth}
use Rattle.larch_term.specs.declared.statement.Statement.TheVariants.{Equation}
use Rattle.larch_derive_boxes.specs.CalculusFormula.{constant, apply_one}
use Rattle.larch_derive_boxes.specs.CalculusGeneration.{place_name, constant_terms, equation_at, induction_hypotheses}
use Rattle.larch_derive_boxes.specs.CalculusGeneration.{generation_hypotheses}
use Rattle.larch_derive_boxes.specs.CalculusObservation.{Observation, observer_term, other_variables, observations}
use Rattle.larch_certificate.specs.declared.line.CodedVar.{CodedVar}
use Rattle.larch_derive_boxes.specs.VerifyMeaningMatching.{are_apart}
use Rattle.larch_derive_boxes.specs.DeriveBuilderBuilder.{Builder}
use Rattle.larch_derive_boxes.specs.DeriveOpen_boxOpenBox.{OpenBox}
use Rattle.larch_derive_boxes.specs.DeriveBuilder.{boxes_in}
use Rattle.larch_derive_boxes.specs.DeriveOpenBox.{constant_of}
use Rattle.larch_derive_boxes.specs.DerivePredicates.{HasEquation}
use Rattle.larch_derive_boxes.specs.Boxes.{HasResult, AreOwnConstants}

-- the closed box with a number shows an equation of what a generator makes: it has a constant for each of the
-- generator's arguments, it supposes the equation of those of the variable's sort, and its result is the equation of
-- what the generator makes of them
pub record ShowsCase (b : Builder) (v : CodedVar) (l r : Tree) (f : PlainOperator) (n : ℕ) : Type 0 where
  pub box : OpenBox
  pub number : box.number ≡ n
  pub own : AreOwnConstants (boxes_in b) box
  pub sorts : map (λ c. c.range) box.constants ≡ f.domain
  pub shown : HasResult b box (induction_hypotheses v.name v.sort l r box.constants)
      (equation_at v.name v.sort l r (app f (constant_terms box.constants)))

-- the boxes do so for each generator, in order
abbrev pub ShowCases : Builder → CodedVar → Tree → Tree → List PlainOperator → List ℕ → Type 0
ShowCases b v l r [] [] = Unit {0}
ShowCases b v l r [] (n ∷ ns) = ⊥
ShowCases b v l r (f ∷ fs) [] = ⊥
ShowCases b v l r (f ∷ fs) (n ∷ ns) = ShowsCase b v l r f n × ShowCases b v l r fs ns

-- the line with a number says that an observer shows the same of two terms, with different variables as other
-- arguments, none of which occurs in the terms
pub record ShowsSame (b : Builder) (l r : Tree) (w : Observation) (n : ℕ) : Type 0 where
  pub names : ℕ → List ℕ
  pub apart : are_apart (other_variables names w) l r ≡ true
  pub says : HasEquation b n (observer_term names w l) (observer_term names w r)

-- the lines do so for each observation, in order
abbrev pub ShowSame : Builder → Tree → Tree → List Observation → List ℕ → Type 0
ShowSame b l r [] [] = Unit {0}
ShowSame b l r [] (n ∷ ns) = ⊥
ShowSame b l r (w ∷ ws) [] = ⊥
ShowSame b l r (w ∷ ws) (n ∷ ns) = ShowsSame b l r w n × ShowSame b l r ws ns

-- the closed box with a number shows that operators generate a sort: its only constant is a predicate on the sort, it
-- supposes that the operators' values inherit it, and its result is that it holds of a variable
pub record ShowsGenerated (b : Builder) (s : List ℕ) (fs : List PlainOperator) (n : ℕ) : Type 0 where
  pub box : OpenBox
  pub predicate : PlainOperator
  pub variable : List ℕ
  pub number : box.number ≡ n
  pub alone : box.constants ≡ predicate ∷ []
  pub domain : predicate.domain ≡ s ∷ []
  pub range : predicate.range ≡ bool_sort
  pub outer : constant_of (boxes_in b) predicate ≡ None
  pub shown : HasResult b box (generation_hypotheses predicate s fs)
      (Equation (apply_one predicate (var variable s)) truth)

-- the closed box with a number shows that operators partition a sort: it has two constants of the sort, it supposes
-- that observers show the same of them, and its result is that they are equal
pub record ShowsPartitioned (b : Builder) (s : List ℕ) (os : List PlainOperator) (n : ℕ) : Type 0 where
  pub box : OpenBox
  pub first : PlainOperator
  pub second : PlainOperator
  pub number : box.number ≡ n
  pub two : box.constants ≡ first ∷ second ∷ []
  pub own : AreOwnConstants (boxes_in b) box
  pub first_sort : first.range ≡ s
  pub second_sort : second.range ≡ s
  pub shown : HasResult b box (observations place_name s os (constant first) (constant second))
      (Equation (constant first) (constant second))
