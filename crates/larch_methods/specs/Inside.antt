-- Lines in a box that all subgoals of a method share, and closed boxes in it.
use Rattle.std.specs.Prelude.{◌≡◌, ℕ, Bool, true, false, List, [], ◌∷◌, map, All}
use Rattle.larch_term.specs.Substitution.{instance_of}
use Rattle.larch_term.specs.Tree.{Tree}
use Rattle.larch_term.specs.Truth.{truth}
use Rattle.larch_term.specs.declared.statement.Statement.TheVariants.{Equation}
use Rattle.larch_term.specs.declared.variable.Variable.{Variable}
use Rattle.larch_calculus.specs.Formula.{falsity}
use Rattle.larch_calculus.specs.Freed.{constants_for}
use Rattle.larch_certificate.specs.declared.line.CodedVar.{CodedVar}
use Rattle.larch_derive.specs.CertificateTextLineText.{IsWord}
use Rattle.larch_derive.specs.Builder.{boxes_in}
use Rattle.larch_derive.specs.Predicates.{Grows}
use Rattle.larch_derive.specs.declared.builder.Builder.{Builder}
use Rattle.larch_derive.specs.declared.open_box.OpenBox.{OpenBox}
use Rattle.larch_derive_clauses.specs.DeriveBoxesBoxes.{Opens, HasResult, AreOwnConstants}

-- a term with the constants of a box in the places of variables, in order
abbrev pub closed_in : List Variable → OpenBox → Tree → Tree
closed_in vs x t = instance_of (constants_for vs x.constants) t

-- a variable as lines write it
abbrev pub written_variable : Variable → CodedVar
written_variable v = record { name = v.name; sort = v.sort }

-- the second builder stands in a box that the first one opened, which supposes nothing and has constants for variables,
-- whose names are words
pub record IsInside (a b : Builder) (x : OpenBox) (vs : List Variable) : Type 0 where
  pub opened : Builder
  pub opens : Opens a opened x []
  pub grows : Grows opened b
  pub own : AreOwnConstants (boxes_in a) x
  pub sorts : map (λ c. c.range) x.constants ≡ map (λ v. v.sort) vs
  pub names : All (λ v. IsWord v.name) vs

-- a truth value as a term
abbrev pub value_term : Bool → Tree
value_term true = truth
value_term false = falsity

-- the closed box with a number has no constants, and shows that a term is true where a formula has a truth value
pub record ShowsUnder (b : Builder) (formula : Tree) (value : Bool) (shown : Tree) (number : ℕ) : Type 0 where
  pub box : OpenBox
  pub number_is : box.number ≡ number
  pub bare : box.constants ≡ []
  pub result : HasResult b box (Equation formula (value_term value) ∷ []) (Equation shown truth)
