-- What the subgoals of a partition have to show, and the variables that take the places of their constants.
use Rattle.std.specs.Prelude.{◌≡◌, ◌<◌, ℕ, zero, suc, All, List, [], ◌∷◌, map, length}
use Rattle.std.specs.List.{AllZip}
use Rattle.larch_term.specs.Operator.{PlainOperator}
use Rattle.larch_term.specs.Sorts.{sort_of}
use Rattle.larch_term.specs.Tree.{Tree}
use Rattle.larch_term.specs.Variable.{occurrences}
use Rattle.larch_term.specs.declared.statement.Statement.TheVariants.{Equation, Partitioned}
use Rattle.larch_term.specs.declared.variable.Variable.{Variable}
use Rattle.larch_calculus.specs.Observation.{Observation, observations_of, observer_term}
use Rattle.larch_derive.specs.CertificateTextLineText.{IsWord}
use Rattle.larch_derive.specs.Builder.{boxes_in}
use Rattle.larch_derive.specs.Predicates.{Known}
use Rattle.larch_derive.specs.declared.builder.Builder.{Builder}
use Rattle.larch_derive.specs.declared.open_box.OpenBox.{OpenBox}
use Rattle.larch_derive_clauses.specs.DeriveBoxesBoxes.{HasResult, AreOwnConstants}
use Rattle.larch_prove_plans.specs.ProveMeaningPlans.{other_sorts, shown}
use Rattle.larch_methods.specs.Methods.{IsStated}

-- a word of so many letters x
abbrev pub word_of : ℕ → List ℕ
word_of zero = []
word_of (suc n) = 120 ∷ word_of n

-- variables for constants, the first with a name of so many letters, each further one with one letter more
abbrev pub variables_for : ℕ → List PlainOperator → List Variable
variables_for n [] = []
variables_for n (c ∷ cs) = record { name = word_of n; sort = c.range } ∷ variables_for (suc n) cs

-- the variables of a term have names of fewer letters
abbrev pub HasShorterNames : ℕ → Tree → Type 0
HasShorterNames n t = All (λ v. length v.name < n) (occurrences t)

-- a closed box shows that an observer shows the same of two terms, with the box's constants as its other arguments
pub record ShowsObservation (b : Builder) (l r : Tree) (w : Observation) (x : OpenBox) : Type 0 where
  pub own : AreOwnConstants (boxes_in b) x
  pub sorts : map (λ c. c.range) x.constants ≡ other_sorts w.place 1 w.observer.domain
  pub result : HasResult b x [] (Equation (shown w x.constants l) (shown w x.constants r))
  pub known : (names : ℕ → List ℕ) → ((i : ℕ) → IsWord (names i))
      → Known b (observer_term names w l) × Known b (observer_term names w r)

-- by the observers of a sort: a clause says that they partition it, and closed boxes show that they show the same of
-- two terms
pub record ByObservers (b : Builder) (clause : ℕ) (l r : Tree) (boxes : List OpenBox) : Type 0 where
  pub observers : List PlainOperator
  pub stated : IsStated b clause (Partitioned (sort_of l) observers)
  pub shown_by : AllZip (ShowsObservation b l r) (observations_of (sort_of l) observers) boxes
  pub left : Known b l
  pub right : Known b r
  pub sorts : sort_of l ≡ sort_of r
