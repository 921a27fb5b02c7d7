-- A subgoal that is shown, and the line that its method wants of it.
use Rattle.std.specs.Prelude.{◌≡◌, ℕ, List, [], ◌∷◌, Some}
use Rattle.larch_term.specs.Operator.{PlainOperator}
use Rattle.larch_term.specs.Truth.{truth}
use Rattle.larch_term.specs.declared.statement.Statement.{Statement}
use Rattle.larch_term.specs.declared.statement.Statement.TheVariants.{Equation}
use Rattle.larch_term.specs.declared.statement.Theory.{Theory}
use Rattle.larch_calculus.specs.Formula.{falsity, formula, implication}
use Rattle.larch_derive.specs.Predicates.{HasEquation}
use Rattle.larch_derive.specs.declared.builder.Builder.{Builder}
use Rattle.larch_derive.specs.declared.open_box.OpenBox.{OpenBox}
use Rattle.larch_prove_invariant.specs.DeriveBoxesBoxes.{IsOpen}
use Rattle.larch_prove_invariant.specs.ProveMeaningLevels.{Level}
use Rattle.larch_prove_invariant.specs.ProveMeaningPlans.{Cases, Conjunction, Contradiction}
use Rattle.larch_prove_invariant.specs.ProveMeaningPlans.{Implication, Induction, Method}
use Rattle.larch_prove_invariant.specs.ProveMeaningPlans.{Partition, Subgoal}
use Rattle.larch_prove_invariant.specs.MethodsMethods.{IsKnownFormula}
use Rattle.larch_prove_invariant.specs.Book.{Kept, Running}
use Rattle.larch_prove_invariant.specs.Holding.{EntersSubgoal, HoldsLevels, premise, sides_within}
use Rattle.larch_prove_invariant.specs.Leaving.{Leaving}

-- what the line wants that a method says of a subgoal where its goal is true: of an implication, that the whole can be
-- written; of a contradiction, the open box with a number, which supposes that a formula is false; of an observation,
-- that the goal is the formula of its equation
abbrev pub MaySay : Builder → Method → Subgoal → ℕ → Type 0
MaySay b (Cases f) g n = Unit {0}
MaySay b Implication g n = IsKnownFormula b (implication (premise g.hypotheses) g.goal)
MaySay b Conjunction g n = Unit {0}
MaySay b Contradiction g n =
    (x : OpenBox) × ((x.number ≡ n) × ((g.goal ≡ falsity)
    × IsOpen b x (Equation (premise g.hypotheses) falsity ∷ [])))
MaySay b (Induction m) g n = Unit {0}
MaySay b Partition g n = g.goal ≡ formula (sides_within g.goal).left (sides_within g.goal).right

-- A builder held levels, the current one entered for the open subgoal of the method that runs on the one below. Where
-- the second builder stands no box of the level is open but that of the subgoal, and a line says that the level's first
-- goal is true.
pub record ShowsSubgoal (t : Theory) (s : Statement) (a b : Builder) (cs : List PlainOperator) (levels : List Level)
    (k j : Kept) (ks : List Kept) (r : Running) (line : ℕ) : Type 0 where
  pub held : HoldsLevels t s a cs levels (k ∷ j ∷ ks)
  pub running : j.book.running ≡ Some r
  pub enters : EntersSubgoal r k.book
  pub leaving : Leaving t s b k.book.entrance (j ∷ ks)
  pub says : HasEquation b line k.book.first truth
