-- How a level for a subgoal is entered upon the one on which its method runs.
use Rattle.std.specs.Prelude.{◌≡◌, List, [], ◌∷◌, All, Contains, None, Some}
use Rattle.larch_derive.specs.declared.builder.Builder.{Builder}
use Rattle.larch_prove_draft.specs.ProveAddingKeptFacts.{facts_of}
use Rattle.larch_prove_draft.specs.ProveAddingEquationSaidEquation.{SaidEquation}
use Rattle.larch_prove_draft.specs.ProveInvariantBook.{Kept, Running}
use Rattle.larch_prove_draft.specs.ProveInvariantHolding.{HoldsLevels}
use Rattle.larch_prove_draft.specs.ProveLevelsLevel.{IsKept, IsReady, IsStored}
use Rattle.larch_prove_draft.specs.ProveLevelsLevelLevel.{Level}
use Rattle.larch_prove_draft.specs.ProveMeaningLevels as defined
use Rattle.larch_prove_draft.specs.ProveMeaningLevels.{all_constants}
use Rattle.larch_prove_draft.specs.ProvePlansPlanning.{method_of, subgoal_of}
use Rattle.larch_prove_draft.specs.ProvePlansSubgoalsMethod.{Method}
use Rattle.larch_prove_draft.specs.ProvePlansSubgoalsSubgoal.{Subgoal}
use Rattle.larch_store.specs.Numbered.{Numbered, term_of}
use Rattle.larch_term.specs.Operator.{PlainOperator}
use Rattle.larch_term.specs.declared.statement.Statement.{Statement}
use Rattle.larch_term.specs.declared.statement.Statement.TheVariants.{Equation, Generated, Partitioned}
use Rattle.larch_term.specs.declared.statement.Theory.{Theory}

-- a builder holds levels; on the current one a method runs, whose open subgoal isn't entered yet
pub record Awaits (t : Theory) (s : Statement) (cs : List PlainOperator) (levels : List defined.Level) (k : Kept)
    (ks : List Kept) (r : Running) (b : Builder) (parent : Level) (method : Method) (subgoal : Subgoal) : Type 0 where
  pub held : HoldsLevels t s b cs levels (k ∷ ks)
  pub kept : IsKept parent k
  pub running : k.book.running ≡ Some r
  pub method_is : r.method ≡ method_of method
  pub subgoal_is : subgoal ≡ subgoal_of r.now
  pub among : All (Contains cs) (all_constants r.plan)

-- that is so of some levels
pub record MayEnter (b : Builder) (parent : Level) (method : Method) (subgoal : Subgoal) : Type 0 where
  pub theory : Theory
  pub statement : Statement
  pub constants : List PlainOperator
  pub levels : List defined.Level
  pub top : Kept
  pub others : List Kept
  pub running : Running
  pub awaits : Awaits theory statement constants levels top others running b parent method subgoal

-- the level of a subgoal, with what is kept of it
abbrev pub entered_level : Level → defined.Level
entered_level level = record {
  purpose = defined.OfSubgoal;
  facts = facts_of level.facts;
  goal = term_of level.goal.term;
  remaining = [];
}

-- the level is entered: the second builder holds it upon the others, and it can be worked on
pub record IsUpon (t : Theory) (s : Statement) (cs : List PlainOperator) (levels : List defined.Level) (k : Kept)
    (ks : List Kept) (b : Builder) (store : List Numbered) (level : Level) : Type 0 where
  pub entered : Kept
  pub kept : IsKept level entered
  pub level_is : entered.level ≡ entered_level level
  pub idle : entered.book.running ≡ None
  pub held : HoldsLevels t s b cs (entered.level ∷ levels) (entered ∷ k ∷ ks)
  pub ready : IsReady store b level
  pub stored : IsStored store level

abbrev pub IsEnteredFor : Builder → Builder → List Numbered → Level → Method → Subgoal → Level → Type 0
IsEnteredFor a b store parent method subgoal level =
    (t : Theory) (s : Statement) (cs : List PlainOperator) (levels : List defined.Level) (k : Kept) (ks : List Kept)
    (r : Running) → Awaits t s cs levels k ks r a parent method subgoal → IsUpon t s cs levels k ks b store level

-- a statement is an equation
abbrev pub IsEquation : Statement → Type 0
IsEquation (Equation l r) = Unit {0}
IsEquation (Generated s fs) = ⊥
IsEquation (Partitioned s fs) = ⊥

-- an equation that a line says, as a statement
abbrev pub equation_of : SaidEquation → Statement
equation_of e = Equation e.left e.right
