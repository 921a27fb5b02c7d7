-- How a level is entered for a formula that a command proves.
use Rattle.std.specs.Prelude.{◌≡◌, ℕ, IsTrue, List, [], ◌∷◌, ◌++◌, None}
use Rattle.larch_derive.specs.Predicates.{HasEquation}
use Rattle.larch_derive.specs.Words.{IsWordedTerm}
use Rattle.larch_derive.specs.declared.builder.Builder.{Builder}
use Rattle.larch_prove_settings.specs.OrderPrecedenceRanked.{Ranked}
use Rattle.larch_prove_settling.specs.ProveAddingKeptFacts.{facts_of, lines_of}
use Rattle.larch_prove_settling.specs.ProveDraftDraft.{AreBelow, AreOpen, Counts, Stands, below_in}
use Rattle.larch_prove_settling.specs.ProveDraftProving.{IsOver}
use Rattle.larch_prove_settling.specs.ProveDraftDraftDraft.{Draft}
use Rattle.larch_prove_settling.specs.ProveInvariantBook.{Kept}
use Rattle.larch_prove_settling.specs.ProveInvariantHolding.{HasAbsurd, HasFacts, HoldsLevels}
use Rattle.larch_prove_settling.specs.ProveLevelsLevel.{IsKept, IsStored}
use Rattle.larch_prove_settling.specs.ProveLevelsLevelLevel.{Level}
use Rattle.larch_prove_settling.specs.ProveLevelsLevelPurpose.TheVariants as purpose
use Rattle.larch_prove_settings.specs.ProveMeaningLevels as defined
use Rattle.larch_prove_settings.specs.ProveMeaningLevels.{OfProof, Proof, level_for}
use Rattle.larch_prove_settings.specs.ProveMeaningPlans.{IsFormulaOver}
use Rattle.larch_prove_work.specs.Work.{MayWork}
use Rattle.larch_prove_work.specs.declared.work.Work.{Work}
use Rattle.larch_store.specs.Numbered.{Numbered, term_of}
use Rattle.larch_term.specs.Operator.{PlainOperator}
use Rattle.larch_term.specs.Tree.{Tree}
use Rattle.larch_term.specs.declared.statement.Statement.{Statement}
use Rattle.larch_term.specs.declared.statement.Theory.{Theory}

-- the proof with a level for a formula upon its current one
abbrev pub with_formula : Tree → Proof → Proof
with_formula f p = record p { current = level_for (OfProof f) p.current f; below = p.current ∷ p.below }

-- a formula in words over the theory and the constants of the block, and a proof that has made these
pub record MayProve (t : Theory) (block : List PlainOperator) (f : Tree) (p : Proof) : Type 0 where
  pub constants : p.constants ≡ block
  pub over : IsFormulaOver (t.operators ++ block) f
  pub words : IsWordedTerm f

-- lines say the facts of a level of the code
pub record SaysFacts (b : Builder) (l : Level) : Type 0 where
  pub facts : HasFacts b (facts_of l.facts).rules (lines_of l.facts)
  pub absurd : IsTrue (facts_of l.facts).contradictory → HasAbsurd b l.facts.absurd

-- a draft of a proof whose current level is idle, and a line says there that a formula equals itself
pub record IsWritten (t : Theory) (s : Statement) (store : List Numbered) (d : Draft) (p : Proof) (ks : List Kept)
    (f : Tree) (way : ℕ) : Type 0 where
  pub top : Kept
  pub counts : Counts d p
  pub undone : AreOpen d p
  pub current : IsKept d.current top
  pub level_is : top.level ≡ p.current
  pub idle : top.book.running ≡ None
  pub stored : IsStored store d.current
  pub below : AreBelow store (below_in d) p.constants p.below ks
  pub holds : HoldsLevels t s d.builder p.constants (p.current ∷ p.below) (top ∷ ks)
  pub facts : SaysFacts d.builder d.current
  pub says : HasEquation d.builder way f f

-- so it is of some proof
abbrev pub IsSomeProvable : Theory → Statement → List Ranked → ℕ → List Numbered → Draft → List PlainOperator → Tree
    → Type 0
IsSomeProvable t s ranks limit store d block f =
    (p : Proof) × ((k : Kept) × ((ks : List Kept)
    × (IsOver t ranks limit p × (Stands t s store d p k ks × MayProve t block f p))))

-- a command can work on it, and can prove a formula
pub record IsWorkForFormula (t : Theory) (s : Statement) (w : Work) (f : Tree) (p : Proof) : Type 0 where
  pub may_work : MayWork t s w p
  pub may_prove : MayProve t w.settings.constants.value f p

abbrev pub IsSomeFormula : Theory → Statement → Work → Tree → Type 0
IsSomeFormula t s w f = (p : Proof) × IsWorkForFormula t s w f p

-- the level of the definition, of the code's level for a formula
abbrev pub formula_level : Tree → Level → defined.Level
formula_level f level = record {
  purpose = OfProof f;
  facts = facts_of level.facts;
  goal = term_of level.goal.term;
  remaining = [];
}

-- the level of the code is made for a formula: it has no box and no method
pub record IsForFormula (f : Tree) (level : Level) : Type 0 where
  pub purpose : level.purpose ≡ purpose.OfProof
  pub first : term_of level.first ≡ f
  pub entrance : level.entrance ≡ None
  pub extras : level.extras ≡ []
  pub running : level.running ≡ None
