-- Proofs as commands work on them, and what a builder holds of them.
use Rattle.std.specs.Prelude.{◌≡◌, ℕ, Bool, true, false, List, ◌∷◌, map, reverse, All, Contains, IfSome}
use Rattle.std.specs.Prelude.{Option, None, Some, Result, Ok}
use Rattle.std.specs.List.{AllZip}
use Rattle.larch_base.specs.declared.code.Code.{Code}
use Rattle.larch_prove_levels.specs.DeriveBuilder.{lines_in}
use Rattle.larch_prove_levels.specs.DeriveFinished.{IsFinished}
use Rattle.larch_prove_levels.specs.DerivePredicates.{HasEquation}
use Rattle.larch_prove_levels.specs.DeriveBuilderBuilder.{Builder}
use Rattle.larch_prove_levels.specs.ProveInvariantBook.{Book, Kept, SupposingBox, levels_of, own_boxes}
use Rattle.larch_prove_levels.specs.ProveInvariantHolding.{HoldsLevels}
use Rattle.larch_prove_levels.specs.ProveInvariantLeaving.{Leaving}
use Rattle.larch_prove_levels.specs.Level.{IsKept, IsLevel, IsReady, IsStored}
use Rattle.larch_prove_draft.specs.declared.draft.Draft.{Draft}
use Rattle.larch_prove_levels.specs.declared.level.Level.{Level}
use Rattle.larch_prove_levels.specs.ProveMeaningLevels as defined
use Rattle.larch_prove_levels.specs.ProveMeaningLevels.{Proof, all_constants, rise}
use Rattle.larch_store.specs.Numbered.{Numbered}
use Rattle.larch_term.specs.Operator.{PlainOperator}
use Rattle.larch_term.specs.Truth.{truth}
use Rattle.larch_term.specs.declared.statement.Statement.{Statement}
use Rattle.larch_term.specs.declared.statement.Theory.{Theory}

-- the levels below the current one, the nearest first
abbrev pub below_in : Draft → List Level
below_in d = reverse (map (λ level. level.value) d.below.items)

-- whether boxes are checked, the marks that wait, and the next numbers of facts are those of a proof
abbrev pub Counts : Draft → Proof → Type 0
Counts d p =
    (d.checking ≡ p.checking)
    × ((d.waiting.items ≡ p.waiting)
    × ((d.next_hypothesis ≡ p.next_hypothesis) × (d.next_derived ≡ p.next_derived)))

-- neither the draft nor the proof is done
abbrev pub AreOpen : Draft → Proof → Type 0
AreOpen d p = (d.is_proved ≡ false) × (p.is_proved ≡ false)

-- what the plans of methods make is among the constants of the block
abbrev pub ArePlannedAmong : List PlainOperator → List Kept → Type 0
ArePlannedAmong cs ks = All (λ k. IfSome k.book.running (λ r. All (Contains cs) (all_constants r.plan))) ks

-- the levels below the current one are these
pub record AreBelow (store : List Numbered) (levels : List Level) (cs : List PlainOperator)
    (below : List defined.Level) (ks : List Kept) : Type 0 where
  pub kept : AllZip IsKept levels ks
  pub stored : All (IsStored store) levels
  pub levels_are : levels_of ks ≡ below
  pub planned : ArePlannedAmong cs ks

-- a builder holds a proof that isn't done: its current level can be worked on
pub record Stands (t : Theory) (s : Statement) (store : List Numbered) (d : Draft) (p : Proof) (k : Kept)
    (ks : List Kept) : Type 0 where
  pub counts : Counts d p
  pub undone : AreOpen d p
  pub current : IsKept d.current k
  pub level_is : k.level ≡ p.current
  pub idle : k.book.running ≡ None
  pub ready : IsReady store d.builder d.current
  pub stored : IsStored store d.current
  pub below : AreBelow store (below_in d) p.constants p.below ks
  pub holds : HoldsLevels t s d.builder p.constants (p.current ∷ p.below) (k ∷ ks)

-- it holds one that is done: its lines are a certificate that can be handed over
pub record IsDone (t : Theory) (s : Statement) (d : Draft) (p : Proof) : Type 0 where
  pub counts : Counts d p
  pub proved : (d.is_proved ≡ true) × (p.is_proved ≡ true)
  pub finished : IsFinished t s (lines_in d.builder)

-- one or the other
abbrev pub IsProofBy : Bool → Theory → Statement → List Numbered → Draft → Proof → Type 0
IsProofBy true t s store d p = IsDone t s d p
IsProofBy false t s store d p = (k : Kept) × ((ks : List Kept) × Stands t s store d p k ks)

abbrev pub IsProofOf : Theory → Statement → List Numbered → Draft → Proof → Type 0
IsProofOf t s store d p = IsProofBy p.is_proved t s store d p

-- A level is proved, upon these: a line says that its first goal is true, where these boxes of it are still open.
-- Earlier a builder held it.
pub record IsShownIn (boxes : Book → List SupposingBox) (t : Theory) (s : Statement) (store : List Numbered) (d : Draft)
    (p : Proof) (below : List defined.Level) (level : defined.Level) (line : ℕ) : Type 0 where
  pub top : Kept
  pub others : List Kept
  pub counts : Counts d p
  pub undone : AreOpen d p
  pub current : IsLevel d.current top
  pub level_is : top.level ≡ level
  pub stored : IsStored store d.current
  pub under : AreBelow store (below_in d) p.constants below others
  pub earlier : Builder
  pub before : HoldsLevels t s earlier p.constants (level ∷ below) (top ∷ others)
  pub leaving : Leaving t s d.builder (boxes top.book) others
  pub says : HasEquation d.builder line top.book.first truth

-- in its own boxes
abbrev pub IsShown : Theory → Statement → List Numbered → Draft → Proof → List defined.Level → defined.Level → ℕ
    → Type 0
IsShown t s store d p below level line = IsShownIn own_boxes t s store d p below level line

-- the second proof is of the same, and has the same scope, constants, precedence and limit
pub record IsAlike (p q : Proof) : Type 0 where
  pub theory : q.theory ≡ p.theory
  pub lemmas : q.lemmas ≡ p.lemmas
  pub scope : q.scope ≡ p.scope
  pub constants : q.constants ≡ p.constants
  pub ranks : q.ranks ≡ p.ranks
  pub limit : q.limit ≡ p.limit
  pub commands : q.commands ≡ p.commands

-- what a step within a command leads to from a proof: the proof rests, or its current level is proved and the levels
-- rise
abbrev pub Leads : Theory → Statement → List Numbered → Draft → Proof → Option ℕ → Result Proof Code → Type 0
Leads t s store d p None answer = (q : Proof) × ((answer ≡ Ok q) × (IsAlike p q × IsProofOf t s store d q))
Leads t s store d p (Some line) answer =
    (q : Proof) × ((below : List defined.Level) × ((level : defined.Level)
    × ((answer ≡ rise below level q) × (IsAlike p q × IsShown t s store d q below level line))))
