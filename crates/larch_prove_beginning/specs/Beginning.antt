-- What is opened behind a preamble, and what it is opened to.
use Rattle.std.specs.Prelude.{◌≡◌, ℕ, Bool, List}
use Rattle.larch_calculus.specs.Theories.{with_statements}
use Rattle.larch_derive.specs.Words.{IsWordedStatement, IsWordedTheory}
use Rattle.larch_order.specs.declared.precedence.Ranked.{Ranked}
use Rattle.larch_prove_beginning.specs.declared.duty.FirstDraft.{FirstDraft}
use Rattle.larch_prove_beginning.specs.declared.duty.Preamble.{Preamble}
use Rattle.larch_prove_beginning.specs.declared.duty.WholeDuty.{WholeDuty}
use Rattle.larch_prove_settling.specs.ProveDraftDraft.{IsProofOf}
use Rattle.larch_prove_meaning.specs.Levels.{Proof}
use Rattle.larch_prove_meaning.specs.Replays.{Duty, blank}
use Rattle.larch_prove_meaning.specs.WellSorted.{IsWellSortedDuty}
use Rattle.larch_prove_opening.specs.Stating.{duties_of, what_state}
use Rattle.larch_sorts_meaning.specs.Scope.{Variables}
use Rattle.larch_store.specs.Numbered.{Numbered}
use Rattle.larch_prove_settling.specs.TraitsItemsLaws.{NamesOwn}

-- the duty, as a replay starts from it
abbrev pub duty_in : WholeDuty → Duty
duty_in d = record { theory = d.theory.now; statement = d.statement.now; lemmas = duties_of d.lemmas.now }

-- It can be opened: the whole theory is the theory with what the lemmas state, all is well sorted and in words, and a
-- clause names the theory's operators.
pub record CanBegin (d : WholeDuty) : Type 0 where
  pub whole : d.whole.now ≡ with_statements d.theory.now (what_state (duties_of d.lemmas.now))
  pub sorted : IsWellSortedDuty (duty_in d)
  pub named : NamesOwn d.theory.now.operators d.statement.now
  pub words : IsWordedTheory d.whole.now
  pub written : IsWordedStatement d.statement.now

-- a proof as a preamble leaves it: nothing was added and no goal made, but the variables in scope, the precedence and
-- the limit are there, and whether boxes are checked
abbrev pub unopened_proof : Duty → Variables → List Ranked → ℕ → Bool → Proof
unopened_proof duty scope ranks limit checking =
    record (blank duty limit) { scope = scope; ranks = ranks; checking = checking }

-- so a proof is, behind such a preamble
pub record IsUnopened (d : WholeDuty) (m : Preamble) (ranks : List Ranked) (p : Proof) : Type 0 where
  pub is : p ≡ unopened_proof (duty_in d) m.scope.now ranks m.limit m.checking

-- what is opened is this proof: the draft is one of it, and its constants, its scope and its precedence are these;
-- what commands count and a duty starts from is as it was
pub record IsFirst (d : WholeDuty) (store : List Numbered) (first : FirstDraft) (ranks : List Ranked) (p q : Proof)
    : Type 0 where
  pub draft : IsProofOf d.whole.now d.statement.now store first.draft q
  pub constants : q.constants ≡ first.constants
  pub scope : q.scope ≡ first.scope
  pub ranks_are : q.ranks ≡ ranks
  pub theory : q.theory ≡ p.theory
  pub lemmas : q.lemmas ≡ p.lemmas
  pub limit : q.limit ≡ p.limit
  pub commands : q.commands ≡ p.commands
