use Rattle.std.proofs.Common.{◌≡◌, All, List, take}
use Rattle.larch_derive.specs.Predicates.{Known}
use Rattle.larch_prove_work.specs.ProveDraftDraft.{Stands}
use Rattle.larch_prove_facts.specs.Derivation.{StandsFor}
use Rattle.larch_prove_facts.specs.Entries.{MayStand}
use Rattle.larch_prove_facts.proofs.boxes.open_boxes.Given as goal
use Rattle.larch_prove_work.specs.ProveInvariantBook.{Kept}
use Rattle.larch_prove_meaning.specs.Levels.{Proof}
use Rattle.larch_store.specs.Numbered.{Numbered}
use Rattle.larch_term.specs.declared.statement.Statement.{Statement}
use Rattle.larch_term.specs.declared.statement.Theory.{Theory}

-- the draft stands, and the terms so far can be written
abbrev pub invariant-loop-entry : goal.invariant-loop-entry
invariant-loop-entry l = (t : Theory) (s : Statement) (store : List Numbered) (p : Proof) (k : Kept) (ks : List Kept)
    → Stands t s store l.fn.draft p k ks → p.constants ≡ l.block → All (MayStand t l.block) l.entries
    → StandsFor t s store l.draft p ks × All (λ e. Known l.draft.builder e.term) (take l.entry-index l.entries)
