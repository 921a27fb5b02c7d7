-- Terms of commands that are to be written.
use Rattle.std.specs.Prelude.{◌≡◌, List, ◌++◌}
use Rattle.larch_derive.specs.Predicates.{Known}
use Rattle.larch_derive.specs.Words.{IsWordedTerm}
use Rattle.larch_prove_settling.specs.ProveDraftDraft.{Stands}
use Rattle.larch_prove_settling.specs.ProveDraftDraftDraft.{Draft}
use Rattle.larch_prove_settling.specs.ProveInvariantBook.{Kept}
use Rattle.larch_prove_settings.specs.ProveMeaningLevels.{Proof}
use Rattle.larch_store.specs.Numbered.{Numbered}
use Rattle.larch_term.specs.Operator.{PlainOperator}
use Rattle.larch_term.specs.Sorts.{IsTermOver}
use Rattle.larch_term.specs.Tree.{Tree}
use Rattle.larch_term.specs.declared.statement.Statement.{Statement}
use Rattle.larch_term.specs.declared.statement.Theory.{Theory}

-- a term in words over the theory and the constants of the block, and a proof that has made these
pub record MayWrite (t : Theory) (block : List PlainOperator) (u : Tree) (p : Proof) : Type 0 where
  pub constants : p.constants ≡ block
  pub over : IsTermOver (t.operators ++ block) u
  pub words : IsWordedTerm u

-- the second draft is of a proof as the first one is; the term can be written there, and so can all that could before
pub record IsOpenedFor (t : Theory) (s : Statement) (store : List Numbered) (d e : Draft) (p : Proof) (ks : List Kept)
    (u : Tree) : Type 0 where
  pub top : Kept
  pub stands : Stands t s store e p top ks
  pub known : Known e.builder u
  pub stays : (v : Tree) → Known d.builder v → Known e.builder v
