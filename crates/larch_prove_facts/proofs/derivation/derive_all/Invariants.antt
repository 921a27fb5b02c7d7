use Rattle.std.proofs.Common.{All, List, map}
use Rattle.larch_prove_work.specs.ProveAddingEquation.{IsSaid, sides_in}
use Rattle.larch_prove_work.specs.ProveDraftDraft.{Stands}
use Rattle.larch_prove_work.specs.ProveDraftProving.{IsOver}
use Rattle.larch_prove_facts.specs.Derivation.{Continues}
use Rattle.larch_prove_facts.proofs.derivation.derive_all.Given as goal
use Rattle.larch_prove_work.specs.ProveInvariantBook.{Kept}
use Rattle.larch_prove_meaning.specs.Levels.{Proof}
use Rattle.larch_prove_meaning.specs.Steps.{all_derived}

-- it goes on with the equations that are left, and lines say these still
abbrev pub invariant-loop-equation : goal.invariant-loop-equation
invariant-loop-equation l = record {
  leads : (p : Proof) (k : Kept) (ks : List Kept)
      → IsOver l.proving.theory.now l.proving.around.precedence.now l.proving.around.limit p
      → Stands l.proving.theory.now l.proving.statement.now l.fn.store l.fn.draft p k ks
      → Continues l.proving.theory.now l.proving.statement.now l.store l.draft p
      (all_derived (map sides_in l.fn.equations.items) p) (map sides_in l.equation-iterator.rest.items);
  said : All (IsSaid l.draft.builder) l.equation-iterator.rest.items;
}
