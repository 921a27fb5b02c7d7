use Rattle.std.proofs.Common.{◌+◌, Result, is_some, if◌then◌else◌}
use Rattle.larch_base.specs.declared.code.Code.{Code}
use Rattle.larch_prove_draft.specs.Draft.{Leads, below_in}
use Rattle.larch_prove_draft.specs.Proving.{IsOver}
use Rattle.larch_prove_draft.specs.ProveMeaningLevels.{Proof}
use Rattle.larch_prove_settling.specs.Rising.{to_settle}
use Rattle.larch_store.specs.Stored.{Grows}
use Rattle.larch_prove_settling.proofs.rising.rise_on.Given as goal

-- what the proof has led to
abbrev pub invariant-loop-shown : goal.invariant-loop-shown
invariant-loop-shown l = record {
  leads : (p : Proof) (answer : Result Proof Code)
      → IsOver l.proving.theory.now l.proving.around.precedence.now l.proving.around.limit p
      → Leads l.proving.theory.now l.proving.statement.now l.fn.store l.fn.draft p l.fn.first answer
      → Leads l.proving.theory.now l.proving.statement.now l.store l.draft p l.shown answer;
  grows : Grows l.fn.store l.store;
}

-- the levels that are left, while there is something to go on with
abbrev pub decreases-loop-shown : goal.decreases-loop-shown
decreases-loop-shown l = if is_some l.shown then 1 + to_settle (below_in l.draft) else 0
