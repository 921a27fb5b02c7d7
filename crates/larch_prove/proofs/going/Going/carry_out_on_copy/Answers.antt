-- The copy can be worked on, and takes the place of the work.
use Rattle.std.proofs.lemmas.Result.{err_from_is_err_and}
use Rattle.std.proofs.Common.{subst, sym}
use Rattle.larch_prove.proofs.Reached.{made_on_copy, may_work}
use Rattle.larch_prove_resuming.specs.ProveDraftProving.{IsProvable}
use Rattle.larch_prove_resuming.specs.ProveWorkWorkClaim.{Claim}
use Rattle.larch_prove.proofs.going.Going.carry_out_on_copy.Goals as goal

pub carry_out_on-requires-clause-provable : goal.carry_out_on-requires-clause-provable
carry_out_on-requires-clause-provable c =
    subst (λ (x : Claim). IsProvable x.theory x.statement) (sym c.deref.ensures) c.requires.claimed

pub carry_out_on-requires-clause-works : goal.carry_out_on-requires-clause-works
carry_out_on-requires-clause-works c = (
  c.requires.works.0,
  may_work c.args.self.now c.in_ok-work.work c.deref.result.now c.requires.works.0 c.deref.ensures c.requires.undone
      c.in_ok-work.ensures c.requires.works.1,
)

pub returns-in_err-carry_out_on-clause-refused : goal.returns-in_err-carry_out_on-clause-refused
returns-in_err-carry_out_on-clause-refused c =
    let q = err_from_is_err_and c.from_residual-in_err-carry_out_on.result
    c.from_residual-in_err-carry_out_on.ensures.1 in
    rw (q.1, q.2) (λ p w.
    c.in_err-carry_out_on.ensures.refused p
    (may_work c.args.self.now c.in_ok-work.work c.deref.result.now p c.deref.ensures c.requires.undone
    c.in_ok-work.ensures w))

pub returns-clause-made : goal.returns-clause-made
returns-clause-made c = λ p w.
    made_on_copy c.args.self.now c.carry_out_on.new.work c.deref.result.now p _ c.deref.ensures
    (c.in_ok-carry_out_on.ensures.made p
    (may_work c.args.self.now c.in_ok-work.work c.deref.result.now p c.deref.ensures c.requires.undone
    c.in_ok-work.ensures w))
