-- Command by command.
use Rattle.std.proofs.Common.{ap, subst, sym, ◌∙◌}
use Rattle.std.proofs.lemmas.List.{drop_all}
use Rattle.larch_prove.proofs.Prepares.{none_left, refusal_at, step_prepared, step_refused}
use Rattle.larch_prove.proofs.preparing.prepare_all.Goals as goal
use Rattle.larch_prove.specs.Prepared.{prepared_proof}
use Rattle.larch_prove_meaning.specs.Replays.{prepare}
use Rattle.larch_prove_beginning.specs.ProveSettingsTelling.{Tells}

pub loop-index-preserved : goal.loop-index-preserved
loop-index-preserved c = λ d h.
    let i = c.loop-index.invariant d h in
    let k = c.in-Ok.ensures.prepared d i.1 in (
      step_prepared c.args.preamble.now c.loop-index.index c.index-preamble-index.result _ _ _ c.loop-index-test.true
          c.index-preamble-index.is i.0 k.0,
      k.1,
    )

pub returns-in-Err-Wrong : goal.returns-in-Err-Wrong
returns-in-Err-Wrong c = λ d h.
    let i = c.loop-index.invariant d h in
    rw (c.in-Err-Wrong.field-0-is)
    (step_refused c.args.preamble.now c.loop-index.index c.index-preamble-index.result _ _ c.in-Err-Wrong.code
    c.loop-index-test.true c.index-preamble-index.is i.0
    (subst (Tells (prepare c.index-preamble-index.result.kind (prepared_proof d c.loop-index.prepared)))
    c.in-Err-Wrong.field-0-is (c.in-Err-Wrong.ensures.refused d i.1))
    ∙ ap (refusal_at c.in-Err-Wrong.code) (sym c.number_behind.ensures))

pub returns : goal.returns
returns c = λ d h.
    let i = c.loop-index.invariant d h in (
      none_left c.args.preamble.now c.loop-index.index _ _
          (drop_all c.loop-index.index c.args.preamble.now c.loop-index-test.false) i.0,
      i.1,
    )
