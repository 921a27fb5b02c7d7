-- What the method leads to is what the command makes.
use Rattle.std.proofs.Common.{subst, sym, ◌∙◌}
use Rattle.larch_prove_meaning.specs.Levels.{begun}
use Rattle.larch_prove_resuming.proofs.Made.{made_by}
use Rattle.larch_prove_resuming.proofs.Plans.{constants_planned}
use Rattle.larch_prove_resuming.proofs.Reaching.{before, over_with}
use Rattle.larch_prove_resuming.proofs.resuming.carry_out.Goals as goal
use Rattle.larch_prove_work.specs.ProveSettingsTelling.{Tells}
use Rattle.larch_prove_work.proofs.Carried.{told_so, work_stands}

pub begin-requires-clause-stands : goal.begin-requires-clause-stands
begin-requires-clause-stands c =
    let t = c.args.claim.now.theory in let s = c.args.claim.now.statement in let w = c.args.work.now in
    let p = c.requires.works.0 in let made = c.requires.works.1.0 in
    let may = c.requires.works.1.1.0 in let i = c.requires.works.1.1.1 in
    let z = work_stands t s w p may.may_work in
    let e = c.as_slice.ensures ∙ constants_planned p c.args.planned made _ c.in_ok-constants.ensures i in (
      p,
      (
        z.0,
        (
          z.1.0,
          (
            made,
            (
              over_with t s w p may.may_work made c.make_constants.new.self c.as_slice.result.now e
                  c.in_ok-make_constants.ensures.ranks c.in_ok-make_constants.ensures.limit,
              before t s w p c.args.planned made may i,
            ),
          ),
        ),
      ),
    )

pub returns-in-Ok-clause-made : goal.returns-in-Ok-clause-made
returns-in-Ok-clause-made c = λ p made may i.
    let t = c.args.claim.now.theory in let s = c.args.claim.now.statement in let w = c.args.work.now in
    let z = work_stands t s w p may.may_work in
    let e = c.as_slice.ensures ∙ constants_planned p c.args.planned made _ c.in_ok-constants.ensures i in
    made_by t s w
    (record { settings = c.make_constants.new.self; store = c.begin.new.store; draft = c.begin.new.draft }) p made
    c.as_slice.result.now (begun made p)
    (record {
      operators = c.in_ok-make_constants.ensures.operators;
      constants_are = c.in_ok-make_constants.ensures.constants;
      ranks = c.in_ok-make_constants.ensures.ranks;
      sorts = c.in_ok-make_constants.ensures.sorts;
      scope = c.in_ok-make_constants.ensures.scope;
      limit = c.in_ok-make_constants.ensures.limit;
    })
    e may.may_work
    (c.in-Ok.ensures.begun p z.0 z.1.0 made
    (over_with t s w p may.may_work made c.make_constants.new.self c.as_slice.result.now e
    c.in_ok-make_constants.ensures.ranks c.in_ok-make_constants.ensures.limit)
    (before t s w p c.args.planned made may i))

pub returns-clause-refused : goal.returns-clause-refused
returns-clause-refused c = λ p made may i.
    let t = c.args.claim.now.theory in let s = c.args.claim.now.statement in let w = c.args.work.now in
    let z = work_stands t s w p may.may_work in
    let e = c.as_slice.ensures ∙ constants_planned p c.args.planned made _ c.in_ok-constants.ensures i in
    subst (Tells (begun made p)) (sym c.command_refusal.ensures)
    (told_so (begun made p) c.in-Err.refusal
    (c.in-Err.ensures.refused p z.0 z.1.0 made
    (over_with t s w p may.may_work made c.make_constants.new.self c.as_slice.result.now e
    c.in_ok-make_constants.ensures.ranks c.in_ok-make_constants.ensures.limit)
    (before t s w p c.args.planned made may i)))
