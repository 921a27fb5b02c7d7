-- Where the loop leaves off.
use Rattle.std.proofs.Common.{◌∙◌, ◌≤◌, length, arith, subst}
use Rattle.larch_main_files.specs.Look.{GatherFaults}
use Rattle.larch_main_files.proofs.Gathers.{ends_at, refused_at, went_on}
use Rattle.larch_main_files.proofs.Turns.{searched_all, searched_on, searched_until}
use Rattle.larch_main_files.proofs.gather.gather.Goals as goal

pub returns-in-Err-clause-found : goal.returns-in-Err-clause-found
returns-in-Err-clause-found g c =
    refused_at _ _ c.loop-name.invariant.same c.args.names.now c.loop-name.files c.look.new.files c.loop-name.name-index
    c.name-item.result c.loop-name-test.true c.name-item.is c.loop-name.invariant.gathers c.in-Err.refusal
    c.refusal_for.result c.in-Err.ensures.looks (rw c.bytes.ensures at c.refusal_for.ensures.refusal)

pub returns-in-Err-clause-faults : goal.returns-in-Err-clause-faults
returns-in-Err-clause-faults g c =
    subst (λ n. GatherFaults c.refusal_for.result n (g.F.Folder.faults c.look.new.folder)) c.loop-name.invariant.fine
    (c.refusal_for.ensures.faults _ _ c.in-Err.ensures.faults)

pub loop-name-preserved : goal.loop-name-preserved
loop-name-preserved g c = record {
  gathers =
      went_on _ _ c.loop-name.invariant.same c.args.names.now c.loop-name.files c.look.new.files c.loop-name.name-index
      c.name-item.result
      c.loop-name-test.true c.name-item.is c.loop-name.invariant.gathers _ c.in-Ok.ensures.looks;
  same = c.look.ensures.same ∙ c.loop-name.invariant.same;
  fine = c.in-Ok.ensures.fine ∙ c.loop-name.invariant.fine;
  searched =
      searched_on _ _ _ _ c.args.names.now c.loop-name.name-index c.name-item.result c.loop-name.files c.look.new.files
      c.loop-name-test.true c.name-item.is c.loop-name.invariant.searched _ c.loop-name.invariant.same _
      c.in-Ok.ensures.looks c.look.ensures.looked;
}

pub returns-clause-found : goal.returns-clause-found
returns-clause-found g c =
    let past : length c.args.names.now ≤ c.loop-name.name-index = omega (arith, c.loop-name-test.false) in
    ends_at _ c.args.names.now c.loop-name.files c.loop-name.name-index past c.loop-name.invariant.gathers

pub returns-in-Err-clause-looks : goal.returns-in-Err-clause-looks
returns-in-Err-clause-looks g c =
    searched_until _ _ _ _ c.args.names.now c.loop-name.name-index c.name-item.result c.loop-name.files
    c.look.new.files c.loop-name-test.true c.name-item.is c.loop-name.invariant.searched c.look.ensures.looked

pub returns-clause-looks : goal.returns-clause-looks
returns-clause-looks g c =
    let past : length c.args.names.now ≤ c.loop-name.name-index = omega (arith, c.loop-name-test.false) in
    searched_all _ _ _ c.args.names.now c.loop-name.name-index c.loop-name.files past c.loop-name.invariant.searched
