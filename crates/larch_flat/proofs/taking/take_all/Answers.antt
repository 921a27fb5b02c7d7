use Rattle.std.proofs.Common.{sym, arith}
use Rattle.larch_flat.proofs.Parts.{no_more, taken_next}
use Rattle.larch_flat.proofs.taking.take_all.Goals as goal
use Rattle.larch_flat.proofs.taking.take_all.Goals.{in-Some+in_ok-statement+in_ok-take_marked, in_default}

pub loop-index-preserved : goal.loop-index-preserved
loop-index-preserved c = λ g k.
    elim c.match-get.branch [
      | in-Some+in_ok-statement+in_ok-take_marked w ↦
          let at = rw w.in-Some.is at c.get.ensures in
          rw w.store-is
          (taken_next c.args.assumes c.loop-index.store w.take_marked.new.self c.args.marked.now c.loop-index.index
          w.in-Some.statement.now w.in_ok-statement.statement w.in-Some.assumed _
          (omega arith) at w.in_ok-statement.ensures w.in_ok-take_marked.ensures (c.loop-index.invariant g k))
      | in_default w ↦
          absurd (let none = rw w.in_default.is at c.get.ensures in
          no_more c.args.marked.now c.loop-index.index (omega arith) none)
    ]
