use Rattle.std.proofs.Common.{sym, arith}
use Rattle.larch_flat.proofs.Parts.{no_more, renamed_next}
use Rattle.larch_flat.proofs.taking.renamed_marked.Goals as goal
use Rattle.larch_flat.proofs.taking.renamed_marked.Goals.{in-Some+in_ok-statement+in_ok-insert, in_default}

pub loop-index-preserved : goal.loop-index-preserved
loop-index-preserved c =
    elim c.match-get.branch [
      | in-Some+in_ok-statement+in_ok-insert w ↦
          let at = rw w.in-Some.is at c.get.ensures in
          rw w.renamed-is
          (renamed_next c.args.names.now c.loop-index.renamed w.insert.new.self c.args.marked.now c.loop-index.index
          w.in-Some.statement.now w.in_ok-statement.statement w.in-Some.assumed _
          (omega arith) at w.in_ok-statement.ensures w.in_ok-insert.ensures c.loop-index.invariant)
      | in_default w ↦
          absurd (let none = rw w.in_default.is at c.get.ensures in
          no_more c.args.marked.now c.loop-index.index (omega arith) none)
    ]
