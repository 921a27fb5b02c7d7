use Rattle.larch_duties.specs.Kept.{theory_in}
use Rattle.larch_duties.proofs.Lines.{clause_step}
use Rattle.larch_duties.proofs.printing.write_clauses.Goals as goal

pub loop-conversion-preserved : goal.loop-conversion-preserved
loop-conversion-preserved c =
    clause_step c.args.count (theory_in c.args.flat.now) c.args.conversions.now c.loop-conversion.conversion-index
    c.conversion-item.result c.loop-conversion.next c.in_ok-next.next c.in_ok-clause.clause c.loop-conversion.text
    c.write_clause.new.text _ c.loop-conversion-test.true c.conversion-item.is c.in_ok-clause.ensures
    c.in_ok-write_clause.ensures c.in_ok-next.ensures c.loop-conversion.invariant
