use Rattle.std.proofs.Common.{◌+◌, ◌∙◌, sym, ap, drop, arith}
use Rattle.larch_certificate_text.specs.ListText.{split_at}
use Rattle.larch_models_meaning.specs.ModelText.{read_tables}
use Rattle.larch_models.proofs.ModelLines.{more_follows, not_empty, table_further, table_missing}
use Rattle.larch_models.proofs.model_text.put_tables.Goals as goal

pub returns-in_default-clause-refused : goal.returns-in_default-clause-refused
returns-in_default-clause-refused c =
    sym c.loop-i.invariant.same
    ∙ table_missing c.args.sorts.now c.loop-i.tables c.args.operators.now c.loop-i.i c.loop-i.number
    c.index-operators-i.result c.loop-i.rest.now c.loop-i-test.true c.index-operators-i.is c.in_default.ensures.none

pub loop-i-preserved : goal.loop-i-preserved
loop-i-preserved c =
    let shorter = c.in-Some.ensures.some.shorter in
    record {
      same =
          ap (λ ts. read_tables c.args.sorts.now ts (c.loop-i.i + 1 + 1) (drop (c.loop-i.i + 1) c.args.operators.now)
          (c.loop-i.number + 1) (split_at 10 c.in-Some.others.now)) c.in_ok-push.ensures.ok
          ∙ table_further c.args.sorts.now c.loop-i.tables c.args.operators.now c.loop-i.i c.loop-i.number
          c.index-operators-i.result c.loop-i.rest.now c.in-Some.line.now c.in-Some.others.now c.in-Some-2.table
          c.loop-i-test.true c.index-operators-i.is c.in-Some.ensures.some
          (sym c.in-Some-2.is ∙ c.in_ok-table.ensures)
          ∙ c.loop-i.invariant.same;
      small = omega (arith, c.loop-i.invariant.small, shorter);
    }

pub returns-else-is_empty-clause-refused : goal.returns-else-is_empty-clause-refused
returns-else-is_empty-clause-refused c =
    sym c.loop-i.invariant.same
    ∙ more_follows c.args.sorts.now c.loop-i.tables c.args.operators.now c.loop-i.i c.loop-i.number c.loop-i.rest.now
    c.loop-i-test.false (not_empty _ c.if-is_empty.ensures)
