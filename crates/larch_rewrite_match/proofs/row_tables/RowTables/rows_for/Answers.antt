use Rattle.std.specs.Prelude.{[], refl}
use Rattle.std.proofs.Common.{◌∙◌, ap, sym}
use Rattle.larch_store.specs.SharedView.{view_shared}
use Rattle.larch_rewrite_match.proofs.Tables.{no_rows, rows_said, rows_under}
use Rattle.larch_rewrite_match.proofs.row_tables.RowTables.rows_for.Goals as goal

pub returns-then-not-is_built_in-clause-rows : goal.returns-then-not-is_built_in-clause-rows
returns-then-not-is_built_in-clause-rows c =
    no_rows c.args.term.now _ _ c.in-Application.operator c.in-Application.field-1 [] c.is_built_in.result
    (ap (view_shared _ _) (sym c.in-Application.is) ∙ c.node.ensures) c.is_built_in.ensures
    c.if-not-is_built_in.true refl

pub returns-in-Some-clause-rows : goal.returns-in-Some-clause-rows
returns-in-Some-clause-rows c =
    rows_under c.self.inside.tables.entries c.args.term.now _ _ c.in-Application.operator c.in-Application.field-1 _
    c.in-Some.rows.now c.in_ok-sort.sort c.is_built_in.result
    (ap (view_shared _ _) (sym c.in-Application.is) ∙ c.node.ensures) c.is_built_in.ensures c.if-not-is_built_in.false
    c.in_ok-sort.ensures c.in-Some.ensures.value c.self.invariant c.with_head.ensures.suffice

pub returns-in-Some-clause-reasons : goal.returns-in-Some-clause-reasons
returns-in-Some-clause-reasons c =
    rows_said c.self.inside.tables.entries _ c.in-Some.rows.now c.in_ok-sort.sort c.in-Some.ensures.value
    c.self.invariant
    c.with_head.ensures.among
