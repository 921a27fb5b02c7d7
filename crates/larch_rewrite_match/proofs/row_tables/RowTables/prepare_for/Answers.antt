use Rattle.larch_rewrite_match.proofs.Tables.{table_put}
use Rattle.larch_rewrite_match.proofs.row_tables.RowTables.prepare_for.Goals as goal

pub invariant_of-self-in_ok-insert : goal.invariant_of-self-in_ok-insert
invariant_of-self-in_ok-insert c =
    table_put c.self.inside.tables.entries c.insert.new.self.entries c.in_ok-sort.sort c.in_ok-rows.rows
    (λ z. c.in_ok-insert.ensures.updates.0 z)
    (c.in_ok-rows.ensures.sides, c.in_ok-rows.ensures.reasons, c.in_ok-rows.ensures.rules) c.self.invariant
