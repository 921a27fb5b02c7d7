use Rattle.std.proofs.Common.{sym, ◌∙◌, ap}
use Rattle.larch_base.specs.ByNumber.{numbered}
use Rattle.larch_tables.specs.Tables.{built_in_rows}
use Rattle.larch_verify_rules.specs.Row.{row_at, has_mark}
use Rattle.larch_verify_rules.proofs.Rows.{unmarked, marked, no_further}
use Rattle.larch_verify_rules.proofs.row.row_equation.Goals as goal

pub returns-in_default : goal.returns-in_default
returns-in_default c = ap (row_at c.args.sorted) (no_further c.args.sort.now c.args.number c.in_default.ensures)

pub returns-then-not-has_row : goal.returns-then-not-has_row
returns-then-not-has_row c =
    unmarked c.args.sorted (numbered (built_in_rows c.args.sort.now) c.args.number)
    (ap (λ n. has_mark c.args.sorted (numbered (built_in_rows c.args.sort.now) n)) (sym c.in-Ok.ensures.1)
    ∙ sym (c.has_row.ensures c.args.sort.now) ∙ c.if-not-has_row.true)

pub returns-in-Ok-row_statement : goal.returns-in-Ok-row_statement
returns-in-Ok-row_statement c =
    sym c.in-Ok-row_statement.ensures.row
    ∙ marked c.args.sorted c.in-Ok.number c.args.sort.now
    (sym (c.has_row.ensures c.args.sort.now) ∙ c.if-not-has_row.false) c.requires
    ∙ ap (λ n. row_at c.args.sorted (numbered (built_in_rows c.args.sort.now) n)) c.in-Ok.ensures.1
