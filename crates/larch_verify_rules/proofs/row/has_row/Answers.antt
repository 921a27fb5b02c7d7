use Rattle.std.proofs.Common.{not, if◌then◌else◌, sym, ◌∙◌, ap}
use Rattle.larch_verify_rules.proofs.Rows.{mark_some, mark_none}
use Rattle.larch_verify_rules.proofs.row.has_row.Goals as goal

pub returns-in_default : goal.returns-in_default
returns-in_default c s =
    mark_none c.built_in.result c.args.number s c.args.sorted c.built_in.ensures (sym c.row.ensures ∙ c.in_default.is)

pub returns-then-row : goal.returns-then-row
returns-then-row c s =
    ap (λ b. if b then c.args.sorted else not c.args.sorted) (sym c.if-row.true)
    ∙ mark_some c.built_in.result c.args.number s c.in-Some.row c.args.sorted c.built_in.ensures
    (sym c.row.ensures ∙ c.in-Some.is)

pub returns-else-row : goal.returns-else-row
returns-else-row c s =
    ap (λ b. if b then c.args.sorted else not c.args.sorted) (sym c.if-row.false)
    ∙ mark_some c.built_in.result c.args.number s c.in-Some.row c.args.sorted c.built_in.ensures
    (sym c.row.ensures ∙ c.in-Some.is)
