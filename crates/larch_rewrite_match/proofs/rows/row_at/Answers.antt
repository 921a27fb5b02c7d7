use Rattle.std.proofs.Common.{Some, sym, ◌∙◌, ap, subst}
use Rattle.larch_rewrite_meaning.specs.Sides.{sides_of}
use Rattle.larch_rewrite_meaning.specs.TablesStatement.{offered_row}
use Rattle.larch_rewrite_match.specs.Rule.{RowSays}
use Rattle.larch_rewrite_match.proofs.RowSteps.{row_given, row_is_offered, row_said}
use Rattle.larch_rewrite_match.proofs.rows.row_at.Goals as goal

pub returns-clause-sides : goal.returns-clause-sides
returns-clause-sides c =
    row_given c.built_in.result c.args.number c.args.sort.now c.in-Some.row c.in_ok-statement.statement
    c.built_in.ensures
    (sym c.row.ensures ∙ c.in-Some.is)
    (ap (offered_row c.args.number) (sym c.in_ok-at.ensures) ∙ c.in_ok-statement.ensures.offered)
    ∙ ap (λ y. Some (sides_of y)) c.in_ok-rule.ensures.0

pub returns-clause-reason : goal.returns-clause-reason
returns-clause-reason c =
    subst (λ w. RowSays w c.in_ok-rule.rule.left c.in_ok-rule.rule.right)
    (sym (c.in_ok-rule.ensures.1 ∙ c.in_ok-reason.ensures))
    (row_said c.built_in.result c.args.number c.args.sort.now c.in-Some.row c.in_ok-statement.statement
    c.built_in.ensures
    (sym c.row.ensures ∙ c.in-Some.is)
    (ap (offered_row c.args.number) (sym c.in_ok-at.ensures) ∙ c.in_ok-statement.ensures.offered)
    ∙ ap Some c.in_ok-rule.ensures.0)

pub equation-requires : goal.equation-requires
equation-requires c =
    row_is_offered c.built_in.result c.args.number c.args.sort.now c.in_ok-at.at c.in-Some.row c.built_in.ensures
    (sym c.row.ensures ∙ c.in-Some.is) c.in_ok-at.ensures
