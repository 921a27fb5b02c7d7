use Rattle.std.proofs.Common.{◌≡◌, Some, IfOk, sym, ◌∙◌, subst}
use Rattle.larch_tables.specs.declared.statement.RowRefusal.TheVariants.{NoRow}
use Rattle.larch_tables.proofs.Identities.{offered_identity}
use Rattle.larch_tables.proofs.Offered.{no_row, not_offered, offered_equation, said, not_said}
use Rattle.larch_tables.specs.Statement.{offered_row, IsIdentityStatement}
use Rattle.larch_tables.proofs.statement.row_statement.Goals as goal

pub returns-in_default-clause-no_row : goal.returns-in_default-clause-no_row
returns-in_default-clause-no_row c e =
    no_row c.built_in.result c.args.number c.args.sort.now c.built_in.ensures (sym c.row.ensures ∙ c.in_default.is)

pub returns-then-not-is_offered-clause-no_row : goal.returns-then-not-is_offered-clause-no_row
returns-then-not-is_offered-clause-no_row c e =
    not_offered c.built_in.result c.args.number c.args.sort.now c.in-Some.row c.built_in.ensures
    (sym c.row.ensures ∙ c.in-Some.is)
    (sym c.is_offered.ensures ∙ c.if-not-is_offered.true)

-- what was read is what is offered
read : (c : goal.After-ok_or) → offered_row c.args.number c.args.sort.now ≡ c.in_ok-equation.equation
read c =
    offered_equation c.built_in.result c.args.number c.args.sort.now c.in-Some.row c.built_in.ensures
    (sym c.row.ensures ∙ c.in-Some.is)
    (sym c.is_offered.ensures ∙ c.if-not-is_offered.false) ∙ sym c.in_ok-equation.ensures

pub returns-clause-row : goal.returns-clause-row
returns-clause-row c =
    subst (λ r. IfOk r (λ statement. offered_row c.args.number c.args.sort.now ≡ Some statement))
    (sym c.ok_or.ensures.value)
    (said (λ statement. offered_row c.args.number c.args.sort.now ≡ Some statement) c.in_ok-equation.equation NoRow
    (λ x q. read c ∙ q))

pub returns-clause-no_row : goal.returns-clause-no_row
returns-clause-no_row c e = read c ∙ not_said c.in_ok-equation.equation NoRow (sym c.ok_or.ensures.value ∙ e)

pub returns-clause-identity : goal.returns-clause-identity
returns-clause-identity c =
    subst (λ r. IfOk r (λ statement. IsIdentityStatement statement)) (sym c.ok_or.ensures.value)
    (said IsIdentityStatement c.in_ok-equation.equation NoRow
    (λ x q. offered_identity c.args.sort.now c.args.number x (read c ∙ q)))
