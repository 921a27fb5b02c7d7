use Rattle.std.proofs.Common.{◌≡◌, false, None, Some, sym, ◌∙◌, arith}
use Rattle.std.proofs.lemmas.Grind.{common_steps}
use Rattle.larch_term.specs.Statement.{statement_zero}
use Rattle.larch_prove_plans.specs.ClauseGoals.{generates}
use Rattle.larch_prove_plans.proofs.Generating.{first_behind}
use Rattle.larch_prove_plans.proofs.clauses.generating_clause.Goals as goal

pub returns-in-Some-clause-first : goal.returns-in-Some-clause-first
returns-in-Some-clause-first c =
    let f : generates c.args.sort.now statement_zero ≡ false = grind (arith, common_steps) in
    first_behind (generates c.args.sort.now) statement_zero c.args.statements.now (Some c.in-Some.number) f
    (sym c.in-Some.is ∙ c.stated_clause.ensures.first)

pub returns-in-None-clause-first : goal.returns-in-None-clause-first
returns-in-None-clause-first c =
    let f : generates c.args.sort.now statement_zero ≡ false = grind (arith, common_steps) in
    first_behind (generates c.args.sort.now) statement_zero c.args.statements.now None f
    (sym c.in-None.is ∙ c.stated_clause.ensures.first)
