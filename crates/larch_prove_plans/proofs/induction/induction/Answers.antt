use Rattle.std.proofs.Common.{rules, ◌≡◌, ◌∷◌, ap, sym, ◌∙◌, None, Some}
use Rattle.std.specs.Prelude.{bytes_eq, find, option_map}
use Rattle.larch_term.specs.Statement.{statement_zero}
use Rattle.larch_term.specs.Variable.{variables_of}
use Rattle.larch_prove_meaning.specs.Plans.{generators}
use Rattle.larch_prove_plans.proofs.Planned.{generated, not_generated}
use Rattle.larch_prove_plans.proofs.induction.induction.Goals as goal

-- src/induction.rt:41:9
pub returns-in_default-2 : goal.returns-in_default-2
returns-in_default-2 c =
    let v : c.as_slice.result.now ≡ variables_of c.args.goal.now = search rules in
    let f : find (λ v. bytes_eq v.name c.args.name.now) (variables_of c.args.goal.now) ≡ Some c.in-Some.variable.now =
    ap (find (λ v. bytes_eq v.name c.args.name.now)) (sym v) ∙ sym c.variable_named.ensures
    ∙ ap (option_map (λ v. v.now)) c.in-Some.is in
    let g : generators c.in-Some.variable.now.sort (statement_zero ∷ c.args.statements.now) ≡ None = search rules in
    not_generated (record { clauses = statement_zero ∷ c.args.statements.now; taken = c.args.taken.now })
    c.args.goal.now c.args.name.now c.in-Some.variable.now f g

-- src/induction.rt:26:1
pub returns : goal.returns
returns c =
    let v : c.as_slice.result.now ≡ variables_of c.args.goal.now = search rules in
    let f : find (λ v. bytes_eq v.name c.args.name.now) (variables_of c.args.goal.now) ≡ Some c.in-Some.variable.now =
    ap (find (λ v. bytes_eq v.name c.args.name.now)) (sym v) ∙ sym c.variable_named.ensures
    ∙ ap (option_map (λ v. v.now)) c.in-Some.is in
    let g : generators c.in-Some.variable.now.sort (statement_zero ∷ c.args.statements.now)
    ≡ Some c.in-Some-2.generators = search rules in
    generated (record { clauses = statement_zero ∷ c.args.statements.now; taken = c.args.taken.now })
    c.args.goal.now c.args.name.now c.in-Some.variable.now c.in-Some-2.generators _ f g (search rules)
