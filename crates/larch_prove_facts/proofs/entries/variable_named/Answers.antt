-- Variable by variable.
use Rattle.std.proofs.Common.{ap, arith, bytes_eq, sym, ◌∙◌}
use Rattle.std.specs.List.{find}
use Rattle.std.proofs.lemmas.List.{drop_all}
use Rattle.larch_prove_facts.proofs.Searching.{found_at}
use Rattle.larch_prove_facts.proofs.entries.variable_named.Goals as goal
use Rattle.larch_term.specs.declared.variable.Variable.{Variable}

pub returns-then-eq : goal.returns-then-eq
returns-then-eq c =
    sym (c.loop-variable.invariant
    ∙ found_at (λ (v : Variable). bytes_eq v.name c.args.name.now) c.args.variables.now c.loop-variable.variable-index
    c.variable-item.result _ c.loop-variable-test.true c.variable-item.is (sym c.eq.ensures ∙ c.if-eq.true))

pub loop-variable-preserved : goal.loop-variable-preserved
loop-variable-preserved c =
    c.loop-variable.invariant
    ∙ found_at (λ (v : Variable). bytes_eq v.name c.args.name.now) c.args.variables.now c.loop-variable.variable-index
    c.variable-item.result _ c.loop-variable-test.true c.variable-item.is (sym c.eq.ensures ∙ c.if-eq.false)

pub returns : goal.returns
returns c =
    sym (c.loop-variable.invariant
    ∙ ap (find (λ (v : Variable). bytes_eq v.name c.args.name.now))
    (drop_all c.loop-variable.variable-index c.args.variables.now c.loop-variable-test.false))
