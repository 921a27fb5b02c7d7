use Rattle.larch_derive_clauses.proofs.Generation.{generated_extends}
use Rattle.larch_derive_clauses.proofs.clauses.push_generated.Goals as goal

pub returns-clause-extends : goal.returns-clause-extends
returns-clause-extends c =
    λ fs own ranges shown.
    generated_extends c.args.builder.now c.push.new.self c.args.number c.in_ok-number.number c.args.sort
    c.args.operators
    fs c.in_ok-number.ensures.ok own ranges shown
