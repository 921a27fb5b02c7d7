use Rattle.larch_derive_clauses.proofs.Partition.{partitioned_extends}
use Rattle.larch_derive_clauses.proofs.clauses.push_partitioned.Goals as goal

pub returns-clause-extends : goal.returns-clause-extends
returns-clause-extends c =
    λ os own domains shown.
    partitioned_extends c.args.builder.now c.push.new.self c.args.number c.in_ok-number.number c.args.sort
    c.args.operators os c.in_ok-number.ensures.ok own domains shown
