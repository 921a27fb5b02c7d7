use Rattle.std.proofs.Common.{List, All, subst, sym}
use Rattle.larch_verify_clause_rules.specs.Observers.{IsObserver}
use Rattle.larch_verify_clause_rules.specs.declared.observers.Observer.{Observer}
use Rattle.larch_verify_clause_rules.proofs.partitioned.supposes_observations.Goals as goal

pub are_observed-requires-clause-observers : goal.are_observed-requires-clause-observers
are_observed-requires-clause-observers c =
    subst (λ (os : List Observer). All (IsObserver c.args.pool.now) os) (sym c.deref.ensures.value)
    (c.in_ok-observers.ensures.known c.args.pool.now c.requires.operators)
