use Rattle.std.specs.Prelude.{nat_eq}
use Rattle.std.specs.HashMap.{get}
use Rattle.larch_term.specs.Substitution.{instance_of}
use Rattle.larch_verify_pool.specs.Substitution.{entries_of}
use Rattle.larch_verify_pool.specs.declared.exchanging.Rule.TheVariants.{Table}
use Rattle.larch_verify_pool.proofs.SubstitutionExchanges.{substitution_exchanges, table_within}
use Rattle.larch_verify_pool.proofs.substitution.substitute.Goals as goal

pub exchange-requires-clause-rule : goal.exchange-requires-clause-rule
exchange-requires-clause-rule c =
    table_within c.args.pool.now.trees c.args.by.now (Table c.in_ok-images.images) c.requires.by
    (λ q _. c.in_ok-images.ensures q)

pub returns-clause-tree : goal.returns-clause-tree
returns-clause-tree c =
    c.in_ok-number.ensures.tree (instance_of (entries_of c.args.pool.now.trees c.args.by.now))
    (substitution_exchanges c.args.pool.now.trees c.args.by.now (get nat_eq c.in_ok-images.images) c.are_apart.ensures
    c.requires.by c.in_ok-images.ensures)
