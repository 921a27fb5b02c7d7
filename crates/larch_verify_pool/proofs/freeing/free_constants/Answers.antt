use Rattle.larch_verify_pool.specs.Freeing.{freed_by}
use Rattle.larch_verify_pool.proofs.FreeingExchanges.{freeing_exchanges, constants_within}
use Rattle.larch_verify_pool.proofs.freeing.free_constants.Goals as goal

pub exchange-requires-clause-rule : goal.exchange-requires-clause-rule
exchange-requires-clause-rule c =
    constants_within c.args.pool.now.trees c.args.of_box c.args.first c.args.images c.requires.images

pub returns-clause-tree : goal.returns-clause-tree
returns-clause-tree c =
    c.in_ok-number.ensures.tree (freed_by c.args.pool.now.trees c.args.of_box c.args.first c.args.images)
    (freeing_exchanges c.args.pool.now.trees c.args.of_box c.args.first c.args.images c.requires.images)
