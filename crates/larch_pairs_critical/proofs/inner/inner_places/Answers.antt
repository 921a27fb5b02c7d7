-- Below the root stands the place itself.
use Rattle.larch_pairs_critical.specs.Pairs.{inner_places}
use Rattle.larch_pairs_critical.proofs.Listing.{behind_found}
use Rattle.larch_pairs_critical.proofs.inner.inner_places.Goals as goal

pub returns : goal.returns
returns c =
    behind_found c.add_places.new.found c.new-found.result c.new-root.result (inner_places c.args.term.now)
    c.in_ok-add_places.ensures c.new-found.ensures c.new-root.ensures
