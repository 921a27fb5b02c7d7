-- The places of one argument more.
use Rattle.larch_pairs_critical.proofs.Listing.{places_next}
use Rattle.larch_pairs_critical.proofs.inner.+places.Goals as goal

pub add_argument_places-loop-i-preserved : goal.add_argument_places-loop-i-preserved
add_argument_places-loop-i-preserved t c =
    places_next c.loop-i.found _ c.add_places.new.found c.args.above.now c.in_ok-place.place c.loop-i.i c.args.terms.now
    c.index-terms-i.result c.loop-i-test.true c.index-terms-i.is c.in_ok-place.ensures
    c.in_ok-add_places.ensures
    c.loop-i.invariant
