use Rattle.larch_term_law.proofs.PlacesOf.{place_is_listed, stands_at_listed, subterms_at_places, listed_place_once}
use Rattle.larch_term_law.proofs.PlacesOf.{count_of_places}
use Rattle.larch_term_law.proofs.laws.places_are_listed.Goals as goal

pub returns : goal.returns
returns c =
    record {
      listed = place_is_listed;
      stands = stands_at_listed;
      preorder = subterms_at_places;
      once = listed_place_once;
      count = count_of_places;
    }
