-- The duties of a trait are the same among others that say the same of what is reached.
use Rattle.std.proofs.Common.{◌≡◌, ap, ◌≤◌, arith, ℕ, length, List, Ok}
use Rattle.larch_base_meaning.specs.Steps.{after}
use Rattle.larch_flat_meaning.specs.Reached.{AgreeOn, AreReached}
use Rattle.larch_duties_meaning.specs.Claims.{claims_in}
use Rattle.larch_duties_meaning.proofs.Reached.{duties_elsewhere as elsewhere}
use Rattle.larch_flat.specs.FlatSourcesSources.{Table, files_in, names_in}
use Rattle.larch_flat.proofs.FlatSourcesTables.{among, names_length}
use Rattle.larch_duties.specs.TraitDuties.{trait_claims, trait_duties}

as_many : (sources : Table) → length (names_in sources) ≤ length sources
as_many sources = let e = names_length sources in omega (arith, e)

pub duties_elsewhere : (sources others : Table) (name : List ℕ) (names : List (List ℕ))
    → AreReached (files_in sources) name names → AgreeOn names (files_in sources) (files_in others)
    → trait_duties sources name ≡ trait_duties others name
duties_elsewhere sources others name names r a =
    elsewhere (files_in sources) (files_in others) (names_in sources) (names_in others) (among sources) (among others)
    name names r a (length sources) (length others) (as_many sources) (as_many others)

pub claims_elsewhere : (sources others : Table) (name : List ℕ) (names : List (List ℕ))
    → AreReached (files_in sources) name names → AgreeOn names (files_in sources) (files_in others)
    → trait_claims sources name ≡ trait_claims others name
claims_elsewhere sources others name names r a =
    ap (λ d. after d (λ e. Ok (claims_in e))) (duties_elsewhere sources others name names r a)
