-- The duties of what is read of files.
use Rattle.std.specs.Prelude.{ℕ, List, length, Result, Ok}
use Rattle.larch_raw.specs.declared.equation.RawTrait.{RawTrait}
use Rattle.larch_base_meaning.specs.Steps.{after}
use Rattle.larch_flat_meaning.specs.Flat.{FlatTrait}
use Rattle.larch_flat_meaning.specs.Gathered.{Gathered}
use Rattle.larch_flat_meaning.specs.Stops.{Stop}
use Rattle.larch_duties_meaning.specs.Claims.{Claim, claims_in}
use Rattle.larch_duties_meaning.specs.Duties.{Duties, duties}
use Rattle.larch_duties_meaning.specs.Listing.{trait_listing}
use Rattle.larch_flat.specs.FlatSourcesSources.{Table, files_in}
use Rattle.larch_flat.specs.Parts.{flat_trait}

-- the duties of a flat trait among these files, or what is wrong with its claims first
abbrev pub claims_of : Table → FlatTrait → Result Duties Stop
claims_of sources own = duties (length sources) (files_in sources) own

-- the duties of the trait of a name, or what is wrong first: its flat trait comes before its claims
abbrev pub trait_duties : Table → List ℕ → Result Duties Stop
trait_duties sources name = after (flat_trait sources name) (claims_of sources)

-- the same duties with the numbers of their clauses
abbrev pub trait_claims : Table → List ℕ → Result (List Claim) Stop
trait_claims sources name = after (trait_duties sources name) (λ d. Ok (claims_in d))

-- what is written of the trait of a name, behind the line of its name, or what is wrong first
abbrev pub trait_listed : Table → List ℕ → Result (List ℕ) Stop
trait_listed sources name =
    after (flat_trait sources name) (λ own. after (claims_of sources own) (λ d. Ok (trait_listing own d)))

-- the flat trait of a text with what it gathers
abbrev pub flat_with : RawTrait → Gathered → FlatTrait
flat_with raw g = record { raw = raw; operators = g.operators; marked = g.marked; discharge = g.discharge }
