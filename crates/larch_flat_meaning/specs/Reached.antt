-- What is reached over all references of a trait, those of what it implies among them.
use Rattle.std.specs.Prelude.{◌≡◌, ℕ, true, false, bytes_eq, List, [], ◌∷◌, ◌++◌, map, Contains}
use Rattle.std.specs.Prelude.{Option, Some, None, Result, Ok, Err}
use Rattle.std.specs.List.{list_any}
use Rattle.larch_base.specs.declared.fault.Fault.{Fault}
use Rattle.larch_raw.specs.declared.equation.RawTrait.{RawTrait}
use Rattle.larch_raw.specs.declared.reference.RawRef.{RawRef}
use Rattle.larch_flat_meaning.specs.Files.{Files, target}

-- the name of the trait that an implied reference names
abbrev pub implied_target : RawRef → List ℕ
implied_target r = r.name.name

-- the names that all references of a text name, those that it implies behind the others: none where there is no text,
-- or something is wrong with it
abbrev pub all_targets_in : Option (Result RawTrait Fault) → List (List ℕ)
all_targets_in None = []
all_targets_in (Some (Err fault)) = []
all_targets_in (Some (Ok raw)) = map target raw.references ++ map implied_target raw.implied

-- Where some names were visited, and these are to be visited next, all of these are visited in the end. A name that was
-- visited is passed over; behind one that wasn't come first the names that its references name.
pub data Visits (files : Files) : List (List ℕ) → List (List ℕ) → List (List ℕ) → Type 0 where
  at_end : {seen : List (List ℕ)} → Visits files seen [] seen
  again : {n : List ℕ} {seen next all : List (List ℕ)} → list_any (bytes_eq n) seen ≡ true
      → Visits files seen next all → Visits files seen (n ∷ next) all
  first : {n : List ℕ} {seen next all : List (List ℕ)} → list_any (bytes_eq n) seen ≡ false
      → Visits files (seen ++ n ∷ []) (all_targets_in (files n) ++ next) all → Visits files seen (n ∷ next) all

-- the names that are reached from one over all references, itself and names without files among them, each once, in the
-- order in which they are first visited
abbrev pub AreReached : Files → List ℕ → List (List ℕ) → Type 0
AreReached files name names = Visits files [] (name ∷ []) names

-- references of any kind lead from one name to another, in some number of steps
pub data Leads (files : Files) : List ℕ → List ℕ → Type 0 where
  nowhere : {a : List ℕ} → Leads files a a
  one_more : {a b c : List ℕ} → Contains (all_targets_in (files a)) b → Leads files b c → Leads files a c

-- files say the same of each of these names
abbrev pub AgreeOn : List (List ℕ) → Files → Files → Type 0
AgreeOn names files other = (m : List ℕ) → Contains names m → files m ≡ other m
