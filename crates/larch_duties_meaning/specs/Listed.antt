-- What the examples of listings are written with.
use Rattle.std.specs.Prelude.{◌++◌, ℕ, codes, List, [], ◌∷◌, Result, Ok}
use Rattle.larch_raw.specs.declared.equation.RawTrait.{RawTrait}
use Rattle.larch_base_meaning.specs.Steps.{after}
use Rattle.larch_flat_meaning.specs.Examples.{assuming, base, files_of}
use Rattle.larch_flat_meaning.specs.Files.{Files}
use Rattle.larch_flat_meaning.specs.Flat.{flat}
use Rattle.larch_flat_meaning.specs.Stops.{Stop}
use Rattle.larch_duties_meaning.specs.Duties.{duties}
use Rattle.larch_duties_meaning.specs.Listing.{trait_listing}

-- what is written of the trait T among these files, behind the line of its name
abbrev pub listed_among : Files → Result (List ℕ) Stop
listed_among files =
    after (flat 256 files (codes "T")) (λ own. after (duties 256 files own) (λ d. Ok (trait_listing own d)))

-- the same where T is the only file
abbrev pub listed_alone : RawTrait → Result (List ℕ) Stop
listed_alone raw = listed_among (files_of ((codes "T", Ok raw) ∷ []))

-- the same among Base, a trait Weak that assumes Base, and T
abbrev pub listed_among_traits : RawTrait → Result (List ℕ) Stop
listed_among_traits raw =
    listed_among
    (files_of
    ((codes "Base", Ok base) ∷ (codes "Weak", Ok (assuming (codes "Weak") (codes "Base"))) ∷ (codes "T", Ok raw) ∷ []))

-- the lines of a function f and a constant a
abbrev pub lines_of_function : List ℕ
lines_of_function = codes "op f: S -> S\n" ++ codes "op a: -> S\n"

-- the lines of the operators of Base
abbrev pub lines_of_base : List ℕ
lines_of_base = codes "op a: -> A\n" ++ (codes "op b: -> B\n" ++ codes "op f: A -> B\n")
