-- Tables that tell what terms read as.
use Rattle.std.specs.Prelude.{List, [], ℕ, ◌∷◌, ◌≡◌}
use Rattle.larch_raw.specs.RawTree.{RawTree}
use Rattle.larch_term.specs.Operator.{PlainOperator}
use Rattle.larch_term.specs.Sorts.{sort_of}
use Rattle.larch_term.specs.Tree.{Tree}
use Rattle.larch_sorts_signature.specs.SortsMeaningFound.{Tells}
use Rattle.larch_sorts_signature.specs.SortsMeaningReadings.{Reads}
use Rattle.larch_sorts_signature.specs.SortsMeaningScope.{Variables}
use Rattle.larch_sorts_signature.specs.Table.{Entries, reading_at}

-- a table tells of each sort what has a property and the sort
abbrev pub TableTells : Entries → (Tree → Type 0) → Type 0
TableTells es P = (s : List ℕ) → Tells (reading_at es s) (λ t. P t × (sort_of t ≡ s))

-- these tables tell what terms read as, one by one
abbrev pub AllTell : List PlainOperator → Variables → List Entries → List RawTree → Type 0
AllTell fs vs [] [] = Unit {0}
AllTell fs vs [] (raw ∷ raws) = ⊥
AllTell fs vs (es ∷ tables) [] = ⊥
AllTell fs vs (es ∷ tables) (raw ∷ raws) = TableTells es (Reads fs vs raw) × AllTell fs vs tables raws
