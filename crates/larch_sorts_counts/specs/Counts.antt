-- How often terms read at each sort.
use Rattle.std.specs.Prelude.{List, None, [], length, ℕ, ◌∷◌, ◌≡◌}
use Rattle.larch_sorts_meaning.specs.RawRawTree.{RawTree}
use Rattle.larch_sorts_meaning.specs.TermOperator.{PlainOperator}
use Rattle.larch_sorts_meaning.specs.TermSorts.{sort_of}
use Rattle.larch_sorts_counts.specs.Count.{IsCount, count_at}
use Rattle.larch_sorts_counts.specs.Numbers.{AreNumbers, number_of}
use Rattle.larch_sorts_meaning.specs.Read.{unread_in}
use Rattle.larch_sorts_meaning.specs.Readings.{Reads}
use Rattle.larch_sorts_meaning.specs.Scope.{Variables}
use Rattle.larch_sorts_meaning.specs.Signature.{taking_part}
use Rattle.larch_sorts_meaning.specs.Refusal.{Unread}
use Rattle.larch_sorts_counts.specs.declared.count.Count.{Count}
use Rattle.larch_sorts_counts.specs.declared.count.Count.TheVariants.{Never}
use Rattle.larch_sorts_counts.specs.declared.numbers.Numbers.{Numbers}
use Rattle.larch_sorts_meaning.specs.declared.refusal.ReadRefusal.{ReadRefusal}

-- the counts tell of each number how often a term reads at sorts of that number
abbrev pub CountsTell : List (List ℕ) → List PlainOperator → Variables → RawTree → List Count → Type 0
CountsTell ss fs vs raw counts =
    (i : ℕ) → IsCount (count_at counts i) (λ t. Reads fs vs raw t × (number_of ss (sort_of t) ≡ i))

-- the same over all operators that these are the numbers of
abbrev pub AreCounts : Numbers → Variables → RawTree → List Count → Type 0
AreCounts numbers vs raw counts =
    (fs : List PlainOperator) → AreNumbers numbers (taking_part fs) → CountsTell numbers.sorts.keys fs vs raw counts

-- the same of terms, one by one, where each sort that they have has a number
abbrev pub AllCounts : Numbers → Variables → List RawTree → List (List Count) → Type 0
AllCounts numbers vs [] [] = Unit {0}
AllCounts numbers vs [] (counts ∷ further) = ⊥
AllCounts numbers vs (raw ∷ raws) [] = ⊥
AllCounts numbers vs (raw ∷ raws) (counts ∷ further) =
    AreCounts numbers vs raw counts × (count_at counts (length numbers.sorts.keys) ≡ Never)
    × AllCounts numbers vs raws further

-- each of these terms has a reading
abbrev pub AreRead : Numbers → Variables → List RawTree → Type 0
AreRead numbers vs raws =
    (fs : List PlainOperator) → AreNumbers numbers (taking_part fs) → unread_in fs vs raws ≡ None

-- a refusal tells the first of these terms that has no reading
abbrev pub TellsUnread : Numbers → Variables → List RawTree → ReadRefusal → Type 0
TellsUnread numbers vs raws refusal =
    (fs : List PlainOperator) → AreNumbers numbers (taking_part fs) → Unread refusal (unread_in fs vs raws)
