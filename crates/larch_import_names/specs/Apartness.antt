-- When pairs keep sorts apart.
use Rattle.std.specs.Prelude.{◌≡◌, ◌||◌, Bool, not, List, Contains, bytes_eq}
use Rattle.larch_import_names.specs.declared.pairs.Renaming.{Renaming}
use Rattle.larch_import_names.specs.declared.pairs.SortPair.{SortPair}

-- no two different sorts of pairs have one new sort
abbrev pub AreApart : List SortPair → Type 0
AreApart ps = (p q : SortPair) → Contains ps p → Contains ps q → p.new ≡ q.new → p.old ≡ q.old

-- no two different sorts that are named have one new sort
abbrev pub IsApart : Renaming → Type 0
IsApart by = AreApart by.sorts

-- whether two pairs with one new sort have one old sort
abbrev pub is_apart : SortPair → SortPair → Bool
is_apart p q = not (bytes_eq p.new q.new) || bytes_eq p.old q.old
