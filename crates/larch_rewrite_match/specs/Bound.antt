-- Variables of a pattern, and the shared terms that they stand for.
use Rattle.std.specs.Prelude.{◌≡◌, false, All, AllPairs, List, map}
use Rattle.larch_store.specs.Numbered.{Numbered, term_of}
use Rattle.larch_store.specs.Stored.{Belongs}
use Rattle.larch_term.specs.Substitution.{is_entry_of}
use Rattle.larch_term.specs.declared.substitution.Entry.{Entry}
use Rattle.larch_rewrite_match.specs.declared.patterns.Bound.{Bound}

-- as entries of a substitution
abbrev pub entry_of : Bound → Entry
entry_of b = record { name = b.name.now; sort = b.sort.now; term = term_of b.term }

abbrev pub entries_of : List Bound → List Entry
entries_of bs = map entry_of bs

-- the terms belong to a store
abbrev pub AreBound : List Numbered → List Bound → Type 0
AreBound store bs = All (λ b. Belongs store b.term) bs

-- and no variable is bound twice
abbrev pub IsBinding : List Numbered → List Bound → Type 0
IsBinding store bs = AreBound store bs × AllPairs (λ d e. is_entry_of e.name e.sort d ≡ false) (entries_of bs)
