-- What belongs to a store: a store is seen as its shared terms, in the order of their numbers.
use Rattle.std.specs.Prelude.{◌≡◌, ℕ, ◌≤◌, List, [], ◌∷◌, ◌++◌, length, take, map, All, slice_get, Some}
use Rattle.larch_term.specs.Tree.{nodes}
use Rattle.larch_store.specs.Numbered.{Numbered, term_of, number_of, size_of, children_of}
use Rattle.larch_store.specs.Key.{key_of}
use Rattle.larch_store.specs.declared.key.Key.{Key}

-- a shared term belongs to a store: it stands there under its number
unfoldable pub Belongs : List Numbered → Numbered → Type 0
Belongs store x = slice_get store (number_of x) ≡ Some x

-- all of them belong to a store
abbrev pub AllBelong : List Numbered → List Numbered → Type 0
AllBelong store xs = All (Belongs store) xs

-- a store has all shared terms of an earlier one, under their numbers
unfoldable pub Grows : List Numbered → List Numbered → Type 0
Grows old new = take (length old) new ≡ old

-- the most nodes that a term of a store has
abbrev pub most_nodes : ℕ
most_nodes = 5000

-- a shared term stands behind others: its number is next, its size is its term's, and its arguments are among them
abbrev pub StandsBehind : List Numbered → Numbered → Type 0
StandsBehind store x =
    (number_of x ≡ length store) × (size_of x ≡ nodes (term_of x)) × (nodes (term_of x) ≤ most_nodes)
    × AllBelong store (children_of x)

-- each of them stands behind those before it
unfoldable pub AllStandBehind : List Numbered → List Numbered → Type 0
AllStandBehind store [] = Unit {0}
AllStandBehind store (x ∷ xs) = StandsBehind store x × AllStandBehind (store ++ x ∷ []) xs

-- a store's shared terms, with the keys by which they are found
abbrev pub IsStore : List Key → List Numbered → Type 0
IsStore keys store = (keys ≡ map key_of store) × AllStandBehind [] store
