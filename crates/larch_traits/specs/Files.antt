-- The files of a session. Each definition that reads a file reads it by `text_of`.
use Rattle.std.specs.Prelude.{ℕ, Bool, List, Option, is_some}
use Rattle.std.specs.Ordering.{nat_cmp}
use Rattle.std.specs.Cmp.Lexicographic.{slice_cmp}
use Rattle.std.specs.BTreeMap.{insert_entry, is_at}
use Rattle.std.specs.Map.{keys_of, lookup, remove_entry}

-- names with their texts, in the byte order of the names
abbrev pub Table : Type 0
Table = List (List ℕ × List ℕ)

-- the text of the file of a name, where there is one
abbrev pub text_of : Table → List ℕ → Option (List ℕ)
text_of files name = lookup (is_at (slice_cmp nat_cmp name)) files

-- a file of this name is there
abbrev pub has_file : Table → List ℕ → Bool
has_file files name = is_some (text_of files name)

-- the names, in byte order
abbrev pub names_of : Table → List (List ℕ)
names_of files = keys_of files

-- the table with the file at its place, or in the place of the file that had the name
abbrev pub put_file : Table → List ℕ → List ℕ → Table
put_file files name text = insert_entry (slice_cmp nat_cmp) files name text

-- the table without the file of a name
abbrev pub drop_file : Table → List ℕ → Table
drop_file files name = remove_entry (is_at (slice_cmp nat_cmp name)) files
