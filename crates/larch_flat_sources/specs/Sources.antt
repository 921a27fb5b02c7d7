-- The texts of trait files as they were read, by number.
use Rattle.std.specs.Prelude.{ℕ, List, [], get_or, bytes_eq, Result}
use Rattle.std.specs.List.{IsDistinct}
use Rattle.std.specs.Map.{keys_of, lookup}
use Rattle.indexmap.specs.IndexMap.{insert_entry}
use Rattle.larch_base.specs.declared.fault.Fault.{Fault}
use Rattle.larch_raw.specs.declared.equation.RawTrait.{RawTrait}
use Rattle.larch_flat_meaning.specs.Files.{Files, targets_in}

-- names with what their texts say: the number of a file is its place
abbrev pub Table : Type 0
Table = List (List ℕ × Result RawTrait Fault)

-- what the text of the file of each name says
abbrev pub files_in : Table → Files
files_in table name = lookup (bytes_eq name) table

-- the names of the files, by number
abbrev pub names_in : Table → List (List ℕ)
names_in table = keys_of table

-- the name of the file with a number
abbrev pub name_at : Table → ℕ → List ℕ
name_at table number = get_or (names_in table) number []

-- the table with a text in the place of the one that the file of the name had, or with one more file
abbrev pub put_text : Table → List ℕ → Result RawTrait Fault → Table
put_text table name text = insert_entry bytes_eq table name text

-- each file has a name of its own
abbrev pub AreApart : Table → Type 0
AreApart table = IsDistinct bytes_eq (names_in table)

-- the names that the file with a number refers to
abbrev pub targets_of : Table → ℕ → List (List ℕ)
targets_of table number = targets_in (files_in table (name_at table number))
