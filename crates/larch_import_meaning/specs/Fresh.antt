-- New sorts for those that a renaming doesn't name.
use Rattle.std.specs.Prelude.{◌≡◌, ℕ, ◌++◌, List, Some, replicate}
use Rattle.larch_term.specs.BuiltIn.{bool_sort}
use Rattle.larch_term.specs.declared.statement.Theory.{Theory}
use Rattle.larch_verify_meaning.specs.RenamingRenaming as maps
use Rattle.larch_import_names.specs.Apartness.{IsApart}
use Rattle.larch_import_names.specs.Names.{named_sort, renaming_or}
use Rattle.larch_import_names.specs.declared.pairs.Renaming.{Renaming}
use Rattle.larch_import_meaning.specs.Lengths.{longest}

-- so many letters before a sort
abbrev pub fresh_sort : ℕ → List ℕ → List ℕ
fresh_sort n s = replicate n 115 ++ s

-- the renaming into a theory: sorts that aren't named become longer than its own and than all new ones
abbrev pub renaming_into : Renaming → Theory → maps.Renaming
renaming_into by u = renaming_or (fresh_sort (longest by u)) by

-- no two different sorts that are named have one new sort, and Bool stays
pub record KeepsSorts (by : Renaming) : Type 0 where
  pub apart : IsApart by
  pub truth_values : named_sort by bool_sort ≡ Some bool_sort
