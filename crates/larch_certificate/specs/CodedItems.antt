-- What contracts see of arguments that copies share.
use Rattle.std.specs.Prelude.{List, [], Option, Some, None}

module _ {A S : Type 0} where
  -- the items of a list, where there is one
  abbrev pub items_by : (S → List A) → Option S → List A
  items_by items None = []
  items_by items (Some list) = items list
