-- The numbers of a domain, however they are held.
use Rattle.std.specs.Prelude.{List, [], ℕ}
use Rattle.std.specs.Rc.{rc_slice_items}
use Rattle.larch_sorts_counts.specs.declared.number_list.Held.{Held}
use Rattle.larch_sorts_counts.specs.declared.number_list.Held.TheVariants.{Many, Nothing, One, Three, Two}

abbrev pub view_held : Held → List ℕ
view_held Nothing = []
view_held (One ns) = ns
view_held (Two ns) = ns
view_held (Three ns) = ns
view_held (Many ns) = rc_slice_items ns
