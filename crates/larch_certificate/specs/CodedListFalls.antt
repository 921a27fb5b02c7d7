-- A term has more nodes than each of its arguments.
use Rattle.std.specs.Prelude.{◌+◌, ◌*◌, ◌≤◌, List, [], ◌∷◌, Option, Some, None, Vec}
use Rattle.std.specs.declared.alloc.Global.{Global}
use Rattle.std.specs.declared.rc.Rc.{Rc}
use Rattle.std.proofs.Common.{arith}
use denote.Param.Weighed.{most}
use Rattle.larch_certificate.specs.Coded.{CodedTree, coded_nodes, coded_nodes_all, coded_forest_of}
use Rattle.larch_certificate.specs.CodedItems.{items_by}
use Rattle.larch_certificate.specs.declared.coded.Coded.TheShapes.{weighed-CodedTerms-items}

pub most_le_coded_nodes_all : (ts : List CodedTree)
    → most (λ t. 2 * coded_nodes t + 1) ts ≤ 2 * coded_nodes_all (coded_forest_of ts) + 1
most_le_coded_nodes_all [] = omega arith
most_le_coded_nodes_all (t ∷ ts) = omega (arith, most_le_coded_nodes_all ts)

-- what stands in shared arguments is below them all
pub shared_below : (items : Option (Rc (Vec CodedTree Global) Global))
    → weighed-CodedTerms-items.weight CodedTree (λ t. 2 * coded_nodes t + 1) items
    ≤ 2 * coded_nodes_all (coded_forest_of (items_by (λ shared. shared.value.items) items)) + 1
shared_below None = omega arith
shared_below (Some shared) = omega (arith, most_le_coded_nodes_all shared.value.items)
