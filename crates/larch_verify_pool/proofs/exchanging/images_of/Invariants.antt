use Rattle.std.proofs.Common.{◌≡◌, take, map, Some}
use Rattle.std.specs.Prelude.{nat_eq}
use Rattle.std.specs.HashMap.{get}
use Rattle.larch_verify_pool.proofs.exchanging.images_of.Given as goal

abbrev pub invariant-loop-number : goal.invariant-loop-number
invariant-loop-number l = map (get nat_eq l.done) (take l.number-index l.numbers) ≡ map Some l.images.items
