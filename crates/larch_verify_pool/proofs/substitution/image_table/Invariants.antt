use Rattle.std.proofs.Common.{◌≡◌, ℕ, ◌-◌, drop, length}
use Rattle.std.specs.Prelude.{nat_eq}
use Rattle.std.specs.HashMap.{get}
use Rattle.larch_verify_pool.specs.Substitution.{found}
use Rattle.larch_verify_pool.proofs.substitution.image_table.Given as goal

abbrev pub invariant-loop-i : goal.invariant-loop-i
invariant-loop-i l = (q : ℕ) → get nat_eq l.table q ≡ found (drop (length l.by - l.i) l.by) q
