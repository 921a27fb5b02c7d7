use Rattle.std.proofs.Common.{◌≡◌, ◌<◌, All, length, map, take}
use Rattle.larch_calculus.specs.Formula.{constant}
use Rattle.larch_verify_meaning.specs.Events.{operators_from}
use Rattle.larch_verify_pool.specs.Pooled.{tree_in, Grows}
use Rattle.larch_verify_box_rules.proofs.matching.constants_in.Given as goal

-- the numbers so far are those of the constants so far
abbrev pub invariant-loop-i : goal.invariant-loop-i
invariant-loop-i l = record {
  grows : Grows l.fn.pool l.pool;
  within : All (λ n. n < length l.pool.trees) l.numbers.items;
  trees : map (tree_in l.pool.trees) l.numbers.items
      ≡ map constant (operators_from l.known.number 1 (take l.i l.parts));
}
