use Rattle.std.proofs.Common.{◌≡◌, ◌<◌, All, length, map, take}
use Rattle.larch_verify_meaning.specs.Matching.{variable_of}
use Rattle.larch_verify_pool.specs.Pooled.{tree_in, Grows}
use Rattle.larch_verify_box_rules.specs.Variables.{term_of}
use Rattle.larch_verify_box_rules.proofs.fresh.variable_numbers.Given as goal

-- the numbers so far are those of the variables so far
abbrev pub invariant-loop-variable : goal.invariant-loop-variable
invariant-loop-variable l = record {
  grows : Grows l.fn.pool l.pool;
  within : All (λ n. n < length l.pool.trees) l.numbers.items;
  trees : map (tree_in l.pool.trees) l.numbers.items
      ≡ map term_of (map variable_of (take l.variable-index l.variables));
}
