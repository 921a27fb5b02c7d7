use Rattle.std.proofs.Common.{ℕ, ◌+◌, ◌*◌, ◌≤◌, ◌++◌, List, take, sum_by, All}
use Rattle.std.specs.Prelude.{nat_eq, reverse}
use Rattle.std.specs.HashMap.{get}
use Rattle.larch_term.specs.Tree.{Tree, nodes}
use Rattle.larch_verify_pool.specs.Pooled.{tree_in}
use Rattle.larch_verify_pool.specs.Tasks.{AreTasks, effort}
use Rattle.larch_verify_pool.specs.declared.exchanging.Rule.{Rule}
use Rattle.larch_verify_pool.proofs.exchanging.push_missing.Given as goal

-- the contract, as far as the loop has come
abbrev pub invariant-loop-number : goal.invariant-loop-number
invariant-loop-number l = record {
  tasks : (us : List Tree) (rule : Rule) (t : ℕ) (ns : List ℕ) → All (λ q. q ≤ t) l.numbers
      → AreTasks us rule t (get nat_eq l.done) (take l.number-index l.numbers ++ ns) (reverse l.initial.tasks.items)
      → AreTasks us rule t (get nat_eq l.done) ns (reverse l.tasks.items);
  effort : (us : List Tree) → sum_by (effort us) (reverse l.tasks.items)
      ≤ sum_by (λ q. 2 * nodes (tree_in us q)) (take l.number-index l.numbers)
      + sum_by (effort us) (reverse l.initial.tasks.items);
}
