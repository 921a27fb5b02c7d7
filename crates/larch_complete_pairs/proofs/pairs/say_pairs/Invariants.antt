use Rattle.std.specs.Prelude.{◌≡◌, ◌++◌, All, map, take}
use Rattle.larch_complete_meaning.specs.Pairs.{as_equation}
use Rattle.larch_complete_pairs.specs.Said.{IsSaid, sides_in}
use Rattle.larch_complete_pairs.proofs.pairs.say_pairs.Given as goal
use Rattle.larch_derive.specs.Predicates.{Extends}

-- the equations of the pairs so far wait, and lines say all that wait
abbrev pub invariant-loop-pair : goal.invariant-loop-pair
invariant-loop-pair l = record {
  wait : map sides_in l.waiting.items ≡ map sides_in l.fn.waiting.items ++ map as_equation (take l.pair-index l.pairs);
  said : All (IsSaid l.builder) l.waiting.items;
  extends : Extends l.fn.builder l.builder;
}
