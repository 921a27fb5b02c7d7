use Rattle.std.specs.Prelude.{◌≡◌, ◌++◌, All, drop, map}
use Rattle.std.specs.List.{flat_map}
use Rattle.larch_complete.specs.Stated.{AreStated}
use Rattle.larch_complete.proofs.equations.state_equations.Given as goal
use Rattle.larch_complete_pairs.specs.Said.{IsSaid, sides_in}
use Rattle.larch_derive.specs.Predicates.{Extends}
use Rattle.larch_rewrite_meaning.specs.Sides.{sides_of}

-- the equations so far, and those of the statements that are left, are those of all statements
abbrev pub invariant-loop-index : goal.invariant-loop-index
invariant-loop-index l = record {
  sides : map sides_in l.equations ++ flat_map sides_of (drop l.index l.statements) ≡ flat_map sides_of l.statements;
  said : All (IsSaid l.builder) l.equations;
  stated : AreStated l.builder l.statements;
  extends : Extends l.fn.builder l.builder;
}
