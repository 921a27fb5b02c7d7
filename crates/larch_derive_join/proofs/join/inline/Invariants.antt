use Rattle.std.proofs.Common.{◌≡◌, ◌<◌, ◌^◌, drop, length}
use Rattle.larch_derive_join.specs.Joined.{joined_from, join_parts}
use Rattle.larch_derive_join.proofs.join.inline.Given as goal

-- with the parts to come, the lines are those of all parts
abbrev pub invariant-loop-part : goal.invariant-loop-part
invariant-loop-part l = record {
  lines : joined_from l.lines l.lemmas.items (drop l.part-index l.parts) ≡ join_parts l.parts;
  fits : length l.lines < 2 ^ 64;
}
