use Rattle.std.proofs.Common.{◌≡◌, map, take}
use Rattle.larch_verify_box_rules.proofs.matching.have_sorts.Given as goal

-- the sorts so far are the same
abbrev pub invariant-loop-i : goal.invariant-loop-i
invariant-loop-i l = map (λ p. p.sort) (take l.i l.parts) ≡ take l.i l.sorts
