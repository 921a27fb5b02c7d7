use Rattle.std.proofs.Common.{◌≡◌, take}
use Rattle.larch_term.proofs.copying.+copy.Given as goal

-- the terms so far are copied
abbrev pub invariant-copy_all-loop-term : goal.invariant-copy_all-loop-term
invariant-copy_all-loop-term l = l.copies.items ≡ take l.term-index l.term-items
