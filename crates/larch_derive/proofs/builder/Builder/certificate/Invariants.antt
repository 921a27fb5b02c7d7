use Rattle.std.proofs.Common.{◌≡◌, map, take}
use Rattle.larch_derive.proofs.builder.Builder.certificate.Given as goal

-- the lines so far are copied
abbrev pub invariant-loop-line : goal.invariant-loop-line
invariant-loop-line l = l.certificate ≡ map (λ line. line.now) (take l.line-index l.line-items)
