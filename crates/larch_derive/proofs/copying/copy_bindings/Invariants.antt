use Rattle.std.proofs.Common.{◌≡◌, take}
use Rattle.larch_derive.proofs.copying.copy_bindings.Given as goal

-- the replacements so far are copied
abbrev pub invariant-loop-binding : goal.invariant-loop-binding
invariant-loop-binding l = l.copied ≡ take l.binding-index l.bindings
