use Rattle.std.proofs.Common.{◌≡◌, ◌++◌, take}
use Rattle.larch_store.proofs.layer.Layer.put_all.Given as goal

-- those so far stand behind the others
abbrev pub invariant-loop-index : goal.invariant-loop-index
invariant-loop-index l = l.self ≡ l.initial.self ++ take l.index l.others
