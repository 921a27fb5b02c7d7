use Rattle.std.proofs.Common.{◌≡◌, map, take}
use Rattle.larch_store.specs.Numbered.{number_of}
use Rattle.larch_store.proofs.key.numbers_of.Given as goal

abbrev pub invariant-loop-argument : goal.invariant-loop-argument
invariant-loop-argument l = l.items.items ≡ map number_of (take l.argument-index l.arguments)
