use Rattle.std.proofs.Common.{◌≡◌, ◌++◌, drop}
use Rattle.larch_prove_meaning.specs.NewNames.{all_bytes}
use Rattle.larch_prove_plans.proofs.new_names.longer_name.Given as goal

-- the bytes so far, before those of the names that are left
abbrev pub invariant-loop-name : goal.invariant-loop-name
invariant-loop-name l = l.bytes.items ++ all_bytes (drop l.name-index l.taken) ≡ l.word ++ all_bytes l.taken
