use Rattle.std.proofs.Common.{◌≡◌, ◌+◌}
use Rattle.std.specs.Prelude.{◌-◌, bytes_eq, find, length, not}
use Rattle.std.specs.List.{list_any}
use Rattle.larch_prove_meaning.specs.NewNames.{numbered_from}
use Rattle.larch_prove_plans.proofs.new_names.free_number.Given as goal

-- none of the words so far is free
abbrev pub invariant-loop-i : goal.invariant-loop-i
invariant-loop-i l =
    find (λ m. not (list_any (bytes_eq m) l.taken)) (numbered_from l.word (l.i + 1) (length l.taken - l.i))
    ≡ find (λ m. not (list_any (bytes_eq m) l.taken)) (numbered_from l.word 1 (length l.taken))
