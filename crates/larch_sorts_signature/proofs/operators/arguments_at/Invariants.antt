use Rattle.std.proofs.Common.{◌≡◌, drop, map}
use Rattle.larch_sorts_signature.specs.Operators.{arguments_at, resume_arguments}
use Rattle.larch_sorts_signature.proofs.operators.arguments_at.Given as goal

-- the arguments so far together with those that are left are all
abbrev pub invariant-loop-i : goal.invariant-loop-i
invariant-loop-i l =
    resume_arguments l.arguments l.several (arguments_at (drop l.i (map (λ t. t.found.value.entries) l.tables))
    (drop l.i l.sorts)) ≡ arguments_at (map (λ t. t.found.value.entries) l.tables) l.sorts
