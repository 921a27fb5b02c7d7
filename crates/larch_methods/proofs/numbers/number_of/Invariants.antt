use Rattle.std.proofs.Common.{◌≡◌, ◌+◌, take, All}
use Rattle.larch_methods.proofs.numbers.number_of.Given as goal

-- the number is that of the next operator, and none so far is the one
abbrev pub invariant-loop-candidate : goal.invariant-loop-candidate
invariant-loop-candidate l =
    (l.number ≡ 1 + l.candidate-index) × All (λ f. f ≡ l.operator → ⊥) (take l.candidate-index l.own)
