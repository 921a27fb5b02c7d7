use Rattle.std.proofs.Common.{◌≡◌, ◌++◌, map, take}
use Rattle.larch_verify_decoding.proofs.decoding.push_all.Given as goal

abbrev pub invariant-loop-term : goal.invariant-loop-term
invariant-loop-term l =
    map (λ c. c.now) l.waiting.items ≡ map (λ c. c.now) l.initial.waiting.items ++ take l.term-index l.terms
