use Rattle.std.proofs.Common.{◌≡◌, ◌+◌, drop, map}
use Rattle.larch_prove.proofs.preparing.prepare_all.Given as goal
use Rattle.larch_prove.specs.Prepared.{IsPreparedFor, prepared_proof}
use Rattle.larch_prove_meaning.specs.Replays.{Duty, all_prepared}

-- what is left comes to what the whole preamble does
abbrev pub invariant-loop-index : goal.invariant-loop-index
invariant-loop-index l =
    (duty : Duty) → IsPreparedFor duty l.fn.prepared
    → (all_prepared 1 (map (λ c. c.kind) l.preamble) (prepared_proof duty l.fn.prepared)
    ≡ all_prepared (1 + l.index) (map (λ c. c.kind) (drop l.index l.preamble)) (prepared_proof duty l.prepared))
    × IsPreparedFor duty l.prepared
