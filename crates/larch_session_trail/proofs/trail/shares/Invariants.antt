use Rattle.std.proofs.Common.{◌≡◌, map, take}
use Rattle.larch_session_trail.proofs.trail.shares.Given as goal

-- the states so far are shared
abbrev pub invariant-loop-state : goal.invariant-loop-state
invariant-loop-state l =
    map (λ state. state.value) l.shared.items ≡ map (λ state. state.value) (take l.state-index l.states)
