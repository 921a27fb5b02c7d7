use Rattle.larch_session_replay.proofs.duty.replay_duty.Goals as goal

pub returns-clause-replay : goal.returns-clause-replay
returns-clause-replay g c =
    record {
      state = c.in_ok-state.ensures.state;
      outcome = c.in_ok-outcome.ensures c.args.claim.statement _ c.in_ok-state.ensures.state;
    }
