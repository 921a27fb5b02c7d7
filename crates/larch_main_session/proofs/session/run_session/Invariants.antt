use Rattle.std.proofs.Common.{◌≡◌, ◌-◌}
use Rattle.larch_base.specs.declared.limits.TheConstants.{MAX_SOURCE_BYTES}
use Rattle.larch_main_session.specs.SoFar.{SoFar}
use Rattle.larch_main_session.proofs.session.run_session.Given as goal

-- what was given and written so far
abbrev pub invariant-loop-reply : goal.invariant-loop-reply
invariant-loop-reply g l = record {
  so_far : SoFar l.limit l.progress (g.S.Source.left l.initial.source) (g.S.Source.left l.source)
      (g.K.Sink.held l.initial.sink) (g.K.Sink.held l.sink) l.initial.steps l.steps;
  no_source_fault : g.S.Source.faults l.source ≡ g.S.Source.faults l.initial.source;
  no_sink_fault : g.K.Sink.faults l.sink ≡ g.K.Sink.faults l.initial.sink;
}

abbrev pub decreases-loop-reply : goal.decreases-loop-reply
decreases-loop-reply g l = MAX_SOURCE_BYTES - l.progress.reader.count
