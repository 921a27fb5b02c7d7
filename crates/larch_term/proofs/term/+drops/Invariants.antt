use Rattle.std.proofs.Common.{◌<◌}
use denote.Param.Weighed.{most}
use Rattle.larch_term.specs.declared.term.Term.TheDeep.{size-Term, size-Terms}
use Rattle.larch_term.proofs.term.+drops.Given as goal

-- each pending term is smaller than the terms that are dropped
abbrev pub invariant-Terms::drop-loop : goal.invariant-Terms::drop-loop
invariant-Terms::drop-loop l = most size-Term l.work.items < size-Terms l.fn.self
