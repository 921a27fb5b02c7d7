use Rattle.std.proofs.Common.{◌<◌}
use denote.Param.Weighed.{most}
use Rattle.larch_certificate.specs.declared.coded.Coded.TheDeep.{size-Coded, size-CodedTerms}
use Rattle.larch_certificate.proofs.+drops.Given as goal

-- each pending term is smaller than the terms that are dropped
abbrev pub invariant-coded::CodedTerms::drop-loop : goal.invariant-coded::CodedTerms::drop-loop
invariant-coded::CodedTerms::drop-loop l = most size-Coded l.work.items < size-CodedTerms l.fn.self
