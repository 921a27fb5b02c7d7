use Rattle.std.proofs.Common.{take}
use Rattle.larch_session_derive.proofs.parts.parts_of.Given as goal
use Rattle.larch_session_derive.specs.Parts.{AreLemmaParts}
use Rattle.larch_session_derive_meaning.specs.SessionMeaningTraits.{script_duty}

-- the parts so far are those of the lemmas among the duties so far
abbrev pub invariant-loop-replayed : goal.invariant-loop-replayed
invariant-loop-replayed l = AreLemmaParts (script_duty l.own.claim) (take l.replayed-index l.earlier) l.parts
