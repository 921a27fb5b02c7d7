use Rattle.std.proofs.Common.{sym, ◌∙◌}
use Rattle.larch_session_replay.specs.ProveState.{told_outcome}
use Rattle.larch_session_derive.proofs.Over.{proved_is}
use Rattle.larch_session_derive.proofs.derivation.derive_duty.Goals as goal

pub parts_of-requires-clause-proved : goal.parts_of-requires-clause-proved
parts_of-requires-clause-proved c = sym c.is_proved.ensures ∙ c.if-not-is_proved.false

pub returns : goal.returns
returns c =
    let theory = c.args.own.now.claim.theory in
    let statement = c.args.own.now.claim.statement in (
      proved_is (told_outcome c.args.own.now.outcome) (sym c.is_proved.ensures ∙ c.if-not-is_proved.false),
      record {
        accepted = c.in_ok-lines.ensures.accepted theory statement c.in_ok-parts.ensures.proved;
        writable = c.in_ok-lines.ensures.writable c.in_ok-parts.ensures.writable;
        ends = c.in_ok-lines.ensures.ends theory statement c.in_ok-parts.ensures.proved;
      },
    )
