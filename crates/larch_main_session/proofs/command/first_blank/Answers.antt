-- The place where the loop ends is the first that passes.
use Rattle.std.proofs.Common.{length, sym, ◌∙◌, arith}
use Rattle.std.proofs.lemmas.List.Sums.{position_or_len_is}
use Rattle.larch_main_session.specs.Command.{is_blank}
use Rattle.larch_main_session.proofs.command.first_blank.Goals as goal

pub returns-then-is_blank : goal.returns-then-is_blank
returns-then-is_blank c =
    sym (position_or_len_is is_blank c.args.bytes.now c.loop-place.place 0 (omega arith) c.loop-place.invariant
    (λ _. sym c.is_blank.ensures ∙ c.if-is_blank.true))

pub returns : goal.returns
returns c =
    let bytes = c.args.bytes.now in
    sym (position_or_len_is is_blank bytes (length bytes) 0 (omega arith)
    (λ k h. c.loop-place.invariant k (omega arith)) (λ h. absurd (omega arith)))
