-- Where no dot was met, the first place is the end.
use Rattle.std.proofs.Common.{length, sym, arith}
use Rattle.std.proofs.lemmas.List.Sums.{position_or_len_is}
use Rattle.larch_base.specs.FileName.{is_dot}
use Rattle.larch_base.proofs.file_name.first_dot.Goals as goal

pub returns : goal.returns
returns c =
    let bytes = c.args.bytes.now in
    sym (position_or_len_is is_dot bytes (length bytes) 0 (omega arith) (λ k h. c.loop-place.invariant k (omega arith))
    (λ h. absurd (omega arith)))
