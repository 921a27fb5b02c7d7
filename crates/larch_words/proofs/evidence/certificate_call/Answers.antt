-- Fewer than three words don't say what a certificate is to show.
use Rattle.std.proofs.Common.{map, arith}
use Rattle.std.proofs.lemmas.List.{length-map}
use Rattle.larch_words.specs.Aims.{asking}
use Rattle.larch_words.proofs.Checked.{too_few}
use Rattle.larch_words.proofs.evidence.certificate_call.Goals as goal

pub returns-in_default : goal.returns-in_default
returns-in_default c =
    too_few (asking c.args.aim) (map (λ word. word.now) c.args.words.now)
    (omega (arith, length-map c.args.words.now (λ word. word.now), c.in_default.len_below))
