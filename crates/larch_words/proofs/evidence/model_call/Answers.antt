-- Fewer than two words don't say what is to be tried.
use Rattle.std.proofs.Common.{map, arith}
use Rattle.std.proofs.lemmas.List.{length-map}
use Rattle.larch_words.proofs.Checked.{too_few_tried}
use Rattle.larch_words.proofs.evidence.model_call.Goals as goal

pub returns-in_default : goal.returns-in_default
returns-in_default c =
    too_few_tried (map (λ word. word.now) c.args.words.now)
    (omega (arith, length-map c.args.words.now (λ word. word.now), c.in_default.len_below))
