-- Fewer than two words don't say of which duty a certificate is wanted.
use Rattle.std.proofs.Common.{map, arith}
use Rattle.std.proofs.lemmas.List.{length-map}
use Rattle.larch_words.proofs.Checked.{too_few_derived}
use Rattle.larch_words.proofs.limited.derive_call.Goals as goal

pub returns-in_default : goal.returns-in_default
returns-in_default c =
    too_few_derived (map (λ word. word.now) c.args.words.now) c.args.limit
    (omega (arith, length-map c.args.words.now (λ word. word.now), c.in_default.len_below))
