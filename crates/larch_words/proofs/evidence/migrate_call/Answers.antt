-- Without a word there is no certificate.
use Rattle.std.proofs.Common.{map, arith}
use Rattle.std.proofs.lemmas.List.{length-map}
use Rattle.larch_words.proofs.Checked.{too_few_migrated}
use Rattle.larch_words.proofs.evidence.migrate_call.Goals as goal

pub returns-in_default : goal.returns-in_default
returns-in_default c =
    too_few_migrated (map (λ word. word.now) c.args.words.now)
    (omega (arith, length-map c.args.words.now (λ word. word.now), c.in_default.len_below))
