use Rattle.std.specs.Prelude.{◌++◌, [], ◌∷◌}
use Rattle.std.proofs.Common.{ap, ◌∙◌}
use Rattle.larch_methods.proofs.Lengths.{word_push}
use Rattle.larch_methods.proofs.naming.word_of.Goals as goal

pub loop-letter-preserved : goal.loop-letter-preserved
loop-letter-preserved c =
    c.in_ok-push.ensures.items ∙ ap (λ w. w ++ 120 ∷ []) c.loop-letter.invariant ∙ word_push c.loop-letter.letter
