use Rattle.std.proofs.Common.{◌≡◌, ◌∙◌, ◌++◌, ◌∷◌, [], ap, arith, replicate}
use Rattle.std.proofs.lemmas.List.{replicate_more}
use Rattle.larch_import.proofs.words.letters_before.Goals as goal

pub loop-preserved : goal.loop-preserved
loop-preserved c =
    c.in_ok-push.ensures.items ∙ ap (λ bs. bs ++ 115 ∷ []) c.loop.invariant ∙ replicate_more c.loop.counter 115

pub returns : goal.returns
returns c =
    let at_end : c.loop.counter ≡ c.args.letters = omega (arith, c.loop-test.false, c.loop.auto.counter-end) in
    c.loop.invariant ∙ ap (λ n. replicate n 115) at_end
