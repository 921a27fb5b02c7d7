use Rattle.std.proofs.Common.{◌≡◌, ◌∙◌, ◌++◌, ◌∷◌, [], None, ap, arith, replicate, subst, sym}
use Rattle.larch_flat_sources.proofs.Numbers.{replicate_push}
use Rattle.larch_flat.specs.Known.{Knows}
use Rattle.larch_flat.proofs.Knowing.{nothing_known}
use Rattle.larch_flat.proofs.flat_traits.FlatTraits.none.Goals as goal

pub loop-preserved : goal.loop-preserved
loop-preserved c =
    c.in_ok-push.ensures.items ∙ ap (λ xs. xs ++ None ∷ []) c.loop.invariant ∙ replicate_push c.loop.counter None

pub returns-clause-knows : goal.returns-clause-knows
returns-clause-knows c =
    let at_end : c.loop.counter ≡ c.args.count = omega (arith, c.loop-test.false, c.loop.auto.counter-end) in
    λ sources e.
    subst (Knows sources) (sym (c.loop.invariant ∙ ap (λ n. replicate n None) at_end))
    (nothing_known sources c.args.count e)
