use Rattle.std.specs.Prelude.{map, refl}
use Rattle.std.proofs.Common.{ap, ◌∙◌}
use Rattle.larch_methods.specs.Inside.{written_variable}
use Rattle.larch_methods.specs.Observers.{variables_for}
use Rattle.larch_methods.proofs.Observing.{observes, shows_same}
use Rattle.larch_methods.proofs.partition.push_observed.Goals as goal

pub returns-clause-shows : goal.returns-clause-shows
returns-clause-shows c l r w g h o =
    let e = c.in_ok-variables.ensures
    ∙ ap (λ cs. map written_variable (variables_for c.args.letters cs)) c.as_slice.ensures in
    shows_same _ _ _ l r w c.args.observed.now.constants g h o.sorts
    (observes _ _ _ l r w _ _ g h o e (λ s q k m n. c.in_ok-line.ensures.says _ _ _ refl s o.own q k m refl n)
    c.requires)

pub returns-clause-extends : goal.returns-clause-extends
returns-clause-extends c l r w g h o =
    let e = c.in_ok-variables.ensures
    ∙ ap (λ cs. map written_variable (variables_for c.args.letters cs)) c.as_slice.ensures in
    observes _ _ _ l r w _ _ g h o e (λ s q k m n. c.in_ok-line.ensures.extends _ _ _ refl s o.own q k m n) c.requires
