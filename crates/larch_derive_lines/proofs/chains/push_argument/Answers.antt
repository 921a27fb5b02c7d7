use Rattle.std.specs.Prelude.{[]}
use Rattle.larch_derive_lines.proofs.Places.{stands_at, changed_at}
use Rattle.std.proofs.Common.{ap, ◌∙◌, ◌∷◌, ◌++◌}
use Rattle.larch_derive_lines.proofs.chains.push_argument.Goals as goal

pub returns-clause-says : goal.returns-clause-says
returns-clause-says c s t u f done rest e h k =
    changed_at _ _ c.args.number _ s t u f done rest
    (c.in_ok-push.ensures.ok ∙ ap (λ l. l ++ c.args.number ∷ []) c.new-place.ensures) e
    (c.in_ok-changed.ensures.says s _ t u h k
    (stands_at f done rest t c.args.number _
    (c.in_ok-push.ensures.ok ∙ ap (λ l. l ++ c.args.number ∷ []) c.new-place.ensures) e))

pub returns-clause-extends : goal.returns-clause-extends
returns-clause-extends c s t u f done rest e h k =
    c.in_ok-changed.ensures.extends s _ t u h k
    (stands_at f done rest t c.args.number _
    (c.in_ok-push.ensures.ok ∙ ap (λ l. l ++ c.args.number ∷ []) c.new-place.ensures) e)
