use Rattle.std.proofs.Common.{◌∙◌, ◌∷◌, ◌++◌, [], ap}
use Rattle.larch_sorts_counts.specs.SortsMeaningSignature.{kept}
use Rattle.larch_sorts_signature.proofs.ByDomain.{put_behind}
use Rattle.larch_sorts_signature.proofs.domains.put.Goals as goal

pub returns : goal.returns
returns c = λ ss.
    put_behind c.args.kept.now.entries c.swap_remove.new.self.entries c.insert.new.self.entries c.args.domain ss
    c.in_ok-operators.operators c.push.new.self c.args.operator.now
    (c.in_ok-operators.ensures ∙ ap kept c.swap_remove.ensures.value)
    (c.swap_remove.ensures.updates.0 ss)
    (c.in_ok-push.ensures.ok ∙ ap (λ f. c.in_ok-operators.operators ++ f ∷ []) c.in_ok-copied.ensures)
    (c.in_ok-insert.ensures.updates.0 ss)
