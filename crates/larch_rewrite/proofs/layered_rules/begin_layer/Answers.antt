use Rattle.larch_store.proofs.Layered.{begun}
use Rattle.larch_rewrite.proofs.layered_rules.begin_layer.Goals as goal

pub returns-in-Ok-clause-ok : goal.returns-in-Ok-clause-ok
returns-in-Ok-clause-ok c =
    begun (λ layer. layer.value) c.args.layers.items c.deref.result.now c.truncate.new.self.items
    c.staying-staying.result c.in-Ok.layer.value c.args.rule c.deref.ensures.value c.truncate.ensures.items
    c.in-Ok.ensures
