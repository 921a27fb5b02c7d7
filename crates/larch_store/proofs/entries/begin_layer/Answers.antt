use Rattle.larch_store.proofs.Layered.{absent_rest, begun, differ_rest}
use Rattle.larch_store.proofs.entries.begin_layer.Goals as goal

pub joined_with-requires-clause-absent : goal.joined_with-requires-clause-absent
joined_with-requires-clause-absent c =
    absent_rest (λ layer. layer.value) c.args.layers.items c.deref.result.now c.staying-staying.result c.args.entry.0
    c.deref.ensures.value c.requires.absent

pub joined_with-requires-clause-distinct : goal.joined_with-requires-clause-distinct
joined_with-requires-clause-distinct c =
    differ_rest (λ layer. layer.value) c.args.layers.items c.deref.result.now c.staying-staying.result
    c.deref.ensures.value c.requires.distinct

pub returns-in-Ok-clause-ok : goal.returns-in-Ok-clause-ok
returns-in-Ok-clause-ok c =
    begun (λ layer. layer.value) c.args.layers.items c.deref.result.now c.truncate.new.self.items
    c.staying-staying.result c.in-Ok.layer.value c.args.entry c.deref.ensures.value c.truncate.ensures.items
    c.in-Ok.ensures
