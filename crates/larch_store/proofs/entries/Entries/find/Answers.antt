use Rattle.std.proofs.Common.{Contains, ◌++◌, map, sym, subst, ◌∙◌}
use Rattle.larch_store.specs.Layers.{join_layers}
use Rattle.larch_store.proofs.entries.Entries.find.Goals as goal

pub returns-clause-found : goal.returns-clause-found
returns-clause-found c =
    subst (λ x. Contains c.args.self.now (c.args.key.now, x)) (sym c.in_ok-found.ensures)
    (subst (λ es. Contains es (c.args.key.now, c.in-Some.found.now))
    ((λ i. join_layers (map (λ layer. layer.value) (c.as_slice.ensures.value i)) ++ c.as_ref.ensures i)
    ∙ c.self.view_is)
    c.in-Some.ensures.some)
