-- Items state the same over equal operators.
use Rattle.std.proofs.Common.{◌≡◌, ◌∙◌, subst}
use Rattle.larch_base.specs.Answering.{Answers}
use Rattle.larch_flat_statements.specs.TraitsItemsItems.{items_state}
use Rattle.larch_flat_statements.specs.TraitsItemsRefusal.{cause}
use Rattle.larch_flat_gathering.proofs.store.Gathering.state.Goals as goal

pub returns : goal.returns
returns c =
    let same : c.in_ok-signature.signature ≡ c.args.self.now.gathered.operators =
    c.in_ok-signature.ensures ∙ c.in_ok-operators.ensures ∙ c.operators.ensures in
    subst (λ fs. Answers cause c.state_items.result (items_state fs c.args.items.now)) same c.state_items.ensures
