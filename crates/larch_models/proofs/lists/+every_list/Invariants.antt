use Rattle.std.proofs.Common.{◌≡◌, ◌+◌, ◌*◌, ◌++◌, ◌∷◌, length}
use Rattle.larch_models_meaning.specs.Computed.{all_up_to}
use Rattle.larch_models.specs.Every.{all_lists}
use Rattle.larch_models.proofs.lists.+every_list.Given as goal

-- it is so of all greater values, and the values are those of before
abbrev pub invariant-every_value-tries : goal.invariant-every_value-tries
invariant-every_value-tries g l = record {
  same : all_up_to l.value
      (λ v. all_lists l.further (λ vs. g.P.Property.so l.property (l.initial.values.items ++ v ∷ vs)))
      ≡ all_up_to l.last
      (λ v. all_lists l.further (λ vs. g.P.Property.so l.property (l.initial.values.items ++ v ∷ vs)));
  kept : l.values.items ≡ l.initial.values.items;
}

abbrev pub decreases-every_value-tries : goal.decreases-every_value-tries
decreases-every_value-tries g l = l.value

abbrev pub decreases-every_list : goal.decreases-every_list
decreases-every_list g l = 2 * length l.lasts.now + 1

abbrev pub decreases-every_value : goal.decreases-every_value
decreases-every_value g l = 2 * length l.further.now + 2
