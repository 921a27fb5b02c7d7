use Rattle.std.proofs.Common.{◌∙◌, Contains, inl, inr, ap, map, subst, sym}
use Rattle.larch_sorts_counts.specs.Numbers.{as_numbers, numbers_under}
use Rattle.larch_sorts_meaning.proofs.Kept.{named_or_nothing}
use Rattle.larch_sorts_counts.proofs.numbers.names_of.Goals as goal

pub loop-name-init : goal.loop-name-init
loop-name-init c = λ n.
    elim (named_or_nothing c.args.index.now.entries n) [
      | inl k ↦
          inl (subst (λ ks. Contains ks n)
          (sym (c.into_iter-name-iterator.ensures.into_iter_gives ∙ c.keys-name-items.ensures.rest)) k)
      | inr h ↦
          inr (ap (λ es. numbers_under es n) c.new-names.ensures.empty
          ∙ sym (ap (map (as_numbers c.args.sorts.now.keys)) h))
    ]
