use Rattle.std.proofs.Common.{◌≡◌, ◌⊎◌, ◌∙◌, ◌∷◌, Contains, sym, ap, subst, inl, inr}
use Rattle.larch_sorts_counts.specs.SortsMeaningSignature.{kept_under}
use Rattle.larch_sorts_counts.proofs.SortsMeaningKept.{named_or_nothing, one_kept}
use Rattle.larch_sorts_signature.proofs.signature.overloads_of.Goals as goal

pub loop-name-init : goal.loop-name-init
loop-name-init c = λ n.
    elim (named_or_nothing c.args.named.now.entries n) [
      | inl k ↦
          inl (subst (λ ks. Contains ks n)
          (sym (c.into_iter-name-iterator.ensures.into_iter_gives ∙ c.keys-name-items.ensures.rest)) k)
      | inr h ↦ inr (ap (λ es. kept_under es n) c.new-index.ensures.empty ∙ sym h)
    ]

pub loop-name-preserved-in_ok-insert : goal.loop-name-preserved-in_ok-insert
loop-name-preserved-in_ok-insert c = λ n.
    one_kept c.loop-name.index.entries c.insert.new.self.entries c.args.named.now.entries c.in_ok-name.name
    c.next.new.self c.in_ok-overloads.overloads
    (c.in_ok-overloads.ensures ∙ c.in_ok-operators.ensures
    ∙ ap (kept_under c.args.named.now.entries) (sym c.in_ok-name.ensures)) c.in_ok-insert.ensures.updates.0 n
    (subst (λ ns. Contains ns n ⊎ (kept_under c.loop-name.index.entries n ≡ kept_under c.args.named.now.entries n))
    (c.in-Some.ensures.steps ∙ ap (λ m. m ∷ c.next.new.self) (sym c.in_ok-name.ensures)) (c.loop-name.invariant n))
