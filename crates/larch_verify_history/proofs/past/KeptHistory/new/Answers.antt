use Rattle.std.proofs.Common.{◌≡◌, [], List, refl, sym, ◌∙◌, ap, subst, All, length}
use Rattle.std.specs.Prelude.{reverse}
use Rattle.std.proofs.lemmas.List.Elements.{All-nil}
use Rattle.larch_verify_history.specs.Past.{IsHappened, IsIndexed, history_in, open_levels}
use Rattle.larch_verify_history.specs.declared.event.KeptEvent.{KeptEvent}
use Rattle.larch_verify_history.proofs.past.KeptHistory.new.Goals as goal

pub returns : goal.returns
returns c = record {
  past = λ t p h. record {
    own = h;
    within = subst (All (IsHappened p)) (sym c.new.ensures.items) (All-nil (IsHappened p));
    index = subst (λ (es : List KeptEvent). IsIndexed c.new-2.result.items (reverse es)) (sym c.new.ensures.items) tt;
    levels =
        ap (λ (es : List KeptEvent). open_levels (reverse es)) c.new.ensures.items
        ∙ sym (ap reverse c.new-3.ensures.items);
  };
  history = λ p. ap (history_in p) c.new.ensures.items;
  count = ap length c.new-2.ensures.items;
}
