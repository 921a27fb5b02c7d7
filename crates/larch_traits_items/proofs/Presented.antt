-- What a trait presents, by what it declares and what it states.
use Rattle.std.proofs.Common.{◌≡◌, Option, IfSome, Ok, Err, List, sym, ◌∙◌, ap, ap₂}
use Rattle.larch_base.specs.declared.fault.Fault.{Fault}
use Rattle.larch_raw.specs.declared.equation.RawItem.{RawItem}
use Rattle.larch_raw.specs.declared.equation.RawTrait.{RawTrait}
use Rattle.larch_term.specs.Operator.{PlainOperator}
use Rattle.larch_term.specs.declared.statement.Statement.{Statement}
use Rattle.larch_traits_items.specs.Declarations.{declared_operators}
use Rattle.larch_traits_items.specs.Items.{items_state}
use Rattle.larch_traits_items.specs.Presentation.{presentation_of}
use Rattle.larch_base_meaning.specs.Steps.{after}
use Rattle.larch_traits_items.proofs.Steps.{told_weaker}

module _ (raw : RawTrait) (fs gs : List PlainOperator) (items : List RawItem)
    (declares : declared_operators raw.declarations ≡ Ok fs) (same : gs ≡ fs)
    (all : items ≡ raw.items) where
  behind_declarations : presentation_of raw
      ≡ after (items_state fs raw.items) (λ ss. Ok (record { operators = fs; statements = ss }))
  behind_declarations =
      ap (λ r. after r (λ hs. after (items_state hs raw.items) (λ ss. Ok (record { operators = hs; statements = ss }))))
      declares

  stated : items_state gs items ≡ items_state fs raw.items
  stated = ap₂ items_state same all

pub presented_refused : (o : Option Fault) (raw : RawTrait) (fs gs : List PlainOperator) (items : List RawItem)
    → declared_operators raw.declarations ≡ Ok fs → gs ≡ fs → items ≡ raw.items
    → IfSome o (λ f. items_state gs items ≡ Err f) → IfSome o (λ f. presentation_of raw ≡ Err f)
presented_refused o raw fs gs items d s a h =
    told_weaker o (λ f. items_state gs items ≡ Err f) (λ f. presentation_of raw ≡ Err f)
    (λ f e. behind_declarations raw fs gs items d s a
    ∙ ap (λ r. after r (λ ss. Ok (record { operators = fs; statements = ss })))
    (sym (stated raw fs gs items d s a) ∙ e)) h

pub presented_ok : (raw : RawTrait) (fs gs hs : List PlainOperator) (items : List RawItem) (ss : List Statement)
    → declared_operators raw.declarations ≡ Ok fs → gs ≡ fs → hs ≡ gs → items ≡ raw.items
    → items_state gs items ≡ Ok ss → presentation_of raw ≡ Ok (record { operators = hs; statements = ss })
presented_ok raw fs gs hs items ss d s t a e =
    behind_declarations raw fs gs items d s a
    ∙ ap (λ r. after r (λ zs. Ok (record { operators = fs; statements = zs }))) (sym (stated raw fs gs items d s a) ∙ e)
    ∙ ap (λ f. Ok (record { operators = f; statements = ss })) (sym (t ∙ s))
