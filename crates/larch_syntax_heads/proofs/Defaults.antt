-- Tokens of which a definition has no case of their own.
use Rattle.std.specs.Prelude.{◌≡◌, None, refl, List}
use Rattle.larch_base.specs.declared.position.Pos.{Pos}
use Rattle.larch_raw.specs.declared.declared.RawForm.{RawForm}
use Rattle.larch_raw.specs.declared.declared.RawWord.{RawWord}
use Rattle.larch_raw.specs.declared.equation.RawTrait.{RawTrait}
use Rattle.larch_raw.specs.declared.reference.RawActual.TheVariants as actual
use Rattle.larch_raw.specs.declared.shorthand.RawShorthand.TheVariants as shorthand
use Rattle.larch_grammar.specs.Composition.{close_fields, with_actual, with_shorthand}
use Rattle.larch_grammar.specs.Machine.{after_actual, after_constant, after_field, after_form, after_head, after_rename}
use Rattle.larch_grammar.specs.declared.terminal.Terminal.{Terminal}
use Rattle.larch_grammar.specs.declared.terminal.Terminal.TheVariants.{Colon, Comma, For}
use Rattle.larch_grammar.specs.declared.machine.Naming.TheVariants.{Actual, Renamed}
use Rattle.larch_grammar.specs.declared.machine.OpenFields.{OpenFields}
use Rattle.larch_grammar.specs.declared.machine.OpenRef.{OpenRef}

pub other_constant : (raw : RawTrait) (sort : RawWord) (ws : List RawWord) (t : Terminal) → (t ≡ Comma → ⊥)
    → after_constant raw sort ws t ≡ after_head (with_shorthand raw (shorthand.Enumeration sort ws)) t
other_constant raw sort ws Comma h = absurd (h refl)
other_constant raw sort ws t h = refl

pub other_field : (n : OpenFields) (t : Terminal) → (t ≡ Comma → ⊥) → after_field n t ≡ after_head (close_fields n) t
other_field n Comma h = absurd (h refl)
other_field n t h = refl

pub other_plain : (n : OpenRef) (f : RawForm) (t : Terminal) → (t ≡ For → ⊥)
    → after_form (Actual n) f t ≡ after_actual (with_actual n (actual.Plain f)) t
other_plain n f For h = absurd (h refl)
other_plain n f t h = refl

pub other_renamed : (n : OpenRef) (f g : RawForm) (t : Terminal) → ((p : Pos) → t ≡ Colon p → ⊥)
    → after_form (Renamed n f) g t ≡ after_rename (with_actual n (actual.Replace f g None)) t
other_renamed n f g (Colon p) h = absurd (h p refl)
other_renamed n f g t h = refl
