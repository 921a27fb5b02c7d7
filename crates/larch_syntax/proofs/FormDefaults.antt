-- Tokens behind a form of which a definition has no case of their own.
use Rattle.std.specs.Prelude.{◌≡◌, refl}
use Rattle.larch_base.specs.declared.position.Pos.{Pos}
use Rattle.larch_raw.specs.declared.declared.RawWord.{RawWord}
use Rattle.larch_grammar.specs.Machine.{after_form, after_marker_symbol, after_symbol_form}
use Rattle.larch_grammar.specs.Trees.{infix_name, mixfix, postfix_name}
use Rattle.larch_grammar.specs.declared.machine.Naming.{Naming}
use Rattle.larch_grammar.specs.declared.terminal.Terminal.{Terminal}
use Rattle.larch_grammar.specs.declared.terminal.Terminal.TheVariants.{Marker}

pub other_symbol_form : (n : Naming) (x : RawWord) (t : Terminal) → ((p : Pos) → t ≡ Marker p → ⊥)
    → after_symbol_form n x t ≡ after_form n (mixfix (infix_name x.name) 2 x.pos) t
other_symbol_form n x (Marker p) h = absurd (h p refl)
other_symbol_form n x t h = refl

pub other_marker_symbol : (n : Naming) (q : Pos) (x : RawWord) (t : Terminal) → ((p : Pos) → t ≡ Marker p → ⊥)
    → after_marker_symbol n q x t ≡ after_form n (mixfix (postfix_name x.name) 1 q) t
other_marker_symbol n q x (Marker p) h = absurd (h p refl)
other_marker_symbol n q x t h = refl
