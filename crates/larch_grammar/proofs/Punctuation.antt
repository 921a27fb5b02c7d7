-- A text that isn't one byte is no punctuation.
use Rattle.std.proofs.Common.{◌≡◌, ℕ, false, List, length, codes, refl, ap, ◌∙◌}
use Rattle.std.proofs.lemmas.Bool.{false_from_ne_true}
use Rattle.std.proofs.lemmas.Slice.Eq.{bytes_eq-Decides}
use Rattle.std.specs.Str.{bytes_eq}
use Rattle.larch_base.specs.declared.position.Pos.{Pos}
use Rattle.larch_grammar.specs.Terminal.{punctuation_terminal}
use Rattle.larch_grammar.specs.declared.terminal.Terminal.TheVariants.{Other}

another : (text byte : List ℕ) → length byte ≡ 1 → (length text ≡ 1 → ⊥) → bytes_eq text byte ≡ false
another text byte one long =
    false_from_ne_true (bytes_eq text byte) (λ same. long (ap length ((bytes_eq-Decides text byte).0 same) ∙ one))

pub not_one_byte : (text : List ℕ) (pos : Pos) → (length text ≡ 1 → ⊥) → punctuation_terminal text pos ≡ Other
not_one_byte text pos long =
    rw (
      another text (codes ":") refl long,
      another text (codes ",") refl long,
      another text (codes ";") refl long,
      another text (codes ".") refl long,
      another text (codes "(") refl long,
      another text (codes ")") refl long,
      another text (codes "[") refl long,
      another text (codes "]") refl long,
      another text (codes "{") refl long,
      another text (codes "}") refl long,
    ) refl
