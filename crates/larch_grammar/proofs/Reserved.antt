-- A word that doesn't begin as the reserved ones do is none of them.
use Rattle.std.proofs.Common.{◌≡◌, ℕ, Bool, true, false, List, codes, refl, sym, ◌∙◌, ap}
use Rattle.std.proofs.lemmas.Bool.{false_from_ne_true, true≢false}
use Rattle.std.proofs.lemmas.Slice.Eq.{bytes_eq-Decides}
use Rattle.std.specs.Str.{bytes_eq}
use Rattle.larch_base.specs.declared.position.Pos.{Pos}
use Rattle.larch_grammar.specs.Terminal.{begins_reserved, word_terminal}
use Rattle.larch_grammar.specs.declared.terminal.Terminal.TheVariants.{Word}

another : (word text : List ℕ) → begins_reserved word ≡ true → begins_reserved text ≡ false → bytes_eq text word ≡ false
another word text reserved plain =
    false_from_ne_true (bytes_eq text word)
    (λ same. true≢false (sym reserved ∙ (sym (ap begins_reserved ((bytes_eq-Decides text word).0 same)) ∙ plain)))

pub plain_word : (lists : Bool) (text : List ℕ) (pos : Pos) → begins_reserved text ≡ false
    → word_terminal lists text pos ≡ Word (record { name = text; pos = pos })
plain_word lists text pos plain =
    rw (
      another (codes "trait") text refl plain,
      another (codes "introduces") text refl plain,
      another (codes "asserts") text refl plain,
      another (codes "generated") text refl plain,
      another (codes "partitioned") text refl plain,
      another (codes "by") text refl plain,
      another (codes "includes") text refl plain,
      another (codes "assumes") text refl plain,
      another (codes "for") text refl plain,
      another (codes "enumeration") text refl plain,
      another (codes "tuple") text refl plain,
      another (codes "union") text refl plain,
      another (codes "of") text refl plain,
      another (codes "implies") text refl plain,
      another (codes "converts") text refl plain,
      another (codes "exempting") text refl plain,
      another (codes "if") text refl plain,
      another (codes "then") text refl plain,
      another (codes "else") text refl plain,
    ) refl
