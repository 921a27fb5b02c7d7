-- The piece that is computed is the table's longest token.
use Rattle.std.proofs.Common.{ℕ, suc, ◌≡◌, ◌+◌, ◌≤◌, ◌<◌, ◌==◌, ◌&&◌, nat_lt, not, cond, true, false, List, [], ◌∷◌}
use Rattle.std.proofs.Common.{◌++◌, take, drop, length, refl, sym, ◌∙◌, subst, arith, add-one, codes, inl, inr, ◌⊎◌}
use Rattle.std.specs.Char.{is_ascii_alphabetic, is_ascii_alphanumeric}
use Rattle.std.specs.List.{list_all}
use Rattle.std.specs.Str.{bytes_eq}
use Rattle.std.proofs.lemmas.Bool.{cond_both, and_parts, and_from, or_cases, or_left, or_right, eqb-true, cond-true}
use Rattle.std.proofs.lemmas.Bool.{cond-false, ltb-false, lt-ltb, not_from_false, not-true}
use Rattle.std.proofs.lemmas.List.{take-append-drop}
use Rattle.std.proofs.lemmas.Slice.Eq.{bytes_eq-Decides}
use Rattle.larch_base.specs.Word.{goes_on}
use Rattle.larch_lexer.specs.TokenTable.{is_blank, is_symbol, is_punctuation, begins_with, stands_in_run, each_passes}
use Rattle.larch_lexer.specs.TokenTable.{has_form}
use Rattle.larch_lexer.specs.Piece.{passing, stands_in_word, stands_in, piece_at, piece_at_underscore}
use Rattle.larch_lexer.specs.Piece.{piece_at_backslash, piece_at_symbol}
use Rattle.larch_lexer.specs.declared.piece.Piece.{Piece}
use Rattle.larch_lexer.specs.declared.piece.Piece.TheVariants.{Skipped, Kept, Nothing}
use Rattle.larch_lexer.specs.declared.piece.Stretch.TheVariants.{Comment, Letters, Symbols}
use Rattle.larch_lexer.specs.declared.token.Kind.{Kind}
use Rattle.larch_lexer.specs.declared.token.Kind.TheVariants.{Word, Marker, Backslash, Connective, Run, Punctuation}
use Rattle.larch_lexer.proofs.Bytes.{each_of}
use Rattle.larch_lexer.proofs.Stretches.{passing_within, passing_passes, passing_most, letters_pass, word_most}
use Rattle.larch_lexer.proofs.Stretches.{word_goes_on}

-- what a piece says of the byte that begins it and of the bytes behind
abbrev pub Sound : ℕ → List ℕ → Piece → Type 0
Sound byte rest (Skipped further) =
    ((is_blank byte ≡ true) × (further ≡ 0)) ⊎ ((byte ≡ 37) × (further ≡ passing (stands_in Comment) rest))
Sound byte rest (Kept kind further) =
    (has_form kind (byte ∷ take further rest) (drop further rest) ≡ true) × (further ≤ length rest)
Sound byte rest Nothing = (is_blank byte ≡ false) × ((byte == 37) ≡ false)

sound_underscore : (byte : ℕ) (rest : List ℕ) → (byte == 95) ≡ true → is_blank byte ≡ false → (byte == 37) ≡ false
    → Sound byte rest (piece_at_underscore rest)
sound_underscore byte [] e blank percent = (blank, percent)
sound_underscore byte (other ∷ rest) e blank percent =
    cond_both (other == 95) (Kept Marker 1) Nothing (Sound byte (other ∷ rest))
    (λ f. (and_from (byte == 95) ((other == 95) && true) e (and_from (other == 95) true f refl), omega arith))
    (λ _. (blank, percent))

sound_backslash : (byte : ℕ) (rest : List ℕ) → (byte == 92) ≡ true → is_blank byte ≡ false → (byte == 37) ≡ false
    → Sound byte rest (piece_at_backslash rest)
sound_backslash byte [] e blank percent = (blank, percent)
sound_backslash byte (other ∷ rest) e blank percent =
    let m = passing (stands_in Letters) rest in
    cond_both (is_ascii_alphabetic other) (m + 1) 0
    (λ n. Sound byte (other ∷ rest)
    (cond (nat_lt 0 n) (Kept Backslash n) (cond (other == 47) (Kept Connective 1) Nothing)))
    (λ letter. cond_both (nat_lt 0 (m + 1)) (Kept Backslash (m + 1)) (cond (other == 47) (Kept Connective 1) Nothing)
    (Sound byte (other ∷ rest))
    (λ _. (
      rw (add-one m) (and_from (byte == 92) (is_ascii_alphabetic other && list_all is_ascii_alphabetic (take m rest)) e
          (and_from (is_ascii_alphabetic other) (list_all is_ascii_alphabetic (take m rest)) letter
          (sym (letters_pass (take m rest) (drop m rest)) ∙ passing_passes (stands_in Letters) rest))),
      omega (arith, passing_within (stands_in Letters) rest),
    ))
    (λ f. absurd (omega (arith, ltb-false 0 (m + 1) f))))
    (λ _. cond_both (other == 47) (Kept Connective 1) Nothing (Sound byte (other ∷ rest))
    (λ f. (
      or_right (bytes_eq (byte ∷ other ∷ []) (47 ∷ 92 ∷ [])) (bytes_eq (byte ∷ other ∷ []) (92 ∷ 47 ∷ []))
          (and_from (byte == 92) ((other == 47) && true) e (and_from (other == 47) true f refl)),
      omega arith,
    ))
    (λ _. (blank, percent)))

sound_slash : (byte : ℕ) (rest : List ℕ) → (byte == 47) ≡ true → begins_with 92 rest ≡ true
    → Sound byte rest (Kept Connective 1)
sound_slash byte [] e f = absurd cc
sound_slash byte (other ∷ rest) e f = (
  or_left (bytes_eq (byte ∷ other ∷ []) (47 ∷ 92 ∷ [])) (bytes_eq (byte ∷ other ∷ []) (92 ∷ 47 ∷ []))
      (and_from (byte == 47) ((other == 92) && true) e (and_from (other == 92) true f refl)),
  omega arith,
)

sound_symbol : (byte : ℕ) (rest : List ℕ) → is_symbol byte ≡ true → Sound byte rest (piece_at_symbol byte rest)
sound_symbol byte rest e =
    let n = passing (stands_in Symbols) rest in
    cond_both ((byte == 47) && begins_with 92 rest) (Kept Connective 1) (Kept Run n) (Sound byte rest)
    (λ f. let parts = and_parts (byte == 47) (begins_with 92 rest) f in sound_slash byte rest parts.0 parts.1)
    (λ f. (
      and_from (stands_in_run byte (take n rest ++ drop n rest)) (each_passes stands_in_run (take n rest) (drop n rest))
          (rw (take-append-drop n rest) (and_from (is_symbol byte) (not ((byte == 47) && begins_with 92 rest)) e
          (not_from_false ((byte == 47) && begins_with 92 rest) f)))
          (passing_passes (stands_in Symbols) rest),
      passing_within (stands_in Symbols) rest,
    ))

pub piece_sound : (byte : ℕ) (rest : List ℕ) → Sound byte rest (piece_at byte rest)
piece_sound byte rest =
    cond_both (is_ascii_alphanumeric byte) _ _ (Sound byte rest)
    (λ e. (
      and_from (is_ascii_alphanumeric byte) (goes_on (take (passing stands_in_word rest) rest)) e
          (word_goes_on rest),
      passing_within stands_in_word rest,
    ))
    (λ _. cond_both (is_blank byte) _ _ (Sound byte rest) (λ e. inl (e, refl))
    (λ blank. cond_both (byte == 37) _ _ (Sound byte rest) (λ e. inr (eqb-true byte 37 e, refl))
    (λ percent. cond_both (byte == 95) _ _ (Sound byte rest) (λ e. sound_underscore byte rest e blank percent)
    (λ _. cond_both (byte == 92) _ _ (Sound byte rest) (λ e. sound_backslash byte rest e blank percent)
    (λ _. cond_both (is_symbol byte) _ _ (Sound byte rest) (λ e. sound_symbol byte rest e)
    (λ _. cond_both (is_punctuation byte) _ _ (Sound byte rest) (λ e. (e, omega arith)) (λ _. (blank, percent))))))))

-- a piece that is a token of a kind, with at least so many bytes behind its first
abbrev pub AtLeast : Kind → ℕ → Piece → Type 0
AtLeast kind count (Kept other further) = (other ≡ kind) × (count ≤ further)
AtLeast kind count (Skipped further) = ⊥
AtLeast kind count Nothing = ⊥

-- the piece at a front and what stands behind it is at least the front
abbrev pub Reaches : Kind → List ℕ → List ℕ → Type 0
Reaches kind [] behind = ⊥
Reaches kind (byte ∷ bytes) behind = AtLeast kind (length bytes) (piece_at byte (bytes ++ behind))

symbol_piece : (byte : ℕ) (rest : List ℕ) → is_symbol byte ≡ true → piece_at byte rest ≡ piece_at_symbol byte rest
symbol_piece byte rest e = each_of (λ b. piece_at b rest ≡ piece_at_symbol b rest) (codes "!#$&*+-/<=>?@^|~") byte e (
  refl,
  (
    refl,
    (
      refl,
      (refl, (refl, (refl, (refl, (refl, (refl, (refl, (refl, (refl, (refl, (refl, (refl, (refl, tt))))))))))))),
    ),
  ),
)

punctuation_piece : (byte : ℕ) (rest : List ℕ) → is_punctuation byte ≡ true → piece_at byte rest ≡ Kept Punctuation 0
punctuation_piece byte rest e = each_of (λ b. piece_at b rest ≡ Kept Punctuation 0) (codes "()[]{},;:.") byte e
    (refl, (refl, (refl, (refl, (refl, (refl, (refl, (refl, (refl, (refl, tt))))))))))

reaches_letters : (letter : ℕ) (letters behind : List ℕ) → list_all is_ascii_alphabetic (letter ∷ letters) ≡ true
    → AtLeast Backslash (suc (length letters)) (piece_at_backslash (letter ∷ (letters ++ behind)))
reaches_letters letter letters behind e =
    let n = passing (stands_in Letters) (letter ∷ (letters ++ behind)) in
    let most =
    passing_most (stands_in Letters) (letter ∷ letters) behind (letters_pass (letter ∷ letters) behind ∙ e) in
    let more : 0 < n = omega arith in
    subst (AtLeast Backslash (suc (length letters))) (sym (cond-true (nat_lt 0 n) _ _ (lt-ltb 0 n more))) (refl, most)

pub form_reaches : (kind : Kind) (front behind : List ℕ) → has_form kind front behind ≡ true → Reaches kind front behind
form_reaches Word [] behind e = absurd cc
form_reaches Word (byte ∷ bytes) behind e =
    let parts = and_parts (is_ascii_alphanumeric byte) (goes_on bytes) e in
    subst (AtLeast Word (length bytes)) (sym (cond-true (is_ascii_alphanumeric byte) _ _ parts.0))
    (refl, word_most bytes behind parts.1)
form_reaches Marker front behind e =
    subst (λ bytes. Reaches Marker bytes behind) (sym ((bytes_eq-Decides front (95 ∷ 95 ∷ [])).0 e)) (refl, omega arith)
form_reaches Backslash [] behind e = absurd cc
form_reaches Backslash (byte ∷ []) behind e = absurd cc
form_reaches Backslash (byte ∷ letter ∷ letters) behind e =
    let parts = and_parts (byte == 92) (list_all is_ascii_alphabetic (letter ∷ letters)) e in
    subst (λ b. Reaches Backslash (b ∷ letter ∷ letters) behind) (sym (eqb-true byte 92 parts.0))
    (reaches_letters letter letters behind parts.1)
form_reaches Connective front behind e =
    elim (or_cases (bytes_eq front (47 ∷ 92 ∷ [])) (bytes_eq front (92 ∷ 47 ∷ [])) e) [
      | inl f ↦
          subst (λ bytes. Reaches Connective bytes behind) (sym ((bytes_eq-Decides front (47 ∷ 92 ∷ [])).0 f))
          (refl, omega arith)
      | inr f ↦
          subst (λ bytes. Reaches Connective bytes behind) (sym ((bytes_eq-Decides front (92 ∷ 47 ∷ [])).0 f))
          (refl, omega arith)
    ]
form_reaches Run [] behind e = absurd cc
form_reaches Run (byte ∷ bytes) behind e =
    let parts = and_parts (stands_in_run byte (bytes ++ behind)) (each_passes stands_in_run bytes behind) e in
    let slash = (byte == 47) && begins_with 92 (bytes ++ behind) in
    let first = and_parts (is_symbol byte) (not slash) parts.0 in
    subst (AtLeast Run (length bytes))
    (sym (symbol_piece byte (bytes ++ behind) first.0 ∙ cond-false slash _ _ (not-true slash first.1)))
    (refl, passing_most stands_in_run bytes behind parts.1)
form_reaches Punctuation [] behind e = absurd cc
form_reaches Punctuation (byte ∷ []) behind e =
    subst (AtLeast Punctuation 0) (sym (punctuation_piece byte behind e)) (refl, omega arith)
form_reaches Punctuation (byte ∷ other ∷ bytes) behind e = absurd cc
