-- A front is the longest token exactly where it is the piece that is computed.
use Rattle.std.proofs.Common.{ℕ, ◌≡◌, ◌+◌, ◌-◌, ◌≤◌, true, List, [], ◌∷◌, ◌++◌, take, drop, length, sym, ◌∙◌, ap, subst}
use Rattle.std.proofs.Common.{arith, append_assoc, length-append}
use Rattle.std.proofs.Math.Seq.{take-append-add, drop-append-add}
use Rattle.std.proofs.lemmas.Bool.{false_from_ne_true}
use Rattle.std.proofs.lemmas.List.{take-append-drop, length-take-le, nil_from_length}
use Rattle.larch_lexer.specs.TokenTable.{has_form, Longest, BeginsNoToken}
use Rattle.larch_lexer.specs.Piece.{piece_at}
use Rattle.larch_lexer.specs.declared.piece.Piece.{Piece}
use Rattle.larch_lexer.specs.declared.piece.Piece.TheVariants.{Skipped, Kept, Nothing}
use Rattle.larch_lexer.specs.declared.token.Kind.{Kind}
use Rattle.larch_lexer.proofs.Table.{Sound, piece_sound, AtLeast, Reaches, form_reaches}

-- a front of the front and what stands behind it
reach_over : (kind : Kind) (byte : ℕ) (bytes behind : List ℕ) (further more : ℕ) → further ≡ length bytes + more
    → has_form kind (byte ∷ take further (bytes ++ behind)) (drop further (bytes ++ behind)) ≡ true
    → has_form kind (byte ∷ (bytes ++ take more behind)) (drop more behind) ≡ true
reach_over kind byte bytes behind further more e form =
    let front = ap (λ n. take n (bytes ++ behind)) e ∙ take-append-add bytes behind more in
    let back = ap (λ n. drop n (bytes ++ behind)) e ∙ drop-append-add bytes behind more in
    subst (λ left. has_form kind (byte ∷ (bytes ++ take more behind)) left ≡ true) back
    (subst (λ taken. has_form kind (byte ∷ taken) (drop further (bytes ++ behind)) ≡ true) front form)

settled : (kind : Kind) (byte : ℕ) (bytes behind : List ℕ) (piece : Piece) → AtLeast kind (length bytes) piece
    → Sound byte (bytes ++ behind) piece → Longest kind (byte ∷ bytes) behind → piece ≡ Kept kind (length bytes)
settled kind byte bytes behind (Kept other further) reaches sound longest =
    let k = further - length bytes in
    let within = reaches.1 in
    let fits = sound.1 in
    let split : further ≡ length bytes + k = omega arith in
    let form : has_form other (byte ∷ (bytes ++ take k behind)) (drop k behind) ≡ true =
    reach_over other byte bytes behind further k split sound.0 in
    let none = longest.none_longer other (take k behind) (drop k behind) (sym (take-append-drop k behind)) form in
    let few : k ≤ length behind = omega (arith, length-append bytes behind) in
    let same : further ≡ length bytes = omega (arith, length-take-le k behind few, ap length none) in
    cc
settled kind byte bytes behind (Skipped further) reaches sound longest = absurd reaches
settled kind byte bytes behind Nothing reaches sound longest = absurd reaches

pub longest_is : (kind : Kind) (byte : ℕ) (bytes behind : List ℕ) → Longest kind (byte ∷ bytes) behind
    → piece_at byte (bytes ++ behind) ≡ Kept kind (length bytes)
longest_is kind byte bytes behind longest =
    settled kind byte bytes behind (piece_at byte (bytes ++ behind))
    (form_reaches kind (byte ∷ bytes) behind longest.has_it) (piece_sound byte (bytes ++ behind)) longest

no_more : (kind other : Kind) (count further : ℕ) (piece : Piece) → piece ≡ Kept kind further
    → AtLeast other count piece → count ≤ further
no_more kind other count further piece e reaches = (subst (AtLeast other count) e reaches).1

pub piece_is_longest : (byte : ℕ) (rest : List ℕ) (kind : Kind) (further : ℕ) → piece_at byte rest ≡ Kept kind further
    → Longest kind (byte ∷ take further rest) (drop further rest)
piece_is_longest byte rest kind further e =
    let sound = subst (Sound byte rest) e (piece_sound byte rest) in
    record {
      has_it = sound.0;
      none_longer = λ other more left cut form.
          let reaches = form_reaches other (byte ∷ (take further rest ++ more)) left form in
          let whole : (take further rest ++ more) ++ left ≡ rest = append_assoc (take further rest) more left
          ∙ ap (λ behind. take further rest ++ behind) (sym cut) ∙ take-append-drop further rest in
          let count = no_more kind other (length (take further rest ++ more)) further
          (piece_at byte ((take further rest ++ more) ++ left)) (ap (piece_at byte) whole ∙ e) reaches in
          nil_from_length more (omega (
            arith,
            length-append (take further rest) more,
            length-take-le further rest sound.1,
          ));
    }

reaches_nothing : (kind : Kind) (count : ℕ) (piece : Piece) → piece ≡ Nothing → AtLeast kind count piece → ⊥
reaches_nothing kind count piece e reaches = subst (AtLeast kind count) e reaches

none_of_front : (byte : ℕ) (rest : List ℕ) (kind : Kind) (front behind : List ℕ) → piece_at byte rest ≡ Nothing
    → byte ∷ rest ≡ front ++ behind → Reaches kind front behind → ⊥
none_of_front byte rest kind [] behind e cut reaches = reaches
none_of_front byte rest kind (first ∷ bytes) behind e cut reaches =
    let same : byte ≡ first = cc in
    let others : rest ≡ bytes ++ behind = cc in
    let here : piece_at first (bytes ++ behind) ≡ Nothing = cc in
    reaches_nothing kind (length bytes) (piece_at first (bytes ++ behind)) here reaches

pub nothing_begins : (byte : ℕ) (rest : List ℕ) → piece_at byte rest ≡ Nothing → BeginsNoToken (byte ∷ rest)
nothing_begins byte rest e kind front behind cut =
    false_from_ne_true (has_form kind front behind)
    (λ form. none_of_front byte rest kind front behind e cut (form_reaches kind front behind form))
