-- Only the first byte of a piece may end a line.
use Rattle.std.proofs.Common.{ℕ, suc, ◌≡◌, ◌+◌, ◌-◌, ◌≤◌, ◌==◌, ◌&&◌, nat_lt, Bool, true, false, List, [], ◌∷◌, take}
use Rattle.std.proofs.Common.{drop, length, get_or, refl, sym, ◌∙◌, ap, subst, arith, add-one, Some}
use Rattle.std.specs.Char.{is_ascii_alphanumeric}
use Rattle.std.proofs.lemmas.Bool.{cond_both, and_parts, eqb-true, false_from_ne_true}
use Rattle.larch_base.specs.Position.{advance, position_behind}
use Rattle.larch_base.specs.declared.position.Pos.{Pos}
use Rattle.larch_lexer.specs.Lexing.{line_ends}
use Rattle.larch_lexer.specs.TokenTable.{begins_with, is_blank, is_punctuation, is_symbol}
use Rattle.larch_lexer.specs.Piece.{further_of, passing, piece_at, piece_at_backslash, piece_at_symbol}
use Rattle.larch_lexer.specs.Piece.{piece_at_underscore, stands_in}
use Rattle.larch_lexer.specs.declared.piece.Piece.{Piece}
use Rattle.larch_lexer.specs.declared.piece.Piece.TheVariants.{Skipped, Kept, Nothing}
use Rattle.larch_lexer.specs.declared.piece.Stretch.TheVariants.{Comment, Wordlike, Letters, Symbols}
use Rattle.larch_lexer.proofs.Steps.{others_are}

column_of : ℕ → ℕ → Pos
column_of line column = record { line = line; column = column }

-- the position so many columns further in its line
abbrev pub along : Pos → ℕ → Pos
along position count = record { line = position.line; column = position.column + count }

-- so many bytes at the front end no line
abbrev pub Straight : List ℕ → ℕ → Type 0
Straight bytes count = (position : Pos) → position_behind position (take count bytes) ≡ along position count

none_along : (position : Pos) → position ≡ along position 0
unfolding column_of
none_along position =
    let same : position.column ≡ position.column + 0 = omega arith in
    ap (column_of position.line) same

one_along : (position : Pos) (byte count : ℕ) → (byte == 10) ≡ false
    → along (advance position byte) count ≡ along position (suc count)
unfolding column_of
one_along position byte count e =
    let same : (position.column + 1) + count ≡ position.column + suc count = omega arith in
    rw e (ap (column_of position.line) same)

straight_more : (byte : ℕ) (rest : List ℕ) (count : ℕ) → (byte == 10) ≡ false → Straight rest count
    → Straight (byte ∷ rest) (suc count)
straight_more byte rest count e straight =
    λ position. straight (advance position byte) ∙ one_along position byte count e

-- no newline passes the test
abbrev Refuses : (ℕ → List ℕ → Bool) → Type 0
Refuses test = (behind : List ℕ) → test 10 behind ≡ false

no_newline : (test : ℕ → List ℕ → Bool) → Refuses test → (byte : ℕ) (behind : List ℕ) → test byte behind ≡ true
    → (byte == 10) ≡ false
no_newline test refuses byte behind passes = false_from_ne_true (byte == 10) (λ e.
    let wrong : true ≡ false = sym passes ∙ (ap (λ b. test b behind) (eqb-true byte 10 e) ∙ refuses behind) in
    cc)

stretch_straight : (test : ℕ → List ℕ → Bool) → Refuses test → (bytes : List ℕ) → Straight bytes (passing test bytes)
stretch_straight test refuses [] = λ position. none_along position
stretch_straight test refuses (byte ∷ rest) =
    let n = passing test rest in
    cond_both (test byte rest) (n + 1) 0 (Straight (byte ∷ rest))
    (λ e. rw (add-one n) (straight_more byte rest n (no_newline test refuses byte rest e)
    (stretch_straight test refuses rest)))
    (λ _ position. none_along position)

mark_straight : (mark : ℕ) → (10 == mark) ≡ false → (rest : List ℕ) → begins_with mark rest ≡ true → Straight rest 1
mark_straight mark other [] e = absurd cc
mark_straight mark other (first ∷ rest) e =
    straight_more first rest 0 (no_newline (λ byte _. byte == mark) (λ _. other) first rest e)
    (λ position. none_along position)

-- the bytes of a piece behind its first end no line
abbrev StraightPiece : List ℕ → Piece → Type 0
StraightPiece rest (Skipped further) = Straight rest further
StraightPiece rest (Kept kind further) = Straight rest further
StraightPiece rest Nothing = Unit {0}

straight_underscore : (rest : List ℕ) → StraightPiece rest (piece_at_underscore rest)
straight_underscore rest =
    cond_both (begins_with 95 rest) _ _ (StraightPiece rest) (λ e. mark_straight 95 refl rest e) (λ _. tt)

straight_backslash : (rest : List ℕ) → StraightPiece rest (piece_at_backslash rest)
straight_backslash rest =
    cond_both (nat_lt 0 (passing (stands_in Letters) rest)) _ _ (StraightPiece rest)
    (λ _. stretch_straight (stands_in Letters) (λ _. refl) rest)
    (λ _. cond_both (begins_with 47 rest) _ _ (StraightPiece rest) (λ e. mark_straight 47 refl rest e) (λ _. tt))

straight_symbol : (byte : ℕ) (rest : List ℕ) → StraightPiece rest (piece_at_symbol byte rest)
straight_symbol byte rest =
    cond_both ((byte == 47) && begins_with 92 rest) _ _ (StraightPiece rest)
    (λ e. mark_straight 92 refl rest (and_parts (byte == 47) (begins_with 92 rest) e).1)
    (λ _. stretch_straight (stands_in Symbols) (λ _. refl) rest)

straight_piece : (byte : ℕ) (rest : List ℕ) → StraightPiece rest (piece_at byte rest)
straight_piece byte rest =
    cond_both (is_ascii_alphanumeric byte) _ _ (StraightPiece rest)
    (λ _. stretch_straight (stands_in Wordlike) (λ _. refl) rest)
    (λ _. cond_both (is_blank byte) _ _ (StraightPiece rest) (λ _ position. none_along position)
    (λ _. cond_both (byte == 37) _ _ (StraightPiece rest) (λ _. stretch_straight (stands_in Comment) (λ _. refl) rest)
    (λ _. cond_both (byte == 95) _ _ (StraightPiece rest) (λ _. straight_underscore rest)
    (λ _. cond_both (byte == 92) _ _ (StraightPiece rest) (λ _. straight_backslash rest)
    (λ _. cond_both (is_symbol byte) _ _ (StraightPiece rest) (λ _. straight_symbol byte rest)
    (λ _. cond_both (is_punctuation byte) _ _ (StraightPiece rest) (λ _ position. none_along position) (λ _. tt)))))))

of_further : (rest : List ℕ) (piece : Piece) (further : ℕ) → StraightPiece rest piece → further_of piece ≡ Some further
    → Straight rest further
of_further rest (Skipped n) further straight e = let same : n ≡ further = cc in subst (Straight rest) same straight
of_further rest (Kept kind n) further straight e = let same : n ≡ further = cc in subst (Straight rest) same straight
of_further rest Nothing further straight e = absurd cc

front_behind : (position : Pos) (text : List ℕ) (further : ℕ) → 1 ≤ length text
    → further_of (piece_at (get_or text 0 0) (drop 1 text)) ≡ Some further
    → position_behind position (take (further + 1) text) ≡ along (advance position (get_or text 0 0)) further
front_behind position [] further h e = absurd (omega arith)
front_behind position (byte ∷ rest) further h e =
    rw (add-one further) (of_further rest (piece_at byte rest) further (straight_piece byte rest) e
    (advance position byte))

-- the position behind the piece at the front of a text
pub piece_behind : (position : Pos) (text taken : List ℕ) (piece : Piece) (further : ℕ)
    → 1 ≤ length text
    → piece ≡ piece_at (get_or text 0 0) (take (length text - 1) (drop 1 text))
    → Some further ≡ further_of piece
    → taken ≡ take (further + 1) text
    → along (advance position (get_or text 0 0)) further ≡ position_behind position taken
piece_behind position text taken piece further h p f t =
    let o = others_are text in
    let k : further_of (piece_at (get_or text 0 0) (drop 1 text)) ≡ Some further = cc in
    sym (ap (position_behind position) t ∙ front_behind position text further h k)

-- a newline at the front ends a line
pub first_ends : (text : List ℕ) → 1 ≤ length text → get_or text 0 0 ≡ 10 → 1 ≤ line_ends text
first_ends [] h e = absurd (omega arith)
first_ends (byte ∷ rest) h e = rw e (omega arith)
