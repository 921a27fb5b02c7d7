-- One piece further.
use Rattle.std.proofs.Common.{ℕ, ◌<◌, zero, suc, ◌≡◌, ◌+◌, ◌-◌, List, [], ◌∷◌, ◌++◌, take, drop, length, get_or, ◌≤◌}
use Rattle.std.proofs.Common.{refl, sym, ◌∙◌, ap, append_assoc, arith, add-one, Some, None, Ok, Err}
use Rattle.std.proofs.lemmas.List.{append-nil, take_all, length-drop}
use Rattle.larch_base.specs.Position.{advance, position_behind}
use Rattle.larch_base.specs.declared.position.Pos.{Pos}
use Rattle.larch_lexer.specs.TokenList.{TokenList}
use Rattle.larch_lexer.specs.TokenTable.{LexAnswer, with_tokens}
use Rattle.larch_lexer.specs.Piece.{piece_at, further_of}
use Rattle.larch_lexer.specs.Lexing.{led_by, lexed_within, tokens_of}
use Rattle.larch_lexer.specs.declared.piece.Piece.{Piece}
use Rattle.larch_lexer.specs.declared.piece.Piece.TheVariants.{Skipped, Kept, Nothing}
use Rattle.larch_lexer.specs.declared.token.Token.{Token}

pub with_none : (answer : LexAnswer) → with_tokens [] answer ≡ answer
with_none (Ok all) = refl
with_none (Err refusal) = refl

joined : TokenList → List Token → LexAnswer
joined all tokens = Ok (record { tokens = tokens; end = all.end })

pub with_more : (tokens more : List Token) (answer : LexAnswer)
    → with_tokens (tokens ++ more) answer ≡ with_tokens tokens (with_tokens more answer)
unfolding joined
with_more tokens more (Ok all) = ap (joined all) (append_assoc tokens more all.tokens)
with_more tokens more (Err refusal) = refl

-- what is left of a piece is passed over
pub lexed_behind : (inside : ℕ) (position : Pos) (text : List ℕ)
    → lexed_within inside position text
    ≡ lexed_within 0 (position_behind position (take inside text)) (drop inside text)
lexed_behind zero position text = refl
lexed_behind (suc inside) position [] = refl
lexed_behind (suc inside) position (byte ∷ rest) = lexed_behind inside (advance position byte) rest

-- the piece at the front, and then the rest
led_on : (piece : Piece) (position : Pos) (byte : ℕ) (rest : List ℕ) (further : ℕ) → further_of piece ≡ Some further
    → led_by piece position (byte ∷ rest) (λ inside. lexed_within inside (advance position byte) rest)
    ≡ with_tokens (tokens_of piece (take (suc further) (byte ∷ rest)) position)
    (lexed_within 0 (position_behind position (take (suc further) (byte ∷ rest))) (drop (suc further) (byte ∷ rest)))
led_on (Skipped n) position byte rest further e =
    let same : n ≡ further = cc in
    rw same (lexed_behind further (advance position byte) rest
    ∙ sym
    (with_none (lexed_within 0 (position_behind (advance position byte) (take further rest)) (drop further rest))))
led_on (Kept kind n) position byte rest further e =
    let same : n ≡ further = cc in
    rw (same, add-one further) (ap
    (with_tokens (record { kind = kind; text = byte ∷ take further rest; pos = position } ∷ []))
    (lexed_behind further (advance position byte) rest))
led_on Nothing position byte rest further e = absurd cc

further_on : (tokens : List Token) (position : Pos) (byte : ℕ) (rest : List ℕ) (further : ℕ)
    → further_of (piece_at byte rest) ≡ Some further
    → with_tokens tokens (lexed_within 0 position (byte ∷ rest))
    ≡ with_tokens (tokens ++ tokens_of (piece_at byte rest) (take (suc further) (byte ∷ rest)) position)
    (lexed_within 0 (position_behind position (take (suc further) (byte ∷ rest))) (drop (suc further) (byte ∷ rest)))
further_on tokens position byte rest further e =
    ap (with_tokens tokens) (led_on (piece_at byte rest) position byte rest further e)
    ∙ sym (with_more tokens (tokens_of (piece_at byte rest) (take (suc further) (byte ∷ rest)) position)
    (lexed_within 0 (position_behind position (take (suc further) (byte ∷ rest))) (drop (suc further) (byte ∷ rest))))

-- the piece at the front of a text joins the tokens, and the rest of the text is left
pub one_further : (tokens : List Token) (position : Pos) (text : List ℕ) (further : ℕ) → 1 ≤ length text
    → further_of (piece_at (get_or text 0 0) (drop 1 text)) ≡ Some further
    → with_tokens tokens (lexed_within 0 position text)
    ≡ with_tokens (tokens ++ tokens_of (piece_at (get_or text 0 0) (drop 1 text)) (take (further + 1) text) position)
    (lexed_within 0 (position_behind position (take (further + 1) text)) (drop (further + 1) text))
one_further tokens position [] further h e = absurd (omega arith)
one_further tokens position (byte ∷ rest) further h e =
    rw (add-one further) (further_on tokens position byte rest further e)

nowhere : (piece : Piece) (position : Pos) (text : List ℕ) (onward : ℕ → LexAnswer) → further_of piece ≡ None
    → led_by piece position text onward ≡ Err position
nowhere (Skipped n) position text onward e = absurd cc
nowhere (Kept kind n) position text onward e = absurd cc
nowhere Nothing position text onward e = refl

-- no piece at the front is the answer
pub nothing_there : (tokens : List Token) (position : Pos) (text : List ℕ) → 1 ≤ length text
    → further_of (piece_at (get_or text 0 0) (drop 1 text)) ≡ None
    → with_tokens tokens (lexed_within 0 position text) ≡ Err position
nothing_there tokens position [] h e = absurd (omega arith)
nothing_there tokens position (byte ∷ rest) h e =
    ap (with_tokens tokens) (nowhere (piece_at byte rest) position (byte ∷ rest)
    (λ inside. lexed_within inside (advance position byte) rest) e)

pub others_are : (text : List ℕ) → take (length text - 1) (drop 1 text) ≡ drop 1 text
others_are text = take_all (length text - 1) (drop 1 text) (omega (arith, length-drop 1 text))

-- what a turn of the lexer keeps
pub same_on : (tokens now : List Token) (position next : Pos) (text taken left : List ℕ) (piece : Piece) (further : ℕ)
    → 1 ≤ length text
    → piece ≡ piece_at (get_or text 0 0) (take (length text - 1) (drop 1 text))
    → Some further ≡ further_of piece
    → taken ≡ take (further + 1) text
    → left ≡ drop (further + 1) text
    → now ≡ tokens ++ tokens_of piece taken position
    → next ≡ position_behind position taken
    → with_tokens now (lexed_within 0 next left) ≡ with_tokens tokens (lexed_within 0 position text)
same_on tokens now position next text taken left piece further h p f t l n b =
    let o = others_are text in
    let q : piece ≡ piece_at (get_or text 0 0) (drop 1 text) = cc in
    let k : further_of (piece_at (get_or text 0 0) (drop 1 text)) ≡ Some further = cc in
    let step = one_further tokens position text further h k in
    cc

-- where the lexer stops
pub stops_at : (tokens : List Token) (position : Pos) (text : List ℕ) (piece : Piece)
    → 1 ≤ length text
    → piece ≡ piece_at (get_or text 0 0) (take (length text - 1) (drop 1 text))
    → further_of piece ≡ None
    → with_tokens tokens (lexed_within 0 position text) ≡ Err position
stops_at tokens position text piece h p f =
    let o = others_are text in
    let k : further_of (piece_at (get_or text 0 0) (drop 1 text)) ≡ None = cc in
    nothing_there tokens position text h k

with_both : List Token → Pos → LexAnswer
with_both tokens position = Ok (record { tokens = tokens; end = position })

-- where the lexer has read all
pub ends_with : (tokens : List Token) (position : Pos) (text : List ℕ) (all : TokenList) → length text < 1
    → all.tokens ≡ tokens → all.end ≡ position → with_tokens tokens (lexed_within 0 position text) ≡ Ok all
unfolding with_both
ends_with tokens position [] all h t e =
    ap (λ (joint : List Token). with_both joint position) (append-nil tokens ∙ sym t)
    ∙ ap (with_both all.tokens) (sym e)
ends_with tokens position (byte ∷ rest) all h t e = absurd (omega arith)
