-- Each text has one answer, and it is the computed one.
use Rattle.std.proofs.Common.{ℕ, zero, suc, ◌≡◌, ◌≢◌, ◌+◌, ◌≤◌, true, false, List, [], ◌∷◌, ◌++◌, take, drop, length}
use Rattle.std.proofs.Common.{refl, sym, ◌∙◌, ap, subst, arith, add-one, inl, inr, All, Err}
use Rattle.std.proofs.Math.Seq.{take-append_seam, drop-append_seam}
use Rattle.std.proofs.lemmas.Bool.{eqb-false, true≢false}
use Rattle.std.proofs.lemmas.List.{take-append-drop, length-drop}
use Rattle.larch_base.specs.Position.{start_of_text, advance, position_behind}
use Rattle.larch_base.specs.declared.position.Pos.{Pos}
use Rattle.larch_lexer.specs.TokenTable.{is_blank, Longest, BeginsNoToken, EndsLine, LexAnswer, with_tokens, Lexes}
use Rattle.larch_lexer.specs.TokenTable.{at_end, skips_blank, skips_comment, takes_token, no_token}
use Rattle.larch_lexer.specs.Piece.{passing, stands_in, piece_at}
use Rattle.larch_lexer.specs.Lexing.{led_by, lexing_of, lexed_line, lexed_within, start_of_line}
use Rattle.larch_lexer.specs.declared.piece.Piece.{Piece}
use Rattle.larch_lexer.specs.declared.piece.Piece.TheVariants.{Skipped, Kept, Nothing}
use Rattle.larch_lexer.specs.declared.piece.Stretch.TheVariants.{Comment}
use Rattle.larch_lexer.specs.declared.token.Kind.{Kind}
use Rattle.larch_lexer.proofs.Bytes.{each_of}
use Rattle.larch_lexer.proofs.Comments.{comment_words, comment_ends, comment_length}
use Rattle.larch_lexer.proofs.LongestToken.{longest_is, piece_is_longest, nothing_begins}
use Rattle.larch_lexer.proofs.Steps.{lexed_behind}
use Rattle.larch_lexer.proofs.Table.{Sound, piece_sound, form_reaches}

-- texts of at most so many bytes have their computed answer
abbrev pub HaveAnswer : ℕ → Type 0
HaveAnswer count =
    (position : Pos) (text : List ℕ) → length text ≤ count → Lexes position text (lexed_within 0 position text)

skipped_comment : (count : ℕ) → HaveAnswer count → (position : Pos) (rest : List ℕ) (further : ℕ) → length rest ≤ count
    → further ≡ passing (stands_in Comment) rest
    → Lexes position (37 ∷ rest) (lexed_within further (advance position 37) rest)
skipped_comment count below position rest further h e =
    let words = take further rest in
    let left = drop further rest in
    let all = subst (λ n. All (λ byte. byte ≢ 10) (take n rest)) (sym e) (comment_words rest) in
    let ends = subst (λ n. EndsLine (drop n rest)) (sym e) (comment_ends rest) in
    let less : length left ≤ count = omega (arith, length-drop further rest) in
    let whole = skips_comment words left all ends (below (position_behind position (37 ∷ words)) left less) in
    subst (λ answer. Lexes position (37 ∷ rest) answer) (sym (lexed_behind further (advance position 37) rest))
    (subst (λ bytes. Lexes position (37 ∷ bytes) (lexed_within 0 (position_behind position (37 ∷ words)) left))
    (take-append-drop further rest) whole)

taken_token : (count : ℕ) → HaveAnswer count → (position : Pos) (byte : ℕ) (rest : List ℕ) (kind : Kind) (further : ℕ)
    → length rest ≤ count → piece_at byte rest ≡ Kept kind further
    → Lexes position (byte ∷ rest)
    (with_tokens (record { kind = kind; text = take (further + 1) (byte ∷ rest); pos = position } ∷ [])
    (lexed_within further (advance position byte) rest))
taken_token count below position byte rest kind further h e =
    let front = byte ∷ take further rest in
    let left = drop further rest in
    let less : length left ≤ count = omega (arith, length-drop further rest) in
    let whole = takes_token kind front left (piece_is_longest byte rest kind further e)
    (below (position_behind position front) left less) in
    subst (λ answer. Lexes position (byte ∷ rest)
    (with_tokens (record { kind = kind; text = take (further + 1) (byte ∷ rest); pos = position } ∷ []) answer))
    (sym (lexed_behind further (advance position byte) rest))
    (subst (λ n. Lexes position (byte ∷ rest)
    (with_tokens (record { kind = kind; text = take n (byte ∷ rest); pos = position } ∷ [])
    (lexed_within 0 (position_behind position front) left))) (sym (add-one further))
    (subst (λ bytes. Lexes position (byte ∷ bytes)
    (with_tokens (record { kind = kind; text = front; pos = position } ∷ [])
    (lexed_within 0 (position_behind position front) left))) (take-append-drop further rest) whole))

led : (count : ℕ) → HaveAnswer count → (position : Pos) (byte : ℕ) (rest : List ℕ) → length rest ≤ count
    → (piece : Piece) → piece_at byte rest ≡ piece → Sound byte rest piece
    → Lexes position (byte ∷ rest)
    (led_by piece position (byte ∷ rest) (λ inside. lexed_within inside (advance position byte) rest))
led count below position byte rest h (Skipped further) e (inl same) =
    subst (λ n. Lexes position (byte ∷ rest) (lexed_within n (advance position byte) rest)) (sym same.1)
    (skips_blank same.0 (below (advance position byte) rest h))
led count below position byte rest h (Skipped further) e (inr same) =
    subst (λ b. Lexes position (b ∷ rest) (lexed_within further (advance position b) rest)) (sym same.0)
    (skipped_comment count below position rest further h same.1)
led count below position byte rest h (Kept kind further) e sound =
    taken_token count below position byte rest kind further h e
led count below position byte rest h Nothing e sound =
    no_token position byte rest sound.0 (eqb-false byte 37 sound.1) (nothing_begins byte rest e)

has_answer : (count : ℕ) → HaveAnswer count
has_answer count position [] h = at_end position
has_answer zero position (byte ∷ rest) h = absurd (omega arith)
has_answer (suc count) position (byte ∷ rest) h =
    led count (has_answer count) position byte rest (omega arith) (piece_at byte rest) refl (piece_sound byte rest)

-- the relation holds of the computed answer
pub lexes_computed : (position : Pos) (text : List ℕ) → Lexes position text (lexed_within 0 position text)
lexes_computed position text = has_answer (length text) position text (omega arith)

pub lexes_given : (text : List ℕ) (answer : LexAnswer) → lexing_of text ≡ answer → Lexes start_of_text text answer
unfolding lexing_of
lexes_given text answer e = subst (Lexes start_of_text text) e (lexes_computed start_of_text text)

blank_piece : (byte : ℕ) (rest : List ℕ) → is_blank byte ≡ true → piece_at byte rest ≡ Skipped 0
blank_piece byte rest e =
    each_of (λ b. piece_at b rest ≡ Skipped 0) (9 ∷ 10 ∷ 13 ∷ 32 ∷ []) byte e (refl, (refl, (refl, (refl, tt))))

-- how the text goes on behind its first byte
onward : Pos → ℕ → List ℕ → ℕ → LexAnswer
onward position byte rest inside = lexed_within inside (advance position byte) rest

led_of : Pos → ℕ → List ℕ → Piece → LexAnswer
led_of position byte rest piece = led_by piece position (byte ∷ rest) (onward position byte rest)

on_blank : (position : Pos) (byte : ℕ) (rest : List ℕ) → is_blank byte ≡ true
    → lexed_within 0 position (byte ∷ rest) ≡ lexed_within 0 (advance position byte) rest
unfolding onward led_of
on_blank position byte rest e = ap (led_of position byte rest) (blank_piece byte rest e)

on_comment : (position : Pos) (words rest : List ℕ) → All (λ byte. byte ≢ 10) words → EndsLine rest
    → lexed_within 0 position (37 ∷ (words ++ rest)) ≡ lexed_within 0 (position_behind position (37 ∷ words)) rest
unfolding onward led_of
on_comment position words rest all ends =
    ap (onward position 37 (words ++ rest)) (comment_length words rest all ends)
    ∙ (lexed_behind (length words) (advance position 37) (words ++ rest)
    ∙ (ap (λ taken. lexed_within 0 (position_behind (advance position 37) taken) (drop (length words) (words ++ rest)))
    (take-append_seam words rest)
    ∙ ap (λ left. lexed_within 0 (position_behind (advance position 37) words) left) (drop-append_seam words rest)))

on_token : (position : Pos) (kind : Kind) (front behind : List ℕ) → Longest kind front behind
    → lexed_within 0 position (front ++ behind)
    ≡ with_tokens (record { kind = kind; text = front; pos = position } ∷ [])
    (lexed_within 0 (position_behind position front) behind)
unfolding onward led_of
on_token position kind [] behind longest = absurd (form_reaches kind [] behind longest.has_it)
on_token position kind (byte ∷ bytes) behind longest =
    let text = bytes ++ behind in
    let n = length bytes in
    ap (led_of position byte text) (longest_is kind byte bytes behind longest)
    ∙
    (ap (λ answer. with_tokens (record { kind = kind; text = take (n + 1) (byte ∷ text); pos = position } ∷ []) answer)
    (lexed_behind n (advance position byte) text)
    ∙
    (ap (λ count. with_tokens (record { kind = kind; text = take count (byte ∷ text); pos = position } ∷ [])
    (lexed_within 0 (position_behind (advance position byte) (take n text)) (drop n text))) (add-one n)
    ∙
    (ap (λ taken. with_tokens (record { kind = kind; text = byte ∷ taken; pos = position } ∷ [])
    (lexed_within 0 (position_behind (advance position byte) taken) (drop n text))) (take-append_seam bytes behind)
    ∙ ap (λ left. with_tokens (record { kind = kind; text = byte ∷ bytes; pos = position } ∷ [])
    (lexed_within 0 (position_behind (advance position byte) bytes) left)) (drop-append_seam bytes behind))))

none_there : (byte : ℕ) (rest : List ℕ) (piece : Piece) → Sound byte rest piece → is_blank byte ≡ false → byte ≢ 37
    → BeginsNoToken (byte ∷ rest) → piece ≡ Nothing
none_there byte rest (Skipped further) (inl same) unblank percent none = absurd (true≢false (sym same.0 ∙ unblank))
none_there byte rest (Skipped further) (inr same) unblank percent none = absurd (percent same.0)
none_there byte rest (Kept kind further) sound unblank percent none =
    absurd
    (true≢false (sym sound.0 ∙ none kind (byte ∷ take further rest) (drop further rest)
    (ap (λ bytes. byte ∷ bytes) (sym (take-append-drop further rest)))))
none_there byte rest Nothing sound unblank percent none = refl

on_none : (position : Pos) (byte : ℕ) (rest : List ℕ) → is_blank byte ≡ false → byte ≢ 37 → BeginsNoToken (byte ∷ rest)
    → lexed_within 0 position (byte ∷ rest) ≡ Err position
unfolding onward led_of
on_none position byte rest unblank percent none =
    ap (led_of position byte rest)
    (none_there byte rest (piece_at byte rest) (piece_sound byte rest) unblank percent none)

-- the computed answer is the only one
pub lexes_once : (position : Pos) (text : List ℕ) (answer : LexAnswer) → Lexes position text answer
    → lexed_within 0 position text ≡ answer
lexes_once position text answer (at_end _) = refl
lexes_once position text answer (skips_blank {byte = byte} {rest = rest} e more) =
    on_blank position byte rest e ∙ lexes_once (advance position byte) rest answer more
lexes_once position text answer (skips_comment words rest all ends more) =
    on_comment position words rest all ends ∙ lexes_once (position_behind position (37 ∷ words)) rest answer more
lexes_once position text answer (takes_token {answer = before} kind front behind longest more) =
    on_token position kind front behind longest
    ∙ ap (with_tokens (record { kind = kind; text = front; pos = position } ∷ []))
    (lexes_once (position_behind position front) behind before more)
lexes_once position text answer (no_token _ byte rest e percent none) = on_none position byte rest e percent none

pub lexed_lexes : (text : List ℕ) → Lexes start_of_text text (lexing_of text)
unfolding lexing_of
lexed_lexes text = lexes_computed start_of_text text

pub lexed_once : (text : List ℕ) (answer : LexAnswer) → Lexes start_of_text text answer → lexing_of text ≡ answer
unfolding lexing_of
lexed_once text answer lexes = lexes_once start_of_text text answer lexes

pub line_lexes : (number : ℕ) (line : List ℕ) → Lexes (start_of_line number) line (lexed_line number line)
unfolding lexed_line
line_lexes number line = lexes_computed (start_of_line number) line

pub line_once : (number : ℕ) (line : List ℕ) (answer : LexAnswer) → Lexes (start_of_line number) line answer
    → lexed_line number line ≡ answer
unfolding lexed_line
line_once number line answer lexes = lexes_once (start_of_line number) line answer lexes
