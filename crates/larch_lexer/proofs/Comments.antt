-- A comment goes up to the next newline.
use Rattle.std.proofs.Common.{ℕ, suc, ◌≡◌, ◌≢◌, ◌+◌, ◌==◌, not, List, [], ◌∷◌, ◌++◌, take, drop, length, refl, ◌∙◌, ap}
use Rattle.std.proofs.Common.{add-one, All}
use Rattle.std.proofs.lemmas.Bool.{cond_both, cond-true, cond-false, not-true, not-false, eqb-true, eqb-false, ne_eqb}
use Rattle.std.proofs.lemmas.Bool.{eq-eqb, not_from_true, not_from_false}
use Rattle.std.proofs.lemmas.List.Elements.{All-nil, All-cons, All-head, All-tail}
use Rattle.larch_lexer.specs.TokenTable.{EndsLine}
use Rattle.larch_lexer.specs.Piece.{passing, stands_in}
use Rattle.larch_lexer.specs.declared.piece.Stretch.TheVariants.{Comment}

-- not the end of a line
Inside : ℕ → Type 0
Inside byte = byte ≢ 10

InsideAll : List ℕ → ℕ → Type 0
InsideAll bytes count = All Inside (take count bytes)

pub comment_words : (bytes : List ℕ) → All (λ byte. byte ≢ 10) (take (passing (stands_in Comment) bytes) bytes)
unfolding Inside InsideAll
comment_words [] = All-nil Inside
comment_words (byte ∷ rest) =
    let n = passing (stands_in Comment) rest in
    cond_both (not (byte == 10)) (n + 1) 0 (InsideAll (byte ∷ rest))
    (λ e. rw (add-one n) (All-cons Inside byte (take n rest) (eqb-false byte 10 (not-true (byte == 10) e))
    (comment_words rest)))
    (λ _. All-nil Inside)

EndsAt : List ℕ → ℕ → Type 0
EndsAt bytes count = EndsLine (drop count bytes)

pub comment_ends : (bytes : List ℕ) → EndsLine (drop (passing (stands_in Comment) bytes) bytes)
unfolding EndsAt
comment_ends [] = tt
comment_ends (byte ∷ rest) =
    let n = passing (stands_in Comment) rest in
    cond_both (not (byte == 10)) (n + 1) 0 (EndsAt (byte ∷ rest))
    (λ _. rw (add-one n) (comment_ends rest))
    (λ e. eqb-true byte 10 (not-false (byte == 10) e))

ends_there : (rest : List ℕ) → EndsLine rest → passing (stands_in Comment) rest ≡ 0
ends_there [] e = refl
ends_there (byte ∷ rest) e =
    cond-false (not (byte == 10)) (passing (stands_in Comment) rest + 1) 0
    (not_from_true (byte == 10) (eq-eqb byte 10 e))

pub comment_length : (words rest : List ℕ) → All (λ byte. byte ≢ 10) words → EndsLine rest
    → passing (stands_in Comment) (words ++ rest) ≡ length words
comment_length [] rest all ends = ends_there rest ends
comment_length (byte ∷ words) rest all ends =
    cond-true (not (byte == 10)) (passing (stands_in Comment) (words ++ rest) + 1) 0
    (not_from_false (byte == 10) (ne_eqb byte 10 (All-head (λ b. b ≢ 10) byte words all)))
    ∙ add-one (passing (stands_in Comment) (words ++ rest))
    ∙ ap suc (comment_length words rest (All-tail (λ b. b ≢ 10) byte words all) ends)
