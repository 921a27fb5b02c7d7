-- How far bytes go that pass a test.
use Rattle.std.proofs.Common.{ℕ, suc, ◌≡◌, ◌+◌, ◌≤◌, ◌==◌, ◌&&◌, ◌||◌, Bool, true, false, List, [], ◌∷◌, ◌++◌, take}
use Rattle.std.proofs.Common.{drop, length, refl, ap, arith, add-one}
use Rattle.std.specs.Char.{is_ascii_alphabetic, is_ascii_alphanumeric}
use Rattle.std.specs.List.{list_all}
use Rattle.std.proofs.lemmas.Bool.{cond_both, and_parts, and_from, or_left}
use Rattle.std.proofs.lemmas.List.{take-append-drop}
use Rattle.larch_base.specs.Word.{begins_alphanumeric, goes_on}
use Rattle.larch_lexer.specs.TokenTable.{each_passes}
use Rattle.larch_lexer.specs.Piece.{passing, stands_in_word}

-- a front that passes, and then more, where the first byte passes
passing_more : (test : ℕ → List ℕ → Bool) (byte : ℕ) (rest : List ℕ) → test byte rest ≡ true
    → passing test (byte ∷ rest) ≡ suc (passing test rest)
passing_more test byte rest e = rw e (add-one (passing test rest))

pub passing_within : (test : ℕ → List ℕ → Bool) (bytes : List ℕ) → passing test bytes ≤ length bytes
passing_within test [] = omega arith
passing_within test (byte ∷ rest) =
    let below = passing_within test rest in
    cond_both (test byte rest) (passing test rest + 1) 0 (λ n. n ≤ length (byte ∷ rest)) (λ _. omega arith)
    (λ _. omega arith)

-- the bytes that were counted pass
PassesAt : (ℕ → List ℕ → Bool) → List ℕ → ℕ → Type 0
PassesAt test bytes n = each_passes test (take n bytes) (drop n bytes) ≡ true

pub passing_passes : (test : ℕ → List ℕ → Bool) (bytes : List ℕ)
    → each_passes test (take (passing test bytes) bytes) (drop (passing test bytes) bytes) ≡ true
unfolding PassesAt
passing_passes test [] = refl
passing_passes test (byte ∷ rest) =
    let n = passing test rest in
    cond_both (test byte rest) (n + 1) 0 (PassesAt test (byte ∷ rest))
    (λ e. rw (add-one n) (and_from (test byte (take n rest ++ drop n rest))
    (each_passes test (take n rest) (drop n rest)) (rw (take-append-drop n rest) e) (passing_passes test rest)))
    (λ _. refl)

-- no longer front passes
pub passing_most : (test : ℕ → List ℕ → Bool) (front behind : List ℕ) → each_passes test front behind ≡ true
    → length front ≤ passing test (front ++ behind)
passing_most test [] behind e = omega arith
passing_most test (byte ∷ bytes) behind e =
    let parts = and_parts (test byte (bytes ++ behind)) (each_passes test bytes behind) e in
    rw (passing_more test byte (bytes ++ behind) parts.0) (omega (arith, passing_most test bytes behind parts.1))

-- letters are judged by themselves
pub letters_pass : (bytes behind : List ℕ)
    → each_passes (λ byte _. is_ascii_alphabetic byte) bytes behind ≡ list_all is_ascii_alphabetic bytes
letters_pass [] behind = refl
letters_pass (byte ∷ bytes) behind = ap (λ rest. is_ascii_alphabetic byte && rest) (letters_pass bytes behind)

-- what stands in a word still does where more stands behind it
begins_still : (bytes behind : List ℕ) → begins_alphanumeric bytes ≡ true → begins_alphanumeric (bytes ++ behind) ≡ true
begins_still [] behind e = absurd cc
begins_still (byte ∷ bytes) behind e = e

or_still : (other mark some more : Bool) → (some ≡ true → more ≡ true) → (other || (mark && some)) ≡ true
    → (other || (mark && more)) ≡ true
or_still true mark some more still e = refl
or_still false false some more still e = e
or_still false true some more still e = still e

stands_if : (byte : ℕ) (some more : List ℕ) → (begins_alphanumeric some ≡ true → begins_alphanumeric more ≡ true)
    → stands_in_word byte some ≡ true → stands_in_word byte more ≡ true
stands_if byte some more still e =
    or_still (is_ascii_alphanumeric byte || (byte == 39)) (byte == 95) (begins_alphanumeric some)
    (begins_alphanumeric more) still e

pub word_most : (front behind : List ℕ) → goes_on front ≡ true → length front ≤ passing stands_in_word (front ++ behind)
word_most [] behind e = omega arith
word_most (byte ∷ bytes) behind e =
    let parts = and_parts (stands_in_word byte bytes) (goes_on bytes) e in
    let stands = stands_if byte bytes (bytes ++ behind) (begins_still bytes behind) parts.0 in
    rw (passing_more stands_in_word byte (bytes ++ behind) stands) (omega (arith, word_most bytes behind parts.1))

begins_taken : (bytes : List ℕ) → begins_alphanumeric bytes ≡ true
    → begins_alphanumeric (take (passing stands_in_word bytes) bytes) ≡ true
begins_taken [] e = absurd cc
begins_taken (byte ∷ rest) e =
    rw (passing_more stands_in_word byte rest
    (or_left (is_ascii_alphanumeric byte || (byte == 39)) ((byte == 95) && begins_alphanumeric rest)
    (or_left (is_ascii_alphanumeric byte) (byte == 39) e))) e

GoesOnAt : List ℕ → ℕ → Type 0
GoesOnAt bytes n = goes_on (take n bytes) ≡ true

pub word_goes_on : (bytes : List ℕ) → goes_on (take (passing stands_in_word bytes) bytes) ≡ true
unfolding GoesOnAt
word_goes_on [] = refl
word_goes_on (byte ∷ rest) =
    let n = passing stands_in_word rest in
    cond_both (stands_in_word byte rest) (n + 1) 0 (GoesOnAt (byte ∷ rest))
    (λ e. rw (add-one n) (and_from (stands_in_word byte (take n rest)) (goes_on (take n rest))
    (stands_if byte rest (take n rest) (begins_taken rest) e) (word_goes_on rest)))
    (λ _. refl)
