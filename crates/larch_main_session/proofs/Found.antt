-- What is found at the front of bytes whose beginning is known.
use Rattle.std.proofs.Common.{◌≡◌, ◌≢◌, ℕ, ◌+◌, ◌<◌, ◌≤◌, Bool, true, false, List, [], ◌∷◌, ◌++◌, length, get_or, take}
use Rattle.std.proofs.Common.{drop, ap, ap₂, ◌∙◌, arith, length-append, length-take}
use Rattle.std.specs.List.{position_or_len}
use Rattle.std.proofs.lemmas.List.Sums.{position_or_len_is, passes_at_first}
use Rattle.std.proofs.lemmas.Bool.Decides.{nat_tests}
use Rattle.std.proofs.Math.Seq.{take-append_seam, drop-append_seam, drop-append-add}
use Rattle.std.proofs.lemmas.Grind.{common_steps}
use Rattle.larch_io.specs.Take.{HasNoNewline, IsLine}
use Rattle.larch_main_session.specs.Lines.{is_newline, line, no_line, long_line, full, unfinished, line_at}
use Rattle.larch_main_session.specs.Lines.{line_of_size, bytes}
use Rattle.larch_main_session.specs.Lines.{cut, too_many, wanting, bytes_at}

-- a byte that is no newline ends no line
no_newline : (byte : ℕ) → byte ≢ 10 → is_newline byte ≡ false
no_newline byte h = grind (arith, nat_tests)

-- a line ends where its newline stands
pub line_size : (front rest : List ℕ) → HasNoNewline front
    → position_or_len is_newline (front ++ 10 ∷ rest) ≡ length front
line_size front rest all =
    position_or_len_is is_newline (front ++ 10 ∷ rest) (length front) 0 (omega (arith, length-append front (10 ∷ rest)))
    (λ k h. no_newline _ (let e : get_or (front ++ 10 ∷ rest) k 0 ≡ get_or front k 0 = grind (arith, common_steps) in
    rw e (all k 0 h)))
    (λ _. let e : get_or (front ++ 10 ∷ rest) (length front) 0 ≡ 10 = grind (arith, common_steps) in ap is_newline e)

pub last_size : (front : List ℕ) → HasNoNewline front → position_or_len is_newline front ≡ length front
last_size front all =
    position_or_len_is is_newline front (length front) 0 (omega arith) (λ k h. no_newline _ (all k 0 h))
    (λ h. absurd (omega arith))

newline_is : (byte : ℕ) → is_newline byte ≡ true → byte ≡ 10
newline_is byte h = grind (arith, nat_tests)

found_early : (n : ℕ) (kept rest : List ℕ) → n ≤ length kept → HasNoNewline (take n kept)
    → position_or_len is_newline (kept ++ rest) < n → ⊥
found_early n kept rest le all h =
    let place = position_or_len is_newline (kept ++ rest) in
    let inside : place < length (kept ++ rest) = omega (arith, length-append kept rest) in
    let ten : get_or (kept ++ rest) place 0 ≡ 10 = newline_is _ (passes_at_first is_newline (kept ++ rest) 0 inside) in
    let within : place < length (take n kept) = omega (arith, length-take n kept) in
    let same : get_or (take n kept) place 0 ≡ get_or (kept ++ rest) place 0 = grind (arith, common_steps) in
    all place 0 within (same ∙ ten)

-- no newline stands among the first n
pub size_from : (n : ℕ) (kept rest : List ℕ) → n ≤ length kept → HasNoNewline (take n kept)
    → n ≤ position_or_len is_newline (kept ++ rest)
size_from n kept rest le all = omega (arith, found_early n kept rest le all)

pub line_found : (ended : Bool) (room : ℕ) (front rest : List ℕ) → IsLine front → length front < room
    → line_at ended room (front ++ 10 ∷ rest) ≡ line front rest
line_found ended room front rest is h =
    let size = line_size front rest is.0 in
    let long = length-append front (10 ∷ rest) in
    let few : length front ≤ 200 = is.1 in
    let found : line_of_size ended room (length front) (front ++ 10 ∷ rest)
    ≡ line (take (length front) (front ++ 10 ∷ rest)) (drop (length front + 1) (front ++ 10 ∷ rest)) =
    grind (arith, nat_tests) in
    ap (λ n. line_of_size ended room n (front ++ 10 ∷ rest)) size ∙ found
    ∙ ap₂ line (take-append_seam front (10 ∷ rest)) (drop-append-add front (10 ∷ rest) 1)

pub last_found : (room : ℕ) (front : List ℕ) → IsLine front → 0 < length front → length front ≤ room
    → line_at true room front ≡ line front []
last_found room front is some h =
    let few : length front ≤ 200 = is.1 in
    let found : line_of_size true room (length front) front ≡ line front [] = grind (arith, nat_tests) in
    ap (λ n. line_of_size true room n front) (last_size front is.0) ∙ found

pub none_found : (room : ℕ) → line_at true room [] ≡ no_line
none_found room = grind (arith, nat_tests)

pub long_found : (ended : Bool) (room : ℕ) (kept rest : List ℕ) → 201 ≤ length kept → 201 ≤ room
    → HasNoNewline (take 201 kept) → line_at ended room (kept ++ rest) ≡ long_line
long_found ended room kept rest long roomy all =
    let size : 201 ≤ position_or_len is_newline (kept ++ rest) = size_from 201 kept rest long all in
    by_size ended room _ (kept ++ rest) size roomy
  where
    by_size : (ended : Bool) (room size : ℕ) (input : List ℕ) → 201 ≤ size → 201 ≤ room
        → line_of_size ended room size input ≡ long_line
    by_size ended room size input h roomy = grind (arith, nat_tests)

pub full_found : (ended : Bool) (room : ℕ) (kept rest : List ℕ) → room < length kept → room < 201
    → HasNoNewline (take room kept) → line_at ended room (kept ++ rest) ≡ full
full_found ended room kept rest more few all =
    let size : room ≤ position_or_len is_newline (kept ++ rest) = size_from room kept rest (omega arith) all in
    by_size ended room _ (kept ++ rest) size (omega (arith, length-append kept rest)) few
  where
    by_size : (ended : Bool) (room size : ℕ) (input : List ℕ) → room ≤ size → room < length input → room < 201
        → line_of_size ended room size input ≡ full
    by_size ended room size input h more few = grind (arith, nat_tests)

pub unfinished_found : (room : ℕ) (kept : List ℕ) → length kept < 201 → length kept ≤ room → HasNoNewline kept
    → line_at false room kept ≡ unfinished
unfinished_found room kept few h all =
    let found : line_of_size false room (length kept) kept ≡ unfinished = grind (arith, nat_tests) in
    ap (λ n. line_of_size false room n kept) (last_size kept all) ∙ found

-- so many bytes are there and may be taken
pub bytes_found : (ended : Bool) (room : ℕ) (front rest : List ℕ) → length front ≤ room
    → bytes_at ended room (length front) (front ++ rest) ≡ bytes front rest
bytes_found ended room front rest h =
    let long = length-append front rest in
    let found : bytes_at ended room (length front) (front ++ rest)
    ≡ bytes (take (length front) (front ++ rest)) (drop (length front) (front ++ rest)) =
    grind (arith, nat_tests) in
    found ∙ ap₂ bytes (take-append_seam front rest) (drop-append_seam front rest)

pub cut_found : (room count : ℕ) (kept : List ℕ) → length kept < count → length kept ≤ room
    → bytes_at true room count kept ≡ cut
cut_found room count kept few h = grind (arith, nat_tests)

pub wanting_found : (room count : ℕ) (kept : List ℕ) → length kept < count → length kept ≤ room
    → bytes_at false room count kept ≡ wanting
wanting_found room count kept few h = grind (arith, nat_tests)

pub too_many_found : (ended : Bool) (room count : ℕ) (kept rest : List ℕ) → room < length kept → room < count
    → bytes_at ended room count (kept ++ rest) ≡ too_many
too_many_found ended room count kept rest more h = let long = length-append kept rest in grind (arith, nat_tests)
