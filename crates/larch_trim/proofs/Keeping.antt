-- The lines that are kept, one by one, and their numbers.
use Rattle.std.proofs.Common.{◌≡◌, ℕ, zero, suc, ◌==◌, ◌+◌, ◌-◌, ◌<◌, ◌≤◌, Bool, true, false, cond, inl, inr, List, []}
use Rattle.std.proofs.Common.{◌∷◌, ◌++◌, length, take, get_or, Some, None, refl, sym, ◌∙◌, ap, subst, arith}
use Rattle.std.specs.Prelude.{Result, Ok, Err, IfOk}
use Rattle.std.specs.List.{slice_get}
use Rattle.std.specs.Option.{option_map_or}
use Rattle.std.proofs.lemmas.Bool.{ne_eqb}
use Rattle.std.proofs.lemmas.List.{length-take, take_more}
use Rattle.larch_base.specs.ByNumber.{numbered}
use Rattle.larch_base.specs.declared.memory.Memory.{Memory}
use Rattle.larch_certificate.specs.declared.line.Line.{Line}
use Rattle.larch_verify_law.specs.Moves.{moved_line, carry_lines}
use Rattle.larch_trim_meaning.specs.Reached.{is_marked}
use Rattle.larch_trim_meaning.specs.Trimmed.{new_number, number_move, kept_line, kept_lines}
use Rattle.larch_trim_law.proofs.Again.{carry_append, nothing_more}
use Rattle.larch_trim_law.proofs.Marks.{numbered_suc, below_or_not, mark_at, marked_suc}
use Rattle.larch_trim_law.proofs.Numbers.{new_is, new_marked, new_nought, new_unmarked, ranked}

-- ---- lines

line_more : (marks : List Bool) (lines : List Line) (i : ℕ) (l : Line) → i < length lines → l ≡ get_or lines i l
    → kept_lines marks (take (i + 1) lines) ≡ kept_lines marks (take i lines) ++ kept_line marks (suc i) l
line_more marks lines i l lt is =
    let size = length-take i lines in
    let one : 1 + length (take i lines) ≡ suc i = omega (arith, size, lt) in
    ap (kept_lines marks) (take_more lines i l lt ∙ ap (λ x. take i lines ++ x ∷ []) (sym is))
    ∙ carry_append (kept_line marks) 1 (take i lines) (l ∷ [])
    ∙ ap (λ n. kept_lines marks (take i lines) ++ carry_lines (kept_line marks) n (l ∷ [])) one
    ∙ ap (λ xs. kept_lines marks (take i lines) ++ xs) (nothing_more (kept_line marks (suc i) l))

pub mark_is : (marks : List Bool) (i : ℕ) (d : Bool) → i < length marks → is_marked marks (suc i) ≡ get_or marks i d
mark_is marks i d lt = marked_suc marks i ∙ at marks i d lt
  where
    at : (ms : List Bool) (i : ℕ) (d : Bool) → i < length ms → mark_at ms i ≡ get_or ms i d
    at [] i d lt = absurd (omega (arith, lt))
    at (m ∷ ms) zero d lt = refl
    at (m ∷ ms) (suc i) d lt = at ms i d (omega (arith, lt))

-- a line that is kept, with its new numbers
pub kept_more : (marks : List Bool) (lines : List Line) (f : ℕ → ℕ) → ((n : ℕ) → f n ≡ new_number marks n) → (i : ℕ)
    (l moved : Line) (left : List Line) → i < length lines → l ≡ get_or lines i l → is_marked marks (suc i) ≡ true
    → moved ≡ moved_line (number_move f) l → left ≡ kept_lines marks (take i lines)
    → left ++ moved ∷ [] ≡ kept_lines marks (take (i + 1) lines)
kept_more marks lines f same i l moved left lt is e m h =
    let number : moved_line (number_move f) l ≡ moved_line (number_move (new_number marks)) l =
    λ j. moved_line (number_move (λ n. same n j)) l in
    (λ j. h j ++ (m ∙ number) j ∷ [])
    ∙ ap (λ b. kept_lines marks (take i lines) ++ cond b (moved_line (number_move (new_number marks)) l ∷ []) [])
    (sym e)
    ∙ sym (line_more marks lines i l lt is)

some_line : (lines : List Line) (i : ℕ) → i < length lines → (l : Line) × (l ≡ get_or lines i l)
some_line [] i lt = absurd (omega (arith, lt))
some_line (l ∷ ls) zero lt = (l, refl)
some_line (l ∷ ls) (suc i) lt = some_line ls i (omega (arith, lt))

-- one that isn't
pub kept_same : (marks : List Bool) (lines : List Line) (i : ℕ) (left : List Line) → i < length lines
    → is_marked marks (suc i) ≡ false → left ≡ kept_lines marks (take i lines)
    → left ≡ kept_lines marks (take (i + 1) lines)
kept_same marks lines i left lt e h =
    let some = some_line lines i lt in
    h ∙ sym (nothing_more (kept_lines marks (take i lines)))
    ∙ ap (λ b. kept_lines marks (take i lines) ++ cond b (moved_line (number_move (new_number marks)) some.0 ∷ []) [])
    (sym e)
    ∙ sym (line_more marks lines i some.0 lt some.1)

-- ---- numbers

ranked_on : (ms : List Bool) (k : ℕ) → ranked ms (k + length ms) ≡ ranked ms (length ms)
ranked_on [] k = refl
ranked_on (m ∷ ms) k =
    let e : k + suc (length ms) ≡ suc (k + length ms) = omega arith in
    ap (ranked (m ∷ ms)) e ∙ ap (λ n. cond m 1 0 + n) (ranked_on ms k)

-- behind the last line there are no more
pub new_beyond : (ms : List Bool) (n : ℕ) → length ms ≤ n → new_number ms n ≡ new_number ms (length ms)
new_beyond ms n le =
    let same : (n - length ms) + length ms ≡ n = omega (arith, le) in
    new_is ms n ∙ ap (ranked ms) (sym same) ∙ ranked_on ms (n - length ms) ∙ sym (new_is ms (length ms))

-- a table has the new numbers of the first lines
abbrev pub HasNumbers : List Bool → List ℕ → Type 0
HasNumbers ms ns = (j : ℕ) → j < length ns → slice_get ns j ≡ Some (new_number ms (suc j))

beyond_list : {X : Type 0} (xs : List X) (i : ℕ) → length xs ≤ i → slice_get xs i ≡ None
beyond_list [] i le = refl
beyond_list (x ∷ xs) zero le = absurd (omega (arith, le))
beyond_list (x ∷ xs) (suc i) le = beyond_list xs i (omega (arith, le))

pub numbers_more : (ms : List Bool) (ns : List ℕ) (k : ℕ) → HasNumbers ms ns → k ≡ new_number ms (suc (length ns))
    → HasNumbers ms (ns ++ k ∷ [])
numbers_more ms ns k h e j lt = at ns j (λ i. new_number ms (suc i)) h lt e
  where
    at : (xs : List ℕ) (j : ℕ) (f : ℕ → ℕ) → ((i : ℕ) → i < length xs → slice_get xs i ≡ Some (f i))
        → j < length (xs ++ k ∷ []) → k ≡ f (length xs) → slice_get (xs ++ k ∷ []) j ≡ Some (f j)
    at [] zero f h lt e = ap Some e
    at [] (suc j) f h lt e = absurd (omega (arith, lt))
    at (x ∷ xs) zero f h lt e = h 0 (omega arith)
    at (x ∷ xs) (suc j) f h lt e =
        at xs j (λ i. f (suc i)) (λ i l. h (suc i) (omega (arith, l))) (omega (arith, lt)) e

pub numbers_found : (ms : List Bool) (ns : List ℕ) (all : ℕ) → HasNumbers ms ns → length ns ≡ length ms
    → all ≡ new_number ms (length ms) → (n : ℕ)
    → cond (n == 0) 0 (option_map_or (λ k. k) (numbered ns n) all) ≡ new_number ms n
numbers_found ms ns all h size e zero = sym (new_nought ms)
numbers_found ms ns all h size e (suc j) =
    ap (λ b. cond b 0 (option_map_or (λ k. k) (numbered ns (suc j)) all)) (ne_eqb (suc j) 0 (λ p. omega (arith, p)))
    ∙ ap (λ o. option_map_or (λ k. k) o all) (numbered_suc ns j)
    ∙ elim (below_or_not j (length ns)) [
      | inl lt ↦ ap (λ o. option_map_or (λ k. k) o all) (h j lt)
      | inr le ↦ ap (λ o. option_map_or (λ k. k) o all) (beyond_list ns j le) ∙ e
          ∙ sym (new_beyond ms (suc j) (omega (arith, le, size)))
    ]

-- how many are kept, one mark further
pub count_on : (ms : List Bool) (i k k_new : ℕ) → is_marked ms (suc i) ≡ true → k_new ≡ k + 1 → k ≡ new_number ms i
    → k_new ≡ new_number ms (i + 1)
count_on ms i k k_new m n e =
    let one : i + 1 ≡ suc i = omega arith in
    let more = new_marked ms i m in
    let here : k_new ≡ suc (new_number ms i) = omega (arith, n, e) in
    here ∙ sym more ∙ ap (new_number ms) (sym one)

pub count_same : (ms : List Bool) (i k k_new : ℕ) → is_marked ms (suc i) ≡ false → k_new ≡ k → k ≡ new_number ms i
    → k_new ≡ new_number ms (i + 1)
count_same ms i k k_new m n e =
    let one : i + 1 ≡ suc i = omega arith in
    n ∙ e ∙ sym (new_unmarked ms i m) ∙ ap (new_number ms) (sym one)

pub longer : (ns : List ℕ) (k : ℕ) → length (ns ++ k ∷ []) ≡ length ns + 1
longer [] k = omega arith
longer (n ∷ ns) k = let e = longer ns k in omega (arith, e)

-- ---- the answer

-- what holds of the lines that an answer is, if it is one, holds of the answer
pub if_left : (r : Result (List Line) Memory) (ls : List Line) → IfOk r (λ left. left ≡ ls) → (P : List Line → Type 0)
    → P ls → IfOk r P
if_left (Ok l) ls e P p = subst P (sym e) p
if_left (Err m) ls e P p = tt
