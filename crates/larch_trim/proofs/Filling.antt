-- The table of ends that is filled line by line.
use Rattle.std.proofs.Common.{◌≡◌, ◌≢◌, ℕ, zero, suc, ◌==◌, ◌+◌, ◌-◌, ◌<◌, ◌≤◌, Bool, true, false, cond, List, []}
use Rattle.std.proofs.Common.{◌∷◌}
use Rattle.std.proofs.Common.{◌++◌, drop, length, get_or, set, replicate, refl, sym, ◌∙◌, ap, append_assoc, arith}
use Rattle.std.proofs.lemmas.Bool.{eqb-true, eqb-false, ne_eqb}
use Rattle.std.proofs.lemmas.List.{drop_more, length-set, get_or-set_same, get_or-set_other, length-replicate}
use Rattle.larch_certificate.specs.declared.line.Line.{Line}
use Rattle.larch_certificate.specs.declared.line.Line.TheVariants.{Axiom, Hyp, Row, Refl, Sym, Inst, Repl, Equal}
use Rattle.larch_certificate.specs.declared.line.Line.TheVariants.{BoxLine, Done, Fresh, Cases, Induct, Observe}
use Rattle.larch_certificate.specs.declared.line.Line.TheVariants.{Generated, Partitioned}
use Rattle.larch_trim_meaning.specs.Needed.{open_behind, if_innermost, end_from}
use Rattle.larch_trim.specs.Ends.{ends_behind, end_lines, AreEnds}

-- the table behind lines
abbrev pub filled : ℕ → List ℕ → List Line → List ℕ → List ℕ
filled n bs [] ends = ends
filled n bs (l ∷ ls) ends = filled (suc n) (open_behind n bs l) ls (ends_behind n bs l ends)

-- each box is opened behind the one that it stands in
abbrev pub Descends : ℕ → List ℕ → Type 0
Descends n [] = Unit {0}
Descends n (b ∷ bs) = (b < n) × Descends b bs

further_down : (n m : ℕ) (bs : List ℕ) → n ≤ m → Descends n bs → Descends m bs
further_down n m [] le d = tt
further_down n m (b ∷ bs) le d = let lt = d.0 in (omega (arith, lt, le), d.1)

-- none of them has an end yet
abbrev pub NoEnds : List ℕ → List ℕ → Type 0
NoEnds ends [] = Unit {0}
NoEnds ends (b ∷ bs) = (get_or ends b 0 ≡ 0) × NoEnds ends bs

still_no_ends : (ends : List ℕ) (b n : ℕ) (bs : List ℕ) → Descends b bs → NoEnds ends bs → NoEnds (set ends b n) bs
still_no_ends ends b n [] d c = tt
still_no_ends ends b n (a ∷ bs) d c =
    let lt = d.0 in
    let other : a ≢ b = λ e. omega (arith, e, lt) in (
      get_or-set_other ends b a n 0 other ∙ c.0,
      still_no_ends ends b n bs (further_down a b bs (omega (arith, lt)) d.1) c.1,
    )

nothing_behind : (xs : List ℕ) → xs ++ [] ≡ xs
nothing_behind [] = refl
nothing_behind (x ∷ xs) = ap (λ ys. x ∷ ys) (nothing_behind xs)

end_lines_of : (n : ℕ) → 0 < n → end_lines n ≡ n ∷ (n - 1) ∷ []
end_lines_of n lt = ap (λ b. cond b [] (n ∷ (n - 1) ∷ [])) (ne_eqb n 0 (λ e. omega (arith, e, lt)))

one_end : (ends : List ℕ) (b n m : ℕ) (bs : List ℕ) → 0 < n → b < length ends → get_or ends b 0 ≡ 0
    → end_lines (get_or (set ends b n) m 0) ≡ end_lines (get_or ends m 0) ++ if_innermost n (b ∷ bs) m
one_end ends b n m bs low lt none = split (b == m) refl
  where
    split : (x : Bool) → (b == m) ≡ x
        → end_lines (get_or (set ends b n) m 0) ≡ end_lines (get_or ends m 0) ++ cond x (n ∷ (n - 1) ∷ []) []
    split true p =
        let same : b ≡ m = eqb-true b m p in
        ap (λ i. end_lines (get_or (set ends b n) i 0)) (sym same)
        ∙ ap end_lines (get_or-set_same ends b n 0 lt) ∙ end_lines_of n low
        ∙ ap (λ i. end_lines i ++ n ∷ (n - 1) ∷ []) (sym none)
        ∙ ap (λ i. end_lines (get_or ends i 0) ++ n ∷ (n - 1) ∷ []) same
    split false p =
        let other : m ≢ b = λ e. eqb-false b m p (sym e) in
        ap end_lines (get_or-set_other ends b m n 0 other) ∙ sym (nothing_behind (end_lines (get_or ends m 0)))

-- what has been found of lines behind others
pub record Fits (n : ℕ) (bs : List ℕ) (ends : List ℕ) (ls : List Line) : Type 0 where
  pub low : 0 < n
  pub below : Descends n bs
  pub none : NoEnds ends bs
  pub further : (m : ℕ) → n ≤ m → get_or ends m 0 ≡ 0
  pub long : n + length ls ≤ length ends

fits_on : (n : ℕ) (bs ends : List ℕ) (l : Line) (ls : List Line) → Fits n bs ends (l ∷ ls) → Fits (suc n) bs ends ls
fits_on n bs ends l ls f =
    let low = f.low in
    let long = f.long in
    record {
      low = omega arith;
      below = further_down n (suc n) bs (omega arith) f.below;
      none = f.none;
      further = λ m le. f.further m (omega (arith, le));
      long = omega (arith, long);
    }

pub ends_filled : (ls : List Line) (n : ℕ) (bs ends : List ℕ) → Fits n bs ends ls → (m : ℕ)
    → end_lines (get_or (filled n bs ls ends) m 0) ≡ end_lines (get_or ends m 0) ++ end_from n bs ls m
ends_filled [] n bs ends f m = sym (nothing_behind (end_lines (get_or ends m 0)))
ends_filled (Axiom k ∷ ls) n bs ends f m = ends_filled ls (suc n) bs ends (fits_on n bs ends (Axiom k) ls f) m
ends_filled (Hyp b k ∷ ls) n bs ends f m = ends_filled ls (suc n) bs ends (fits_on n bs ends (Hyp b k) ls f) m
ends_filled (Row k s ∷ ls) n bs ends f m = ends_filled ls (suc n) bs ends (fits_on n bs ends (Row k s) ls f) m
ends_filled (Refl c ∷ ls) n bs ends f m = ends_filled ls (suc n) bs ends (fits_on n bs ends (Refl c) ls f) m
ends_filled (Sym k ∷ ls) n bs ends f m = ends_filled ls (suc n) bs ends (fits_on n bs ends (Sym k) ls f) m
ends_filled (Inst k es ∷ ls) n bs ends f m = ends_filled ls (suc n) bs ends (fits_on n bs ends (Inst k es) ls f) m
ends_filled (Repl k p j ∷ ls) n bs ends f m = ends_filled ls (suc n) bs ends (fits_on n bs ends (Repl k p j) ls f) m
ends_filled (Equal k ∷ ls) n bs ends f m = ends_filled ls (suc n) bs ends (fits_on n bs ends (Equal k) ls f) m
ends_filled (BoxLine ps es ∷ ls) n bs ends f m =
    let on = fits_on n bs ends (BoxLine ps es) ls f in
    ends_filled ls (suc n) (n ∷ bs) ends
    (record {
      low = on.low;
      below = (omega arith, f.below);
      none = (f.further n (omega arith), f.none);
      further = on.further;
      long = on.long;
    }) m
ends_filled (Done ∷ ls) n [] ends f m = ends_filled ls (suc n) [] ends (fits_on n [] ends Done ls f) m
ends_filled (Done ∷ ls) n (b ∷ bs) ends f m =
    let on = fits_on n (b ∷ bs) ends Done ls f in
    let low = f.low in
    let long = f.long in
    let lt = f.below.0 in
    let size = length-set ends b n in
    ends_filled ls (suc n) bs (set ends b n)
    (record {
      low = on.low;
      below = further_down b (suc n) bs (omega (arith, lt)) f.below.1;
      none = still_no_ends ends b n bs f.below.1 f.none.1;
      further = λ k le. get_or-set_other ends b k n 0 (λ e. omega (arith, e, le, lt)) ∙ f.further k (omega (arith, le));
      long = omega (arith, long, size);
    }) m
    ∙ ap (λ xs. xs ++ end_from (suc n) bs ls m) (one_end ends b n m bs low (omega (arith, lt, long)) f.none.0)
    ∙ append_assoc (end_lines (get_or ends m 0)) (if_innermost n (b ∷ bs) m) (end_from (suc n) bs ls m)
ends_filled (Fresh b vs ∷ ls) n bs ends f m = ends_filled ls (suc n) bs ends (fits_on n bs ends (Fresh b vs) ls f) m
ends_filled (Cases b c ∷ ls) n bs ends f m = ends_filled ls (suc n) bs ends (fits_on n bs ends (Cases b c) ls f) m
ends_filled (Induct k x e ds ∷ ls) n bs ends f m =
    ends_filled ls (suc n) bs ends (fits_on n bs ends (Induct k x e ds) ls f) m
ends_filled (Observe k e ns ∷ ls) n bs ends f m =
    ends_filled ls (suc n) bs ends (fits_on n bs ends (Observe k e ns) ls f) m
ends_filled (Generated b s ks ∷ ls) n bs ends f m =
    ends_filled ls (suc n) bs ends (fits_on n bs ends (Generated b s ks) ls f) m
ends_filled (Partitioned b s ks ∷ ls) n bs ends f m =
    ends_filled ls (suc n) bs ends (fits_on n bs ends (Partitioned b s ks) ls f) m

-- a table without ends
abbrev no_table : ℕ → List ℕ
no_table n = replicate n 0

no_end : (n m : ℕ) → get_or (no_table n) m 0 ≡ 0
no_end zero m = refl
no_end (suc n) zero = refl
no_end (suc n) (suc m) = no_end n m

pub all_filled : (lines : List Line) → AreEnds lines (filled 1 [] lines (replicate (suc (length lines)) 0))
all_filled lines b lt le =
    let size : length (no_table (suc (length lines))) ≡ suc (length lines) = length-replicate (suc (length lines)) 0 in
    ends_filled lines 1 [] (no_table (suc (length lines)))
    (record {
      low = omega arith;
      below = tt;
      none = tt;
      further = λ m le. no_end (suc (length lines)) m;
      long = omega (arith, size);
    }) b
    ∙ ap (λ i. end_lines i ++ end_from 1 [] lines b) (no_end (suc (length lines)) b)

-- beyond its end nothing is set
pub set_beyond : (xs : List ℕ) (i x : ℕ) → length xs ≤ i → xs ≡ set xs i x
set_beyond [] i x le = refl
set_beyond (y ∷ xs) zero x le = absurd (omega (arith, le))
set_beyond (y ∷ xs) (suc i) x le = ap (λ ys. y ∷ ys) (set_beyond xs i x (omega (arith, le)))

-- one line further
pub next_line : (lines : List Line) (i number : ℕ) (inside inside_new ends ends_new : List ℕ) (l : Line)
    → i < length lines → l ≡ get_or lines i l → number ≡ i → inside_new ≡ open_behind (number + 1) inside l
    → ends_new ≡ ends_behind (number + 1) inside l ends
    → filled (suc (i + 1)) inside_new (drop (i + 1) lines) ends_new ≡ filled (suc i) inside (drop i lines) ends
next_line lines i number inside inside_new ends ends_new l lt is num o e =
    let one : number + 1 ≡ suc i = omega (arith, num) in
    let two : suc (i + 1) ≡ suc (suc i) = omega arith in
    (λ j. filled (two j) ((o ∙ ap (λ n. open_behind n inside l) one) j) (drop (i + 1) lines)
    ((e ∙ ap (λ n. ends_behind n inside l ends) one) j))
    ∙ sym (ap (λ ls. filled (suc i) inside ls ends)
    (drop_more lines i l lt ∙ ap (λ x. x ∷ drop (i + 1) lines) (sym is)))
