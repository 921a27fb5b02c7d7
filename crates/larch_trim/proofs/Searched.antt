-- The search finds what is reached.
use Rattle.std.proofs.Common.{◌≡◌, ◌≢◌, ℕ, zero, suc, ◌==◌, ◌+◌, ◌-◌, ◌<◌, ◌≤◌, Bool, true, false, cond, not, inl}
use Rattle.std.proofs.Common.{inr}
use Rattle.std.proofs.Common.{◌⊎◌, List, [], ◌∷◌, ◌++◌, drop, get_or, length, set, replicate, Contains, refl}
use Rattle.std.proofs.Common.{sym, ◌∙◌, ap, subst, arith}
use Rattle.std.specs.List.{slice_get}
use Rattle.std.specs.Option.{option_map_or}
use Rattle.std.proofs.lemmas.Bool.{eqb-true, eqb-false}
use Rattle.std.proofs.lemmas.List.{drop_more, length-set, length-replicate}
use Rattle.larch_base.proofs.Members.{contains_none, contains_here, contains_later, contains_cases}
use Rattle.larch_base.specs.ByNumber.{numbered}
use Rattle.larch_certificate.specs.declared.line.Line.{Line}
use Rattle.larch_trim_meaning.specs.Needed.{names, needs}
use Rattle.larch_trim_meaning.specs.Reached.{Reached, first, further, is_marked, reached_marks}
use Rattle.larch_trim_law.proofs.Marks.{numbered_suc, marked_within, count_marks, count_fits, mark_at}
use Rattle.larch_trim_law.proofs.Marks.{marked_suc, marks_are_reached}
use Rattle.larch_trim.specs.Ends.{AreEnds}
use Rattle.larch_trim.specs.Searching.{is_free, marks_with, waiting_with, marks_after, waiting_after, needs_by}
use Rattle.larch_trim.specs.Searching.{Searching}

-- ---- a mark more

free_suc : (ms : List Bool) (i : ℕ) → is_free ms (suc i) ≡ option_map_or not (slice_get ms i) false
free_suc ms i = ap (λ o. option_map_or not o false) (numbered_suc ms i)

set_marked : (ms : List Bool) (i : ℕ) → option_map_or not (slice_get ms i) false ≡ true
    → mark_at (set ms i true) i ≡ true
set_marked [] i e = cc
set_marked (m ∷ ms) zero e = refl
set_marked (m ∷ ms) (suc i) e = set_marked ms i e

set_others : (ms : List Bool) (i j : ℕ) → j ≢ i → mark_at (set ms i true) j ≡ mark_at ms j
set_others [] i j ne = refl
set_others (m ∷ ms) zero zero ne = absurd (ne refl)
set_others (m ∷ ms) zero (suc j) ne = refl
set_others (m ∷ ms) (suc i) zero ne = refl
set_others (m ∷ ms) (suc i) (suc j) ne = set_others ms i j (λ e. ne (ap suc e))

set_counted : (ms : List Bool) (i : ℕ) → option_map_or not (slice_get ms i) false ≡ true
    → count_marks (set ms i true) ≡ suc (count_marks ms)
set_counted [] i e = cc
set_counted (true ∷ ms) zero e = cc
set_counted (false ∷ ms) zero e = omega arith
set_counted (m ∷ ms) (suc i) e = let c = set_counted ms i e in omega (arith, c)

free_below : (ms : List Bool) (i : ℕ) → option_map_or not (slice_get ms i) false ≡ true → i < length ms
free_below [] i e = cc
free_below (m ∷ ms) zero e = omega arith
free_below (m ∷ ms) (suc i) e = let lt = free_below ms i e in omega (arith, lt)

not_free : (ms : List Bool) (i : ℕ) → option_map_or not (slice_get ms i) false ≡ false → i < length ms
    → mark_at ms i ≡ true
not_free [] i e lt = absurd (omega (arith, lt))
not_free (true ∷ ms) zero e lt = refl
not_free (false ∷ ms) zero e lt = cc
not_free (m ∷ ms) (suc i) e lt = not_free ms i e (omega (arith, lt))

-- how marks and what waits change where some numbers are wanted
pub record Changes (ns : List ℕ) (ms : List Bool) (ws : List ℕ) (ms_new : List Bool) (ws_new : List ℕ) : Type 0 where
  pub long : length ms_new ≡ length ms
  pub keeps : (m : ℕ) → is_marked ms m ≡ true → is_marked ms_new m ≡ true
  pub waiting : (m : ℕ) → Contains ws m → Contains ws_new m
  pub new : (m : ℕ) → is_marked ms_new m ≡ true
      → (is_marked ms m ≡ true) ⊎ (Contains ws_new m × (Contains ns m × ((0 < m) × (m ≤ length ms))))
  pub waits : (m : ℕ) → Contains ws_new m → Contains ws m ⊎ (is_marked ms_new m ≡ true)
  pub all : (m : ℕ) → Contains ns m → 0 < m → m ≤ length ms → is_marked ms_new m ≡ true
  pub cost : count_marks ms_new + length ws ≡ count_marks ms + length ws_new

nothing_changes : (ms : List Bool) (ws : List ℕ) → Changes [] ms ws ms ws
nothing_changes ms ws =
    record {
      long = refl;
      keeps = λ m e. e;
      waiting = λ m c. c;
      new = λ m e. inl e;
      waits = λ m c. inl c;
      all = λ m c lt le. absurd (contains_none m c);
      cost = refl;
    }

-- a number that is free
takes : (i : ℕ) (ms : List Bool) (ws : List ℕ) → is_free ms (suc i) ≡ true
    → Changes (suc i ∷ []) ms ws (set ms i true) (suc i ∷ ws)
takes i ms ws e =
    let free = sym (free_suc ms i) ∙ e in
    let lt = free_below ms i free in
    let here : is_marked (set ms i true) (suc i) ≡ true = marked_suc (set ms i true) i ∙ set_marked ms i free in
    let count = set_counted ms i free in
    record {
      long = length-set ms i true;
      keeps = kept;
      waiting = λ m c. contains_later (suc i) m ws c;
      new = λ m q. is_new m q (omega (arith, lt));
      waits = λ m c. elim (contains_cases (suc i) m ws c) [
        | inl q ↦ inr (subst (λ n. is_marked (set ms i true) n ≡ true) q here)
        | inr d ↦ inl d
      ];
      all = λ m c low le. elim (contains_cases (suc i) m [] c) [
        | inl q ↦ subst (λ n. is_marked (set ms i true) n ≡ true) q here
        | inr d ↦ absurd (contains_none m d)
      ];
      cost = omega (arith, count);
    }
  where
    by_place : (m : ℕ) (P : Type 0) → (m ≡ suc i → P)
        → (is_marked (set ms i true) m ≡ is_marked ms m → P) → P
    by_place zero P same other = other refl
    by_place (suc j) P same other = split (j == i) refl
      where
        split : (b : Bool) → (j == i) ≡ b → P
        split true p = same (ap suc (eqb-true j i p))
        split false p =
            other (marked_suc (set ms i true) j ∙ set_others ms i j (eqb-false j i p) ∙ sym (marked_suc ms j))

    kept : (m : ℕ) → is_marked ms m ≡ true → is_marked (set ms i true) m ≡ true
    kept m q =
        by_place m (is_marked (set ms i true) m ≡ true)
        (λ same. ap (is_marked (set ms i true)) same ∙ marked_suc (set ms i true) i
        ∙ set_marked ms i (sym (free_suc ms i) ∙ e))
        (λ other. other ∙ q)

    is_new : (m : ℕ) → is_marked (set ms i true) m ≡ true → suc i ≤ length ms
        → (is_marked ms m ≡ true) ⊎ (Contains (suc i ∷ ws) m × (Contains (suc i ∷ []) m × ((0 < m) × (m ≤ length ms))))
    is_new m q le =
        by_place m ((is_marked ms m ≡ true)
        ⊎ (Contains (suc i ∷ ws) m × (Contains (suc i ∷ []) m × ((0 < m) × (m ≤ length ms)))))
        (λ same. inr (
          subst (Contains (suc i ∷ ws)) (sym same) (contains_here (suc i) ws),
          (
            subst (Contains (suc i ∷ [])) (sym same) (contains_here (suc i) []),
            (omega (arith, same), omega (arith, same, le)),
          ),
        ))
        (λ other. inl (sym other ∙ q))

-- one that isn't
leaves : (n : ℕ) (ms : List Bool) (ws : List ℕ) → is_free ms n ≡ false → Changes (n ∷ []) ms ws ms ws
leaves n ms ws e =
    record {
      long = refl;
      keeps = λ m q. q;
      waiting = λ m c. c;
      new = λ m q. inl q;
      waits = λ m c. inl c;
      all = λ m c low le. elim (contains_cases n m [] c) [
        | inl q ↦ subst (λ x. is_marked ms x ≡ true) q (has_one n e (omega (arith, q, low)) (omega (arith, q, le)))
        | inr d ↦ absurd (contains_none m d)
      ];
      cost = refl;
    }
  where
    has_one : (n : ℕ) → is_free ms n ≡ false → 0 < n → n ≤ length ms → is_marked ms n ≡ true
    has_one zero e low le = absurd (omega (arith, low))
    has_one (suc i) e low le =
        marked_suc ms i ∙ not_free ms i (sym (free_suc ms i) ∙ e) (omega (arith, le))

one_changes : (n : ℕ) (ms : List Bool) (ws : List ℕ)
    → Changes (n ∷ []) ms ws (marks_with n ms) (waiting_with n ms ws)
one_changes n ms ws = split n (is_free ms n) refl
  where
    split : (n : ℕ) (b : Bool) → is_free ms n ≡ b
        → Changes (n ∷ []) ms ws (cond b (set ms (n - 1) true) ms) (cond b (n ∷ ws) ws)
    split zero true e = cc
    split (suc i) true e =
        let one : suc i - 1 ≡ i = omega arith in
        subst (λ j. Changes (suc i ∷ []) ms ws (set ms j true) (suc i ∷ ws)) (sym one) (takes i ms ws e)
    split n false e = leaves n ms ws e

both_change : (n : ℕ) (ns : List ℕ) (ms ms_one ms_new : List Bool) (ws ws_one ws_new : List ℕ)
    → Changes (n ∷ []) ms ws ms_one ws_one → Changes ns ms_one ws_one ms_new ws_new
    → Changes (n ∷ ns) ms ws ms_new ws_new
both_change n ns ms ms_one ms_new ws ws_one ws_new a b =
    let size = a.long in
    let size_new = b.long in
    let cost = a.cost in
    let cost_new = b.cost in
    record {
      long = size_new ∙ size;
      keeps = λ m e. b.keeps m (a.keeps m e);
      waiting = λ m c. b.waiting m (a.waiting m c);
      new = λ m e. elim (b.new m e) [
        | inl q ↦ elim (a.new m q) [
          | inl r ↦ inl r
          | inr r ↦ inr (
            b.waiting m r.0,
            (
              elim (contains_cases n m [] r.1.0) [
                | inl w ↦ subst (Contains (n ∷ ns)) w (contains_here n ns)
                | inr w ↦ absurd (contains_none m w)
              ],
              r.1.1,
            ),
          )
        ]
        | inr q ↦ let le = q.1.1.1 in
            inr (q.0, (contains_later n m ns q.1.0, (q.1.1.0, omega (arith, le, size))))
      ];
      waits = λ m c. elim (b.waits m c) [
        | inl d ↦ elim (a.waits m d) [ inl e ↦ inl e | inr e ↦ inr (b.keeps m e) ]
        | inr e ↦ inr e
      ];
      all = λ m c low le. elim (contains_cases n m ns c) [
        | inl e ↦ b.keeps m (a.all m (subst (Contains (n ∷ [])) e (contains_here n [])) low le)
        | inr d ↦ b.all m d low (omega (arith, le, size))
      ];
      cost = omega (arith, cost, cost_new);
    }

pub all_change : (ns : List ℕ) (ms : List Bool) (ws : List ℕ)
    → Changes ns ms ws (marks_after ns ms) (waiting_after ns ms ws)
all_change [] ms ws = nothing_changes ms ws
all_change (n ∷ ns) ms ws =
    both_change n ns ms (marks_with n ms) (marks_after ns (marks_with n ms)) ws (waiting_with n ms ws)
    (waiting_after ns (marks_with n ms) (waiting_with n ms ws)) (one_changes n ms ws)
    (all_change ns (marks_with n ms) (waiting_with n ms ws))

-- ---- the search

no_mark : (n m : ℕ) → is_marked (replicate n false) m ≡ true → ⊥
no_mark n zero e = cc
no_mark n (suc i) e = none n i (sym (marked_suc (replicate n false) i) ∙ e)
  where
    none : (n i : ℕ) → mark_at (replicate n false) i ≡ true → ⊥
    none zero i e = cc
    none (suc n) zero e = cc
    none (suc n) (suc i) e = none n i e

-- it begins with the last one
pub search_begins : (wants : ℕ → List ℕ) (last : ℕ)
    → Searching wants last (marks_with last (replicate last false)) (waiting_with last (replicate last false) [])
search_begins wants last =
    let ms = replicate last false in
    let size = length-replicate last false in
    let c = one_changes last ms [] in
    let long = c.long in
    record {
      long = long ∙ size;
      sound = λ n e. elim (c.new n e) [
        | inl q ↦ absurd (no_mark last n q)
        | inr q ↦ elim (contains_cases last n [] q.1.0) [
          | inl same ↦ let low = q.1.1.0 in subst (Reached wants last) same (first (omega (arith, low, same)))
          | inr d ↦ absurd (contains_none n d)
        ]
      ];
      waits = λ n d. elim (c.waits n d) [ inl e ↦ absurd (contains_none n e) | inr e ↦ e ];
      closed = λ m e. elim (c.new m e) [ inl q ↦ absurd (no_mark last m q) | inr q ↦ inl q.0 ];
      begun = λ lt. c.all last (contains_here last []) lt (omega (arith, size));
    }

-- one that waits is looked at
pub search_goes_on : (wants : ℕ → List ℕ) (last : ℕ) (ms : List Bool) (n : ℕ) (ws : List ℕ)
    → Searching wants last ms (n ∷ ws)
    → Searching wants last (marks_after (wants n) ms) (waiting_after (wants n) ms ws)
search_goes_on wants last ms n ws s =
    let c = all_change (wants n) ms ws in
    let here = s.waits n (contains_here n ws) in
    let size = s.long in
    let long = c.long in
    record {
      long = long ∙ size;
      sound = λ m e. elim (c.new m e) [
        | inl q ↦ s.sound m q
        | inr q ↦ let le = q.1.1.1 in further n m (s.sound n here) q.1.0 q.1.1.0 (omega (arith, le, size))
      ];
      waits = λ m d. elim (c.waits m d) [ inl e ↦ c.keeps m (s.waits m (contains_later n m ws e)) | inr e ↦ e ];
      closed = λ m e. elim (c.new m e) [
        | inl q ↦ elim (s.closed m q) [
          | inl d ↦ elim (contains_cases n m ws d) [
            | inl same ↦ inr (λ k w low le.
                c.all k (subst (λ x. Contains (wants x) k) (sym same) w) low (omega (arith, le, size)))
            | inr f ↦ inl (c.waiting m f)
          ]
          | inr k ↦ inr (λ i w low le. c.keeps i (k i w low le))
        ]
        | inr q ↦ inl q.0
      ];
      begun = λ lt. c.keeps last (s.begun lt);
    }

-- and there is less to come
pub less_to_come : (wants : ℕ → List ℕ) (last : ℕ) (ms : List Bool) (n : ℕ) (ws : List ℕ)
    → Searching wants last ms (n ∷ ws)
    → last - count_marks (marks_after (wants n) ms) + length (waiting_after (wants n) ms ws)
    < last - count_marks ms + length (n ∷ ws)
less_to_come wants last ms n ws s =
    let c = all_change (wants n) ms ws in
    let size = s.long in
    let long = c.long in
    let cost = c.cost in
    let fits = count_fits ms in
    let fits_new = count_fits (marks_after (wants n) ms) in
    omega (arith, size, long, cost, fits, fits_new)

-- where nothing waits, all are found
pub search_ends : (wants : ℕ → List ℕ) (last : ℕ) (ms : List Bool) → Searching wants last ms []
    → ms ≡ reached_marks wants last
search_ends wants last ms s = marks_are_reached wants last ms s.long s.sound found
  where
    found : (n : ℕ) → Reached wants last n → is_marked ms n ≡ true
    found _ (first lt) = s.begun lt
    found _ (further m n r c lt le) =
        elim (s.closed m (found m r)) [ inl d ↦ absurd (contains_none m d) | inr k ↦ k n c lt le ]

-- ---- what lines need, by the table of ends

pub needs_same : (lines : List Line) (ends : List ℕ) → AreEnds lines ends → (n : ℕ) → 0 < n → n ≤ length lines
    → needs_by lines ends n ≡ needs lines n
needs_same lines ends a n lt le = ap (λ xs. option_map_or names (numbered lines n) [] ++ xs) (a n lt le)

-- the search by the table is the search
pub waiting_low : (wants : ℕ → List ℕ) (last : ℕ) (ms : List Bool) (n : ℕ) (ws : List ℕ)
    → Searching wants last ms (n ∷ ws) → (0 < n) × (n ≤ last)
waiting_low wants last ms n ws s =
    let w = marked_within ms n (s.waits n (contains_here n ws)) in
    let le = w.1 in
    let size = s.long in
    (w.0, omega (arith, le, size))

-- one number further
pub next_marks : (ns : List ℕ) (i n : ℕ) (marks marks_new : List Bool) → i < length ns → n ≡ get_or ns i n
    → marks_new ≡ marks_with n marks → marks_after (drop (i + 1) ns) marks_new ≡ marks_after (drop i ns) marks
next_marks ns i n marks marks_new lt is e =
    ap (marks_after (drop (i + 1) ns)) e
    ∙ sym (ap (λ xs. marks_after xs marks) (drop_more ns i n lt ∙ ap (λ x. x ∷ drop (i + 1) ns) (sym is)))

pub next_waiting : (ns : List ℕ) (i n : ℕ) (marks marks_new : List Bool) (waiting waiting_new : List ℕ) → i < length ns
    → n ≡ get_or ns i n → marks_new ≡ marks_with n marks → waiting_new ≡ waiting_with n marks waiting
    → waiting_after (drop (i + 1) ns) marks_new waiting_new ≡ waiting_after (drop i ns) marks waiting
next_waiting ns i n marks marks_new waiting waiting_new lt is e w =
    (λ j. waiting_after (drop (i + 1) ns) (e j) (w j))
    ∙ sym (ap (λ xs. waiting_after xs marks waiting) (drop_more ns i n lt ∙ ap (λ x. x ∷ drop (i + 1) ns) (sym is)))

-- a number that is free is one of a line
pub free_number : (ms : List Bool) (n : ℕ) → is_free ms n ≡ true → (0 < n) × (n - 1 < length ms)
free_number ms zero e = cc
free_number ms (suc i) e =
    let lt = free_below ms i (sym (free_suc ms i) ∙ e) in (omega arith, omega (arith, lt))

-- ---- the search as code does it

pub search_start : (wants : ℕ → List ℕ) (last m n : ℕ) (ms ms_new : List Bool) (ws ws_new : List ℕ) → m ≡ last
    → n ≡ last → ms ≡ replicate m false → ws ≡ [] → ms_new ≡ marks_with n ms → ws_new ≡ waiting_with n ms ws
    → Searching wants last ms_new ws_new
search_start wants last m n ms ms_new ws ws_new p q r none e f =
    let same : ms ≡ replicate last false = r ∙ ap (λ k. replicate k false) p in
    subst (λ xs. Searching wants last xs ws_new) (sym (e ∙ (λ i. marks_with (q i) (same i))))
    (subst (Searching wants last (marks_with last (replicate last false)))
    (sym (f ∙ (λ i. waiting_with (q i) (same i) (none i)))) (search_begins wants last))

-- a step of the search: it has come further, and there is less to come
pub record Step (wants : ℕ → List ℕ) (last : ℕ) (ms ms_new : List Bool) (ws ws_new : List ℕ) : Type 0 where
  pub searching : Searching wants last ms_new ws_new
  pub less : last - count_marks ms_new + length ws_new < last - count_marks ms + length ws

pub search_step : (lines : List Line) (ends : List ℕ) → AreEnds lines ends → (ms ms_new : List Bool)
    (ws ws_new : List ℕ) → Searching (needs lines) (length lines) ms ws → (n : ℕ) (rest : List ℕ) → ws ≡ n ∷ rest
    → (wanted : List ℕ) → wanted ≡ needs_by lines ends n → ms_new ≡ marks_after wanted ms
    → ws_new ≡ waiting_after wanted ms rest
    → Step (needs lines) (length lines) ms ms_new ws ws_new
search_step lines ends a ms ms_new ws ws_new s n rest shape wanted w e f =
    let wants = needs lines in
    let last = length lines in
    let here : Searching wants last ms (n ∷ rest) = subst (Searching wants last ms) shape s in
    let low = waiting_low wants last ms n rest here in
    let same : wanted ≡ needs lines n = w ∙ needs_same lines ends a n low.0 low.1 in
    let marks : ms_new ≡ marks_after (needs lines n) ms = e ∙ ap (λ xs. marks_after xs ms) same in
    let waits : ws_new ≡ waiting_after (needs lines n) ms rest = f ∙ ap (λ xs. waiting_after xs ms rest) same in
    subst (λ xs. Step wants last ms xs ws ws_new) (sym marks)
    (subst (Step wants last ms (marks_after (needs lines n) ms) ws) (sym waits)
    (subst (λ xs. Step wants last ms (marks_after (needs lines n) ms) xs (waiting_after (needs lines n) ms rest))
    (sym shape)
    (record {
      searching = search_goes_on wants last ms n rest here;
      less = less_to_come wants last ms n rest here;
    })))

pub search_over : (wants : ℕ → List ℕ) (last : ℕ) (ms : List Bool) (ws : List ℕ) → Searching wants last ms ws
    → ws ≡ [] → ms ≡ reached_marks wants last
search_over wants last ms ws s e = search_ends wants last ms (subst (Searching wants last ms) e s)
