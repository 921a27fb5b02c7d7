-- Of what is left all is needed, so nothing more is left out.
use Rattle.std.proofs.Common.{◌≡◌, ℕ, zero, suc, ◌+◌, ◌-◌, ◌<◌, ◌≤◌, Bool, true, false, cond, inl, inr, ◌⊎◌, List, []}
use Rattle.std.proofs.Common.{◌∷◌, ◌++◌, map, length, take, drop, Contains, Some, refl, sym, ◌∙◌, ap, subst}
use Rattle.std.proofs.Common.{append_assoc, arith}
use Rattle.std.specs.Prelude.{filter}
use Rattle.std.specs.List.{slice_get}
use Rattle.std.specs.Option.{option_map_or}
use Rattle.std.proofs.lemmas.List.{length-append, length-take, take-append-drop}
use Rattle.larch_base.proofs.Bools.{true_or_false, same_truth}
use Rattle.larch_base.proofs.Members.{contains_map, contained_in_map, contains_left, contains_right, contains_either}
use Rattle.larch_base.proofs.Members.{contains_here, contains_later, contains_one, contains_none}
use Rattle.larch_base.proofs.Options.{some_inj}
use Rattle.larch_base.specs.ByNumber.{numbered}
use Rattle.larch_term.specs.declared.statement.Statement.{Statement}
use Rattle.larch_term.specs.declared.statement.Theory.{Theory}
use Rattle.larch_certificate.specs.declared.line.BoxPart.{BoxPart}
use Rattle.larch_certificate.specs.declared.line.CodedEquation.{CodedEquation}
use Rattle.larch_certificate.specs.declared.line.Line.{Line}
use Rattle.larch_certificate.specs.declared.line.Line.TheVariants.{Axiom, Hyp, Row, Refl, Sym, Inst, Repl, Equal}
use Rattle.larch_certificate.specs.declared.line.Line.TheVariants.{BoxLine, Done, Fresh, Cases, Induct, Observe}
use Rattle.larch_certificate.specs.declared.line.Line.TheVariants.{Generated, Partitioned}
use Rattle.larch_verify_meaning.specs.Acceptance.{Accepts}
use Rattle.larch_verify_law.proofs.Prefixes.{line_unchanged}
use Rattle.larch_verify_law.specs.Moves.{moved_line, carry_lines}
use Rattle.larch_trim_meaning.specs.Needed.{names, open_behind, end_from, needs, Needed}
use Rattle.larch_trim_meaning.specs.Reached.{first, further, is_marked}
use Rattle.larch_trim_meaning.specs.Trimmed.{needed_marks, new_number, number_move, kept_line, trim_lines}
use Rattle.larch_trim_law.proofs.Fronts.{take_step, got_below, got, behind_each}
use Rattle.larch_trim_law.proofs.Kept.{innermost_open, IsKept}
use Rattle.larch_trim_law.proofs.Marks.{numbered_suc, reached_length, reached_marked, below_or_not}
use Rattle.larch_trim_law.proofs.Names.{line_alike, line_names}
use Rattle.larch_trim_law.proofs.Boxes.{open_after, after_one_more, Ends, ends_told, ends_there, first_innermost}
use Rattle.larch_trim_law.proofs.Needed.{open_is, needed_sits, needed_whole, is_needed, has_mark, named_by}
use Rattle.larch_trim_law.proofs.Numbers.{new_marked, new_unmarked, new_nought, new_fits, new_later, new_all}

-- ---- the kinds of lines

-- a line opens a box, closes one, or leaves the open boxes, and so does it with other numbers
data Shape (f : ℕ → ℕ) : Line → Type 0 where
  opens : (ps : List BoxPart) (es : List CodedEquation) → Shape f (BoxLine ps es)
  closes : Shape f Done
  leaves : {l : Line} → ((n : ℕ) (bs : List ℕ) → open_behind n bs l ≡ bs)
      → ((n : ℕ) (bs : List ℕ) → open_behind n bs (moved_line (number_move f) l) ≡ bs) → Shape f l

shape : (f : ℕ → ℕ) (l : Line) → Shape f l
shape f (BoxLine ps es) = opens ps es
shape f Done = closes
shape f (Axiom k) = leaves (λ n bs. refl) (λ n bs. refl)
shape f (Hyp b k) = leaves (λ n bs. refl) (λ n bs. refl)
shape f (Row k s) = leaves (λ n bs. refl) (λ n bs. refl)
shape f (Refl c) = leaves (λ n bs. refl) (λ n bs. refl)
shape f (Sym k) = leaves (λ n bs. refl) (λ n bs. refl)
shape f (Inst k es) = leaves (λ n bs. refl) (λ n bs. refl)
shape f (Repl k p j) = leaves (λ n bs. refl) (λ n bs. refl)
shape f (Equal k) = leaves (λ n bs. refl) (λ n bs. refl)
shape f (Fresh b vs) = leaves (λ n bs. refl) (λ n bs. refl)
shape f (Cases b c) = leaves (λ n bs. refl) (λ n bs. refl)
shape f (Induct k x e ds) = leaves (λ n bs. refl) (λ n bs. refl)
shape f (Observe k e ns) = leaves (λ n bs. refl) (λ n bs. refl)
shape f (Generated b s ks) = leaves (λ n bs. refl) (λ n bs. refl)
shape f (Partitioned b s ks) = leaves (λ n bs. refl) (λ n bs. refl)

pub carry_append : (g : ℕ → Line → List Line) (n : ℕ) (xs ys : List Line)
    → carry_lines g n (xs ++ ys) ≡ carry_lines g n xs ++ carry_lines g (n + length xs) ys
carry_append g n [] ys = let e : n ≡ n + 0 = omega arith in ap (λ k. carry_lines g k ys) e
carry_append g n (x ∷ xs) ys =
    let e : suc n + length xs ≡ n + suc (length xs) = omega arith in
    ap (λ zs. g n x ++ zs)
    (carry_append g (suc n) xs ys ∙ ap (λ k. carry_lines g (suc n) xs ++ carry_lines g k ys) e)
    ∙ sym (append_assoc (g n x) (carry_lines g (suc n) xs) (carry_lines g (n + suc (length xs)) ys))

pub nothing_more : {X : Type 0} (xs : List X) → xs ++ [] ≡ xs
nothing_more [] = refl
nothing_more (x ∷ xs) = ap (λ ys. x ∷ ys) (nothing_more xs)

front_taken : {X : Type 0} (xs ys : List X) → take (length xs) (xs ++ ys) ≡ xs
front_taken [] ys = refl
front_taken (x ∷ xs) ys = ap (λ zs. x ∷ zs) (front_taken xs ys)

got_front : {X : Type 0} (xs : List X) (x : X) (ys : List X) → slice_get (xs ++ x ∷ ys) (length xs) ≡ Some x
got_front [] x ys = refl
got_front (y ∷ xs) x ys = got_front xs x ys

got_dropped : {X : Type 0} (xs : List X) (i : ℕ) (x : X) → slice_get xs i ≡ Some x
    → (ys : List X) × (drop i xs ≡ x ∷ ys)
got_dropped [] i x e = cc
got_dropped (y ∷ xs) zero x e = (xs, ap (λ z. z ∷ xs) (some_inj e))
got_dropped (y ∷ xs) (suc i) x e = got_dropped xs i x e

-- ---- kept lines

module _ (ms : List Bool) where
  abbrev f : ℕ → ℕ
  f n = new_number ms n

  abbrev kept : ℕ → List Line → List Line
  kept n ls = carry_lines (kept_line ms) n ls

  one_kept : (n : ℕ) (l : Line) → is_marked ms n ≡ true → kept_line ms n l ≡ moved_line (number_move f) l ∷ []
  one_kept n l e = ap (λ b. cond b (moved_line (number_move f) l ∷ []) []) e

  none_kept : (n : ℕ) (l : Line) → is_marked ms n ≡ false → kept_line ms n l ≡ []
  none_kept n l e = ap (λ b. cond b (moved_line (number_move f) l ∷ []) []) e

  kept_length : (i : ℕ) (ls : List Line) → length (kept (suc i) ls) + f i ≡ f (i + length ls)
  kept_length i [] = let e : i ≡ i + 0 = omega arith in let d = ap f e in omega (arith, d)
  kept_length i (l ∷ ls) =
      let rest = kept_length (suc i) ls in
      let e : f (suc i + length ls) ≡ f (i + suc (length ls)) =
      (let n : suc i + length ls ≡ i + suc (length ls) = omega arith in ap f n) in
      let both = length-append (kept_line ms (suc i) l) (kept (suc (suc i)) ls) in
      elim (true_or_false (is_marked ms (suc i))) [
        | inl p ↦
            let a = new_marked ms i p in
            let b = ap length (one_kept (suc i) l p) in
            omega (arith, rest, e, both, a, b)
        | inr p ↦
            let a = new_unmarked ms i p in
            let b = ap length (none_kept (suc i) l p) in
            omega (arith, rest, e, both, a, b)
      ]

  pub all_length : (ls : List Line) → length (kept 1 ls) ≡ f (length ls)
  all_length ls =
      let a = kept_length 0 ls in
      let b = new_nought ms in
      let z : 0 + length ls ≡ length ls = omega arith in
      let c = ap f z in
      omega (arith, a, b, c)

  front_length : (ls : List Line) (i : ℕ) → i ≤ length ls → length (kept 1 (take i ls)) ≡ f i
  front_length ls i le =
      let long : length (take i ls) ≡ i = (let e = length-take i ls in omega (arith, e, le)) in
      all_length (take i ls) ∙ ap f long

  -- what is kept falls in two where the lines do
  kept_parts : (ls : List Line) (i : ℕ) → i ≤ length ls
      → kept 1 ls ≡ kept 1 (take i ls) ++ kept (suc i) (drop i ls)
  kept_parts ls i le =
      let long : 1 + length (take i ls) ≡ suc i = (let e = length-take i ls in omega (arith, e, le)) in
      ap (kept 1) (sym (take-append-drop i ls)) ∙ carry_append (kept_line ms) 1 (take i ls) (drop i ls)
      ∙ ap (λ n. kept 1 (take i ls) ++ kept n (drop i ls)) long

  kept_front : (ls : List Line) (i : ℕ) → i ≤ length ls → take (f i) (kept 1 ls) ≡ kept 1 (take i ls)
  kept_front ls i le =
      ap (take (f i)) (kept_parts ls i le)
      ∙ ap (λ n. take n (kept 1 (take i ls) ++ kept (suc i) (drop i ls))) (sym (front_length ls i le))
      ∙ front_taken (kept 1 (take i ls)) (kept (suc i) (drop i ls))

  -- a kept line stands under its new number
  pub got_kept : (ls : List Line) (i : ℕ) (l : Line) → slice_get ls i ≡ Some l → is_marked ms (suc i) ≡ true
      → slice_get (kept 1 ls) (f i) ≡ Some (moved_line (number_move f) l)
  got_kept ls i l at e =
      let lt = got_below ls i l at in
      let le : i ≤ length ls = omega (arith, lt) in
      let d = got_dropped ls i l at in
      let here : kept (suc i) (drop i ls) ≡ moved_line (number_move f) l ∷ kept (suc (suc i)) d.0 =
      ap (kept (suc i)) d.1 ∙ ap (λ xs. xs ++ kept (suc (suc i)) d.0) (one_kept (suc i) l e) in
      ap (λ xs. slice_get xs (f i)) (kept_parts ls i le)
      ∙ ap (slice_get (kept 1 (take i ls) ++ kept (suc i) (drop i ls))) (sym (front_length ls i le))
      ∙ ap (λ xs. slice_get (kept 1 (take i ls) ++ xs) (length (kept 1 (take i ls)))) here
      ∙ got_front (kept 1 (take i ls)) (moved_line (number_move f) l) (kept (suc (suc i)) d.0)

  -- each number up to that of the last is the new one of a line that is kept
  pub new_onto : (n j : ℕ) → 0 < j → j ≤ f n → (m : ℕ) × (m ≤ n) × (is_marked ms m ≡ true) × (f m ≡ j)
  new_onto zero j lt le = absurd (let e = new_nought ms in omega (arith, lt, le, e))
  new_onto (suc n) j lt le =
      elim (true_or_false (is_marked ms (suc n))) [
        | inl p ↦
            let a = new_marked ms n p in
            elim (below_or_not (f n) j) [
              | inl b ↦ (suc n, omega arith, p, omega (arith, a, b, le))
              | inr b ↦ let r = new_onto n j lt b in (r.0, (let c = r.1 in omega (arith, c)), r.2, r.3)
            ]
        | inr p ↦
            let a = new_unmarked ms n p in
            let r = new_onto n j lt (omega (arith, a, le)) in
            (r.0, (let c = r.1 in omega (arith, c)), r.2, r.3)
      ]

  -- each line that is kept is a moved one
  pub from_kept : (i : ℕ) (ls : List Line) (x : Line) → Contains (kept i ls) x
      → (l : Line) × (x ≡ moved_line (number_move f) l)
  from_kept i [] x c = absurd (contains_none x c)
  from_kept i (l ∷ ls) x c =
      elim (contains_either (kept_line ms i l) (kept (suc i) ls) x c) [
        | inl d ↦ elim (true_or_false (is_marked ms i)) [
          | inl p ↦
              let e = contains_one (moved_line (number_move f) l) x
              (subst (λ xs. Contains xs x) (one_kept i l p) d) in
              (l, sym e)
          | inr p ↦ absurd (contains_none x (subst (λ xs. Contains xs x) (none_kept i l p) d))
        ]
        | inr d ↦ from_kept (suc i) ls x d
      ]

  -- ---- open boxes

  abbrev k : ℕ → Bool
  k n = is_marked ms n

  abbrev left : List ℕ → List ℕ
  left bs = map f (filter k bs)

  left_in : (b : ℕ) (bs : List ℕ) → k b ≡ true → left (b ∷ bs) ≡ f b ∷ left bs
  left_in b bs e = ap (λ x. map f (cond x (b ∷ filter k bs) (filter k bs))) e

  left_out : (b : ℕ) (bs : List ℕ) → k b ≡ false → left (b ∷ bs) ≡ left bs
  left_out b bs e = ap (λ x. map f (cond x (b ∷ filter k bs) (filter k bs))) e

  -- a line that closes a box is kept exactly where the box is
  abbrev pub EndsAlike : List Line → Type 0
  EndsAlike ls = (i b : ℕ) (bs : List ℕ) → slice_get ls i ≡ Some Done → open_after 1 [] (take i ls) ≡ b ∷ bs
      → k (suc i) ≡ k b

  closed_left : (n : ℕ) (bs : List ℕ) → k n ≡ true → ((b : ℕ) (cs : List ℕ) → bs ≡ b ∷ cs → k n ≡ k b)
      → drop 1 (left bs) ≡ left (drop 1 bs)
  closed_left n [] e same = refl
  closed_left n (b ∷ bs) e same = ap (drop 1) (left_in b bs (sym (same b bs refl) ∙ e))

  lost_left : (n : ℕ) (bs : List ℕ) → k n ≡ false → ((b : ℕ) (cs : List ℕ) → bs ≡ b ∷ cs → k n ≡ k b)
      → left bs ≡ left (drop 1 bs)
  lost_left n [] e same = refl
  lost_left n (b ∷ bs) e same = left_out b bs (sym (same b bs refl) ∙ e)

  kept_behind : (l : Line) → Shape f l → (n : ℕ) (bs : List ℕ) → k n ≡ true
      → (l ≡ Done → (b : ℕ) (cs : List ℕ) → bs ≡ b ∷ cs → k n ≡ k b)
      → open_behind (f n) (left bs) (moved_line (number_move f) l) ≡ left (open_behind n bs l)
  kept_behind l (opens ps es) n bs e same = sym (left_in n bs e)
  kept_behind l closes n bs e same = closed_left n bs e (same refl)
  kept_behind l (leaves stays moved) n bs e same = moved (f n) (left bs) ∙ sym (ap left (stays n bs))

  lost_behind : (l : Line) → Shape f l → (n : ℕ) (bs : List ℕ) → k n ≡ false
      → (l ≡ Done → (b : ℕ) (cs : List ℕ) → bs ≡ b ∷ cs → k n ≡ k b) → left bs ≡ left (open_behind n bs l)
  lost_behind l (opens ps es) n bs e same = sym (left_out n bs e)
  lost_behind l closes n bs e same = lost_left n bs e (same refl)
  lost_behind l (leaves stays moved) n bs e same = sym (ap left (stays n bs))

  -- the boxes that are open behind what is kept
  open_left : (ls : List Line) → EndsAlike ls → (i : ℕ) → i ≤ length ls
      → open_after 1 [] (kept 1 (take i ls)) ≡ left (open_after 1 [] (take i ls))
  open_left ls same zero le = refl
  open_left ls same (suc i) le =
      let l = got ls i (omega (arith, le)) in
      let line : Line = l.0 in
      let before = kept 1 (take i ls) in
      let bs = open_after 1 [] (take i ls) in
      let rest = open_left ls same i (omega (arith, le)) in
      let long : length (take i ls) ≡ i = (let e = length-take i ls in omega (arith, e, le)) in
      let number : 1 + length (take i ls) ≡ suc i = omega (arith, long) in
      let shorter : length before ≡ f i = front_length ls i (omega (arith, le)) in
      let step : kept 1 (take (suc i) ls) ≡ before ++ kept_line ms (suc i) line =
      ap (kept 1) (take_step ls i line l.1) ∙ carry_append (kept_line ms) 1 (take i ls) (line ∷ [])
      ∙ ap (λ n. before ++ kept n (line ∷ [])) number
      ∙ ap (λ xs. before ++ xs) (nothing_more (kept_line ms (suc i) line)) in
      let behind : open_after 1 [] (take (suc i) ls) ≡ open_behind (suc i) bs line =
      ap (open_after 1 []) (take_step ls i line l.1) ∙ after_one_more 1 [] (take i ls) line
      ∙ ap (λ n. open_behind n bs line) number in
      let alike : line ≡ Done → (b : ℕ) (cs : List ℕ) → bs ≡ b ∷ cs → k (suc i) ≡ k b =
      λ d b cs o. same i b cs (l.1 ∙ ap Some d) o in
      ap (open_after 1 []) step ∙ by_mark line bs before i (true_or_false (k (suc i))) rest shorter alike
      ∙ ap left (sym behind)
    where
      by_mark : (line : Line) (bs : List ℕ) (before : List Line) (i : ℕ)
          → (k (suc i) ≡ true) ⊎ (k (suc i) ≡ false) → open_after 1 [] before ≡ left bs → length before ≡ f i
          → (line ≡ Done → (b : ℕ) (cs : List ℕ) → bs ≡ b ∷ cs → k (suc i) ≡ k b)
          → open_after 1 [] (before ++ kept_line ms (suc i) line) ≡ left (open_behind (suc i) bs line)
      by_mark line bs before i (inl p) rest shorter alike =
          let a = new_marked ms i p in
          let number : 1 + length before ≡ f (suc i) = omega (arith, shorter, a) in
          ap (λ xs. open_after 1 [] (before ++ xs)) (one_kept (suc i) line p)
          ∙ after_one_more 1 [] before (moved_line (number_move f) line)
          ∙ (λ j. open_behind (number j) (rest j) (moved_line (number_move f) line))
          ∙ kept_behind line (shape f line) (suc i) bs p alike
      by_mark line bs before i (inr p) rest shorter alike =
          ap (λ xs. open_after 1 [] (before ++ xs)) (none_kept (suc i) line p)
          ∙ ap (open_after 1 []) (nothing_more before) ∙ rest ∙ lost_behind line (shape f line) (suc i) bs p alike

  -- a kept box ends where it ended
  pub ends_left : (ls : List Line) → EndsAlike ls → (m n : ℕ) → k m ≡ true → Ends 1 [] ls m n
      → Contains (end_from 1 [] (kept 1 ls) (f m)) (f n)
  ends_left ls same m n e w =
      let i : ℕ = w.front in
      let lt = got_below ls i Done w.done in
      let le : i ≤ length ls = omega (arith, lt) in
      let ke : k (suc i) ≡ true = same i m w.rest w.done w.innermost_is ∙ e in
      let stack : open_after 1 [] (take (f i) (kept 1 ls)) ≡ f m ∷ left w.rest =
      ap (open_after 1 []) (kept_front ls i le) ∙ open_left ls same i le ∙ ap left w.innermost_is
      ∙ left_in m w.rest e in
      let there = ends_there 1 [] (kept 1 ls) (f i) (f m) (left w.rest) (got_kept ls i Done w.done ke) stack in
      let a = new_marked ms i ke in
      elim w.number [
        | inl q ↦
            let n_is : n ≡ suc i = omega (arith, q) in
            let number : 1 + f i ≡ f n = (let b = ap f n_is in omega (arith, a, b)) in
            subst (Contains (end_from 1 [] (kept 1 ls) (f m))) number there.0
        | inr q ↦
            let n_is : n ≡ i = omega (arith, q) in
            let number : 1 + f i - 1 ≡ f n = (let b = ap f n_is in omega (arith, b)) in
            subst (Contains (end_from 1 [] (kept 1 ls) (f m))) number there.1
      ]

-- ---- where all lines have marks

all_new : (ms : List Bool) (n j : ℕ) → ((i : ℕ) → 0 < i → i ≤ n → is_marked ms i ≡ true) → j ≤ n → new_number ms j ≡ j
all_new ms n zero all le = new_nought ms
all_new ms n (suc j) all le =
    let a = new_marked ms j (all (suc j) (omega arith) le) in
    let b = all_new ms n j all (omega (arith, le)) in
    omega (arith, a, b)

all_kept : (ms : List Bool) (ls : List Line) (i : ℕ)
    → ((j : ℕ) → i < j → j ≤ i + length ls → is_marked ms j ≡ true)
    → ((x : Line) → Contains ls x → moved_line (number_move (new_number ms)) x ≡ x)
    → carry_lines (kept_line ms) (suc i) ls ≡ ls
all_kept ms [] i all same = refl
all_kept ms (l ∷ ls) i all same =
    let rest = all_kept ms ls (suc i) (λ j lt le. all j (omega (arith, lt)) (omega (arith, le)))
    (λ x c. same x (contains_later l x ls c)) in
    let e : is_marked ms (suc i) ≡ true = all (suc i) (omega arith) (omega arith) in
    ap (λ xs. xs ++ carry_lines (kept_line ms) (suc (suc i)) ls) (one_kept ms (suc i) l e)
    ∙ (λ j. same l (contains_here l ls) j ∷ rest j)

-- ---- a trimmed certificate

module _ (t : Theory) (s : Statement) (lines : List Line) (a : Accepts t s lines) where
  abbrev marks : List Bool
  marks = needed_marks lines

  abbrev g : ℕ → ℕ
  g n = new_number marks n

  ends_alike : EndsAlike marks lines
  ends_alike i b bs at o =
      let w = needed_whole t s lines a in
      let lt = got_below lines i Done at in
      let st = behind_each t lines a.state a.none_bad i in
      let p = first_innermost st.0.history b bs (open_is t s lines a i st.0 (omega (arith, lt)) st.1 ∙ o) in
      same_truth (is_marked marks (suc i)) (is_marked marks b)
      (λ e. subst (λ n. is_marked marks n ≡ true) p.2
      (innermost_open (IsKept (λ n. is_marked marks n)) st.0.history p.0
      (w.open_boxes i st.0 Done st.1 at e) p.1).0)
      (λ e. (w.ends i st.0 p.0 st.1 at p.1 (subst (λ n. is_marked marks n ≡ true) (sym p.2) e)).0)

  new_last : length (trim_lines lines) ≡ g (length lines)
  new_last = all_length marks lines

  new_low : (n : ℕ) → is_marked marks n ≡ true → 0 < n → 0 < g n
  new_low zero e lt = absurd (omega (arith, lt))
  new_low (suc i) e lt = let b = new_marked marks i e in omega (arith, b)

  -- what is needed is needed in what is left
  needed_left : (n : ℕ) → Needed lines n → Needed (trim_lines lines) (g n)
  needed_left _ (first lt) =
      let low = new_low (length lines) (has_mark t s lines a (length lines) (first lt)) lt in
      let long = new_last in
      subst (Needed (trim_lines lines)) long (first (omega (arith, low, long)))
  needed_left _ (further m n r c lt le) =
      let x = needed_sits t s lines a m r in
      let i : ℕ = x.front in
      let num = x.number in
      let kn = has_mark t s lines a n (further m n r c lt le) in
      let km = has_mark t s lines a m r in
      let low = new_low n kn lt in
      let up = new_later marks n (length lines) le in
      let long = new_last in
      let all = option_map_or names (numbered (trim_lines lines) (g m)) [] in
      let there : Contains (needs (trim_lines lines) (g m)) (g n) =
      elim (contains_either (option_map_or names (numbered lines m) []) (end_from 1 [] lines m) n c) [
        | inl d ↦
            let l = got lines i x.fits in
            let ki : is_marked marks (suc i) ≡ true = subst (λ z. is_marked marks z ≡ true) num km in
            let named = named_by t s lines a m n i l.0 num l.1 d in
            let b = new_marked marks i ki in
            let number : g m ≡ suc (g i) = ap g num ∙ b in
            let at : numbered (trim_lines lines) (g m) ≡ Some (moved_line (number_move g) l.0) =
            ap (numbered (trim_lines lines)) number ∙ numbered_suc (trim_lines lines) (g i)
            ∙ got_kept marks lines i l.0 l.1 ki in
            contains_left all (end_from 1 [] (trim_lines lines) (g m)) (g n)
            (subst (λ o. Contains (option_map_or names o []) (g n)) (sym at)
            (subst (λ xs. Contains xs (g n)) (sym (line_names g (λ y. y) l.0)) (contains_map g (names l.0) n named)))
        | inr d ↦ contains_right all (end_from 1 [] (trim_lines lines) (g m)) (g n)
            (ends_left marks lines ends_alike m n km (ends_told 1 [] lines m n d))
      ] in
      further (g m) (g n) (needed_left m r) there low (omega (arith, up, long))

  -- each line of what is left is needed in it
  pub all_needed : (j : ℕ) → 0 < j → j ≤ length (trim_lines lines) → Needed (trim_lines lines) j
  all_needed j lt le =
      let long = new_last in
      let o = new_onto marks (length lines) j lt (omega (arith, le, long)) in
      let m : ℕ = o.0 in
      let e : is_marked marks m ≡ true = o.2 in
      subst (Needed (trim_lines lines)) o.3 (needed_left m (is_needed t s lines a m e))

  -- so nothing more is left out
  pub trimmed_again : trim_lines (trim_lines lines) ≡ trim_lines lines
  trimmed_again =
      let ls = trim_lines lines in
      let again = needed_marks ls in
      let marked : (j : ℕ) → 0 < j → j ≤ length ls → is_marked again j ≡ true =
      λ j lt le. reached_marked (needs ls) (length ls) j (all_needed j lt le) in
      let long = new_last in
      let whole = new_all marks in
      let count = ap g (reached_length (needs lines) (length lines)) in
      all_kept again ls 0 (λ j lt le. marked j lt (omega (arith, le)))
      (λ x c.
      let from = from_kept marks 1 lines x c in
      line_alike (new_number again) (λ n. n) (λ y. y) (λ y. y) x
      (λ n d.
      let old = contained_in_map g (names from.0) n
      (subst (λ xs. Contains xs n) (ap names from.1 ∙ line_names g (λ y. y) from.0) d) in
      let up = new_fits marks old.0 in
      let is = old.2 in
      all_new again (length ls) n marked (omega (arith, up, is, long, whole, count)))
      ∙ line_unchanged x)
