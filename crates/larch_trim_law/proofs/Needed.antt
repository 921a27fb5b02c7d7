-- Of an accepted certificate the needed lines are kept with all that they name.
use Rattle.std.proofs.Common.{◌≡◌, ℕ, zero, suc, ◌+◌, ◌-◌, ◌<◌, ◌≤◌, Bool, true, inl, inr, List}
use Rattle.std.proofs.Common.{[], ◌∷◌, length, take, Contains, Some, None, refl, sym, ◌∙◌}
use Rattle.std.proofs.Common.{ap, subst, arith}
use Rattle.std.specs.List.{slice_get}
use Rattle.std.specs.Option.{option_map_or}
use Rattle.std.proofs.lemmas.List.{length-take}
use Rattle.larch_base.proofs.Members.{contains_none}
use Rattle.larch_base.proofs.Members.{contains_either, contains_left, contains_right}
use Rattle.larch_base.proofs.Options.{some_inj}
use Rattle.larch_base.specs.ByNumber.{numbered}
use Rattle.larch_term.specs.declared.statement.Statement.{Statement}
use Rattle.larch_term.specs.declared.statement.Theory.{Theory}
use Rattle.larch_certificate.specs.declared.line.Line.{Line}
use Rattle.larch_certificate.specs.declared.line.Line.TheVariants.{Done}
use Rattle.larch_verify_meaning.specs.Acceptance.{Accepts, last_statement}
use Rattle.larch_verify_meaning.specs.Context.{find_symbol, innermost}
use Rattle.larch_verify_meaning.specs.Decoding.{each, decode_equation}
use Rattle.larch_verify_meaning.specs.Events.{PlainBox, Event, Said, Opened, Closed, State}
use Rattle.larch_verify_meaning.specs.Run.{judge, happens}
use Rattle.larch_verify_law.proofs.Carried.{Kind, opens, closes, says, kind, closing_told}
use Rattle.larch_verify_law.proofs.Told.{option_map_some}
use Rattle.larch_trim_meaning.specs.Needed.{names, open_behind, end_from, needs, Needed}
use Rattle.larch_trim_meaning.specs.Reached.{first, further, is_marked}
use Rattle.larch_trim_meaning.specs.Trimmed.{needed_marks}
use Rattle.larch_trim_law.proofs.Accepted.{IsWhole}
use Rattle.larch_trim_law.proofs.Boxes.{open_after, after_one_more, Ends, ends_told, ends_there, open_numbers}
use Rattle.larch_trim_law.proofs.Boxes.{innermost_first, first_innermost, numbers_next, tail_open, other_open}
use Rattle.larch_trim_law.proofs.Boxes.{happened}
use Rattle.larch_trim_law.proofs.Fronts.{take_step, got_below, got, Behind, behind_all, before, behind_each}
use Rattle.larch_trim_law.proofs.Fronts.{behind_count}
use Rattle.larch_trim_law.proofs.Fronts.{behind_once}
use Rattle.larch_trim_law.proofs.Kept.{number_of, AllOpen, open_inside, none_open, IsKept}
use Rattle.larch_trim_law.proofs.Marks.{numbered_suc, marked_reached, reached_marked}
use Rattle.larch_trim_law.proofs.Standing.{Stands, equations_stand, symbols_stand, named_stand}

-- what says something last says it behind what had happened before
record Told (h j : List Event) : Type 0 where
  number : ℕ
  statement : Statement
  behind : j ≡ Said number statement ∷ h

nothing_said : {P : Type 0} (z : Statement) → None ≡ Some z → P
nothing_said z e = cc

said_told : (t : Theory) (h j : List Event) (n : ℕ) (l : Line) → Kind l → happens t h n l ≡ Some j → (z : Statement)
    → last_statement j ≡ Some z → Told h j
said_told t h j n l (opens ps es) e z q =
    let bare : PlainBox = record { number = n; parts = ps; hypotheses = [] } in
    option_map_some (λ hs. Opened (record { number = n; parts = ps; hypotheses = hs }) ∷ h)
    (each (decode_equation (find_symbol t (Opened bare ∷ h))) es) j e
    (λ hs p w. nothing_said z (ap last_statement w ∙ q))
said_told t h j n l closes e z q =
    let w = closing_told h j e in nothing_said z (ap last_statement (sym w.behind) ∙ q)
said_told t h j n l (says does moved) e z q =
    option_map_some (λ x. Said n x ∷ h) (judge t h l) j (sym (does t h n) ∙ e)
    (λ x p w. record { number = n; statement = x; behind = sym w })

pub not_empty : (t : Theory) (s : Statement) (ls : List Line) → Accepts t s ls → 0 < length ls
not_empty t s [] a = nothing_said s (ap (λ u. last_statement u.history) (some_inj a.none_bad) ∙ a.last)
not_empty t s (l ∷ ls) a = omega arith

something_open : (t : Theory) (lines : List Line) (i : ℕ) (st : State) (p : PlainBox × List Event) → Behind t lines i st
    → innermost st.history ≡ Some p → 0 < i
something_open t lines zero st p b e = no_box p (ap (λ u. innermost u.history) (some_inj b) ∙ e)
  where
    no_box : (p : PlainBox × List Event) → None ≡ Some p → 0 < 0
    no_box p e = cc
something_open t lines (suc i) st p b e = omega arith

-- ---- an accepted certificate

module _ (t : Theory) (s : Statement) (lines : List Line) (a : Accepts t s lines) where
  -- what is behind an event is what had happened before its line
  record Stood (e : Event) (j : List Event) : Type 0 where
    front : ℕ
    number : number_of e ≡ suc front
    fits : front < length lines
    state : State
    behind : Behind t lines front state
    history : state.history ≡ j

  abbrev Recorded : List Event → Type 0
  Recorded [] = Unit {0}
  Recorded (e ∷ h) = Stood e h × Recorded h

  recorded_inside : (h : List Event) (p : PlainBox × List Event) → innermost h ≡ Some p → Recorded h
      → Stood (Opened p.0) p.1 × Recorded p.1
  recorded_inside [] p e r = cc
  recorded_inside (Said n z ∷ h) p e r = recorded_inside h p e r.1
  recorded_inside (Opened b ∷ h) p e r = subst (λ q. Stood (Opened q.0) q.1 × Recorded q.1) (some_inj e) r
  recorded_inside (Closed b z ∷ h) p e r = recorded_inside h p e r.1

  stood_closed : (b : PlainBox) (z : Statement) (j : List Event) → Stood (Opened b) j → Stood (Closed b z) j
  stood_closed b z j w =
      record {
        front = w.front;
        number = w.number;
        fits = w.fits;
        state = w.state;
        behind = w.behind;
        history = w.history;
      }

  recorded_next : (i : ℕ) (st : State) → Behind t lines i st → i < length lines → (h j : List Event)
      → st.history ≡ h → (n : ℕ) → n ≡ suc i → (l : Line) → Kind l → happens t h n l ≡ Some j → Recorded h
      → Recorded j
  recorded_next i st b lt h j same n num l (opens ps es) e r =
      let bare : PlainBox = record { number = n; parts = ps; hypotheses = [] } in
      option_map_some (λ hs. Opened (record { number = n; parts = ps; hypotheses = hs }) ∷ h)
      (each (decode_equation (find_symbol t (Opened bare ∷ h))) es) j e
      (λ hs p q. subst Recorded q
      (record { front = i; number = num; fits = lt; state = st; behind = b; history = same }, r))
  recorded_next i st b lt h j same n num l closes e r =
      let w = closing_told h j e in
      let x = recorded_inside h w.level w.inner r in
      subst Recorded (sym w.behind) (stood_closed w.level.0 w.result w.level.1 x.0, x.1)
  recorded_next i st b lt h j same n num l (says does moved) e r =
      option_map_some (λ z. Said n z ∷ h) (judge t h l) j (sym (does t h n) ∙ e)
      (λ z p q. subst Recorded q
      (record { front = i; number = num; fits = lt; state = st; behind = b; history = same }, r))

  recorded : (i : ℕ) (st : State) → i ≤ length lines → Behind t lines i st → Recorded st.history
  recorded zero st le b = subst (λ u. Recorded u.history) (some_inj b) tt
  recorded (suc i) st le b =
      let l = got lines i (omega (arith, le)) in
      let w = before t lines i st l.0 l.1 b in
      let c = behind_count t lines i w.state w.behind (omega (arith, le)) in
      recorded_next i w.state w.behind (omega (arith, le)) w.state.history st.history refl (suc w.state.count)
      (ap suc c) l.0 (kind l.0) (happened t w.state st l.0 w.steps)
      (recorded i w.state (omega (arith, le)) w.behind)

  pub open_is : (i : ℕ) (st : State) → i ≤ length lines → Behind t lines i st
      → open_numbers st.history ≡ open_after 1 [] (take i lines)
  open_is zero st le b = sym (ap (λ u. open_numbers u.history) (some_inj b))
  open_is (suc i) st le b =
      let l = got lines i (omega (arith, le)) in
      let w = before t lines i st l.0 l.1 b in
      let c = behind_count t lines i w.state w.behind (omega (arith, le)) in
      let long = length-take i lines in
      let number : suc w.state.count ≡ 1 + length (take i lines) = omega (arith, c, long, le) in
      numbers_next t w.state.history st.history (suc w.state.count) l.0 (happened t w.state st l.0 w.steps)
      ∙ (λ k. open_behind (number k) (open_is i w.state (omega (arith, le)) w.behind k) l.0)
      ∙ sym (after_one_more 1 [] (take i lines) l.0)
      ∙ sym (ap (open_after 1 []) (take_step lines i l.0 l.1))

  -- a line of the certificate, of whose open boxes something holds
  pub record Sits (Q : ℕ → Type 0) (n : ℕ) : Type 0 where
    pub front : ℕ
    pub number : n ≡ suc front
    pub fits : front < length lines
    pub inside : (st : State) → Behind t lines front st → AllOpen Q st.history

  sits_there : (Q : ℕ → Type 0) (h : List Event) → Recorded h → AllOpen Q h → (n : ℕ) → Stands h n → Sits Q n
  sits_there Q [] r o n x = absurd x
  sits_there Q (e ∷ h) r o n (inl q) =
      let w = r.0 in
      record {
        front = w.front;
        number = sym q ∙ w.number;
        fits = w.fits;
        inside = λ st b.
            subst (AllOpen Q)
            (sym (ap (λ u. u.history) (behind_once t lines w.front st w.state b w.behind) ∙ w.history))
            (tail_open Q e h o);
      }
  sits_there Q (e ∷ h) r o n (inr x) = sits_there Q h r.1 (tail_open Q e h o) n x

  -- what a line names sits where all of its boxes are open at the line
  names_sit_at : (Q : ℕ → Type 0) (i : ℕ) (l : Line) → slice_get lines i ≡ Some l
      → ((st : State) → Behind t lines i st → AllOpen Q st.history) → (n : ℕ) → Contains (names l) n → Sits Q n
  names_sit_at Q i l at o n c =
      let lt = got_below lines i l at in
      let next = behind_each t lines a.state a.none_bad (suc i) in
      let w = before t lines i next.0 l at next.1 in
      let num : suc w.state.count ≡ suc i = ap suc (behind_count t lines i w.state w.behind (omega (arith, lt))) in
      by_kind w.state w.behind (suc w.state.count) num l (kind l) (happened t w.state next.0 l w.steps) lt o n c
    where
      by_kind : (st : State) → Behind t lines i st → (m : ℕ) → m ≡ suc i → (l : Line) → Kind l → {j : List Event}
          → happens t st.history m l ≡ Some j → i < length lines
          → ((st : State) → Behind t lines i st → AllOpen Q st.history) → (n : ℕ) → Contains (names l) n → Sits Q n
      by_kind st b m num l (opens ps es) {j} e lt o n c =
          let h = st.history in
          let bare : PlainBox = record { number = m; parts = ps; hypotheses = [] } in
          option_map_some (λ hs. Opened (record { number = m; parts = ps; hypotheses = hs }) ∷ h)
          (each (decode_equation (find_symbol t (Opened bare ∷ h))) es) j e
          (λ hs p q.
          elim (equations_stand (Opened bare ∷ h) (find_symbol t (Opened bare ∷ h))
          (symbols_stand t (Opened bare ∷ h)) es hs p n c) [
            | inl x ↦ record { front = i; number = sym x ∙ num; fits = lt; inside = o }
            | inr x ↦ sits_there Q h (recorded i st (omega (arith, lt)) b) (o st b) n x
          ])
      by_kind st b m num l closes e lt o n c = absurd (contains_none n c)
      by_kind st b m num l (says does moved) {j} e lt o n c =
          let h = st.history in
          option_map_some (λ z. Said m z ∷ h) (judge t h l) j (sym (does t h m) ∙ e)
          (λ z p q. sits_there Q h (recorded i st (omega (arith, lt)) b) (o st b) n (named_stand t h l z p n c))

  last_sits : (Q : ℕ → Type 0) → 0 < length lines → Sits Q (length lines)
  last_sits Q lt =
      let i = length lines - 1 in
      let one : length lines ≡ suc i = omega (arith, lt) in
      let l = got lines i (omega (arith, lt)) in
      let w = before t lines i a.state l.0 l.1
      (subst (λ n. Behind t lines n a.state) one (behind_all t lines a.state a.none_bad)) in
      let x = said_told t w.state.history a.state.history (suc w.state.count) l.0 (kind l.0)
      (happened t w.state a.state l.0 w.steps) s a.last in
      let shut : innermost w.state.history ≡ None = sym (ap innermost x.behind) ∙ a.closed in
      record {
        front = i;
        number = one;
        fits = omega (arith, lt);
        inside = λ st b.
            subst (λ u. AllOpen Q u.history) (behind_once t lines i w.state st w.behind b)
            (none_open Q w.state.history shut);
      }

  -- a done line closes its box with what the line before it says
  result_told : (i : ℕ) (st : State) → Behind t lines i st → slice_get lines i ≡ Some Done
      → (z : Statement) × (last_statement st.history ≡ Some z)
  result_told i st b at =
      let next = behind_each t lines a.state a.none_bad (suc i) in
      let w = before t lines i next.0 Done at next.1 in
      let c = closing_told w.state.history next.0.history (happened t w.state next.0 Done w.steps) in
      (c.result, ap (λ u. last_statement u.history) (behind_once t lines i st w.state b w.behind) ∙ c.last)

  before_end_sits : (Q : ℕ → Type 0) (i : ℕ) (st : State) → Behind t lines i st → slice_get lines i ≡ Some Done
      → AllOpen Q st.history → 0 < i → Sits Q i
  before_end_sits Q zero st b at o lt = absurd (omega (arith, lt))
  before_end_sits Q (suc i) st b at o lt =
      let fits = got_below lines (suc i) Done at in
      let l = got lines i (omega (arith, fits)) in
      let w = before t lines i st l.0 l.1 b in
      let z = result_told (suc i) st b at in
      let x = said_told t w.state.history st.history (suc w.state.count) l.0 (kind l.0)
      (happened t w.state st l.0 w.steps) z.0 z.1 in
      record {
        front = i;
        number = refl;
        fits = omega (arith, fits);
        inside = λ u c.
            subst (λ v. AllOpen Q v.history) (behind_once t lines i w.state u w.behind c)
            (subst (AllOpen Q) x.behind o);
      }

  -- at the end of a box all boxes are open that are at its beginning, and it
  open_at_end : (Q : ℕ → Type 0) (m : ℕ) → Sits Q m → Q m → (i : ℕ) (st : State) (rest : List ℕ) → i ≤ length lines
      → Behind t lines i st → open_after 1 [] (take i lines) ≡ m ∷ rest → AllOpen Q st.history
  open_at_end Q m x q i st rest le b o =
      let p = first_innermost st.history m rest (open_is i st le b ∙ o) in
      let level : PlainBox × List Event = p.0 in
      let w = (recorded_inside st.history level p.1 (recorded i st le b)).0 in
      let num = w.number in
      let here = p.2 in
      let there = x.number in
      let same : w.front ≡ x.front = omega (arith, num, here, there) in
      open_inside Q st.history level p.1 (subst Q (sym here) q)
      (subst (AllOpen Q) w.history (x.inside w.state (subst (λ k. Behind t lines k w.state) same w.behind)))

  end_sits : (Q : ℕ → Type 0) (m : ℕ) → Sits Q m → Q m → (n : ℕ) → 0 < n → Ends 1 [] lines m n → Sits Q n
  end_sits Q m x q n lt w =
      let i : ℕ = w.front in
      let fits = got_below lines i Done w.done in
      let d = behind_each t lines a.state a.none_bad i in
      let o = open_at_end Q m x q i d.0 w.rest (omega (arith, fits)) d.1 w.innermost_is in
      elim w.number [
        | inl e ↦
            record {
              front = i;
              number = omega (arith, e);
              fits = fits;
              inside = λ u c. subst (λ v. AllOpen Q v.history) (behind_once t lines i d.0 u d.1 c) o;
            }
        | inr e ↦
            let same : i ≡ n = omega (arith, e) in
            subst (Sits Q) same (before_end_sits Q i d.0 d.1 w.done o (omega (arith, e, lt)))
      ]

  pub named_by : (m n i : ℕ) (l : Line) → m ≡ suc i → slice_get lines i ≡ Some l
      → Contains (option_map_or names (numbered lines m) []) n → Contains (names l) n
  named_by m n i l e at c =
      subst (λ o. Contains (option_map_or names o []) n) (ap (numbered lines) e ∙ numbered_suc lines i ∙ at) c

  -- the boxes that are open at a needed line are needed
  pub needed_sits : (n : ℕ) → Needed lines n → Sits (Needed lines) n
  needed_sits _ (first lt) = last_sits (Needed lines) lt
  needed_sits _ (further m n r c lt le) =
      let x = needed_sits m r in
      elim (contains_either (option_map_or names (numbered lines m) []) (end_from 1 [] lines m) n c) [
        | inl d ↦
            let l = got lines x.front x.fits in
            names_sit_at (Needed lines) x.front l.0 l.1 x.inside n (named_by m n x.front l.0 x.number l.1 d)
        | inr d ↦ end_sits (Needed lines) m x r n lt (ends_told 1 [] lines m n d)
      ]

  abbrev pub k : ℕ → Bool
  k n = is_marked (needed_marks lines) n

  pub is_needed : (n : ℕ) → k n ≡ true → Needed lines n
  is_needed n e = marked_reached (needs lines) (length lines) n e

  pub has_mark : (n : ℕ) → Needed lines n → k n ≡ true
  has_mark n r = reached_marked (needs lines) (length lines) n r

  inside_needed : (i : ℕ) → k (suc i) ≡ true → (st : State) → Behind t lines i st → AllOpen (Needed lines) st.history
  inside_needed i kn st b =
      let x = needed_sits (suc i) (is_needed (suc i) kn) in
      let num = x.number in
      let same : i ≡ x.front = omega (arith, num) in
      x.inside st (subst (λ j. Behind t lines j st) same b)

  -- the needed lines are kept with all that they name
  pub needed_whole : IsWhole t lines k
  needed_whole =
      record {
        open_boxes = λ i st l b at kn.
            other_open (Needed lines) (IsKept k) has_mark st.history (inside_needed i kn st b);
        named = λ i l at kn n c.
            let y = names_sit_at (Needed lines) i l at (inside_needed i kn) n c in
            let num = y.number in
            let fits = y.fits in
            let there : Contains (option_map_or names (numbered lines (suc i)) []) n =
            subst (λ o. Contains (option_map_or names o []) n) (sym (numbered_suc lines i ∙ at)) c in
            has_mark n (further (suc i) n (is_needed (suc i) kn)
            (contains_left (option_map_or names (numbered lines (suc i)) []) (end_from 1 [] lines (suc i)) n there)
            (omega (arith, num)) (omega (arith, num, fits)));
        ends = λ i st p b at inner kp.
            let m : ℕ = p.0.number in
            let fits = got_below lines i Done at in
            let low = something_open t lines i st p b inner in
            let e = ends_there 1 [] lines i m (open_numbers p.1) at
            (sym (open_is i st (omega (arith, fits)) b) ∙ innermost_first st.history p inner) in
            let all = option_map_or names (numbered lines m) [] in
            let one : 1 + i ≡ suc i = omega arith in
            let two : 1 + i - 1 ≡ i = omega arith in
            let r = is_needed m kp in (
              has_mark (suc i) (further m (suc i) r
                  (subst (Contains (needs lines m)) one (contains_right all (end_from 1 [] lines m) (1 + i) e.0))
                  (omega arith) (omega (arith, fits))),
              has_mark i (further m i r
                  (subst (Contains (needs lines m)) two (contains_right all (end_from 1 [] lines m) (1 + i - 1) e.1))
                  low (omega (arith, fits))),
            );
        last = has_mark (length lines) (first (not_empty t s lines a));
      }
