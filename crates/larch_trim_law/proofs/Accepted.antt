-- Where lines are kept with all that they name, what is kept is accepted.
use Rattle.std.proofs.Common.{◌≡◌, ℕ, suc, Bool, true, false, cond, inl, inr, List, [], ◌∷◌}
use Rattle.std.proofs.Common.{length, drop, Contains, Some, None, option_map, option_and_then, refl, sym, ◌∙◌}
use Rattle.std.proofs.Common.{ap, subst, arith}
use Rattle.std.specs.List.{slice_get}
use Rattle.std.proofs.lemmas.Option.{option_and_then_some}
use Rattle.larch_base.proofs.Bools.{true_or_false}
use Rattle.larch_base.proofs.Options.{some_inj}
use Rattle.larch_term.specs.Statement.{IsWellSortedTheory}
use Rattle.larch_term.specs.declared.statement.Statement.{Statement}
use Rattle.larch_term.specs.declared.statement.Theory.{Theory}
use Rattle.larch_renaming.specs.Renaming.{renamed_statement}
use Rattle.larch_calculus.proofs.WellSorted.{well_sorted}
use Rattle.larch_calculus.specs.Renaming.{HasPlainNames}
use Rattle.larch_certificate.specs.declared.line.Line.{Line}
use Rattle.larch_certificate.specs.declared.line.Line.TheVariants.{Done}
use Rattle.larch_verify_meaning.specs.Acceptance.{Accepts, last_statement}
use Rattle.larch_verify_meaning.specs.Context.{find_symbol, innermost}
use Rattle.larch_verify_meaning.specs.Decoding.{each, decode_equation}
use Rattle.larch_verify_meaning.specs.Events.{PlainBox, Event, Said, Opened, Closed, State, start}
use Rattle.larch_verify_meaning.specs.Run.{judge, done_closes, happens, step, run}
use Rattle.larch_verify_law.proofs.Accepted.{accepted_derivable}
use Rattle.larch_verify_law.proofs.Carried.{Kind, opens, closes, says, kind, closing_told, step_moved, step_count}
use Rattle.larch_verify_law.proofs.Runs.{run_append, run_count}
use Rattle.larch_verify_law.proofs.Told.{option_map_some}
use Rattle.larch_verify_law.specs.Carrying.{IsMove, Matches, outermost, inside, EndsMoved}
use Rattle.larch_verify_law.specs.Moves.{Move, moved_line, carry_lines}
use Rattle.larch_trim_meaning.specs.Needed.{names}
use Rattle.larch_trim_meaning.specs.Reached.{is_marked}
use Rattle.larch_trim_meaning.specs.Trimmed.{new_number, number_move, kept_line, kept_lines}
use Rattle.larch_trim_law.proofs.Fronts.{Behind, behind_next, drop_step, one_step}
use Rattle.larch_trim_law.proofs.Kept.{AllOpen, innermost_open, none_open, IsKept, kept, Coherent, line_kept}
use Rattle.larch_trim_law.proofs.Kept.{open_kept}
use Rattle.larch_trim_law.proofs.Kept.{closed_kept, innermost_kept, nothing_kept, coherent_inside, Alike, finds}
use Rattle.larch_trim_law.proofs.Kept.{judge_alike, opened_alike}
use Rattle.larch_trim_law.proofs.Moving.{moving, same_statement, is_move, keeps_cited}
use Rattle.larch_trim_law.proofs.Names.{line_alike}
use Rattle.larch_trim_law.proofs.Numbers.{new_marked, new_unmarked, new_nought, place, place_marked, place_apart}

-- what is kept: the boxes that are open at a kept line; what it names; with a box the line that closes it and the one
-- before that; and the last line
pub record IsWhole (t : Theory) (lines : List Line) (k : ℕ → Bool) : Type 0 where
  pub open_boxes : (i : ℕ) (st : State) (l : Line) → Behind t lines i st → slice_get lines i ≡ Some l
      → k (suc i) ≡ true → AllOpen (IsKept k) st.history
  pub named : (i : ℕ) (l : Line) → slice_get lines i ≡ Some l → k (suc i) ≡ true → (n : ℕ) → Contains (names l) n
      → k n ≡ true
  pub ends : (i : ℕ) (st : State) (p : PlainBox × List Event) → Behind t lines i st → slice_get lines i ≡ Some Done
      → innermost st.history ≡ Some p → k p.0.number ≡ true → (k (suc i) ≡ true) × (k i ≡ true)
  pub last : k (length lines) ≡ true

-- the newest event, where it is a line that said something, is of a number
abbrev pub SaidLast : ℕ → List Event → Type 0
SaidLast n h = (i : ℕ) (s : Statement) (g : List Event) → h ≡ Said i s ∷ g → i ≡ n

not_said_opened : (b : PlainBox) (h : List Event) (n : ℕ) → SaidLast n (Opened b ∷ h)
not_said_opened b h n i s g e = cc

not_said_closed : (b : PlainBox) (r : Statement) (h : List Event) (n : ℕ) → SaidLast n (Closed b r ∷ h)
not_said_closed b r h n i s g e = cc

said_number : (m n i : ℕ) (r s : Statement) (h g : List Event) → m ≡ n → Said m r ∷ h ≡ Said i s ∷ g → i ≡ n
said_number m n i r s h g p e = let q : m ≡ i = cc in sym q ∙ p

-- ---- one line

module _ (t : Theory) (k : ℕ → Bool) where
  done_kept : (h j : List Event) → done_closes h ≡ Some j → AllOpen (IsKept k) h
      → ((i : ℕ) (s : Statement) (g : List Event) → h ≡ Said i s ∷ g → k i ≡ true)
      → done_closes (kept k h) ≡ Some (kept k j)
  done_kept [] j e o top = cc
  done_kept (Said i s ∷ h) j e o top =
      option_map_some (λ p. Closed p.0 s ∷ p.1) (innermost h) j e
      (λ p q w.
      let box = (innermost_open (IsKept k) h p o q).0 in
      ap (λ b. done_closes (cond b (Said i s ∷ kept k h) (kept k h))) (top i s h refl)
      ∙ ap (option_map (λ r. Closed r.0 s ∷ r.1))
      (innermost_kept k h o ∙ ap (option_map (λ r. (r.0, kept k r.1))) q)
      ∙ ap Some (sym (ap (λ b. cond b (Closed p.0 s ∷ kept k p.1) (kept k p.1)) box) ∙ ap (kept k) w))
  done_kept (Opened b ∷ h) j e o top = cc
  done_kept (Closed b s ∷ h) j e o top = cc

  -- a kept line does where things are kept what it did
  pub happens_kept : (h j : List Event) (n : ℕ) (l : Line) → Kind l → happens t h n l ≡ Some j → k n ≡ true
      → AllOpen (IsKept k) h → ((m : ℕ) → Contains (names l) m → k m ≡ true)
      → (l ≡ Done → (i : ℕ) (s : Statement) (g : List Event) → h ≡ Said i s ∷ g → k i ≡ true)
      → happens t (kept k h) n l ≡ Some (kept k j)
  happens_kept h j n l (opens ps es) e kn o named top =
      let bare : PlainBox = record { number = n; parts = ps; hypotheses = [] } in
      let same = finds t (Opened bare ∷ h) (Opened bare ∷ kept k h)
      (opened_alike t h (kept k h) (open_kept k h o) bare) in
      option_map_some (λ hs. Opened (record { number = n; parts = ps; hypotheses = hs }) ∷ h)
      (each (decode_equation (find_symbol t (Opened bare ∷ h))) es) j e
      (λ hs p q.
      let box : PlainBox = record { number = n; parts = ps; hypotheses = hs } in
      ap (option_map (λ rs. Opened (record { number = n; parts = ps; hypotheses = rs }) ∷ kept k h))
      (ap (λ f. each (decode_equation f) es) same ∙ p)
      ∙ ap Some (sym (ap (λ b. cond b (Opened box ∷ kept k h) (kept k h)) kn) ∙ ap (kept k) q))
  happens_kept h j n l closes e kn o named top = done_kept h j e o (top refl)
  happens_kept h j n l (says happened moved) e kn o named top =
      option_map_some (λ s. Said n s ∷ h) (judge t h l) j (sym (happened t h n) ∙ e)
      (λ s p q.
      let alike : (m : ℕ) → Contains (names l) m → Alike h (kept k h) m =
      λ m c. (line_kept k h m (named m c), closed_kept k h o m (named m c)) in
      happened t (kept k h) n
      ∙ ap (option_map (λ r. Said n r ∷ kept k h)) (judge_alike t h (kept k h) (open_kept k h o) l alike ∙ p)
      ∙ ap Some (sym (ap (λ b. cond b (Said n s ∷ kept k h) (kept k h)) kn) ∙ ap (kept k) q))

  -- of another one nothing is left
  pub happens_lost : (h j : List Event) (n : ℕ) (l : Line) → Kind l → happens t h n l ≡ Some j → k n ≡ false
      → Coherent k h
      → (l ≡ Done → (p : PlainBox × List Event) → innermost h ≡ Some p → k p.0.number ≡ false)
      → kept k j ≡ kept k h
  happens_lost h j n l (opens ps es) e kn c shut =
      let bare : PlainBox = record { number = n; parts = ps; hypotheses = [] } in
      option_map_some (λ hs. Opened (record { number = n; parts = ps; hypotheses = hs }) ∷ h)
      (each (decode_equation (find_symbol t (Opened bare ∷ h))) es) j e
      (λ hs p q.
      let box : PlainBox = record { number = n; parts = ps; hypotheses = hs } in
      sym (ap (kept k) q) ∙ ap (λ b. cond b (Opened box ∷ kept k h) (kept k h)) kn)
  happens_lost h j n l closes e kn c shut =
      let w = closing_told h j e in
      let p = w.level in
      let no = shut refl p w.inner in
      ap (kept k) w.behind
      ∙ ap (λ b. cond b (Closed p.0 w.result ∷ kept k p.1) (kept k p.1)) no
      ∙ sym (nothing_kept k h p w.inner no c)
  happens_lost h j n l (says happened moved) e kn c shut =
      option_map_some (λ s. Said n s ∷ h) (judge t h l) j (sym (happened t h n) ∙ e)
      (λ s p q. sym (ap (kept k) q) ∙ ap (λ b. cond b (Said n s ∷ kept k h) (kept k h)) kn)

  pub coherent_next : (h j : List Event) (n : ℕ) (l : Line) → Kind l → happens t h n l ≡ Some j
      → (k n ≡ true → AllOpen (IsKept k) h) → Coherent k h → Coherent k j
  coherent_next h j n l (opens ps es) e o c =
      let bare : PlainBox = record { number = n; parts = ps; hypotheses = [] } in
      option_map_some (λ hs. Opened (record { number = n; parts = ps; hypotheses = hs }) ∷ h)
      (each (decode_equation (find_symbol t (Opened bare ∷ h))) es) j e
      (λ hs p q. subst (Coherent k) q (o, c))
  coherent_next h j n l closes e o c =
      let w = closing_told h j e in
      subst (Coherent k) (sym w.behind) (coherent_inside k h w.level w.inner c)
  coherent_next h j n l (says happened moved) e o c =
      option_map_some (λ s. Said n s ∷ h) (judge t h l) j (sym (happened t h n) ∙ e)
      (λ s p q. subst (Coherent k) q (o, c))

  pub said_next : (h j : List Event) (n : ℕ) (l : Line) → Kind l → happens t h n l ≡ Some j → SaidLast n j
  said_next h j n l (opens ps es) e =
      let bare : PlainBox = record { number = n; parts = ps; hypotheses = [] } in
      option_map_some (λ hs. Opened (record { number = n; parts = ps; hypotheses = hs }) ∷ h)
      (each (decode_equation (find_symbol t (Opened bare ∷ h))) es) j e
      (λ hs p q.
      subst (SaidLast n) q (not_said_opened (record { number = n; parts = ps; hypotheses = hs }) h n))
  said_next h j n l closes e =
      let w = closing_told h j e in
      subst (SaidLast n) (sym w.behind) (not_said_closed w.level.0 w.result w.level.1 n)
  said_next h j n l (says happened moved) e =
      option_map_some (λ s. Said n s ∷ h) (judge t h l) j (sym (happened t h n) ∙ e)
      (λ s p q. subst (SaidLast n) q (λ i r g w. said_number n n i s r h g refl w))

-- ---- all lines

no_level : (p : PlainBox × List Event) → None ≡ Some p → ⊥
no_level p e = cc

-- where the first has no box open, the second has none
no_open : (m : Move) (c : ℕ) (h g : List Event) → Matches m c h g → innermost h ≡ None → innermost g ≡ None
no_open m c h g (outermost i j n y) e = j
no_open m c h g (inside q l x i j n y z) e = absurd (no_level (x, q) (sym e ∙ i))

says_kept : (k : ℕ → Bool) (h : List Event) (s : Statement) → last_statement h ≡ Some s
    → ((i : ℕ) (r : Statement) (g : List Event) → h ≡ Said i r ∷ g → k i ≡ true)
    → last_statement (kept k h) ≡ Some s
says_kept k [] s e top = cc
says_kept k (Said i r ∷ h) s e top =
    ap (λ b. last_statement (cond b (Said i r ∷ kept k h) (kept k h))) (top i r h refl) ∙ e
says_kept k (Opened b ∷ h) s e top = cc
says_kept k (Closed b r ∷ h) s e top = cc

module _ (t : Theory) (sorted : IsWellSortedTheory t) (plain : HasPlainNames t) (lines : List Line) (ms : List Bool)
    (w : IsWhole t lines (is_marked ms)) where
  abbrev k : ℕ → Bool
  k n = is_marked ms n

  abbrev m : Move
  m = moving (place ms)

  going : IsMove m t t
  going = is_move (place ms) (place_apart ms) t plain

  -- what goes along with the lines
  record Goes (st su : State) : Type 0 where
    count : su.count ≡ new_number ms st.count
    matches : Matches m su.count (kept k st.history) su.history
    ends : EndsMoved m (kept k st.history) su.history
    coherent : Coherent k st.history
    said : SaidLast st.count st.history

  begun : Goes start start
  begun =
      record {
        count = sym (new_nought ms);
        matches = outermost refl refl
            (record { lines = λ n s e. cc; open_boxes = λ b x e. cc; closed_boxes = λ b x s q e. cc })
            (λ n s e. cc);
        ends = λ s e. cc;
        coherent = tt;
        said = λ i s h e. cc;
      }

  -- what a line leads to
  record Leads (st next su : State) (l : Line) : Type 0 where
    other : State
    ran : run t su (kept_line ms (suc st.count) l) ≡ Some other
    goes : Goes next other

  lost : (st su : State) (l : Line) (j : List Event) → Behind t lines st.count st → slice_get lines st.count ≡ Some l
      → Goes st su → happens t st.history (suc st.count) l ≡ Some j → k (suc st.count) ≡ false
      → Leads st (record { count = suc st.count; history = j }) su l
  lost st su l j b at g e kn =
      let h = st.history in
      let n = suc st.count in
      let shut : l ≡ Done → (p : PlainBox × List Event) → innermost h ≡ Some p → k p.0.number ≡ false =
      λ d p q. elim (true_or_false (k p.0.number)) [
        | inl y ↦ absurd (let x = (w.ends st.count st p b (at ∙ ap Some d) q y).0 in let z = sym x ∙ kn in cc)
        | inr z ↦ z
      ] in
      let same : kept k j ≡ kept k h = happens_lost t k h j n l (kind l) e kn g.coherent shut in
      record {
        other = su;
        ran = ap (λ x. run t su (cond x (moved_line (number_move (new_number ms)) l ∷ []) [])) kn;
        goes = record {
          count = g.count ∙ sym (new_unmarked ms st.count kn);
          matches = subst (λ x. Matches m su.count x su.history) (sym same) g.matches;
          ends = subst (λ x. EndsMoved m x su.history) (sym same) g.ends;
          coherent = coherent_next t k h j n l (kind l) e (w.open_boxes st.count st l b at) g.coherent;
          said = said_next t k h j n l (kind l) e;
        };
      }

  held : (st su : State) (l : Line) (j : List Event) → Behind t lines st.count st → slice_get lines st.count ≡ Some l
      → Goes st su → happens t st.history (suc st.count) l ≡ Some j → k (suc st.count) ≡ true
      → Leads st (record { count = suc st.count; history = j }) su l
  held st su l j b at g e kn =
      let h = st.history in
      let n = suc st.count in
      let o = w.open_boxes st.count st l b at kn in
      let named = w.named st.count l at kn in
      let top : l ≡ Done → (i : ℕ) (s : Statement) (f : List Event) → h ≡ Said i s ∷ f → k i ≡ true =
      λ d i s f q.
      let c = closing_told h j (ap (happens t h n) (sym d) ∙ e) in
      let box = (innermost_open (IsKept k) h c.level o c.inner).0 in
      subst (λ x. k x ≡ true) (sym (g.said i s f q)) (w.ends st.count st c.level b (at ∙ ap Some d) c.inner box).1 in
      let left : happens t (kept k h) n l ≡ Some (kept k j) = happens_kept t k h j n l (kind l) e kn o named top in
      let st_kept : State = record { count = st.count; history = kept k h } in
      let next_kept : State = record { count = n; history = kept k j } in
      let stepped : step t st_kept l ≡ Some next_kept =
      ap (option_map (λ x. record { count = n; history = x })) left in
      let number : place ms n ≡ suc su.count =
      place_marked ms n kn ∙ new_marked ms st.count kn ∙ ap suc (sym g.count) in
      let v = step_moved m t t going st_kept su next_kept l (keeps_cited (place ms) t sorted plain l) number number
      g.matches (λ s q. (renamed_statement m.renaming s, g.ends s q, λ _. refl)) stepped in
      let f = v.2 in
      let there : State = v.0 in
      let same : moved_line (number_move (new_number ms)) l ≡ moved_line m l =
      line_alike (new_number ms) (place ms) (λ y. y) m.renaming.operator l
      (λ x c. sym (place_marked ms x (named x c))) in
      record {
        other = there;
        ran = ap (λ x. run t su (cond x (moved_line (number_move (new_number ms)) l ∷ []) [])) kn
            ∙ one_step t su there (moved_line (number_move (new_number ms)) l) (ap (step t su) same ∙ v.1);
        goes = record {
          count = f.count ∙ ap suc g.count ∙ sym (new_marked ms st.count kn);
          matches = subst (λ x. Matches m x (kept k j) there.history) (sym f.count) f.matches;
          ends = f.ends;
          coherent = coherent_next t k h j n l (kind l) e (λ _. o) g.coherent;
          said = said_next t k h j n l (kind l) e;
        };
      }

  leads : (st next su : State) (l : Line) → Behind t lines st.count st → slice_get lines st.count ≡ Some l
      → Goes st su → step t st l ≡ Some next → Leads st next su l
  leads st next su l b at g e =
      option_map_some (λ x. record { count = suc st.count; history = x }) (happens t st.history (suc st.count) l) next e
      (λ j p q. subst (λ z. Leads st z su l) q (elim (true_or_false (k (suc st.count))) [
        | inl y ↦ held st su l j b at g p y
        | inr y ↦ lost st su l j b at g p y
      ]))

  carried : (rest : List Line) (st su last : State) → Behind t lines st.count st → drop st.count lines ≡ rest
      → Goes st su → run t st rest ≡ Some last
      → (other : State) × (run t su (carry_lines (kept_line ms) (suc st.count) rest) ≡ Some other) × Goes last other
  carried [] st su last b d g e = (su, refl, subst (λ z. Goes z su) (some_inj e) g)
  carried (l ∷ ls) st su last b d g e =
      option_and_then_some (λ v. run t v ls) (step t st l) last e
      (λ next p q.
      let at = drop_step lines st.count l ls d in
      let one = leads st next su l b at.0 g p in
      let there : State = one.other in
      let c : next.count ≡ suc st.count = step_count t st next l p in
      let rest = carried ls next there last
      (subst (λ i. Behind t lines i next) (sym c) (behind_next t lines st.count st next l b at.0 p))
      (ap (λ i. drop i lines) c ∙ at.1) one.goes q in (
        rest.0,
        run_append t su (kept_line ms (suc st.count) l) (carry_lines (kept_line ms) (suc (suc st.count)) ls)
            ∙ ap (option_and_then (λ v. run t v (carry_lines (kept_line ms) (suc (suc st.count)) ls))) one.ran
            ∙ ap (λ i. run t there (carry_lines (kept_line ms) (suc i) ls)) (sym c) ∙ rest.1,
        rest.2,
      ))

  -- what is kept is accepted for the same statement
  pub kept_accepted : (s : Statement) → Accepts t s lines → Accepts t s (kept_lines ms lines)
  kept_accepted s a =
      let v = carried lines start start a.state refl refl begun a.none_bad in
      let g = v.2 in
      let h = a.state.history in
      let counted = run_count t start a.state lines a.none_bad in
      let number : a.state.count ≡ length lines = omega (arith, counted) in
      let top : (i : ℕ) (r : Statement) (f : List Event) → h ≡ Said i r ∷ f → k i ≡ true =
      λ i r f q. subst (λ x. k x ≡ true) (sym (g.said i r f q ∙ number)) w.last in
      let shut : innermost (kept k h) ≡ None =
      innermost_kept k h (none_open (IsKept k) h a.closed)
      ∙ ap (option_map (λ p. (p.0, kept k p.1))) a.closed in
      let stays = same_statement (place ms) t plain s (well_sorted (accepted_derivable t s lines sorted plain a)) in
      record {
        state = v.0;
        none_bad = v.1;
        closed = no_open m v.0.count (kept k h) v.0.history g.matches shut;
        last = g.ends s (says_kept k h s a.last top) ∙ ap Some stays;
      }
