-- Lines behind others: what was said before in no box is found there, whatever boxes are open.
use Rattle.std.proofs.Common.{◌≡◌, ℕ, suc, ◌<◌, ◌≤◌, cond, List, [], ◌∷◌, ◌++◌}
use Rattle.std.proofs.Common.{Some, None, refl, sym, ◌∙◌, ap, subst, arith}
use Rattle.std.proofs.lemmas.Bool.{ne_eqb}
use Rattle.larch_base.proofs.Options.{some_inj}
use Rattle.larch_term.specs.declared.statement.Statement.{Statement}
use Rattle.larch_term.specs.declared.statement.Theory.{Theory}
use Rattle.larch_certificate.specs.declared.line.Line.{Line}
use Rattle.larch_verify_meaning.specs.Context.{find_line, innermost}
use Rattle.larch_verify_meaning.specs.Decoding.{each, decode_equation}
use Rattle.larch_verify_meaning.specs.Context.{find_symbol}
use Rattle.larch_verify_meaning.specs.Events.{PlainBox, Event, Said, Opened, Closed, State}
use Rattle.larch_verify_meaning.specs.Run.{judge, happens, step}
use Rattle.larch_verify_law.proofs.Carried.{Kind, opens, closes, says, kind, closing_told}
use Rattle.larch_verify_law.proofs.Told.{option_map_some}

-- only lines behind the one with a number said something
abbrev pub AreLater : ℕ → List Event → Type 0
AreLater o [] = Unit {0}
AreLater o (Said n s ∷ h) = (o < n) × AreLater o h
AreLater o (Opened b ∷ h) = AreLater o h
AreLater o (Closed b s ∷ h) = AreLater o h

-- the events stand behind others, and only lines behind the one with a number have said something since
abbrev pub Grows : ℕ → List Event → List Event → Type 0
Grows o base g = (since : List Event) × (g ≡ since ++ base) × AreLater o since

pub no_growth : (o : ℕ) (base : List Event) → Grows o base base
no_growth o base = ([], refl, tt)

found_since : (o n : ℕ) (since base : List Event) → AreLater o since → n ≤ o
    → find_line (since ++ base) n ≡ find_line base n
found_since o n [] base l le = refl
found_since o n (Said k s ∷ h) base l le =
    ap (λ b. cond b (Some s) (find_line (h ++ base) n)) (ne_eqb k n (λ e. let lt = l.0 in omega (arith, e, lt, le)))
    ∙ found_since o n h base l.1 le
found_since o n (Opened b ∷ h) base l le = found_since o n h base l le
found_since o n (Closed b s ∷ h) base l le = found_since o n h base l le

-- what a line up to the number said is found
pub still_found : (o n : ℕ) (base g : List Event) (s : Statement) → Grows o base g → n ≤ o → find_line base n ≡ Some s
    → find_line g n ≡ Some s
still_found o n base g s w le e =
    ap (λ h. find_line h n) w.1 ∙ found_since o n w.0 base w.2 le ∙ e

-- what stood before the innermost box stands there too
outer_since : (o : ℕ) (since base : List Event) (p : PlainBox × List Event) → AreLater o since → innermost base ≡ None
    → innermost (since ++ base) ≡ Some p → Grows o base p.1
outer_since o [] base p l c e = absurd (no_level p (sym c ∙ e))
  where
    no_level : (p : PlainBox × List Event) → None ≡ Some p → ⊥
    no_level p e = cc
outer_since o (Said k s ∷ h) base p l c e = outer_since o h base p l.1 c e
outer_since o (Opened b ∷ h) base p l c e = (h, sym (ap (λ q. q.1) (some_inj e)), l)
outer_since o (Closed b s ∷ h) base p l c e = outer_since o h base p l c e

outer_grows : (o : ℕ) (base g : List Event) (p : PlainBox × List Event) → Grows o base g → innermost base ≡ None
    → innermost g ≡ Some p → Grows o base p.1
outer_grows o base g p w c e = outer_since o w.0 base p w.2 c (ap innermost (sym w.1) ∙ e)

happens_grows : (u : Theory) (o n : ℕ) (base g k : List Event) (l : Line) → Kind l → o < n → innermost base ≡ None
    → Grows o base g → happens u g n l ≡ Some k → Grows o base k
happens_grows u o n base g k l (opens ps es) lt c w e =
    let bare : PlainBox = record { number = n; parts = ps; hypotheses = [] } in
    option_map_some (λ hs. Opened (record { number = n; parts = ps; hypotheses = hs }) ∷ g)
    (each (decode_equation (find_symbol u (Opened bare ∷ g))) es) k e
    (λ hs p q.
    let b : PlainBox = record { number = n; parts = ps; hypotheses = hs } in
    (Opened b ∷ w.0, sym q ∙ ap (λ h. Opened b ∷ h) w.1, w.2))
happens_grows u o n base g k l closes lt c w e =
    let d = closing_told g k e in
    let v = outer_grows o base g d.level w c d.inner in
    (Closed d.level.0 d.result ∷ v.0, d.behind ∙ ap (λ h. Closed d.level.0 d.result ∷ h) v.1, v.2)
happens_grows u o n base g k l (says happened moved) lt c w e =
    option_map_some (λ s. Said n s ∷ g) (judge u g l) k (sym (happened u g n) ∙ e)
    (λ s p q. (Said n s ∷ w.0, sym q ∙ ap (λ h. Said n s ∷ h) w.1, (lt, w.2)))

-- so it is behind a further line
pub step_grows : (u : Theory) (o : ℕ) (base : List Event) (su next : State) (l : Line) → o ≤ su.count
    → innermost base ≡ None → Grows o base su.history → step u su l ≡ Some next → Grows o base next.history
step_grows u o base su next l le c w e =
    option_map_some (λ h. record { count = suc su.count; history = h }) (happens u su.history (suc su.count) l) next e
    (λ k p q. subst (λ z. Grows o base z.history) q
    (happens_grows u o (suc su.count) base su.history k l (kind l) (omega (arith, le)) c w p))
