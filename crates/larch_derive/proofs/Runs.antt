-- Runs: a line that says something, how many lines there were, and the numbers of open boxes.
use Rattle.std.proofs.Common.{◌≡◌, ◌≤◌, ◌<◌, ◌+◌, ◌-◌, ℕ, suc, List, [], ◌∷◌, length, Option, Some, None, refl, sym}
use Rattle.std.proofs.Common.{◌∙◌, ap, subst, arith}
use Rattle.std.specs.Option.{option_map, option_and_then}
use Rattle.std.proofs.lemmas.Option.{option_and_then_some}
use Rattle.std.proofs.lemmas.List.Elements.{All-nil, All-cons}
use Rattle.larch_term.proofs.BaseOptions.{some_inj}
use Rattle.larch_term.specs.declared.statement.Statement.{Statement}
use Rattle.larch_term.specs.declared.statement.Theory.{Theory}
use Rattle.larch_certificate_text.specs.CertificateLineBoxPart.{BoxPart}
use Rattle.larch_certificate_text.specs.CertificateLineCodedEquation.{CodedEquation}
use Rattle.larch_certificate_text.specs.CertificateLineLine.{Line}
use Rattle.larch_certificate_text.specs.CertificateLineLine.TheVariants.{Axiom, Hyp, Row, Refl, Sym, Inst, Repl, Equal}
use Rattle.larch_certificate_text.specs.CertificateLineLine.TheVariants.{BoxLine, Done, Fresh, Cases, Induct, Observe}
use Rattle.larch_certificate_text.specs.CertificateLineLine.TheVariants.{Generated, Partitioned}
use Rattle.larch_verify_meaning.specs.Context.{find_symbol, innermost}
use Rattle.larch_verify_meaning.specs.Decoding.{each, decode_equation}
use Rattle.larch_verify_meaning.specs.Events.{PlainBox, Event, Said, Opened, Closed, State}
use Rattle.larch_verify_meaning.specs.Run.{judge, happens, done_closes, box_opens, run, step}
use Rattle.larch_derive.specs.Builder.{still_open}
use Rattle.larch_derive.specs.Predicates.{IsSaidBehind, LeadsOn}
use Rattle.larch_derive.specs.declared.open_box.OpenBox.{OpenBox}

-- what is mapped to a value was one
pub mapped_some : {X Y P : Type 0} (f : X → Y) (o : Option X) (y : Y) → option_map f o ≡ Some y
    → ((x : X) → o ≡ Some x → f x ≡ y → P) → P
mapped_some f None y e k = cc
mapped_some f (Some x) y e k = k x refl (some_inj e)

-- the state after a line that says something
abbrev pub after_saying : State → Statement → State
after_saying st s = record { count = suc st.count; history = Said (suc st.count) s ∷ st.history }

pub happens_said : (t : Theory) (h : List Event) (n : ℕ) (line : Line) (s : Statement) → judge t h line ≡ Some s
    → happens t h n line ≡ Some (Said n s ∷ h)
happens_said t h n (Axiom k) s e = ap (option_map (λ r. Said n r ∷ h)) e
happens_said t h n (Hyp b k) s e = ap (option_map (λ r. Said n r ∷ h)) e
happens_said t h n (Row k z) s e = ap (option_map (λ r. Said n r ∷ h)) e
happens_said t h n (Refl c) s e = ap (option_map (λ r. Said n r ∷ h)) e
happens_said t h n (Sym m) s e = ap (option_map (λ r. Said n r ∷ h)) e
happens_said t h n (Inst m bs) s e = ap (option_map (λ r. Said n r ∷ h)) e
happens_said t h n (Repl m p k) s e = ap (option_map (λ r. Said n r ∷ h)) e
happens_said t h n (Equal m) s e = ap (option_map (λ r. Said n r ∷ h)) e
happens_said t h n (BoxLine ps es) s e = cc
happens_said t h n Done s e = cc
happens_said t h n (Fresh b vs) s e = ap (option_map (λ r. Said n r ∷ h)) e
happens_said t h n (Cases b c) s e = ap (option_map (λ r. Said n r ∷ h)) e
happens_said t h n (Induct m x q bs) s e = ap (option_map (λ r. Said n r ∷ h)) e
happens_said t h n (Observe m q ns) s e = ap (option_map (λ r. Said n r ∷ h)) e
happens_said t h n (Generated b z ks) s e = ap (option_map (λ r. Said n r ∷ h)) e
happens_said t h n (Partitioned b z ks) s e = ap (option_map (λ r. Said n r ∷ h)) e

-- such a line closes no box
pub still_open_said : (t : Theory) (h : List Event) (line : Line) (s : Statement) → judge t h line ≡ Some s
    → (bs : List OpenBox) → still_open line bs ≡ bs
still_open_said t h (Axiom k) s e bs = refl
still_open_said t h (Hyp b k) s e bs = refl
still_open_said t h (Row k z) s e bs = refl
still_open_said t h (Refl c) s e bs = refl
still_open_said t h (Sym m) s e bs = refl
still_open_said t h (Inst m es) s e bs = refl
still_open_said t h (Repl m p k) s e bs = refl
still_open_said t h (Equal m) s e bs = refl
still_open_said t h (BoxLine ps es) s e bs = cc
still_open_said t h Done s e bs = cc
still_open_said t h (Fresh b vs) s e bs = refl
still_open_said t h (Cases b c) s e bs = refl
still_open_said t h (Induct m x q ns) s e bs = refl
still_open_said t h (Observe m q ns) s e bs = refl
still_open_said t h (Generated b z ks) s e bs = refl
still_open_said t h (Partitioned b z ks) s e bs = refl

pub step_said : (t : Theory) (st : State) (line : Line) (s : Statement) → judge t st.history line ≡ Some s
    → step t st line ≡ Some (after_saying st s)
step_said t st line s e =
    ap (option_map (λ h. record { count = suc st.count; history = h }))
    (happens_said t st.history (suc st.count) line s e)

pub run_said : (t : Theory) (st : State) (line : Line) (s : Statement) → judge t st.history line ≡ Some s
    → run t st (line ∷ []) ≡ Some (after_saying st s)
run_said t st line s e = ap (option_and_then (λ u. run t u [])) (step_said t st line s e)

pub leads_said : (t : Theory) (st : State) (line : Line) (s : Statement) → judge t st.history line ≡ Some s
    → LeadsOn IsSaidBehind t st (line ∷ [])
leads_said t st line s e =
    record {
      state = after_saying st s;
      runs = run_said t st line s e;
      later = omega arith;
      events = Said (suc st.count) s ∷ [];
      history = refl;
      behind = All-cons (IsSaidBehind st.count) (Said (suc st.count) s) [] (omega arith)
          (All-nil (IsSaidBehind st.count));
    }

-- ---- counts

step_count : (t : Theory) (st u : State) (line : Line) → step t st line ≡ Some u → u.count ≡ suc st.count
step_count t st u line e =
    mapped_some (λ h. record { count = suc st.count; history = h }) (happens t st.history (suc st.count) line) u e
    (λ h p q. ap (λ w. w.count) (sym q))

pub run_count : (t : Theory) (ls : List Line) (st u : State) → run t st ls ≡ Some u → u.count ≡ st.count + length ls
run_count t [] st u e = let p : st ≡ u = some_inj e in ap (λ w. w.count) (sym p) ∙ omega arith
run_count t (x ∷ xs) st u e =
    option_and_then_some (λ w. run t w xs) (step t st x) u e
    (λ v p q.
    let a = step_count t st v x p in
    let b = run_count t xs v u q in
    omega (arith, a, b))

-- ---- numbers of open boxes

-- the numbers of open boxes go down from a number, and are not 0
abbrev pub GoDown : ℕ → List Event → Type 0
GoDown c [] = Unit {0}
GoDown c (Said n s ∷ h) = GoDown c h
GoDown c (Opened b ∷ h) = (0 < b.number) × (b.number ≤ c) × GoDown (b.number - 1) h
GoDown c (Closed b s ∷ h) = GoDown c h

pub down_later : (c d : ℕ) → c ≤ d → (h : List Event) → GoDown c h → GoDown d h
down_later c d le [] g = tt
down_later c d le (Said n s ∷ h) g = down_later c d le h g
down_later c d le (Opened b ∷ h) g = let a = g.1 in (g.0, omega (arith, a), g.2)
down_later c d le (Closed b s ∷ h) g = down_later c d le h g

down_within : (c : ℕ) (h : List Event) (p : PlainBox × List Event) → innermost h ≡ Some p → GoDown c h → GoDown c p.1
down_within c [] p e g = cc
down_within c (Said n s ∷ h) p e g = down_within c h p e g
down_within c (Opened b ∷ h) p e g =
    let q : (b, h) ≡ p = some_inj e in
    let a = g.1 in
    subst (λ r. GoDown c r.1) q (down_later (b.number - 1) c (omega (arith, a)) h g.2)
down_within c (Closed b s ∷ h) p e g = down_within c h p e g

down_done : (c : ℕ) (h u : List Event) → done_closes h ≡ Some u → GoDown c h → GoDown (suc c) u
down_done c [] u e g = cc
down_done c (Said n s ∷ h) u e g =
    mapped_some (λ p. Closed p.0 s ∷ p.1) (innermost h) u e
    (λ p i q. subst (GoDown (suc c)) q (down_later c (suc c) (omega arith) p.1 (down_within c h p i g)))
down_done c (Opened b ∷ h) u e g = cc
down_done c (Closed b s ∷ h) u e g = cc

down_said : (c n : ℕ) (h u : List Event) (o : Option Statement) → option_map (λ s. Said n s ∷ h) o ≡ Some u → GoDown c h
    → GoDown (suc c) u
down_said c n h u o e g =
    mapped_some (λ s. Said n s ∷ h) o u e
    (λ s p q. subst (GoDown (suc c)) q (down_later c (suc c) (omega arith) h g))

down_opened : (t : Theory) (c : ℕ) (h u : List Event) (ps : List BoxPart) (es : List CodedEquation)
    → box_opens t h (suc c) ps es ≡ Some u → GoDown c h → GoDown (suc c) u
down_opened t c h u ps es e g =
    mapped_some (λ hs. Opened (record { number = suc c; parts = ps; hypotheses = hs }) ∷ h)
    (each (decode_equation (find_symbol t (Opened (record { number = suc c; parts = ps; hypotheses = [] }) ∷ h))) es) u
    e
    (λ hs p q. subst (GoDown (suc c)) q (omega arith, omega arith, down_later c (suc c - 1) (omega arith) h g))

down_happens : (t : Theory) (c : ℕ) (h u : List Event) (line : Line) → happens t h (suc c) line ≡ Some u → GoDown c h
    → GoDown (suc c) u
down_happens t c h u (Axiom k) e g = down_said c (suc c) h u (judge t h (Axiom k)) e g
down_happens t c h u (Hyp b k) e g = down_said c (suc c) h u (judge t h (Hyp b k)) e g
down_happens t c h u (Row k z) e g = down_said c (suc c) h u (judge t h (Row k z)) e g
down_happens t c h u (Refl x) e g = down_said c (suc c) h u (judge t h (Refl x)) e g
down_happens t c h u (Sym m) e g = down_said c (suc c) h u (judge t h (Sym m)) e g
down_happens t c h u (Inst m bs) e g = down_said c (suc c) h u (judge t h (Inst m bs)) e g
down_happens t c h u (Repl m p k) e g = down_said c (suc c) h u (judge t h (Repl m p k)) e g
down_happens t c h u (Equal m) e g = down_said c (suc c) h u (judge t h (Equal m)) e g
down_happens t c h u (BoxLine ps es) e g = down_opened t c h u ps es e g
down_happens t c h u Done e g = down_done c h u e g
down_happens t c h u (Fresh b vs) e g = down_said c (suc c) h u (judge t h (Fresh b vs)) e g
down_happens t c h u (Cases b d) e g = down_said c (suc c) h u (judge t h (Cases b d)) e g
down_happens t c h u (Induct m x q bs) e g = down_said c (suc c) h u (judge t h (Induct m x q bs)) e g
down_happens t c h u (Observe m q ns) e g = down_said c (suc c) h u (judge t h (Observe m q ns)) e g
down_happens t c h u (Generated b z ks) e g = down_said c (suc c) h u (judge t h (Generated b z ks)) e g
down_happens t c h u (Partitioned b z ks) e g = down_said c (suc c) h u (judge t h (Partitioned b z ks)) e g

down_step : (t : Theory) (st u : State) (line : Line) → step t st line ≡ Some u → GoDown st.count st.history
    → GoDown u.count u.history
down_step t st u line e g =
    mapped_some (λ h. record { count = suc st.count; history = h }) (happens t st.history (suc st.count) line) u e
    (λ h p q. subst (λ w. GoDown w.count w.history) q (down_happens t st.count st.history h line p g))

pub down_run : (t : Theory) (ls : List Line) (st u : State) → run t st ls ≡ Some u → GoDown st.count st.history
    → GoDown u.count u.history
down_run t [] st u e g = subst (λ w. GoDown w.count w.history) (some_inj e) g
down_run t (x ∷ xs) st u e g =
    option_and_then_some (λ w. run t w xs) (step t st x) u e
    (λ v p q. down_run t xs v u q (down_step t st v x p g))
