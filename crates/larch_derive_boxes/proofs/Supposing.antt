-- Hypotheses of open boxes.
use Rattle.std.proofs.Common.{◌≡◌, ◌<◌, ◌-◌, ◌==◌, ℕ, zero, suc, Bool, true, false, cond, List, [], ◌∷◌, ◌++◌, map, All}
use Rattle.std.proofs.Common.{Option, Some, None, refl, sym, ◌∙◌, ap, subst, arith}
use Rattle.std.specs.Option.{option_map, option_and_then}
use Rattle.std.specs.List.{slice_get}
use Rattle.std.proofs.lemmas.List.Elements.{All-head, All-tail, All-contains, All-weaker}
use Rattle.larch_base.proofs.Members.{got_contains}
use Rattle.larch_base.specs.ByNumber.{numbered}
use Rattle.larch_term.specs.Statement.{IsStatementOver}
use Rattle.larch_term.specs.declared.statement.Statement.{Statement}
use Rattle.larch_verify_law.proofs.TablesIdentities.{at_place}
use Rattle.larch_certificate.specs.declared.line.Line.TheVariants.{Hyp}
use Rattle.larch_verify_law.specs.VerifyMeaningContext.{find_open}
use Rattle.larch_verify_law.specs.VerifyMeaningEvents.{PlainBox, Event, Said, Opened, Closed, State, start}
use Rattle.larch_verify_law.specs.VerifyMeaningRun.{judge}
use Rattle.larch_derive.specs.declared.builder.Builder.{Builder}
use Rattle.larch_derive.specs.declared.open_box.OpenBox.{OpenBox}
use Rattle.larch_derive.specs.Builder.{IsPushed}
use Rattle.larch_derive.specs.Predicates.{operators_at, written_statement, IsBehind, Grows, HasStatement, Extends}
use Rattle.larch_derive.specs.Words.{IsWordedStatement}
use Rattle.larch_derive.proofs.Growth.{carried, later_stand, later_theory}
use Rattle.larch_derive.proofs.Pushing.{pushed_says, pushed_extends}
use Rattle.larch_derive.proofs.Runs.{run_count, down_run}
use Rattle.larch_derive_boxes.specs.Boxes.{box_of, operators_inside, Opens, IsOpenIn, IsOpen}
use Rattle.larch_derive_boxes.proofs.Opening.{moved, stand_inside}
use Rattle.larch_derive_boxes.proofs.Renaming.{inside_statement, inside_over}

box_here : (m n : ℕ) (x : PlainBox) (o : Option PlainBox) → m ≡ n → cond (m == n) (Some x) o ≡ Some x
box_here m n x o e = grind (arith, e)

box_elsewhere : (m n : ℕ) (x : PlainBox) (o : Option PlainBox) → n < m → cond (m == n) (Some x) o ≡ o
box_elsewhere m n x o lt = grind arith

pub opens_is_open : (a b : Builder) (x : OpenBox) (hs : List Statement) → Opens a b x hs → IsOpen b x hs
unfolding Opens IsOpen
opens_is_open a b x hs o =
    let st = o.stands.0 in
    let h = o.stands.1 in
    let t = a.theory in
    let bs = a.boxes in
    let box = box_of x (map (written_statement (bs ++ x ∷ [])) hs) in
    let count = run_count t a.lines start st h.runs in
    let number = o.box.number in
    moved (λ u ys ls. (v : State) × IsOpenIn u ys ls v x hs) a b x o.theory o.boxes (
      record { count = suc st.count; history = Opened box ∷ st.history },
      record {
        stand = stand_inside t bs a.lines b.lines st x hs h o.box;
        found = box_here x.number x.number box (find_open st.history x.number) refl;
        within = omega (arith, count, number);
        over = o.box.over st h.runs;
        words = o.box.words;
      },
    )

open_behind : (es h : List Event) (c n : ℕ) → All (IsBehind c) es → find_open (es ++ h) n ≡ find_open h n
open_behind [] h c n b = refl
open_behind (Said m s ∷ es) h c n b = open_behind es h c n (All-tail (IsBehind c) (Said m s) es b)
open_behind (Opened y ∷ es) h c n b = absurd (All-head (IsBehind c) (Opened y) es b)
open_behind (Closed y s ∷ es) h c n b = open_behind es h c n (All-tail (IsBehind c) (Closed y s) es b)

pub grown_open : (a b : Builder) (x : OpenBox) (hs : List Statement) → Grows a b → IsOpen a x hs → IsOpen b x hs
unfolding Grows IsOpen
grown_open a b x hs g (st, h) =
    let m = g.1.leads st h.stand.runs in
    let le = m.later in
    let within = h.within in
    carried (λ u ys ls. (v : State) × IsOpenIn u ys ls v x hs) a b g.0 (
      m.state,
      record {
        stand = later_stand a.theory a.boxes a.lines b.lines st h.stand g.1;
        found = ap (λ l. find_open l x.number) m.history
            ∙ open_behind m.events st.history st.count x.number m.behind ∙ h.found;
        within = omega (arith, le, within);
        over = subst (λ u. All (λ s. IsStatementOver u.operators (written_statement a.boxes s)) hs)
            (sym (later_theory a.theory a.lines b.lines st h.stand.runs g.1)) h.over;
        words = h.words;
      },
    )

same_hypotheses : (F : Statement → Type 0) (f g : Statement → Statement) → ((s : Statement) → F s → f s ≡ g s)
    → (hs : List Statement) → All F hs → map f hs ≡ map g hs
same_hypotheses F f g k [] w = refl
same_hypotheses F f g k (s ∷ hs) w =
    let here = k s (All-head F s hs w) in
    let rest = same_hypotheses F f g k hs (All-tail F s hs w) in
    λ i. here i ∷ rest i

pub opened_open : (a b : Builder) (x y : OpenBox) (hs ks : List Statement) → Opens a b y ks → IsOpen a x hs
    → IsOpen b x hs
unfolding Opens IsOpen
opened_open a b x y hs ks o (st, h) =
    let t = a.theory in
    let bs = a.boxes in
    let box = box_of y (map (written_statement (bs ++ y ∷ [])) ks) in
    let down = down_run t a.lines start st h.stand.runs tt in
    let count = run_count t a.lines start st h.stand.runs in
    let number = o.box.number in
    let within = h.within in
    let further : x.number < y.number = omega (arith, count, number, within) in
    moved (λ u ys ls. (v : State) × IsOpenIn u ys ls v x hs) a b y o.theory o.boxes (
      record { count = suc st.count; history = Opened box ∷ st.history },
      record {
        stand = stand_inside t bs a.lines b.lines st y ks h.stand o.box;
        found = box_elsewhere y.number x.number box (find_open st.history x.number) further ∙ h.found
            ∙ ap (λ l. Some (box_of x l))
            (same_hypotheses (λ s. IsStatementOver (operators_at t st) (written_statement bs s)) (written_statement bs)
            (written_statement (bs ++ y ∷ []))
            (λ s w. inside_statement t h.stand.plain st.history st.count bs y down o.box.others s w) hs h.over);
        within = omega (arith, within);
        over = All-weaker (λ s. IsStatementOver (operators_at t st) (written_statement bs s))
            (λ s. IsStatementOver (operators_inside t st.history y) (written_statement (bs ++ y ∷ []) s))
            (λ s w. inside_over t h.stand.plain st.history st.count bs y down o.box.others s w) hs h.over;
        words = h.words;
      },
    )

-- ---- hyp

got_mapped : (f : Statement → Statement) (hs : List Statement) (i : ℕ) (s : Statement) → slice_get hs i ≡ Some s
    → slice_get (map f hs) i ≡ Some (f s)
got_mapped f [] i s e = cc
got_mapped f (h ∷ hs) zero s e = ap (option_map f) e
got_mapped f (h ∷ hs) (suc i) s e = got_mapped f hs i s e

numbered_mapped : (f : Statement → Statement) (hs : List Statement) (k : ℕ) (s : Statement) → numbered hs k ≡ Some s
    → numbered (map f hs) k ≡ Some (f s)
numbered_mapped f hs k s e = by_zero (k == 0) e
  where
    by_zero : (b : Bool) → cond b None (slice_get hs (k - 1)) ≡ Some s
        → cond b None (slice_get (map f hs) (k - 1)) ≡ Some (f s)
    by_zero true q = cc
    by_zero false q = got_mapped f hs (k - 1) s q

hyp_judged : (a : Builder) (st : State) (x : OpenBox) (hs : List Statement) (k : ℕ) (s : Statement)
    → IsOpenIn a.theory a.boxes a.lines st x hs → numbered hs k ≡ Some s
    → judge a.theory st.history (Hyp x.number k) ≡ Some (written_statement a.boxes s)
hyp_judged a st x hs k s h e =
    ap (option_and_then (λ box. numbered box.hypotheses k)) h.found
    ∙ numbered_mapped (written_statement a.boxes) hs k s e

pub hyp_says : (a b : Builder) (x : OpenBox) (hs : List Statement) (k n : ℕ) (s : Statement)
    → IsPushed a b (Hyp x.number k) n → IsOpen a x hs → numbered hs k ≡ Some s → HasStatement b n s
unfolding IsOpen
hyp_says a b x hs k n s p (st, h) e =
    pushed_says a b (Hyp x.number k) n st s p h.stand (hyp_judged a st x hs k s h e)
    (All-contains (λ s. IsStatementOver (operators_at a.theory st) (written_statement a.boxes s)) hs s h.over
    (got_contains hs (k - 1) s (at_place hs k s e))) p.numbers
    (All-contains IsWordedStatement hs s h.words (got_contains hs (k - 1) s (at_place hs k s e)))

pub hyp_extends : (a b : Builder) (x : OpenBox) (hs : List Statement) (k n : ℕ) (s : Statement)
    → IsPushed a b (Hyp x.number k) n → IsOpen a x hs → numbered hs k ≡ Some s → Extends a b
unfolding IsOpen
hyp_extends a b x hs k n s p (st, h) e =
    pushed_extends a b (Hyp x.number k) n st (written_statement a.boxes s) p h.stand.runs (hyp_judged a st x hs k s h e)
    p.numbers

-- the same, where the box's number is told
pub hyp_line_says : (a b : Builder) (j k n : ℕ) (x : OpenBox) (hs : List Statement) (s : Statement)
    → IsPushed a b (Hyp j k) n → x.number ≡ j → IsOpen a x hs → numbered hs k ≡ Some s → HasStatement b n s
hyp_line_says a b j k n x hs s p i h e = hyp_says a b x hs k n s (subst (λ m. IsPushed a b (Hyp m k) n) (sym i) p) h e

pub hyp_line_extends : (a b : Builder) (j k n : ℕ) (x : OpenBox) (hs : List Statement) (s : Statement)
    → IsPushed a b (Hyp j k) n → x.number ≡ j → IsOpen a x hs → numbered hs k ≡ Some s → Extends a b
hyp_line_extends a b j k n x hs s p i h e =
    hyp_extends a b x hs k n s (subst (λ m. IsPushed a b (Hyp m k) n) (sym i) p) h e
