-- Growth: what was said stays said, and what grows twice grows.
use Rattle.std.proofs.Common.{◌≡◌, ◌≤◌, ◌<◌, ◌==◌, ℕ, cond, List, [], ◌∷◌, ◌++◌, map, All, Option, Some, None, refl}
use Rattle.std.proofs.Common.{sym, ◌∙◌, ap, subst, arith}
use Rattle.std.specs.Option.{option_and_then}
use Rattle.std.proofs.lemmas.List.{append_assoc, append-nil}
use Rattle.std.proofs.lemmas.List.Elements.{All-nil, All-append, All-head, All-tail, All-weaker}
use Rattle.larch_term.specs.Sorts.{IsTermOver}
use Rattle.larch_term.specs.Statement.{IsStatementOver}
use Rattle.larch_term.specs.Tree.{Tree}
use Rattle.larch_term.specs.declared.statement.Statement.{Statement}
use Rattle.larch_term.specs.declared.statement.Statement.TheVariants.{Equation}
use Rattle.larch_term.specs.declared.statement.Theory.{Theory}
use Rattle.larch_certificate_text.specs.CertificateCoded.{CodedTree}
use Rattle.larch_certificate_text.specs.CertificateLineLine.{Line}
use Rattle.larch_verify_meaning.specs.Context.{theory_of, find_line}
use Rattle.larch_verify_meaning.specs.Events.{Event, Said, Opened, Closed, State, start}
use Rattle.larch_verify_meaning.specs.Run.{run, step}
use Rattle.larch_derive.specs.declared.builder.Builder.{Builder}
use Rattle.larch_derive.specs.declared.open_box.OpenBox.{OpenBox}
use Rattle.larch_derive.specs.Builder.{shape_of, IsCodeIn}
use Rattle.larch_derive.specs.Coding.{IsCodeOf}
use Rattle.larch_derive.specs.Predicates.{shapes_of, written_term, written_statement, StandIn, KnownIn, SaysIn}
use Rattle.larch_derive.specs.Predicates.{HasNoBadLine, Known, HasStatement, IsSaidBehind, IsBehind, LeadsOn, GrowsBy}
use Rattle.larch_derive.specs.Predicates.{AreAlike, Extends, Grows}

-- ---- events behind

pub said_is_behind : (c : ℕ) (e : Event) → IsSaidBehind c e → IsBehind c e
said_is_behind c (Said n s) h = h
said_is_behind c (Opened b) h = absurd h
said_is_behind c (Closed b s) h = absurd h

pub said_later : (c d : ℕ) → c ≤ d → (e : Event) → IsSaidBehind d e → IsSaidBehind c e
said_later c d le (Said n s) h = omega arith
said_later c d le (Opened b) h = h
said_later c d le (Closed b s) h = h

pub behind_later : (c d : ℕ) → c ≤ d → (e : Event) → IsBehind d e → IsBehind c e
behind_later c d le (Said n s) h = omega arith
behind_later c d le (Opened b) h = h
behind_later c d le (Closed b s) h = omega arith

other_line : (m n : ℕ) (x : Statement) (o : Option Statement) → n < m → cond (m == n) (Some x) o ≡ o
other_line m n x o lt = grind arith

pub line_behind : (es h : List Event) (c n : ℕ) → All (IsBehind c) es → n ≤ c → find_line (es ++ h) n ≡ find_line h n
line_behind [] h c n b le = refl
line_behind (Said m s ∷ es) h c n b le =
    let lt = All-head (IsBehind c) (Said m s) es b in
    let further : n < m = omega (arith, lt) in
    other_line m n s (find_line (es ++ h) n) further
    ∙ line_behind es h c n (All-tail (IsBehind c) (Said m s) es b) le
line_behind (Opened x ∷ es) h c n b le = absurd (All-head (IsBehind c) (Opened x) es b)
line_behind (Closed x s ∷ es) h c n b le = line_behind es h c n (All-tail (IsBehind c) (Closed x s) es b) le

pub theory_behind : (t : Theory) (es h : List Event) (c : ℕ) → All (IsBehind c) es
    → theory_of t (es ++ h) ≡ theory_of t h
theory_behind t [] h c b = refl
theory_behind t (Said m s ∷ es) h c b = theory_behind t es h c (All-tail (IsBehind c) (Said m s) es b)
theory_behind t (Opened x ∷ es) h c b = absurd (All-head (IsBehind c) (Opened x) es b)
theory_behind t (Closed x s ∷ es) h c b = theory_behind t es h c (All-tail (IsBehind c) (Closed x s) es b)

pub shapes_behind : (es h : List Event) (c : ℕ) → All (IsBehind c) es → shapes_of (es ++ h) ≡ shapes_of h
shapes_behind [] h c b = refl
shapes_behind (Said m s ∷ es) h c b = shapes_behind es h c (All-tail (IsBehind c) (Said m s) es b)
shapes_behind (Opened x ∷ es) h c b = absurd (All-head (IsBehind c) (Opened x) es b)
shapes_behind (Closed x s ∷ es) h c b = shapes_behind es h c (All-tail (IsBehind c) (Closed x s) es b)

-- ---- runs

then_run : (t : Theory) (o : Option State) (xs ys : List Line)
    → ((u : State) → run t u (xs ++ ys) ≡ option_and_then (λ v. run t v ys) (run t u xs))
    → option_and_then (λ u. run t u (xs ++ ys)) o
    ≡ option_and_then (λ v. run t v ys) (option_and_then (λ u. run t u xs) o)
then_run t None xs ys h = refl
then_run t (Some u) xs ys h = h u

pub run_append : (t : Theory) (st : State) (xs ys : List Line)
    → run t st (xs ++ ys) ≡ option_and_then (λ u. run t u ys) (run t st xs)
run_append t st [] ys = refl
run_append t st (x ∷ xs) ys = then_run t (step t st x) xs ys (λ u. run_append t u xs ys)

pub run_further : (t : Theory) (st u v : State) (xs ys : List Line) → run t st xs ≡ Some u → run t u ys ≡ Some v
    → run t st (xs ++ ys) ≡ Some v
run_further t st u v xs ys p q = run_append t st xs ys ∙ ap (option_and_then (λ w. run t w ys)) p ∙ q

-- ---- growth

pub nothing_leads : (P : ℕ → Event → Type 0) (t : Theory) (st : State) → LeadsOn P t st []
nothing_leads P t st =
    record { state = st; runs = refl; later = omega arith; events = []; history = refl; behind = All-nil (P st.count) }

pub leads_twice : (P : ℕ → Event → Type 0) → ((c d : ℕ) → c ≤ d → (e : Event) → P d e → P c e)
    → (t : Theory) (st : State) (xs ys : List Line) (x : LeadsOn P t st xs) → LeadsOn P t x.state ys
    → LeadsOn P t st (xs ++ ys)
leads_twice P later t st xs ys x y =
    let a = x.later in
    let b = y.later in
    record {
      state = y.state;
      runs = run_further t st x.state y.state xs ys x.runs y.runs;
      later = omega (arith, a, b);
      events = y.events ++ x.events;
      history = y.history ∙ ap (λ h. y.events ++ h) x.history ∙ sym (append_assoc y.events x.events st.history);
      behind = All-append (P st.count) y.events x.events
          (All-weaker (P x.state.count) (P st.count) (later st.count x.state.count a) y.events y.behind) x.behind;
    }

pub grows_refl : (P : ℕ → Event → Type 0) (t : Theory) (ls : List Line) → GrowsBy P t ls ls
grows_refl P t ls =
    record { more = []; lines = sym (append-nil ls); leads = λ st r. nothing_leads P t st; fits = λ w. w }

pub grows_twice : (P : ℕ → Event → Type 0) → ((c d : ℕ) → c ≤ d → (e : Event) → P d e → P c e)
    → (t : Theory) (ls ks js : List Line) → GrowsBy P t ls ks → GrowsBy P t ks js → GrowsBy P t ls js
grows_twice P later t ls ks js x y =
    record {
      more = x.more ++ y.more;
      lines = y.lines ∙ ap (λ l. l ++ y.more) x.lines ∙ append_assoc ls x.more y.more;
      leads = λ st r.
          let m = x.leads st r in
          leads_twice P later t st x.more y.more m
          (y.leads m.state (ap (run t start) x.lines ∙ run_further t start st m.state ls x.more r m.runs));
      fits = λ w. y.fits (x.fits w);
    }

pub grows_as : (P Q : ℕ → Event → Type 0) → ((c : ℕ) (e : Event) → P c e → Q c e)
    → (t : Theory) (ls ks : List Line) → GrowsBy P t ls ks → GrowsBy Q t ls ks
grows_as P Q h t ls ks x =
    record {
      more = x.more;
      lines = x.lines;
      leads = λ st r.
          let m = x.leads st r in
          record {
            state = m.state;
            runs = m.runs;
            later = m.later;
            events = m.events;
            history = m.history;
            behind = All-weaker (P st.count) (Q st.count) (h st.count) m.events m.behind;
          };
      fits = x.fits;
    }

-- ---- what stays

-- the state behind
abbrev pub later_state : (t : Theory) (ls ks : List Line) (st : State) → run t start ls ≡ Some st
    → GrowsBy IsBehind t ls ks → State
later_state t ls ks st r x = (x.leads st r).state

pub later_runs : (t : Theory) (ls ks : List Line) (st : State) (r : run t start ls ≡ Some st)
    (x : GrowsBy IsBehind t ls ks)
    → run t start ks ≡ Some (later_state t ls ks st r x)
later_runs t ls ks st r x =
    let m = x.leads st r in ap (run t start) x.lines ∙ run_further t start st m.state ls x.more r m.runs

pub later_theory : (t : Theory) (ls ks : List Line) (st : State) (r : run t start ls ≡ Some st)
    (x : GrowsBy IsBehind t ls ks)
    → theory_of t (later_state t ls ks st r x).history ≡ theory_of t st.history
later_theory t ls ks st r x =
    let m = x.leads st r in ap (theory_of t) m.history ∙ theory_behind t m.events st.history st.count m.behind

later_shapes : (t : Theory) (bs : List OpenBox) (ls ks : List Line) (st : State) (h : StandIn t bs ls st)
    (x : GrowsBy IsBehind t ls ks) → shapes_of (later_state t ls ks st h.runs x).history ≡ map shape_of bs
later_shapes t bs ls ks st h x =
    let m = x.leads st h.runs in
    ap shapes_of m.history ∙ shapes_behind m.events st.history st.count m.behind ∙ h.opened

pub later_stand : (t : Theory) (bs : List OpenBox) (ls ks : List Line) (st : State) (h : StandIn t bs ls st)
    (x : GrowsBy IsBehind t ls ks) → StandIn t bs ks (later_state t ls ks st h.runs x)
later_stand t bs ls ks st h x =
    record {
      runs = later_runs t ls ks st h.runs x;
      opened = later_shapes t bs ls ks st h x;
      plain = h.plain;
      others = h.others;
      worded = h.worded;
      parts = h.parts;
      fits = x.fits h.fits;
    }

pub stays_stand : (t : Theory) (bs : List OpenBox) (ls ks : List Line) → ((st : State) × StandIn t bs ls st)
    → GrowsBy IsBehind t ls ks → (st : State) × StandIn t bs ks st
stays_stand t bs ls ks (st, h) x = (later_state t ls ks st h.runs x, later_stand t bs ls ks st h x)

pub stays_in : (t : Theory) (bs : List OpenBox) (ls ks : List Line) (n : ℕ) (s : Statement)
    → ((st : State) × SaysIn t bs ls st n s) → GrowsBy IsBehind t ls ks → (st : State) × SaysIn t bs ks st n s
stays_in t bs ls ks n s (st, h) x =
    let m = x.leads st h.stand.runs in
    let a = m.later in
    let b = h.within in (
      m.state,
      record {
        stand = later_stand t bs ls ks st h.stand x;
        says = ap (λ u. find_line u n) m.history
            ∙ line_behind m.events st.history st.count n m.behind h.within ∙ h.says;
        within = omega (arith, a, b);
        over = subst (λ u. IsStatementOver u.operators (written_statement bs s))
            (sym (later_theory t ls ks st h.stand.runs x)) h.over;
        words = h.words;
      },
    )

pub known_in_later : (t : Theory) (bs : List OpenBox) (ls ks : List Line) (a : Tree)
    → ((st : State) × KnownIn t bs ls st a) → GrowsBy IsBehind t ls ks → (st : State) × KnownIn t bs ks st a
known_in_later t bs ls ks a (st, h) x = (
  later_state t ls ks st h.stand.runs x,
  record {
    stand = later_stand t bs ls ks st h.stand x;
    over = subst (λ u. IsTermOver u.operators (written_term bs a))
        (sym (later_theory t ls ks st h.stand.runs x)) h.over;
    words = h.words;
  },
)

-- what holds of a theory, open boxes and lines holds of a builder with the same
pub carried : (F : Theory → List OpenBox → List Line → Type 0) (a b : Builder) → AreAlike a b
    → F a.theory a.boxes b.lines → F b.theory b.boxes b.lines
carried F a b e f =
    subst (λ t. F t b.boxes b.lines) (sym e.theory) (subst (λ bs. F a.theory bs b.lines) (sym e.boxes) f)

alike_refl : (a : Builder) → AreAlike a a
alike_refl a = record { theory = refl; boxes = refl }

alike_twice : (a b c : Builder) → AreAlike a b → AreAlike b c → AreAlike a c
alike_twice a b c x y = record { theory = y.theory ∙ x.theory; boxes = y.boxes ∙ x.boxes }

-- ---- the laws

pub extends_refl : (a : Builder) → Extends a a
unfolding Extends
extends_refl a = (alike_refl a, grows_refl IsSaidBehind a.theory a.lines)

pub extends_same : (a b : Builder) → b ≡ a → Extends a b
extends_same a b e = subst (Extends a) (sym e) (extends_refl a)

pub extends_trans : (a b c : Builder) → Extends a b → Extends b c → Extends a c
unfolding Extends
extends_trans a b c x y = (
  alike_twice a b c x.0 y.0,
  grows_twice IsSaidBehind said_later a.theory a.lines b.lines c.lines x.1
      (subst (λ t. GrowsBy IsSaidBehind t b.lines c.lines) x.0.theory y.1),
)

pub extends_grows : (a b : Builder) → Extends a b → Grows a b
unfolding Extends Grows
extends_grows a b x = (x.0, grows_as IsSaidBehind IsBehind said_is_behind a.theory a.lines b.lines x.1)

pub grows_same : (a b : Builder) → b ≡ a → Grows a b
grows_same a b e = extends_grows a b (extends_same a b e)

pub grows_trans : (a b c : Builder) → Grows a b → Grows b c → Grows a c
unfolding Grows
grows_trans a b c x y = (
  alike_twice a b c x.0 y.0,
  grows_twice IsBehind behind_later a.theory a.lines b.lines c.lines x.1
      (subst (λ t. GrowsBy IsBehind t b.lines c.lines) x.0.theory y.1),
)

pub grown_said : (a b : Builder) (n : ℕ) (s : Statement) → Grows a b → HasStatement a n s → HasStatement b n s
unfolding Grows HasStatement
grown_said a b n s x h =
    carried (λ t bs ls. (st : State) × SaysIn t bs ls st n s) a b x.0
    (stays_in a.theory a.boxes a.lines b.lines n s h x.1)

pub grown_known : (a b : Builder) (t : Tree) → Grows a b → Known a t → Known b t
unfolding Grows Known
grown_known a b t x h =
    carried (λ u bs ls. (st : State) × KnownIn u bs ls st t) a b x.0
    (known_in_later a.theory a.boxes a.lines b.lines t h x.1)

pub grown_stands : (a b : Builder) → Grows a b → HasNoBadLine a → HasNoBadLine b
unfolding Grows HasNoBadLine
grown_stands a b x h =
    carried (λ u bs ls. (st : State) × StandIn u bs ls st) a b x.0
    (stays_stand a.theory a.boxes a.lines b.lines h x.1)

pub stays_said : (a b : Builder) (n : ℕ) (s : Statement) → Extends a b → HasStatement a n s → HasStatement b n s
stays_said a b n s x h = grown_said a b n s (extends_grows a b x) h

pub stays_known : (a b : Builder) (t : Tree) → Extends a b → Known a t → Known b t
stays_known a b t x h = grown_known a b t (extends_grows a b x) h

pub known_left : (a : Builder) (n : ℕ) (l r : Tree) → HasStatement a n (Equation l r) → Known a l
unfolding HasStatement Known
known_left a n l r (st, h) = (st, record { stand = h.stand; over = h.over.0; words = h.words.0 })

pub known_right : (a : Builder) (n : ℕ) (l r : Tree) → HasStatement a n (Equation l r) → Known a r
unfolding HasStatement Known
known_right a n l r (st, h) = (st, record { stand = h.stand; over = h.over.1; words = h.words.1 })

pub known_stands : (a : Builder) (t : Tree) → Known a t → HasNoBadLine a
unfolding Known HasNoBadLine
known_stands a t (st, h) = (st, h.stand)

pub said_stands : (a : Builder) (n : ℕ) (s : Statement) → HasStatement a n s → HasNoBadLine a
unfolding HasStatement HasNoBadLine
said_stands a n s (st, h) = (st, h.stand)

pub grows_alike : (a b : Builder) → Grows a b → (b.theory ≡ a.theory) × (b.boxes ≡ a.boxes)
unfolding Grows
grows_alike a b x = (x.0.theory, x.0.boxes)

-- ---- terms as lines write them

-- what writes a term writes it where the builder has further lines
pub code_stays : (a b : Builder) (t : Tree) (c : CodedTree) → Extends a b → IsCodeIn a t c → IsCodeIn b t c
unfolding Extends
code_stays a b t c (same, g) h =
    subst (λ bs. IsCodeOf bs b.theory.operators t c) (sym same.boxes)
    (subst (λ th. IsCodeOf a.boxes th.operators t c) (sym same.theory) h)
