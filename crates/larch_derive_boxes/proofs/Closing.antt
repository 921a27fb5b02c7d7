-- Closing a box: its result stays, and the builder has grown.
use Rattle.std.proofs.Common.{◌≡◌, ◌≤◌, ◌<◌, ◌+◌, ◌-◌, ◌==◌, ℕ, suc, cond, List, [], ◌∷◌, ◌++◌, map, length, take, All}
use Rattle.std.proofs.Common.{Option, Some, refl, sym, ◌∙◌, ap, subst, arith}
use Rattle.std.specs.Option.{option_map, option_and_then}
use Rattle.std.proofs.lemmas.List.{append_assoc, length-append}
use Rattle.std.proofs.Math.Seq.{take-append_seam}
use Rattle.std.proofs.lemmas.List.Elements.{All-nil, All-cons, All-head, All-tail}
use Rattle.larch_term.specs.Statement.{IsStatementOver}
use Rattle.larch_term.specs.Tree.{Tree}
use Rattle.larch_term.specs.declared.statement.Statement.{Statement}
use Rattle.larch_term.specs.declared.statement.Statement.TheVariants.{Equation}
use Rattle.larch_term.specs.declared.statement.Theory.{Theory}
use Rattle.larch_verify_law.specs.CalculusTheories.{AreNew}
use Rattle.larch_certificate.specs.declared.line.Line.{Line}
use Rattle.larch_certificate.specs.declared.line.Line.TheVariants.{Inst, Done}
use Rattle.larch_derive.specs.CertificateTextCertificateText.{Writable}
use Rattle.larch_verify_law.specs.VerifyMeaningContext.{theory_of, find_closed, innermost}
use Rattle.larch_verify_law.specs.VerifyMeaningEvents.{PlainBox, Event, Said, Opened}
use Rattle.larch_verify_law.specs.VerifyMeaningEvents.{Closed, State, start, operators_of}
use Rattle.larch_verify_law.specs.VerifyMeaningRun.{run}
use Rattle.larch_derive.specs.declared.builder.Builder.{Builder}
use Rattle.larch_derive.specs.declared.open_box.OpenBox.{OpenBox}
use Rattle.larch_derive.specs.Builder.{IsPushed}
use Rattle.larch_derive.specs.Predicates.{written_statement, StandIn, SaysIn, IsBehind, GrowsBy, AreAlike}
use Rattle.larch_derive.specs.Predicates.{Extends, Grows, HasStatement}
use Rattle.larch_derive.proofs.Growth.{carried, run_append, run_further, theory_behind, later_stand}
use Rattle.larch_derive.proofs.Pushing.{one_state, said_again, again_extends}
use Rattle.larch_derive.proofs.Words.{pushed_fits}
use Rattle.larch_derive.proofs.Runs.{after_saying, run_said, run_count, down_run}
use Rattle.larch_derive_boxes.proofs.Newness.{constants_new}
use Rattle.larch_derive_boxes.specs.Boxes.{box_of, operators_inside, OpensIn, Opens, ResultIn, HasResult, Closes}

inner_behind : (es h : List Event) (c : ℕ) → All (IsBehind c) es → innermost (es ++ h) ≡ innermost h
inner_behind [] h c b = refl
inner_behind (Said m s ∷ es) h c b = inner_behind es h c (All-tail (IsBehind c) (Said m s) es b)
inner_behind (Opened y ∷ es) h c b = absurd (All-head (IsBehind c) (Opened y) es b)
inner_behind (Closed y s ∷ es) h c b = inner_behind es h c (All-tail (IsBehind c) (Closed y s) es b)

-- with an equation that was said the innermost box is closed
done_runs : (t : Theory) (st : State) (s : Statement) (p : PlainBox × List Event) → innermost st.history ≡ Some p
    → run t (after_saying st s) (Done ∷ [])
    ≡ Some (record { count = suc (suc st.count); history = Closed p.0 s ∷ p.1 })
done_runs t st s p e =
    ap (λ o. option_and_then (λ u. run t u []) (option_map (λ k. record { count = suc (suc st.count); history = k })
    (option_map (λ q. Closed q.0 s ∷ q.1) o))) e

-- where a box was opened and the builder has grown inside, an equation is said once more, and the box is closed
pub closing_runs : (t : Theory) (bs : List OpenBox) (als bls cls : List Line) (x : OpenBox)
    (hs : List Statement) (m : ℕ)
    (l r : Tree) (st su : State) → run t start als ≡ Some st → OpensIn t bs als bls x hs → GrowsBy IsBehind t bls cls
    → SaysIn t (bs ++ x ∷ []) cls su m (Equation l r)
    → run t start ((cls ++ Inst m [] ∷ []) ++ Done ∷ []) ≡ Some (record {
      count = suc (suc su.count);
      history =
          Closed (box_of x (map (written_statement (bs ++ x ∷ [])) hs))
          (written_statement (bs ++ x ∷ []) (Equation l r)) ∷ st.history;
    })
closing_runs t bs als bls cls x hs m l r st su r0 o g h =
    let xs = bs ++ x ∷ [] in
    let s = written_statement xs (Equation l r) in
    let box = box_of x (map (written_statement xs) hs) in
    let inside : State = record { count = suc st.count; history = Opened box ∷ st.history } in
    let opened : run t start bls ≡ Some inside =
    ap (run t start) o.lines ∙ run_further t start st inside als (o.line ∷ []) r0 (o.leads st r0) in
    let k = g.leads inside opened in
    let ran : run t start cls ≡ Some k.state =
    ap (run t start) g.lines ∙ run_further t start inside k.state bls g.more opened k.runs in
    let same : su ≡ k.state = one_state t cls k.state su ran h.stand.runs in
    let inner : innermost su.history ≡ Some (box, st.history) =
    ap (λ u. innermost u.history) same ∙ ap innermost k.history
    ∙ inner_behind k.events inside.history inside.count k.behind in
    run_further t start (after_saying su s) (record { count = suc (suc su.count); history = Closed box s ∷ st.history })
    (cls ++ Inst m [] ∷ []) (Done ∷ [])
    (run_further t start su (after_saying su s) cls (Inst m [] ∷ []) h.stand.runs
    (run_said t su (Inst m []) s (said_again t xs cls su m l r h)))
    (done_runs t su s (box, st.history) inner)

-- the sides are over what is there inside
inside_over_said : (t : Theory) (bs : List OpenBox) (als bls cls : List Line) (x : OpenBox)
    (hs : List Statement) (m : ℕ)
    (s : Statement) (st su : State) → run t start als ≡ Some st → OpensIn t bs als bls x hs → GrowsBy IsBehind t bls cls
    → SaysIn t (bs ++ x ∷ []) cls su m s
    → IsStatementOver (operators_inside t st.history x) (written_statement (bs ++ x ∷ []) s)
inside_over_said t bs als bls cls x hs m s st su r0 o g h =
    let xs = bs ++ x ∷ [] in
    let box = box_of x (map (written_statement xs) hs) in
    let inside : State = record { count = suc st.count; history = Opened box ∷ st.history } in
    let opened : run t start bls ≡ Some inside =
    ap (run t start) o.lines ∙ run_further t start st inside als (o.line ∷ []) r0 (o.leads st r0) in
    let k = g.leads inside opened in
    let ran : run t start cls ≡ Some k.state =
    ap (run t start) g.lines ∙ run_further t start inside k.state bls g.more opened k.runs in
    let same : su ≡ k.state = one_state t cls k.state su ran h.stand.runs in
    let theory : theory_of t su.history ≡ theory_of t inside.history =
    ap (λ u. theory_of t u.history) same ∙ ap (theory_of t) k.history
    ∙ theory_behind t k.events inside.history inside.count k.behind in
    subst (λ u. IsStatementOver u.operators (written_statement xs s)) theory h.over

-- ---- what the builder has then

without_last : {X : Type 0} (xs : List X) (y : X) → take (length (xs ++ y ∷ []) - 1) (xs ++ y ∷ []) ≡ xs
without_last xs y = ap (λ n. take n (xs ++ y ∷ [])) shorter ∙ take-append_seam xs (y ∷ [])
  where
    shorter : length (xs ++ y ∷ []) - 1 ≡ length xs
    shorter = let long = length-append xs (y ∷ []) in omega (arith, long)

-- in the first builder's own theory, boxes and lines
record ClosesIn (a d : Builder) (x : OpenBox) (hs : List Statement) (l r : Tree) : Type 0 where
  bls : List Line
  cls : List Line
  line : ℕ
  state : State
  stands : (st : State) × StandIn a.theory a.boxes a.lines st
  alike : AreAlike a d
  opens : OpensIn a.theory a.boxes a.lines bls x hs
  grows : GrowsBy IsBehind a.theory bls cls
  says : SaysIn a.theory (a.boxes ++ x ∷ []) cls state line (Equation l r)
  lines : d.lines ≡ (cls ++ Inst line [] ∷ []) ++ Done ∷ []
  fits : Writable a.lines → Writable d.lines

closes_in : (a d : Builder) (x : OpenBox) (hs : List Statement) (l r : Tree) → Closes a d x hs l r
    → ClosesIn a d x hs l r
unfolding Opens Grows HasStatement
closes_in a d x hs l r c =
    let o = c.opens in
    let g = c.grows in
    let theory : c.grown.theory ≡ a.theory = g.0.theory ∙ o.theory in
    let boxes : c.grown.boxes ≡ a.boxes ++ x ∷ [] = g.0.boxes ∙ o.boxes in
    record {
      bls = c.inside.lines;
      cls = c.grown.lines;
      line = c.line;
      state = c.says.0;
      stands = o.stands;
      alike = record {
        theory = c.closes.theory ∙ c.repeats.theory ∙ theory;
        boxes = c.closes.boxes ∙ ap (λ bs. take (length bs - 1) bs) (c.repeats.boxes ∙ boxes) ∙ without_last a.boxes x;
      };
      opens = o.box;
      grows = subst (λ t. GrowsBy IsBehind t c.inside.lines c.grown.lines) o.theory g.1;
      says = subst (λ bs. SaysIn a.theory bs c.grown.lines c.says.0 c.line (Equation l r)) boxes
          (subst (λ t. SaysIn t c.grown.boxes c.grown.lines c.says.0 c.line (Equation l r)) theory c.says.1);
      lines = c.closes.lines ∙ ap (λ ls. ls ++ Done ∷ []) c.repeats.lines;
      fits = λ w.
          pushed_fits c.again d Done c.last c.closes tt
          (pushed_fits c.grown c.again (Inst c.line []) c.first c.repeats (c.repeats.numbers, tt)
          (g.1.fits (o.box.fits w)));
    }

closes_grows_in : (a d : Builder) (x : OpenBox) (hs : List Statement) (l r : Tree) → ClosesIn a d x hs l r
    → GrowsBy IsBehind a.theory a.lines d.lines
closes_grows_in a d x hs l r c =
    let more : List Line = ((c.opens.line ∷ [] ++ c.grows.more) ++ Inst c.line [] ∷ []) ++ Done ∷ [] in
    let lines : d.lines ≡ a.lines ++ more =
    c.lines
    ∙ ap (λ ls. (ls ++ Inst c.line [] ∷ []) ++ Done ∷ [])
    (c.grows.lines ∙ ap (λ ls. ls ++ c.grows.more) c.opens.lines
    ∙ append_assoc a.lines (c.opens.line ∷ []) c.grows.more)
    ∙ ap (λ ls. ls ++ Done ∷ []) (append_assoc a.lines (c.opens.line ∷ [] ++ c.grows.more) (Inst c.line [] ∷ []))
    ∙ append_assoc a.lines ((c.opens.line ∷ [] ++ c.grows.more) ++ Inst c.line [] ∷ []) (Done ∷ []) in
    record {
      more = more;
      lines = lines;
      leads = λ st ran.
          let t = a.theory in
          let xs = a.boxes ++ x ∷ [] in
          let box = box_of x (map (written_statement xs) hs) in
          let s = written_statement xs (Equation l r) in
          let final : State = record { count = suc (suc c.state.count); history = Closed box s ∷ st.history } in
          let whole : run t start (a.lines ++ more) ≡ Some final =
          ap (run t start) (sym lines ∙ c.lines)
          ∙ closing_runs t a.boxes a.lines c.bls c.cls x hs c.line l r st c.state ran c.opens c.grows c.says in
          let count = run_count t a.lines start st ran in
          let long = run_count t (a.lines ++ more) start final whole in
          let sum = length-append a.lines more in
          let number = c.opens.number in
          record {
            state = final;
            runs = sym (run_append t start a.lines more ∙ ap (option_and_then (λ u. run t u more)) ran) ∙ whole;
            later = omega (arith, count, long, sum);
            events = Closed box s ∷ [];
            history = refl;
            behind =
                All-cons (IsBehind st.count) (Closed box s) [] (omega (arith, count, number))
                (All-nil (IsBehind st.count));
          };
      fits = c.fits;
    }

pub closes_grows : (a d : Builder) (x : OpenBox) (hs : List Statement) (l r : Tree) → Closes a d x hs l r → Grows a d
unfolding Grows
closes_grows a d x hs l r c = let i = closes_in a d x hs l r c in (i.alike, closes_grows_in a d x hs l r i)

box_found : (m n : ℕ) (p : PlainBox × Statement) (o : Option (PlainBox × Statement)) → m ≡ n
    → cond (m == n) (Some p) o ≡ Some p
box_found m n p o e = grind (arith, e)

pub closes_result : (a d : Builder) (x : OpenBox) (hs : List Statement) (l r : Tree) → Closes a d x hs l r
    → HasResult d x hs (Equation l r)
unfolding HasResult
closes_result a d x hs l r c =
    let i = closes_in a d x hs l r c in
    let st = i.stands.0 in
    let h = i.stands.1 in
    let t = a.theory in
    let bs = a.boxes in
    let xs = bs ++ x ∷ [] in
    let box = box_of x (map (written_statement xs) hs) in
    let s = written_statement xs (Equation l r) in
    let number = i.opens.number in
    let count = run_count t i.cls start i.state i.says.stand.runs in
    let before = run_count t a.lines start st h.runs in
    let opened : length i.bls ≡ length a.lines + 1 =
    ap length i.opens.lines ∙ length-append a.lines (i.opens.line ∷ []) in
    let grown : length i.cls ≡ length i.bls + length i.grows.more =
    ap length i.grows.lines ∙ length-append i.bls i.grows.more in
    carried (λ u ys ls. (v : State) × ResultIn u ys ls v x hs (Equation l r)) a d i.alike (
      record { count = suc (suc i.state.count); history = Closed box s ∷ st.history },
      record {
        stand = record {
          runs = ap (run t start) i.lines
              ∙ closing_runs t bs a.lines i.bls i.cls x hs i.line l r st i.state h.runs i.opens i.grows i.says;
          opened = h.opened;
          plain = h.plain;
          others = h.others;
          worded = h.worded;
          parts = h.parts;
          fits = i.fits h.fits;
        };
        result = box_found x.number x.number (box, s) (find_closed st.history x.number) refl;
        within = omega (arith, number, count, opened, grown);
        new = constants_new t h.plain st.history st.count (box_of x []) (down_run t a.lines start st h.runs tt)
            (omega (arith, number, before));
        others = i.opens.others;
        over =
            inside_over_said t bs a.lines i.bls i.cls x hs i.line
            (Equation l r) st i.state h.runs i.opens i.grows i.says;
        supposed = i.opens.over st h.runs;
        parts = i.opens.parts;
        words = i.says.words;
      },
    )

pub close_grows : (a b c e d : Builder) (x : OpenBox) (hs : List Statement) (m n k : ℕ) (l r : Tree)
    → IsPushed c e (Inst m []) n → IsPushed e d Done k → Opens a b x hs → Grows b c → HasStatement c m (Equation l r)
    → Grows a d
close_grows a b c e d x hs m n k l r p q o g h =
    closes_grows a d x hs l r (record {
      inside = b;
      grown = c;
      again = e;
      line = m;
      first = n;
      last = k;
      opens = o;
      grows = g;
      says = h;
      repeats = p;
      closes = q;
    })

pub close_result : (a b c e d : Builder) (x : OpenBox) (hs : List Statement) (m n k : ℕ) (l r : Tree)
    → IsPushed c e (Inst m []) n → IsPushed e d Done k → Opens a b x hs → Grows b c → HasStatement c m (Equation l r)
    → HasResult d x hs (Equation l r)
close_result a b c e d x hs m n k l r p q o g h =
    closes_result a d x hs l r (record {
      inside = b;
      grown = c;
      again = e;
      line = m;
      first = n;
      last = k;
      opens = o;
      grows = g;
      says = h;
      repeats = p;
      closes = q;
    })

-- where a box isn't closed, perhaps its equation was said once more
pub unclosed : (a b c : Builder) (m n : ℕ) (l r : Tree) → IsPushed a b (Inst m []) n → c ≡ b
    → HasStatement a m (Equation l r) → Extends a c
unclosed a b c m n l r p e h = subst (Extends a) (sym e) (again_extends a b m n l r p h)

-- ---- results stay

closed_behind : (es h : List Event) (c n : ℕ) → All (IsBehind c) es → n ≤ c → find_closed (es ++ h) n ≡ find_closed h n
closed_behind [] h c n b le = refl
closed_behind (Said m s ∷ es) h c n b le = closed_behind es h c n (All-tail (IsBehind c) (Said m s) es b) le
closed_behind (Opened y ∷ es) h c n b le = absurd (All-head (IsBehind c) (Opened y) es b)
closed_behind (Closed y s ∷ es) h c n b le =
    let lt = All-head (IsBehind c) (Closed y s) es b in
    let further : n < y.number = omega (arith, lt, le) in
    not_this y.number n (y, s) (find_closed (es ++ h) n) further
    ∙ closed_behind es h c n (All-tail (IsBehind c) (Closed y s) es b) le
  where
    not_this : (m n : ℕ) (p : PlainBox × Statement) (o : Option (PlainBox × Statement)) → n < m
        → cond (m == n) (Some p) o ≡ o
    not_this m n p o lt = grind arith

pub grown_result : (a b : Builder) (x : OpenBox) (hs : List Statement) (s : Statement) → Grows a b → HasResult a x hs s
    → HasResult b x hs s
unfolding Grows HasResult
grown_result a b x hs s g (st, h) =
    let m = g.1.leads st h.stand.runs in
    let le = m.later in
    let within = h.within in
    let theory : theory_of a.theory m.state.history ≡ theory_of a.theory st.history =
    ap (theory_of a.theory) m.history ∙ theory_behind a.theory m.events st.history st.count m.behind in
    let bs = a.boxes ++ x ∷ [] in
    carried (λ u ys ls. (v : State) × ResultIn u ys ls v x hs s) a b g.0 (
      m.state,
      record {
        stand = later_stand a.theory a.boxes a.lines b.lines st h.stand g.1;
        result = ap (λ l. find_closed l x.number) m.history
            ∙ closed_behind m.events st.history st.count x.number m.behind h.within ∙ h.result;
        within = omega (arith, le, within);
        new = subst (λ u. AreNew u (operators_of (box_of x []))) (sym theory) h.new;
        others = h.others;
        over =
            subst (λ u. IsStatementOver (u.operators ++ operators_of (box_of x [])) (written_statement bs s))
            (sym theory) h.over;
        supposed =
            subst (λ u. All (λ q. IsStatementOver (u.operators ++ operators_of (box_of x [])) (written_statement bs q))
            hs)
            (sym theory) h.supposed;
        parts = h.parts;
        words = h.words;
      },
    )
