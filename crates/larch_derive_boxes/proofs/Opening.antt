-- Opening a box: the lines lead inside, and what was said and known outside is said and known inside.
use Rattle.std.proofs.Common.{◌≡◌, ◌-◌, ℕ, suc, List, [], ◌∷◌, ◌++◌, map, All, Some, None, bytes_eq, refl, sym, ◌∙◌, ap}
use Rattle.std.proofs.Common.{subst, arith}
use Rattle.std.specs.Option.{option_map, option_and_then}
use Rattle.std.proofs.lemmas.Bool.{cond-true}
use Rattle.std.proofs.lemmas.List.{map-append}
use Rattle.std.proofs.lemmas.List.Elements.{All-head, All-tail, All-push, All-weaker}
use Rattle.std.proofs.lemmas.Slice.Eq.{bytes_eq-Decides}
use Rattle.larch_term.specs.Operator.{PlainOperator}
use Rattle.larch_term.specs.Sorts.{sort_of}
use Rattle.larch_term.specs.Statement.{IsStatementOver}
use Rattle.larch_term.specs.Tree.{Tree, var, app}
use Rattle.larch_term.specs.declared.statement.Statement.{Statement}
use Rattle.larch_term.specs.declared.statement.Statement.TheVariants.{Equation, Generated, Partitioned}
use Rattle.larch_term.specs.declared.statement.Theory.{Theory}
use Rattle.larch_verify_law.specs.CalculusRenaming.{HasPlainNames}
use Rattle.larch_certificate.specs.declared.line.CodedEquation.{CodedEquation}
use Rattle.larch_certificate.specs.declared.line.Line.{Line}
use Rattle.larch_certificate.specs.declared.line.Line.TheVariants.{BoxLine}
use Rattle.larch_derive.specs.CertificateTextCertificateText.{Writable}
use Rattle.larch_derive.specs.CertificateTextLineText.{FitLine}
use Rattle.larch_derive.specs.CertificateTextParts.{IsSmall}
use Rattle.larch_verify_law.specs.VerifyMeaningContext.{theory_of, find_symbol}
use Rattle.larch_verify_law.specs.VerifyMeaningDecoding.{each, decode, decode_equation, equation_between}
use Rattle.larch_verify_law.specs.VerifyMeaningEvents.{Event, Opened, State, start}
use Rattle.larch_verify_law.specs.VerifyMeaningRun.{run}
use Rattle.larch_derive.specs.declared.builder.Builder.{Builder}
use Rattle.larch_derive.specs.declared.open_box.OpenBox.{OpenBox}
use Rattle.larch_derive.specs.Builder.{IsOpened, part_for, shape_of}
use Rattle.larch_derive.specs.Coding.{AreCodesOfEquations}
use Rattle.larch_derive.specs.Predicates.{AreOthers, written_term, written_statement, StandIn, KnownIn, SaysIn}
use Rattle.larch_derive.specs.Predicates.{HasNoBadLine, Known, HasStatement}
use Rattle.larch_derive.proofs.Decoding.{written_means}
use Rattle.larch_derive.proofs.Growth.{run_further}
use Rattle.larch_derive.proofs.Pushing.{one_state}
use Rattle.larch_derive.proofs.Runs.{GoDown, run_count, down_run}
use Rattle.larch_derive.proofs.Words.{further_fits}
use Rattle.larch_derive.specs.Words.{AreWordedOperators, IsWordedStatement, AreWordedStatements}
use Rattle.larch_derive_boxes.specs.Boxes.{box_of, operators_inside, IsEquation, MaySuppose, OpensIn, Opens}
use Rattle.larch_derive_boxes.proofs.Renaming.{inside_statement, inside_over}
use Rattle.larch_derive_boxes.proofs.Words.{equations_fit, parts_fit}

-- ---- hypotheses

abbrev pub IsSupposed : List PlainOperator → List OpenBox → Statement → Type 0
IsSupposed fs bs s = IsEquation s × IsStatementOver fs (written_statement bs s)

pub between : (l r : Tree) → sort_of l ≡ sort_of r → equation_between l r ≡ Some (Equation l r)
between l r e =
    cond-true (bytes_eq (sort_of l) (sort_of r)) (Some (Equation l r)) None
    ((bytes_eq-Decides (sort_of l) (sort_of r)).1 e)

equations_mean : (t : Theory) → HasPlainNames t → (h : List Event) (c : ℕ) (bs : List OpenBox) → GoDown c h
    → (hs : List Statement) (es : List CodedEquation) → AreCodesOfEquations bs t.operators hs es
    → All (IsSupposed (theory_of t h).operators bs) hs
    → each (decode_equation (find_symbol t h)) es ≡ Some (map (written_statement bs) hs)
equations_mean t p h c bs g [] [] d w = refl
equations_mean t p h c bs g [] (e ∷ es) d w = absurd d
equations_mean t p h c bs g (Equation l r ∷ hs) [] d w = absurd d
equations_mean t p h c bs g (Equation l r ∷ hs) (e ∷ es) d w =
    let P : Statement → Type 0 = IsSupposed (theory_of t h).operators bs in
    let here = (All-head P (Equation l r) hs w).1 in
    let find = find_symbol t h in
    ap (option_and_then (λ y. option_map (λ ys. y ∷ ys) (each (decode_equation find) es)))
    (ap (option_and_then (λ x. option_and_then (equation_between x) (decode find e.right)))
    (written_means t p h c bs g l e.left d.0 here.0)
    ∙ ap (option_and_then (equation_between (written_term bs l))) (written_means t p h c bs g r e.right d.1 here.1)
    ∙ between (written_term bs l) (written_term bs r) here.2)
    ∙ ap (option_map (λ ys. Equation (written_term bs l) (written_term bs r) ∷ ys))
    (equations_mean t p h c bs g hs es d.2 (All-tail P (Equation l r) hs w))
equations_mean t p h c bs g (Generated s fs ∷ hs) es d w =
    absurd ((All-head (IsSupposed (theory_of t h).operators bs) (Generated s fs) hs w).0)
equations_mean t p h c bs g (Partitioned s fs ∷ hs) es d w =
    absurd ((All-head (IsSupposed (theory_of t h).operators bs) (Partitioned s fs) hs w).0)

-- ---- the box line

inside_down : (c : ℕ) (h : List Event) (x : OpenBox) → x.number ≡ suc c → GoDown c h
    → GoDown x.number (Opened (box_of x []) ∷ h)
inside_down c h x e g =
    (omega (arith, e), omega arith, subst (λ k. GoDown k h) (let z : c ≡ x.number - 1 = omega (arith, e) in z) g)

box_runs : (t : Theory) → HasPlainNames t → (st : State) (bs : List OpenBox) (x : OpenBox) (hs : List Statement)
    (es : List CodedEquation) → x.number ≡ suc st.count → GoDown st.count st.history
    → AreCodesOfEquations bs t.operators hs es → All (IsSupposed (operators_inside t st.history x) bs) hs
    → run t st (BoxLine (map part_for x.constants) es ∷ [])
    ≡ Some (record { count = suc st.count; history = Opened (box_of x (map (written_statement bs) hs)) ∷ st.history })
box_runs t p st bs x hs es e g d w =
    let h = st.history in
    let ps = map part_for x.constants in
    let means = equations_mean t p (Opened (box_of x []) ∷ h) x.number bs (inside_down st.count h x e g) hs es d w in
    let at : each (decode_equation
    (find_symbol t (Opened (record { number = suc st.count; parts = ps; hypotheses = [] }) ∷ h))) es
    ≡ Some (map (written_statement bs) hs) =
    subst (λ k. each (decode_equation (find_symbol t (Opened (record { number = k; parts = ps; hypotheses = [] }) ∷ h)))
    es
    ≡ Some (map (written_statement bs) hs)) e means in
    ap (λ o. option_and_then (λ u. run t u []) (option_map (λ k. record { count = suc st.count; history = k })
    (option_map (λ qs. Opened (record { number = suc st.count; parts = ps; hypotheses = qs }) ∷ h) o))) at
    ∙ ap (λ k. Some (record {
      count = suc st.count;
      history = Opened (record { number = k; parts = ps; hypotheses = map (written_statement bs) hs }) ∷ h;
    })) (sym e)

supposed_in : (a : Builder) (st : State) (x : OpenBox) → StandIn a.theory a.boxes a.lines st → (hs : List Statement)
    → All (MaySuppose a x) hs → All (IsSupposed (operators_inside a.theory st.history x) (a.boxes ++ x ∷ [])) hs
unfolding MaySuppose
supposed_in a st x h hs w =
    All-weaker (MaySuppose a x) (IsSupposed (operators_inside a.theory st.history x) (a.boxes ++ x ∷ []))
    (λ s q. (
      q.1.equation,
      subst (λ z. IsStatementOver (operators_inside a.theory z.history x) (written_statement (a.boxes ++ x ∷ []) s))
          (one_state a.theory a.lines st q.0 h.runs q.1.stand.runs) q.1.over,
    )) hs w

supposed_worded : (a : Builder) (x : OpenBox) (hs : List Statement) → All (MaySuppose a x) hs → AreWordedStatements hs
unfolding MaySuppose
supposed_worded a x hs w = All-weaker (MaySuppose a x) IsWordedStatement (λ s q. q.1.words) hs w

opened_fits : (a b : Builder) (n : ℕ) (cs : List PlainOperator) (hs : List Statement) → IsOpened a b cs hs n
    → AreWordedOperators cs → AreWordedStatements hs → Writable a.lines → Writable b.lines
opened_fits a b n cs hs p ws k w =
    subst Writable (sym p.lines)
    (further_fits a.lines p.line (subst IsSmall p.number p.small)
    (subst FitLine (sym p.says.1) (parts_fit cs ws, equations_fit b.boxes a.theory.operators hs p.says.0 p.says.2 k)) w)

pub opens : (a b : Builder) (n : ℕ) (cs : List PlainOperator) (hs : List Statement) → IsOpened a b cs hs n
    → HasNoBadLine a
    → AreOthers a.theory cs → All (MaySuppose a (record { number = n; constants = cs })) hs → AreWordedOperators cs
    → Opens a b (record { number = n; constants = cs }) hs
unfolding HasNoBadLine Opens
opens a b n cs hs p (st, h) o w ws =
    let x : OpenBox = record { number = n; constants = cs } in
    let bs = a.boxes ++ x ∷ [] in
    record {
      stands = (st, h);
      theory = p.theory;
      boxes = p.boxes;
      box = record {
        line = p.line;
        lines = p.lines;
        number = p.number;
        others = o;
        parts = ws;
        words = supposed_worded a x hs w;
        fits = opened_fits a b n cs hs p ws (supposed_worded a x hs w);
        leads = λ u r.
            let same = one_state a.theory a.lines u st r h.runs in
            let k : StandIn a.theory a.boxes a.lines u = subst (StandIn a.theory a.boxes a.lines) same h in
            let count = run_count a.theory a.lines start u r in
            let number = p.number in
            let new : n ≡ suc u.count = omega (arith, count, number) in
            ap (λ l. run a.theory u (l ∷ [])) p.says.1
            ∙ box_runs a.theory k.plain u bs x hs p.says.0 new (down_run a.theory a.lines start u r tt)
            (subst (λ y. AreCodesOfEquations y a.theory.operators hs p.says.0) p.boxes p.says.2)
            (supposed_in a u x k hs w);
        over = λ u r.
            let same = one_state a.theory a.lines u st r h.runs in
            let k : StandIn a.theory a.boxes a.lines u = subst (StandIn a.theory a.boxes a.lines) same h in
            All-weaker (IsSupposed (operators_inside a.theory u.history x) bs)
            (λ s. IsStatementOver (operators_inside a.theory u.history x) (written_statement bs s)) (λ s q. q.1) hs
            (supposed_in a u x k hs w);
      };
    }

-- ---- what may be supposed

pub may_suppose : (a : Builder) (x : OpenBox) (l r : Tree) → AreOthers a.theory x.constants → Known a l → Known a r
    → sort_of l ≡ sort_of r → MaySuppose a x (Equation l r)
unfolding Known MaySuppose
may_suppose a x l r o (st, k) (su, m) e =
    let n = subst (λ z. KnownIn a.theory a.boxes a.lines z r)
    (one_state a.theory a.lines st su k.stand.runs m.stand.runs) m in
    let bs = a.boxes in (
      st,
      record {
        stand = k.stand;
        equation = tt;
        over = inside_over a.theory k.stand.plain st.history st.count bs x
            (down_run a.theory a.lines start st k.stand.runs tt) o (Equation l r)
            (k.over, n.over, sort_written bs l ∙ e ∙ sym (sort_written bs r));
        words = (k.words, n.words);
      },
    )
  where
    sort_written : (bs : List OpenBox) (t : Tree) → sort_of (written_term bs t) ≡ sort_of t
    sort_written bs (var n s) = refl
    sort_written bs (app f ts) = refl

-- ---- inside

pub stand_inside : (t : Theory) (bs : List OpenBox) (ls ks : List Line) (st : State) (x : OpenBox) (hs : List Statement)
    → StandIn t bs ls st → OpensIn t bs ls ks x hs
    → StandIn t (bs ++ x ∷ []) ks (record {
      count = suc st.count;
      history = Opened (box_of x (map (written_statement (bs ++ x ∷ [])) hs)) ∷ st.history;
    })
stand_inside t bs ls ks st x hs h o =
    record {
      runs = ap (run t start) o.lines ∙ run_further t start st (record {
        count = suc st.count;
        history = Opened (box_of x (map (written_statement (bs ++ x ∷ [])) hs)) ∷ st.history;
      }) ls (o.line ∷ []) h.runs (o.leads st h.runs);
      opened = ap (λ y. y ++ shape_of x ∷ []) h.opened ∙ sym (map-append shape_of bs (x ∷ []));
      plain = h.plain;
      others = All-push (λ y. AreOthers t y.constants) bs x h.others o.others;
      worded = h.worded;
      parts = All-push (λ y. AreWordedOperators y.constants) bs x h.parts o.parts;
      fits = o.fits h.fits;
    }

pub moved : (F : Theory → List OpenBox → List Line → Type 0) (a b : Builder) (x : OpenBox) → b.theory ≡ a.theory
    → b.boxes ≡ a.boxes ++ x ∷ [] → F a.theory (a.boxes ++ x ∷ []) b.lines → F b.theory b.boxes b.lines
moved F a b x e d f =
    subst (λ t. F t b.boxes b.lines) (sym e) (subst (λ bs. F a.theory bs b.lines) (sym d) f)

pub opened_said : (a b : Builder) (x : OpenBox) (hs : List Statement) (n : ℕ) (s : Statement) → Opens a b x hs
    → HasStatement a n s → HasStatement b n s
unfolding Opens HasStatement
opened_said a b x hs n s o (st, h) =
    let t = a.theory in
    let bs = a.boxes in
    let down = down_run t a.lines start st h.stand.runs tt in
    let le = h.within in
    moved (λ u ys ls. (v : State) × SaysIn u ys ls v n s) a b x o.theory o.boxes (
      record {
        count = suc st.count;
        history = Opened (box_of x (map (written_statement (bs ++ x ∷ [])) hs)) ∷ st.history;
      },
      record {
        stand = stand_inside t bs a.lines b.lines st x hs h.stand o.box;
        says = h.says ∙ ap Some (inside_statement t h.stand.plain st.history st.count bs x down o.box.others s h.over);
        within = omega (arith, le);
        over = inside_over t h.stand.plain st.history st.count bs x down o.box.others s h.over;
        words = h.words;
      },
    )

pub opened_stands : (a b : Builder) (x : OpenBox) (hs : List Statement) → Opens a b x hs → HasNoBadLine b
unfolding Opens HasNoBadLine
opened_stands a b x hs o =
    moved (λ u ys ls. (v : State) × StandIn u ys ls v) a b x o.theory o.boxes (
      record {
        count = suc o.stands.0.count;
        history = Opened (box_of x (map (written_statement (a.boxes ++ x ∷ [])) hs)) ∷ o.stands.0.history;
      },
      stand_inside a.theory a.boxes a.lines b.lines o.stands.0 x hs o.stands.1 o.box,
    )

pub opened_boxes : (a b : Builder) (x : OpenBox) (hs : List Statement) → Opens a b x hs
    → (b.theory ≡ a.theory) × (b.boxes ≡ a.boxes ++ x ∷ [])
unfolding Opens
opened_boxes a b x hs o = (o.theory, o.boxes)

pub opened_known : (a b : Builder) (x : OpenBox) (hs : List Statement) (t : Tree) → Opens a b x hs
    → Known a t → Known b t
unfolding Opens Known
opened_known a b x hs t o (st, k) =
    let u = a.theory in
    let bs = a.boxes in
    let down = down_run u a.lines start st k.stand.runs tt in
    moved (λ y ys ls. (v : State) × KnownIn y ys ls v t) a b x o.theory o.boxes (
      record {
        count = suc st.count;
        history = Opened (box_of x (map (written_statement (bs ++ x ∷ [])) hs)) ∷ st.history;
      },
      record {
        stand = stand_inside u bs a.lines b.lines st x hs k.stand o.box;
        over = (inside_over u k.stand.plain st.history st.count bs x down o.box.others (Equation t t)
            (k.over, k.over, refl)).0;
        words = k.words;
      },
    )
