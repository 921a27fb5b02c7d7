-- A run keeps what was said derivable, so what an accepted certificate says is derivable.
use Rattle.std.proofs.Common.{◌≡◌, ℕ, suc, List, [], ◌∷◌, ◌++◌, map, All, Contains, Some, option_map, option_and_then}
use Rattle.std.proofs.Common.{subst, arith}
use Rattle.std.proofs.lemmas.Option.{option_and_then_some}
use Rattle.larch_base.proofs.Options.{some_inj}
use Rattle.larch_base.specs.ByNumber.{numbered}
use Rattle.larch_term.specs.Operator.{PlainOperator}
use Rattle.larch_term.specs.Statement.{IsStatementOver, IsWellSortedTheory}
use Rattle.larch_term.specs.declared.statement.Statement.{Statement}
use Rattle.larch_term.specs.declared.statement.Statement.TheVariants as statement
use Rattle.larch_term.specs.declared.statement.Theory.{Theory}
use Rattle.larch_verify_meaning.proofs.CalculusBoxes.{older_plain, older_later, older_less}
use Rattle.larch_verify_meaning.proofs.CalculusDerivedRules.{stated}
use Rattle.larch_verify_meaning.specs.CalculusBoxes.{IsOlder}
use Rattle.larch_verify_meaning.specs.CalculusDerivable.{Derivable, reflexive}
use Rattle.larch_verify_meaning.specs.CalculusRenaming.{HasPlainNames}
use Rattle.larch_certificate.specs.declared.line.BoxPart.{BoxPart}
use Rattle.larch_certificate.specs.declared.line.CodedEquation.{CodedEquation}
use Rattle.larch_certificate.specs.declared.line.Line.{Line}
use Rattle.larch_certificate.specs.declared.line.Line.TheVariants.{Axiom, Hyp, Row, Refl, Sym, Inst, Repl, Equal}
use Rattle.larch_certificate.specs.declared.line.Line.TheVariants.{BoxLine, Done, Fresh, Cases, Induct, Observe}
use Rattle.larch_certificate.specs.declared.line.Line.TheVariants.{Generated, Partitioned}
use Rattle.larch_verify_meaning.specs.Acceptance.{Accepts, last_statement}
use Rattle.larch_verify_meaning.specs.BoxRules.{freed_result, cases_of, induct_over}
use Rattle.larch_verify_meaning.specs.ClauseRules.{observed_equal, own_operators, generated_by, partitioned_by}
use Rattle.larch_verify_meaning.specs.Context.{theory_of, find_line, find_open, find_closed, innermost, find_symbol}
use Rattle.larch_verify_meaning.specs.Decoding.{each, decode, decode_equation, decode_binding}
use Rattle.larch_verify_meaning.specs.Events.{PlainBox, operators_of, Event, Said, Opened, Closed, State, start}
use Rattle.larch_verify_meaning.specs.Matching.{all_different, variable_of}
use Rattle.larch_verify_meaning.specs.Rules.{exchange_sides, instance_by, replaced_variable, replace_right}
use Rattle.larch_verify_meaning.specs.Rules.{stated_equal}
use Rattle.larch_verify_meaning.specs.Run.{judge, box_opens, done_closes, happens, step, run}
use Rattle.larch_verify_law.proofs.BoxRules.{fresh_derivable, cases_derivable, inducted_derivable}
use Rattle.larch_verify_law.proofs.ClauseRules.{observed_derivable, generated_derivable, partitioned_derivable}
use Rattle.larch_verify_law.proofs.Contexts.{inside, own_operator, own_statement, open_hypothesis, symbol_known, Holds}
use Rattle.larch_verify_law.proofs.Contexts.{context_well_sorted, line_derivable, closed_shows, innermost_is, no_box}
use Rattle.larch_verify_law.proofs.Contexts.{older_inside, box_new}
use Rattle.larch_verify_law.proofs.Decoded.{decoded, equation_decoded, IsEntryOver, binding_decoded}
use Rattle.larch_verify_law.proofs.Rules.{axiom_derivable, row_derivable, exchanged_derivable, instance_derivable}
use Rattle.larch_verify_law.proofs.Rules.{replaced_derivable, stated_derivable}
use Rattle.larch_verify_law.proofs.Told.{option_map_some, cond_then, each_told, numbered_contains}

-- operators with numbers of the theory's own are there in each context
all_own : (t : Theory) (h : List Event) (ks : List ℕ) (fs : List PlainOperator) → own_operators t ks ≡ Some fs
    → All (λ f. Contains (theory_of t h).operators f) fs
all_own t h ks fs e =
    each_told (numbered t.operators) (λ f. Contains (theory_of t h).operators f)
    (λ k f p. own_operator t h f (numbered_contains t.operators k f p)) ks fs e

-- what a line says where all that was said is derivable is derivable
pub judged : (t : Theory) → IsWellSortedTheory t → (h : List Event) → Holds t h → (line : Line) (s : Statement)
    → judge t h line ≡ Some s → Derivable (theory_of t h) s
judged t w h g (Axiom k) s e =
    axiom_derivable t (theory_of t h) (context_well_sorted t w h g) (own_statement t h) k s e
judged t w h g (Hyp b k) s e =
    option_and_then_some (λ box. numbered box.hypotheses k) (find_open h b) s e
    (λ box p q. stated (theory_of t h) s (context_well_sorted t w h g)
    (open_hypothesis t h b box p s (numbered_contains box.hypotheses k s q)))
judged t w h g (Row k z) s e = row_derivable (theory_of t h) k z s e
judged t w h g (Refl c) s e =
    option_map_some (λ a. statement.Equation a a) (decode (find_symbol t h) c) s e
    (λ a p q. subst (Derivable (theory_of t h)) q
    (reflexive (decoded (find_symbol t h) (theory_of t h).operators (symbol_known t h) c a p)))
judged t w h g (Sym m) s e =
    option_and_then_some exchange_sides (find_line h m) s e
    (λ r p q. exchanged_derivable (theory_of t h) r s (line_derivable t w h g m r p) q)
judged t w h g (Inst m bs) s e =
    let find = find_symbol t h in
    let c = cond_then (all_different (map replaced_variable bs))
    (option_and_then (λ es. option_and_then (instance_by es) (find_line h m)) (each (decode_binding find) bs)) s e in
    option_and_then_some (λ es. option_and_then (instance_by es) (find_line h m)) (each (decode_binding find) bs) s c.1
    (λ es p q. option_and_then_some (instance_by es) (find_line h m) s q
    (λ r i j. instance_derivable (theory_of t h) es
    (each_told (decode_binding find) (IsEntryOver (theory_of t h).operators)
    (binding_decoded find (theory_of t h).operators (symbol_known t h)) bs es p)
    r s (line_derivable t w h g m r i) j))
judged t w h g (Repl m p k) s e =
    option_and_then_some (λ r. option_and_then (replace_right p r) (find_line h k)) (find_line h m) s e
    (λ r i j. option_and_then_some (replace_right p r) (find_line h k) s j
    (λ q x y. replaced_derivable (theory_of t h) p r q s (line_derivable t w h g m r i)
    (line_derivable t w h g k q x) y))
judged t w h g (Equal m) s e =
    option_and_then_some stated_equal (find_line h m) s e
    (λ r p q. stated_derivable (theory_of t h) r s (line_derivable t w h g m r p) q)
judged t w h g (BoxLine ps es) s e = cc
judged t w h g Done s e = cc
judged t w h g (Fresh b vs) s e =
    option_and_then_some (λ c. freed_result c.0 c.1 (map variable_of vs)) (find_closed h b) s e
    (λ c p q. fresh_derivable (theory_of t h) c.0 c.1 (map variable_of vs) s (closed_shows t h g b c p) q)
judged t w h g (Cases b c) s e =
    option_and_then_some (λ d. option_and_then (cases_of d) (find_closed h c)) (find_closed h b) s e
    (λ d p q. option_and_then_some (cases_of d) (find_closed h c) s q
    (λ f i j. cases_derivable (theory_of t h) d f s (closed_shows t h g b d p) (closed_shows t h g c f i) j))
judged t w h g (Induct m x c bs) s e =
    let find = find_symbol t h in
    option_and_then_some (λ r. option_and_then (induct_over h x bs r) (find_line h m)) (decode_equation find c) s e
    (λ r p q. option_and_then_some (induct_over h x bs r) (find_line h m) s q
    (λ d i j. inducted_derivable (theory_of t h) h (closed_shows t h g) x bs r d s
    (equation_decoded find (theory_of t h).operators (symbol_known t h) c r p) (line_derivable t w h g m d i) j))
judged t w h g (Observe m c ns) s e =
    let find = find_symbol t h in
    option_and_then_some (λ r. option_and_then (observed_equal h ns r) (find_line h m)) (decode_equation find c) s e
    (λ r p q. option_and_then_some (observed_equal h ns r) (find_line h m) s q
    (λ d i j. observed_derivable (theory_of t h) h (line_derivable t w h g) ns r d s
    (equation_decoded find (theory_of t h).operators (symbol_known t h) c r p) (line_derivable t w h g m d i) j))
judged t w h g (Generated b z ks) s e =
    option_and_then_some (λ c. option_and_then (generated_by z c) (own_operators t ks)) (find_closed h b) s e
    (λ c p q. option_and_then_some (generated_by z c) (own_operators t ks) s q
    (λ fs i j. generated_derivable (theory_of t h) z c fs s (all_own t h ks fs i) (closed_shows t h g b c p) j))
judged t w h g (Partitioned b z ks) s e =
    option_and_then_some (λ c. option_and_then (partitioned_by z c) (own_operators t ks)) (find_closed h b) s e
    (λ c p q. option_and_then_some (partitioned_by z c) (own_operators t ks) s q
    (λ fs i j. partitioned_derivable (theory_of t h) z c fs s (all_own t h ks fs i) (closed_shows t h g b c p) j))

-- what holds of a state: what was said is derivable, and no operator is of a box with a greater number
pub record Stands (t : Theory) (count : ℕ) (h : List Event) : Type 0 where
  pub holds : Holds t h
  pub older : IsOlder count (theory_of t h)

said_stands : (t : Theory) (n : ℕ) (h : List Event) → IsWellSortedTheory t → Stands t n h → (line : Line)
    → (k : List Event) → option_map (λ s. Said (suc n) s ∷ h) (judge t h line) ≡ Some k → Stands t (suc n) k
said_stands t n h w g line k e =
    option_map_some (λ s. Said (suc n) s ∷ h) (judge t h line) k e
    (λ s p q. subst (Stands t (suc n)) q
    (record {
      holds = (judged t w h g.holds line s p, g.holds);
      older = older_later n (suc n) (theory_of t h) g.older (omega arith);
    }))

box_stands : (t : Theory) (n : ℕ) (h : List Event) → Stands t n h → (ps : List BoxPart) (es : List CodedEquation)
    → (k : List Event) → box_opens t h (suc n) ps es ≡ Some k → Stands t (suc n) k
box_stands t n h g ps es k e =
    let bare : PlainBox = record { number = suc n; parts = ps; hypotheses = [] } in
    let find = find_symbol t (Opened bare ∷ h) in
    let full : List Statement → PlainBox = λ hs. record { number = suc n; parts = ps; hypotheses = hs } in
    option_map_some (λ hs. Opened (full hs) ∷ h) (each (decode_equation find) es) k e
    (λ hs p q. subst (Stands t (suc n)) q
    (record {
      holds = (
        record {
          new = box_new n (full hs) (theory_of t h) (omega arith) g.older;
          sorted = each_told (decode_equation find) (IsStatementOver ((theory_of t h).operators ++ operators_of bare))
              (equation_decoded find ((theory_of t h).operators ++ operators_of bare)
              (symbol_known t (Opened bare ∷ h))) es hs p;
        },
        g.holds,
      );
      older = older_inside n (full hs) (theory_of t h) g.older (omega arith);
    }))

done_stands : (t : Theory) (n : ℕ) (h : List Event) → Stands t n h → (k : List Event) → done_closes h ≡ Some k
    → Stands t (suc n) k
done_stands t n [] g k e = cc
done_stands t n (Said m s ∷ h) g k e =
    option_map_some (λ p. Closed p.0 s ∷ p.1) (innermost h) k e
    (λ p i q.
    let in_box = innermost_is t h g.holds.1 p i in
    subst (Stands t (suc n)) q
    (record {
      holds = (
        record {
          proper = in_box.proper;
          derivable = subst (λ u. Derivable u s) in_box.theory g.holds.0;
        },
        in_box.holds,
      );
      older = older_later n (suc n) (theory_of t p.1)
          (older_less n (operators_of p.0) p.0.hypotheses (theory_of t p.1) (subst (IsOlder n) in_box.theory g.older))
          (omega arith);
    }))
done_stands t n (Opened b ∷ h) g k e = cc
done_stands t n (Closed b s ∷ h) g k e = cc

happened : (t : Theory) (n : ℕ) (h : List Event) → IsWellSortedTheory t → Stands t n h → (line : Line)
    → (k : List Event) → happens t h (suc n) line ≡ Some k → Stands t (suc n) k
happened t n h w g (BoxLine ps es) k e = box_stands t n h g ps es k e
happened t n h w g Done k e = done_stands t n h g k e
happened t n h w g (Axiom i) k e = said_stands t n h w g (Axiom i) k e
happened t n h w g (Hyp b i) k e = said_stands t n h w g (Hyp b i) k e
happened t n h w g (Row i z) k e = said_stands t n h w g (Row i z) k e
happened t n h w g (Refl c) k e = said_stands t n h w g (Refl c) k e
happened t n h w g (Sym m) k e = said_stands t n h w g (Sym m) k e
happened t n h w g (Inst m bs) k e = said_stands t n h w g (Inst m bs) k e
happened t n h w g (Repl m p i) k e = said_stands t n h w g (Repl m p i) k e
happened t n h w g (Equal m) k e = said_stands t n h w g (Equal m) k e
happened t n h w g (Fresh b vs) k e = said_stands t n h w g (Fresh b vs) k e
happened t n h w g (Cases b c) k e = said_stands t n h w g (Cases b c) k e
happened t n h w g (Induct m x c bs) k e = said_stands t n h w g (Induct m x c bs) k e
happened t n h w g (Observe m c ns) k e = said_stands t n h w g (Observe m c ns) k e
happened t n h w g (Generated b z ks) k e = said_stands t n h w g (Generated b z ks) k e
happened t n h w g (Partitioned b z ks) k e = said_stands t n h w g (Partitioned b z ks) k e

-- a line that isn't bad keeps it so, and so do all lines of a run
pub step_stands : (t : Theory) → IsWellSortedTheory t → (st next : State) (line : Line) → step t st line ≡ Some next
    → Stands t st.count st.history → Stands t next.count next.history
step_stands t w st next line e g =
    option_map_some (λ h. record { count = suc st.count; history = h })
    (happens t st.history (suc st.count) line) next e
    (λ k p q. subst (λ u. Stands t u.count u.history) q (happened t st.count st.history w g line k p))

pub run_stands : (t : Theory) → IsWellSortedTheory t → (lines : List Line) (st last : State)
    → run t st lines ≡ Some last → Stands t st.count st.history → Stands t last.count last.history
run_stands t w [] st last e g = subst (λ u. Stands t u.count u.history) (some_inj e) g
run_stands t w (line ∷ lines) st last e g =
    option_and_then_some (λ next. run t next lines) (step t st line) last e
    (λ next p q. run_stands t w lines next last q (step_stands t w st next line p g))

last_derivable : (t : Theory) (h : List Event) (s : Statement) → Holds t h → last_statement h ≡ Some s
    → Derivable (theory_of t h) s
last_derivable t [] s g e = cc
last_derivable t (Said n r ∷ h) s g e = subst (Derivable (theory_of t h)) (some_inj e) g.0
last_derivable t (Opened b ∷ h) s g e = cc
last_derivable t (Closed b r ∷ h) s g e = cc

-- the law
pub accepted_derivable : (t : Theory) (s : Statement) (lines : List Line) → IsWellSortedTheory t → HasPlainNames t
    → Accepts t s lines → Derivable t s
accepted_derivable t s lines w n a =
    let g = run_stands t w lines start a.state a.none_bad (record { holds = tt; older = older_plain 0 t n }) in
    subst (λ u. Derivable u s) (no_box t a.state.history a.closed) (last_derivable t a.state.history s g.holds a.last)

-- the end of a run from the start stands
end_stands : (t : Theory) (lines : List Line) (last : State) → IsWellSortedTheory t → HasPlainNames t
    → run t start lines ≡ Some last → Stands t last.count last.history
end_stands t lines last w n e = run_stands t w lines start last e (record { holds = tt; older = older_plain 0 t n })

pub context_sorted : (t : Theory) (lines : List Line) (last : State) → IsWellSortedTheory t → HasPlainNames t
    → run t start lines ≡ Some last → IsWellSortedTheory (theory_of t last.history)
context_sorted t lines last w n e = context_well_sorted t w last.history (end_stands t lines last w n e).holds

pub named_derivable : (t : Theory) (lines : List Line) (last : State) (m : ℕ) (s : Statement) → IsWellSortedTheory t
    → HasPlainNames t → run t start lines ≡ Some last → find_line last.history m ≡ Some s
    → Derivable (theory_of t last.history) s
named_derivable t lines last m s w n e f =
    line_derivable t w last.history (end_stands t lines last w n e).holds m s f

pub result_derivable : (t : Theory) (lines : List Line) (last : State) (m : ℕ) (c : PlainBox × Statement)
    → IsWellSortedTheory t → HasPlainNames t → run t start lines ≡ Some last → find_closed last.history m ≡ Some c
    → Derivable (inside (theory_of t last.history) c.0) c.1
result_derivable t lines last m c w n e f =
    (closed_shows t last.history (end_stands t lines last w n e).holds m c f).derivable
