-- What the last line says where no box is open is what the certificate is accepted for.
use Rattle.std.proofs.Common.{◌≡◌, ◌≤◌, ◌<◌, ◌-◌, ◌==◌, ℕ, suc, false, cond, List, [], ◌∷◌, ◌++◌, map, length, All}
use Rattle.std.proofs.Common.{Contains}
use Rattle.std.proofs.Common.{Option, Some, None, refl, sym, ◌∙◌, ap, subst, arith}
use Rattle.std.specs.Option.{option_map, option_map_or}
use Rattle.std.proofs.lemmas.List.{length-append}
use Rattle.std.proofs.lemmas.Option.{option_and_then_some}
use Rattle.std.proofs.lemmas.List.Elements.{All-head, All-tail}
use Rattle.larch_term.proofs.BaseOptions.{some_inj}
use Rattle.larch_term.specs.Operator.{PlainOperator}
use Rattle.larch_term.specs.Sorts.{IsKnown, IsOver, AllOver}
use Rattle.larch_term.specs.Statement.{IsStatementOver}
use Rattle.larch_term.specs.Tree.{Tree, Forest, var, app, none, more}
use Rattle.larch_term.specs.declared.statement.Statement.{Statement}
use Rattle.larch_term.specs.declared.statement.Statement.TheVariants.{Equation, Generated, Partitioned}
use Rattle.larch_term.specs.declared.statement.Theory.{Theory}
use Rattle.larch_verify_meaning.specs.RenamingRenaming.{renamed_all}
use Rattle.larch_verify_meaning.specs.CalculusRenaming.{HasPlainNames}
use Rattle.larch_certificate_text.specs.CertificateLineBoxPart.{BoxPart}
use Rattle.larch_certificate_text.specs.CertificateLineCodedEquation.{CodedEquation}
use Rattle.larch_certificate_text.specs.CertificateLineLine.{Line}
use Rattle.larch_certificate_text.specs.CertificateLineLine.TheVariants.{Axiom, Hyp, Row, Refl, Sym, Inst, Repl, Equal}
use Rattle.larch_certificate_text.specs.CertificateLineLine.TheVariants.{BoxLine, Done, Fresh, Cases, Induct, Observe}
use Rattle.larch_certificate_text.specs.CertificateLineLine.TheVariants.{Generated as GeneratedLine}
use Rattle.larch_certificate_text.specs.CertificateLineLine.TheVariants.{Partitioned as PartitionedLine}
use Rattle.larch_verify_meaning.specs.Acceptance.{Accepts, last_statement}
use Rattle.larch_verify_meaning.specs.Context.{theory_of, find_line, find_symbol, innermost}
use Rattle.larch_verify_meaning.specs.Decoding.{each, decode_equation}
use Rattle.larch_verify_meaning.specs.Events.{PlainBox, Event, Said, Opened, Closed, State, start}
use Rattle.larch_verify_meaning.specs.LastLine.{is_clause, states_clause, ends_with_stated_clause}
use Rattle.larch_verify_meaning.specs.LastLine.{EndsWithoutStatedClause}
use Rattle.larch_verify_meaning.specs.Rules.{axiom_says}
use Rattle.larch_verify_meaning.specs.Run.{judge, happens, done_closes, box_opens, run, step}
use Rattle.larch_derive.specs.declared.builder.Builder.{Builder}
use Rattle.larch_derive.specs.OpenBox.{in_lines, naming}
use Rattle.larch_derive.specs.Predicates.{shapes_of, written_term, written_statement, SaysIn, HasStatement}
use Rattle.larch_derive.specs.Finished.{IsFinished}
use Rattle.larch_derive.specs.Builder.{IsPushed}
use Rattle.larch_derive.proofs.Decoding.{known_plain, stays_in_lines}
use Rattle.larch_derive.proofs.Growth.{said_stands}
use Rattle.larch_derive.proofs.Words.{writable}
use Rattle.larch_derive.proofs.Runs.{mapped_some, run_count}

-- ---- no box

not_nothing : {X : Type 0} (xs : List X) (y : X) → xs ++ y ∷ [] ≡ [] → ⊥
not_nothing [] y e = cc
not_nothing (x ∷ xs) y e = cc

none_open : (h : List Event) → shapes_of h ≡ [] → innermost h ≡ None
none_open [] e = refl
none_open (Said n s ∷ h) e = none_open h e
none_open (Opened b ∷ h) e = absurd (not_nothing (shapes_of h) (b.number, b.parts) e)
none_open (Closed b s ∷ h) e = none_open h e

own_theory : (t : Theory) (h : List Event) → shapes_of h ≡ [] → theory_of t h ≡ t
own_theory t [] e = refl
own_theory t (Said n s ∷ h) e = own_theory t h e
own_theory t (Opened b ∷ h) e = absurd (not_nothing (shapes_of h) (b.number, b.parts) e)
own_theory t (Closed b s ∷ h) e = own_theory t h e

-- ---- the last line

-- lines that said something have at most a number
abbrev SaidUpTo : ℕ → List Event → Type 0
SaidUpTo c [] = Unit {0}
SaidUpTo c (Said n s ∷ h) = (n ≤ c) × SaidUpTo c h
SaidUpTo c (Opened b ∷ h) = SaidUpTo c h
SaidUpTo c (Closed b s ∷ h) = SaidUpTo c h

-- and the newest event is of the line with the number
abbrev Ends : ℕ → List Event → Type 0
Ends c [] = Unit {0}
Ends c (Said n s ∷ h) = (n ≡ c) × SaidUpTo c h
Ends c (Opened b ∷ h) = (0 < c) × SaidUpTo (c - 1) h
Ends c (Closed b s ∷ h) = (0 < c) × SaidUpTo (c - 1) h

up_later : (c d : ℕ) → c ≤ d → (h : List Event) → SaidUpTo c h → SaidUpTo d h
up_later c d le [] g = tt
up_later c d le (Said n s ∷ h) g = let a = g.0 in (omega (arith, a), up_later c d le h g.1)
up_later c d le (Opened b ∷ h) g = up_later c d le h g
up_later c d le (Closed b s ∷ h) g = up_later c d le h g

ends_up : (c : ℕ) (h : List Event) → Ends c h → SaidUpTo c h
ends_up c [] g = tt
ends_up c (Said n s ∷ h) g = let a = g.0 in (omega (arith, a), g.1)
ends_up c (Opened b ∷ h) g = up_later (c - 1) c (omega arith) h g.1
ends_up c (Closed b s ∷ h) g = up_later (c - 1) c (omega arith) h g.1

up_within : (c : ℕ) (h : List Event) (p : PlainBox × List Event) → innermost h ≡ Some p → SaidUpTo c h → SaidUpTo c p.1
up_within c [] p e g = cc
up_within c (Said n s ∷ h) p e g = up_within c h p e g.1
up_within c (Opened b ∷ h) p e g = let q : (b, h) ≡ p = some_inj e in subst (λ r. SaidUpTo c r.1) q g
up_within c (Closed b s ∷ h) p e g = up_within c h p e g

ends_done : (c : ℕ) (h u : List Event) → done_closes h ≡ Some u → SaidUpTo c h → Ends (suc c) u
ends_done c [] u e g = cc
ends_done c (Said n s ∷ h) u e g =
    mapped_some (λ p. Closed p.0 s ∷ p.1) (innermost h) u e
    (λ p i q. subst (Ends (suc c)) q (omega arith, up_later c (suc c - 1) (omega arith) p.1 (up_within c h p i g.1)))
ends_done c (Opened b ∷ h) u e g = cc
ends_done c (Closed b s ∷ h) u e g = cc

ends_said : (c : ℕ) (h u : List Event) (o : Option Statement) → option_map (λ s. Said (suc c) s ∷ h) o ≡ Some u
    → SaidUpTo c h → Ends (suc c) u
ends_said c h u o e g =
    mapped_some (λ s. Said (suc c) s ∷ h) o u e
    (λ s p q. subst (Ends (suc c)) q (refl, up_later c (suc c) (omega arith) h g))

ends_opened : (t : Theory) (c : ℕ) (h u : List Event) (ps : List BoxPart) (es : List CodedEquation)
    → box_opens t h (suc c) ps es ≡ Some u → SaidUpTo c h → Ends (suc c) u
ends_opened t c h u ps es e g =
    mapped_some (λ hs. Opened (record { number = suc c; parts = ps; hypotheses = hs }) ∷ h)
    (each (decode_equation (find_symbol t (Opened (record { number = suc c; parts = ps; hypotheses = [] }) ∷ h))) es) u
    e
    (λ hs p q. subst (Ends (suc c)) q (omega arith, up_later c (suc c - 1) (omega arith) h g))

ends_happens : (t : Theory) (c : ℕ) (h u : List Event) (line : Line) → happens t h (suc c) line ≡ Some u
    → SaidUpTo c h → Ends (suc c) u
ends_happens t c h u (Axiom k) e g = ends_said c h u (judge t h (Axiom k)) e g
ends_happens t c h u (Hyp b k) e g = ends_said c h u (judge t h (Hyp b k)) e g
ends_happens t c h u (Row k z) e g = ends_said c h u (judge t h (Row k z)) e g
ends_happens t c h u (Refl x) e g = ends_said c h u (judge t h (Refl x)) e g
ends_happens t c h u (Sym m) e g = ends_said c h u (judge t h (Sym m)) e g
ends_happens t c h u (Inst m bs) e g = ends_said c h u (judge t h (Inst m bs)) e g
ends_happens t c h u (Repl m p k) e g = ends_said c h u (judge t h (Repl m p k)) e g
ends_happens t c h u (Equal m) e g = ends_said c h u (judge t h (Equal m)) e g
ends_happens t c h u (BoxLine ps es) e g = ends_opened t c h u ps es e g
ends_happens t c h u Done e g = ends_done c h u e g
ends_happens t c h u (Fresh b vs) e g = ends_said c h u (judge t h (Fresh b vs)) e g
ends_happens t c h u (Cases b d) e g = ends_said c h u (judge t h (Cases b d)) e g
ends_happens t c h u (Induct m x q bs) e g = ends_said c h u (judge t h (Induct m x q bs)) e g
ends_happens t c h u (Observe m q ns) e g = ends_said c h u (judge t h (Observe m q ns)) e g
ends_happens t c h u (GeneratedLine b z ks) e g = ends_said c h u (judge t h (GeneratedLine b z ks)) e g
ends_happens t c h u (PartitionedLine b z ks) e g = ends_said c h u (judge t h (PartitionedLine b z ks)) e g

ends_step : (t : Theory) (st u : State) (line : Line) → step t st line ≡ Some u → Ends st.count st.history
    → Ends u.count u.history
ends_step t st u line e g =
    mapped_some (λ h. record { count = suc st.count; history = h }) (happens t st.history (suc st.count) line) u e
    (λ h p q. subst (λ w. Ends w.count w.history) q
    (ends_happens t st.count st.history h line p (ends_up st.count st.history g)))

ends_run : (t : Theory) (ls : List Line) (st u : State) → run t st ls ≡ Some u → Ends st.count st.history
    → Ends u.count u.history
ends_run t [] st u e g = subst (λ w. Ends w.count w.history) (some_inj e) g
ends_run t (x ∷ xs) st u e g =
    option_and_then_some (λ w. run t w xs) (step t st x) u e
    (λ v p q. ends_run t xs v u q (ends_step t st v x p g))

other_number : (m n : ℕ) (x : Statement) (o : Option Statement) → m < n → cond (m == n) (Some x) o ≡ o
other_number m n x o lt = grind arith

none_above : (c n : ℕ) (h : List Event) → SaidUpTo c h → c < n → find_line h n ≡ None
none_above c n [] g lt = refl
none_above c n (Said m s ∷ h) g lt =
    let a = g.0 in
    let less : m < n = omega (arith, a, lt) in
    other_number m n s (find_line h n) less ∙ none_above c n h g.1 lt
none_above c n (Opened b ∷ h) g lt = none_above c n h g lt
none_above c n (Closed b s ∷ h) g lt = none_above c n h g lt

same_number : (m n : ℕ) (x : Statement) (o : Option Statement) → m ≡ n → cond (m == n) (Some x) o ≡ Some x
same_number m n x o e = grind (arith, e)

last_found : (c : ℕ) (h : List Event) (s : Statement) → Ends c h → find_line h c ≡ Some s → last_statement h ≡ Some s
last_found c [] s g e = cc
last_found c (Said n r ∷ h) s g e = sym (same_number n c r (find_line h c) g.0) ∙ e
last_found c (Opened b ∷ h) s g e =
    let a = g.0 in
    let less : c - 1 < c = omega (arith, a) in
    let n = none_above (c - 1) c h g.1 less in cc
last_found c (Closed b r ∷ h) s g e =
    let a = g.0 in
    let less : c - 1 < c = omega (arith, a) in
    let n = none_above (c - 1) c h g.1 less in cc

-- ---- what is over a theory without open boxes is written as it stands

plain_in_lines : (t : Theory) → HasPlainNames t → (f : PlainOperator) → IsKnown t.operators (in_lines [] f)
    → in_lines [] f ≡ f
plain_in_lines t p f w = let n = known_plain t p [] 0 [] f tt refl w in stays_in_lines [] f n.0 refl n.1

mutual
  plain_written : (t : Theory) → HasPlainNames t → (a : Tree) → IsOver t.operators (written_term [] a)
      → written_term [] a ≡ a
  plain_written t p (var n s) w = refl
  plain_written t p (app f ts) w =
      λ i. app (plain_in_lines t p f w.0 i) (all_plain_written t p ts w.1 i)

  all_plain_written : (t : Theory) → HasPlainNames t → (ts : Forest) → AllOver t.operators (renamed_all (naming []) ts)
      → renamed_all (naming []) ts ≡ ts
  all_plain_written t p none w = refl
  all_plain_written t p (more a ts) w = λ i. more (plain_written t p a w.0 i) (all_plain_written t p ts w.1 i)

plain_operators : (t : Theory) → HasPlainNames t → (P : PlainOperator → Type 0)
    → ((f : PlainOperator) → P f → IsKnown t.operators f)
    → (fs : List PlainOperator) → All P (map (in_lines []) fs) → map (in_lines []) fs ≡ fs
plain_operators t p P k [] w = refl
plain_operators t p P k (f ∷ fs) w =
    let here = k (in_lines [] f) (All-head P (in_lines [] f) (map (in_lines []) fs) w) in
    λ i. plain_in_lines t p f here i
    ∷ plain_operators t p P k fs (All-tail P (in_lines [] f) (map (in_lines []) fs) w) i

plain_statement : (t : Theory) → HasPlainNames t → (s : Statement)
    → IsStatementOver t.operators (written_statement [] s)
    → written_statement [] s ≡ s
plain_statement t p (Equation l r) w = λ i. Equation (plain_written t p l w.0.1 i) (plain_written t p r w.1.1 i)
plain_statement t p (Generated s fs) w =
    ap (Generated s) (plain_operators t p (λ g. IsKnown t.operators g × (g.range ≡ s)) (λ f q. q.0) fs w)
plain_statement t p (Partitioned s fs) w =
    ap (Partitioned s) (plain_operators t p (λ g. IsKnown t.operators g × Contains g.domain s) (λ f q. q.0) fs w)

pub accepted : (b : Builder) (n : ℕ) (s : Statement) → HasStatement b n s → b.boxes ≡ [] → n ≡ length b.lines
    → Accepts b.theory s b.lines
unfolding HasStatement
accepted b n s (st, x) e is =
    let h : SaysIn b.theory [] b.lines st n s = subst (λ bs. SaysIn b.theory bs b.lines st n s) e x in
    let count = run_count b.theory b.lines start st h.stand.runs in
    let last : n ≡ st.count = omega (arith, count, is) in
    let own = own_theory b.theory st.history h.stand.opened in
    let same = plain_statement b.theory h.stand.plain s
    (subst (λ u. IsStatementOver u.operators (written_statement [] s)) own h.over) in
    record {
      state = st;
      none_bad = h.stand.runs;
      closed = none_open st.history h.stand.opened;
      last = last_found st.count st.history s (ends_run b.theory b.lines start st h.stand.runs tt)
          (ap (find_line st.history) (sym last) ∙ h.says ∙ ap Some same);
    }

-- ---- what the last line is

one_ends : (t : Theory) (line : Line) (st u : State) (l r : Tree) → step t st line ≡ Some u
    → find_line u.history u.count ≡ Some (Equation l r) → states_clause t line ≡ false
one_ends t (Axiom k) st u l r e f =
    mapped_some (λ h. record { count = suc st.count; history = h })
    (option_map (λ s. Said (suc st.count) s ∷ st.history) (axiom_says t k)) u e
    (λ h p q.
    mapped_some (λ s. Said (suc st.count) s ∷ st.history) (axiom_says t k) h p
    (λ s a b.
    let found : find_line (Said (suc st.count) s ∷ st.history) (suc st.count) ≡ Some (Equation l r) =
    ap (λ y. find_line y (suc st.count)) b ∙ ap (λ w. find_line w.history w.count) q ∙ f in
    let here : Some s ≡ Some (Equation l r) =
    sym (same_number (suc st.count) (suc st.count) s (find_line st.history (suc st.count)) refl) ∙ found in
    ap (λ o. option_map_or is_clause o false) (a ∙ here)))
one_ends t (Hyp b k) st u l r e f = refl
one_ends t (Row k z) st u l r e f = refl
one_ends t (Refl x) st u l r e f = refl
one_ends t (Sym m) st u l r e f = refl
one_ends t (Inst m bs) st u l r e f = refl
one_ends t (Repl m p k) st u l r e f = refl
one_ends t (Equal m) st u l r e f = refl
one_ends t (BoxLine ps es) st u l r e f = refl
one_ends t Done st u l r e f = refl
one_ends t (Fresh b vs) st u l r e f = refl
one_ends t (Cases b d) st u l r e f = refl
one_ends t (Induct m x q bs) st u l r e f = refl
one_ends t (Observe m q ns) st u l r e f = refl
one_ends t (GeneratedLine b z ks) st u l r e f = refl
one_ends t (PartitionedLine b z ks) st u l r e f = refl

-- where the line with the number of the last one says an equation, the last one is no axiom line of a clause
all_end : (t : Theory) (ls : List Line) (st u : State) (l r : Tree) → run t st ls ≡ Some u
    → find_line u.history u.count ≡ Some (Equation l r) → EndsWithoutStatedClause t ls
all_end t [] st u l r e f = refl
all_end t (x ∷ []) st u l r e f =
    option_and_then_some (λ w. run t w []) (step t st x) u e
    (λ v p q. one_ends t x st v l r p (ap (λ w. find_line w.history w.count) (some_inj q) ∙ f))
all_end t (x ∷ y ∷ ys) st u l r e f =
    option_and_then_some (λ w. run t w (y ∷ ys)) (step t st x) u e (λ v p q. all_end t (y ∷ ys) v u l r q f)

pub equation_ends : (b : Builder) (n : ℕ) (l r : Tree) → HasStatement b n (Equation l r) → n ≡ length b.lines
    → EndsWithoutStatedClause b.theory b.lines
unfolding HasStatement
equation_ends b n l r (st, h) is =
    let count = run_count b.theory b.lines start st h.stand.runs in
    let last : n ≡ st.count = omega (arith, count, is) in
    all_end b.theory b.lines start st (written_term b.boxes l) (written_term b.boxes r) h.stand.runs
    (ap (find_line st.history) (sym last) ∙ h.says)

last_of : (t : Theory) (ls : List Line) (line : Line)
    → ends_with_stated_clause t (ls ++ line ∷ []) ≡ states_clause t line
last_of t [] line = refl
last_of t (x ∷ []) line = refl
last_of t (x ∷ y ∷ ys) line = last_of t (y ∷ ys) line

pub pushed_ends : (a b : Builder) (line : Line) (n : ℕ) → IsPushed a b line n → states_clause a.theory line ≡ false
    → EndsWithoutStatedClause b.theory b.lines
pushed_ends a b line n p e =
    ap (λ t. ends_with_stated_clause t b.lines) p.theory ∙ ap (ends_with_stated_clause a.theory) p.lines
    ∙ last_of a.theory a.lines line ∙ e

pub pushed_last : (a b : Builder) (line : Line) (n : ℕ) → IsPushed a b line n → n ≡ length b.lines
pushed_last a b line n p =
    let long = length-append a.lines (line ∷ []) in
    let number = p.number in
    let same = ap length p.lines in omega (arith, long, number, same)

pub clause_finished : (b : Builder) (n : ℕ) (s : Statement) → HasStatement b n s → b.boxes ≡ [] → n ≡ length b.lines
    → EndsWithoutStatedClause b.theory b.lines → IsFinished b.theory s b.lines
clause_finished b n s h e is ends =
    record { accepted = accepted b n s h e is; writable = writable b (said_stands b n s h); ends = ends }

pub equation_finished : (b : Builder) (n : ℕ) (l r : Tree) → HasStatement b n (Equation l r) → b.boxes ≡ []
    → n ≡ length b.lines → IsFinished b.theory (Equation l r) b.lines
equation_finished b n l r h e is = clause_finished b n (Equation l r) h e is (equation_ends b n l r h is)
