-- Lines are carried along a move: what a line says, what happens in it, and runs.
use Rattle.std.proofs.Common.{◌≡◌, ℕ, suc, ◌==◌, ◌+◌, ◌≤◌, Bool, true, false, cond, List, [], ◌∷◌, map, Option, Some}
use Rattle.std.proofs.Common.{None, option_map, option_and_then, refl, sym, ◌∙◌, ap, subst, arith}
use Rattle.std.proofs.lemmas.Bool.{eqb-true, eq-eqb}
use Rattle.std.proofs.lemmas.Option.{option_and_then_some}
use Rattle.larch_base.proofs.Bools.{same_truth}
use Rattle.larch_base.proofs.Lists.{map_map}
use Rattle.larch_base.proofs.Options.{some_inj}
use Rattle.larch_base.specs.ByNumber.{numbered}
use Rattle.larch_term.specs.Operator.{PlainOperator}
use Rattle.larch_term.specs.declared.statement.Statement.{Statement}
use Rattle.larch_term.specs.declared.statement.Statement.TheVariants as statement
use Rattle.larch_term.specs.declared.statement.Theory.{Theory}
use Rattle.larch_term.specs.declared.substitution.Entry.{Entry}
use Rattle.larch_verify_meaning.specs.RenamingRenaming.{renamed_variable, renamed_entry, renamed_statement}
use Rattle.larch_certificate.specs.declared.line.BoxPart.{BoxPart}
use Rattle.larch_certificate.specs.declared.line.CodedEquation.{CodedEquation}
use Rattle.larch_certificate.specs.declared.line.Line.{Line}
use Rattle.larch_certificate.specs.declared.line.Line.TheVariants.{Axiom, Hyp, Row, Refl, Sym, Inst, Repl, Equal}
use Rattle.larch_certificate.specs.declared.line.Line.TheVariants.{BoxLine, Done, Fresh, Cases, Induct, Observe}
use Rattle.larch_certificate.specs.declared.line.Line.TheVariants.{Generated, Partitioned}
use Rattle.larch_verify_meaning.specs.Acceptance.{last_statement}
use Rattle.larch_verify_meaning.specs.BoxRules.{freed_result, cases_of, induct_over}
use Rattle.larch_verify_meaning.specs.ClauseRules.{observed_equal, own_operators, generated_by, partitioned_by}
use Rattle.larch_verify_meaning.specs.Context.{find_line, find_open, find_closed, find_symbol, innermost}
use Rattle.larch_verify_meaning.specs.Decoding.{each, decode, decode_equation, decode_binding}
use Rattle.larch_verify_meaning.specs.Events.{PlainBox, Event, Said, Opened, Closed, State}
use Rattle.larch_verify_meaning.specs.Matching.{all_different, variable_of}
use Rattle.larch_verify_meaning.specs.Rules.{exchange_sides, instance_by, replaced_variable, replace_right}
use Rattle.larch_verify_meaning.specs.Rules.{stated_equal}
use Rattle.larch_verify_meaning.specs.Run.{judge, box_opens, done_closes, happens, step, run}
use Rattle.larch_verify_law.specs.Carrying.{IsEquation, IsMove, KeepsCited, NamesAlike, IsEarly, Matches, outermost}
use Rattle.larch_verify_law.specs.Carrying.{inside, EndsAlike, EndsMoved, Follows, EachLine}
use Rattle.larch_verify_law.specs.Moves.{Move, moved_equation, moved_binding, moved_part, moved_variable}
use Rattle.larch_verify_law.specs.Moves.{moved_line, moved_box, carry_lines}
use Rattle.larch_verify_law.proofs.MovedClauses.{observed_moved, generated_moved, partitioned_moved}
use Rattle.larch_verify_law.proofs.MovedRules.{exchange_moved, instance_moved, replace_moved, stated_moved, fresh_moved}
use Rattle.larch_verify_law.proofs.MovedRules.{moved_closed, cases_moved, ClosedMoved, induct_moved}
use Rattle.larch_verify_law.proofs.MovedTerms.{bound, OpenMoved, symbols_moved, decode_moved}
use Rattle.larch_verify_law.proofs.MovedTerms.{equation_moved, binding_moved}
use Rattle.larch_verify_law.proofs.MovedTests.{each_moved, numbered_mapped, different_moved, boxes_apart}
use Rattle.larch_verify_law.proofs.Runs.{run_append}
use Rattle.larch_verify_law.proofs.Told.{option_map_some, cond_then}

-- ---- what a line says

closed_of : (m : Move) (h g : List Event) → NamesAlike m h g → ClosedMoved m h g
closed_of m h g n b c q e = n.closed_boxes b c.0 c.1 q e

own_moved : (m : Move) (t u : Theory) → IsMove m t u → (ks : List ℕ) (fs : List PlainOperator)
    → own_operators t ks ≡ Some fs
    → own_operators u (map m.operator ks) ≡ Some (map m.renaming.operator fs)
own_moved m t u x ks fs e =
    each_moved (numbered t.operators) (numbered u.operators) m.operator m.renaming.operator x.operators ks fs e

-- what a line says, it says moved where what it names can be named moved
pub judge_moved : (m : Move) (t u : Theory) → IsMove m t u → (h g : List Event) → NamesAlike m h g → (l : Line)
    → KeepsCited m t u l → (s : Statement) → judge t h l ≡ Some s
    → judge u g (moved_line m l) ≡ Some (renamed_statement m.renaming s)
judge_moved m t u x h g n (Axiom k) kept s e = kept s e
judge_moved m t u x h g n (Hyp b k) kept s e =
    let r = m.renaming in
    option_and_then_some (λ y. numbered y.hypotheses k) (find_open h b) s e
    (λ y p q. bound (λ z. numbered z.hypotheses k) (find_open g (m.box b)) (moved_box m y) (renamed_statement r s)
    (n.open_boxes b y p) (numbered_mapped (renamed_statement r) y.hypotheses k s q))
judge_moved m t u x h g n (Row k z) kept s e = x.rows k z s e
judge_moved m t u x h g n (Refl c) kept s e =
    let r = m.renaming in
    let f = find_symbol t h in
    let f_new = find_symbol u g in
    option_map_some (λ a. statement.Equation a a) (decode f c) s e
    (λ a p q. ap (option_map (λ b. statement.Equation b b))
    (decode_moved m x.faithful.signatures f f_new (symbols_moved m t u x h g n.open_boxes) c a p)
    ∙ ap (λ z. Some (renamed_statement r z)) q)
judge_moved m t u x h g n (Sym k) kept s e =
    let r = m.renaming in
    option_and_then_some exchange_sides (find_line h k) s e
    (λ q p i. bound exchange_sides (find_line g (m.line k)) (renamed_statement r q) (renamed_statement r s)
    (n.lines k q p) (exchange_moved r q s i))
judge_moved m t u x h g n (Inst k bs) kept s e =
    let r = m.renaming in
    let f = find_symbol t h in
    let f_new = find_symbol u g in
    let cs = map (moved_binding m) bs in
    let go : List Entry → Option Statement = λ es. option_and_then (instance_by es) (find_line h k) in
    let go_new : List Entry → Option Statement = λ es. option_and_then (instance_by es) (find_line g (m.line k)) in
    let c = cond_then (all_different (map replaced_variable bs)) (option_and_then go (each
    (decode_binding f) bs)) s e in
    let variables : map replaced_variable cs ≡ map (renamed_variable r) (map replaced_variable bs) =
    map_map replaced_variable (moved_binding m) bs ∙ sym (map_map (renamed_variable r) replaced_variable bs) in
    ap (λ y. cond y (option_and_then go_new (each (decode_binding f_new) cs)) None)
    (ap all_different variables ∙ different_moved r x.faithful.apart (map replaced_variable bs) ∙ c.0)
    ∙ option_and_then_some go (each (decode_binding f) bs) s c.1
    (λ es p q. bound go_new (each (decode_binding f_new) cs) (map (renamed_entry r) es) (renamed_statement r s)
    (each_moved (decode_binding f) (decode_binding f_new) (moved_binding m) (renamed_entry r)
    (binding_moved m x.faithful.signatures f f_new (symbols_moved m t u x h g n.open_boxes)) bs es p)
    (option_and_then_some (instance_by es) (find_line h k) s q
    (λ z i j. bound (instance_by (map (renamed_entry r) es)) (find_line g (m.line k)) (renamed_statement r z)
    (renamed_statement r s) (n.lines k z i) (instance_moved r x.faithful.apart es z s j))))
judge_moved m t u x h g n (Repl k p j) kept s e =
    let r = m.renaming in
    option_and_then_some (λ q. option_and_then (replace_right p q) (find_line h j)) (find_line h k) s e
    (λ q i v. option_and_then_some (replace_right p q) (find_line h j) s v
    (λ z o w. bound (λ y. option_and_then (replace_right p y) (find_line g (m.line j))) (find_line g (m.line k))
    (renamed_statement r q) (renamed_statement r s) (n.lines k q i)
    (bound (replace_right p (renamed_statement r q)) (find_line g (m.line j)) (renamed_statement r z)
    (renamed_statement r s) (n.lines j z o) (replace_moved r p q z s w))))
judge_moved m t u x h g n (Equal k) kept s e =
    let r = m.renaming in
    option_and_then_some stated_equal (find_line h k) s e
    (λ q p i. bound stated_equal (find_line g (m.line k)) (renamed_statement r q) (renamed_statement r s)
    (n.lines k q p) (stated_moved r x.faithful q s i))
judge_moved m t u x h g n (BoxLine ps es) kept s e = cc
judge_moved m t u x h g n Done kept s e = cc
judge_moved m t u x h g n (Fresh b vs) kept s e =
    let r = m.renaming in
    let ws = map variable_of (map (moved_variable m) vs) in
    option_and_then_some (λ c. freed_result c.0 c.1 (map variable_of vs)) (find_closed h b) s e
    (λ c p q.
    let w = fresh_moved m t u x c.0 c.1 vs s q in
    bound (λ d. freed_result d.0 d.1 ws) (find_closed g (m.box b)) (moved_closed m c) (renamed_statement r s)
    (closed_of m h g n b c w.0 p) w.1)
judge_moved m t u x h g n (Cases b c) kept s e =
    let r = m.renaming in
    option_and_then_some (λ d. option_and_then (cases_of d) (find_closed h c)) (find_closed h b) s e
    (λ y p q. option_and_then_some (cases_of y) (find_closed h c) s q
    (λ z i j.
    let w = cases_moved m x.faithful y z s j in
    bound (λ d. option_and_then (cases_of d) (find_closed g (m.box c))) (find_closed g (m.box b)) (moved_closed m y)
    (renamed_statement r s) (closed_of m h g n b y w.0 p)
    (bound (cases_of (moved_closed m y)) (find_closed g (m.box c)) (moved_closed m z) (renamed_statement r s)
    (closed_of m h g n c z w.1 i) w.2)))
judge_moved m t u x h g n (Induct k v c bs) kept s e =
    let r = m.renaming in
    let f = find_symbol t h in
    let f_new = find_symbol u g in
    let w = moved_variable m v in
    option_and_then_some (λ q. option_and_then (induct_over h v bs q) (find_line h k)) (decode_equation f c) s e
    (λ q p i. option_and_then_some (induct_over h v bs q) (find_line h k) s i
    (λ z j o.
    bound (λ y. option_and_then (induct_over g w (map m.box bs) y) (find_line g (m.line k)))
    (decode_equation f_new (moved_equation m c)) (renamed_statement r q) (renamed_statement r s)
    (equation_moved m x.faithful.signatures f f_new (symbols_moved m t u x h g n.open_boxes) c q p)
    (bound (induct_over g w (map m.box bs) (renamed_statement r q)) (find_line g (m.line k)) (renamed_statement r z)
    (renamed_statement r s) (n.lines k z j)
    (induct_moved m t u x h g (closed_of m h g n) v bs q z s o))))
judge_moved m t u x h g n (Observe k c ns) kept s e =
    let r = m.renaming in
    let f = find_symbol t h in
    let f_new = find_symbol u g in
    option_and_then_some (λ q. option_and_then (observed_equal h ns q) (find_line h k)) (decode_equation f c) s e
    (λ q p i. option_and_then_some (observed_equal h ns q) (find_line h k) s i
    (λ z j o.
    bound (λ y. option_and_then (observed_equal g (map m.line ns) y) (find_line g (m.line k)))
    (decode_equation f_new (moved_equation m c)) (renamed_statement r q) (renamed_statement r s)
    (equation_moved m x.faithful.signatures f f_new (symbols_moved m t u x h g n.open_boxes) c q p)
    (bound (observed_equal g (map m.line ns) (renamed_statement r q)) (find_line g (m.line k)) (renamed_statement r z)
    (renamed_statement r s) (n.lines k z j) (observed_moved m x.faithful h g n.lines ns q z s o))))
judge_moved m t u x h g n (Generated b z ks) kept s e =
    let r = m.renaming in
    option_and_then_some (λ c. option_and_then (generated_by z c) (own_operators t ks)) (find_closed h b) s e
    (λ c p q. option_and_then_some (generated_by z c) (own_operators t ks) s q
    (λ fs i j.
    let w = generated_moved m t u x z c fs s j in
    bound (λ d. option_and_then (generated_by (r.sort z) d) (own_operators u (map m.operator ks)))
    (find_closed g (m.box b)) (moved_closed m c) (renamed_statement r s) (closed_of m h g n b c w.0 p)
    (bound (generated_by (r.sort z) (moved_closed m c)) (own_operators u (map m.operator ks)) (map r.operator fs)
    (renamed_statement r s) (own_moved m t u x ks fs i) w.1)))
judge_moved m t u x h g n (Partitioned b z ks) kept s e =
    let r = m.renaming in
    option_and_then_some (λ c. option_and_then (partitioned_by z c) (own_operators t ks)) (find_closed h b) s e
    (λ c p q. option_and_then_some (partitioned_by z c) (own_operators t ks) s q
    (λ fs i j.
    let w = partitioned_moved m t u x z c fs s j in
    bound (λ d. option_and_then (partitioned_by (r.sort z) d) (own_operators u (map m.operator ks)))
    (find_closed g (m.box b)) (moved_closed m c) (renamed_statement r s) (closed_of m h g n b c w.0 p)
    (bound (partitioned_by (r.sort z) (moved_closed m c)) (own_operators u (map m.operator ks)) (map r.operator fs)
    (renamed_statement r s) (own_moved m t u x ks fs i) w.1)))

-- ---- what happens in a line

-- a line opens a box, closes one, or says something
pub data Kind : Line → Type 0 where
  opens : (ps : List BoxPart) (es : List CodedEquation) → Kind (BoxLine ps es)
  closes : Kind Done
  says : {l : Line} → ((t : Theory) (h : List Event) (n : ℕ)
      → happens t h n l ≡ option_map (λ s. Said n s ∷ h) (judge t h l))
      → ((m : Move) (t : Theory) (h : List Event) (n : ℕ)
      → happens t h n (moved_line m l) ≡ option_map (λ s. Said n s ∷ h) (judge t h (moved_line m l)))
      → Kind l

pub kind : (l : Line) → Kind l
kind (BoxLine ps es) = opens ps es
kind Done = closes
kind (Axiom k) = says (λ t h n. refl) (λ m t h n. refl)
kind (Hyp b k) = says (λ t h n. refl) (λ m t h n. refl)
kind (Row k s) = says (λ t h n. refl) (λ m t h n. refl)
kind (Refl c) = says (λ t h n. refl) (λ m t h n. refl)
kind (Sym k) = says (λ t h n. refl) (λ m t h n. refl)
kind (Inst k bs) = says (λ t h n. refl) (λ m t h n. refl)
kind (Repl k p j) = says (λ t h n. refl) (λ m t h n. refl)
kind (Equal k) = says (λ t h n. refl) (λ m t h n. refl)
kind (Fresh b vs) = says (λ t h n. refl) (λ m t h n. refl)
kind (Cases b c) = says (λ t h n. refl) (λ m t h n. refl)
kind (Induct k x e bs) = says (λ t h n. refl) (λ m t h n. refl)
kind (Observe k e ns) = says (λ t h n. refl) (λ m t h n. refl)
kind (Generated b s ks) = says (λ t h n. refl) (λ m t h n. refl)
kind (Partitioned b s ks) = says (λ t h n. refl) (λ m t h n. refl)

passed_equal : (n k : ℕ) → (n == k) ≡ true → n ≡ k
passed_equal n k e = eqb-true n k e

equal_passes : (n k : ℕ) → n ≡ k → (n == k) ≡ true
equal_passes n k e = eq-eqb n k e

-- numbers of boxes are told apart as before
box_test : (m : Move) (t u : Theory) → IsMove m t u → (b c : ℕ) → (m.box b == m.box c) ≡ (b == c)
box_test m t u x b c =
    same_truth (m.box b == m.box c) (b == c)
    (λ e. equal_passes b c (boxes_apart m t u x b c (passed_equal (m.box b) (m.box c) e)))
    (λ e. equal_passes (m.box b) (m.box c) (ap m.box (passed_equal b c e)))

-- what is first under one number, or further behind
first_moved : {X Y : Type 0} (f : X → Y) (b : Bool) (x z : X) (o : Option X) (p : Option Y)
    → (o ≡ Some z → p ≡ Some (f z)) → cond b (Some x) o ≡ Some z → cond b (Some (f x)) p ≡ Some (f z)
first_moved f true x z o p k e = ap (option_map f) e
first_moved f false x z o p k e = k e

-- a box that opens in both
opened_names : (m : Move) (t u : Theory) → IsMove m t u → (h g : List Event) → OpenMoved m h g → (b : PlainBox)
    → OpenMoved m (Opened b ∷ h) (Opened (moved_box m b) ∷ g)
opened_names m t u x h g k b c y e =
    ap (λ v. cond v (Some (moved_box m b)) (find_open g (m.box c))) (box_test m t u x b.number c)
    ∙ first_moved (moved_box m) (b.number == c) b y (find_open h c) (find_open g (m.box c)) (k c y) e

pub box_moved : (m : Move) (t u : Theory) → IsMove m t u → (h g : List Event) → OpenMoved m h g → (n : ℕ)
    (ps : List BoxPart) (es : List CodedEquation) (k : List Event) → box_opens t h n ps es ≡ Some k
    → (b : PlainBox) × (k ≡ Opened b ∷ h)
    × (box_opens u g (m.box n) (map (moved_part m) ps) (map (moved_equation m) es) ≡ Some (Opened (moved_box m b) ∷ g))
box_moved m t u x h g names n ps es k e =
    let r = m.renaming in
    let bare : PlainBox = record { number = n; parts = ps; hypotheses = [] } in
    let f = find_symbol t (Opened bare ∷ h) in
    let f_new = find_symbol u (Opened (moved_box m bare) ∷ g) in
    let finds = symbols_moved m t u x (Opened bare ∷ h) (Opened (moved_box m bare) ∷ g)
    (opened_names m t u x h g names bare) in
    let opened : List Statement → List Event =
    λ hs. Opened (record { number = m.box n; parts = map (moved_part m) ps; hypotheses = hs }) ∷ g in
    option_map_some (λ hs. Opened (record { number = n; parts = ps; hypotheses = hs }) ∷ h)
    (each (decode_equation f) es) k e
    (λ hs p q. (
      record { number = n; parts = ps; hypotheses = hs },
      sym q,
      ap (option_map opened)
          (each_moved (decode_equation f) (decode_equation f_new) (moved_equation m) (renamed_statement r)
          (equation_moved m x.faithful.signatures f f_new finds) es hs p),
    ))

-- ---- what matches

pub names_of : (m : Move) (c : ℕ) (h g : List Event) → Matches m c h g → NamesAlike m h g
names_of m c h g (outermost i j n y) = n
names_of m c h g (inside k l b i j n y w) = n

early_of : (m : Move) (c : ℕ) (h g : List Event) → Matches m c h g → IsEarly m c h
early_of m c h g (outermost i j n y) = y
early_of m c h g (inside k l b i j n y w) = y

later_early : (m : Move) (c d : ℕ) (h : List Event) → c ≤ d → IsEarly m c h → IsEarly m d h
later_early m c d h le y n s e = let z = y n s e in omega (arith, z, le)

-- where lines come, what matched still matches
pub later_matches : (m : Move) (c d : ℕ) (h g : List Event) → c ≤ d → Matches m c h g → Matches m d h g
later_matches m c d h g le (outermost i j n y) = outermost i j n (later_early m c d h le y)
later_matches m c d h g le (inside k l b i j n y w) =
    inside k l b i j n (later_early m c d h le y) (later_matches m c d k l le w)

not_number : (c n : ℕ) → n ≤ c → (suc c == n) ≡ false
not_number c n le = grind (arith, le)

-- a line that is put in
pub put_in_names : (m : Move) (c : ℕ) (h g : List Event) (r : Statement) → IsEarly m c h → NamesAlike m h g
    → NamesAlike m h (Said (suc c) r ∷ g)
put_in_names m c h g r y n =
    record {
      lines = λ k s e. ap (λ b. cond b (Some r) (find_line g (m.line k))) (not_number c (m.line k) (y k s e))
          ∙ n.lines k s e;
      open_boxes = n.open_boxes;
      closed_boxes = n.closed_boxes;
    }

pub put_in : (m : Move) (c : ℕ) (h g : List Event) (r : Statement) → Matches m c h g
    → Matches m (suc c) h (Said (suc c) r ∷ g)
put_in m c h g r (outermost i j n y) =
    outermost i j (put_in_names m c h g r y n) (later_early m c (suc c) h (omega arith) y)
put_in m c h g r (inside k l b i j n y w) =
    inside k l b i j (put_in_names m c h g r y n) (later_early m c (suc c) h (omega arith) y)
    (later_matches m c (suc c) k l (omega arith) w)

line_or_later : (i n : ℕ) (s z : Statement) (o : Option Statement) (P : Type 0) → (i ≡ n → s ≡ z → P)
    → (o ≡ Some z → P) → cond (i == n) (Some s) o ≡ Some z → P
line_or_later i n s z o P first rest e = split (i == n) refl e
  where
    split : (b : Bool) → (i == n) ≡ b → cond b (Some s) o ≡ Some z → P
    split true p e = first (passed_equal i n p) (some_inj e)
    split false p e = rest e

-- a line whose statement can be named moved
pub named_names : (m : Move) (c : ℕ) (h g : List Event) (i : ℕ) (s : Statement) → NamesAlike m h g
    → find_line g (m.line i) ≡ Some (renamed_statement m.renaming s) → NamesAlike m (Said i s ∷ h) g
named_names m c h g i s n e =
    record {
      lines = λ k z q. line_or_later i k s z (find_line h k)
          (find_line g (m.line k) ≡ Some (renamed_statement m.renaming z))
          (λ p w. ap (λ y. find_line g (m.line y)) (sym p) ∙ e ∙ ap (λ y. Some (renamed_statement m.renaming y)) w)
          (n.lines k z) q;
      open_boxes = n.open_boxes;
      closed_boxes = n.closed_boxes;
    }

named_early : (m : Move) (c : ℕ) (h : List Event) (i : ℕ) (s : Statement) → IsEarly m c h → m.line i ≤ c
    → IsEarly m c (Said i s ∷ h)
named_early m c h i s y le k z q =
    line_or_later i k s z (find_line h k) (m.line k ≤ c) (λ p w. subst (λ v. m.line v ≤ c) p le) (y k z) q

pub named : (m : Move) (c : ℕ) (h g : List Event) (i : ℕ) (s : Statement) → Matches m c h g
    → find_line g (m.line i) ≡ Some (renamed_statement m.renaming s) → m.line i ≤ c → Matches m c (Said i s ∷ h) g
named m c h g i s (outermost p q n y) e le =
    outermost p q (named_names m c h g i s n e) (named_early m c h i s y le)
named m c h g i s (inside k l b p q n y w) e le =
    inside k l b p q (named_names m c h g i s n e) (named_early m c h i s y le) w

-- the line itself, moved
pub said_matches : (m : Move) (c : ℕ) (h g : List Event) (i : ℕ) (s : Statement) → Matches m c h g
    → m.line i ≡ suc c
    → Matches m (suc c) (Said i s ∷ h) (Said (suc c) (renamed_statement m.renaming s) ∷ g)
said_matches m c h g i s w e =
    let r = renamed_statement m.renaming s in
    named m (suc c) h (Said (suc c) r ∷ g) i s (put_in m c h g r w)
    (ap (λ b. cond b (Some r) (find_line g (m.line i))) (equal_passes (suc c) (m.line i) (sym e)))
    (subst (λ n. n ≤ suc c) (sym e) (omega arith))

-- a box that opens
pub opened_matches : (m : Move) (t u : Theory) → IsMove m t u → (c : ℕ) (h g : List Event) (b : PlainBox)
    → Matches m c h g → Matches m c (Opened b ∷ h) (Opened (moved_box m b) ∷ g)
opened_matches m t u x c h g b w =
    let n = names_of m c h g w in
    inside h g b refl refl
    (record {
      lines = n.lines;
      open_boxes = opened_names m t u x h g n.open_boxes b;
      closed_boxes = λ k y s q e. cc;
    })
    (early_of m c h g w) w

-- a box that closes
closed_first : (m : Move) (b y : PlainBox) (s z r : Statement) (v : Bool) (o p : Option (PlainBox × Statement))
    → IsEquation z → (IsEquation s → r ≡ renamed_statement m.renaming s)
    → (o ≡ Some (y, z) → p ≡ Some (moved_box m y, renamed_statement m.renaming z))
    → cond v (Some (b, s)) o ≡ Some (y, z)
    → cond v (Some (moved_box m b, r)) p ≡ Some (moved_box m y, renamed_statement m.renaming z)
closed_first m b y s z r true o p q k l e =
    let w = some_inj e in
    let box : b ≡ y = ap (λ c. c.0) w in
    let same : s ≡ z = ap (λ c. c.1) w in
    λ i. Some (moved_box m (box i), (k (subst IsEquation (sym same) q) ∙ ap (renamed_statement m.renaming) same) i)
closed_first m b y s z r false o p q k l e = l e

closed_names : (m : Move) (t u : Theory) → IsMove m t u → (h g : List Event) (b : PlainBox) (s r : Statement)
    → (IsEquation s → r ≡ renamed_statement m.renaming s) → NamesAlike m h g
    → NamesAlike m (Closed b s ∷ h) (Closed (moved_box m b) r ∷ g)
closed_names m t u x h g b s r k n =
    record {
      lines = n.lines;
      open_boxes = n.open_boxes;
      closed_boxes = λ c y z q e.
          ap (λ v. cond v (Some (moved_box m b, r)) (find_closed g (m.box c))) (box_test m t u x b.number c)
          ∙ closed_first m b y s z r (b.number == c) (find_closed h c) (find_closed g (m.box c)) q k
          (n.closed_boxes c y z q) e;
    }

pub closed_matches : (m : Move) (t u : Theory) → IsMove m t u → (c : ℕ) (h g : List Event) (b : PlainBox)
    (s r : Statement) → (IsEquation s → r ≡ renamed_statement m.renaming s) → Matches m c h g
    → Matches m c (Closed b s ∷ h) (Closed (moved_box m b) r ∷ g)
closed_matches m t u x c h g b s r k (outermost i j n y) =
    outermost i j (closed_names m t u x h g b s r k n) y
closed_matches m t u x c h g b s r k (inside p q a i j n y w) =
    inside p q a i j (closed_names m t u x h g b s r k n) y w

-- what closes a box: the last line says something in the innermost one
pub record Closing (h k : List Event) : Type 0 where
  pub result : Statement
  pub level : PlainBox × List Event
  pub last : last_statement h ≡ Some result
  pub inner : innermost h ≡ Some level
  pub behind : k ≡ Closed level.0 result ∷ level.1

pub closing_told : (h k : List Event) → done_closes h ≡ Some k → Closing h k
closing_told [] k e = cc
closing_told (Said n s ∷ h) k e =
    option_map_some (λ p. Closed p.0 s ∷ p.1) (innermost h) k e
    (λ p q w. record { result = s; level = p; last = refl; inner = q; behind = sym w })
closing_told (Opened b ∷ h) k e = cc
closing_told (Closed b s ∷ h) k e = cc

closes_so : (g : List Event) (r : Statement) (p : PlainBox × List Event) → last_statement g ≡ Some r
    → innermost g ≡ Some p → done_closes g ≡ Some (Closed p.0 r ∷ p.1)
closes_so [] r p e i = cc
closes_so (Said n s ∷ g) r p e i =
    ap (option_map (λ q. Closed q.0 s ∷ q.1)) i ∙ ap (λ z. Some (Closed p.0 z ∷ p.1)) (some_inj e)
closes_so (Opened b ∷ g) r p e i = cc
closes_so (Closed b s ∷ g) r p e i = cc

done_at : (m : Move) (t u : Theory) → IsMove m t u → (c : ℕ) (h g k : List Event) (w : Closing h k) (r : Statement)
    → last_statement g ≡ Some r → (IsEquation w.result → r ≡ renamed_statement m.renaming w.result) → Matches m c h g
    → (j : List Event) × (done_closes g ≡ Some j) × Matches m c k j
done_at m t u x c h g k w r e a (outermost i j n y) = absurd (no_level w.level (sym i ∙ w.inner))
  where
    no_level : (p : PlainBox × List Event) → None ≡ Some p → ⊥
    no_level p e = cc
done_at m t u x c h g k w r e a (inside p q b i j n y v) =
    let same : (b, p) ≡ w.level = some_inj (sym i ∙ w.inner) in (
      Closed (moved_box m b) r ∷ q,
      closes_so g r (moved_box m b, q) e j,
      subst (λ z. Matches m c z (Closed (moved_box m b) r ∷ q))
          (sym (w.behind ∙ ap (λ l. Closed l.0 w.result ∷ l.1) (sym same)))
          (closed_matches m t u x c p q b w.result r a v),
    )

pub done_moved : (m : Move) (t u : Theory) → IsMove m t u → (c : ℕ) (h g k : List Event) → Matches m c h g
    → EndsAlike m h g → done_closes h ≡ Some k → (j : List Event) × (done_closes g ≡ Some j) × Matches m c k j
done_moved m t u x c h g k w a e =
    let told = closing_told h k e in
    let last = a told.result told.last in
    done_at m t u x c h g k told last.0 last.1 last.2 w

-- ---- lines and runs

moved_step : (m : Move) (t u : Theory) → IsMove m t u → (st su : State) (l : Line) → Kind l → KeepsCited m t u l
    → m.line (suc st.count) ≡ suc su.count → m.box (suc st.count) ≡ suc su.count
    → Matches m su.count st.history su.history → EndsAlike m st.history su.history
    → (k : List Event) → happens t st.history (suc st.count) l ≡ Some k
    → (j : List Event) × (happens u su.history (suc su.count) (moved_line m l) ≡ Some j)
    × Matches m (suc su.count) k j × EndsMoved m k j
moved_step m t u x st su l (opens ps es) kept named boxes w a k e =
    let g = su.history in
    let o = box_moved m t u x st.history g (names_of m su.count st.history g w).open_boxes (suc st.count) ps es k e in
    let b : PlainBox = o.0 in (
      Opened (moved_box m b) ∷ g,
      ap (λ n. box_opens u g n (map (moved_part m) ps) (map (moved_equation m) es)) (sym boxes) ∙ o.2,
      subst (λ z. Matches m (suc su.count) z (Opened (moved_box m b) ∷ g)) (sym o.1)
          (later_matches m su.count (suc su.count) (Opened b ∷ st.history) (Opened (moved_box m b) ∷ g) (omega arith)
          (opened_matches m t u x su.count st.history g b w)),
      subst (λ z. EndsMoved m z (Opened (moved_box m b) ∷ g)) (sym o.1) (λ s q. cc),
    )
moved_step m t u x st su l closes kept named boxes w a k e =
    let d = done_moved m t u x su.count st.history su.history k w a e in
    (d.0, d.1, later_matches m su.count (suc su.count) k d.0 (omega arith) d.2, nothing_last st.history k e d.0)
  where
    nothing_last : (h k : List Event) → done_closes h ≡ Some k → (j : List Event) → EndsMoved m k j
    nothing_last h k e j =
        let c = closing_told h k e in
        subst (λ z. EndsMoved m z j) (sym c.behind) (λ s q. cc)
moved_step m t u x st su l (says happened moved) kept named boxes w a k e =
    let g = su.history in
    let i = suc st.count in
    let j = suc su.count in
    option_map_some (λ s. Said i s ∷ st.history) (judge t st.history l) k (sym (happened t st.history i) ∙ e)
    (λ s p q.
    let r = renamed_statement m.renaming s in (
      Said j r ∷ g,
      moved m u g j
          ∙ ap (option_map (λ z. Said j z ∷ g))
          (judge_moved m t u x st.history g (names_of m su.count st.history g w) l kept s p),
      subst (λ z. Matches m j z (Said j r ∷ g)) q (said_matches m su.count st.history g i s w named),
      subst (λ z. EndsMoved m z (Said j r ∷ g)) q (λ z v. ap (option_map (renamed_statement m.renaming)) v),
    ))

-- a line that isn't bad, moved, isn't bad where things match, and they match behind it
pub step_moved : (m : Move) (t u : Theory) → IsMove m t u → (st su next : State) (l : Line) → KeepsCited m t u l
    → m.line (suc st.count) ≡ suc su.count → m.box (suc st.count) ≡ suc su.count
    → Matches m su.count st.history su.history → EndsAlike m st.history su.history → step t st l ≡ Some next
    → (other : State) × (step u su (moved_line m l) ≡ Some other) × Follows m next other (suc su.count)
step_moved m t u x st su next l kept named boxes w a e =
    option_map_some (λ h. record { count = suc st.count; history = h }) (happens t st.history (suc st.count) l) next e
    (λ k p q.
    let v = moved_step m t u x st su l (kind l) kept named boxes w a k p in
    let other : State = record { count = suc su.count; history = v.0 } in (
      other,
      ap (option_map (λ h. record { count = suc su.count; history = h })) v.1,
      subst (λ z. Follows m z other (suc su.count)) q (record { count = refl; matches = v.2; ends = v.3 }),
    ))

pub step_count : (t : Theory) (st next : State) (l : Line) → step t st l ≡ Some next → next.count ≡ suc st.count
step_count t st next l e =
    option_map_some (λ h. record { count = suc st.count; history = h }) (happens t st.history (suc st.count) l) next e
    (λ h p q. sym (ap (λ u. u.count) q))

-- where each line's stead carries what is kept between states, so does that of all lines
pub run_carried : (t u : Theory) (instead : ℕ → Line → List Line) (R : State → State → Type 0)
    (P : ℕ → Line → Type 0)
    → ((st su next : State) (l : Line) → R st su → P (suc st.count) l → step t st l ≡ Some next
    → (other : State) × (run u su (instead (suc st.count) l) ≡ Some other) × R next other)
    → (ls : List Line) (st su last : State) → EachLine P (suc st.count) ls → R st su → run t st ls ≡ Some last
    → (other : State) × (run u su (carry_lines instead (suc st.count) ls) ≡ Some other) × R last other
run_carried t u instead R P k [] st su last all r e = (su, refl, subst (λ z. R z su) (some_inj e) r)
run_carried t u instead R P k (l ∷ ls) st su last all r e =
    option_and_then_some (λ v. run t v ls) (step t st l) last e
    (λ next p q.
    let one = k st su next l r all.0 p in
    let n = step_count t st next l p in
    let rest = run_carried t u instead R P k ls next one.0 last (subst (λ i. EachLine P (suc i) ls)
    (sym n) all.1) one.2 q in (
      rest.0,
      run_append u su (instead (suc st.count) l) (carry_lines instead (suc (suc st.count)) ls)
          ∙ ap (option_and_then (λ v. run u v (carry_lines instead (suc (suc st.count)) ls))) one.1
          ∙ ap (λ i. run u one.0 (carry_lines instead (suc i) ls)) (sym n) ∙ rest.1,
      rest.2,
    ))

-- ---- lines that are moved one for one

-- what goes along with a run whose lines are moved one for one
record Along (m : Move) (st su : State) : Type 0 where
  matches : Matches m su.count st.history su.history
  ends : EndsAlike m st.history su.history
  line : (i : ℕ) → m.line (suc (st.count + i)) ≡ suc (su.count + i)
  box : (i : ℕ) → m.box (suc (st.count + i)) ≡ suc (su.count + i)

next_along : (m : Move) (st su next other : State) → next.count ≡ suc st.count → other.count ≡ suc su.count
    → (f : ℕ → ℕ) → ((i : ℕ) → f (suc (st.count + i)) ≡ suc (su.count + i)) → (i : ℕ)
    → f (suc (next.count + i)) ≡ suc (other.count + i)
next_along m st su next other p q f k i =
    ap f (omega (arith, p)) ∙ k (suc i) ∙ omega (arith, q)

moved_each : (f : Line → Line) (n : ℕ) (ls : List Line) → carry_lines (λ k l. f l ∷ []) n ls ≡ map f ls
moved_each f n [] = refl
moved_each f n (l ∷ ls) = ap (λ ks. f l ∷ ks) (moved_each f (suc n) ls)

pub run_moved : (m : Move) (t u : Theory) → IsMove m t u → (st su last : State) (ls : List Line)
    → EachLine (λ n l. KeepsCited m t u l) (suc st.count) ls
    → ((i : ℕ) → m.line (suc (st.count + i)) ≡ suc (su.count + i))
    → ((i : ℕ) → m.box (suc (st.count + i)) ≡ suc (su.count + i))
    → Matches m su.count st.history su.history → EndsAlike m st.history su.history → run t st ls ≡ Some last
    → (other : State) × (run u su (map (moved_line m) ls) ≡ Some other)
    × Matches m other.count last.history other.history × EndsAlike m last.history other.history
run_moved m t u x st su last ls kept lines boxes w a e =
    let all = run_carried t u (λ n l. moved_line m l ∷ []) (Along m) (λ n l. KeepsCited m t u l)
    (λ before there next l g k q.
    let n = step_count t before next l q in
    let line : m.line (suc before.count) ≡ suc there.count =
    ap m.line (omega arith) ∙ g.line 0 ∙ omega arith in
    let box : m.box (suc before.count) ≡ suc there.count =
    ap m.box (omega arith) ∙ g.box 0 ∙ omega arith in
    let v = step_moved m t u x before there next l k line box g.matches g.ends q in
    let c = v.2.count in (
      v.0,
      ap (option_and_then (λ z. run u z [])) v.1,
      record {
        matches = subst (λ z. Matches m z next.history v.0.history) (sym c) v.2.matches;
        ends = λ s p. (renamed_statement m.renaming s, v.2.ends s p, λ _. refl);
        line = next_along m before there next v.0 n c m.line g.line;
        box = next_along m before there next v.0 n c m.box g.box;
      },
    ))
    ls st su last kept (record { matches = w; ends = a; line = lines; box = boxes }) e in
    (all.0, ap (run u su) (sym (moved_each (moved_line m) (suc st.count) ls)) ∙ all.1, all.2.matches, all.2.ends)
