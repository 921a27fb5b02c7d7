-- What a line names that isn't bad has happened.
use Rattle.std.proofs.Common.{◌≡◌, ℕ, ◌==◌, ◌&&◌, true, false, inl, inr, ◌⊎◌, List, [], ◌∷◌, ◌++◌, map}
use Rattle.std.proofs.Common.{flat_map, Contains, bytes_eq, Option, Some, option_map, option_and_then, subst}
use Rattle.std.specs.Option.{option_map_or}
use Rattle.std.proofs.lemmas.Bool.{eqb-true}
use Rattle.std.proofs.lemmas.Option.{option_and_then_some}
use Rattle.larch_base.proofs.Bools.{and_left, and_right}
use Rattle.larch_base.proofs.Members.{contains_none, contains_one, contains_cases, contains_either}
use Rattle.larch_base.specs.ByNumber.{numbered}
use Rattle.larch_term.specs.Operator.{PlainOperator}
use Rattle.larch_term.specs.Sorts.{sort_of, sorts_of}
use Rattle.larch_term.specs.Tree.{Tree, Forest, more}
use Rattle.larch_term.specs.declared.statement.Statement.{Statement}
use Rattle.larch_term.specs.declared.statement.Statement.TheVariants as statement
use Rattle.larch_term.specs.declared.statement.Theory.{Theory}
use Rattle.larch_term.specs.declared.substitution.Entry.{Entry}
use Rattle.larch_calculus.specs.Observation.{Observation, observations_of}
use Rattle.larch_certificate.specs.Coded.{CodedTree, CodedForest, coded_var, coded_app, no_terms, term_then}
use Rattle.larch_certificate.specs.declared.line.Binding.{Binding}
use Rattle.larch_certificate.specs.declared.line.CodedEquation.{CodedEquation}
use Rattle.larch_certificate.specs.declared.line.CodedVar.{CodedVar}
use Rattle.larch_certificate.specs.declared.line.Line.{Line}
use Rattle.larch_certificate.specs.declared.line.Line.TheVariants.{Axiom, Hyp, Row, Refl, Sym, Inst, Repl, Equal}
use Rattle.larch_certificate.specs.declared.line.Line.TheVariants.{BoxLine, Done, Fresh, Cases, Induct, Observe}
use Rattle.larch_certificate.specs.declared.line.Line.TheVariants.{Generated, Partitioned}
use Rattle.larch_certificate.specs.declared.symbol.Symbol.{Symbol}
use Rattle.larch_certificate.specs.declared.symbol.Symbol.TheVariants.{Own, Constant, BuiltIn}
use Rattle.larch_verify_meaning.specs.BoxRules.{freed_result, cases_of, induct_over, shows_case, shows_cases}
use Rattle.larch_verify_meaning.specs.ClauseRules.{observed_equal, own_operators, generated_by, partitioned_by}
use Rattle.larch_verify_meaning.specs.ClauseRules.{shows_same, show_same}
use Rattle.larch_verify_meaning.specs.Context.{find_line, find_open, find_closed, find_symbol}
use Rattle.larch_verify_meaning.specs.Decoding.{each, applied_to, decode, decode_all, equation_between}
use Rattle.larch_verify_meaning.specs.Decoding.{decode_equation}
use Rattle.larch_verify_meaning.specs.Decoding.{entry_for, decode_binding}
use Rattle.larch_verify_meaning.specs.Events.{PlainBox, operators_of, Event, Said, Opened, Closed}
use Rattle.larch_verify_meaning.specs.Matching.{all_different, variable_of}
use Rattle.larch_verify_meaning.specs.Rules.{exchange_sides, instance_by, replaced_variable, replace_right}
use Rattle.larch_verify_meaning.specs.Rules.{stated_equal}
use Rattle.larch_verify_meaning.specs.Run.{judge}
use Rattle.larch_verify_law.proofs.Told.{option_map_some, cond_either, cond_then, map_or_true}
use Rattle.larch_trim_meaning.specs.Needed.{box_of_symbol, boxes_in, boxes_in_all, boxes_in_equation}
use Rattle.larch_trim_meaning.specs.Needed.{boxes_in_binding}
use Rattle.larch_trim_meaning.specs.Needed.{names}
use Rattle.larch_trim_law.proofs.Kept.{number_of}

-- something with the number has happened and can still be seen
abbrev pub Stands : List Event → ℕ → Type 0
Stands [] n = ⊥
Stands (e ∷ h) n = (number_of e ≡ n) ⊎ Stands h n

line_stands : (h : List Event) (n : ℕ) (s : Statement) → find_line h n ≡ Some s → Stands h n
line_stands [] n s e = cc
line_stands (Said m r ∷ h) n s e =
    cond_either (m == n) (Some r) (find_line h n) s e (λ p q. inl (eqb-true m n p)) (λ p q. inr (line_stands h n s q))
line_stands (Opened b ∷ h) n s e = inr (line_stands h n s e)
line_stands (Closed b r ∷ h) n s e = inr (line_stands h n s e)

open_stands : (h : List Event) (n : ℕ) (b : PlainBox) → find_open h n ≡ Some b → Stands h n
open_stands [] n b e = cc
open_stands (Said m r ∷ h) n b e = inr (open_stands h n b e)
open_stands (Opened c ∷ h) n b e =
    cond_either (c.number == n) (Some c) (find_open h n) b e (λ p q. inl (eqb-true c.number n p))
    (λ p q. inr (open_stands h n b q))
open_stands (Closed c r ∷ h) n b e = inr (open_stands h n b e)

closed_stands : (h : List Event) (n : ℕ) (b : PlainBox × Statement) → find_closed h n ≡ Some b → Stands h n
closed_stands [] n b e = cc
closed_stands (Said m r ∷ h) n b e = inr (closed_stands h n b e)
closed_stands (Opened c ∷ h) n b e = cc
closed_stands (Closed c r ∷ h) n b e =
    cond_either (c.number == n) (Some (c, r)) (find_closed h n) b e (λ p q. inl (eqb-true c.number n p))
    (λ p q. inr (closed_stands h n b q))

one_stands : (h : List Event) (m n : ℕ) → Contains (m ∷ []) n → Stands h m → Stands h n
one_stands h m n c s = subst (Stands h) (contains_one m n c) s

two_stand : (h : List Event) (m k n : ℕ) → Contains (m ∷ k ∷ []) n → Stands h m → Stands h k → Stands h n
two_stand h m k n c s r =
    elim (contains_cases m n (k ∷ []) c) [ inl e ↦ subst (Stands h) e s | inr d ↦ one_stands h k n d r ]

-- ---- terms

module _ (h : List Event) (find : Symbol → List (List ℕ) → Option PlainOperator)
    (seen : (b k : ℕ) (sorts : List (List ℕ)) (o : PlainOperator) → find (Constant b k) sorts ≡ Some o → Stands h b)
  where
    symbol_stands : (y : Symbol) (sorts : List (List ℕ)) (o : PlainOperator) → find y sorts ≡ Some o → (n : ℕ)
        → Contains (box_of_symbol y) n → Stands h n
    symbol_stands (Own k) sorts o e n c = absurd (contains_none n c)
    symbol_stands (Constant b k) sorts o e n c = one_stands h b n c (seen b k sorts o e)
    symbol_stands (BuiltIn b) sorts o e n c = absurd (contains_none n c)

    mutual
      term_stands : (c : CodedTree) (a : Tree) → decode find c ≡ Some a → (n : ℕ) → Contains (boxes_in c) n → Stands h n
      term_stands (coded_var m s) a e n d = absurd (contains_none n d)
      term_stands (coded_app y cs) a e n d =
          option_and_then_some (λ ts. option_and_then (applied_to ts) (find y (sorts_of ts))) (decode_all find cs) a e
          (λ ts p q. option_and_then_some (applied_to ts) (find y (sorts_of ts)) a q
          (λ o r w. elim (contains_either (box_of_symbol y) (boxes_in_all cs) n d) [
            | inl x ↦ symbol_stands y (sorts_of ts) o r n x
            | inr x ↦ terms_stand cs ts p n x
          ]))

      terms_stand : (cs : CodedForest) (ts : Forest) → decode_all find cs ≡ Some ts → (n : ℕ)
          → Contains (boxes_in_all cs) n → Stands h n
      terms_stand no_terms ts e n d = absurd (contains_none n d)
      terms_stand (term_then c cs) ts e n d =
          option_and_then_some (λ t. option_map (λ us. more t us) (decode_all find cs)) (decode find c) ts e
          (λ t p q. option_map_some (λ us. more t us) (decode_all find cs) ts q
          (λ us r w. elim (contains_either (boxes_in c) (boxes_in_all cs) n d) [
            | inl x ↦ term_stands c t p n x
            | inr x ↦ terms_stand cs us r n x
          ]))

    pub equation_stands : (e : CodedEquation) (s : Statement) → decode_equation find e ≡ Some s → (n : ℕ)
        → Contains (boxes_in_equation e) n → Stands h n
    equation_stands e s q n d =
        option_and_then_some (λ l. option_and_then (equation_between l) (decode find e.right)) (decode find e.left) s q
        (λ l p v. option_and_then_some (equation_between l) (decode find e.right) s v
        (λ r w x. elim (contains_either (boxes_in e.left) (boxes_in e.right) n d) [
          | inl y ↦ term_stands e.left l p n y
          | inr y ↦ term_stands e.right r w n y
        ]))

    pub equations_stand : (es : List CodedEquation) (ss : List Statement) → each (decode_equation find) es ≡ Some ss
        → (n : ℕ) → Contains (flat_map boxes_in_equation es) n → Stands h n
    equations_stand [] ss q n d = absurd (contains_none n d)
    equations_stand (e ∷ es) ss q n d =
        option_and_then_some (λ y. option_map (λ ys. y ∷ ys) (each (decode_equation find) es))
        (decode_equation find e) ss q
        (λ s p v. option_map_some (λ ys. s ∷ ys) (each (decode_equation find) es) ss v
        (λ rs w x. elim (contains_either (boxes_in_equation e) (flat_map boxes_in_equation es) n d) [
          | inl y ↦ equation_stands e s p n y
          | inr y ↦ equations_stand es rs w n y
        ]))

    bindings_stand : (bs : List Binding) (es : List Entry) → each (decode_binding find) bs ≡ Some es → (n : ℕ)
        → Contains (flat_map boxes_in_binding bs) n → Stands h n
    bindings_stand [] es q n d = absurd (contains_none n d)
    bindings_stand (b ∷ bs) es q n d =
        option_and_then_some (λ y. option_map (λ ys. y ∷ ys) (each (decode_binding find) bs))
        (decode_binding find b) es q
        (λ s p v. option_map_some (λ ys. s ∷ ys) (each (decode_binding find) bs) es v
        (λ rs w x. elim (contains_either (boxes_in_binding b) (flat_map boxes_in_binding bs) n d) [
          | inl y ↦ option_and_then_some (entry_for b) (decode find b.term) s p (λ a i j. term_stands b.term a i n y)
          | inr y ↦ bindings_stand bs rs w n y
        ]))

pub symbols_stand : (t : Theory) (h : List Event) (b k : ℕ) (sorts : List (List ℕ)) (o : PlainOperator)
    → find_symbol t h (Constant b k) sorts ≡ Some o → Stands h b
symbols_stand t h b k sorts o e =
    option_and_then_some (λ box. numbered (operators_of box) k) (find_open h b) o e (λ box p q. open_stands h b box p)

-- ---- lists of boxes and lines

cases_stand : (h : List Event) (x : CodedVar) (e : Statement) (fs : List PlainOperator) (bs : List ℕ)
    → shows_cases h x e fs bs ≡ true → (n : ℕ) → Contains bs n → Stands h n
cases_stand h x (statement.Equation l r) [] [] e n c = absurd (contains_none n c)
cases_stand h x (statement.Equation l r) [] (b ∷ bs) e n c = cc
cases_stand h x (statement.Equation l r) (f ∷ fs) [] e n c = cc
cases_stand h x (statement.Equation l r) (f ∷ fs) (b ∷ bs) e n c =
    let one = option_map_or (shows_case x l r f) (find_closed h b) false in
    let rest = shows_cases h x (statement.Equation l r) fs bs in
    elim (contains_cases b n bs c) [
      | inl q ↦ map_or_true (shows_case x l r f) (find_closed h b) (and_left one rest e)
          (λ y p w. subst (Stands h) q (closed_stands h b y p))
      | inr d ↦ cases_stand h x (statement.Equation l r) fs bs (and_right one rest e) n d
    ]
cases_stand h x (statement.Generated s gs) fs bs e n c = cc
cases_stand h x (statement.Partitioned s gs) fs bs e n c = cc

induct_stands : (h : List Event) (x : CodedVar) (bs : List ℕ) (e c s : Statement) → induct_over h x bs e c ≡ Some s
    → (n : ℕ) → Contains bs n → Stands h n
induct_stands h x bs e (statement.Equation l r) s q n d = cc
induct_stands h x bs e (statement.Generated z fs) s q n d =
    let w = cond_then (bytes_eq z x.sort && shows_cases h x e fs bs) (Some e) s q in
    cases_stand h x e fs bs (and_right (bytes_eq z x.sort) (shows_cases h x e fs bs) w.0) n d
induct_stands h x bs e (statement.Partitioned z fs) s q n d = cc

same_stand : (h : List Event) (l r : Tree) (ws : List Observation) (ns : List ℕ) → show_same h l r ws ns ≡ true
    → (n : ℕ) → Contains ns n → Stands h n
same_stand h l r [] [] e n c = absurd (contains_none n c)
same_stand h l r [] (m ∷ ns) e n c = cc
same_stand h l r (w ∷ ws) [] e n c = cc
same_stand h l r (w ∷ ws) (m ∷ ns) e n c =
    let one = option_map_or (shows_same l r w) (find_line h m) false in
    let rest = show_same h l r ws ns in
    elim (contains_cases m n ns c) [
      | inl q ↦ map_or_true (shows_same l r w) (find_line h m) (and_left one rest e)
          (λ y p v. subst (Stands h) q (line_stands h m y p))
      | inr d ↦ same_stand h l r ws ns (and_right one rest e) n d
    ]

observed_stand : (h : List Event) (ns : List ℕ) (e c s : Statement) → observed_equal h ns e c ≡ Some s → (n : ℕ)
    → Contains ns n → Stands h n
observed_stand h ns (statement.Equation l r) (statement.Equation a b) s q n d = cc
observed_stand h ns (statement.Equation l r) (statement.Generated z fs) s q n d = cc
observed_stand h ns (statement.Equation l r) (statement.Partitioned z os) s q n d =
    let test = show_same h l r (observations_of z os) ns in
    let w = cond_then (bytes_eq (sort_of l) z && test) (Some (statement.Equation l r)) s q in
    same_stand h l r (observations_of z os) ns (and_right (bytes_eq (sort_of l) z) test w.0) n d
observed_stand h ns (statement.Generated z fs) c s q n d = cc
observed_stand h ns (statement.Partitioned z fs) c s q n d = cc

first_stands : (h : List Event) (m n : ℕ) (ns : List ℕ) → Contains (m ∷ ns) n → Stands h m
    → (Contains ns n → Stands h n) → Stands h n
first_stands h m n ns c s k = elim (contains_cases m n ns c) [ inl e ↦ subst (Stands h) e s | inr d ↦ k d ]

-- what a line names that says something
pub named_stand : (t : Theory) (h : List Event) (l : Line) (s : Statement) → judge t h l ≡ Some s → (n : ℕ)
    → Contains (names l) n → Stands h n
named_stand t h (Axiom k) s e n c = absurd (contains_none n c)
named_stand t h (Hyp b k) s e n c =
    option_and_then_some (λ box. numbered box.hypotheses k) (find_open h b) s e
    (λ box p q. one_stands h b n c (open_stands h b box p))
named_stand t h (Row k z) s e n c = absurd (contains_none n c)
named_stand t h (Refl a) s e n c =
    let f = find_symbol t h in
    option_map_some (λ x. statement.Equation x x) (decode f a) s e
    (λ x p q. term_stands h f (symbols_stand t h) a x p n c)
named_stand t h (Sym m) s e n c =
    option_and_then_some exchange_sides (find_line h m) s e (λ x p q. one_stands h m n c (line_stands h m x p))
named_stand t h (Inst m bs) s e n c =
    let f = find_symbol t h in
    let go : List Entry → Option Statement = λ es. option_and_then (instance_by es) (find_line h m) in
    let all = option_and_then go (each (decode_binding f) bs) in
    let w = cond_then (all_different (map replaced_variable bs)) all s e in
    option_and_then_some go (each (decode_binding f) bs) s w.1
    (λ es p q. option_and_then_some (instance_by es) (find_line h m) s q
    (λ x i j. first_stands h m n (flat_map boxes_in_binding bs) c (line_stands h m x i)
    (bindings_stand h f (symbols_stand t h) bs es p n)))
named_stand t h (Repl m p k) s e n c =
    option_and_then_some (λ x. option_and_then (replace_right p x) (find_line h k)) (find_line h m) s e
    (λ x i j. option_and_then_some (replace_right p x) (find_line h k) s j
    (λ y v w. two_stand h m k n c (line_stands h m x i) (line_stands h k y v)))
named_stand t h (Equal m) s e n c =
    option_and_then_some stated_equal (find_line h m) s e (λ x p q. one_stands h m n c (line_stands h m x p))
named_stand t h (BoxLine ps es) s e n c = cc
named_stand t h Done s e n c = cc
named_stand t h (Fresh b vs) s e n c =
    option_and_then_some (λ x. freed_result x.0 x.1 (map variable_of vs)) (find_closed h b) s e
    (λ x p q. one_stands h b n c (closed_stands h b x p))
named_stand t h (Cases b d) s e n c =
    option_and_then_some (λ x. option_and_then (cases_of x) (find_closed h d)) (find_closed h b) s e
    (λ x p q. option_and_then_some (cases_of x) (find_closed h d) s q
    (λ y i j. two_stand h b d n c (closed_stands h b x p) (closed_stands h d y i)))
named_stand t h (Induct m x a bs) s e n c =
    let f = find_symbol t h in
    let es = boxes_in_equation a in
    option_and_then_some (λ q. option_and_then (induct_over h x bs q) (find_line h m)) (decode_equation f a) s e
    (λ q i j. option_and_then_some (induct_over h x bs q) (find_line h m) s j
    (λ g v w. first_stands h m n (es ++ bs) c (line_stands h m g v)
    (λ d. elim (contains_either es bs n d) [
      | inl y ↦ equation_stands h f (symbols_stand t h) a q i n y
      | inr y ↦ induct_stands h x bs q g s w n y
    ])))
named_stand t h (Observe m a ns) s e n c =
    let f = find_symbol t h in
    let es = boxes_in_equation a in
    option_and_then_some (λ q. option_and_then (observed_equal h ns q) (find_line h m)) (decode_equation f a) s e
    (λ q i j. option_and_then_some (observed_equal h ns q) (find_line h m) s j
    (λ g v w. first_stands h m n (es ++ ns) c (line_stands h m g v)
    (λ d. elim (contains_either es ns n d) [
      | inl y ↦ equation_stands h f (symbols_stand t h) a q i n y
      | inr y ↦ observed_stand h ns q g s w n y
    ])))
named_stand t h (Generated b z ks) s e n c =
    option_and_then_some (λ x. option_and_then (generated_by z x) (own_operators t ks)) (find_closed h b) s e
    (λ x p q. one_stands h b n c (closed_stands h b x p))
named_stand t h (Partitioned b z ks) s e n c =
    option_and_then_some (λ x. option_and_then (partitioned_by z x) (own_operators t ks)) (find_closed h b) s e
    (λ x p q. one_stands h b n c (closed_stands h b x p))
