-- What last lines say: where the rule of one shows no clause, and it is no axiom line of one, it says an equation.
use Rattle.std.proofs.Common.{◌≡◌, ℕ, true, false, cond, ◌&&◌, List, [], ◌∷◌, ◌++◌, map, bytes_eq, Option, Some}
use Rattle.std.proofs.Common.{None, option_and_then, refl, sym, ◌∙◌, ap, subst}
use Rattle.std.specs.List.{list_all, list_any}
use Rattle.std.specs.Option.{option_map_or}
use Rattle.std.proofs.lemmas.Option.{option_and_then_some, cond_some}
use Rattle.larch_base.specs.ByNumber.{numbered}
use Rattle.larch_term.specs.BuiltIn.{bool_sort}
use Rattle.larch_term.specs.Equality.{same_statement}
use Rattle.larch_term.specs.Operator.{PlainOperator}
use Rattle.larch_term.specs.Place.{at, put}
use Rattle.larch_term.specs.Sorts.{sort_of}
use Rattle.larch_term.specs.Tree.{Tree}
use Rattle.larch_term.specs.Truth.{truth}
use Rattle.larch_term.specs.declared.statement.Statement.{Statement}
use Rattle.larch_term.specs.declared.statement.Statement.TheVariants as statement
use Rattle.larch_term.specs.declared.statement.Theory.{Theory}
use Rattle.larch_term.specs.declared.substitution.Entry.{Entry}
use Rattle.larch_term.specs.declared.variable.Variable.{Variable}
use Rattle.larch_calculus.specs.Formula.{equality}
use Rattle.larch_calculus.specs.Observation.{observations_of}
use Rattle.larch_tables.proofs.Identities.{row_identity}
use Rattle.larch_tables.specs.Statement.{IsIdentityStatement}
use Rattle.larch_tables.specs.Tables.{built_in_rows}
use Rattle.larch_certificate.specs.declared.line.CodedEquation.{CodedEquation}
use Rattle.larch_certificate.specs.declared.line.CodedVar.{CodedVar}
use Rattle.larch_certificate.specs.declared.line.Line.{Line}
use Rattle.larch_certificate.specs.declared.line.Line.TheVariants.{Axiom, Hyp, Row, Refl, Sym, Inst, Repl, Equal}
use Rattle.larch_certificate.specs.declared.line.Line.TheVariants.{BoxLine, Done, Fresh, Cases, Induct, Observe}
use Rattle.larch_certificate.specs.declared.line.Line.TheVariants.{Generated, Partitioned}
use Rattle.larch_certificate.specs.declared.symbol.Symbol.{Symbol}
use Rattle.larch_verify_meaning.specs.BoxRules.{freed_equation, freed_result, equation_alone, common_result}
use Rattle.larch_verify_meaning.specs.BoxRules.{cases_of, only_left_side, shows_cases, induct_over}
use Rattle.larch_verify_meaning.specs.ClauseRules.{show_same, observed_equal, own_operators, shows_generated}
use Rattle.larch_verify_meaning.specs.ClauseRules.{generated_by, shows_partitioned, partitioned_by}
use Rattle.larch_verify_meaning.specs.Context.{find_line, find_open, find_closed, find_symbol, innermost}
use Rattle.larch_verify_meaning.specs.Decoding.{each, decode, equation_between, decode_equation, decode_binding}
use Rattle.larch_verify_meaning.specs.Events.{PlainBox, operators_of, Event, Said, Opened, Closed}
use Rattle.larch_verify_meaning.specs.LastLine.{is_clause, states_clause, ends_with_stated_clause}
use Rattle.larch_verify_meaning.specs.Matching.{is_empty, all_different, variable_of, has_constants}
use Rattle.larch_verify_meaning.specs.Rules.{row_says, exchange_sides, instance_by, replaced_variable}
use Rattle.larch_verify_meaning.specs.Rules.{stands_at, replace_right, equality_sides, stated_equal}
use Rattle.larch_verify_meaning.specs.Run.{judge}
use Rattle.larch_verify_law.proofs.Told.{option_map_some, cond_then, cond_either}
use Rattle.larch_verify_law.specs.Carrying.{IsEquation}
use Rattle.larch_derive_join.specs.Joined.{shows_clause}

same_some : (s z : Statement) → Some s ≡ Some z → s ≡ z
same_some s z e = cc

given : (a b : Tree) (s : Statement) → statement.Equation a b ≡ s → IsEquation s
given a b s e = subst IsEquation e tt

pub no_clause : (s : Statement) → is_clause s ≡ false → IsEquation s
no_clause (statement.Equation a b) e = tt
no_clause (statement.Generated z fs) e = cc
no_clause (statement.Partitioned z fs) e = cc

identity_equation : (s : Statement) → IsIdentityStatement s → IsEquation s
identity_equation (statement.Equation a b) i = tt
identity_equation (statement.Generated z fs) i = absurd i
identity_equation (statement.Partitioned z fs) i = absurd i

row_equation : (k : ℕ) (z : Option (List ℕ)) (s : Statement) → row_says k z ≡ Some s → IsEquation s
row_equation k None s e =
    option_and_then_some (λ row. cond row.sorted None (Some row.given)) (numbered (built_in_rows bool_sort) k) s e
    (λ row p q. cond_either row.sorted None (Some row.given) s q (λ a b. cc)
    (λ a b. subst IsEquation (same_some row.given s b)
    (identity_equation row.given (row_identity bool_sort k row p))))
row_equation k (Some z) s e =
    option_and_then_some (λ row. cond row.sorted (Some row.given) None) (numbered (built_in_rows z) k) s e
    (λ row p q. cond_either row.sorted (Some row.given) None s q
    (λ a b. subst IsEquation (same_some row.given s b) (identity_equation row.given (row_identity z k row p)))
    (λ a b. cc))

no_box_found : (h : List Event) (b : ℕ) (x : PlainBox) → innermost h ≡ None → find_open h b ≡ Some x → ⊥
no_box_found [] b x e f = cc
no_box_found (Said n s ∷ h) b x e f = no_box_found h b x e f
no_box_found (Opened a ∷ h) b x e f = cc
no_box_found (Closed a s ∷ h) b x e f = no_box_found h b x e f

exchanged : (q s : Statement) → exchange_sides q ≡ Some s → IsEquation s
exchanged (statement.Equation a b) s e = given b a s (same_some (statement.Equation b a) s e)
exchanged (statement.Generated z fs) s e = cc
exchanged (statement.Partitioned z fs) s e = cc

instanced : (es : List Entry) (q s : Statement) → instance_by es q ≡ Some s → IsEquation s
instanced es (statement.Equation a b) s e = subst IsEquation (same_some _ s e) tt
instanced es (statement.Generated z fs) s e = cc
instanced es (statement.Partitioned z fs) s e = cc

replaced : (p : List ℕ) (q z s : Statement) → replace_right p q z ≡ Some s → IsEquation s
replaced p (statement.Equation a b) (statement.Equation u v) s e =
    given a (put b p v) s (cond_some (stands_at b p u) (statement.Equation a (put b p v)) s e).1
replaced p (statement.Equation a b) (statement.Generated z fs) s e = cc
replaced p (statement.Equation a b) (statement.Partitioned z fs) s e = cc
replaced p (statement.Generated y fs) z s e = cc
replaced p (statement.Partitioned y fs) z s e = cc

stated : (q s : Statement) → stated_equal q ≡ Some s → IsEquation s
stated (statement.Equation a b) s e =
    let q = statement.Equation a b in
    option_and_then_some (λ u. option_and_then (equality_sides q u) (at a (2 ∷ []))) (at a (1 ∷ [])) s e
    (λ u i j. option_and_then_some (equality_sides q u) (at a (2 ∷ [])) s j
    (λ v k w. given u v s
    (cond_some (same_statement q (statement.Equation (equality (sort_of u) u v) truth))
    (statement.Equation u v) s w).1))
stated (statement.Generated z fs) s e = cc
stated (statement.Partitioned z fs) s e = cc

freed : (cs : List PlainOperator) (vs : List Variable) (q s : Statement) → freed_equation cs vs q ≡ Some s
    → IsEquation s
freed cs vs (statement.Equation a b) s e = subst IsEquation (same_some _ s e) tt
freed cs vs (statement.Generated z fs) s e = cc
freed cs vs (statement.Partitioned z fs) s e = cc

alone : (q s : Statement) → equation_alone q ≡ Some s → IsEquation s
alone (statement.Equation a b) s e = given a b s (same_some (statement.Equation a b) s e)
alone (statement.Generated z fs) s e = cc
alone (statement.Partitioned z fs) s e = cc

decoded : (find : Symbol → List (List ℕ) → Option PlainOperator) (c : CodedEquation) (s : Statement)
    → decode_equation find c ≡ Some s → IsEquation s
decoded find c s e =
    option_and_then_some (λ l. option_and_then (equation_between l) (decode find c.right)) (decode find c.left) s e
    (λ l p q. option_and_then_some (equation_between l) (decode find c.right) s q
    (λ r i j. given l r s (cond_some (bytes_eq (sort_of l) (sort_of r)) (statement.Equation l r) s j).1))

inducted : (h : List Event) (x : CodedVar) (bs : List ℕ) (q c s : Statement) → induct_over h x bs q c ≡ Some s → q ≡ s
inducted h x bs q (statement.Generated z fs) s e = (cond_some (bytes_eq z x.sort && shows_cases h x q fs bs) q s e).1
inducted h x bs q (statement.Equation a b) s e = cc
inducted h x bs q (statement.Partitioned z fs) s e = cc

observed : (h : List Event) (ns : List ℕ) (q c s : Statement) → observed_equal h ns q c ≡ Some s → IsEquation s
observed h ns (statement.Equation a b) (statement.Partitioned z os) s e =
    given a b s (cond_some (bytes_eq (sort_of a) z && show_same h a b (observations_of z os) ns)
    (statement.Equation a b) s e).1
observed h ns (statement.Equation a b) (statement.Equation c d) s e = cc
observed h ns (statement.Equation a b) (statement.Generated z fs) s e = cc
observed h ns (statement.Generated z fs) c s e = cc
observed h ns (statement.Partitioned z fs) c s e = cc

-- where no box is open, a line that shows no clause and is no axiom line of one says an equation
pub says_equation : (t : Theory) (h : List Event) (l : Line) (s : Statement) → innermost h ≡ None
    → shows_clause l ≡ false → states_clause t l ≡ false → judge t h l ≡ Some s → IsEquation s
says_equation t h (Axiom k) s i a b e =
    no_clause s (sym (ap (λ o. option_map_or is_clause o false) e) ∙ b)
says_equation t h (Hyp b k) s i a c e =
    option_and_then_some (λ y. numbered y.hypotheses k) (find_open h b) s e
    (λ y p q. absurd (no_box_found h b y i p))
says_equation t h (Row k z) s i a b e = row_equation k z s e
says_equation t h (Refl c) s i a b e =
    option_map_some (λ u. statement.Equation u u) (decode (find_symbol t h) c) s e (λ u p q. given u u s q)
says_equation t h (Sym n) s i a b e =
    option_and_then_some exchange_sides (find_line h n) s e (λ q p j. exchanged q s j)
says_equation t h (Inst n bs) s i a b e =
    let find = decode_binding (find_symbol t h) in
    let go : List Entry → Option Statement = λ es. option_and_then (instance_by es) (find_line h n) in
    let c = cond_then (all_different (map replaced_variable bs)) (option_and_then go (each find bs)) s e in
    option_and_then_some go (each find bs) s c.1
    (λ es p q. option_and_then_some (instance_by es) (find_line h n) s q (λ z j k. instanced es z s k))
says_equation t h (Repl n p k) s i a b e =
    option_and_then_some (λ q. option_and_then (replace_right p q) (find_line h k)) (find_line h n) s e
    (λ q j w. option_and_then_some (replace_right p q) (find_line h k) s w (λ z o v. replaced p q z s v))
says_equation t h (Equal n) s i a b e =
    option_and_then_some stated_equal (find_line h n) s e (λ q p j. stated q s j)
says_equation t h (BoxLine ps es) s i a b e = cc
says_equation t h Done s i a b e = cc
says_equation t h (Fresh n vs) s i a b e =
    option_and_then_some (λ c. freed_result c.0 c.1 (map variable_of vs)) (find_closed h n) s e
    (λ c p q.
    let ws = map variable_of vs in
    freed (operators_of c.0) ws c.1 s
    (cond_then (is_empty c.0.hypotheses && has_constants c.0 (map (λ v. v.sort) ws))
    (freed_equation (operators_of c.0) ws c.1) s q).1)
says_equation t h (Cases n k) s i a b e =
    option_and_then_some (λ d. option_and_then (cases_of d) (find_closed h k)) (find_closed h n) s e
    (λ c p q. option_and_then_some (cases_of c) (find_closed h k) s q
    (λ d j w. option_and_then_some (common_result c d) (only_left_side c.0.hypotheses) s w
    (λ f o v. alone c.1 s (cond_then _ (equation_alone c.1) s v).1)))
says_equation t h (Induct n x c bs) s i a b e =
    option_and_then_some (λ q. option_and_then (induct_over h x bs q) (find_line h n))
    (decode_equation (find_symbol t h) c) s e
    (λ q p j. option_and_then_some (induct_over h x bs q) (find_line h n) s j
    (λ z k w. subst IsEquation (inducted h x bs q z s w) (decoded (find_symbol t h) c q p)))
says_equation t h (Observe n c ns) s i a b e =
    option_and_then_some (λ q. option_and_then (observed_equal h ns q) (find_line h n))
    (decode_equation (find_symbol t h) c) s e
    (λ q p j. option_and_then_some (observed_equal h ns q) (find_line h n) s j
    (λ z k w. observed h ns q z s w))
says_equation t h (Generated n z ks) s i a b e = cc
says_equation t h (Partitioned n z ks) s i a b e = cc

-- a line that shows a clause says no equation
pub says_clause : (t : Theory) (h : List Event) (l : Line) (s : Statement) → shows_clause l ≡ true
    → judge t h l ≡ Some s → IsEquation s → ⊥
says_clause t h (Axiom k) s a e = cc
says_clause t h (Hyp b k) s a e = cc
says_clause t h (Row k z) s a e = cc
says_clause t h (Refl c) s a e = cc
says_clause t h (Sym n) s a e = cc
says_clause t h (Inst n bs) s a e = cc
says_clause t h (Repl n p k) s a e = cc
says_clause t h (Equal n) s a e = cc
says_clause t h (BoxLine ps es) s a e = cc
says_clause t h Done s a e = cc
says_clause t h (Fresh n vs) s a e = cc
says_clause t h (Cases n k) s a e = cc
says_clause t h (Induct n x c bs) s a e = cc
says_clause t h (Observe n c ns) s a e = cc
says_clause t h (Generated n z ks) s a e =
    option_and_then_some (λ c. option_and_then (generated_by z c) (own_operators t ks)) (find_closed h n) s e
    (λ c p q. option_and_then_some (generated_by z c) (own_operators t ks) s q
    (λ fs i j k. subst IsEquation
    (sym (cond_some (list_all (λ f. bytes_eq f.range z) fs && shows_generated z fs c.0 c.1) (statement.Generated z fs) s
    j).1) k))
says_clause t h (Partitioned n z ks) s a e =
    option_and_then_some (λ c. option_and_then (partitioned_by z c) (own_operators t ks)) (find_closed h n) s e
    (λ c p q. option_and_then_some (partitioned_by z c) (own_operators t ks) s q
    (λ os i j k. subst IsEquation
    (sym (cond_some (list_all (λ o. list_any (bytes_eq z) o.domain) os && shows_partitioned z os c.0 c.1)
    (statement.Partitioned z os) s j).1) k))

-- the last of lines is the one behind the others
pub ends_at : (t : Theory) (ls : List Line) (l : Line)
    → ends_with_stated_clause t (ls ++ l ∷ []) ≡ states_clause t l
ends_at t [] l = refl
ends_at t (k ∷ []) l = refl
ends_at t (k ∷ j ∷ ls) l = ends_at t (j ∷ ls) l
