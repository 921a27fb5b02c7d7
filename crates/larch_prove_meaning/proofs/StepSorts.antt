-- Each command keeps a proof well sorted.
use Rattle.std.specs.Prelude.{◌≡◌, ℕ, ◌+◌, Bool, true, false, not, cond, List, [], ◌∷◌, ◌++◌, map, filter, find}
use Rattle.std.specs.Prelude.{All, Contains, Option, Some, None, Result, Ok, Err, refl}
use Rattle.std.proofs.Common.{ap, ap₂, sym, subst, ◌∙◌}
use Rattle.std.proofs.lemmas.List.{append_assoc, append-nil}
use Rattle.std.proofs.lemmas.List.Elements.{All-weaker, All-cons, All-nil, All-head, All-tail, All-append}
use Rattle.larch_base.specs.declared.code.Code.{Code}
use Rattle.larch_base.specs.declared.code.Code.TheVariants as refusal
use Rattle.larch_base.specs.declared.fact_name.FactName.{FactName}
use Rattle.larch_base.specs.declared.fault.Fault.{Fault}
use Rattle.larch_base.specs.declared.way.Way.{Way}
use Rattle.larch_raw.specs.declared.declared.RawOpRef.{RawOpRef}
use Rattle.larch_raw.specs.declared.equation.RawEquation.{RawEquation}
use Rattle.larch_script_commands.specs.Same.{same_fact_name, same_truth}
use Rattle.larch_script_commands.specs.declared.command.CommandKind.{CommandKind}
use Rattle.larch_script_commands.specs.declared.command.CommandKind.TheVariants as command
use Rattle.larch_script_commands.specs.declared.command.RawInstance.{RawInstance}
use Rattle.larch_base.proofs.Lists.{all_from}
use Rattle.larch_base.proofs.Members.{contained_in_filter, contained_in_map, contains_here, contains_later}
use Rattle.larch_base.proofs.Options.{some_inj}
use Rattle.larch_term.specs.Operator.{PlainOperator}
use Rattle.larch_term.specs.BuiltIn.{bool_sort}
use Rattle.larch_term.specs.Sorts.{IsOver, IsTermOver, sort_of}
use Rattle.larch_term.specs.Statement.{IsStatementOver, IsWellSortedTheory, statement_zero}
use Rattle.larch_term.specs.Tree.{Tree}
use Rattle.larch_term.specs.declared.statement.Statement.{Statement}
use Rattle.larch_term.specs.declared.statement.Statement.TheVariants.{Equation, Generated, Partitioned}
use Rattle.larch_term.specs.declared.statement.Theory.{Theory}
use Rattle.larch_term.specs.declared.substitution.Entry.{Entry}
use Rattle.larch_term.specs.declared.variable.Variable.{Variable}
use Rattle.larch_rewrite_meaning.specs.CalculusFormula.{formula}
use Rattle.larch_rewrite_meaning.specs.CalculusTheories.{AreNew, IsFront}
use Rattle.larch_rewrite_meaning.proofs.CalculusSorted.{knows_more, statement_over_more, zero_over}
use Rattle.larch_base_meaning.specs.Steps.{after}
use Rattle.larch_sorts_meaning.specs.Read.{read_equation, read_term}
use Rattle.larch_sorts_meaning.proofs.ReadAnswers.{equation_ok, term_ok}
use Rattle.larch_sorts_meaning.proofs.Sorted.{statement_over, well_sorted}
use Rattle.larch_rewrite_meaning.specs.Sides.{Sides, AreSidesOver, sides_under}
use Rattle.larch_rewrite_meaning.proofs.Matches.{AreBound, IsBound}
use Rattle.larch_pairs_critical.specs.Overlap.{AreSorted, IsApplication}
use Rattle.larch_pairs_critical.specs.Pairs.{critical_pairs}
use Rattle.larch_pairs_critical.specs.declared.pair.Pair.{Pair}
use Rattle.larch_pairs_critical.proofs.OverOperators.{pairs_over}
use Rattle.larch_pairs_critical.proofs.Sorting.{all_sorted}
use Rattle.larch_pairs_critical.specs.PairsUnify.{Oversize}
use Rattle.larch_prove_meaning.specs.Facts.{Fact}
use Rattle.larch_prove_meaning.specs.Levels.{EarlierDuty, OfProof, Proof, all_constants, all_serve, begun, derive}
use Rattle.larch_prove_meaning.specs.Levels.{derived_by, is_settled, level_for, normal_goal, settle_goal, unless}
use Rattle.larch_prove_meaning.specs.Plans.{Cases, Conjunction, Contradiction, Implication, Induction, IsFormulaOver}
use Rattle.larch_prove_meaning.specs.Plans.{IsMethodOver, IsSubgoalOver, Method, Partition, Setting, plan, with_found}
use Rattle.larch_prove_meaning.specs.Replays.{Refusal, RefusalPlace, all_stepped, by_kind, count_command}
use Rattle.larch_prove_meaning.specs.Replays.{is_quiet, locate, mark_taken, mark_command, step}
use Rattle.larch_prove_meaning.specs.Replays.{step_command, unless_marks_wait, unless_proved}
use Rattle.larch_prove_meaning.specs.Steps.{all_derived, as_sides, carried_out, clauses, declare, equations_of}
use Rattle.larch_prove_meaning.specs.Steps.{fact_named, has_name, heighten, instantiate, instantiation, level_opened}
use Rattle.larch_prove_meaning.specs.Steps.{normalize, own_operators, pair_facts, read_sides, read_lone, read_or}
use Rattle.larch_prove_meaning.specs.Steps.{refer}
use Rattle.larch_prove_meaning.specs.Steps.{resume, rule_of, serves_beside, sides_or, stands_once}
use Rattle.larch_prove_meaning.specs.Steps.{taken_names, texts, variable_in, with_all_new, with_way, without}
use Rattle.larch_prove_meaning.specs.WellSorted.{AreLemmasOver, IsFactOver, IsLevelOver}
use Rattle.larch_prove_meaning.proofs.AddingSorts.{sides_under_over}
use Rattle.larch_prove_meaning.proofs.LevelSorts.{Is, Keeps, begun_keeps, between, derived_keeps, either_way}
use Rattle.larch_prove_meaning.proofs.LevelSorts.{goal_keeps, moved, ok_inj, scoped, settled_keeps, unless_passed}
use Rattle.larch_prove_meaning.proofs.NewConstants.{grown_new, own_taken, plan_new}
use Rattle.larch_prove_meaning.proofs.PartitionPlans.{formula_over}
use Rattle.larch_prove_meaning.proofs.PlanSorts.{plan_over}
use Rattle.larch_prove_meaning.proofs.Scopes.{all_new_apart}

-- ---- what a step leads to

-- a proof has the constants and maybe more, all of them new where those are, and is well sorted
pub record Leads (t : Theory) (ls : List EarlierDuty) (cs : List PlainOperator) (q : Proof) : Type 0 where
  pub made : List PlainOperator
  pub front : IsFront cs made
  pub new : AreNew t cs → AreNew t made
  pub sorted : Is t ls made q

pub stays : (t : Theory) (ls : List EarlierDuty) (cs : List PlainOperator) (q : Proof) → Is t ls cs q → Leads t ls cs q
stays t ls cs q h = record { made = cs; front = ([], sym (append-nil cs)); new = λ n. n; sorted = h }

-- the theory's statements and the lemmas are well sorted over the theory's operators
pub record AreGiven (t : Theory) (ls : List EarlierDuty) : Type 0 where
  pub theory : IsWellSortedTheory t
  pub lemmas : AreLemmasOver t.operators ls

pub own_are : (t : Theory) (ls : List EarlierDuty) (cs : List PlainOperator) (p : Proof) → Is t ls cs p
    → own_operators p ≡ t.operators ++ cs
own_are t ls cs p h = ap₂ (λ (u : Theory) ds. u.operators ++ ds) h.theory h.constants

clauses_are : (t : Theory) (ls : List EarlierDuty) (cs : List PlainOperator) → AreGiven t ls
    → All (IsStatementOver (t.operators ++ cs)) (statement_zero ∷ (t.statements ++ map (λ
    (l : EarlierDuty). l.statement) ls))
clauses_are t ls cs g =
    let fs = t.operators ++ cs in
    let more = statement_over_more t.operators fs (knows_more t.operators cs) in
    let lemmas = map (λ (l : EarlierDuty). l.statement) ls in
    All-cons (IsStatementOver fs) statement_zero (t.statements ++ lemmas) (zero_over fs)
    (All-append (IsStatementOver fs) t.statements lemmas
    (All-weaker (IsStatementOver t.operators) (IsStatementOver fs) more t.statements g.theory)
    (all_from (IsStatementOver fs) lemmas (λ s c.
    let found = contained_in_map (λ (l : EarlierDuty). l.statement) ls s c in
    subst (IsStatementOver fs) found.2 (more found.0.statement (at_lemma found.0 found.1)))))
  where
    at_lemma : (l : EarlierDuty) → Contains ls l → IsStatementOver t.operators l.statement
    at_lemma l c = subst (λ (x : EarlierDuty). IsStatementOver t.operators x.statement) c.2 (g.lemmas c.0 l c.1)

clauses_over : (t : Theory) (ls : List EarlierDuty) (cs : List PlainOperator) (p : Proof) → AreGiven t ls
    → Is t ls cs p → All (IsStatementOver (t.operators ++ cs)) (clauses p)
clauses_over t ls cs p g h =
    subst (All (IsStatementOver (t.operators ++ cs)))
    (ap₂ (λ (u : Theory) (ks : List EarlierDuty). statement_zero ∷ (u.statements ++ map (λ
    (l : EarlierDuty). l.statement) ks))
    (sym h.theory) (sym h.lemmas)) (clauses_are t ls cs g)

-- ---- readings

pub read_done : {A : Type 0} (r : Result A Fault) (x : A) → read_or r ≡ Ok x → r ≡ Ok x
read_done (Ok y) x e = ap (λ z. Ok z) (ok_inj e)
read_done (Err f) x e = cc

sides_read : (fs : List PlainOperator) (s : Statement) (e : Sides) → IsStatementOver fs s → as_sides s ≡ Ok e
    → AreSidesOver fs e
sides_read fs (Equation l r) e h k = subst (AreSidesOver fs) (ok_inj k) h
sides_read fs (Generated s gs) e h k = cc
sides_read fs (Partitioned s gs) e h k = cc

read_over : (t : Theory) (ls : List EarlierDuty) (cs : List PlainOperator) (p : Proof) (raw : RawEquation)
    (e : Sides) → Is t ls cs p → read_sides p raw ≡ Ok e → AreSidesOver (t.operators ++ cs) e
read_over t ls cs p raw e h k =
    let fs = own_operators p in
    let m = between (read_or (read_equation fs p.scope raw)) as_sides e k in
    let found = equation_ok fs p.scope raw m.made (read_done (read_equation fs p.scope raw) m.made m.first) in
    subst (λ gs. AreSidesOver gs e) (own_are t ls cs p h)
    (sides_read fs m.made e (statement_over fs p.scope raw m.made found.1.0) m.second)

lone_over : (t : Theory) (ls : List EarlierDuty) (cs : List PlainOperator) (p : Proof) (s : List ℕ) (raw : RawEquation)
    (u : Tree) → Is t ls cs p → read_lone p s raw ≡ Ok u
    → IsTermOver (t.operators ++ cs) u × (sort_of u ≡ s)
lone_over t ls cs p s raw u h k =
    let fs = own_operators p in
    let found = term_ok fs p.scope (Some s) raw u (read_done (read_term fs p.scope (Some s) raw) u k) in
    (subst (λ gs. IsTermOver gs u) (own_are t ls cs p h) (well_sorted fs p.scope raw.left u found.1.0.0), found.1.0.1)

-- ---- facts by name

first_or : {A : Type 0} (y x : A) (ys : List A) (b : Bool) (o : Option A) → (o ≡ Some x → Contains ys x)
    → cond b (Some y) o ≡ Some x → Contains (y ∷ ys) x
first_or y x ys true o go e = subst (Contains (y ∷ ys)) (some_inj e) (contains_here y ys)
first_or y x ys false o go e = contains_later y x ys (go e)

found_in : {A : Type 0} (test : A → Bool) (xs : List A) (x : A) → find test xs ≡ Some x → Contains xs x
found_in test [] x e = cc
found_in test (y ∷ ys) x e = first_or y x ys (test y) (find test ys) (λ i. found_in test ys x i) e

fact_over : (t : Theory) (ls : List EarlierDuty) (cs : List PlainOperator) (p : Proof) (n : FactName) (e : Sides)
    → Is t ls cs p → fact_named n p ≡ Ok e → AreSidesOver (t.operators ++ cs) e × IsApplication e.left
fact_over t ls cs p n e h k = by_found (find (has_name n) p.current.facts.rules) refl k
  where
    by_found : (o : Option Fact) → find (has_name n) p.current.facts.rules ≡ o → sides_or o ≡ Ok e
        → AreSidesOver (t.operators ++ cs) e × IsApplication e.left
    by_found None q i = cc
    by_found (Some fact) q i =
        let c = found_in (has_name n) p.current.facts.rules fact q in
        subst (λ (d : Sides). AreSidesOver (t.operators ++ cs) d × IsApplication d.left) (ok_inj i)
        (subst (IsFactOver (t.operators ++ cs)) c.2 (h.current.facts c.0 fact c.1))

without_keeps : (t : Theory) (ls : List EarlierDuty) (cs : List PlainOperator) (n : FactName) (p : Proof) → Is t ls cs p
    → Is t ls cs (without n p)
without_keeps t ls cs n p h =
    let fs = t.operators ++ cs in
    record {
      theory = h.theory;
      lemmas = h.lemmas;
      constants = h.constants;
      scope = h.scope;
      current = record {
        purpose = h.current.purpose;
        facts = all_from (IsFactOver fs) (filter (serves_beside n) p.current.facts.rules) (λ fact c.
            let kept = (contained_in_filter (serves_beside n) p.current.facts.rules fact c).0 in
            subst (IsFactOver fs) kept.2 (h.current.facts kept.0 fact kept.1));
        goal = h.current.goal;
        remaining = h.current.remaining;
      };
      below = h.below;
    }

-- ---- methods and proofs of formulas

resumed_keeps : (t : Theory) (ls : List EarlierDuty) (cs : List PlainOperator) (method : Method) (p q : Proof)
    → AreGiven t ls → Is t ls cs p → IsMethodOver (t.operators ++ cs) method → resume method p ≡ Ok q
    → Leads t ls cs q
resumed_keeps t ls cs method p q g h w k =
    let setting : Setting = record { clauses = clauses p; taken = taken_names p } in
    let m = between (plan setting p.current.goal method) (λ made. begun made p) q k in
    record {
      made = cs ++ all_constants m.made;
      front = (all_constants m.made, refl);
      new = grown_new t cs (all_constants m.made) (taken_names p)
          (λ f c. own_taken p f (subst (λ gs. Contains gs f) (sym (own_are t ls cs p h)) c))
          (plan_new setting p.current.goal method m.made m.first);
      sorted = begun_keeps t ls cs m.made p q h
          (plan_over (t.operators ++ cs) setting p.current.goal method m.made
          (clauses_over t ls cs p g h) h.current.goal w
          m.first) m.second;
    }

level_keeps : (t : Theory) (ls : List EarlierDuty) (cs : List PlainOperator) (f : Tree)
    → IsFormulaOver (t.operators ++ cs) f
    → Keeps t ls cs (level_opened f)
level_keeps t ls cs f w p q h k =
    let fs = t.operators ++ cs in
    let r : Proof = record p { current = level_for (OfProof f) p.current f; below = p.current ∷ p.below } in
    let m = between (normal_goal r) settle_goal q k in
    let start = moved t ls cs p (level_for (OfProof f) p.current f) (p.current ∷ p.below) h
    (record { purpose = w; facts = h.current.facts; goal = w; remaining = All-nil (IsSubgoalOver fs) })
    (All-cons (IsLevelOver fs) p.current p.below h.current h.below) in
    settled_keeps t ls cs m.made q (goal_keeps t ls cs r m.made start m.first) m.second

-- ---- additions

normalized_keeps : (t : Theory) (ls : List EarlierDuty) (cs : List PlainOperator) (n : FactName)
    → Keeps t ls cs (normalize n)
normalized_keeps t ls cs n p q h k =
    let m = between (fact_named n p) (λ e. after (derive e (without n p)) settle_goal) q k in
    let d = between (derive m.made (without n p)) settle_goal q m.second in
    settled_keeps t ls cs d.made q
    (derived_keeps t ls cs all_serve m.made (without n p) d.made (without_keeps t ls cs n p h)
    (fact_over t ls cs p n m.made h m.first).0 d.first) d.second

-- what is bound for the first pair, and for the others
instance_over : (t : Theory) (ls : List EarlierDuty) (cs : List PlainOperator) (p : Proof) (i : RawInstance) (b : Bool)
    (rest : Result (List Entry) Code) (o : Option Variable) (es : List Entry) → Is t ls cs p
    → ((ds : List Entry) → rest ≡ Ok ds → AreBound (IsTermOver (t.operators ++ cs)) ds)
    → with_found refusal.Variable o (λ v.
    unless refusal.Variable b
    (after (read_lone p v.sort i.term) (λ u.
    after rest (λ ds. Ok (record { name = v.name; sort = v.sort; term = u } ∷ ds))))) ≡ Ok es
    → AreBound (IsTermOver (t.operators ++ cs)) es
instance_over t ls cs p i b rest None es h go q = cc
instance_over t ls cs p i b rest (Some v) es h go q =
    let fs = t.operators ++ cs in
    let r = unless_passed refusal.Variable b (after (read_lone p v.sort i.term) (λ u.
    after rest (λ ds. Ok (record { name = v.name; sort = v.sort; term = u } ∷ ds)))) es q in
    let m = between (read_lone p v.sort i.term) (λ u.
    after rest (λ ds. Ok (record { name = v.name; sort = v.sort; term = u } ∷ ds))) es r in
    let d = between rest (λ ds. Ok (record { name = v.name; sort = v.sort; term = m.made } ∷ ds)) es m.second in
    subst (AreBound (IsTermOver fs)) (ok_inj d.second)
    (All-cons (IsBound (IsTermOver fs)) (record { name = v.name; sort = v.sort; term = m.made }) d.made
    (lone_over t ls cs p v.sort i.term m.made h m.first) (go d.made d.first))

instances_over : (t : Theory) (ls : List EarlierDuty) (cs : List PlainOperator) (p : Proof) (e : Sides)
    (names : List (List ℕ)) (is : List RawInstance) (es : List Entry) → Is t ls cs p
    → instantiation p e names is ≡ Ok es
    → AreBound (IsTermOver (t.operators ++ cs)) es
instances_over t ls cs p e names [] es h k =
    subst (AreBound (IsTermOver (t.operators ++ cs))) (ok_inj k) (All-nil (IsBound (IsTermOver (t.operators ++ cs))))
instances_over t ls cs p e names (i ∷ is) es h k =
    instance_over t ls cs p i (stands_once names i.name.name) (instantiation p e names is)
    (variable_in e i.name.name) es h
    (λ ds d. instances_over t ls cs p e names is ds h d) k

instantiated_keeps : (t : Theory) (ls : List EarlierDuty) (cs : List PlainOperator) (is : List RawInstance)
    (n : FactName) → Keeps t ls cs (instantiate is n)
instantiated_keeps t ls cs is n p q h k =
    let fs = t.operators ++ cs in
    let m = between (fact_named n p) (λ e.
    after (instantiation p e (map (λ i. i.name.name) is) is) (λ es.
    after (derived_by (serves_beside n) (sides_under es e) p) settle_goal)) q k in
    let s = between (instantiation p m.made (map (λ i. i.name.name) is) is) (λ es.
    after (derived_by (serves_beside n) (sides_under es m.made) p) settle_goal) q m.second in
    let d = between (derived_by (serves_beside n) (sides_under s.made m.made) p) settle_goal q s.second in
    settled_keeps t ls cs d.made q
    (derived_keeps t ls cs (serves_beside n) (sides_under s.made m.made) p d.made h
    (sides_under_over fs s.made m.made
    (instances_over t ls cs p m.made (map (λ i. i.name.name) is) is s.made h s.first)
    (fact_over t ls cs p n m.made h m.first).0) d.first) d.second

derived_all_keep : (t : Theory) (ls : List EarlierDuty) (cs : List PlainOperator) (es : List Sides)
    → All (AreSidesOver (t.operators ++ cs)) es → Keeps t ls cs (all_derived es)
derived_all_keep t ls cs [] w p q h k = subst (Is t ls cs) (ok_inj k) h
derived_all_keep t ls cs (e ∷ es) w p q h k =
    let fs = t.operators ++ cs in
    let m = between (derive e p) (λ r. elim (is_settled r.current) [ true ↦ Ok r | false ↦ all_derived es r ]) q k in
    let first = derived_keeps t ls cs all_serve e p m.made h (All-head (AreSidesOver fs) e es w) m.first in
    either_way (Is t ls cs) (is_settled m.made.current) (Ok m.made) (all_derived es m.made) q
    (λ i. subst (Is t ls cs) (ok_inj i) first)
    (λ i. derived_all_keep t ls cs es (All-tail (AreSidesOver fs) e es w) m.made q first i) m.second

-- the equations of critical pairs of facts
equations_over : (fs : List PlainOperator) (e d : Sides) (b : Bool) (o : Result (List Pair) Oversize) (es : List Sides)
    → AreSidesOver fs e → AreSidesOver fs d → IsApplication d.left → critical_pairs (rule_of e) (rule_of d) b ≡ o
    → equations_of o ≡ Ok es → All (AreSidesOver fs) es
equations_over fs e d b (Err x) es h k a c i = cc
equations_over fs e d b (Ok found) es h k a c i =
    let sorted = all_sorted (rule_of e) (rule_of d) b found (h.0.0, h.1.0, sym h.2) (k.0.0, k.1.0, sym k.2) a c in
    let over = pairs_over fs (rule_of e) (rule_of d) b found (h.0.1, h.1.1) (k.0.1, k.1.1) c in
    subst (All (AreSidesOver fs)) (ok_inj i)
    (all_from (AreSidesOver fs) (map (λ (q : Pair). record { left = q.left; right = q.right }) found) (λ s c.
    let f = contained_in_map (λ (q : Pair). record { left = q.left; right = q.right }) found s c in
    subst (AreSidesOver fs) f.2 (at_pair f.0 f.1 sorted over)))
  where
    at_pair : (q : Pair) → Contains found q → All (λ (y : Pair). AreSorted y.left y.right) found
        → All (λ (y : Pair). IsOver fs y.left × IsOver fs y.right) found
        → AreSidesOver fs (record { left = q.left; right = q.right })
    at_pair q c sorted over =
        let s = subst (λ (y : Pair). AreSorted y.left y.right) c.2 (sorted c.0 q c.1) in
        let o = subst (λ (y : Pair). IsOver fs y.left × IsOver fs y.right) c.2 (over c.0 q c.1) in
        ((s.0, o.0), (s.1, o.1), sym s.2)

paired_keeps : (t : Theory) (ls : List EarlierDuty) (cs : List PlainOperator) (n o : FactName)
    → Keeps t ls cs (pair_facts n o)
paired_keeps t ls cs n o p q h k =
    let fs = t.operators ++ cs in
    let m = between (fact_named n p) (λ e.
    after (fact_named o p) (λ d.
    after (equations_of (critical_pairs (rule_of e) (rule_of d) (same_fact_name n o))) (λ found.
    after (all_derived found p) settle_goal))) q k in
    let s = between (fact_named o p) (λ d.
    after (equations_of (critical_pairs (rule_of m.made) (rule_of d) (same_fact_name n o))) (λ found.
    after (all_derived found p) settle_goal)) q m.second in
    let f = between (equations_of (critical_pairs (rule_of m.made) (rule_of s.made) (same_fact_name n o))) (λ found.
    after (all_derived found p) settle_goal) q s.second in
    let d = between (all_derived f.made p) settle_goal q f.second in
    let one = fact_over t ls cs p n m.made h m.first in
    let two = fact_over t ls cs p o s.made h s.first in
    settled_keeps t ls cs d.made q
    (derived_all_keep t ls cs f.made
    (equations_over fs m.made s.made (same_fact_name n o)
    (critical_pairs (rule_of m.made) (rule_of s.made) (same_fact_name n o)) f.made one.0 two.0 two.1 refl f.first)
    p d.made h d.first) d.second

-- ---- settings

pub declared_keeps : (t : Theory) (ls : List EarlierDuty) (cs : List PlainOperator) (ns : List (List ℕ)) (s : List ℕ)
    → Keeps t ls cs (declare ns s)
declared_keeps t ls cs ns s p q h k =
    let a = unless_passed refusal.UnknownSort _ _ q k in
    let b = unless_passed refusal.Variable _ _ q a in
    subst (Is t ls cs) (ok_inj b)
    (scoped t ls cs p (with_all_new p.scope (map (λ n. (n, s)) ns)) h
    (all_new_apart p.scope (map (λ n. (n, s)) ns) h.scope))

pub heightened_keeps : (t : Theory) (ls : List EarlierDuty) (cs : List PlainOperator) (upper lower : RawOpRef)
    → Keeps t ls cs (heighten upper lower)
heightened_keeps t ls cs upper lower p q h k =
    let m = between (refer p upper) _ q k in
    let n = between (refer p lower) _ q m.second in
    subst (Is t ls cs) (ok_inj n.second) h

pub status_keeps : (t : Theory) (ls : List EarlierDuty) (cs : List PlainOperator) (way : Way) (r : RawOpRef)
    → Keeps t ls cs (with_way way r)
status_keeps t ls cs way r p q h k =
    let m = between (refer p r) _ q k in
    subst (Is t ls cs) (ok_inj m.second) h

-- ---- all commands

pub carried_keeps : (t : Theory) (ls : List EarlierDuty) (cs : List PlainOperator) (c : CommandKind) (p q : Proof)
    → AreGiven t ls → Is t ls cs p → carried_out c p ≡ Ok q → Leads t ls cs q
carried_keeps t ls cs (command.Declare ns s) p q g h k =
    stays t ls cs q (declared_keeps t ls cs (texts ns) s.name p q h k)
carried_keeps t ls cs (command.Limit n) p q g h k = stays t ls cs q (subst (Is t ls cs) (ok_inj k) h)
carried_keeps t ls cs (command.BoxChecking on) p q g h k = stays t ls cs q (subst (Is t ls cs) (ok_inj k) h)
carried_keeps t ls cs (command.Height f u) p q g h k = stays t ls cs q (heightened_keeps t ls cs f u p q h k)
carried_keeps t ls cs (command.Status way f) p q g h k = stays t ls cs q (status_keeps t ls cs way f p q h k)
carried_keeps t ls cs (command.Prove e) p q g h k =
    let m = between (read_sides p e) (λ sides. level_opened (formula sides.left sides.right) p) q k in
    let s = read_over t ls cs p e m.made h m.first in
    stays t ls cs q
    (level_keeps t ls cs (formula m.made.left m.made.right)
    (formula_over (t.operators ++ cs) m.made.left m.made.right s.0 s.1 s.2) p q h m.second)
carried_keeps t ls cs (command.Cases e) p q g h k =
    let m = between (read_lone p bool_sort e) (λ f. resume (Cases f) p) q k in
    resumed_keeps t ls cs (Cases m.made) p q g h (lone_over t ls cs p bool_sort e m.made h m.first) m.second
carried_keeps t ls cs command.Implication p q g h k = resumed_keeps t ls cs Implication p q g h tt k
carried_keeps t ls cs command.Conjunction p q g h k = resumed_keeps t ls cs Conjunction p q g h tt k
carried_keeps t ls cs command.Contradiction p q g h k = resumed_keeps t ls cs Contradiction p q g h tt k
carried_keeps t ls cs (command.Induction x) p q g h k = resumed_keeps t ls cs (Induction x.name) p q g h tt k
carried_keeps t ls cs command.Partition p q g h k = resumed_keeps t ls cs Partition p q g h tt k
carried_keeps t ls cs (command.Instantiate is n) p q g h k =
    stays t ls cs q (instantiated_keeps t ls cs is n p q h k)
carried_keeps t ls cs (command.CriticalPairs n m) p q g h k = stays t ls cs q (paired_keeps t ls cs n m p q h k)
carried_keeps t ls cs (command.Normalize n) p q g h k = stays t ls cs q (normalized_keeps t ls cs n p q h k)
carried_keeps t ls cs command.Qed p q g h k =
    stays t ls cs q (subst (Is t ls cs) (ok_inj (unless_passed refusal.Open p.is_proved (Ok p) q k)) h)
carried_keeps t ls cs (command.Mark proved) p q g h k = stays t ls cs q (subst (Is t ls cs) (ok_inj k) h)
carried_keeps t ls cs (command.Bad code) p q g h k = cc

-- ---- steps

mark_keeps : (t : Theory) (ls : List EarlierDuty) (cs : List PlainOperator) (proved : Bool) (ms : List Bool)
    → Keeps t ls cs (mark_taken proved ms)
mark_keeps t ls cs proved [] p q h k = cc
mark_keeps t ls cs proved (m ∷ ms) p q h k =
    subst (Is t ls cs)
    (ok_inj (unless_passed refusal.Mark (same_truth m proved) (Ok (record p { waiting = ms })) q k)) h

marked_keeps : (t : Theory) (ls : List EarlierDuty) (cs : List PlainOperator) (proved : Bool)
    → Keeps t ls cs (mark_command proved)
marked_keeps t ls cs proved p q h k =
    either_way (Is t ls cs) p.checking (mark_taken proved p.waiting p) (Ok p) q
    (mark_keeps t ls cs proved p.waiting p q h) (λ e. subst (Is t ls cs) (ok_inj e) h) k

-- what comes where no mark waits and the duty isn't proved
in_turn : (c : CommandKind) (p q : Proof) → unless_marks_wait p (unless_proved p (carried_out c p)) ≡ Ok q
    → carried_out c p ≡ Ok q
in_turn c p q k =
    unless_passed refusal.Done (not p.is_proved) (carried_out c p) q
    (unless_passed refusal.Mark (is_quiet p.waiting) (unless_proved p (carried_out c p)) q k)

kind_keeps : (t : Theory) (ls : List EarlierDuty) (cs : List PlainOperator) (c : CommandKind) (p q : Proof)
    → AreGiven t ls → Is t ls cs p → by_kind c p ≡ Ok q → Leads t ls cs q
kind_keeps t ls cs (command.Mark proved) p q g h k = stays t ls cs q (marked_keeps t ls cs proved p q h k)
kind_keeps t ls cs command.Qed p q g h k =
    carried_keeps t ls cs command.Qed p q g h
    (unless_passed refusal.Mark (is_quiet p.waiting) (carried_out command.Qed p) q k)
kind_keeps t ls cs (command.BoxChecking false) p q g h k =
    carried_keeps t ls cs (command.BoxChecking false) p q g h
    (unless_passed refusal.Done (not p.is_proved) (carried_out (command.BoxChecking false) p) q k)
kind_keeps t ls cs c p q g h k = carried_keeps t ls cs c p q g h (in_turn c p q k)

-- a command that is counted, or a line that is none
pub step_cases : (c : CommandKind) (p q : Proof) → step c p ≡ Ok q → count_command c p ≡ Ok q
unfolding step
step_cases (command.Bad code) p q k = cc
step_cases c p q k = k

pub step_keeps : (t : Theory) (ls : List EarlierDuty) (cs : List PlainOperator) (c : CommandKind) (p q : Proof)
    → AreGiven t ls → Is t ls cs p → step c p ≡ Ok q → Leads t ls cs q
step_keeps t ls cs c p q g h k =
    kind_keeps t ls cs c (record p { commands = p.commands + 1 }) q g h
    (unless_passed refusal.Size _ (by_kind c (record p { commands = p.commands + 1 })) q (step_cases c p q k))

-- two answers of a replay are one
abbrev Replies : Result Proof Refusal → Result Proof Refusal → Type 0
Replies x y = x ≡ y

pub replied : (p q : Proof) → Replies (Ok p) (Ok q) → p ≡ q
replied p q e = cc

-- what is located isn't refused
pub located_done : (place : RefusalPlace) (x : Result Proof Code) (q : Proof) → locate place x ≡ Ok q → x ≡ Ok q
located_done place (Ok p) q e = ap (λ r. Ok r) (replied p q e)
located_done place (Err code) q e = cc

pub all_keep : (t : Theory) (ls : List EarlierDuty) (cs : List PlainOperator) (block : List CommandKind) (p q : Proof)
    → AreGiven t ls → Is t ls cs p → all_stepped block p ≡ Ok q → Leads t ls cs q
all_keep t ls cs [] p q g h k = stays t ls cs q (subst (Is t ls cs) (replied p q k) h)
all_keep t ls cs (c ∷ block) p q g h k =
    let m = between (step_command c p) (λ r. all_stepped block r) q k in
    let first = step_keeps t ls cs c p m.made g h (located_done _ (step c p) m.made m.first) in
    let rest = all_keep t ls first.made block m.made q g first.sorted m.second in
    record {
      made = rest.made;
      front = (
        first.front.0 ++ rest.front.0,
        rest.front.1 ∙ (ap (λ ds. ds ++ rest.front.0) first.front.1 ∙ append_assoc cs first.front.0 rest.front.0),
      );
      new = λ n. rest.new (first.new n);
      sorted = rest.sorted;
    }
