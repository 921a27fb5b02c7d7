-- The opening of a duty makes a well sorted proof, and blocks keep it so.
use Rattle.std.specs.Prelude.{◌≡◌, ℕ, suc, List, [], ◌∷◌, ◌++◌, map, codes, All, Contains, Ok, refl}
use Rattle.std.specs.List.{flat_map}
use Rattle.std.proofs.Common.{inl, ap₂, sym, subst, ◌∙◌}
use Rattle.std.proofs.lemmas.List.Elements.{All-weaker, All-cons, All-nil, All-head, All-tail, All-contains}
use Rattle.larch_base.specs.declared.fact_name.FactLetter.{FactLetter}
use Rattle.larch_base.specs.declared.fact_name.FactLetter.TheVariants.{Axiom, Lemma}
use Rattle.larch_base.proofs.Lists.{all_from}
use Rattle.larch_base.proofs.Members.{contained_in_flat_map, contained_in_map, contains_here, contains_later}
use Rattle.larch_base.proofs.Members.{contains_map, contains_right}
use Rattle.larch_term.specs.BuiltIn.{bool_sort}
use Rattle.larch_term.specs.Operator.{PlainOperator, plain}
use Rattle.larch_term.specs.Sorts.{IsTermOver}
use Rattle.larch_term.specs.Statement.{IsStatementOver}
use Rattle.larch_term.specs.Tree.{var}
use Rattle.larch_term.specs.declared.statement.Statement.{Statement}
use Rattle.larch_term.specs.declared.statement.Statement.TheVariants.{Equation, Generated, Partitioned}
use Rattle.larch_term.specs.declared.statement.Theory.{Theory}
use Rattle.larch_rewrite_meaning.specs.CalculusFormula.{apply_one, constant, equality, formula}
use Rattle.larch_rewrite_meaning.specs.CalculusGeneration.{generation_formula, generation_hypotheses, place_name}
use Rattle.larch_rewrite_meaning.specs.CalculusTheories.{AreConstants, AreNew}
use Rattle.larch_term.specs.Truth.{truth}
use Rattle.larch_rewrite_meaning.specs.CalculusObservation.{observations}
use Rattle.larch_rewrite_meaning.proofs.CalculusObserved.{partition_over}
use Rattle.larch_rewrite_meaning.proofs.CalculusSorted.{generation_over, knows_more, statement_over_more}
use Rattle.larch_base_meaning.specs.Steps.{after}
use Rattle.larch_rewrite_meaning.specs.Sides.{Sides, AreSidesOver, sides_of}
use Rattle.larch_script_commands.specs.declared.command.CommandKind.{CommandKind}
use Rattle.larch_script_commands.specs.declared.command.CommandKind.TheVariants as command
use Rattle.larch_prove_meaning.specs.Facts.{whole_name}
use Rattle.larch_prove_meaning.specs.Levels.{EarlierDuty, Proof, add_equation, all_serve, normal_goal, settle_goal}
use Rattle.larch_prove_meaning.specs.Levels.{with_constants, with_goal}
use Rattle.larch_prove_meaning.specs.NewNames.{constant_named, free_name}
use Rattle.larch_prove_meaning.specs.Plans.{IsFormulaOver, IsSubgoalOver, holds}
use Rattle.larch_prove_meaning.specs.Replays.{Duty, InPreamble, AtOpening, all_prepared, all_stepped, begun_with}
use Rattle.larch_prove_meaning.specs.Replays.{blank}
use Rattle.larch_prove_meaning.specs.Replays.{duty_opened, each_added, generation_opened, goal_made, lemmas_added}
use Rattle.larch_prove_meaning.specs.Replays.{locate, partition_opened, prepare, scope_of, step, theory_added}
use Rattle.larch_prove_meaning.specs.Replays.{told_number}
use Rattle.larch_prove_meaning.specs.Steps.{own_operators, taken_names, texts, with_all_new}
use Rattle.larch_prove_meaning.specs.WellSorted.{AreLemmasOver, GoesOn, IsFactOver, IsLevelOver, IsWellSortedDuty}
use Rattle.larch_prove_meaning.specs.WellSorted.{IsWellSortedProof}
use Rattle.larch_prove_meaning.proofs.AddingSorts.{equality_over, truth_over}
use Rattle.larch_prove_meaning.proofs.LevelSorts.{Is, Keeps, added_keeps, between, goal_keeps, ok_inj, settled_keeps}
use Rattle.larch_prove_meaning.proofs.LevelSorts.{scoped, supposed_keeps, with_constants_over, with_goal_over}
use Rattle.larch_prove_meaning.proofs.NewConstants.{grown_new, none_are_new, own_taken, predicate_new, two_new}
use Rattle.larch_prove_meaning.proofs.PartitionPlans.{formula_over}
use Rattle.larch_prove_meaning.proofs.Scopes.{all_new_apart, none_apart}
use Rattle.larch_prove_meaning.proofs.StepSorts.{AreGiven, Leads, all_keep, own_are, declared_keeps, heightened_keeps}
use Rattle.larch_prove_meaning.proofs.StepSorts.{located_done, replied, stays, status_keeps, step_keeps}

-- ---- the preamble

prepared_keeps : (t : Theory) (ls : List EarlierDuty) (cs : List PlainOperator) (c : CommandKind)
    → Keeps t ls cs (prepare c)
prepared_keeps t ls cs (command.Declare ns s) p q h k = declared_keeps t ls cs (texts ns) s.name p q h k
prepared_keeps t ls cs (command.Limit n) p q h k = subst (Is t ls cs) (ok_inj k) h
prepared_keeps t ls cs (command.BoxChecking on) p q h k = subst (Is t ls cs) (ok_inj k) h
prepared_keeps t ls cs (command.Height f g) p q h k = heightened_keeps t ls cs f g p q h k
prepared_keeps t ls cs (command.Status way f) p q h k = status_keeps t ls cs way f p q h k
prepared_keeps t ls cs c p q h k = cc

all_prepared_keep : (t : Theory) (ls : List EarlierDuty) (cs : List PlainOperator) (n : ℕ) (preamble : List CommandKind)
    (p q : Proof) → Is t ls cs p → all_prepared n preamble p ≡ Ok q → Is t ls cs q
unfolding all_prepared
all_prepared_keep t ls cs n [] p q h k = subst (Is t ls cs) (replied p q k) h
all_prepared_keep t ls cs n (c ∷ preamble) p q h k =
    let m = between (locate (InPreamble (told_number n)) (prepare c p)) (λ r. all_prepared (suc n) preamble r) q k in
    all_prepared_keep t ls cs (suc n) preamble m.made q
    (prepared_keeps t ls cs c p m.made h (located_done (InPreamble (told_number n)) (prepare c p) m.made m.first))
    m.second

-- ---- facts of the theory and the lemmas

each_keeps : (t : Theory) (ls : List EarlierDuty) (cs : List PlainOperator) (letter : FactLetter) (n : ℕ)
    (es : List Sides)
    → All (AreSidesOver (t.operators ++ cs)) es → Keeps t ls cs (each_added letter n es)
each_keeps t ls cs letter n [] w p q h k = subst (Is t ls cs) (ok_inj k) h
each_keeps t ls cs letter n (e ∷ es) w p q h k =
    let fs = t.operators ++ cs in
    let m = between (add_equation (whole_name letter n) e p) (λ r. each_added letter n es r) q k in
    each_keeps t ls cs letter n es (All-tail (AreSidesOver fs) e es w) m.made q
    (added_keeps t ls cs all_serve (whole_name letter n) e p m.made h (All-head
    (AreSidesOver fs) e es w) m.first) m.second

statement_sides : (fs : List PlainOperator) (s : Statement) → IsStatementOver fs s → All (AreSidesOver fs) (sides_of s)
statement_sides fs (Equation l r) h =
    All-cons (AreSidesOver fs) (record { left = l; right = r }) [] h (All-nil (AreSidesOver fs))
statement_sides fs (Generated s gs) h = All-nil (AreSidesOver fs)
statement_sides fs (Partitioned s gs) h = All-nil (AreSidesOver fs)

theory_keeps : (t : Theory) (ls : List EarlierDuty) (cs : List PlainOperator) (n : ℕ) (ss : List Statement)
    → All (IsStatementOver (t.operators ++ cs)) ss → Keeps t ls cs (theory_added n ss)
theory_keeps t ls cs n [] w p q h k = subst (Is t ls cs) (ok_inj k) h
theory_keeps t ls cs n (s ∷ ss) w p q h k =
    let fs = t.operators ++ cs in
    let m = between (each_added Axiom n (sides_of s) p) (λ r. theory_added (suc n) ss r) q k in
    theory_keeps t ls cs (suc n) ss (All-tail (IsStatementOver fs) s ss w) m.made q
    (each_keeps t ls cs Axiom n (sides_of s) (statement_sides fs s (All-head (IsStatementOver fs) s ss w)) p m.made h
    m.first) m.second

lemmas_keep : (t : Theory) (ls : List EarlierDuty) (cs : List PlainOperator) (ks : List EarlierDuty)
    → AreLemmasOver (t.operators ++ cs) ks → Keeps t ls cs (lemmas_added ks)
lemmas_keep t ls cs [] w p q h k = subst (Is t ls cs) (ok_inj k) h
lemmas_keep t ls cs (l ∷ ks) w p q h k =
    let fs = t.operators ++ cs in
    let over : EarlierDuty → Type 0 = λ d. IsStatementOver fs d.statement in
    let m = between (each_added Lemma l.number (sides_of l.statement) p) (λ r. lemmas_added ks r) q k in
    lemmas_keep t ls cs ks (All-tail over l ks w) m.made q
    (each_keeps t ls cs Lemma l.number (sides_of l.statement) (statement_sides fs l.statement (All-head over l ks w)) p
    m.made h m.first) m.second

-- ---- goals

gen_goal : (fs : List PlainOperator) (g : PlainOperator) (s : List ℕ) → Contains fs g → g.domain ≡ s ∷ []
    → g.range ≡ bool_sort → IsFormulaOver fs (apply_one g (var (codes "x") s))
gen_goal fs g s c d r = (((sym d, (tt, tt)), (inl c, (tt, tt))), r)

generated_side : (fs : List PlainOperator) (g : PlainOperator) (s : List ℕ) (gs : List PlainOperator) (e : Sides)
    → All (IsStatementOver fs) (generation_hypotheses g s gs)
    → Contains (map (λ f. holds (generation_formula g s f)) gs) e → AreSidesOver fs e
generated_side fs g s gs e h i =
    let found = contained_in_map (λ f. holds (generation_formula g s f)) gs e i in
    subst (AreSidesOver fs) found.2
    (All-contains (IsStatementOver fs) (generation_hypotheses g s gs) (Equation
    (generation_formula g s found.0) truth) h
    (contains_map (λ f. Equation (generation_formula g s f) truth) gs found.0 found.1))

generation_keeps : (t : Theory) (ls : List EarlierDuty) (s : List ℕ) (gs : List PlainOperator) (p q : Proof)
    → Is t ls [] p → IsStatementOver t.operators (Generated s gs) → generation_opened s gs p ≡ Ok q
    → Leads t ls [] q
generation_keeps t ls s gs p q h w k =
    let gen : PlainOperator = record {
      name = plain (free_name (taken_names p) (codes "gen"));
      domain = s ∷ [];
      range = bool_sort;
    } in
    let fs = t.operators ++ gen ∷ [] in
    let hs = map (λ f. holds (generation_formula gen s f)) gs in
    let goal = apply_one gen (var (codes "x") s) in
    let c : Contains fs gen = contains_right t.operators (gen ∷ []) gen (contains_here gen []) in
    let over = generation_over t gen s gs w refl refl in
    let start = with_goal_over t ls (gen ∷ []) (with_constants (gen ∷ []) p) goal
    (with_constants_over t ls [] (gen ∷ []) p h) (gen_goal fs gen s c refl refl) in
    record {
      made = gen ∷ [];
      front = (gen ∷ [], refl);
      new = grown_new t [] (gen ∷ []) (taken_names p)
          (λ f c. own_taken p f (subst (λ hs. Contains hs f) (sym (own_are t ls [] p h)) c))
          (predicate_new (taken_names p) gen refl);
      sorted = supposed_keeps t ls (gen ∷ []) hs (with_constants (gen ∷ []) (with_goal goal p)) q start
          (all_from (AreSidesOver fs) hs (λ e i. generated_side fs gen s gs e over i)) k;
    }

observed_side : (fs : List PlainOperator) (ss : List Statement) (e : Sides) → All (IsStatementOver fs) ss
    → Contains (flat_map sides_of ss) e → AreSidesOver fs e
observed_side fs ss e h i =
    let found = contained_in_flat_map sides_of ss e i in
    All-contains (AreSidesOver fs) (sides_of found.0) e
    (statement_sides fs found.0 (All-contains (IsStatementOver fs) ss found.0 h found.1)) found.2

partition_keeps : (t : Theory) (ls : List EarlierDuty) (s : List ℕ) (os : List PlainOperator) (p q : Proof)
    → Is t ls [] p → IsStatementOver t.operators (Partitioned s os) → partition_opened s os p ≡ Ok q
    → Leads t ls [] q
partition_keeps t ls s os p q h w k =
    let l = free_name (taken_names p) (codes "lc") in
    let r = free_name (l ∷ taken_names p) (codes "rc") in
    let c = constant_named l s in
    let d = constant_named r s in
    let cs = c ∷ d ∷ [] in
    let fs = t.operators ++ cs in
    let ss = observations place_name s os (constant c) (constant d) in
    let are : AreConstants cs = All-cons (λ f. f.domain ≡ []) c (d ∷ []) refl
    (All-cons (λ f. f.domain ≡ []) d [] refl (All-nil (λ f. f.domain ≡ []))) in
    let left : IsTermOver fs (constant c) =
    ((refl, tt), (inl (contains_right t.operators cs c (contains_here c (d ∷ []))), tt)) in
    let right : IsTermOver fs (constant d) =
    ((refl, tt), (inl (contains_right t.operators cs d (contains_later c d (d ∷ []) (contains_here d []))), tt)) in
    let goal = equality s (constant c) (constant d) in
    let over = equality_over fs (record { left = constant c; right = constant d }) (left, right, refl) in
    let start = with_goal_over t ls cs (with_constants cs p) goal (with_constants_over t ls [] cs p h) (over, refl) in
    record {
      made = cs;
      front = (cs, refl);
      new = grown_new t [] cs (taken_names p)
          (λ f c. own_taken p f (subst (λ hs. Contains hs f) (sym (own_are t ls [] p h)) c))
          (two_new (taken_names p) c d refl refl);
      sorted = supposed_keeps t ls cs (flat_map sides_of ss) (with_constants cs (with_goal goal p)) q start
          (all_from (AreSidesOver fs) (flat_map sides_of ss)
          (λ e i. observed_side fs ss e (partition_over t place_name s os c d w are refl refl) i)) k;
    }

goal_opened_keeps : (t : Theory) (ls : List EarlierDuty) (s : Statement) (p q : Proof) → Is t ls [] p
    → IsStatementOver t.operators s → goal_made s p ≡ Ok q → Leads t ls [] q
goal_opened_keeps t ls (Equation l r) p q h w k =
    let fs = t.operators ++ [] in
    let o = statement_over_more t.operators fs (knows_more t.operators []) (Equation l r) w in
    let vs = with_all_new [] (scope_of l ++ scope_of r ++ p.scope) in
    stays t ls [] q (subst (Is t ls []) (ok_inj k)
    (with_goal_over t ls [] (record p { scope = vs }) (formula l r)
    (scoped t ls [] p vs h (all_new_apart [] (scope_of l ++ scope_of r ++ p.scope) none_apart))
    (formula_over fs l r o.0 o.1 o.2)))
goal_opened_keeps t ls (Generated s gs) p q h w k = generation_keeps t ls s gs p q h w k
goal_opened_keeps t ls (Partitioned s os) p q h w k = partition_keeps t ls s os p q h w k

-- ---- the opening

opening_keeps : (t : Theory) (ls : List EarlierDuty) (s : Statement) (p q : Proof) → AreGiven t ls
    → IsStatementOver t.operators s → Is t ls [] p → duty_opened s p ≡ Ok q → Leads t ls [] q
unfolding duty_opened
opening_keeps t ls s p q g w h k =
    let fs = t.operators ++ [] in
    let more = statement_over_more t.operators fs (knows_more t.operators []) in
    let m = between (theory_added 1 p.theory.statements p) (λ a.
    after (lemmas_added a.lemmas a) (λ b. after (goal_made s b) (λ c. after (normal_goal c) settle_goal))) q k in
    let n = between (lemmas_added m.made.lemmas m.made) (λ b.
    after (goal_made s b) (λ c. after (normal_goal c) settle_goal)) q m.second in
    let o = between (goal_made s n.made) (λ c. after (normal_goal c) settle_goal) q n.second in
    let r = between (normal_goal o.made) settle_goal q o.second in
    let first = theory_keeps t ls [] 1 p.theory.statements
    (subst (λ (u : Theory). All (IsStatementOver fs) u.statements) (sym h.theory)
    (All-weaker (IsStatementOver t.operators) (IsStatementOver fs) more t.statements g.theory)) p m.made h m.first in
    let second = lemmas_keep t ls [] m.made.lemmas
    (subst (AreLemmasOver fs) (sym first.lemmas)
    (All-weaker (λ (l : EarlierDuty). IsStatementOver t.operators l.statement) (λ
    (l : EarlierDuty). IsStatementOver fs l.statement)
    (λ l. more l.statement) ls g.lemmas)) m.made n.made first n.first in
    let third = goal_opened_keeps t ls s n.made o.made second w o.first in
    record {
      made = third.made;
      front = third.front;
      new = third.new;
      sorted = settled_keeps t ls third.made r.made q (goal_keeps t ls third.made o.made r.made third.sorted r.first)
          r.second;
    }

-- ---- all of a replay

blank_is : (duty : Duty) (limit : ℕ) → Is duty.theory duty.lemmas [] (blank duty limit)
blank_is duty limit =
    let fs = duty.theory.operators ++ [] in
    record {
      theory = refl;
      lemmas = refl;
      constants = refl;
      scope = none_apart;
      current = record {
        purpose = tt;
        facts = All-nil (IsFactOver fs);
        goal = (truth_over fs, refl);
        remaining = All-nil (IsSubgoalOver fs);
      };
      below = All-nil (IsLevelOver fs);
    }

sorted_of : (t : Theory) (ls : List EarlierDuty) (cs : List PlainOperator) (q : Proof) → AreGiven t ls → Is t ls cs q
    → IsWellSortedProof q
sorted_of t ls cs q g h =
    let e : own_operators q ≡ t.operators ++ cs = ap₂ (λ (u : Theory) ds. u.operators ++ ds) h.theory h.constants in
    record {
      theory = subst (λ (u : Theory). All (IsStatementOver u.operators) u.statements) (sym h.theory) g.theory;
      lemmas = subst (λ (u : Theory). AreLemmasOver u.operators q.lemmas) (sym h.theory)
          (subst (AreLemmasOver t.operators) (sym h.lemmas) g.lemmas);
      scope = h.scope;
      levels = subst (λ fs. All (IsLevelOver fs) (q.current ∷ q.below)) (sym e)
          (All-cons (IsLevelOver (t.operators ++ cs)) q.current q.below h.current h.below);
    }

-- a well sorted proof is one of its own theory, lemmas and constants
itself : (p : Proof) → IsWellSortedProof p → Is p.theory p.lemmas p.constants p
itself p h = record {
  theory = refl;
  lemmas = refl;
  constants = refl;
  scope = h.scope;
  current = All-head (IsLevelOver (own_operators p)) p.current p.below h.levels;
  below = All-tail (IsLevelOver (own_operators p)) p.current p.below h.levels;
}

given : (p : Proof) → IsWellSortedProof p → AreGiven p.theory p.lemmas
given p h = record { theory = h.theory; lemmas = h.lemmas }

goes_on : (p q : Proof) → Leads p.theory p.lemmas p.constants q → GoesOn p q
goes_on p q l = record {
  theory = l.sorted.theory;
  lemmas = l.sorted.lemmas;
  constants = (l.front.0, l.sorted.constants ∙ l.front.1);
}

-- the opening of a duty, whose constants are new
begun_leads : (duty : Duty) (limit : ℕ) (preamble : List CommandKind) (p : Proof) → IsWellSortedDuty duty
    → begun_with duty limit preamble ≡ Ok p → Leads duty.theory duty.lemmas [] p
begun_leads duty limit preamble p w k =
    let t = duty.theory in
    let ls = duty.lemmas in
    let g : AreGiven t ls = record { theory = w.theory; lemmas = w.lemmas } in
    let m = between (all_prepared 1 preamble (blank duty limit)) (λ r. locate AtOpening
    (duty_opened duty.statement r)) p k in
    let ready = all_prepared_keep t ls [] 1 preamble (blank duty limit) m.made (blank_is duty limit) m.first in
    opening_keeps t ls duty.statement m.made p g w.statement ready
    (located_done AtOpening (duty_opened duty.statement m.made) p m.second)

-- constants that are made are new
new_of : (t : Theory) (ls : List EarlierDuty) (cs : List PlainOperator) (q : Proof) → Leads t ls cs q → AreNew t cs
    → AreNew q.theory q.constants
new_of t ls cs q l n =
    subst (λ (u : Theory). AreNew u q.constants) (sym l.sorted.theory)
    (subst (AreNew t) (sym l.sorted.constants) (l.new n))

pub begun_new : (duty : Duty) (limit : ℕ) (preamble : List CommandKind) (p : Proof) → IsWellSortedDuty duty
    → begun_with duty limit preamble ≡ Ok p → AreNew p.theory p.constants
begun_new duty limit preamble p w k =
    new_of duty.theory duty.lemmas [] p (begun_leads duty limit preamble p w k) (none_are_new duty.theory)

pub step_new : (c : CommandKind) (p q : Proof) → IsWellSortedProof p → AreNew p.theory p.constants → step c p ≡ Ok q
    → AreNew q.theory q.constants
step_new c p q h n k =
    new_of p.theory p.lemmas p.constants q
    (step_keeps p.theory p.lemmas p.constants c p q (given p h) (itself p h) k) n

pub block_new : (block : List CommandKind) (p q : Proof) → IsWellSortedProof p → AreNew p.theory p.constants
    → all_stepped block p ≡ Ok q → AreNew q.theory q.constants
block_new block p q h n k =
    new_of p.theory p.lemmas p.constants q
    (all_keep p.theory p.lemmas p.constants block p q (given p h) (itself p h) k) n

pub begun_sorted : (duty : Duty) (limit : ℕ) (preamble : List CommandKind) (p : Proof) → IsWellSortedDuty duty
    → begun_with duty limit preamble ≡ Ok p → IsWellSortedProof p
begun_sorted duty limit preamble p w k =
    let l = begun_leads duty limit preamble p w k in
    sorted_of duty.theory duty.lemmas l.made p (record { theory = w.theory; lemmas = w.lemmas }) l.sorted

pub step_sorted : (c : CommandKind) (p q : Proof) → IsWellSortedProof p → step c p ≡ Ok q
    → IsWellSortedProof q × GoesOn p q
step_sorted c p q h k =
    let l = step_keeps p.theory p.lemmas p.constants c p q (given p h) (itself p h) k in
    (sorted_of p.theory p.lemmas l.made q (given p h) l.sorted, goes_on p q l)

pub block_sorted : (block : List CommandKind) (p q : Proof) → IsWellSortedProof p → all_stepped block p ≡ Ok q
    → IsWellSortedProof q × GoesOn p q
block_sorted block p q h k =
    let l = all_keep p.theory p.lemmas p.constants block p q (given p h) (itself p h) k in
    (sorted_of p.theory p.lemmas l.made q (given p h) l.sorted, goes_on p q l)
