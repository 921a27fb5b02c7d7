-- The scope stays in words, command by command and at the opening.
use Rattle.std.specs.Prelude.{◌≡◌, ◌+◌, ℕ, suc, Bool, true, false, not, List, [], ◌∷◌, ◌++◌, map, codes, is_some}
use Rattle.std.specs.Prelude.{All, Ok, refl}
use Rattle.std.specs.List.{flat_map}
use Rattle.std.proofs.Common.{subst, sym}
use Rattle.std.proofs.lemmas.List.Elements.{All-append, All-contains, All-head, All-map, All-nil, All-push, All-tail}
use Rattle.std.proofs.lemmas.List.Elements.{All-weaker}
use Rattle.larch_base.specs.declared.code.Code.TheVariants as refusal
use Rattle.larch_base.specs.declared.fact_name.FactLetter.{FactLetter}
use Rattle.larch_base.specs.declared.fact_name.FactLetter.TheVariants.{Axiom, Lemma}
use Rattle.larch_base.specs.declared.fact_name.FactName.{FactName}
use Rattle.larch_base.specs.declared.way.Way.{Way}
use Rattle.larch_base.proofs.Lists.{all_from}
use Rattle.larch_raw.specs.Worded.{Worded}
use Rattle.larch_raw.specs.declared.declared.RawOpRef.{RawOpRef}
use Rattle.larch_raw.specs.declared.declared.RawWord.{RawWord}
use Rattle.larch_script_commands.specs.Same.{same_fact_name, same_truth}
use Rattle.larch_script_commands.specs.Worded.{WordedKind}
use Rattle.larch_script_commands.specs.declared.command.CommandKind.{CommandKind}
use Rattle.larch_script_commands.specs.declared.command.CommandKind.TheVariants as command
use Rattle.larch_script_commands.specs.declared.command.RawInstance.{RawInstance}
use Rattle.larch_term.specs.BuiltIn.{bool_sort}
use Rattle.larch_term.specs.Operator.{PlainOperator, plain}
use Rattle.larch_term.specs.Tree.{Tree, Forest, var, app, none, more}
use Rattle.larch_term.specs.Variable.{occurrences, occurrences_in, variables_of}
use Rattle.larch_term.specs.declared.statement.Statement.{Statement}
use Rattle.larch_term.specs.declared.statement.Statement.TheVariants.{Equation, Generated, Partitioned}
use Rattle.larch_pairs_critical.proofs.TermLawOccurring.{listed_occurs}
use Rattle.larch_rewrite_meaning.specs.CalculusFormula.{apply_one, constant, equality, formula}
use Rattle.larch_rewrite_meaning.specs.CalculusGeneration.{generation_formula, place_name}
use Rattle.larch_rewrite_meaning.specs.CalculusObservation.{observations}
use Rattle.larch_base_meaning.specs.Word.{IsWord}
use Rattle.larch_base_meaning.specs.Steps.{after}
use Rattle.larch_sorts_meaning.specs.Laws.{ForestSorts, TermSorts}
use Rattle.larch_sorts_meaning.specs.Scope.{Variables, sort_in, with_variable}
use Rattle.larch_pairs_critical.specs.Pairs.{critical_pairs}
use Rattle.larch_rewrite_meaning.specs.Sides.{Sides, sides_of, sides_under}
use Rattle.larch_prove_meaning.specs.Facts.{whole_name}
use Rattle.larch_prove_meaning.specs.InWords.{AreVariablesInWords, IsStatementInWords, IsTermInWords}
use Rattle.larch_prove_meaning.specs.Levels.{EarlierDuty, OfProof, Proof, add_equation, all_serve, begun, derive}
use Rattle.larch_prove_meaning.specs.Levels.{derived_by, is_settled, level_for, normal_goal, settle_goal}
use Rattle.larch_prove_meaning.specs.Levels.{with_constants, with_goal}
use Rattle.larch_prove_meaning.specs.NewNames.{constant_named, free_name}
use Rattle.larch_prove_meaning.specs.Plans.{Cases, Conjunction, Contradiction, Implication, Induction, Method}
use Rattle.larch_prove_meaning.specs.Plans.{Partition, holds, plan}
use Rattle.larch_prove_meaning.specs.Replays.{AtOpening, Duty, InPreamble, all_prepared, all_stepped, begun_with, blank}
use Rattle.larch_prove_meaning.specs.Replays.{by_kind, duty_opened, each_added, goal_made, is_quiet, lemmas_added}
use Rattle.larch_prove_meaning.specs.Replays.{locate, mark_command, mark_taken, prepare, scope_of, step, step_command}
use Rattle.larch_prove_meaning.specs.Replays.{theory_added, told_number, unless_marks_wait, unless_proved}
use Rattle.larch_prove_meaning.specs.Steps.{all_derived, carried_out, declare, equations_of, fact_named, heighten}
use Rattle.larch_prove_meaning.specs.Steps.{instantiate, instantiation, level_opened, normalize, pair_facts, read_lone}
use Rattle.larch_prove_meaning.specs.Steps.{read_sides, refer, resume, rule_of, serves_beside, setting_of, taken_names}
use Rattle.larch_prove_meaning.specs.Steps.{texts, with_all_new, with_new, with_way, without}
use Rattle.larch_prove_meaning.proofs.LevelScopes.{Keeps, Stays, added_stays, all_supposed_stay, begun_stays}
use Rattle.larch_prove_meaning.proofs.LevelScopes.{derived_stays, further, normal_stays, settled_stays}
use Rattle.larch_prove_meaning.proofs.LevelSorts.{between, either_way, ok_inj, unless_passed}
use Rattle.larch_prove_meaning.proofs.StepSorts.{located_done, replied, step_cases}

-- a variable and its sort are words
abbrev Lettered : List ℕ × List ℕ → Type 0
Lettered v = IsWord v.0 × IsWord v.1

-- ---- what comes into scope

one_new_words : (vs : Variables) (v : List ℕ × List ℕ) → AreVariablesInWords vs → Lettered v
    → AreVariablesInWords (with_new vs v)
one_new_words vs v h w = by_choice (not (is_some (sort_in vs v.0)))
  where
    by_choice : (b : Bool) → AreVariablesInWords (with_variable b vs v.0 v.1)
    by_choice true = All-push Lettered vs v h w
    by_choice false = h

all_new_words : (vs ws : Variables) → AreVariablesInWords vs → AreVariablesInWords ws
    → AreVariablesInWords (with_all_new vs ws)
all_new_words vs [] h w = h
all_new_words vs (v ∷ ws) h w =
    all_new_words (with_new vs v) ws (one_new_words vs v h (All-head Lettered v ws w)) (All-tail Lettered v ws w)

declared_words : (names : List RawWord) (s : List ℕ) → All Worded names → IsWord s
    → AreVariablesInWords (map (λ n. (n, s)) (texts names))
declared_words names s ws w =
    All-map Lettered (λ n. (n, s)) (texts names)
    (All-map (λ n. Lettered (n, s)) (λ v. v.name) names
    (All-weaker Worded (λ v. Lettered (v.name, s)) (λ v k. (k, w)) names ws))

-- the sorts of variables in a term
mutual
  occurring_sorts : (t : Tree) → TermSorts IsWord t → All (λ v. IsWord v.sort) (occurrences t)
  occurring_sorts (var n s) h =
      All-push (λ v. IsWord v.sort) [] (record { name = n; sort = s }) (All-nil (λ v. IsWord v.sort)) h
  occurring_sorts (app f ts) h = all_occurring_sorts ts h.1

  all_occurring_sorts : (ts : Forest) → ForestSorts IsWord ts → All (λ v. IsWord v.sort) (occurrences_in ts)
  all_occurring_sorts none h = All-nil (λ v. IsWord v.sort)
  all_occurring_sorts (more t ts) h =
      All-append (λ v. IsWord v.sort) (occurrences t) (occurrences_in ts) (occurring_sorts t h.0)
      (all_occurring_sorts ts h.1)

-- the variables of a term in words
scope_words : (t : Tree) → IsTermInWords t → AreVariablesInWords (scope_of t)
scope_words t h =
    All-map Lettered (λ v. (v.name, v.sort)) (variables_of t)
    (all_from (λ v. Lettered (v.name, v.sort)) (variables_of t) (λ v c.
    let o = (listed_occurs t v).0 c in (
      All-contains (λ w. IsWord w.name) (occurrences t) v h.1 o,
      All-contains (λ w. IsWord w.sort) (occurrences t) v (occurring_sorts t h.0) o,
    )))

-- ---- methods and proofs of formulas

resumed_stays : (method : Method) → Keeps (resume method)
resumed_stays method p q k =
    let m = between (plan (setting_of p) p.current.goal method) (λ made. begun made p) q k in
    begun_stays m.made p q m.second

level_stays : (f : Tree) → Keeps (level_opened f)
level_stays f p q k =
    let r : Proof = record p { current = level_for (OfProof f) p.current f; below = p.current ∷ p.below } in
    let m = between (normal_goal r) settle_goal q k in
    further p m.made q (normal_stays r m.made m.first) (settled_stays m.made q m.second)

-- ---- additions

normalized_stays : (n : FactName) → Keeps (normalize n)
normalized_stays n p q k =
    let m = between (fact_named n p) (λ e. after (derive e (without n p)) settle_goal) q k in
    let d = between (derive m.made (without n p)) settle_goal q m.second in
    further p d.made q (derived_stays all_serve m.made (without n p) d.made d.first) (settled_stays d.made q d.second)

instantiated_stays : (is : List RawInstance) (n : FactName) → Keeps (instantiate is n)
instantiated_stays is n p q k =
    let m = between (fact_named n p) (λ e.
    after (instantiation p e (map (λ i. i.name.name) is) is) (λ es.
    after (derived_by (serves_beside n) (sides_under es e) p) settle_goal)) q k in
    let s = between (instantiation p m.made (map (λ i. i.name.name) is) is) (λ es.
    after (derived_by (serves_beside n) (sides_under es m.made) p) settle_goal) q m.second in
    let d = between (derived_by (serves_beside n) (sides_under s.made m.made) p) settle_goal q s.second in
    further p d.made q (derived_stays (serves_beside n) (sides_under s.made m.made) p d.made d.first)
    (settled_stays d.made q d.second)

all_derived_stay : (es : List Sides) → Keeps (all_derived es)
all_derived_stay [] p q k = subst (Stays p) (ok_inj k) refl
all_derived_stay (e ∷ es) p q k =
    let m = between (derive e p) (λ r. elim (is_settled r.current) [ true ↦ Ok r | false ↦ all_derived es r ]) q k in
    let first = derived_stays all_serve e p m.made m.first in
    either_way (Stays p) (is_settled m.made.current) (Ok m.made) (all_derived es m.made) q
    (λ i. subst (Stays p) (ok_inj i) first)
    (λ i. further p m.made q first (all_derived_stay es m.made q i)) m.second

paired_stays : (n o : FactName) → Keeps (pair_facts n o)
paired_stays n o p q k =
    let m = between (fact_named n p) (λ e.
    after (fact_named o p) (λ d.
    after (equations_of (critical_pairs (rule_of e) (rule_of d) (same_fact_name n o))) (λ found.
    after (all_derived found p) settle_goal))) q k in
    let s = between (fact_named o p) (λ d.
    after (equations_of (critical_pairs (rule_of m.made) (rule_of d) (same_fact_name n o))) (λ found.
    after (all_derived found p) settle_goal)) q m.second in
    let f = between (equations_of (critical_pairs (rule_of m.made) (rule_of s.made) (same_fact_name n o))) (λ found.
    after (all_derived found p) settle_goal) q s.second in
    let d = between (all_derived f.made p) settle_goal q f.second in
    further p d.made q (all_derived_stay f.made p d.made d.first) (settled_stays d.made q d.second)

-- ---- settings

heightened_stays : (upper lower : RawOpRef) → Keeps (heighten upper lower)
heightened_stays upper lower p q k =
    let m = between (refer p upper) _ q k in
    let n = between (refer p lower) _ q m.second in
    subst (Stays p) (ok_inj n.second) refl

status_stays : (way : Way) (r : RawOpRef) → Keeps (with_way way r)
status_stays way r p q k =
    let m = between (refer p r) _ q k in
    subst (Stays p) (ok_inj m.second) refl

-- ---- all commands

-- behind a step, the scope is in words where it was before
abbrev KeepsWords : Proof → Proof → Type 0
KeepsWords p q = AreVariablesInWords p.scope → AreVariablesInWords q.scope

stay_words : (p q : Proof) → Stays p q → KeepsWords p q
stay_words p q e h = subst AreVariablesInWords (sym e) h

declared_keeps_words : (names : List RawWord) (s : RawWord) (p q : Proof) → All Worded names → Worded s
    → declare (texts names) s.name p ≡ Ok q → KeepsWords p q
declared_keeps_words names s p q ws w k h =
    let a = unless_passed refusal.UnknownSort _ _ q k in
    let b = unless_passed refusal.Variable _ _ q a in
    subst (λ (r : Proof). AreVariablesInWords r.scope) (ok_inj b)
    (all_new_words p.scope (map (λ n. (n, s.name)) (texts names)) h (declared_words names s.name ws w))

carried_words : (c : CommandKind) (p q : Proof) → WordedKind c → carried_out c p ≡ Ok q → KeepsWords p q
carried_words (command.Declare names s) p q w k = declared_keeps_words names s p q w.0 w.1 k
carried_words (command.Limit n) p q w k = stay_words p q (subst (Stays p) (ok_inj k) refl)
carried_words (command.BoxChecking on) p q w k = stay_words p q (subst (Stays p) (ok_inj k) refl)
carried_words (command.Height f u) p q w k = stay_words p q (heightened_stays f u p q k)
carried_words (command.Status way f) p q w k = stay_words p q (status_stays way f p q k)
carried_words (command.Prove e) p q w k =
    let m = between (read_sides p e) (λ sides. level_opened (formula sides.left sides.right) p) q k in
    stay_words p q (level_stays (formula m.made.left m.made.right) p q m.second)
carried_words (command.Cases e) p q w k =
    let m = between (read_lone p bool_sort e) (λ f. resume (Cases f) p) q k in
    stay_words p q (resumed_stays (Cases m.made) p q m.second)
carried_words command.Implication p q w k = stay_words p q (resumed_stays Implication p q k)
carried_words command.Conjunction p q w k = stay_words p q (resumed_stays Conjunction p q k)
carried_words command.Contradiction p q w k = stay_words p q (resumed_stays Contradiction p q k)
carried_words (command.Induction x) p q w k = stay_words p q (resumed_stays (Induction x.name) p q k)
carried_words command.Partition p q w k = stay_words p q (resumed_stays Partition p q k)
carried_words (command.Instantiate is n) p q w k = stay_words p q (instantiated_stays is n p q k)
carried_words (command.CriticalPairs n m) p q w k = stay_words p q (paired_stays n m p q k)
carried_words (command.Normalize n) p q w k = stay_words p q (normalized_stays n p q k)
carried_words command.Qed p q w k =
    stay_words p q (subst (Stays p) (ok_inj (unless_passed refusal.Open p.is_proved (Ok p) q k)) refl)
carried_words (command.Mark proved) p q w k = stay_words p q (subst (Stays p) (ok_inj k) refl)
carried_words (command.Bad code) p q w k = cc

-- ---- steps

mark_stays : (proved : Bool) (ms : List Bool) → Keeps (mark_taken proved ms)
mark_stays proved [] p q k = cc
mark_stays proved (m ∷ ms) p q k =
    subst (Stays p)
    (ok_inj (unless_passed refusal.Mark (same_truth m proved) (Ok (record p { waiting = ms })) q k)) refl

marked_stays : (proved : Bool) → Keeps (mark_command proved)
marked_stays proved p q k =
    either_way (Stays p) p.checking (mark_taken proved p.waiting p) (Ok p) q (mark_stays proved p.waiting p q)
    (λ e. subst (Stays p) (ok_inj e) refl) k

in_turn : (c : CommandKind) (p q : Proof) → unless_marks_wait p (unless_proved p (carried_out c p)) ≡ Ok q
    → carried_out c p ≡ Ok q
in_turn c p q k =
    unless_passed refusal.Done (not p.is_proved) (carried_out c p) q
    (unless_passed refusal.Mark (is_quiet p.waiting) (unless_proved p (carried_out c p)) q k)

kind_words : (c : CommandKind) (p q : Proof) → WordedKind c → by_kind c p ≡ Ok q → KeepsWords p q
kind_words (command.Mark proved) p q w k = stay_words p q (marked_stays proved p q k)
kind_words command.Qed p q w k =
    carried_words command.Qed p q w
    (unless_passed refusal.Mark (is_quiet p.waiting) (carried_out command.Qed p) q k)
kind_words (command.BoxChecking false) p q w k =
    carried_words (command.BoxChecking false) p q w
    (unless_passed refusal.Done (not p.is_proved) (carried_out (command.BoxChecking false) p) q k)
kind_words c p q w k = carried_words c p q w (in_turn c p q k)

pub step_words : (c : CommandKind) (p q : Proof) → WordedKind c → step c p ≡ Ok q → KeepsWords p q
step_words c p q w k =
    let r : Proof = record p { commands = p.commands + 1 } in
    kind_words c r q w (unless_passed refusal.Size _ (by_kind c r) q (step_cases c p q k))

pub block_words : (block : List CommandKind) (p q : Proof) → All WordedKind block → all_stepped block p ≡ Ok q
    → KeepsWords p q
block_words [] p q w k h = subst (λ (r : Proof). AreVariablesInWords r.scope) (replied p q k) h
block_words (c ∷ block) p q w k h =
    let m = between (step_command c p) (λ r. all_stepped block r) q k in
    block_words block m.made q (All-tail WordedKind c block w) m.second
    (step_words c p m.made (All-head WordedKind c block w) (located_done _ (step c p) m.made m.first) h)

-- ---- the preamble

prepared_words : (c : CommandKind) (p q : Proof) → WordedKind c → prepare c p ≡ Ok q → KeepsWords p q
prepared_words (command.Declare names s) p q w k = declared_keeps_words names s p q w.0 w.1 k
prepared_words (command.Limit n) p q w k = stay_words p q (subst (Stays p) (ok_inj k) refl)
prepared_words (command.BoxChecking on) p q w k = stay_words p q (subst (Stays p) (ok_inj k) refl)
prepared_words (command.Height f u) p q w k = stay_words p q (heightened_stays f u p q k)
prepared_words (command.Status way f) p q w k = stay_words p q (status_stays way f p q k)
prepared_words c p q w k = cc

preamble_words : (n : ℕ) (preamble : List CommandKind) (p q : Proof) → All WordedKind preamble
    → all_prepared n preamble p ≡ Ok q → KeepsWords p q
unfolding all_prepared
preamble_words n [] p q w k h = subst (λ (r : Proof). AreVariablesInWords r.scope) (replied p q k) h
preamble_words n (c ∷ preamble) p q w k h =
    let m = between (locate (InPreamble (told_number n)) (prepare c p)) (λ r. all_prepared (suc n) preamble r) q k in
    preamble_words (suc n) preamble m.made q (All-tail WordedKind c preamble w) m.second
    (prepared_words c p m.made (All-head WordedKind c preamble w)
    (located_done (InPreamble (told_number n)) (prepare c p) m.made m.first) h)

-- ---- the opening

each_stays : (letter : FactLetter) (n : ℕ) (es : List Sides) → Keeps (each_added letter n es)
each_stays letter n [] p q k = subst (Stays p) (ok_inj k) refl
each_stays letter n (e ∷ es) p q k =
    let m = between (add_equation (whole_name letter n) e p) (λ r. each_added letter n es r) q k in
    further p m.made q (added_stays all_serve (whole_name letter n) e p m.made m.first)
    (each_stays letter n es m.made q m.second)

theory_stays : (n : ℕ) (ss : List Statement) → Keeps (theory_added n ss)
theory_stays n [] p q k = subst (Stays p) (ok_inj k) refl
theory_stays n (s ∷ ss) p q k =
    let m = between (each_added Axiom n (sides_of s) p) (λ r. theory_added (suc n) ss r) q k in
    further p m.made q (each_stays Axiom n (sides_of s) p m.made m.first)
    (theory_stays (suc n) ss m.made q m.second)

lemmas_stay : (ls : List EarlierDuty) → Keeps (lemmas_added ls)
lemmas_stay [] p q k = subst (Stays p) (ok_inj k) refl
lemmas_stay (l ∷ ls) p q k =
    let m = between (each_added Lemma l.number (sides_of l.statement) p) (λ r. lemmas_added ls r) q k in
    further p m.made q (each_stays Lemma l.number (sides_of l.statement) p m.made m.first)
    (lemmas_stay ls m.made q m.second)

goal_words : (s : Statement) (p q : Proof) → IsStatementInWords s → goal_made s p ≡ Ok q → KeepsWords p q
goal_words (Equation l r) p q w k h =
    subst (λ (x : Proof). AreVariablesInWords x.scope) (ok_inj k)
    (all_new_words [] (scope_of l ++ scope_of r ++ p.scope) (All-nil Lettered)
    (All-append Lettered (scope_of l ++ scope_of r) p.scope
    (All-append Lettered (scope_of l) (scope_of r) (scope_words l (w.0.0, w.1.0)) (scope_words r (w.0.1, w.1.1))) h))
goal_words (Generated s fs) p q w k h =
    let gen : PlainOperator = record {
      name = plain (free_name (taken_names p) (codes "gen"));
      domain = s ∷ [];
      range = bool_sort;
    } in
    stay_words p q (all_supposed_stay (map (λ f. holds (generation_formula gen s f)) fs)
    (with_constants (gen ∷ []) (with_goal (apply_one gen (var (codes "x") s)) p)) q k) h
goal_words (Partitioned s os) p q w k h =
    let l = free_name (taken_names p) (codes "lc") in
    let r = free_name (l ∷ taken_names p) (codes "rc") in
    let c = constant_named l s in
    let d = constant_named r s in
    stay_words p q (all_supposed_stay (flat_map sides_of (observations place_name s os (constant c) (constant d)))
    (with_constants (c ∷ d ∷ []) (with_goal (equality s (constant c) (constant d)) p)) q k) h

opening_words : (s : Statement) (p q : Proof) → IsStatementInWords s → duty_opened s p ≡ Ok q → KeepsWords p q
unfolding duty_opened
opening_words s p q w k h =
    let m = between (theory_added 1 p.theory.statements p) (λ a.
    after (lemmas_added a.lemmas a) (λ b. after (goal_made s b) (λ c. after (normal_goal c) settle_goal))) q k in
    let n = between (lemmas_added m.made.lemmas m.made) (λ b.
    after (goal_made s b) (λ c. after (normal_goal c) settle_goal)) q m.second in
    let o = between (goal_made s n.made) (λ c. after (normal_goal c) settle_goal) q n.second in
    let r = between (normal_goal o.made) settle_goal q o.second in
    let facts : Stays p n.made = further p m.made n.made (theory_stays 1 p.theory.statements p m.made m.first)
    (lemmas_stay m.made.lemmas m.made n.made n.first) in
    let goal : AreVariablesInWords o.made.scope =
    goal_words s n.made o.made w o.first (stay_words p n.made facts h) in
    stay_words o.made q (further o.made r.made q (normal_stays o.made r.made r.first)
    (settled_stays r.made q r.second)) goal

pub begun_words : (duty : Duty) (limit : ℕ) (preamble : List CommandKind) (p : Proof)
    → IsStatementInWords duty.statement → All WordedKind preamble → begun_with duty limit preamble ≡ Ok p
    → AreVariablesInWords p.scope
begun_words duty limit preamble p w ws k =
    let m = between (all_prepared 1 preamble (blank duty limit)) (λ r. locate AtOpening
    (duty_opened duty.statement r)) p k in
    opening_words duty.statement m.made p w
    (located_done AtOpening (duty_opened duty.statement m.made) p m.second)
    (preamble_words 1 preamble (blank duty limit) m.made ws m.first (All-nil Lettered))
