-- Each command leaves the names of facts different.
use Rattle.std.specs.Prelude.{◌≡◌, ◌≢◌, ◌+◌, ℕ, Bool, true, false, not, List, [], ◌∷◌, map, filter}
use Rattle.std.specs.Prelude.{Ok}
use Rattle.std.proofs.Common.{arith, subst}
use Rattle.std.proofs.lemmas.List.Elements.{All-cons, All-head, All-tail}
use Rattle.std.proofs.lemmas.List.Kept.{AllPairs-filter}
use Rattle.larch_base.specs.declared.code.Code.TheVariants as refusal
use Rattle.larch_base.specs.declared.fact_name.FactName.{FactName}
use Rattle.larch_base.specs.declared.way.Way.{Way}
use Rattle.larch_base.proofs.Lists.{all_from}
use Rattle.larch_base.proofs.Members.{contained_in_filter}
use Rattle.larch_raw.specs.declared.declared.RawOpRef.{RawOpRef}
use Rattle.larch_script_commands.specs.Same.{same_fact_name, same_truth}
use Rattle.larch_script_commands.specs.declared.command.CommandKind.{CommandKind}
use Rattle.larch_script_commands.specs.declared.command.CommandKind.TheVariants as command
use Rattle.larch_script_commands.specs.declared.command.RawInstance.{RawInstance}
use Rattle.larch_term.specs.BuiltIn.{bool_sort}
use Rattle.larch_term.specs.Tree.{Tree}
use Rattle.larch_rewrite_meaning.specs.CalculusFormula.{formula}
use Rattle.larch_base_meaning.specs.Steps.{after}
use Rattle.larch_sorts_meaning.specs.Scope.{Variables}
use Rattle.larch_pairs_critical.specs.Pairs.{critical_pairs}
use Rattle.larch_rewrite_meaning.specs.Sides.{Sides, sides_under}
use Rattle.larch_prove_meaning.specs.Facts.{Fact}
use Rattle.larch_prove_meaning.specs.Levels.{OfProof, Proof, all_serve, begun, derive, derived_by, is_settled}
use Rattle.larch_prove_meaning.specs.Levels.{level_for, normal_goal, settle_goal}
use Rattle.larch_prove_meaning.specs.Named.{HasGivenNumber, IsNamedLevel, IsNamedProof}
use Rattle.larch_prove_meaning.specs.Plans.{Cases, Conjunction, Contradiction, Implication, Induction, Method}
use Rattle.larch_prove_meaning.specs.Plans.{Partition, plan}
use Rattle.larch_prove_meaning.specs.Replays.{all_stepped, by_kind, is_quiet, mark_command, mark_taken}
use Rattle.larch_prove_meaning.specs.Replays.{step, step_command, unless_marks_wait, unless_proved}
use Rattle.larch_prove_meaning.specs.Steps.{all_derived, carried_out, declare, equations_of, fact_named, heighten}
use Rattle.larch_prove_meaning.specs.Steps.{instantiate, instantiation, level_opened, normalize, pair_facts, read_lone}
use Rattle.larch_prove_meaning.specs.Steps.{read_sides, refer, resume, rule_of, serves_beside, setting_of, texts}
use Rattle.larch_prove_meaning.specs.Steps.{with_all_new, with_way, without}
use Rattle.larch_prove_meaning.proofs.LevelNames.{Goes, Is, begun_goes, derived_goes, further, normal_goes}
use Rattle.larch_prove_meaning.proofs.LevelNames.{settled_goes, stays}
use Rattle.larch_prove_meaning.proofs.LevelSorts.{between, either_way, ok_inj, unless_passed}
use Rattle.larch_prove_meaning.proofs.StepSorts.{located_done, replied, step_cases}

-- ---- methods and proofs of formulas

resumed_goes : (method : Method) (p q : Proof) → Is p → resume method p ≡ Ok q → Goes p q
resumed_goes method p q h k =
    let m = between (plan (setting_of p) p.current.goal method) (λ made. begun made p) q k in
    begun_goes m.made p q h m.second

level_goes : (f : Tree) (p q : Proof) → Is p → level_opened f p ≡ Ok q → Goes p q
level_goes f p q h k =
    let r : Proof = record p { current = level_for (OfProof f) p.current f; below = p.current ∷ p.below } in
    let m = between (normal_goal r) settle_goal q k in
    let start : Is r = record {
      current = record { different = h.current.different; given = h.current.given };
      below = All-cons (IsNamedLevel p.next_hypothesis p.next_derived) p.current p.below h.current h.below;
    } in
    let first = normal_goes r m.made start m.first in
    let all = further r m.made q first (settled_goes m.made q first.named m.second) in
    record { named = all.named; hypotheses = all.hypotheses; derived = all.derived }

-- ---- additions

without_named : (n : FactName) (p : Proof) → Is p → Is (without n p)
without_named n p h =
    let P = HasGivenNumber p.next_hypothesis p.next_derived in
    let rules = p.current.facts.rules in
    record {
      current = record {
        different = AllPairs-filter (λ f g. f.name ≢ g.name) (serves_beside n) rules h.current.different;
        given = all_from P (filter (serves_beside n) rules) (λ fact c.
            let kept = (contained_in_filter (serves_beside n) rules fact c).0 in
            subst P kept.2 (h.current.given kept.0 fact kept.1));
      };
      below = h.below;
    }

-- an adding, and what it leads to
derived_and_settled : (serves : Fact → Bool) (e : Sides) (p q : Proof) → Is p
    → after (derived_by serves e p) settle_goal ≡ Ok q → Goes p q
derived_and_settled serves e p q h k =
    let m = between (derived_by serves e p) settle_goal q k in
    let first = derived_goes serves e p m.made h m.first in
    further p m.made q first (settled_goes m.made q first.named m.second)

normalized_goes : (n : FactName) (p q : Proof) → Is p → normalize n p ≡ Ok q → Goes p q
normalized_goes n p q h k =
    let m = between (fact_named n p) (λ e. after (derive e (without n p)) settle_goal) q k in
    let all = derived_and_settled all_serve m.made (without n p) q (without_named n p h) m.second in
    record { named = all.named; hypotheses = all.hypotheses; derived = all.derived }

instantiated_goes : (is : List RawInstance) (n : FactName) (p q : Proof) → Is p → instantiate is n p ≡ Ok q → Goes p q
instantiated_goes is n p q h k =
    let m = between (fact_named n p) (λ e.
    after (instantiation p e (map (λ i. i.name.name) is) is) (λ es.
    after (derived_by (serves_beside n) (sides_under es e) p) settle_goal)) q k in
    let s = between (instantiation p m.made (map (λ i. i.name.name) is) is) (λ es.
    after (derived_by (serves_beside n) (sides_under es m.made) p) settle_goal) q m.second in
    derived_and_settled (serves_beside n) (sides_under s.made m.made) p q h s.second

all_derived_go : (es : List Sides) (p q : Proof) → Is p → all_derived es p ≡ Ok q → Goes p q
all_derived_go [] p q h k = subst (Goes p) (ok_inj k) (stays p h)
all_derived_go (e ∷ es) p q h k =
    let m = between (derive e p) (λ r. elim (is_settled r.current) [ true ↦ Ok r | false ↦ all_derived es r ]) q k in
    let first = derived_goes all_serve e p m.made h m.first in
    either_way (Goes p) (is_settled m.made.current) (Ok m.made) (all_derived es m.made) q
    (λ i. subst (Goes p) (ok_inj i) first)
    (λ i. further p m.made q first (all_derived_go es m.made q first.named i)) m.second

paired_goes : (n o : FactName) (p q : Proof) → Is p → pair_facts n o p ≡ Ok q → Goes p q
paired_goes n o p q h k =
    let m = between (fact_named n p) (λ e.
    after (fact_named o p) (λ d.
    after (equations_of (critical_pairs (rule_of e) (rule_of d) (same_fact_name n o))) (λ found.
    after (all_derived found p) settle_goal))) q k in
    let s = between (fact_named o p) (λ d.
    after (equations_of (critical_pairs (rule_of m.made) (rule_of d) (same_fact_name n o))) (λ found.
    after (all_derived found p) settle_goal)) q m.second in
    let f = between (equations_of (critical_pairs (rule_of m.made) (rule_of s.made) (same_fact_name n o))) (λ found.
    after (all_derived found p) settle_goal) q s.second in
    let d = between (all_derived f.made p) settle_goal q f.second in
    let first = all_derived_go f.made p d.made h d.first in
    further p d.made q first (settled_goes d.made q first.named d.second)

-- ---- settings

scoped_goes : (p : Proof) (vs : Variables) → Is p → Goes p (record p { scope = vs })
scoped_goes p vs h = record {
  named = record { current = h.current; below = h.below };
  hypotheses = omega arith;
  derived = omega arith;
}

declared_goes : (ns : List (List ℕ)) (s : List ℕ) (p q : Proof) → Is p → declare ns s p ≡ Ok q → Goes p q
declared_goes ns s p q h k =
    let a = unless_passed refusal.UnknownSort _ _ q k in
    let b = unless_passed refusal.Variable _ _ q a in
    subst (Goes p) (ok_inj b) (scoped_goes p (with_all_new p.scope (map (λ n. (n, s)) ns)) h)

heightened_goes : (upper lower : RawOpRef) (p q : Proof) → Is p → heighten upper lower p ≡ Ok q → Goes p q
heightened_goes upper lower p q h k =
    let m = between (refer p upper) _ q k in
    let n = between (refer p lower) _ q m.second in
    subst (Goes p) (ok_inj n.second)
    (record {
      named = record { current = h.current; below = h.below };
      hypotheses = omega arith;
      derived = omega arith;
    })

status_goes : (way : Way) (r : RawOpRef) (p q : Proof) → Is p → with_way way r p ≡ Ok q → Goes p q
status_goes way r p q h k =
    let m = between (refer p r) _ q k in
    subst (Goes p) (ok_inj m.second)
    (record {
      named = record { current = h.current; below = h.below };
      hypotheses = omega arith;
      derived = omega arith;
    })

-- ---- all commands

pub carried_goes : (c : CommandKind) (p q : Proof) → Is p → carried_out c p ≡ Ok q → Goes p q
carried_goes (command.Declare ns s) p q h k = declared_goes (texts ns) s.name p q h k
carried_goes (command.Limit n) p q h k =
    subst (Goes p) (ok_inj k)
    (record {
      named = record { current = h.current; below = h.below };
      hypotheses = omega arith;
      derived = omega arith;
    })
carried_goes (command.BoxChecking on) p q h k =
    subst (Goes p) (ok_inj k)
    (record {
      named = record { current = h.current; below = h.below };
      hypotheses = omega arith;
      derived = omega arith;
    })
carried_goes (command.Height f u) p q h k = heightened_goes f u p q h k
carried_goes (command.Status way f) p q h k = status_goes way f p q h k
carried_goes (command.Prove e) p q h k =
    let m = between (read_sides p e) (λ sides. level_opened (formula sides.left sides.right) p) q k in
    level_goes (formula m.made.left m.made.right) p q h m.second
carried_goes (command.Cases e) p q h k =
    let m = between (read_lone p bool_sort e) (λ f. resume (Cases f) p) q k in
    resumed_goes (Cases m.made) p q h m.second
carried_goes command.Implication p q h k = resumed_goes Implication p q h k
carried_goes command.Conjunction p q h k = resumed_goes Conjunction p q h k
carried_goes command.Contradiction p q h k = resumed_goes Contradiction p q h k
carried_goes (command.Induction x) p q h k = resumed_goes (Induction x.name) p q h k
carried_goes command.Partition p q h k = resumed_goes Partition p q h k
carried_goes (command.Instantiate is n) p q h k = instantiated_goes is n p q h k
carried_goes (command.CriticalPairs n m) p q h k = paired_goes n m p q h k
carried_goes (command.Normalize n) p q h k = normalized_goes n p q h k
carried_goes command.Qed p q h k =
    subst (Goes p) (ok_inj (unless_passed refusal.Open p.is_proved (Ok p) q k)) (stays p h)
carried_goes (command.Mark proved) p q h k = subst (Goes p) (ok_inj k) (stays p h)
carried_goes (command.Bad code) p q h k = cc

-- ---- steps

mark_goes : (proved : Bool) (ms : List Bool) (p q : Proof) → Is p → mark_taken proved ms p ≡ Ok q → Goes p q
mark_goes proved [] p q h k = cc
mark_goes proved (m ∷ ms) p q h k =
    subst (Goes p) (ok_inj (unless_passed refusal.Mark (same_truth m proved) (Ok (record p { waiting = ms })) q k))
    (record {
      named = record { current = h.current; below = h.below };
      hypotheses = omega arith;
      derived = omega arith;
    })

marked_goes : (proved : Bool) (p q : Proof) → Is p → mark_command proved p ≡ Ok q → Goes p q
marked_goes proved p q h k =
    either_way (Goes p) p.checking (mark_taken proved p.waiting p) (Ok p) q
    (mark_goes proved p.waiting p q h) (λ e. subst (Goes p) (ok_inj e) (stays p h)) k

in_turn : (c : CommandKind) (p q : Proof) → unless_marks_wait p (unless_proved p (carried_out c p)) ≡ Ok q
    → carried_out c p ≡ Ok q
in_turn c p q k =
    unless_passed refusal.Done (not p.is_proved) (carried_out c p) q
    (unless_passed refusal.Mark (is_quiet p.waiting) (unless_proved p (carried_out c p)) q k)

kind_goes : (c : CommandKind) (p q : Proof) → Is p → by_kind c p ≡ Ok q → Goes p q
kind_goes (command.Mark proved) p q h k = marked_goes proved p q h k
kind_goes command.Qed p q h k =
    carried_goes command.Qed p q h
    (unless_passed refusal.Mark (is_quiet p.waiting) (carried_out command.Qed p) q k)
kind_goes (command.BoxChecking false) p q h k =
    carried_goes (command.BoxChecking false) p q h
    (unless_passed refusal.Done (not p.is_proved) (carried_out (command.BoxChecking false) p) q k)
kind_goes c p q h k = carried_goes c p q h (in_turn c p q k)

step_goes : (c : CommandKind) (p q : Proof) → Is p → step c p ≡ Ok q → Goes p q
step_goes c p q h k =
    let r : Proof = record p { commands = p.commands + 1 } in
    let all = kind_goes c r q (record { current = h.current; below = h.below })
    (unless_passed refusal.Size _ (by_kind c r) q (step_cases c p q k)) in
    record { named = all.named; hypotheses = all.hypotheses; derived = all.derived }

all_go : (block : List CommandKind) (p q : Proof) → Is p → all_stepped block p ≡ Ok q → Goes p q
all_go [] p q h k = subst (Goes p) (replied p q k) (stays p h)
all_go (c ∷ block) p q h k =
    let m = between (step_command c p) (λ r. all_stepped block r) q k in
    let first = step_goes c p m.made h (located_done _ (step c p) m.made m.first) in
    further p m.made q first (all_go block m.made q first.named m.second)

-- ---- proofs

pub itself : (p : Proof) → IsNamedProof p → Is p
itself p h =
    let N = IsNamedLevel p.next_hypothesis p.next_derived in
    record { current = All-head N p.current p.below h; below = All-tail N p.current p.below h }

pub named_of : (p : Proof) → Is p → IsNamedProof p
named_of p h = All-cons (IsNamedLevel p.next_hypothesis p.next_derived) p.current p.below h.current h.below

pub step_named : (c : CommandKind) (p q : Proof) → IsNamedProof p → step c p ≡ Ok q → IsNamedProof q
step_named c p q h k = named_of q (step_goes c p q (itself p h) k).named

pub block_named : (block : List CommandKind) (p q : Proof) → IsNamedProof p → all_stepped block p ≡ Ok q
    → IsNamedProof q
block_named block p q h k = named_of q (all_go block p q (itself p h) k).named
