-- The facts with which a duty is opened have different names.
use Rattle.std.specs.Prelude.{◌≡◌, ◌≢◌, ◌<◌, ℕ, suc, List, [], ◌∷◌, map, codes, get_or, All, Ok, refl}
use Rattle.std.specs.List.{flat_map}
use Rattle.std.proofs.Common.{arith, subst, sym}
use Rattle.std.proofs.lemmas.List.Elements.{All-head, All-nil, All-tail, All-weaker}
use Rattle.larch_base.specs.declared.code.Code.TheVariants as refusal
use Rattle.larch_base.specs.declared.fact_name.FactLetter.TheVariants.{Axiom, Derived, Hypothesis, Lemma}
use Rattle.larch_base.proofs.Lists.{pairs_head, pairs_tail}
use Rattle.larch_script_commands.specs.declared.command.CommandKind.{CommandKind}
use Rattle.larch_script_commands.specs.declared.command.CommandKind.TheVariants as command
use Rattle.larch_term.specs.BuiltIn.{bool_sort}
use Rattle.larch_term.specs.Operator.{PlainOperator, plain}
use Rattle.larch_term.specs.Tree.{var}
use Rattle.larch_term.specs.declared.statement.Statement.{Statement}
use Rattle.larch_term.specs.declared.statement.Statement.TheVariants.{Equation, Generated, Partitioned}
use Rattle.larch_rewrite_meaning.specs.CalculusFormula.{apply_one, constant, equality}
use Rattle.larch_rewrite_meaning.specs.CalculusGeneration.{generation_formula, place_name}
use Rattle.larch_rewrite_meaning.specs.CalculusObservation.{observations}
use Rattle.larch_base_meaning.specs.Steps.{after}
use Rattle.larch_rewrite_meaning.specs.Sides.{Sides, sides_of}
use Rattle.larch_prove_meaning.specs.Facts.{Fact, whole_name}
use Rattle.larch_prove_meaning.specs.Levels.{EarlierDuty, Proof, add_equation, all_serve}
use Rattle.larch_prove_meaning.specs.Levels.{normal_goal, settle_goal, with_constants, with_goal}
use Rattle.larch_prove_meaning.specs.Named.{HasGivenNumber, HaveDifferentNames, HaveDifferentNumbers, IsNamedLevel}
use Rattle.larch_prove_meaning.specs.Named.{IsNamedProof}
use Rattle.larch_prove_meaning.specs.NewNames.{constant_named, free_name}
use Rattle.larch_prove_meaning.specs.Plans.{holds}
use Rattle.larch_prove_meaning.specs.Replays.{AtOpening, Duty, InPreamble, all_prepared, begun_with, blank, duty_opened}
use Rattle.larch_prove_meaning.specs.Replays.{each_added, goal_made, lemmas_added, locate, prepare}
use Rattle.larch_prove_meaning.specs.Replays.{theory_added, told_number}
use Rattle.larch_prove_meaning.specs.Steps.{refer, taken_names}
use Rattle.larch_prove_meaning.proofs.AddingNames.{HasOtherName}
use Rattle.larch_prove_meaning.proofs.LevelNames.{Is, added_named, all_supposed_go, normal_goes, settled_goes}
use Rattle.larch_prove_meaning.proofs.LevelSorts.{between, ok_inj, unless_passed}
use Rattle.larch_prove_meaning.proofs.StepNames.{named_of}
use Rattle.larch_prove_meaning.proofs.StepSorts.{located_done, replied}

-- ---- the preamble

-- there are no facts yet, and no levels below
record IsBlank (ls : List EarlierDuty) (p : Proof) : Type 0 where
  lemmas : p.lemmas ≡ ls
  facts : p.current.facts.rules ≡ []
  below : p.below ≡ []

prepared_blank : (ls : List EarlierDuty) (c : CommandKind) (p q : Proof) → IsBlank ls p → prepare c p ≡ Ok q
    → IsBlank ls q
prepared_blank ls (command.Declare ns s) p q h k =
    let a = unless_passed refusal.UnknownSort _ _ q k in
    let b = unless_passed refusal.Variable _ _ q a in
    subst (IsBlank ls) (ok_inj b) (record { lemmas = h.lemmas; facts = h.facts; below = h.below })
prepared_blank ls (command.Limit n) p q h k =
    subst (IsBlank ls) (ok_inj k) (record { lemmas = h.lemmas; facts = h.facts; below = h.below })
prepared_blank ls (command.BoxChecking on) p q h k =
    subst (IsBlank ls) (ok_inj k) (record { lemmas = h.lemmas; facts = h.facts; below = h.below })
prepared_blank ls (command.Height f g) p q h k =
    let m = between (refer p f) _ q k in
    let n = between (refer p g) _ q m.second in
    subst (IsBlank ls) (ok_inj n.second) (record { lemmas = h.lemmas; facts = h.facts; below = h.below })
prepared_blank ls (command.Status way f) p q h k =
    let m = between (refer p f) _ q k in
    subst (IsBlank ls) (ok_inj m.second) (record { lemmas = h.lemmas; facts = h.facts; below = h.below })
prepared_blank ls c p q h k = cc

all_prepared_blank : (ls : List EarlierDuty) (n : ℕ) (preamble : List CommandKind) (p q : Proof) → IsBlank ls p
    → all_prepared n preamble p ≡ Ok q → IsBlank ls q
unfolding all_prepared
all_prepared_blank ls n [] p q h k = subst (IsBlank ls) (replied p q k) h
all_prepared_blank ls n (c ∷ preamble) p q h k =
    let m = between (locate (InPreamble (told_number n)) (prepare c p)) (λ r. all_prepared (suc n) preamble r) q k in
    all_prepared_blank ls (suc n) preamble m.made q
    (prepared_blank ls c p m.made h (located_done (InPreamble (told_number n)) (prepare c p) m.made m.first)) m.second

-- ---- letters

axiom_hypothesis : Axiom ≡ Hypothesis → ⊥
axiom_hypothesis e = cc

axiom_derived : Axiom ≡ Derived → ⊥
axiom_derived e = cc

axiom_lemma : Axiom ≡ Lemma → ⊥
axiom_lemma e = cc

lemma_hypothesis : Lemma ≡ Hypothesis → ⊥
lemma_hypothesis e = cc

lemma_derived : Lemma ≡ Derived → ⊥
lemma_derived e = cc

-- ---- the theory's equations

-- an axiom has a number below this one, and nothing is a lemma yet
abbrev IsAxiomTo : ℕ → Fact → Type 0
IsAxiomTo k fact = (fact.name.letter ≡ Axiom → fact.name.number < k) × (fact.name.letter ≡ Lemma → ⊥)

record Opens (ls : List EarlierDuty) (k : ℕ) (p : Proof) : Type 0 where
  lemmas : p.lemmas ≡ ls
  named : Is p
  axioms : All (IsAxiomTo k) p.current.facts.rules

later_axiom : (k : ℕ) (f : Fact) → IsAxiomTo k f → IsAxiomTo (suc k) f
later_axiom k f g = (λ x. let lt = g.0 x in omega (arith, lt), g.1)

axiom_opens : (ls : List EarlierDuty) (k : ℕ) (e : Sides) (p q : Proof) → Opens ls k p
    → add_equation (whole_name Axiom k) e p ≡ Ok q → Opens ls (suc k) q
axiom_opens ls k e p q h w =
    let G : Fact → Type 0 = HasGivenNumber p.next_hypothesis p.next_derived in
    let P : Fact → Type 0 = λ f. G f × IsAxiomTo (suc k) f in
    let a = added_named P all_serve (whole_name Axiom k) e p q
    (λ j s. (
      (λ x. absurd (axiom_hypothesis x), λ x. absurd (axiom_derived x)),
      (λ x. omega arith, λ x. axiom_lemma x),
    )) h.named.current.different
    (All-weaker (IsAxiomTo k) (HasOtherName (whole_name Axiom k)) (λ f g x y. let lt = g.0 x in omega (arith, lt, y))
    p.current.facts.rules h.axioms)
    (λ i d lt. (h.named.current.given i d lt, later_axiom k (get_or p.current.facts.rules i d) (h.axioms i d lt))) w in
    subst (Opens ls (suc k)) a.made (record {
      lemmas = h.lemmas;
      named = record {
        current = record {
          different = a.different;
          given = All-weaker P G (λ f x. x.0) a.facts.rules a.hold;
        };
        below = h.named.below;
      };
      axioms = All-weaker P (IsAxiomTo (suc k)) (λ f x. x.1) a.facts.rules a.hold;
    })

later_opens : (ls : List EarlierDuty) (k : ℕ) (p : Proof) → Opens ls k p → Opens ls (suc k) p
later_opens ls k p h = record {
  lemmas = h.lemmas;
  named = h.named;
  axioms = All-weaker (IsAxiomTo k) (IsAxiomTo (suc k)) (later_axiom k) p.current.facts.rules h.axioms;
}

statement_opens : (ls : List EarlierDuty) (k : ℕ) (s : Statement) (p q : Proof) → Opens ls k p
    → each_added Axiom k (sides_of s) p ≡ Ok q → Opens ls (suc k) q
statement_opens ls k (Equation l r) p q h w =
    let e : Sides = record { left = l; right = r } in
    let m = between (add_equation (whole_name Axiom k) e p) (λ x. each_added Axiom k [] x) q w in
    subst (Opens ls (suc k)) (ok_inj m.second) (axiom_opens ls k e p m.made h m.first)
statement_opens ls k (Generated s fs) p q h w = subst (Opens ls (suc k)) (ok_inj w) (later_opens ls k p h)
statement_opens ls k (Partitioned s fs) p q h w = subst (Opens ls (suc k)) (ok_inj w) (later_opens ls k p h)

theory_opens : (ls : List EarlierDuty) (k : ℕ) (ss : List Statement) (p q : Proof) → Opens ls k p
    → theory_added k ss p ≡ Ok q → (n : ℕ) × Opens ls n q
theory_opens ls k [] p q h w = (k, subst (Opens ls k) (ok_inj w) h)
theory_opens ls k (s ∷ ss) p q h w =
    let m = between (each_added Axiom k (sides_of s) p) (λ r. theory_added (suc k) ss r) q w in
    theory_opens ls (suc k) ss m.made q (statement_opens ls k s p m.made h m.first) m.second

-- ---- lemmas

-- what is a lemma has none of these numbers
abbrev IsBeside : List EarlierDuty → Fact → Type 0
IsBeside ls fact = fact.name.letter ≡ Lemma → All (λ l. fact.name.number ≢ l.number) ls

record Waits (ls : List EarlierDuty) (p : Proof) : Type 0 where
  named : Is p
  beside : All (IsBeside ls) p.current.facts.rules

fewer_beside : (l : EarlierDuty) (ls : List EarlierDuty) (f : Fact) → IsBeside (l ∷ ls) f → IsBeside ls f
fewer_beside l ls f g x = All-tail (λ (m : EarlierDuty). f.name.number ≢ m.number) l ls (g x)

lemma_added : (l : EarlierDuty) (ls : List EarlierDuty) (e : Sides) (p q : Proof)
    → All (λ (m : EarlierDuty). l.number ≢ m.number) ls → Waits (l ∷ ls) p
    → add_equation (whole_name Lemma l.number) e p ≡ Ok q → Waits ls q
lemma_added l ls e p q d h w =
    let G : Fact → Type 0 = HasGivenNumber p.next_hypothesis p.next_derived in
    let P : Fact → Type 0 = λ f. G f × IsBeside ls f in
    let a = added_named P all_serve (whole_name Lemma l.number) e p q
    (λ j s. ((λ x. absurd (lemma_hypothesis x), λ x. absurd (lemma_derived x)), λ x. d)) h.named.current.different
    (All-weaker (IsBeside (l ∷ ls)) (HasOtherName (whole_name Lemma l.number))
    (λ f g x. All-head (λ (m : EarlierDuty). f.name.number ≢ m.number) l ls (g x)) p.current.facts.rules h.beside)
    (λ i c lt. (h.named.current.given i c lt, fewer_beside l ls (get_or p.current.facts.rules i c) (h.beside i c lt)))
    w in
    subst (Waits ls) a.made (record {
      named = record {
        current = record {
          different = a.different;
          given = All-weaker P G (λ f x. x.0) a.facts.rules a.hold;
        };
        below = h.named.below;
      };
      beside = All-weaker P (IsBeside ls) (λ f x. x.1) a.facts.rules a.hold;
    })

fewer_wait : (l : EarlierDuty) (ls : List EarlierDuty) (p : Proof) → Waits (l ∷ ls) p → Waits ls p
fewer_wait l ls p h = record {
  named = h.named;
  beside = All-weaker (IsBeside (l ∷ ls)) (IsBeside ls) (fewer_beside l ls) p.current.facts.rules h.beside;
}

lemma_stated : (l : EarlierDuty) (ls : List EarlierDuty) (s : Statement) (p q : Proof)
    → All (λ (m : EarlierDuty). l.number ≢ m.number) ls → Waits (l ∷ ls) p
    → each_added Lemma l.number (sides_of s) p ≡ Ok q → Waits ls q
lemma_stated l ls (Equation a b) p q d h w =
    let e : Sides = record { left = a; right = b } in
    let m = between (add_equation (whole_name Lemma l.number) e p) (λ x. each_added Lemma l.number [] x) q w in
    subst (Waits ls) (ok_inj m.second) (lemma_added l ls e p m.made d h m.first)
lemma_stated l ls (Generated s fs) p q d h w = subst (Waits ls) (ok_inj w) (fewer_wait l ls p h)
lemma_stated l ls (Partitioned s fs) p q d h w = subst (Waits ls) (ok_inj w) (fewer_wait l ls p h)

lemmas_named : (ls : List EarlierDuty) (p q : Proof) → HaveDifferentNumbers ls → Waits ls p → lemmas_added ls p ≡ Ok q
    → Is q
lemmas_named [] p q d h w = subst Is (ok_inj w) h.named
lemmas_named (l ∷ ls) p q d h w =
    let N : EarlierDuty → EarlierDuty → Type 0 = λ x y. x.number ≢ y.number in
    let m = between (each_added Lemma l.number (sides_of l.statement) p) (λ r. lemmas_added ls r) q w in
    lemmas_named ls m.made q (pairs_tail N l ls d)
    (lemma_stated l ls l.statement p m.made (pairs_head N l ls d) h m.first) m.second

-- ---- the goal with its hypotheses

goal_named : (s : Statement) (p q : Proof) → Is p → goal_made s p ≡ Ok q → Is q
goal_named (Equation l r) p q h w =
    subst Is (ok_inj w) (record {
      current = record { different = h.current.different; given = h.current.given };
      below = h.below;
    })
goal_named (Generated s fs) p q h w =
    let gen : PlainOperator = record {
      name = plain (free_name (taken_names p) (codes "gen"));
      domain = s ∷ [];
      range = bool_sort;
    } in
    (all_supposed_go (map (λ f. holds (generation_formula gen s f)) fs)
    (with_constants (gen ∷ []) (with_goal (apply_one gen (var (codes "x") s)) p)) q
    (record { current = record { different = h.current.different; given = h.current.given }; below = h.below }) w).named
goal_named (Partitioned s os) p q h w =
    let l = free_name (taken_names p) (codes "lc") in
    let r = free_name (l ∷ taken_names p) (codes "rc") in
    let c = constant_named l s in
    let d = constant_named r s in
    (all_supposed_go (flat_map sides_of (observations place_name s os (constant c) (constant d)))
    (with_constants (c ∷ d ∷ []) (with_goal (equality s (constant c) (constant d)) p)) q
    (record { current = record { different = h.current.different; given = h.current.given }; below = h.below }) w).named

-- ---- the opening

none_different : HaveDifferentNames []
none_different i j d lt within = absurd (omega (arith, within))

blank_opens : (ls : List EarlierDuty) (p : Proof) → IsBlank ls p → Opens ls 1 p
blank_opens ls p h =
    let N = IsNamedLevel p.next_hypothesis p.next_derived in
    record {
      lemmas = h.lemmas;
      named = record {
        current = record {
          different = subst HaveDifferentNames (sym h.facts) none_different;
          given = subst (All (HasGivenNumber p.next_hypothesis p.next_derived)) (sym h.facts)
              (All-nil (HasGivenNumber p.next_hypothesis p.next_derived));
        };
        below = subst (All N) (sym h.below) (All-nil N);
      };
      axioms = subst (All (IsAxiomTo 1)) (sym h.facts) (All-nil (IsAxiomTo 1));
    }

opening_named : (ls : List EarlierDuty) (s : Statement) (p q : Proof) → HaveDifferentNumbers ls → IsBlank ls p
    → duty_opened s p ≡ Ok q → Is q
unfolding duty_opened
opening_named ls s p q d h k =
    let m = between (theory_added 1 p.theory.statements p) (λ a.
    after (lemmas_added a.lemmas a) (λ b. after (goal_made s b) (λ c. after (normal_goal c) settle_goal))) q k in
    let n = between (lemmas_added m.made.lemmas m.made) (λ b.
    after (goal_made s b) (λ c. after (normal_goal c) settle_goal)) q m.second in
    let o = between (goal_made s n.made) (λ c. after (normal_goal c) settle_goal) q n.second in
    let r = between (normal_goal o.made) settle_goal q o.second in
    let t = theory_opens ls 1 p.theory.statements p m.made (blank_opens ls p h) m.first in
    let first = t.1 in
    let waits : Waits m.made.lemmas m.made = record {
      named = first.named;
      beside = All-weaker (IsAxiomTo t.0) (IsBeside m.made.lemmas) (λ f g x. absurd (g.1 x))
          m.made.current.facts.rules first.axioms;
    } in
    let second = lemmas_named m.made.lemmas m.made n.made (subst HaveDifferentNumbers (sym first.lemmas) d) waits
    n.first in
    let third = goal_named s n.made o.made second o.first in
    let fourth = normal_goes o.made r.made third r.first in
    (settled_goes r.made q fourth.named r.second).named

pub begun_named : (duty : Duty) (limit : ℕ) (preamble : List CommandKind) (p : Proof)
    → HaveDifferentNumbers duty.lemmas → begun_with duty limit preamble ≡ Ok p → IsNamedProof p
begun_named duty limit preamble p d k =
    let m = between (all_prepared 1 preamble (blank duty limit)) (λ r. locate AtOpening
    (duty_opened duty.statement r)) p k in
    let ready = all_prepared_blank duty.lemmas 1 preamble (blank duty limit) m.made
    (record { lemmas = refl; facts = refl; below = refl }) m.first in
    named_of p (opening_named duty.lemmas duty.statement m.made p d ready
    (located_done AtOpening (duty_opened duty.statement m.made) p m.second))
