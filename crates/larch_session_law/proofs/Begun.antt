-- A proof has the theory and the lemmas from which its replay started.
use Rattle.std.specs.Prelude.{◌≡◌, ℕ, suc, ◌+◌, Bool, true, false, List, [], ◌∷◌, ◌++◌, map, codes, Result, Ok, refl}
use Rattle.std.specs.List.{flat_map}
use Rattle.std.proofs.Common.{ap, sym, subst, ◌∙◌}
use Rattle.larch_base.specs.declared.code.Code.{Code}
use Rattle.larch_base.specs.declared.code.Code.TheVariants as refusal
use Rattle.larch_base.specs.declared.fact_name.FactLetter.{FactLetter}
use Rattle.larch_base.specs.declared.fact_name.FactLetter.TheVariants.{Axiom, Lemma}
use Rattle.larch_base.specs.declared.fact_name.FactName.{FactName}
use Rattle.larch_term.specs.BuiltIn.{bool_sort}
use Rattle.larch_term.specs.Operator.{PlainOperator, plain}
use Rattle.larch_term.specs.Tree.{var}
use Rattle.larch_term.specs.declared.statement.Statement.{Statement}
use Rattle.larch_term.specs.declared.statement.Statement.TheVariants.{Equation, Generated, Partitioned}
use Rattle.larch_calculus.specs.Formula.{apply_one, constant, equality}
use Rattle.larch_calculus.specs.Generation.{generation_formula, place_name}
use Rattle.larch_calculus.specs.Observation.{observations}
use Rattle.larch_base_meaning.specs.Steps.{after}
use Rattle.larch_prove_meaning.specs.RewriteMeaningNormalForm.{normal}
use Rattle.larch_prove_meaning.specs.RewriteMeaningSides.{Sides, sides_of}
use Rattle.larch_script_commands.specs.declared.command.CommandKind.{CommandKind}
use Rattle.larch_script_commands.specs.declared.command.CommandKind.TheVariants as command
use Rattle.larch_prove_meaning.specs.Facts.{Manner, add, rules_of, whole_name}
use Rattle.larch_prove_meaning.specs.Levels.{EarlierDuty, Level, Proof, add_equation, all_serve, all_supposed}
use Rattle.larch_prove_meaning.specs.Levels.{is_settled, normal_goal, rise, settle_goal, suppose, with_constants}
use Rattle.larch_prove_meaning.specs.Levels.{with_facts, with_goal, work_result}
use Rattle.larch_prove_meaning.specs.NewNames.{constant_named, free_name}
use Rattle.larch_prove_meaning.specs.Plans.{holds}
use Rattle.larch_prove_meaning.specs.Replays.{AtOpening, Duty, InPreamble, all_prepared, all_stepped, begun_with, blank}
use Rattle.larch_prove_meaning.specs.Replays.{duty_opened, each_added, goal_made, lemmas_added, locate, prepare}
use Rattle.larch_prove_meaning.specs.Replays.{replay_block, theory_added, told_number}
use Rattle.larch_prove_meaning.specs.Steps.{refer, taken_names}
use Rattle.larch_prove_meaning.specs.WellSorted.{IsWellSortedDuty}
use Rattle.larch_prove_meaning.proofs.LevelSorts.{between, ok_inj, unless_passed}
use Rattle.larch_prove_meaning.proofs.OpeningSorts.{begun_sorted, block_sorted}
use Rattle.larch_prove_meaning.proofs.StepSorts.{located_done, replied}

-- the second proof has the theory and the lemmas of the first, and the same levels below the current one
record Same (p q : Proof) : Type 0 where
  pub theory : q.theory ≡ p.theory
  pub lemmas : q.lemmas ≡ p.lemmas
  pub below : q.below ≡ p.below

itself : (p : Proof) → Same p p
itself p = record { theory = refl; lemmas = refl; below = refl }

on : (p q r : Proof) → Same p q → Same q r → Same p r
on p q r a b =
    record {
      theory = b.theory ∙ a.theory;
      lemmas = b.lemmas ∙ a.lemmas;
      below = b.below ∙ a.below;
    }

-- ---- the preamble

prepared_same : (c : CommandKind) (p q : Proof) → prepare c p ≡ Ok q → Same p q
prepared_same (command.Declare ns s) p q k =
    let a = unless_passed refusal.UnknownSort _ _ q k in
    let b = unless_passed refusal.Variable _ _ q a in
    subst (Same p) (ok_inj b) (record { theory = refl; lemmas = refl; below = refl })
prepared_same (command.Limit n) p q k =
    subst (Same p) (ok_inj k) (record { theory = refl; lemmas = refl; below = refl })
prepared_same (command.BoxChecking on) p q k =
    subst (Same p) (ok_inj k) (record { theory = refl; lemmas = refl; below = refl })
prepared_same (command.Height f g) p q k =
    let m = between (refer p f) _ q k in
    let n = between (refer p g) _ q m.second in
    subst (Same p) (ok_inj n.second) (record { theory = refl; lemmas = refl; below = refl })
prepared_same (command.Status way f) p q k =
    let m = between (refer p f) _ q k in
    subst (Same p) (ok_inj m.second) (record { theory = refl; lemmas = refl; below = refl })
prepared_same c p q k = absurd (cc)

all_prepared_same : (n : ℕ) (preamble : List CommandKind) (p q : Proof) → all_prepared n preamble p ≡ Ok q → Same p q
unfolding all_prepared
all_prepared_same n [] p q k = subst (Same p) (replied p q k) (itself p)
all_prepared_same n (c ∷ preamble) p q k =
    let m = between (locate (InPreamble (told_number n)) (prepare c p)) (λ r. all_prepared (suc n) preamble r) q k in
    on p m.made q
    (prepared_same c p m.made (located_done (InPreamble (told_number n)) (prepare c p) m.made m.first))
    (all_prepared_same (suc n) preamble m.made q m.second)

-- ---- facts

added_same : (name : FactName) (e : Sides) (p q : Proof) → add_equation name e p ≡ Ok q → Same p q
added_same name e p q k =
    let manner : Manner = record { serves = all_serve; ranks = p.ranks; name = name } in
    let m = between (work_result (add manner e p.current.facts p.limit)) (λ facts. Ok (with_facts facts p)) q k in
    subst (Same p) (ok_inj m.second) (record { theory = refl; lemmas = refl; below = refl })

each_same : (letter : FactLetter) (n : ℕ) (es : List Sides) (p q : Proof) → each_added letter n es p ≡ Ok q → Same p q
each_same letter n [] p q k = subst (Same p) (ok_inj k) (itself p)
each_same letter n (e ∷ es) p q k =
    let m = between (add_equation (whole_name letter n) e p) (λ r. each_added letter n es r) q k in
    on p m.made q (added_same (whole_name letter n) e p m.made m.first) (each_same letter n es m.made q m.second)

theory_same : (n : ℕ) (ss : List Statement) (p q : Proof) → theory_added n ss p ≡ Ok q → Same p q
theory_same n [] p q k = subst (Same p) (ok_inj k) (itself p)
theory_same n (s ∷ ss) p q k =
    let m = between (each_added Axiom n (sides_of s) p) (λ r. theory_added (suc n) ss r) q k in
    on p m.made q (each_same Axiom n (sides_of s) p m.made m.first) (theory_same (suc n) ss m.made q m.second)

lemmas_same : (ls : List EarlierDuty) (p q : Proof) → lemmas_added ls p ≡ Ok q → Same p q
lemmas_same [] p q k = subst (Same p) (ok_inj k) (itself p)
lemmas_same (l ∷ ls) p q k =
    let m = between (each_added Lemma l.number (sides_of l.statement) p) (λ r. lemmas_added ls r) q k in
    on p m.made q (each_same Lemma l.number (sides_of l.statement) p m.made m.first) (lemmas_same ls m.made q m.second)

supposed_same : (es : List Sides) (p q : Proof) → all_supposed es p ≡ Ok q → Same p q
supposed_same [] p q k = subst (Same p) (ok_inj k) (itself p)
supposed_same (e ∷ es) p q k =
    let m = between (suppose e p) (λ r. all_supposed es r) q k in
    let numbered = record p { next_hypothesis = p.next_hypothesis + 1 } in
    let first = added_same _ e numbered m.made m.first in
    on p m.made q (record { theory = first.theory; lemmas = first.lemmas; below = first.below })
    (supposed_same es m.made q m.second)

-- ---- the goal

goal_same : (s : Statement) (p q : Proof) → goal_made s p ≡ Ok q → Same p q
goal_same (Equation l r) p q k =
    subst (Same p) (ok_inj k) (record { theory = refl; lemmas = refl; below = refl })
goal_same (Generated s fs) p q k =
    let gen : PlainOperator = record {
      name = plain (free_name (taken_names p) (codes "gen"));
      domain = s ∷ [];
      range = bool_sort;
    } in
    let start = with_constants (gen ∷ []) (with_goal (apply_one gen (var (codes "x") s)) p) in
    let h = supposed_same (map (λ f. holds (generation_formula gen s f)) fs) start q k in
    record { theory = h.theory; lemmas = h.lemmas; below = h.below }
goal_same (Partitioned s os) p q k =
    let l = free_name (taken_names p) (codes "lc") in
    let r = free_name (l ∷ taken_names p) (codes "rc") in
    let c = constant_named l s in
    let d = constant_named r s in
    let start = with_constants (c ∷ d ∷ []) (with_goal (equality s (constant c) (constant d)) p) in
    let h = supposed_same (flat_map sides_of (observations place_name s os (constant c) (constant d))) start q k in
    record { theory = h.theory; lemmas = h.lemmas; below = h.below }

normal_same : (p q : Proof) → normal_goal p ≡ Ok q → Same p q
normal_same p q k =
    let m = between (work_result (normal (rules_of p.current.facts.rules) p.current.goal p.limit))
    (λ g. Ok (with_goal g p)) q k in
    subst (Same p) (ok_inj m.second) (record { theory = refl; lemmas = refl; below = refl })

-- the second proof has the theory and the lemmas of the first
record Has (p q : Proof) : Type 0 where
  pub theory : q.theory ≡ p.theory
  pub lemmas : q.lemmas ≡ p.lemmas

-- two answers of a step are one
abbrev Answers : Result Proof Code → Result Proof Code → Type 0
Answers x y = x ≡ y

either_has : (b : Bool) (p q : Proof)
    → Answers (elim b [ true ↦ rise [] p.current p | false ↦ Ok p ]) (Ok q) → Has p q
either_has true p q k = subst (Has p) (ok_inj k) (record { theory = refl; lemmas = refl })
either_has false p q k = subst (Has p) (ok_inj k) (record { theory = refl; lemmas = refl })

settled_has : (p q : Proof) → p.below ≡ [] → settle_goal p ≡ Ok q → Has p q
settled_has p q e k =
    either_has (is_settled p.current) p q
    (subst (λ (below : List Level). Answers (elim (is_settled p.current) [
      | true ↦ rise below p.current p
      | false ↦ Ok p
    ]) (Ok q)) e k)

opened_has : (s : Statement) (p q : Proof) → p.below ≡ [] → duty_opened s p ≡ Ok q → Has p q
unfolding duty_opened
opened_has s p q e k =
    let m = between (theory_added 1 p.theory.statements p) (λ a.
    after (lemmas_added a.lemmas a) (λ b. after (goal_made s b) (λ c. after (normal_goal c) settle_goal))) q k in
    let n = between (lemmas_added m.made.lemmas m.made) (λ b.
    after (goal_made s b) (λ c. after (normal_goal c) settle_goal)) q m.second in
    let o = between (goal_made s n.made) (λ c. after (normal_goal c) settle_goal) q n.second in
    let r = between (normal_goal o.made) settle_goal q o.second in
    let first = on p m.made n.made (theory_same 1 p.theory.statements p m.made m.first)
    (lemmas_same m.made.lemmas m.made n.made n.first) in
    let second = on n.made o.made r.made (goal_same s n.made o.made o.first) (normal_same o.made r.made r.first) in
    let all = on p n.made r.made first second in
    let last = settled_has r.made q (all.below ∙ e) r.second in
    record { theory = last.theory ∙ all.theory; lemmas = last.lemmas ∙ all.lemmas }

begun_has : (duty : Duty) (limit : ℕ) (preamble : List CommandKind) (p : Proof) → begun_with duty limit preamble ≡ Ok p
    → (p.theory ≡ duty.theory) × (p.lemmas ≡ duty.lemmas)
begun_has duty limit preamble p k =
    let m = between (all_prepared 1 preamble (blank duty limit)) (λ r. locate AtOpening
    (duty_opened duty.statement r)) p k in
    let ready = all_prepared_same 1 preamble (blank duty limit) m.made m.first in
    let opened = opened_has duty.statement m.made p ready.below
    (located_done AtOpening (duty_opened duty.statement m.made) p m.second) in
    (opened.theory ∙ ready.theory, opened.lemmas ∙ ready.lemmas)

pub replayed_has : (duty : Duty) (limit : ℕ) (preamble block : List CommandKind) (p : Proof) → IsWellSortedDuty duty
    → replay_block duty limit preamble block ≡ Ok p → (p.theory ≡ duty.theory) × (p.lemmas ≡ duty.lemmas)
replayed_has duty limit preamble block p w k =
    let m = between (begun_with duty limit preamble) (λ q. all_stepped block q) p k in
    let begun = begun_has duty limit preamble m.made m.first in
    let stepped = (block_sorted block m.made p (begun_sorted duty limit preamble m.made w m.first) m.second).1 in
    (stepped.theory ∙ begun.0, stepped.lemmas ∙ begun.1)
