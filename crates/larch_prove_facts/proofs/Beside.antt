-- An instance of a fact is added while the facts of the fact's name don't serve as rules.
use Rattle.std.specs.Prelude.{◌≡◌, ◌+◌, ◌≤◌, ◌∷◌, ℕ, true, List, [], None, Option, Some, Result, Ok, Err, refl}
use Rattle.std.proofs.Common.{ap, ap₂, inl, subst, sym, ◌∙◌}
use Rattle.larch_base.specs.declared.code.Code.{Code}
use Rattle.larch_base.specs.declared.fact_name.FactLetter.TheVariants.{Derived}
use Rattle.larch_base.specs.declared.fact_name.FactName.{FactName}
use Rattle.larch_derive.specs.Predicates.{Extends}
use Rattle.larch_derive.specs.declared.builder.Builder.{Builder}
use Rattle.larch_order.specs.declared.precedence.Ranked.{Ranked}
use Rattle.larch_prove_work.proofs.ProveAddingTurning.{add_stopped, goes_first, goes_stopped}
use Rattle.larch_prove_work.specs.ProveAddingBeside.{facts_without, manner_beside}
use Rattle.larch_prove_work.specs.ProveAddingKeptFacts.{facts_of}
use Rattle.larch_prove_work.specs.ProveAddingTurns.{Course, Tells}
use Rattle.larch_prove_work.specs.ProveDraftDraft.{Stands, below_in}
use Rattle.larch_prove_work.specs.ProveDraftProving.{IsOver}
use Rattle.larch_prove_work.specs.ProveDraftDraftDraft.{Draft}
use Rattle.larch_prove_facts.proofs.Worked.{facts_are, goal_is, kept_worked, proof_with, stands_worked, with_alike}
use Rattle.larch_prove_facts.specs.Derivation.{Reaches}
use Rattle.larch_prove_facts.specs.Instance.{IsFormed, IsUnformed, beside_in}
use Rattle.larch_prove_facts.specs.declared.instance.Formed.TheVariants.{LeftAlone}
use Rattle.larch_prove_facts.specs.declared.instance.LeftSide.{LeftSide}
use Rattle.larch_prove_work.specs.ProveInvariantBook.{Kept}
use Rattle.larch_prove_work.proofs.ProveLevelsTelling.{tells_first, tells_same}
use Rattle.larch_prove_work.specs.ProveLevelsDerived.{Worked, with_derived, with_normal_goal, worked_in}
use Rattle.larch_prove_work.specs.ProveLevelsLevel.{IsReady}
use Rattle.larch_prove_work.specs.ProveLevelsSupposing.{TellsCode}
use Rattle.larch_prove_meaning.specs.Facts.{Facts, Manner, add, max_fact_number, normal_sides, rules_of, serving}
use Rattle.larch_prove_meaning.specs.Facts.{whole_name}
use Rattle.larch_prove_meaning.specs.Levels.{Proof, derived_by, normal_goal, with_facts, work_result}
use Rattle.larch_prove_meaning.specs.Steps.{serves_beside}
use Rattle.larch_prove_work.proofs.ProveSettlingProved.{worked_level}
use Rattle.larch_prove_work.specs.RewriteRefusalRewriteRefusal.{RewriteRefusal}
use Rattle.larch_prove_work.specs.RewriteRefusalRewriteRefusal.TheVariants.{Limit, TooLarge, Memory}
use Rattle.larch_prove_work.proofs.RewriteLawTurns.{begins_large}
use Rattle.larch_rewrite_meaning.specs.NormalForm.{normal}
use Rattle.larch_rewrite_meaning.specs.Sides.{Sides}
use Rattle.larch_rewrite_meaning.specs.Work.{Made, OverLimit, OverSize, Work, is_large, then_work}
use Rattle.larch_store.specs.Numbered.{Numbered, term_of}
use Rattle.larch_store.specs.Stored.{Grows}
use Rattle.larch_term.specs.Tree.{Tree}
use Rattle.larch_term.specs.declared.statement.Statement.{Statement}
use Rattle.larch_term.specs.declared.statement.Theory.{Theory}
use Rattle.larch_base_meaning.specs.Steps.{after}

-- ---- by the level's facts and goal

normal_so : (p : Proof) (facts : Facts) (w : Result Tree Code)
    → after w (λ g. Ok (record p {
      current = record p.current { facts = facts; goal = g };
      next_derived = p.next_derived + 1;
    }))
    ≡ after (after w (λ g. Ok (record { facts = facts; goal = g }))) (λ made. Ok (with_derived made p))
normal_so p facts (Ok g) = refl
normal_so p facts (Err code) = refl

added_so : (p : Proof) (w : Result Facts Code)
    → after (after w (λ facts. Ok (with_facts facts (record p { next_derived = p.next_derived + 1 })))) normal_goal
    ≡ after (after w (with_normal_goal p.limit p.current.goal)) (λ made. Ok (with_derived made p))
added_so p (Ok facts) = normal_so p facts (work_result (normal (rules_of facts.rules) p.current.goal p.limit))
added_so p (Err code) = refl

derive_beside : (n : FactName) (e : Sides) (p : Proof)
    → derived_by (serves_beside n) e p
    ≡ after (beside_in n p.ranks p.limit e p.next_derived (worked_in p)) (λ made. Ok (with_derived made p))
derive_beside n e p = added_so p _

same_beside : (n : FactName) (ranks rs : List Ranked) (limit m : ℕ) (e : Sides) (i k : ℕ) (l j : Worked)
    (answer : Result Worked Code) → rs ≡ ranks → m ≡ limit → k ≡ i → j ≡ l
    → beside_in n ranks limit e i l ≡ answer → beside_in n rs m e k j ≡ answer
same_beside n ranks rs limit m e i k l j answer p q r w d =
    ap (λ x. beside_in n x m e k j) p ∙ ap (λ x. beside_in n ranks x e k j) q
    ∙ ap (λ x. beside_in n ranks limit e x j) r ∙ ap (beside_in n ranks limit e i) w ∙ d

module _ (t : Theory) (s : Statement) (store : List Numbered) (d : Draft) (p : Proof) (k : Kept) (ks : List Kept)
    (w : Stands t s store d p k ks) (n : FactName) where
  beside_as : (ranks : List Ranked) (limit : ℕ) (e : Sides) (answer : Result Worked Code) → IsOver t ranks limit p
      → beside_in n ranks limit e d.next_derived (worked_level d.current) ≡ answer
      → derived_by (serves_beside n) e p ≡ after answer (λ made. Ok (with_derived made p))
  beside_as ranks limit e answer over h =
      derive_beside n e p
      ∙ ap (λ r. after r (λ made. Ok (with_derived made p)))
      (same_beside n ranks p.ranks limit p.limit e d.next_derived p.next_derived (worked_level d.current)
      (record { facts = p.current.facts; goal = p.current.goal }) answer over.ranks_are over.limit_is
      (sym w.counts.1.1.1)
      (ap₂ (λ facts goal. record { facts = facts; goal = goal }) (sym (facts_are t s store d p k ks w))
      (sym (goal_is t s store d p k ks w))) h)

  pub beside_refused : (ranks : List Ranked) (limit : ℕ) (e : Sides) (r : RewriteRefusal) → IsOver t ranks limit p
      → TellsCode (beside_in n ranks limit e d.next_derived (worked_level d.current)) r
      → TellsCode (derived_by (serves_beside n) e p) r
  beside_refused ranks limit e r over h =
      tells_same _ _ r (beside_as ranks limit e _ over refl) (tells_first _ _ r h)

  pub beside_reaches : (ranks : List Ranked) (limit : ℕ) (e : Sides) (more : List Numbered) (f : Draft)
      → IsOver t ranks limit p
      → beside_in n ranks limit e d.next_derived (worked_level d.current) ≡ Ok (worked_level f.current)
      → Grows store more → Extends d.builder f.builder
      → f.current ≡ record d.current { facts = f.current.facts; goal = f.current.goal }
      → IsReady more f.builder f.current → f.checking ≡ d.checking → f.waiting.items ≡ d.waiting.items
      → f.next_hypothesis ≡ d.next_hypothesis → f.next_derived ≡ d.next_derived + 1 → f.is_proved ≡ d.is_proved
      → below_in f ≡ below_in d → Reaches t s more f p (derived_by (serves_beside n) e p)
  beside_reaches ranks limit e more f over made g x rest ready checking waits hypothesis derived undone lower = (
    proof_with (facts_of f.current.facts) (term_of f.current.goal.term) (p.next_derived + 1) p,
    (
      beside_as ranks limit e (Ok (worked_level f.current)) over made,
      (
        with_alike (facts_of f.current.facts) (term_of f.current.goal.term) (p.next_derived + 1) p,
        (
          ks,
          (
            kept_worked f.current k,
            stands_worked t s store d p k ks w more f (p.next_derived + 1) g x rest ready checking waits hypothesis
                (derived ∙ ap (λ m. m + 1) w.counts.1.1.1) undone lower,
          ),
        ),
      ),
    ),
  )

-- ---- sides that are too large

left_stops : (rules : List Sides) (e : Sides) (b : ℕ) (r : RewriteRefusal) → Tells (normal rules e.left b) r
    → Tells (normal_sides rules e b) r
left_stops rules e b Limit h = ap (λ w. then_work w (λ l c.
    then_work (normal rules e.right c) (λ q d. Made (record { left = l; right = q }) d))) h
left_stops rules e b TooLarge h = ap (λ w. then_work w (λ l c.
    then_work (normal rules e.right c) (λ q d. Made (record { left = l; right = q }) d))) h
left_stops rules e b Memory h = tt

-- both sides, from the work on the left one
abbrev both_from : List Sides → Sides → Work Tree → Work Sides
both_from rules e w =
    then_work w (λ l c. then_work (normal rules e.right c) (λ q d. Made (record { left = l; right = q }) d))

right_stops : (rules : List Sides) (e : Sides) (w : Work Tree) (found : Tree) → work_result w ≡ Ok found
    → is_large e.right ≡ true → both_from rules e w ≡ OverSize
right_stops rules e (Made l c) found h large =
    ap (λ v. then_work {B = Sides} v (λ q d. Made (record { left = l; right = q }) d))
    (begins_large rules e.right c large)
right_stops rules e OverLimit found h large = absurd (cc)
right_stops rules e OverSize found h large = absurd (cc)

-- what stops the first turn stops the adding
sides_stop : (manner : Manner) (e : Sides) (facts : Facts) (b : ℕ) (r : RewriteRefusal)
    → manner.name.number ≤ max_fact_number → Tells (normal_sides (serving manner facts) e b) r
    → Tells (add manner e facts b) r
sides_stop manner e facts b r small h =
    let course : Course = record { made = 0; waiting = e ∷ []; facts = facts } in
    add_stopped manner e facts b r small
    (goes_stopped manner e e facts b course b [] r (goes_first manner e facts b course refl refl refl) refl (inl h))

module _ (n : FactName) (ranks : List Ranked) (name : FactName) (e : Sides) (facts : Facts) (b : ℕ)
    (small : name.number ≤ max_fact_number) where
  -- the left side is too large
  pub left_large : is_large e.left ≡ true → add (manner_beside n ranks name) e facts b ≡ OverSize
  left_large h =
      sides_stop (manner_beside n ranks name) e facts b TooLarge small
      (left_stops (serving (manner_beside n ranks name) facts) e b TooLarge
      (begins_large (serving (manner_beside n ranks name) facts) e.left b h))

  -- its normal form is refused
  pub left_refused : (r : RewriteRefusal) → Tells (normal (rules_of (facts_without n facts).rules) e.left b) r
      → Tells (add (manner_beside n ranks name) e facts b) r
  left_refused r h =
      sides_stop (manner_beside n ranks name) e facts b r small
      (left_stops (serving (manner_beside n ranks name) facts) e b r h)

  -- the right side is too large
  pub right_large : (found : Tree) → work_result (normal (rules_of (facts_without n facts).rules) e.left b) ≡ Ok found
      → is_large e.right ≡ true → add (manner_beside n ranks name) e facts b ≡ OverSize
  right_large found h large =
      sides_stop (manner_beside n ranks name) e facts b TooLarge small
      (right_stops (serving (manner_beside n ranks name) facts) e
      (normal (serving (manner_beside n ranks name) facts) e.left b) found h large)

-- ---- instances as they are formed

module _ (b : Builder) (e : Sides) (n : FactName) (ranks : List Ranked) (name : FactName) (facts : Facts) (budget : ℕ)
    (small : name.number ≤ max_fact_number) where
  pub unformed_told : (r : RewriteRefusal) → IsUnformed e r → Tells (add (manner_beside n ranks name) e facts budget) r
  unformed_told Limit h = absurd h
  unformed_told TooLarge h = left_large n ranks name e facts budget small h
  unformed_told Memory h = tt

  module _ (side : LeftSide) (formed : IsFormed b e n (LeftAlone side)) where
    pub alone_refused : (r : RewriteRefusal)
        → Tells (normal (rules_of (facts_without side.fact facts).rules) side.left budget) r
        → Tells (add (manner_beside n ranks name) e facts budget) r
    alone_refused r h =
        left_refused n ranks name e facts budget small r
        (subst (λ m. Tells (normal (rules_of (facts_without m facts).rules) e.left budget) r) formed.1.0
        (subst (λ t. Tells (normal (rules_of (facts_without side.fact facts).rules) t budget) r) formed.0 h))

    pub alone_large : (found : Tree)
        → work_result (normal (rules_of (facts_without side.fact facts).rules) side.left budget) ≡ Ok found
        → add (manner_beside n ranks name) e facts budget ≡ OverSize
    alone_large found h =
        right_large n ranks name e facts budget small found
        (subst (λ m. work_result (normal (rules_of (facts_without m facts).rules) e.left budget) ≡ Ok found) formed.1.0
        (subst (λ t. work_result (normal (rules_of (facts_without side.fact facts).rules) t budget) ≡ Ok found)
        formed.0 h)) formed.1.1.0

-- ---- under the next number

pub beside_by : (n : FactName) (ranks rs : List Ranked) (limit m : ℕ) (e : Sides) (i : ℕ) (name : FactName)
    (level : Worked) (answer : Result Facts Code) → rs ≡ ranks → m ≡ limit → name ≡ whole_name Derived i
    → work_result (add (manner_beside n rs name) e level.facts m) ≡ answer
    → beside_in n ranks limit e i level ≡ after answer (with_normal_goal limit level.goal)
beside_by n ranks rs limit m e i name level answer p q r h =
    ap (λ x. after x (with_normal_goal limit level.goal))
    (ap (λ x. work_result (add (manner_beside n x (whole_name Derived i)) e level.facts limit)) (sym p)
    ∙ ap (λ x. work_result (add (manner_beside n rs x) e level.facts limit)) (sym r)
    ∙ ap (λ x. work_result (add (manner_beside n rs name) e level.facts x)) (sym q) ∙ h)
