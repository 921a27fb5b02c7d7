-- Levels as the code has them: what is kept of them.
use Rattle.std.specs.Prelude.{◌≡◌, List, [], map, All, Option, Some, None}
use Rattle.larch_prove_boxes.specs.DerivePredicates.{HasEquation}
use Rattle.larch_prove_boxes.specs.DeriveBuilderBuilder.{Builder}
use Rattle.larch_prove_adding.specs.KeptFacts.{AreSaid, facts_of, lines_of}
use Rattle.larch_prove_boxes.specs.BoxLists.{box_list, boxes_with}
use Rattle.larch_prove_boxes.specs.Leave.{left_of}
use Rattle.larch_prove_boxes.specs.ProveInvariantBook as kept
use Rattle.larch_prove_boxes.specs.ProveInvariantBook.{Kept}
use Rattle.larch_prove_levels.specs.declared.level.Level.{Level}
use Rattle.larch_prove_levels.specs.declared.level.Purpose.{Purpose}
use Rattle.larch_prove_levels.specs.declared.level.Purpose.TheVariants as purpose
use Rattle.larch_prove_levels.specs.declared.level.Running.{Running}
use Rattle.larch_prove_boxes.specs.ProveMeaningLevels as defined
use Rattle.larch_prove_boxes.specs.ProveMeaningPlans.{Subgoal}
use Rattle.larch_prove_boxes.specs.ProvePlansPlanning.{method_of, plan_of}
use Rattle.larch_prove_adding.specs.RewriteRuleSet.{BelongsTo}
use Rattle.larch_store.specs.Numbered.{Numbered, term_of}
use Rattle.larch_store.specs.Stored.{Belongs}
use Rattle.larch_term.specs.BuiltIn.{bool_sort}
use Rattle.larch_term.specs.Sorts.{sort_of}
use Rattle.larch_term.specs.Tree.{Tree}

-- the purpose of a level with a first goal
abbrev pub purpose_of : Purpose → Tree → defined.Purpose
purpose_of purpose.OfDuty first = defined.OfDuty
purpose_of purpose.OfSubgoal first = defined.OfSubgoal
purpose_of purpose.OfProof first = defined.OfProof first

-- the method of the code runs like this one, while these subgoals wait
pub record RunsLike (r : Running) (q : kept.Running) (remaining : List Subgoal) : Type 0 where
  pub method : q.method ≡ method_of r.planned.value.method
  pub plan : plan_of q.plan ≡ r.planned.value.plan
  pub shared : boxes_with q.shared ≡ box_list r.shared
  pub left : map (λ d. d.left) q.done ≡ map left_of r.left

-- so it does, if one runs
abbrev pub RunsLikeAny : Option Running → Option kept.Running → List Subgoal → Type 0
RunsLikeAny None None remaining = Unit {0}
RunsLikeAny None (Some q) remaining = ⊥
RunsLikeAny (Some r) None remaining = ⊥
RunsLikeAny (Some r) (Some q) remaining = RunsLike r q remaining

-- the level of the code is this one, with what is kept of it, whatever method runs on it
pub record IsLevel (l : Level) (k : Kept) : Type 0 where
  pub purpose : k.level.purpose ≡ purpose_of l.purpose (term_of l.first)
  pub facts : k.level.facts ≡ facts_of l.facts
  pub lines : k.book.lines ≡ lines_of l.facts
  pub absurd : k.book.absurd ≡ l.facts.absurd
  pub goal : k.level.goal ≡ term_of l.goal.term
  pub way : k.book.way ≡ l.goal.way
  pub first : k.book.first ≡ term_of l.first
  pub entrance : boxes_with k.book.entrance ≡ box_list l.entrance
  pub extras : boxes_with k.book.extras ≡ l.extras
  pub making : All (λ x. x.hypotheses ≡ []) k.book.extras

-- and its method runs like the one of the code
abbrev pub IsKept : Level → Kept → Type 0
IsKept l k = IsLevel l k × RunsLikeAny l.running k.book.running k.level.remaining

-- its terms belong to a store, and its first goal is a formula
pub record IsStored (store : List Numbered) (l : Level) : Type 0 where
  pub goal : Belongs store l.goal.term
  pub first : Belongs store l.first
  pub formula : sort_of (term_of l.first) ≡ bool_sort

-- it can be worked on: its terms and what is kept of normal forms belong to a store, and lines say its facts, and that
-- its first goal equals the present one
pub record IsReady (store : List Numbered) (b : Builder) (l : Level) : Type 0 where
  pub goal : Belongs store l.goal.term
  pub kept : BelongsTo store l.facts.rules
  pub said : AreSaid b l.facts
  pub way : HasEquation b l.goal.way (term_of l.first) (term_of l.goal.term)

-- the second method is the first one
pub record IsSameMethod (r q : Running) : Type 0 where
  pub planned : q.planned.value ≡ r.planned.value
  pub shared : q.shared ≡ r.shared
  pub left : q.left ≡ r.left

-- so it is, if one runs
abbrev pub AreSameMethods : Option Running → Option Running → Type 0
AreSameMethods None None = Unit {0}
AreSameMethods None (Some q) = ⊥
AreSameMethods (Some r) None = ⊥
AreSameMethods (Some r) (Some q) = IsSameMethod r q

-- the second level is the first one, of whose facts no normal form is kept
pub record IsCopy (l j : Level) : Type 0 where
  pub purpose : j.purpose ≡ l.purpose
  pub facts : facts_of j.facts ≡ facts_of l.facts
  pub lines : lines_of j.facts ≡ lines_of l.facts
  pub absurd : j.facts.absurd ≡ l.facts.absurd
  pub goal : j.goal ≡ l.goal
  pub first : j.first ≡ l.first
  pub entrance : j.entrance ≡ l.entrance
  pub extras : j.extras ≡ l.extras
  pub running : AreSameMethods l.running j.running
