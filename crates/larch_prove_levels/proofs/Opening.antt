-- Levels are opened by their facts and numbers.
use Rattle.std.specs.Prelude.{◌≡◌, ◌+◌, List, [], ◌∷◌, Result, Ok, Err, refl}
use Rattle.std.proofs.Common.{ap, ◌∙◌}
use Rattle.larch_base.specs.declared.code.Code.{Code}
use Rattle.larch_prove_levels.specs.Opened.{normal_by, opened_by, supposing_in, with_level, with_opened, with_supposed}
use Rattle.larch_prove_levels.specs.Supposing.{Supposed, with_hypotheses}
use Rattle.larch_prove_boxes.specs.ProveMeaningFacts.{Facts, rules_of}
use Rattle.larch_prove_boxes.specs.ProveMeaningLevels.{Level, Proof, all_supposed, normal_goal, open_subgoal}
use Rattle.larch_prove_boxes.specs.ProveMeaningLevels.{with_facts, work_result}
use Rattle.larch_prove_boxes.specs.ProveMeaningPlans.{Subgoal}
use Rattle.larch_prove_adding.specs.RewriteMeaningNormalForm.{normal}
use Rattle.larch_prove_adding.specs.RewriteMeaningSides.{Sides}
use Rattle.larch_term.specs.Tree.{Tree}
use Rattle.larch_base_meaning.specs.Steps.{after}

supposed_further : (es : List Sides) (p : Proof) (w : Result Facts Code)
    → ((facts : Facts) → all_supposed es (record p {
      current = record p.current { facts = facts };
      next_hypothesis = p.next_hypothesis + 1;
    })
    ≡ after (with_hypotheses p.ranks p.limit es (record { facts = facts; next = p.next_hypothesis + 1 }))
    (λ so. Ok (with_supposed so p)))
    → after (after w (λ facts. Ok (with_facts facts (record p { next_hypothesis = p.next_hypothesis + 1 }))))
    (all_supposed es)
    ≡ after (after (after w (λ facts. Ok (record { facts = facts; next = p.next_hypothesis + 1 })))
    (λ further. with_hypotheses p.ranks p.limit es further)) (λ so. Ok (with_supposed so p))
supposed_further es p (Ok facts) h = h facts
supposed_further es p (Err code) h = refl

pub all_supposed_by : (es : List Sides) (p : Proof)
    → all_supposed es p
    ≡ after (with_hypotheses p.ranks p.limit es (supposing_in p)) (λ so. Ok (with_supposed so p))
all_supposed_by [] p = refl
all_supposed_by (e ∷ es) p =
    supposed_further es p _ (λ facts. all_supposed_by es (record p {
      current = record p.current { facts = facts };
      next_hypothesis = p.next_hypothesis + 1;
    }))

normal_further : (p : Proof) (so : Supposed) (goal : Tree) (w : Result Tree Code)
    → after w (λ g. Ok (record p {
      current = record p.current { facts = so.facts; goal = g };
      next_hypothesis = so.next;
    }))
    ≡ after (after w (λ g. Ok (record { supposed = so; goal = g }))) (λ o. Ok (with_opened o p))
normal_further p so goal (Ok g) = refl
normal_further p so goal (Err code) = refl

opened_further : (p : Proof) (goal : Tree) (w : Result Supposed Code) → p.current.goal ≡ goal
    → after (after w (λ so. Ok (with_supposed so p))) normal_goal
    ≡ after (after w (normal_by p.limit goal)) (λ o. Ok (with_opened o p))
opened_further p goal (Ok so) e =
    ap (λ t. after (work_result (normal (rules_of so.facts.rules) t p.limit)) (λ g. Ok (record p {
      current = record p.current { facts = so.facts; goal = g };
      next_hypothesis = so.next;
    }))) e
    ∙ normal_further p so goal _
opened_further p goal (Err code) e = refl

-- a subgoal is opened by its parent's facts
pub subgoal_opened : (parent : Level) (below : List Level) (s : Subgoal) (p : Proof)
    → open_subgoal parent below s p
    ≡ after (opened_by p.ranks p.limit s (record { facts = parent.facts; next = p.next_hypothesis }))
    (λ o. Ok (with_opened o (with_level parent below s p)))
subgoal_opened parent below s p =
    ap (λ r. after r normal_goal) (all_supposed_by s.hypotheses (with_level parent below s p))
    ∙ opened_further (with_level parent below s p) s.goal _ refl
