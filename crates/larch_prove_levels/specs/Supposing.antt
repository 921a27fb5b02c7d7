-- How hypotheses are supposed, by the facts and the number of the next one alone.
use Rattle.std.specs.Prelude.{◌≡◌, ℕ, ◌+◌, List, [], ◌∷◌, Result, Ok, Err}
use Rattle.larch_base.specs.declared.code.Code.{Code}
use Rattle.larch_base.specs.declared.code.Code.TheVariants as code
use Rattle.larch_base.specs.declared.fact_name.FactLetter.TheVariants.{Hypothesis}
use Rattle.larch_prove_boxes.specs.OrderPrecedenceRanked.{Ranked}
use Rattle.larch_prove_boxes.specs.ProveMeaningFacts.{Facts, add, whole_name}
use Rattle.larch_prove_boxes.specs.ProveMeaningLevels.{all_serve, work_result}
use Rattle.larch_prove_adding.specs.RewriteRefusalRewriteRefusal.{RewriteRefusal}
use Rattle.larch_prove_adding.specs.RewriteRefusalRewriteRefusal.TheVariants.{Limit, TooLarge, Memory}
use Rattle.larch_prove_adding.specs.RewriteMeaningSides.{Sides}
use Rattle.larch_base_meaning.specs.Steps.{after}

-- facts, and the number of the next hypothesis
pub record Supposed : Type 0 where
  pub facts : Facts
  pub next : ℕ

-- one hypothesis more; it takes its number when its adding begins
abbrev pub with_hypothesis : List Ranked → ℕ → Sides → Supposed → Result Supposed Code
with_hypothesis ranks limit e so =
    after (work_result (add (record { serves = all_serve; ranks = ranks; name = whole_name Hypothesis so.next }) e
    so.facts limit))
    (λ facts. Ok (record { facts = facts; next = so.next + 1 }))

abbrev pub with_hypotheses : List Ranked → ℕ → List Sides → Supposed → Result Supposed Code
with_hypotheses ranks limit [] so = Ok so
with_hypotheses ranks limit (e ∷ es) so =
    after (with_hypothesis ranks limit e so) (λ further. with_hypotheses ranks limit es further)

-- a refusal of the code tells the code of a step's refusal; out of memory it tells nothing
abbrev pub TellsCode : {A : Type 0} → Result A Code → RewriteRefusal → Type 0
TellsCode answer Limit = answer ≡ Err code.Limit
TellsCode answer TooLarge = answer ≡ Err code.Size
TellsCode answer Memory = Unit {0}
