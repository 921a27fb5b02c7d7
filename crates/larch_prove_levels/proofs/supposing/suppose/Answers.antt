-- A number that no name may have is refused.
use Rattle.std.proofs.Common.{Ok, ap, arith, inl, inr, ◌+◌, ◌<◌}
use Rattle.std.proofs.lemmas.Bool.{cases_lt}
use Rattle.larch_base.specs.declared.fact_name.FactLetter.TheVariants.{Hypothesis}
use Rattle.larch_prove_adding.specs.Equation.{sides_in}
use Rattle.larch_prove_adding.specs.KeptFacts.{facts_of}
use Rattle.larch_prove_levels.proofs.Hypotheses.{too_many}
use Rattle.larch_prove_levels.proofs.supposing.suppose.Goals as goal
use Rattle.larch_prove_boxes.specs.ProveMeaningFacts.{Facts, max_fact_number, whole_name}
use Rattle.larch_prove_boxes.specs.ProveMeaningLevels.{all_serve, work_result}
use Rattle.larch_prove_adding.specs.RewriteMeaningWork.{Work}
use Rattle.larch_base_meaning.specs.Steps.{after}

pub returns-in_default-clause-refused : goal.returns-in_default-clause-refused
returns-in_default-clause-refused c =
    let large : max_fact_number < c.args.next.now =
    elim (cases_lt c.args.next.now 4294967296) [
      | inl l ↦ absurd (c.in_default.ensures l)
      | inr g ↦ omega (arith, g)
    ] in
    ap (λ (w : Work Facts). after (work_result w) (λ facts. Ok (record {
      facts = facts;
      next = c.args.next.now + 1;
    })))
    (too_many (record {
      serves = all_serve;
      ranks = c.args.around.now.precedence.now;
      name = whole_name Hypothesis c.args.next.now;
    }) (sides_in c.args.equation) (facts_of c.args.facts.now) c.args.around.now.limit large)
