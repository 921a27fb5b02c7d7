-- Hypotheses one after the other.
use Rattle.std.proofs.Common.{All, ap, map, subst, sym, ◌++◌, ◌∙◌, ◌∷◌, []}
use Rattle.std.proofs.lemmas.List.{map-append}
use Rattle.std.proofs.lemmas.List.Elements.{All-head, All-tail}
use Rattle.std.proofs.lemmas.Result.{err_from_is_err_and}
use Rattle.larch_prove_boxes.proofs.DeriveGrowth.{extends_trans}
use Rattle.larch_prove_adding.proofs.Staying.{equations_stay}
use Rattle.larch_prove_adding.specs.Equation.{IsSaid, sides_in}
use Rattle.larch_prove_adding.specs.KeptFacts.{facts_of}
use Rattle.larch_prove_levels.specs.Supposing.{TellsCode, with_hypotheses}
use Rattle.larch_prove_levels.proofs.Hypotheses.{one_refused, one_taken, with_one_more}
use Rattle.larch_prove_levels.proofs.supposing.suppose_all.Goals as goal
use Rattle.larch_store.proofs.Growth.{grows_trans}

pub suppose-requires-clause-equation : goal.suppose-requires-clause-equation
suppose-requires-clause-equation c =
    All-head (IsSaid c.loop-equation.builder) c.in-Some.equation c.next.new.self.rest.items
    (subst (All (IsSaid c.loop-equation.builder)) c.in-Some.ensures.steps.0 c.loop-equation.invariant.waiting)

pub loop-equation-preserved : goal.loop-equation-preserved
loop-equation-preserved c =
    let so_far = c.loop-equation.yielded in let e = c.in-Some.equation in
    let ranks = c.args.around.now.precedence.now in let limit = c.args.around.now.limit in
    record {
      supposed = ap (λ es. with_hypotheses ranks limit es (record {
        facts = facts_of c.args.facts.now;
        next = c.args.next.now;
      })) (map-append sides_in so_far (e ∷ []))
          ∙ with_one_more ranks limit (map sides_in so_far) (sides_in e) _ _ _ c.loop-equation.invariant.supposed
          c.in_ok-suppose.ensures.supposed;
      order = one_taken c.args.equations.items so_far c.loop-equation.equation-iterator.rest.items
          c.next.new.self.rest.items e c.loop-equation.invariant.order c.in-Some.ensures.steps.0;
      kept = c.in_ok-suppose.ensures.kept;
      said = c.in_ok-suppose.ensures.said;
      waiting = equations_stay c.loop-equation.builder c.suppose.new.builder c.next.new.self.rest.items
          c.in_ok-suppose.ensures.extends
          (All-tail (IsSaid c.loop-equation.builder) e c.next.new.self.rest.items
          (subst (All (IsSaid c.loop-equation.builder)) c.in-Some.ensures.steps.0 c.loop-equation.invariant.waiting));
      grows = grows_trans _ _ _ c.loop-equation.invariant.grows c.in_ok-suppose.ensures.grows;
      extends = extends_trans _ _ _ c.loop-equation.invariant.extends c.in_ok-suppose.ensures.extends;
    }

pub returns-in_err-suppose-clause-refused : goal.returns-in_err-suppose-clause-refused
returns-in_err-suppose-clause-refused c =
    let so_far = c.loop-equation.yielded in let e = c.in-Some.equation in let more = c.next.new.self.rest.items in
    let ranks = c.args.around.now.precedence.now in let limit = c.args.around.now.limit in
    let q = err_from_is_err_and c.from_residual.result c.from_residual.ensures.1 in
    rw (q.1, q.2)
    (subst (λ es. TellsCode (with_hypotheses ranks limit es (record {
      facts = facts_of c.args.facts.now;
      next = c.args.next.now;
    })) c.in_err-suppose.field-0.0)
    (sym (ap (map sides_in) (c.loop-equation.invariant.order ∙ ap (λ ys. so_far ++ ys) c.in-Some.ensures.steps.0)
    ∙ map-append sides_in so_far (e ∷ more)))
    (one_refused ranks limit (map sides_in so_far) (map sides_in more) (sides_in e) _ _ _
    c.loop-equation.invariant.supposed c.in_err-suppose.ensures.refused))

pub returns-in_err-suppose-clause-grows : goal.returns-in_err-suppose-clause-grows
returns-in_err-suppose-clause-grows c =
    grows_trans _ _ _ c.loop-equation.invariant.grows c.in_err-suppose.ensures.grows

pub returns-in_err-suppose-clause-extends : goal.returns-in_err-suppose-clause-extends
returns-in_err-suppose-clause-extends c =
    extends_trans _ _ _ c.loop-equation.invariant.extends c.in_err-suppose.ensures.extends
