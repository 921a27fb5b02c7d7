use Rattle.std.specs.Prelude.{◌≡◌, ◌∷◌, [], All, refl}
use Rattle.std.proofs.Common.{arith, subst, ◌∙◌}
use Rattle.std.proofs.lemmas.Grind.{common_steps}
use Rattle.std.proofs.lemmas.List.Elements.{All-head, All-tail}
use Rattle.std.proofs.lemmas.Result.{err_from_is_err_and}
use Rattle.larch_complete.proofs.Found.{apart_found, apart_goes, apart_halts, apart_none}
use Rattle.larch_complete.proofs.testing.first_apart.Goals as goal
use Rattle.larch_complete_pairs.specs.Said.{IsSaid}
use Rattle.larch_complete_rounds.specs.Ready.{rules_in}
use Rattle.larch_complete_rounds.specs.Task.{task_in}
use Rattle.larch_complete_rounds.proofs.Certifying.{equations_stay}
use Rattle.larch_derive.proofs.Growth.{extends_refl, extends_trans, stays_said}

pub loop-equation-init : goal.loop-equation-init
loop-equation-init c = record {
  goes = refl;
  said = c.requires.equations;
  extends = extends_refl _;
  same = refl;
  ready = c.requires.ready;
}

pub joins-requires-clause-equation : goal.joins-requires-clause-equation
joins-requires-clause-equation c =
    let w : c.loop-equation.queue.items ≡ c.in-Some.equation ∷ c.pop_front.new.self.items =
    grind (arith, common_steps) in
    All-head (IsSaid c.loop-equation.rewriter.builder) c.in-Some.equation c.pop_front.new.self.items
    (subst (All (IsSaid c.loop-equation.rewriter.builder)) w c.loop-equation.invariant.said)

pub returns-in_err-joined-clause-halts : goal.returns-in_err-joined-clause-halts
returns-in_err-joined-clause-halts c =
    let w : c.loop-equation.queue.items ≡ c.in-Some.equation ∷ c.pop_front.new.self.items =
    grind (arith, common_steps) in
    let p = err_from_is_err_and c.from_residual.result c.from_residual.ensures.1 in
    rw (p.1, p.2)
    (apart_halts (task_in c.args.task.now) (rules_in c.args.rewriter.now) (rules_in c.loop-equation.rewriter)
    c.args.equations.items c.loop-equation.queue.items c.pop_front.new.self.items c.in-Some.equation _ w
    c.loop-equation.invariant.same c.loop-equation.invariant.goes c.in_err-joined.ensures.halts)

pub returns-in_err-joined-clause-extends : goal.returns-in_err-joined-clause-extends
returns-in_err-joined-clause-extends c =
    extends_trans _ _ _ c.loop-equation.invariant.extends c.in_err-joined.ensures.extends

pub returns-then-not-joined-clause-found : goal.returns-then-not-joined-clause-found
returns-then-not-joined-clause-found c =
    let w : c.loop-equation.queue.items ≡ c.in-Some.equation ∷ c.pop_front.new.self.items =
    grind (arith, common_steps) in
    apart_found (task_in c.args.task.now) (rules_in c.args.rewriter.now) (rules_in c.loop-equation.rewriter)
    c.args.equations.items c.loop-equation.queue.items c.pop_front.new.self.items c.in-Some.equation
    c.in_ok-joined.joined w c.loop-equation.invariant.same c.loop-equation.invariant.goes
    c.if-not-joined.true c.in_ok-joined.ensures.told

pub returns-then-not-joined-clause-says : goal.returns-then-not-joined-clause-says
returns-then-not-joined-clause-says c =
    let w : c.loop-equation.queue.items ≡ c.in-Some.equation ∷ c.pop_front.new.self.items =
    grind (arith, common_steps) in
    stays_said _ _ _ _ c.in_ok-joined.ensures.extends
    (All-head (IsSaid c.loop-equation.rewriter.builder) c.in-Some.equation c.pop_front.new.self.items
    (subst (All (IsSaid c.loop-equation.rewriter.builder)) w c.loop-equation.invariant.said))

pub returns-then-not-joined-clause-extends : goal.returns-then-not-joined-clause-extends
returns-then-not-joined-clause-extends c =
    extends_trans _ _ _ c.loop-equation.invariant.extends c.in_ok-joined.ensures.extends

pub loop-equation-preserved : goal.loop-equation-preserved
loop-equation-preserved c =
    let w : c.loop-equation.queue.items ≡ c.in-Some.equation ∷ c.pop_front.new.self.items =
    grind (arith, common_steps) in
    record {
      goes = apart_goes (task_in c.args.task.now) (rules_in c.args.rewriter.now) (rules_in c.loop-equation.rewriter)
          c.args.equations.items c.loop-equation.queue.items c.pop_front.new.self.items c.in-Some.equation
          c.in_ok-joined.joined w c.loop-equation.invariant.same c.loop-equation.invariant.goes
          c.if-not-joined.false c.in_ok-joined.ensures.told;
      said = equations_stay _ _ c.pop_front.new.self.items c.in_ok-joined.ensures.extends
          (All-tail (IsSaid c.loop-equation.rewriter.builder) c.in-Some.equation c.pop_front.new.self.items
          (subst (All (IsSaid c.loop-equation.rewriter.builder)) w c.loop-equation.invariant.said));
      extends = extends_trans _ _ _ c.loop-equation.invariant.extends c.in_ok-joined.ensures.extends;
      same = c.in_ok-joined.ensures.rules ∙ c.loop-equation.invariant.same;
      ready = c.in_ok-joined.ensures.ready;
    }

pub returns-clause-found : goal.returns-clause-found
returns-clause-found c =
    let n : c.loop-equation.queue.items ≡ [] = grind (arith, common_steps) in
    apart_none (task_in c.args.task.now) (rules_in c.args.rewriter.now) c.args.equations.items
    c.loop-equation.queue.items n c.loop-equation.invariant.goes
