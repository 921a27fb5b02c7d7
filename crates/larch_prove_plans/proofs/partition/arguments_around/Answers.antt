use Rattle.std.proofs.Common.{rules, ◌≡◌, ◌<◌, ◌+◌, ◌++◌, ◌∷◌, [], ap, arith, get_or, length}
use Rattle.larch_calculus.specs.Formula.{constant}
use Rattle.larch_prove_plans.proofs.Steps.{around_beside, around_here}
use Rattle.larch_prove_plans.proofs.partition.arguments_around.Goals as goal

-- src/partition.rt:139:5
pub loop-i-preserved-then-i-observation : goal.loop-i-preserved-then-i-observation
loop-i-preserved-then-i-observation c =
    let l : c.loop-i.i < length c.args.observation.now.observer.domain = search rules in
    let q : c.in_ok-argument.argument ≡ c.args.term.now = search rules in
    let v : c.push.new.self.items ≡ c.loop-i.arguments.items ++ c.in_ok-argument.argument ∷ [] = search rules in
    around_here (c.args.observation.now.index + 1) c.loop-i.i c.loop-i.next c.args.term.now _
    c.args.observation.now.observer.domain c.args.constants.now c.loop-i.arguments.items _ _ l
    (ap (λ n. n + 1) c.if-i-observation.true) q v c.loop-i.invariant

-- src/partition.rt:139:5
pub loop-i-preserved : goal.loop-i-preserved
loop-i-preserved c =
    let l : c.loop-i.i < length c.args.observation.now.observer.domain = search rules in
    let e : c.loop-i.i + 1 ≡ c.args.observation.now.index + 1 → ⊥ = λ h. c.if-i-observation.false (omega (arith, h)) in
    let k : c.loop-i.next < length c.args.constants.now = search rules in
    let a : c.index-constants-next.result
    ≡ get_or c.args.constants.now c.loop-i.next c.index-constants-next.result = search rules in
    let q : c.in_ok-argument-2.argument ≡ constant c.index-constants-next.result = search rules in
    let v : c.push-in-loop-i.new.self.items ≡ c.loop-i.arguments.items ++ c.in_ok-argument-2.argument ∷ [] =
    search rules in
    around_beside (c.args.observation.now.index + 1) c.loop-i.i c.loop-i.next c.args.term.now _
    c.index-constants-next.result c.args.observation.now.observer.domain c.args.constants.now c.loop-i.arguments.items
    _ _ l e k a q v c.loop-i.invariant
