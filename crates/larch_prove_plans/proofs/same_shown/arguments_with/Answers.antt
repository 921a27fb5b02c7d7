use Rattle.std.proofs.Common.{rules, ◌≡◌, ◌<◌, ◌≤◌, ◌+◌, ◌++◌, ◌∷◌, [], ap, arith, get_or, length}
use Rattle.larch_calculus.specs.Generation.{place_name}
use Rattle.larch_term.specs.Tree.{var}
use Rattle.larch_prove_plans.proofs.Generating.{arguments_beside, arguments_done, arguments_here}
use Rattle.larch_prove_plans.proofs.same_shown.arguments_with.Goals as goal
use Rattle.larch_prove_plans.proofs.same_shown.arguments_with.Goals.{then-index-observation+in_ok-argument}
use Rattle.larch_prove_plans.proofs.same_shown.arguments_with.Goals.{else-index-observation+in_ok-argument-2}

pub loop-index-preserved : goal.loop-index-preserved
loop-index-preserved c =
    let l : c.loop-index.index < length c.args.observation.now.observer.domain = search rules in
    let v : c.push.new.self.items ≡ c.loop-index.arguments.items ++ c.if-index-observation.argument ∷ [] =
    search rules in
    elim c.if-index-observation.branch [
      | then-index-observation+in_ok-argument w ↦
          let q : c.if-index-observation.argument ≡ c.args.term.now = search rules in
          arguments_here c.loop-index.arguments.items _ c.if-index-observation.argument _
          (c.args.observation.now.index + 1) c.loop-index.index c.args.term.now c.args.observation.now.observer.domain l
          (ap (λ n. n + 1) w.if-index-observation.true) q v c.loop-index.invariant
      | else-index-observation+in_ok-argument-2 w ↦
          let e : c.loop-index.index + 1 ≡ c.args.observation.now.index + 1 → ⊥ =
          λ h. w.if-index-observation.false (omega (arith, h)) in
          let a : w.index-domain-index.result
          ≡ get_or c.args.observation.now.observer.domain c.loop-index.index w.index-domain-index.result =
          search rules in
          let q : c.if-index-observation.argument
          ≡ var (place_name (c.loop-index.index + 1)) w.index-domain-index.result =
          search rules in
          arguments_beside c.loop-index.arguments.items _ c.if-index-observation.argument _
          (c.args.observation.now.index + 1) c.loop-index.index c.args.term.now w.index-domain-index.result
          c.args.observation.now.observer.domain l e a q v c.loop-index.invariant
    ]

pub returns : goal.returns
returns c =
    let le : length c.args.observation.now.observer.domain ≤ c.loop-index.index = search rules in
    arguments_done c.loop-index.arguments.items (c.args.observation.now.index + 1) c.loop-index.index c.args.term.now
    c.args.observation.now.observer.domain _ le c.loop-index.invariant
