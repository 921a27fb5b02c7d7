use Rattle.std.proofs.Common.{◌≡◌, ℕ, ◌+◌, ◌++◌, ◌∷◌, [], take, get_or, IsSome, sum_by, arith}
use Rattle.std.specs.Prelude.{nat_eq, reverse}
use Rattle.std.specs.HashMap.{get}
use Rattle.std.proofs.lemmas.Grind.{common_steps}
use Rattle.std.proofs.lemmas.List.{take_more}
use Rattle.larch_verify_pool.specs.Tasks.{effort}
use Rattle.larch_verify_pool.proofs.Tasks.{missing_pushed, missing_passed, effort_pushed, effort_passed}
use Rattle.larch_verify_pool.proofs.exchanging.push_missing.Goals as goal

pub loop-number-preserved-then-contains_key : goal.loop-number-preserved-then-contains_key
loop-number-preserved-then-contains_key c =
    let i : ℕ = c.loop-number.number-index in
    let k : ℕ = get_or c.args.numbers.now i 0 in
    let j : take (i + 1) c.args.numbers.now ≡ take i c.args.numbers.now ++ k ∷ [] =
    take_more c.args.numbers.now i 0 c.loop-number-test.true in
    let s : IsSome (get nat_eq c.args.done.now k) = grind (arith, common_steps) in
    record {
      tasks =
          λ us rule t ns w a. c.loop-number.invariant.tasks us rule t ns w
          (missing_passed us rule t k (get nat_eq c.args.done.now) (take i c.args.numbers.now)
          (take (i + 1) c.args.numbers.now) ns (reverse c.args.tasks.now.items) j s a);
      effort =
          λ us. effort_passed us k (sum_by (effort us) (reverse c.loop-number.tasks.items))
          (sum_by (effort us) (reverse c.args.tasks.now.items)) (take i c.args.numbers.now)
          (take (i + 1) c.args.numbers.now) j (c.loop-number.invariant.effort us);
    }

pub loop-number-preserved : goal.loop-number-preserved
loop-number-preserved c =
    let i : ℕ = c.loop-number.number-index in
    let k : ℕ = get_or c.args.numbers.now i 0 in
    let j : take (i + 1) c.args.numbers.now ≡ take i c.args.numbers.now ++ k ∷ [] =
    take_more c.args.numbers.now i 0 c.loop-number-test.true in
    record {
      tasks =
          λ us rule t ns w a. missing_pushed us rule t k (get nat_eq c.args.done.now) (take i c.args.numbers.now)
          (take (i + 1) c.args.numbers.now) ns (reverse c.args.tasks.now.items) c.loop-number.tasks.items
          c.push.new.self.items j (w i 0 c.loop-number-test.true) c.in_ok-push.ensures.items
          (λ ms. c.loop-number.invariant.tasks us rule t ms w) a;
      effort =
          λ us. effort_pushed us k (sum_by (effort us) (reverse c.args.tasks.now.items)) (take i c.args.numbers.now)
          (take (i + 1) c.args.numbers.now) c.loop-number.tasks.items c.push.new.self.items j
          c.in_ok-push.ensures.items (c.loop-number.invariant.effort us);
    }
