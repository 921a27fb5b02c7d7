-- Fewer subgoals are left with each turn.
use Rattle.std.specs.Prelude.{◌≡◌, ◌+◌, ◌*◌, ◌-◌, ◌<◌, ℕ, List, [], ◌∷◌, Option, None, Some, length, refl}
use Rattle.std.specs.Prelude.{reverse}
use Rattle.std.proofs.Common.{ap, ap₂, arith, ◌∙◌}
use Rattle.std.proofs.lemmas.List.{length-append, reverse-append}
use Rattle.std.proofs.lemmas.List.Sums.{sum_by-cons}
use Rattle.larch_prove_draft.specs.ProveBoxesLeaveLeave.{Leave}
use Rattle.larch_prove_draft.specs.ProveLevelsLevel.{AreSameMethods}
use Rattle.larch_prove_draft.specs.ProveLevelsLevelLevel.{Level}
use Rattle.larch_prove_draft.specs.ProveLevelsLevelPlanned.{Planned}
use Rattle.larch_prove_draft.specs.ProveLevelsLevelRunning.{Running}
use Rattle.larch_prove_settling.specs.Parts.{IsPopped}
use Rattle.larch_prove_settling.specs.Rising.{IsNoted, to_settle, unleft}

pub fewer_left : (left : Leave) (o n : Option Running) → IsNoted left o n → 0 < unleft o → unleft n < unleft o
fewer_left left None n i h = absurd i
fewer_left left (Some r) None i h = absurd i
fewer_left left (Some r) (Some q) i h =
    let planned = ap (λ p. length p.value.plan.subgoals) i.planned in
    let long = ap length i.left_is ∙ length-append r.left (left ∷ []) in omega (arith, planned, long, h)

-- with the level below put aside, where one subgoal fewer is left
pub falls_by : (old new : List Level) (l j : Level) → new ≡ j ∷ old → unleft j.running < unleft l.running
    → to_settle new < 1 + 2 * unleft l.running + to_settle old
falls_by old new l j e h =
    let sum : to_settle new ≡ (1 + 2 * unleft j.running) + to_settle old =
    ap to_settle e ∙ sum_by-cons (λ (level : Level). 1 + 2 * unleft level.running) j old in omega (arith, sum, h)

-- or without it
pub falls_still : (old new : List Level) (n : ℕ) → new ≡ old → to_settle new < 1 + 2 * n + to_settle old
falls_still old new n e = let same : to_settle new ≡ to_settle old = ap to_settle e in omega (arith, same)

unleft_same : (o q : Option Running) → AreSameMethods o q → unleft q ≡ unleft o
unleft_same None None w = refl
unleft_same None (Some q) w = absurd w
unleft_same (Some r) None w = absurd w
unleft_same (Some r) (Some q) w =
    ap₂ (λ (p : Planned) (ls : List Leave). length p.plan.subgoals - length ls) w.planned w.left

-- less than what the level below and those under it come to is less than all came to
pub falls_under : (old new : List Level) (popped : Level) (i : IsPopped old new popped) (n : ℕ)
    → n < 1 + 2 * unleft popped.running + to_settle (reverse new) → n < to_settle (reverse old)
falls_under old new popped i n h =
    let sum : to_settle (reverse old) ≡ (1 + 2 * unleft i.last.running) + to_settle (reverse new) =
    ap (λ ls. to_settle (reverse ls)) i.levels_are ∙ ap to_settle (reverse-append new (i.last ∷ []))
    ∙ sum_by-cons (λ (level : Level). 1 + 2 * unleft level.running) i.last (reverse new) in
    let same = unleft_same i.last.running popped.running i.same.running in omega (arith, sum, same, h)
