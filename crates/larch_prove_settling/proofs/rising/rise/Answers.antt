-- What the level below is to do.
use Rattle.std.specs.Prelude.{◌≡◌, None, map, true, []}
use Rattle.std.proofs.Common.{ap}
use Rattle.larch_prove_draft.proofs.Alike.{leads_on, over_alike}
use Rattle.larch_prove_draft.proofs.ProveLevelsTelling.{tells_same}
use Rattle.larch_prove_draft.specs.ProveMeaningLevels.{rise, with_mark}
use Rattle.larch_prove_settling.proofs.Leaving.{if_answered, if_any, if_each, if_refused, if_some_then}
use Rattle.larch_prove_settling.proofs.Measures.{falls_still, falls_under}
use Rattle.larch_prove_settling.proofs.Popping.{formula_rises, formula_so, lowest_so, marked_alike, none_there}
use Rattle.larch_prove_settling.proofs.Popping.{not_duty, popped_so, subgoal_rises, subgoal_so, was_popped}
use Rattle.larch_prove_settling.proofs.rising.rise.Goals as goal

pub finish-requires-clause-shown : goal.finish-requires-clause-shown
finish-requires-clause-shown c =
    let q = c.requires.shown in
    let none = none_there c.in_ok-parent.field-0
    ((c.args.draft.now.below.items ≡ []) × (c.pop_level.new.below.items ≡ [])) c.in_default.is
    c.in_ok-parent.ensures.none in
    let z = lowest_so c.args.proving.now.theory.now c.args.proving.now.statement.now c.args.store.now c.args.draft.now
    c.leave_extras.new.builder c.mark.new.waiting c.args.line c.in_ok-line.line c.in_ok-line.ensures
    c.in_ok-mark.ensures
    c.pop_level.new.below q.0 q.1.0 q.1.1.0 none.0 none.1 q.1.1.1.1 in
    (c.args.store.now, (with_mark true q.0, (q.1.1.0, z.1)))

pub returns-in_default-clause-leads : goal.returns-in_default-clause-leads
returns-in_default-clause-leads c = λ p below level over w.
    let none = none_there c.in_ok-parent.field-0
    ((c.args.draft.now.below.items ≡ []) × (c.pop_level.new.below.items ≡ [])) c.in_default.is
    c.in_ok-parent.ensures.none in
    let z = lowest_so c.args.proving.now.theory.now c.args.proving.now.statement.now c.args.store.now c.args.draft.now
    c.leave_extras.new.builder c.mark.new.waiting c.args.line c.in_ok-line.line c.in_ok-line.ensures
    c.in_ok-mark.ensures
    c.pop_level.new.below p below level none.0 none.1 w in
    leads_on c.args.proving.now.theory.now c.args.proving.now.statement.now c.args.store.now c.finish.new.draft p
    (with_mark true p) None _ _ (marked_alike p) (ap (λ ls. rise ls level p) z.0)
    (c.in_ok-finish.ensures.leads c.args.store.now (with_mark true p) level z.1)

pub follow-requires-clause-rises : goal.follow-requires-clause-rises
follow-requires-clause-rises c =
    let q = c.requires.shown in
    let i = was_popped (map (λ level. level.value) c.args.draft.now.below.items)
    (map (λ level. level.value) c.pop_level.new.below.items) c.in_ok-parent.field-0 c.in-Some.parent
    c.replace-purpose.new.dest c.in-Some.is c.replace-purpose.ensures.after c.in_ok-parent.ensures.some in
    let z = popped_so c.args.proving.now.theory.now c.args.proving.now.statement.now c.args.store.now c.args.draft.now
    c.leave_extras.new.builder c.mark.new.waiting c.args.line c.in_ok-line.line c.in_ok-line.ensures
    c.in_ok-mark.ensures
    c.pop_level.new.below c.replace-purpose.new.dest c.replace-purpose.result i c.replace-purpose.ensures.value q.0
    q.1.0
    q.1.1.0 q.1.1.1.1 in (
      with_mark true q.0,
      (
        z.rest,
        (
          z.parent,
          (
            q.1.1.0,
            (
              over_alike _ _ _ q.0 (with_mark true q.0) (marked_alike q.0) q.1.1.1.0,
              subgoal_so _ _ _ _ _ _ _ _ c.in_ok-line.ensures c.in_ok-mark.ensures _ _ _ i
                  c.replace-purpose.ensures.value q.0 q.1.0 q.1.1.0 q.1.1.1.1 c.in-OfSubgoal.is,
            ),
          ),
        ),
      ),
    )

pub add_proved-requires : goal.add_proved-requires
add_proved-requires c =
    let q = c.requires.shown in
    let i = was_popped (map (λ level. level.value) c.args.draft.now.below.items)
    (map (λ level. level.value) c.pop_level.new.below.items) c.in_ok-parent.field-0 c.in-Some.parent
    c.replace-purpose.new.dest c.in-Some.is c.replace-purpose.ensures.after c.in_ok-parent.ensures.some in
    let z = popped_so c.args.proving.now.theory.now c.args.proving.now.statement.now c.args.store.now c.args.draft.now
    c.leave_extras.new.builder c.mark.new.waiting c.args.line c.in_ok-line.line c.in_ok-line.ensures
    c.in_ok-mark.ensures
    c.pop_level.new.below c.replace-purpose.new.dest c.replace-purpose.result i c.replace-purpose.ensures.value q.0
    q.1.0
    q.1.1.0 q.1.1.1.1 in record {
      rises = (
        with_mark true q.0,
        (
          z.rest,
          (
            z.parent,
            (
              q.1.1.0,
              (
                over_alike _ _ _ q.0 (with_mark true q.0) (marked_alike q.0) q.1.1.1.0,
                formula_so _ _ _ _ _ _ _ _ c.in_ok-line.ensures c.in_ok-mark.ensures _ _ _ i
                    c.replace-purpose.ensures.value q.0 q.1.0 q.1.1.0 q.1.1.1.1 c.in-OfProof.is,
              ),
            ),
          ),
        ),
      );
    }

pub returns-in-OfSubgoal-clause-leads : goal.returns-in-OfSubgoal-clause-leads
returns-in-OfSubgoal-clause-leads c =
    let i = was_popped (map (λ level. level.value) c.args.draft.now.below.items)
    (map (λ level. level.value) c.pop_level.new.below.items) c.in_ok-parent.field-0 c.in-Some.parent
    c.replace-purpose.new.dest c.in-Some.is c.replace-purpose.ensures.after c.in_ok-parent.ensures.some in
    let t = c.args.proving.now.theory.now in let s = c.args.proving.now.statement.now in
    if_answered _ _ c.follow.result (λ shown f p below level over w.
    let z = popped_so t s c.args.store.now c.args.draft.now
    c.leave_extras.new.builder c.mark.new.waiting c.args.line c.in_ok-line.line c.in_ok-line.ensures
    c.in_ok-mark.ensures
    c.pop_level.new.below c.replace-purpose.new.dest c.replace-purpose.result i c.replace-purpose.ensures.value p below
    level w in
    leads_on t s c.follow.new.store c.follow.new.draft p (with_mark true p) shown _ _ (marked_alike p)
    (subgoal_rises _ _ _ _ _ _ _ _ c.in_ok-line.ensures c.in_ok-mark.ensures _ _ _ i c.replace-purpose.ensures.value p
    below level w c.in-OfSubgoal.is)
    (f (with_mark true p) z.rest z.parent level (over_alike _ _ _ p (with_mark true p) (marked_alike p) over)
    (subgoal_so _ _ _ _ _ _ _ _ c.in_ok-line.ensures c.in_ok-mark.ensures _ _ _ i c.replace-purpose.ensures.value p
    below level w c.in-OfSubgoal.is))) c.follow.ensures.leads

pub returns-in-OfSubgoal-clause-refused : goal.returns-in-OfSubgoal-clause-refused
returns-in-OfSubgoal-clause-refused c =
    let i = was_popped (map (λ level. level.value) c.args.draft.now.below.items)
    (map (λ level. level.value) c.pop_level.new.below.items) c.in_ok-parent.field-0 c.in-Some.parent
    c.replace-purpose.new.dest c.in-Some.is c.replace-purpose.ensures.after c.in_ok-parent.ensures.some in
    let t = c.args.proving.now.theory.now in let s = c.args.proving.now.statement.now in
    if_refused _ _ c.follow.result (λ refusal f p below level over w.
    let z = popped_so t s c.args.store.now c.args.draft.now
    c.leave_extras.new.builder c.mark.new.waiting c.args.line c.in_ok-line.line c.in_ok-line.ensures
    c.in_ok-mark.ensures
    c.pop_level.new.below c.replace-purpose.new.dest c.replace-purpose.result i c.replace-purpose.ensures.value p below
    level w in
    tells_same _ _ refusal
    (subgoal_rises _ _ _ _ _ _ _ _ c.in_ok-line.ensures c.in_ok-mark.ensures _ _ _ i c.replace-purpose.ensures.value p
    below level w c.in-OfSubgoal.is)
    (f (with_mark true p) z.rest z.parent level (over_alike _ _ _ p (with_mark true p) (marked_alike p) over)
    (subgoal_so _ _ _ _ _ _ _ _ c.in_ok-line.ensures c.in_ok-mark.ensures _ _ _ i c.replace-purpose.ensures.value p
    below level w c.in-OfSubgoal.is))) c.follow.ensures.refused

pub returns-in-OfSubgoal-clause-falls : goal.returns-in-OfSubgoal-clause-falls
returns-in-OfSubgoal-clause-falls c =
    let i = was_popped (map (λ level. level.value) c.args.draft.now.below.items)
    (map (λ level. level.value) c.pop_level.new.below.items) c.in_ok-parent.field-0 c.in-Some.parent
    c.replace-purpose.new.dest c.in-Some.is c.replace-purpose.ensures.after c.in_ok-parent.ensures.some in
    if_answered _ _ c.follow.result (λ shown h. if_some_then shown _ _ (λ l. falls_under _ _ _ i _ l) h)
    c.follow.ensures.falls

pub returns-clause-leads : goal.returns-clause-leads
returns-clause-leads c =
    let i = was_popped (map (λ level. level.value) c.args.draft.now.below.items)
    (map (λ level. level.value) c.pop_level.new.below.items) c.in_ok-parent.field-0 c.in-Some.parent
    c.replace-purpose.new.dest c.in-Some.is c.replace-purpose.ensures.after c.in_ok-parent.ensures.some in
    let t = c.args.proving.now.theory.now in let s = c.args.proving.now.statement.now in
    if_answered _ _ c.add_proved.result (λ shown f p below level over w.
    let z = popped_so t s c.args.store.now c.args.draft.now
    c.leave_extras.new.builder c.mark.new.waiting c.args.line c.in_ok-line.line c.in_ok-line.ensures
    c.in_ok-mark.ensures
    c.pop_level.new.below c.replace-purpose.new.dest c.replace-purpose.result i c.replace-purpose.ensures.value p below
    level w in
    leads_on t s c.add_proved.new.store c.add_proved.new.draft p (with_mark true p) shown _ _ (marked_alike p)
    (formula_rises _ _ _ _ _ _ _ _ c.in_ok-line.ensures c.in_ok-mark.ensures _ _ _ i c.replace-purpose.ensures.value p
    below level w c.in-OfProof.is)
    (f (with_mark true p) z.rest z.parent level (over_alike _ _ _ p (with_mark true p) (marked_alike p) over)
    (formula_so _ _ _ _ _ _ _ _ c.in_ok-line.ensures c.in_ok-mark.ensures _ _ _ i c.replace-purpose.ensures.value p
    below level w c.in-OfProof.is))) c.add_proved.ensures.leads

pub returns-clause-refused : goal.returns-clause-refused
returns-clause-refused c =
    let i = was_popped (map (λ level. level.value) c.args.draft.now.below.items)
    (map (λ level. level.value) c.pop_level.new.below.items) c.in_ok-parent.field-0 c.in-Some.parent
    c.replace-purpose.new.dest c.in-Some.is c.replace-purpose.ensures.after c.in_ok-parent.ensures.some in
    let t = c.args.proving.now.theory.now in let s = c.args.proving.now.statement.now in
    if_refused _ _ c.add_proved.result (λ refusal f p below level over w.
    let z = popped_so t s c.args.store.now c.args.draft.now
    c.leave_extras.new.builder c.mark.new.waiting c.args.line c.in_ok-line.line c.in_ok-line.ensures
    c.in_ok-mark.ensures
    c.pop_level.new.below c.replace-purpose.new.dest c.replace-purpose.result i c.replace-purpose.ensures.value p below
    level w in
    tells_same _ _ refusal
    (formula_rises _ _ _ _ _ _ _ _ c.in_ok-line.ensures c.in_ok-mark.ensures _ _ _ i c.replace-purpose.ensures.value p
    below level w c.in-OfProof.is)
    (f (with_mark true p) z.rest z.parent level (over_alike _ _ _ p (with_mark true p) (marked_alike p) over)
    (formula_so _ _ _ _ _ _ _ _ c.in_ok-line.ensures c.in_ok-mark.ensures _ _ _ i c.replace-purpose.ensures.value p
    below level w c.in-OfProof.is))) c.add_proved.ensures.refused

pub returns-clause-falls : goal.returns-clause-falls
returns-clause-falls c =
    let i = was_popped (map (λ level. level.value) c.args.draft.now.below.items)
    (map (λ level. level.value) c.pop_level.new.below.items) c.in_ok-parent.field-0 c.in-Some.parent
    c.replace-purpose.new.dest c.in-Some.is c.replace-purpose.ensures.after c.in_ok-parent.ensures.some in
    if_each _ c.add_proved.result (λ shown. if_any shown _ (falls_under _ _ _ i _
    (falls_still _ _ _ c.add_proved.ensures.below)))

pub unreachable-requires : goal.unreachable-requires
unreachable-requires c =
    let q = c.requires.shown in
    let i = was_popped (map (λ level. level.value) c.args.draft.now.below.items)
    (map (λ level. level.value) c.pop_level.new.below.items) c.in_ok-parent.field-0 c.in-Some.parent
    c.replace-purpose.new.dest c.in-Some.is c.replace-purpose.ensures.after c.in_ok-parent.ensures.some in
    not_duty c.args.proving.now.theory.now c.args.proving.now.statement.now c.args.store.now c.args.draft.now
    c.leave_extras.new.builder c.mark.new.waiting c.args.line c.in_ok-line.line c.in_ok-line.ensures
    c.in_ok-mark.ensures
    c.pop_level.new.below c.replace-purpose.new.dest c.replace-purpose.result i c.replace-purpose.ensures.value q.0
    q.1.0
    q.1.1.0 q.1.1.1.1 c.in-OfDuty.is
