-- All subgoals were left, so the method's end says that the goal is true.
use Rattle.std.proofs.Common.{◌∷◌, refl, subst, sym}
use Rattle.larch_prove_draft.proofs.ProveInvariantHeld.{boxes_held}
use Rattle.larch_prove_settling.proofs.MethodEnds.{are_left, are_left_as, end_leads, stood}
use Rattle.larch_prove_settling.specs.Rising.{IsNoted}
use Rattle.larch_prove_settling.proofs.methods.end.Goals as goal

pub end_on-requires-clause-left : goal.end_on-requires-clause-left
end_on-requires-clause-left c =
    let r = c.requires.follows in let w = r.1.1.1.1 in
    let noted = subst (IsNoted c.args.left c.args.draft.now.current.running) c.in-Some.is c.in_ok-note_left.ensures in (
      (stood _ _ _ _ _ _ _ _ _ w).0,
      are_left_as _ _ _ _ _ _ _ _ _ refl (sym c.as_ref.ensures.value) (sym c.as_slice.ensures)
          (are_left _ _ _ _ _ _ _ _ _ w c.in-Some.running noted),
    )

pub end_on-requires-clause-theory : goal.end_on-requires-clause-theory
end_on-requires-clause-theory c =
    let w = c.requires.follows.1.1.1.1 in
    sym (boxes_held c.args.proving.now.theory.now c.args.proving.now.statement.now c.args.draft.now.builder
    (w.follows.on ∷ w.follows.others) w.follows.held.held).0

pub returns-clause-leads : goal.returns-clause-leads
returns-clause-leads c = λ p below parent over w.
    let t = c.args.proving.now.theory.now in let s = c.args.proving.now.statement.now in
    let noted = subst (IsNoted c.args.left c.args.draft.now.current.running) c.in-Some.is c.in_ok-note_left.ensures in
    let z = stood _ _ _ _ _ _ _ _ _ w in
    let left = are_left_as _ _ _ _ _ _ _ _ _ refl (sym c.as_ref.ensures.value) (sym c.as_slice.ensures)
    (are_left _ _ _ _ _ _ _ _ _ w c.in-Some.running noted) in
    let on = w.follows.on in
    let said = c.in_ok-line.ensures t s z.0 on w.follows.others w.follows.current.0.goal w.follows.current.0.way left
    z.1.0 in
    end_leads _ _ _ _ p below parent _ _ w c.end_on.new.builder c.note_left.new.running c.in_ok-line.line said.0 said.1
