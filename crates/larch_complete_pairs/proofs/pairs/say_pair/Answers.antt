use Rattle.std.proofs.Common.{◌∙◌}
use Rattle.larch_complete_pairs.proofs.PairEntries.{entries_stay}
use Rattle.larch_complete_pairs.proofs.Waiting.{pair_said, stands_written}
use Rattle.larch_complete_pairs.proofs.pairs.say_pair.Goals as goal
use Rattle.larch_derive.proofs.Growth.{extends_same, extends_trans, stays_said}

pub returns-in_err-back-clause-extends : goal.returns-in_err-back-clause-extends
returns-in_err-back-clause-extends c r q h k p =
    extends_trans _ _ _ (c.in_ok-whole.ensures.extends r.left r.right h p.first p.first_different)
    (extends_same _ _ c.in_err-back.ensures.err)

pub returns-in_err-inner-clause-extends : goal.returns-in_err-inner-clause-extends
returns-in_err-inner-clause-extends c r q h k p =
    let x = c.in_ok-whole.ensures.extends r.left r.right h p.first p.first_different in
    let s = c.in_ok-whole.ensures.says r.left r.right h p.first p.first_different in
    extends_trans _ _ _ (extends_trans _ _ _ x (c.in_ok-back.ensures.extends _ _ s))
    (extends_same _ _ c.in_err-inner.ensures.err)

pub returns-in_err-changed-clause-extends : goal.returns-in_err-changed-clause-extends
returns-in_err-changed-clause-extends c r q h k p =
    let x = c.in_ok-whole.ensures.extends r.left r.right h p.first p.first_different in
    let s = c.in_ok-whole.ensures.says r.left r.right h p.first p.first_different in
    let y = extends_trans _ _ _ x (c.in_ok-back.ensures.extends _ _ s) in
    extends_trans _ _ _
    (extends_trans _ _ _ y (c.in_ok-inner.ensures.extends q.left q.right (stays_said _ _ _ _ y k)
    (entries_stay _ _ _ y p.second) p.second_different)) (extends_same _ _ c.in_err-changed.ensures.err)

pub returns-in_err-line-clause-extends : goal.returns-in_err-line-clause-extends
returns-in_err-line-clause-extends c r q h k p =
    let x = c.in_ok-whole.ensures.extends r.left r.right h p.first p.first_different in
    let s = c.in_ok-whole.ensures.says r.left r.right h p.first p.first_different in
    let y = extends_trans _ _ _ x (c.in_ok-back.ensures.extends _ _ s) in
    let z = c.in_ok-inner.ensures.extends q.left q.right (stays_said _ _ _ _ y k) (entries_stay _ _ _ y p.second)
    p.second_different in
    let t = c.in_ok-inner.ensures.says q.left q.right (stays_said _ _ _ _ y k) (entries_stay _ _ _ y p.second)
    p.second_different in
    let b = stays_said _ _ _ _ z (c.in_ok-back.ensures.says _ _ s) in
    let e = c.in_ok-place.ensures ∙ c.as_slice.ensures in
    let w = stands_written r q c.args.pair.now c.in_ok-place.place p.overlaps e in
    let u = extends_trans _ _ _ (extends_trans _ _ _ y z) (c.in_ok-changed.ensures.extends _ _ _ _ b t w) in
    extends_trans _ _ _ u (extends_same _ _ c.in_err-line.ensures.err)

pub returns-in_err-left-clause-extends : goal.returns-in_err-left-clause-extends
returns-in_err-left-clause-extends c r q h k p =
    let x = c.in_ok-whole.ensures.extends r.left r.right h p.first p.first_different in
    let s = c.in_ok-whole.ensures.says r.left r.right h p.first p.first_different in
    let y = extends_trans _ _ _ x (c.in_ok-back.ensures.extends _ _ s) in
    let z = c.in_ok-inner.ensures.extends q.left q.right (stays_said _ _ _ _ y k) (entries_stay _ _ _ y p.second)
    p.second_different in
    let t = c.in_ok-inner.ensures.says q.left q.right (stays_said _ _ _ _ y k) (entries_stay _ _ _ y p.second)
    p.second_different in
    let b = stays_said _ _ _ _ z (c.in_ok-back.ensures.says _ _ s) in
    let e = c.in_ok-place.ensures ∙ c.as_slice.ensures in
    let w = stands_written r q c.args.pair.now c.in_ok-place.place p.overlaps e in
    let u = extends_trans _ _ _ (extends_trans _ _ _ y z) (c.in_ok-changed.ensures.extends _ _ _ _ b t w) in
    extends_trans _ _ _ u
    (c.in_ok-line.ensures.extends _ _ (c.in_ok-changed.ensures.says _ _ _ _ b t w))

pub returns-in_err-right-clause-extends : goal.returns-in_err-right-clause-extends
returns-in_err-right-clause-extends c r q h k p =
    let x = c.in_ok-whole.ensures.extends r.left r.right h p.first p.first_different in
    let s = c.in_ok-whole.ensures.says r.left r.right h p.first p.first_different in
    let y = extends_trans _ _ _ x (c.in_ok-back.ensures.extends _ _ s) in
    let z = c.in_ok-inner.ensures.extends q.left q.right (stays_said _ _ _ _ y k) (entries_stay _ _ _ y p.second)
    p.second_different in
    let t = c.in_ok-inner.ensures.says q.left q.right (stays_said _ _ _ _ y k) (entries_stay _ _ _ y p.second)
    p.second_different in
    let b = stays_said _ _ _ _ z (c.in_ok-back.ensures.says _ _ s) in
    let e = c.in_ok-place.ensures ∙ c.as_slice.ensures in
    let w = stands_written r q c.args.pair.now c.in_ok-place.place p.overlaps e in
    let u = extends_trans _ _ _ (extends_trans _ _ _ y z) (c.in_ok-changed.ensures.extends _ _ _ _ b t w) in
    extends_trans _ _ _ u
    (c.in_ok-line.ensures.extends _ _ (c.in_ok-changed.ensures.says _ _ _ _ b t w))

pub returns-clause-extends : goal.returns-clause-extends
returns-clause-extends c r q h k p =
    let x = c.in_ok-whole.ensures.extends r.left r.right h p.first p.first_different in
    let s = c.in_ok-whole.ensures.says r.left r.right h p.first p.first_different in
    let y = extends_trans _ _ _ x (c.in_ok-back.ensures.extends _ _ s) in
    let z = c.in_ok-inner.ensures.extends q.left q.right (stays_said _ _ _ _ y k) (entries_stay _ _ _ y p.second)
    p.second_different in
    let t = c.in_ok-inner.ensures.says q.left q.right (stays_said _ _ _ _ y k) (entries_stay _ _ _ y p.second)
    p.second_different in
    let b = stays_said _ _ _ _ z (c.in_ok-back.ensures.says _ _ s) in
    let e = c.in_ok-place.ensures ∙ c.as_slice.ensures in
    let w = stands_written r q c.args.pair.now c.in_ok-place.place p.overlaps e in
    let u = extends_trans _ _ _ (extends_trans _ _ _ y z) (c.in_ok-changed.ensures.extends _ _ _ _ b t w) in
    extends_trans _ _ _ u
    (c.in_ok-line.ensures.extends _ _ (c.in_ok-changed.ensures.says _ _ _ _ b t w))

pub returns-clause-says : goal.returns-clause-says
returns-clause-says c r q h k p =
    let x = c.in_ok-whole.ensures.extends r.left r.right h p.first p.first_different in
    let s = c.in_ok-whole.ensures.says r.left r.right h p.first p.first_different in
    let y = extends_trans _ _ _ x (c.in_ok-back.ensures.extends _ _ s) in
    let z = c.in_ok-inner.ensures.extends q.left q.right (stays_said _ _ _ _ y k) (entries_stay _ _ _ y p.second)
    p.second_different in
    let t = c.in_ok-inner.ensures.says q.left q.right (stays_said _ _ _ _ y k) (entries_stay _ _ _ y p.second)
    p.second_different in
    let b = stays_said _ _ _ _ z (c.in_ok-back.ensures.says _ _ s) in
    let e = c.in_ok-place.ensures ∙ c.as_slice.ensures in
    let w = stands_written r q c.args.pair.now c.in_ok-place.place p.overlaps e in
    rw (c.in_ok-left.ensures, c.in_ok-right.ensures)
    (pair_said _ _ r q c.args.pair.now c.in_ok-place.place p.overlaps (c.in_ok-place.ensures ∙ c.as_slice.ensures)
    (c.in_ok-line.ensures.says _ _ (c.in_ok-changed.ensures.says _ _ _ _ b t w)))
