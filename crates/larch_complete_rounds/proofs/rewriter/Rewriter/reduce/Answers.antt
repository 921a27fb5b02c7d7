use Rattle.std.proofs.Common.{ap, ◌∙◌}
use Rattle.std.proofs.lemmas.Result.{err_from_is_err_and}
use Rattle.larch_complete_pairs.specs.Said.{sides_in}
use Rattle.larch_complete_rounds.specs.Ready.{rules_in}
use Rattle.larch_complete_rounds.proofs.Reducing.{between_made, left_tells, made_still, right_tells, tells_still}
use Rattle.larch_complete_rounds.proofs.Reducing.{ready_still}
use Rattle.larch_complete_rounds.proofs.rewriter.Rewriter.reduce.Goals as goal
use Rattle.larch_derive.proofs.Growth.{extends_trans, known_left, known_right, stays_known, stays_said}
use Rattle.larch_store.proofs.Growth.{belongs_stays}

pub normal_form-requires-clause-known : goal.normal_form-requires-clause-known
normal_form-requires-clause-known c = known_left _ _ _ _ c.requires.equation

pub returns-in_err-left-clause-refused : goal.returns-in_err-left-clause-refused
returns-in_err-left-clause-refused c =
    let p = err_from_is_err_and c.from_residual.result c.from_residual.ensures.1 in
    rw (p.1, p.2)
    (left_tells (rules_in c.args.self.now) (sides_in c.args.equation.now) c.args.budget _
    c.in_err-left.ensures.refused)

pub normal_form-requires-2-clause-known : goal.normal_form-requires-2-clause-known
normal_form-requires-2-clause-known c =
    stays_known _ _ _ c.in_ok-left.ensures.extends (known_right _ _ _ _ c.requires.equation)

pub returns-in_err-right-clause-refused : goal.returns-in_err-right-clause-refused
returns-in_err-right-clause-refused c =
    let p = err_from_is_err_and c.from_residual-in_err-right.result c.from_residual-in_err-right.ensures.1 in
    rw (p.1, p.2)
    (right_tells (rules_in c.args.self.now) (sides_in c.args.equation.now) c.args.budget _ _ _ _
    c.in_ok-left.ensures.made c.saturating_sub-further.ensures
    (tells_still (rules_in c.args.self.now) (rules_in c.normal_form.new.self) _ _ _ c.in_ok-left.ensures.rules
    c.in_err-right.ensures.refused))

pub returns-in_err-right-clause-extends : goal.returns-in_err-right-clause-extends
returns-in_err-right-clause-extends c =
    extends_trans _ _ _ c.in_ok-left.ensures.extends c.in_err-right.ensures.extends

pub between-requires-clause-left : goal.between-requires-clause-left
between-requires-clause-left c = belongs_stays _ _ _ c.in_ok-right.ensures.grows c.in_ok-left.ensures.belongs

pub returns-in_err-reduced-clause-extends : goal.returns-in_err-reduced-clause-extends
returns-in_err-reduced-clause-extends c =
    let x = extends_trans _ _ _ c.in_ok-left.ensures.extends c.in_ok-right.ensures.extends in
    extends_trans _ _ _ x
    (c.in_err-reduced.ensures.extends _ _
    (stays_said _ _ _ _ c.in_ok-right.ensures.extends c.in_ok-left.ensures.says)
    (stays_said _ _ _ _ x c.requires.equation) c.in_ok-right.ensures.says)

pub returns-clause-reduced : goal.returns-clause-reduced
returns-clause-reduced c =
    between_made (rules_in c.args.self.now) (sides_in c.args.equation.now) (sides_in c.in_ok-reduced.reduced)
    c.args.budget _ _ _ _ _ c.in_ok-left.ensures.made c.saturating_sub-further.ensures
    (made_still (rules_in c.args.self.now) (rules_in c.normal_form.new.self) _ _ _ _ c.in_ok-left.ensures.rules
    c.in_ok-right.ensures.made) c.in_ok-reduced.ensures.left c.in_ok-reduced.ensures.right

pub returns-clause-says : goal.returns-clause-says
returns-clause-says c =
    let x = extends_trans _ _ _ c.in_ok-left.ensures.extends c.in_ok-right.ensures.extends in
    c.in_ok-reduced.ensures.says _ _
    (stays_said _ _ _ _ c.in_ok-right.ensures.extends c.in_ok-left.ensures.says)
    (stays_said _ _ _ _ x c.requires.equation) c.in_ok-right.ensures.says

pub returns-clause-extends : goal.returns-clause-extends
returns-clause-extends c =
    let x = extends_trans _ _ _ c.in_ok-left.ensures.extends c.in_ok-right.ensures.extends in
    extends_trans _ _ _ x
    (c.in_ok-reduced.ensures.extends _ _
    (stays_said _ _ _ _ c.in_ok-right.ensures.extends c.in_ok-left.ensures.says)
    (stays_said _ _ _ _ x c.requires.equation) c.in_ok-right.ensures.says)

pub returns-clause-ready : goal.returns-clause-ready
returns-clause-ready c =
    let x = extends_trans _ _ _ c.in_ok-left.ensures.extends c.in_ok-right.ensures.extends in
    ready_still c.normal_form-2.new.self c.between.new.self
    (c.in_ok-reduced.ensures.extends _ _
    (stays_said _ _ _ _ c.in_ok-right.ensures.extends c.in_ok-left.ensures.says)
    (stays_said _ _ _ _ x c.requires.equation) c.in_ok-right.ensures.says)
    c.in_ok-reduced.ensures.store c.in_ok-reduced.ensures.rules c.in_ok-right.ensures.ready
