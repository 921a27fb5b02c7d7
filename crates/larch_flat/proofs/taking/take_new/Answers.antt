use Rattle.std.proofs.Common.{sym, ◌∙◌, true, false, subst}
use Rattle.std.proofs.lemmas.Result.{err_from_is_err_and}
use Rattle.larch_flat_gathering.specs.Keeping.{Keeps, KeepsAnswer}
use Rattle.larch_flat.specs.Parts.{with_new}
use Rattle.larch_flat.proofs.Parts.{new_parts, within_is}
use Rattle.larch_flat.proofs.taking.take_new.Goals as goal

pub returns-in_err-insert_operators : goal.returns-in_err-insert_operators
returns-in_err-insert_operators c = λ g k. let p =
    err_from_is_err_and c.from_residual-in_err-insert_operators.result
    c.from_residual-in_err-insert_operators.ensures.1 in rw (p.1, p.2) tt

pub returns-in_err-marked : goal.returns-in_err-marked
returns-in_err-marked c = λ g k. let p =
    err_from_is_err_and c.from_residual-in_err-marked.result c.from_residual-in_err-marked.ensures.1 in rw (p.1, p.2) tt

pub returns-in_err-take_all : goal.returns-in_err-take_all
returns-in_err-take_all c = λ g k. let p =
    err_from_is_err_and c.from_residual-in_err-take_all.result c.from_residual-in_err-take_all.ensures.1 in
    rw (p.1, p.2) tt

pub returns-then-is_too_large : goal.returns-then-is_too_large
returns-then-is_too_large c = λ g k.
    let r = c.args.reference.now in
    let all = with_new r c.args.by c.args.operators.now c.args.marked.now g in
    let e =
    new_parts r c.args.by c.in_ok-names.names c.args.operators.now c.in_ok-operators.operators c.as_slice.result.now
    c.args.marked.now c.in_ok-marked.marked g
    c.in_ok-names.ensures c.in_ok-operators.ensures c.as_slice.ensures c.in_ok-marked.ensures in
    let held =
    subst (Keeps c.take_all.new.store) e (c.in_ok-take_all.ensures _ (c.in_ok-insert_operators.ensures g k)) in
    within_is r.target.name.pos all true (sym (c.is_too_large.ensures all held) ∙ c.if-is_too_large.true)

pub returns : goal.returns
returns c = λ g k.
    let r = c.args.reference.now in
    let all = with_new r c.args.by c.args.operators.now c.args.marked.now g in
    let e =
    new_parts r c.args.by c.in_ok-names.names c.args.operators.now c.in_ok-operators.operators c.as_slice.result.now
    c.args.marked.now c.in_ok-marked.marked g
    c.in_ok-names.ensures c.in_ok-operators.ensures c.as_slice.ensures c.in_ok-marked.ensures in
    let held =
    subst (Keeps c.take_all.new.store) e (c.in_ok-take_all.ensures _ (c.in_ok-insert_operators.ensures g k)) in
    subst (KeepsAnswer c.take_all.new.store)
    (sym (within_is r.target.name.pos all false (sym (c.is_too_large.ensures all held) ∙ c.if-is_too_large.false)))
    held
