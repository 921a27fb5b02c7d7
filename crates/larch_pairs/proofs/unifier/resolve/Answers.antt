use Rattle.std.proofs.Common.{◌≡◌, ◌-◌, ◌+◌, drop, length, take, arith, ap, sym, ◌∙◌}
use Rattle.std.proofs.lemmas.Result.{err_from_is_err_and}
use Rattle.larch_pairs.proofs.Later.{large_told, one_large_so_far, slice_end}
use Rattle.larch_pairs.specs.Resolved.{resolve}
use Rattle.larch_pairs.specs.Unify.{is_large}
use Rattle.larch_term.specs.Substitution.{instance_of}
use Rattle.larch_pairs.proofs.unifier.resolve.Goals as goal

pub returns-in_err-term : goal.returns-in_err-term
returns-in_err-term c =
    let k = c.loop-left.left in
    let f = c.loop-left.invariant in
    let g = c.into_vec-bound.ensures in
    let lt = c.loop-left-test.true in
    let s = slice_end c.deref.result.now c.loop-left.bound.items k lt c.deref.ensures.value in
    let p = err_from_is_err_and c.from_residual.result c.from_residual.ensures.1 in
    rw (p.1, p.2)
    (rw (sym g)
    (large_told c.in_err-term.field-0.0 (resolve c.into_vec-bound.result.items) _
    (λ h. one_large_so_far c.into_vec-bound.result.items c.loop-left.bound.items k c.index.result.now lt f.3
    c.index.ensures f.1 f.0
    (sym (ap (λ es. is_large (instance_of es c.index.result.now.term)) s) ∙ h))
    c.in_err-term.ensures))
