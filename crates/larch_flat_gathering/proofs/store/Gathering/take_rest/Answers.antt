use Rattle.std.proofs.Common.{◌≡◌, Err, IfSome, subst}
use Rattle.std.proofs.lemmas.Result.{err_from_is_err_and}
use Rattle.larch_flat_statements.specs.TraitsItemsRefusal.{cause}
use Rattle.larch_base_meaning.specs.Steps.{all_taken}
use Rattle.larch_flat_statements.specs.FlatMeaningFlat.{take_shorthand}
use Rattle.larch_flat_gathering.specs.Keeping.{KeepsAnswer}
use Rattle.larch_flat_gathering.proofs.Leaving.{rest_end_refused, rest_own_told, rest_shorthands_refused, rest_told}
use Rattle.larch_flat_gathering.proofs.store.Gathering.take_rest.Goals as goal

pub returns-in_err-take_shorthands : goal.returns-in_err-take_shorthands
returns-in_err-take_shorthands c g k =
    let p = err_from_is_err_and c.from_residual.result c.from_residual.ensures.1 in
    rw (p.1, p.2)
    (rest_shorthands_refused c.args.raw.now g (cause c.in_err-take_shorthands.field-0.0)
    (subst (λ zs. IfSome (cause c.in_err-take_shorthands.field-0.0) (λ f. all_taken take_shorthand zs g ≡ Err f))
    c.as_slice.ensures
    (c.in_err-take_shorthands.ensures g k)))

pub returns-in_err-take_own : goal.returns-in_err-take_own
returns-in_err-take_own c g k =
    let p = err_from_is_err_and c.from_residual-in_err-take_own.result c.from_residual-in_err-take_own.ensures.1 in
    rw (p.1, p.2)
    (rest_own_told c.args.raw.now g c.take_shorthands.new.self (cause c.in_err-take_own.field-0.0)
    (subst (λ zs. KeepsAnswer c.take_shorthands.new.self (all_taken take_shorthand zs g)) c.as_slice.ensures
    (c.in_ok-take_shorthands.ensures g k))
    (λ h q. c.in_err-take_own.ensures h q))

pub returns-in_err-flat : goal.returns-in_err-flat
returns-in_err-flat c g k =
    let p = err_from_is_err_and c.from_residual-in_err-flat.result c.from_residual-in_err-flat.ensures.1 in
    rw (p.1, p.2)
    (rest_end_refused c.args.raw.now g c.take_shorthands.new.self c.take_own.new.self (cause c.in_err-flat.field-0.0)
    (subst (λ zs. KeepsAnswer c.take_shorthands.new.self (all_taken take_shorthand zs g)) c.as_slice.ensures
    (c.in_ok-take_shorthands.ensures g k))
    (λ h q. c.in_ok-take_own.ensures h q) (λ i q. c.in_err-flat.ensures i q))

pub returns : goal.returns
returns c g k =
    rest_told c.args.raw.now g c.take_shorthands.new.self c.take_own.new.self c.in_ok-flat.flat
    (subst (λ zs. KeepsAnswer c.take_shorthands.new.self (all_taken take_shorthand zs g)) c.as_slice.ensures
    (c.in_ok-take_shorthands.ensures g k))
    (λ h q. c.in_ok-take_own.ensures h q) (λ i q. c.in_ok-flat.ensures i q)
