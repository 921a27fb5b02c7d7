use Rattle.std.proofs.lemmas.Result.{err_from_is_err_and}
use Rattle.larch_flat_statements.specs.TraitsItemsRefusal.{cause}
use Rattle.larch_base_meaning.specs.Steps.{all_taken}
use Rattle.larch_flat_statements.specs.FlatMeaningFlat.{take_shorthand}
use Rattle.larch_flat_gathering.proofs.Leaving.{goes_on, goes_refused}
use Rattle.larch_flat_gathering.proofs.store.Gathering.take_shorthands.Goals as goal

pub loop-shorthand-preserved : goal.loop-shorthand-preserved
loop-shorthand-preserved c g k =
    goes_on c.args.shorthands.now c.loop-shorthand.shorthand-index c.shorthand-item.result c.loop-shorthand.self
    c.take_shorthand.new.self
    (all_taken take_shorthand c.args.shorthands.now g) c.loop-shorthand-test.true c.shorthand-item.is
    (λ h q. c.in_ok-take_shorthand.ensures h q) (c.loop-shorthand.invariant g k)

pub returns-in_err-take_shorthand : goal.returns-in_err-take_shorthand
returns-in_err-take_shorthand c g k =
    let p = err_from_is_err_and c.from_residual.result c.from_residual.ensures.1 in
    rw (p.1, p.2)
    (goes_refused c.args.shorthands.now c.loop-shorthand.shorthand-index c.shorthand-item.result c.loop-shorthand.self
    (all_taken take_shorthand c.args.shorthands.now g)
    (cause c.in_err-take_shorthand.field-0.0) c.loop-shorthand-test.true c.shorthand-item.is
    (λ h q. c.in_err-take_shorthand.ensures h q) (c.loop-shorthand.invariant g k))
