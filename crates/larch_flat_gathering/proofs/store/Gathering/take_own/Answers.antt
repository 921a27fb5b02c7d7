use Rattle.std.proofs.Common.{sym, ◌∙◌, ap, subst}
use Rattle.std.proofs.lemmas.Result.{err_from_is_err_and}
use Rattle.larch_flat_statements.specs.TraitsItemsDeclarations.{declared_operators}
use Rattle.larch_flat_statements.specs.TraitsItemsRefusal.{cause}
use Rattle.larch_flat_statements.specs.FlatMeaningGathered.{with_operators}
use Rattle.larch_flat_gathering.specs.Keeping.{Keeps}
use Rattle.larch_flat_gathering.proofs.Leaving.{own_left, own_refused}
use Rattle.larch_flat_gathering.proofs.store.Gathering.take_own.Goals as goal

pub returns-in_err-take_items : goal.returns-in_err-take_items
returns-in_err-take_items c g k =
    let p = err_from_is_err_and c.from_residual-in_err-take_items.result c.from_residual-in_err-take_items.ensures.1 in
    rw (p.1, p.2)
    (own_refused c.args.raw.now g c.in_ok-declared.declared (cause c.in_err-take_items.field-0.0)
    (ap declared_operators (sym c.as_slice.ensures) ∙ c.in_ok-declared.ensures)
    (c.in_err-take_items.ensures (with_operators c.in_ok-declared.declared g)
    (subst (λ os. Keeps c.insert_operators.new.self (with_operators os g)) c.as_slice-2.ensures
    (c.in_ok-insert_operators.ensures g k))))

pub returns : goal.returns
returns c g k =
    own_left c.args.raw.now g c.in_ok-declared.declared c.take_items.new.self
    (ap declared_operators (sym c.as_slice.ensures) ∙ c.in_ok-declared.ensures)
    (c.in_ok-take_items.ensures (with_operators c.in_ok-declared.declared g)
    (subst (λ os. Keeps c.insert_operators.new.self (with_operators os g)) c.as_slice-2.ensures
    (c.in_ok-insert_operators.ensures g k)))
