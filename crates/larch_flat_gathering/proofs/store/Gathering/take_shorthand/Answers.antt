use Rattle.std.proofs.Common.{sym, ◌∙◌, subst}
use Rattle.larch_flat_statements.specs.FlatMeaningGathered.{with_operators}
use Rattle.larch_flat_gathering.specs.Keeping.{Keeps}
use Rattle.larch_flat_gathering.proofs.Leaving.{full_left}
use Rattle.larch_flat_gathering.proofs.store.Gathering.take_shorthand.Goals as goal

pub returns-then-is_full : goal.returns-then-is_full
returns-then-is_full c g k =
    full_left c.args.shorthand.now g c.in_ok-operators.operators c.insert_operators.new.self c.in_ok-operators.ensures
    (sym c.is_full.ensures ∙ c.if-is_full.true)
    (subst (λ os. Keeps c.insert_operators.new.self (with_operators os g)) c.as_slice.ensures
    (c.in_ok-insert_operators.ensures g k))
