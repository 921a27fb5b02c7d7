use Rattle.larch_flat_gathering.proofs.Kept.{inserted}
use Rattle.larch_flat_gathering.proofs.store.Gathering.insert_operators.Goals as goal

pub returns : goal.returns
returns c g k =
    inserted c.args.self.now c.put_operators.new.self c.look_at_limits.new.self c.args.operators.now g
    c.in_ok-put_operators.ensures
    c.look_at_limits.ensures k
