use Rattle.std.proofs.Common.{inl}
use Rattle.larch_prove_adding.proofs.Views.{fact_said, full_now, put_now, room_now}
use Rattle.larch_prove_adding.proofs.facts.Facts.put.Goals as goal

pub returns-then-self-ge-MAX_FACTS-clause-refused : goal.returns-then-self-ge-MAX_FACTS-clause-refused
returns-then-self-ge-MAX_FACTS-clause-refused c =
    inl (full_now c.args.self.now c.self.inside.rules c.self.inside.absurd c.self.inside.count c.self.view_is
    c.self.invariant c.if-self-ge-MAX_FACTS.true)

pub returns-clause-facts : goal.returns-clause-facts
returns-clause-facts c =
    put_now c.args.self.now c.self.inside.rules c.add_rule.new.self c.self.inside.absurd _ _ _ _ c.self.view_is
    c.in_ok-add_rule.ensures.ok

pub returns-clause-said : goal.returns-clause-said
returns-clause-said c b m h q =
    fact_said _ _ b c.args.self.now c.self.inside.rules c.add_rule.new.self c.self.inside.absurd _ _ _ c.self.view_is
    c.in_ok-add_rule.ensures.serves m h q

pub returns-clause-room : goal.returns-clause-room
returns-clause-room c =
    room_now c.args.self.now c.self.inside.rules c.self.inside.absurd c.self.inside.count c.self.view_is
    c.self.invariant c.if-self-ge-MAX_FACTS.false
