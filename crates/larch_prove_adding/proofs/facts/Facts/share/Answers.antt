use Rattle.std.specs.Prelude.{[]}
use Rattle.larch_prove_adding.proofs.Views.{full_now, put_now, room_now, said_now}
use Rattle.larch_prove_adding.proofs.facts.Facts.share.Goals as goal

pub returns-then-self-ge-MAX_FACTS-clause-refused : goal.returns-then-self-ge-MAX_FACTS-clause-refused
returns-then-self-ge-MAX_FACTS-clause-refused c =
    full_now c.args.self.now c.self.inside.rules c.self.inside.absurd c.self.inside.count c.self.view_is
    c.self.invariant c.if-self-ge-MAX_FACTS.true

pub returns-clause-facts : goal.returns-clause-facts
returns-clause-facts c =
    put_now c.args.self.now c.self.inside.rules c.share.new.self c.self.inside.absurd c.args.rule.now.name
    c.args.rule.now.left c.args.rule.now.right c.args.rule.now.line c.self.view_is c.in_ok-share.ensures.rules

pub returns-clause-room : goal.returns-clause-room
returns-clause-room c =
    room_now c.args.self.now c.self.inside.rules c.self.inside.absurd c.self.inside.count c.self.view_is
    c.self.invariant c.if-self-ge-MAX_FACTS.false

pub returns-clause-said : goal.returns-clause-said
returns-clause-said c b h q =
    let w = said_now b c.args.self.now c.self.inside.rules c.self.inside.absurd c.self.view_is h in
    let g = c.in_ok-share.ensures.serves [] b w.0.0 q in
    ((g.said, g.led), w.1)
