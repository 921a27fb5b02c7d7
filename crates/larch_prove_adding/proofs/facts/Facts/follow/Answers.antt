use Rattle.std.specs.Option.{option_copied}
use Rattle.std.proofs.Common.{ap, subst, sym, ◌∙◌}
use Rattle.std.proofs.lemmas.Result.{err_from_is_err_and}
use Rattle.larch_prove_adding.specs.KeptFacts.{KeptFacts, facts_of}
use Rattle.larch_prove_adding.proofs.Naming.{follows_said, got_said, no_room_wanted, none_follows, one_follows}
use Rattle.larch_prove_adding.proofs.Naming.{room_had}
use Rattle.larch_prove_adding.proofs.Naming.{room_missed}
use Rattle.larch_prove_adding.proofs.facts.Facts.follow.Goals as goal
use Rattle.larch_rewrite.specs.RuleSet.{BelongsTo}

pub returns-in_default-clause-facts : goal.returns-in_default-clause-facts
returns-in_default-clause-facts c =
    none_follows c.args.self.now c.args.serving.now c.self.inside.rules c.serving.inside.rules c.self.inside.absurd
    c.serving.inside.absurd c.args.place c.self.view_is c.serving.view_is
    (ap option_copied (sym c.in_default.is) ∙ c.get.ensures)

pub returns-in_default-clause-room : goal.returns-in_default-clause-room
returns-in_default-clause-room c =
    no_room_wanted c.args.self.now c.args.serving.now c.serving.inside.rules c.serving.inside.absurd c.args.place
    c.serving.view_is (ap option_copied (sym c.in_default.is) ∙ c.get.ensures)

pub returns-in_default-clause-said : goal.returns-in_default-clause-said
returns-in_default-clause-said c b h g =
    follows_said b c.args.self.now c.args.serving.now c.self.inside.rules c.serving.inside.rules c.self.inside.absurd
    c.serving.inside.absurd c.self.view_is c.serving.view_is h g

pub returns-in_default-clause-kept : goal.returns-in_default-clause-kept
returns-in_default-clause-kept c s h = subst (λ (j : KeptFacts). BelongsTo s j.rules) (sym c.self.view_is) h

pub returns-in_err-share-clause-refused : goal.returns-in_err-share-clause-refused
returns-in_err-share-clause-refused c =
    let q = err_from_is_err_and c.from_residual.result c.from_residual.ensures.1 in
    rw (q.1, q.2)
    (room_missed c.args.self.now c.args.serving.now c.serving.inside.rules c.self.inside.rules c.self.inside.absurd
    c.serving.inside.absurd c.args.place c.in-Some.rule.now _ c.self.view_is c.serving.view_is
    (ap option_copied (sym c.in-Some.is) ∙ c.get.ensures) c.in_err-share.ensures.refused)

pub returns-clause-facts : goal.returns-clause-facts
returns-clause-facts c =
    one_follows c.args.self.now c.args.serving.now (facts_of c.share.new.self) c.serving.inside.rules
    c.self.inside.rules c.self.inside.absurd c.serving.inside.absurd c.args.place c.in-Some.rule.now c.self.view_is
    c.serving.view_is (ap option_copied (sym c.in-Some.is) ∙ c.get.ensures) c.in_ok-share.ensures.facts

pub returns-clause-room : goal.returns-clause-room
returns-clause-room c =
    room_had c.args.self.now c.args.serving.now c.serving.inside.rules c.self.inside.rules c.self.inside.absurd
    c.serving.inside.absurd c.args.place c.in-Some.rule.now c.self.view_is c.serving.view_is
    (ap option_copied (sym c.in-Some.is) ∙ c.get.ensures) c.in_ok-share.ensures.room

pub returns-clause-said : goal.returns-clause-said
returns-clause-said c b h g =
    c.in_ok-share.ensures.said b
    (follows_said b c.args.self.now c.args.serving.now c.self.inside.rules c.serving.inside.rules c.self.inside.absurd
    c.serving.inside.absurd c.self.view_is c.serving.view_is h g)
    (got_said b c.args.serving.now c.serving.inside.rules c.serving.inside.absurd c.args.place c.in-Some.rule.now
    c.serving.view_is (ap option_copied (sym c.in-Some.is) ∙ c.get.ensures) g)
