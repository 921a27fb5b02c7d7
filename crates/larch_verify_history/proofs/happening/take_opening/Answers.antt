use Rattle.std.proofs.Common.{sym, ◌∙◌, arith}
use Rattle.std.proofs.lemmas.Grind.{common_steps}
use Rattle.larch_verify_history.proofs.Opening.{opened_none, opened_some}
use Rattle.larch_verify_history.proofs.happening.take_opening.Goals as goal

pub unreachable-requires : goal.unreachable-requires
unreachable-requires c =
    opened_none c.args.events.now.items c.pop.new.self.items c.pop.result c.pop.ensures.items
    (λ n. grind (arith, common_steps)) c.requires (sym c.opened_box.ensures ∙ c.in_default.is)

pub returns : goal.returns
returns c =
    opened_some c.args.events.now.items c.pop.new.self.items c.pop.result c.in-Some.known c.pop.ensures.items
    (sym c.opened_box.ensures ∙ c.in-Some.is)
