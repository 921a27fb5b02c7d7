use Rattle.std.specs.Prelude.{All, Contains}
use Rattle.std.proofs.Common.{subst}
use Rattle.larch_rewrite_match.proofs.Heads.{found_among}
use Rattle.larch_rewrite_match.proofs.table.RuleTable.with_head.Goals as goal

pub returns-clause-among : goal.returns-clause-among
returns-clause-among c =
    subst (λ rs. All (Contains rs) c.found.result.now) c.self.view_is
    (found_among c.self.inside.heads.entries c.self.inside.has_variable c.self.inside.rules.items c.found.result.now
    c.args.operator.now c.self.invariant c.if-self.false c.found.ensures)
