use Rattle.std.specs.Option.{option_copied}
use Rattle.std.proofs.Common.{ap, arith, sym, ◌∙◌}
use Rattle.larch_prove_adding.proofs.Naming.{found_further, found_here, found_nowhere, stands_within}
use Rattle.larch_prove_adding.proofs.named.rule_named.Goals as goal
use Rattle.larch_rewrite.specs.RuleSet.{has_name}

pub unreachable-requires : goal.unreachable-requires
unreachable-requires c =
    stands_within c.args.rules.now.rules c.loop-index.index c.args.count c.loop-index-test.true c.requires
    (ap option_copied (sym c.in_default.is) ∙ c.get.ensures)

pub returns-then-has_name : goal.returns-then-has_name
returns-then-has_name c =
    found_here (has_name c.args.name.now) c.args.rules.now.rules c.loop-index.index c.in-Some.rule.now
    (ap option_copied (sym c.in-Some.is) ∙ c.get.ensures) (sym c.has_name.ensures ∙ c.if-has_name.true)
    ∙ sym c.loop-index.invariant

pub loop-index-preserved : goal.loop-index-preserved
loop-index-preserved c =
    c.loop-index.invariant
    ∙ found_further (has_name c.args.name.now) c.args.rules.now.rules c.loop-index.index c.in-Some.rule.now
    (ap option_copied (sym c.in-Some.is) ∙ c.get.ensures) (sym c.has_name.ensures ∙ c.if-has_name.false)
