use Rattle.std.specs.Option.{option_copied}
use Rattle.std.specs.Prelude.{not}
use Rattle.std.proofs.Common.{ap, arith, sym, ◌∙◌}
use Rattle.larch_prove_adding.proofs.Naming.{counted_more, counted_same, stands_within}
use Rattle.larch_prove_adding.proofs.named.count_others.Goals as goal
use Rattle.larch_prove_adding.proofs.named.count_others.Goals.{then-not-has_name, else-not-has_name}
use Rattle.larch_rewrite.specs.RuleSet.{has_name}

pub unreachable-requires : goal.unreachable-requires
unreachable-requires c =
    stands_within c.args.rules.now.rules c.loop-index.index c.args.count c.loop-index-test.true c.requires
    (ap option_copied (sym c.in_default.is) ∙ c.get.ensures)

pub loop-index-preserved : goal.loop-index-preserved
loop-index-preserved c =
    let g = ap option_copied (sym c.in-Some.is) ∙ c.get.ensures in
    let b = c.loop-index.invariant.bound in
    elim c.if-not-has_name.branch [
      | then-not-has_name w ↦ record {
        counted = w.others-is ∙ counted_more (λ q. not (has_name c.args.name.now q)) c.args.rules.now.rules
            c.loop-index.index c.loop-index.others c.in-Some.rule.now g c.loop-index.invariant.counted
            (ap not (sym c.has_name.ensures ∙ w.if-not-has_name.true));
        bound = let e = w.others-is in omega (arith, b, e);
      }
      | else-not-has_name w ↦ record {
        counted = w.others-is ∙ counted_same (λ q. not (has_name c.args.name.now q)) c.args.rules.now.rules
            c.loop-index.index c.loop-index.others c.in-Some.rule.now g c.loop-index.invariant.counted
            (ap not (sym c.has_name.ensures ∙ w.if-not-has_name.false));
        bound = let e = w.others-is in omega (arith, b, e);
      }
    ]
