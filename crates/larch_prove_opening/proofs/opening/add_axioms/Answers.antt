use Rattle.larch_derive.proofs.Growth.{extends_trans}
use Rattle.larch_prove_adding.specs.KeptFacts.{facts_of}
use Rattle.larch_prove_opening.proofs.Stating.{stated_stay}
use Rattle.larch_prove_opening.proofs.Steps.{axioms_step}
use Rattle.larch_prove_opening.proofs.opening.add_axioms.Goals as goal
use Rattle.larch_store.proofs.Growth.{grows_trans}

pub loop-index-preserved : goal.loop-index-preserved
loop-index-preserved c = record {
  goes = axioms_step c.args.frame.now.precedence.now c.args.frame.now.limit c.args.statements.now c.loop-index.index
      c.index-statements-index.result (facts_of c.loop-index.facts) (facts_of c.add_statement.new.facts) _
      c.loop-index-test.true c.index-statements-index.is c.loop-index.invariant.goes
      c.in_ok-add_statement.ensures.added;
  stated = stated_stay _ _ 1 c.args.statements.now c.in_ok-add_statement.ensures.extends
      c.loop-index.invariant.stated;
  said = c.in_ok-add_statement.ensures.said;
  kept = c.in_ok-add_statement.ensures.kept;
  grows = grows_trans _ _ _ c.loop-index.invariant.grows c.in_ok-add_statement.ensures.grows;
  extends = extends_trans _ _ _ c.loop-index.invariant.extends c.in_ok-add_statement.ensures.extends;
}

pub returns-in_err-add_statement-clause-grows : goal.returns-in_err-add_statement-clause-grows
returns-in_err-add_statement-clause-grows c =
    grows_trans _ _ _ c.loop-index.invariant.grows c.in_err-add_statement.ensures.grows

pub returns-in_err-add_statement-clause-extends : goal.returns-in_err-add_statement-clause-extends
returns-in_err-add_statement-clause-extends c =
    extends_trans _ _ _ c.loop-index.invariant.extends c.in_err-add_statement.ensures.extends
