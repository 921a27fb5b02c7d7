use Rattle.std.proofs.Common.{rules, ◌≡◌, ◌+◌, length, refl}
use Rattle.std.proofs.lemmas.Option.{slice_get_read}
use Rattle.larch_derive.proofs.Growth.{extends_trans}
use Rattle.larch_prove_adding.specs.KeptFacts.{facts_of}
use Rattle.larch_prove_opening.proofs.Stating.{lemma_states, stated_at, stated_stay}
use Rattle.larch_prove_opening.proofs.Steps.{lemmas_step}
use Rattle.larch_prove_opening.proofs.opening.add_lemmas.Goals as goal
use Rattle.larch_prove_opening.specs.Stating.{duties_of, what_state}
use Rattle.larch_store.proofs.Growth.{grows_trans}

pub add_statement-requires-clause-stated : goal.add_statement-requires-clause-stated
add_statement-requires-clause-stated c =
    stated_at c.loop-index.builder c.args.first (c.args.first + c.loop-index.index) c.loop-index.index
    (what_state (duties_of c.args.lemmas.now)) c.index-lemmas-index.result.statement c.loop-index.invariant.stated
    (lemma_states c.args.lemmas.now c.loop-index.index c.index-lemmas-index.result
    (slice_get_read c.args.lemmas.now (length c.args.lemmas.now) c.loop-index.index c.index-lemmas-index.result refl
    c.loop-index-test.true c.index-lemmas-index.is))
    refl

pub loop-index-preserved : goal.loop-index-preserved
loop-index-preserved c =
    let n : c.from.result ≡ c.index-lemmas-index.result.number = search rules in
    record {
      goes = lemmas_step c.args.frame.now.precedence.now c.args.frame.now.limit c.args.lemmas.now c.loop-index.index
          c.from.result c.index-lemmas-index.result (facts_of c.loop-index.facts)
          (facts_of c.add_statement.new.facts) _ c.loop-index-test.true c.index-lemmas-index.is n
          c.loop-index.invariant.goes c.in_ok-add_statement.ensures.added;
      stated = stated_stay _ _ c.args.first (what_state (duties_of c.args.lemmas.now))
          c.in_ok-add_statement.ensures.extends c.loop-index.invariant.stated;
      said = c.in_ok-add_statement.ensures.said;
      kept = c.in_ok-add_statement.ensures.kept;
      grows = grows_trans _ _ _ c.loop-index.invariant.grows c.in_ok-add_statement.ensures.grows;
      extends = extends_trans _ _ _ c.loop-index.invariant.extends c.in_ok-add_statement.ensures.extends;
    }

pub returns-in_err-add_statement-clause-grows : goal.returns-in_err-add_statement-clause-grows
returns-in_err-add_statement-clause-grows c =
    grows_trans _ _ _ c.loop-index.invariant.grows c.in_err-add_statement.ensures.grows

pub returns-in_err-add_statement-clause-extends : goal.returns-in_err-add_statement-clause-extends
returns-in_err-add_statement-clause-extends c =
    extends_trans _ _ _ c.loop-index.invariant.extends c.in_err-add_statement.ensures.extends
