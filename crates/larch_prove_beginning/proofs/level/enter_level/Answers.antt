-- The first goal is stored, and gets its normal form.
use Rattle.std.proofs.Common.{ap, subst, sym, ◌∙◌}
use Rattle.std.proofs.lemmas.Result.{err_from_is_err_and}
use Rattle.larch_prove_opening.proofs.ProveAddingStaying.{belongs_further}
use Rattle.larch_prove_opening.proofs.ProveAddingViews.{start_tells}
use Rattle.larch_prove_opening.specs.ProveAddingKeptFacts.{facts_of}
use Rattle.larch_prove_settling.proofs.ProveLevelsTelling.{tells_code}
use Rattle.larch_prove_settling.specs.ProveLevelsSupposing.{TellsCode}
use Rattle.larch_prove_settling.specs.ProveLevelsLevelLevel.{Level}
use Rattle.larch_prove_meaning.specs.Facts.{rules_of}
use Rattle.larch_prove_meaning.specs.Levels.{work_result}
use Rattle.larch_prove_settling.proofs.Leaving.{said_as}
use Rattle.larch_prove_beginning.proofs.level.enter_level.Goals as goal
use Rattle.larch_rewrite_meaning.specs.NormalForm.{normal}
use Rattle.larch_store.proofs.Growth.{belongs_stays, grows_trans}
use Rattle.larch_store.specs.Numbered.{term_of}
use Rattle.larch_store.specs.Stored.{Belongs}

pub returns-in_err-first-clause-refused : goal.returns-in_err-first-clause-refused
returns-in_err-first-clause-refused c =
    let q = err_from_is_err_and c.from_residual.result c.from_residual.ensures.1 in
    rw (q.1, q.2) (tells_code _ _ (start_tells _ _ _ _ c.in_err-first.ensures.refused))

pub normalise_goal-requires : goal.normalise_goal-requires
normalise_goal-requires c = record {
  goal = subst (Belongs c.intern.new.self) (sym c.in_ok-term.ensures) c.in_ok-first.ensures.belongs;
  kept = belongs_further _ _ c.args.facts.rules c.in_ok-first.ensures.grows c.requires.kept;
  said = c.requires.said;
  way = said_as _ _ _ _ _ _ (sym c.in_ok-first.ensures.term)
      (sym (ap term_of c.in_ok-term.ensures ∙ c.in_ok-first.ensures.term)) c.requires.way;
}

pub returns-in_err-normalise_goal-clause-refused : goal.returns-in_err-normalise_goal-clause-refused
returns-in_err-normalise_goal-clause-refused c =
    let q = err_from_is_err_and c.from_residual-in_err-normalise_goal.result
    c.from_residual-in_err-normalise_goal.ensures.1 in
    rw (q.1, q.2) (subst (λ t. TellsCode
    (work_result (normal (rules_of (facts_of c.args.facts).rules) t c.args.around.now.limit))
    c.in_err-normalise_goal.field-0.0)
    (ap term_of c.in_ok-term.ensures ∙ c.in_ok-first.ensures.term) c.in_err-normalise_goal.ensures.refused)

pub returns-in_err-normalise_goal-clause-grows : goal.returns-in_err-normalise_goal-clause-grows
returns-in_err-normalise_goal-clause-grows c =
    grows_trans _ _ _ c.in_ok-first.ensures.grows c.in_err-normalise_goal.ensures.grows

pub returns-clause-normal : goal.returns-clause-normal
returns-clause-normal c =
    ap (λ t. work_result (normal (rules_of (facts_of c.args.facts).rules) t c.args.around.now.limit))
    (sym (ap term_of c.in_ok-term.ensures ∙ c.in_ok-first.ensures.term))
    ∙ c.in_ok-normalise_goal.ensures.normal

pub returns-clause-level : goal.returns-clause-level
returns-clause-level c =
    let rest = c.in_ok-normalise_goal.ensures.rest in record {
      purpose = ap (λ (l : Level). l.purpose) rest;
      first = ap (λ (l : Level). term_of l.first) rest ∙ c.in_ok-first.ensures.term;
      entrance = ap (λ (l : Level). l.entrance) rest;
      extras = ap (λ (l : Level). l.extras) rest ∙ c.new.ensures;
      running = ap (λ (l : Level). l.running) rest;
      belongs = subst (Belongs c.normalise_goal.new.store) (sym (ap (λ (l : Level). l.first) rest))
          (belongs_stays _ _ _ c.in_ok-normalise_goal.ensures.grows c.in_ok-first.ensures.belongs);
      ready = c.in_ok-normalise_goal.ensures.ready;
    }

pub returns-clause-grows : goal.returns-clause-grows
returns-clause-grows c = grows_trans _ _ _ c.in_ok-first.ensures.grows c.in_ok-normalise_goal.ensures.grows
