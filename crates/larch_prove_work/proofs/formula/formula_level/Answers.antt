-- The goal is the formula itself, and gets its normal form by the facts of the parent.
use Rattle.std.proofs.Common.{ap, subst, sym, ◌∙◌}
use Rattle.std.proofs.lemmas.Result.{err_from_is_err_and}
use Rattle.larch_prove_settling.proofs.ProveAddingViews.{start_tells}
use Rattle.larch_prove_settling.specs.ProveAddingKeptFacts.{facts_of}
use Rattle.larch_prove_settling.proofs.ProveLevelsTelling.{tells_code}
use Rattle.larch_prove_settling.specs.ProveLevelsLevelLevel.{Level}
use Rattle.larch_prove_settling.proofs.Leaving.{said_as}
use Rattle.larch_prove_work.proofs.Upon.{normal_as, refused_as}
use Rattle.larch_prove_work.proofs.formula.formula_level.Goals as goal
use Rattle.larch_store.proofs.Growth.{belongs_stays, grows_trans}
use Rattle.larch_store.specs.Numbered.{term_of}
use Rattle.larch_store.specs.Stored.{Belongs}

pub returns-in_err-first-clause-refused : goal.returns-in_err-first-clause-refused
returns-in_err-first-clause-refused c =
    let q = err_from_is_err_and c.from_residual.result c.from_residual.ensures.1 in
    rw (q.1, q.2) (tells_code _ _ (start_tells _ _ _ _ c.in_err-first.ensures.refused))

pub normalise_goal-requires : goal.normalise_goal-requires
normalise_goal-requires c =
    let first = c.in_ok-first.ensures.term in let term = ap term_of c.in_ok-term.ensures ∙ first in
    record {
      goal = subst (Belongs c.intern.new.self) (sym c.in_ok-term.ensures) c.in_ok-first.ensures.belongs;
      kept = c.in_ok-facts.ensures.kept c.intern.new.self;
      said = c.in_ok-facts.ensures.said c.args.builder.now c.requires.facts.facts c.requires.facts.absurd;
      way = said_as _ _ _ _ _ _ (sym first) (sym term) c.requires.says;
    }

pub returns-in_err-normalise_goal-clause-refused : goal.returns-in_err-normalise_goal-clause-refused
returns-in_err-normalise_goal-clause-refused c =
    let q = err_from_is_err_and c.from_residual-in_err-normalise_goal.result
    c.from_residual-in_err-normalise_goal.ensures.1 in
    rw (q.1, q.2)
    (refused_as (facts_of c.args.parent.now.facts) (facts_of c.in_ok-facts.facts) c.args.around.now.limit
    c.args.formula.now (term_of c.in_ok-term.term) c.in_err-normalise_goal.field-0.0 c.in_ok-facts.ensures.same.0
    (ap term_of c.in_ok-term.ensures ∙ c.in_ok-first.ensures.term) c.in_err-normalise_goal.ensures.refused)

pub returns-in_err-normalise_goal-clause-grows : goal.returns-in_err-normalise_goal-clause-grows
returns-in_err-normalise_goal-clause-grows c =
    grows_trans _ _ _ c.in_ok-first.ensures.grows c.in_err-normalise_goal.ensures.grows

pub returns-clause-normal : goal.returns-clause-normal
returns-clause-normal c =
    normal_as (facts_of c.args.parent.now.facts) (facts_of c.in_ok-facts.facts) c.args.around.now.limit
    c.args.formula.now (term_of c.in_ok-term.term) _ c.in_ok-facts.ensures.same.0
    (ap term_of c.in_ok-term.ensures ∙ c.in_ok-first.ensures.term) c.in_ok-normalise_goal.ensures.normal

pub returns-clause-made : goal.returns-clause-made
returns-clause-made c =
    let rest = c.in_ok-normalise_goal.ensures.rest in
    record {
      purpose = ap (λ (l : Level). l.purpose) rest;
      first = ap (λ (l : Level). term_of l.first) rest ∙ c.in_ok-first.ensures.term;
      entrance = ap (λ (l : Level). l.entrance) rest;
      extras = ap (λ (l : Level). l.extras) rest ∙ c.new.ensures;
      running = ap (λ (l : Level). l.running) rest;
    }

pub returns-clause-facts : goal.returns-clause-facts
returns-clause-facts c = c.in_ok-normalise_goal.ensures.facts ∙ c.in_ok-facts.ensures.same.0

pub returns-clause-ready : goal.returns-clause-ready
returns-clause-ready c = c.in_ok-normalise_goal.ensures.ready

pub returns-clause-first : goal.returns-clause-first
returns-clause-first c =
    subst (Belongs c.normalise_goal.new.store)
    (sym (ap (λ (l : Level). l.first) c.in_ok-normalise_goal.ensures.rest))
    (belongs_stays _ _ _ c.in_ok-normalise_goal.ensures.grows c.in_ok-first.ensures.belongs)

pub returns-clause-grows : goal.returns-clause-grows
returns-clause-grows c = grows_trans _ _ _ c.in_ok-first.ensures.grows c.in_ok-normalise_goal.ensures.grows
