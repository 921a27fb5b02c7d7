-- Hypotheses are supposed beside the facts, and then the level is entered.
use Rattle.std.proofs.Common.{map}
use Rattle.std.proofs.lemmas.Result.{err_from_is_err_and}
use Rattle.larch_derive.proofs.Growth.{extends_trans, stays_said}
use Rattle.larch_prove_opening.specs.ProveAddingEquation.{sides_in}
use Rattle.larch_prove_opening.specs.ProveAddingKeptFacts.{facts_of}
use Rattle.larch_prove_beginning.proofs.Entering.{entered_as, entering_refused, supposing_refused}
use Rattle.larch_prove_beginning.proofs.level.open_level.Goals as goal
use Rattle.larch_store.proofs.Growth.{grows_trans}
use Rattle.larch_store.specs.Numbered.{term_of}

pub suppose_all-requires-clause-said : goal.suppose_all-requires-clause-said
suppose_all-requires-clause-said c =
    c.in_ok-facts.ensures.said c.args.builder.now c.requires.facts_said.facts_are c.requires.facts_said.absurd

pub returns-in_err-suppose_all-clause-refused : goal.returns-in_err-suppose_all-clause-refused
returns-in_err-suppose_all-clause-refused c =
    let q = err_from_is_err_and c.from_residual-in_err-suppose_all.result
    c.from_residual-in_err-suppose_all.ensures.1 in
    rw (q.1, q.2) (supposing_refused c.args.around.now.precedence.now c.args.around.now.limit
    (map sides_in c.args.hypotheses.items) c.args.beginning.first (facts_of c.args.facts.now)
    (facts_of c.in_ok-facts.facts) c.in_ok-facts.ensures.same.0 c.in_err-suppose_all.field-0.0
    c.in_err-suppose_all.ensures.refused)

pub enter_level-requires-clause-way : goal.enter_level-requires-clause-way
enter_level-requires-clause-way c = stays_said _ _ _ _ c.in_ok-suppose_all.ensures.extends c.requires.way

pub returns-in_err-level-clause-refused : goal.returns-in_err-level-clause-refused
returns-in_err-level-clause-refused c =
    let q = err_from_is_err_and c.from_residual-in_err-level.result c.from_residual-in_err-level.ensures.1 in
    rw (q.1, q.2) (entering_refused c.args.around.now.precedence.now c.args.around.now.limit
    (map sides_in c.args.hypotheses.items) c.args.beginning.first (facts_of c.args.facts.now)
    (facts_of c.in_ok-facts.facts) c.in_ok-facts.ensures.same.0 (facts_of c.suppose_all.new.facts)
    c.suppose_all.new.next c.in_ok-suppose_all.ensures.supposed c.in_err-level.field-0.0
    c.in_err-level.ensures.refused)

pub returns-in_err-level-clause-grows : goal.returns-in_err-level-clause-grows
returns-in_err-level-clause-grows c =
    grows_trans _ _ _ c.in_ok-suppose_all.ensures.grows c.in_err-level.ensures.grows

pub returns-in_err-level-clause-extends : goal.returns-in_err-level-clause-extends
returns-in_err-level-clause-extends c =
    extends_trans _ _ _ c.in_ok-suppose_all.ensures.extends c.in_err-level.ensures.extends

pub returns-clause-opened : goal.returns-clause-opened
returns-clause-opened c =
    entered_as c.args.around.now.precedence.now c.args.around.now.limit (map sides_in c.args.hypotheses.items)
    c.args.beginning.first (facts_of c.args.facts.now) (facts_of c.in_ok-facts.facts) c.in_ok-facts.ensures.same.0
    (facts_of c.suppose_all.new.facts) c.suppose_all.new.next c.in_ok-suppose_all.ensures.supposed
    (facts_of c.in_ok-level.level.facts) (term_of c.in_ok-level.level.goal.term) c.in_ok-level.ensures.normal
    c.in_ok-level.ensures.facts

pub returns-clause-grows : goal.returns-clause-grows
returns-clause-grows c = grows_trans _ _ _ c.in_ok-suppose_all.ensures.grows c.in_ok-level.ensures.grows

pub returns-clause-extends : goal.returns-clause-extends
returns-clause-extends c = extends_trans _ _ _ c.in_ok-suppose_all.ensures.extends c.in_ok-level.ensures.extends
