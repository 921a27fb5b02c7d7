-- The facts, the goal, what is new in the precedence, and then the level.
use Rattle.std.proofs.Common.{[], ap, fold, map, ◌∙◌}
use Rattle.std.proofs.lemmas.Result.{err_from_is_err_and}
use Rattle.larch_derive.proofs.Growth.{extends_grows}
use Rattle.larch_order.specs.Precedence.{with_constant}
use Rattle.larch_prove_opening.specs.ProveAddingEquation.{sides_in}
use Rattle.larch_prove_opening.specs.ProveAddingKeptFacts.{facts_of}
use Rattle.larch_prove_beginning.proofs.Starting.{answered_by, facts_inside, facts_refused, level_opens}
use Rattle.larch_prove_beginning.proofs.Starting.{level_refused, may_pose, posed_there}
use Rattle.larch_prove_beginning.proofs.opening.start_level.Goals as goal
use Rattle.larch_prove_beginning.specs.Level.{opened_in}
use Rattle.larch_prove_opening.proofs.ProveInvariantHeld.{holds_grows}
use Rattle.larch_prove_settling.proofs.Leaving.{if_refused}
use Rattle.larch_store.proofs.Growth.{grows_trans}

pub open_facts-requires-clause-theory : goal.open_facts-requires-clause-theory
open_facts-requires-clause-theory c = c.requires.start.theory ∙ c.requires.duty.whole

pub open_facts-requires-clause-stands : goal.open_facts-requires-clause-stands
open_facts-requires-clause-stands c = c.requires.start.stands

pub open_facts-requires-clause-sorted : goal.open_facts-requires-clause-sorted
open_facts-requires-clause-sorted c = c.requires.duty.sorted.theory

pub open_facts-requires-clause-lemmas : goal.open_facts-requires-clause-lemmas
open_facts-requires-clause-lemmas c = c.requires.duty.sorted.lemmas

pub returns-in_err-facts-clause-refused : goal.returns-in_err-facts-clause-refused
returns-in_err-facts-clause-refused c =
    let q = err_from_is_err_and c.from_residual.result c.from_residual.ensures.1 in
    rw (q.1, q.2) (facts_refused c.args.duty.now c.args.preamble.now.scope.now c.args.precedence.now
    c.args.preamble.now.limit c.in_err-facts.field-0.0 c.in_err-facts.ensures.refused)

pub returns-in_err-add_constants-clause-refused : goal.returns-in_err-add_constants-clause-refused
returns-in_err-add_constants-clause-refused c =
    let q = err_from_is_err_and c.from_residual-in_err-add_constants.result
    c.from_residual-in_err-add_constants.ensures.1 in
    rw (q.1, q.2) tt

pub level_of-requires : goal.level_of-requires
level_of-requires c =
    let d = c.args.duty.now in let scope = c.args.preamble.now.scope.now in
    let start = holds_grows d.whole.now d.statement.now c.args.builder.now c.open_facts.new.builder []
    (extends_grows _ _ c.in_ok-facts.ensures.extends) c.requires.start in
    let posed = posed_there d c.requires.duty scope _ _ _
    (c.in_ok-goal.ensures (may_pose d c.requires.duty scope _ start)) in
    record {
      facts_said = facts_inside _ _ _ _ posed.begun.through c.in_ok-facts.ensures.said;
      hypotheses = posed.said;
      way = posed.begun.way;
    }

pub returns-clause-refused : goal.returns-clause-refused
returns-clause-refused c =
    let d = c.args.duty.now in let scope = c.args.preamble.now.scope.now in
    let start = holds_grows d.whole.now d.statement.now c.args.builder.now c.open_facts.new.builder []
    (extends_grows _ _ c.in_ok-facts.ensures.extends) c.requires.start in
    let posed = posed_there d c.requires.duty scope _ _ _
    (c.in_ok-goal.ensures (may_pose d c.requires.duty scope _ start)) in
    if_refused _ _ c.level_of.result (λ x h.
    level_refused d scope c.args.precedence.now c.args.preamble.now.limit
    (facts_of c.in_ok-facts.facts) c.in_ok-facts.ensures.added c.add_constants.new.precedence
    (map sides_in c.in_ok-goal.goal.hypotheses.items) c.in_ok-goal.goal.beginning.first
    (c.in_ok-add_constants.ensures
    ∙ ap (fold with_constant c.args.precedence.now) (c.as_slice.ensures ∙ posed.constants))
    posed.supposed posed.first x h) c.level_of.ensures.refused

pub returns-clause-started : goal.returns-clause-started
returns-clause-started c =
    let d = c.args.duty.now in let scope = c.args.preamble.now.scope.now in
    let start = holds_grows d.whole.now d.statement.now c.args.builder.now c.open_facts.new.builder []
    (extends_grows _ _ c.in_ok-facts.ensures.extends) c.requires.start in
    let posed = posed_there d c.requires.duty scope _ _ _
    (c.in_ok-goal.ensures (may_pose d c.requires.duty scope _ start)) in
    let ranks = c.in_ok-add_constants.ensures
    ∙ ap (fold with_constant c.args.precedence.now) (c.as_slice.ensures ∙ posed.constants) in
    answered_by _ _ _ _ _ c.level_of.result (λ l opened level constants scope_is. record {
      outside = c.open_facts.new.builder;
      inside = c.make_goal.new.builder;
      goal = c.in_ok-goal.goal;
      start = start;
      posed_so = posed;
      further = c.level_of.ensures.extends;
      level = level;
      opens = level_opens d scope c.args.precedence.now c.args.preamble.now.limit (facts_of c.in_ok-facts.facts)
          c.in_ok-facts.ensures.added c.add_constants.new.precedence
          (map sides_in c.in_ok-goal.goal.hypotheses.items) c.in_ok-goal.goal.beginning.first ranks
          posed.supposed posed.first (opened_in l.first.level l.first.next) opened;
      constants = constants ∙ posed.constants;
      scope = scope_is ∙ posed.scope;
      ranks_are = ranks;
    }) c.level_of.ensures.opened c.level_of.ensures.level c.level_of.ensures.constants c.level_of.ensures.scope

pub returns-clause-grows : goal.returns-clause-grows
returns-clause-grows c = grows_trans _ _ _ c.in_ok-facts.ensures.grows c.level_of.ensures.grows
