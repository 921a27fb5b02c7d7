-- A box is entered, hypotheses are supposed in it, and the goal gets its normal form there.
use Rattle.std.proofs.Common.{All, ap, length, map, subst, sym, ◌∙◌}
use Rattle.std.proofs.lemmas.List.{length-map}
use Rattle.std.proofs.lemmas.Result.{err_from_is_err_and}
use Rattle.larch_derive.proofs.Growth.{extends_trans, stays_said}
use Rattle.larch_prove_draft.proofs.ProveAddingStaying.{belongs_further}
use Rattle.larch_prove_draft.proofs.ProveAddingViews.{start_tells}
use Rattle.larch_prove_draft.specs.ProveAddingEquation.{sides_in}
use Rattle.larch_prove_draft.specs.ProveAddingKeptFacts.{facts_of}
use Rattle.larch_prove_draft.proofs.ProveInvariantPlanned.{subgoal_known}
use Rattle.larch_prove_draft.proofs.ProveLevelsTelling.{tells_code}
use Rattle.larch_prove_draft.specs.ProveLevelsLevelLevel.{Level}
use Rattle.larch_prove_draft.specs.ProvePlansPlanning.{equate}
use Rattle.larch_prove_draft.specs.ProvePlansSubgoalsSubgoal as stated
use Rattle.larch_prove_settling.proofs.EntersUpon.{entered_so, now_there}
use Rattle.larch_prove_settling.proofs.Hypotheses.{all_equations, equations_said, facts_said_inside, goal_refused}
use Rattle.larch_prove_settling.proofs.Hypotheses.{hypotheses_refused, opened_as, sides_said, zip_lengths}
use Rattle.larch_prove_settling.proofs.Leaving.{said_as}
use Rattle.larch_prove_settling.proofs.entering.open_subgoal.Goals as goal
use Rattle.larch_prove_settling.specs.Entered.{IsEquation}
use Rattle.larch_store.proofs.Growth.{belongs_stays, grows_trans}
use Rattle.larch_store.specs.Numbered.{term_of}
use Rattle.larch_store.specs.Stored.{Belongs}
use Rattle.larch_term.specs.Sorts.{sort_of}

pub said_hypotheses-requires-clause-equations : goal.said_hypotheses-requires-clause-equations
said_hypotheses-requires-clause-equations c =
    subst (λ (g : stated.Subgoal). All IsEquation g.hypotheses) (sym c.requires.awaits.subgoal_is)
    (all_equations c.requires.running.now.hypotheses)

pub said_hypotheses-requires-clause-lengths : goal.said_hypotheses-requires-clause-lengths
said_hypotheses-requires-clause-lengths c =
    let w = c.requires.awaits in let r = c.requires.running in
    let i = c.in_ok-entrance.ensures _ _ _ _ _ _ r r.now w.held w.running w.method_is
    (now_there _ _ _ _ _ _ _ _ _ _ _ w) w.subgoal_is in
    ap length c.as_slice.ensures
    ∙ zip_lengths c.enter_subgoal.new.builder r.now.hypotheses c.in_ok-entrance.entrance.hypotheses i.hypotheses
    ∙ sym (length-map r.now.hypotheses equate)
    ∙ ap (λ (g : stated.Subgoal). length g.hypotheses) (sym w.subgoal_is)

pub suppose_all-requires-clause-said : goal.suppose_all-requires-clause-said
suppose_all-requires-clause-said c =
    let w = c.requires.awaits in let r = c.requires.running in
    let i = c.in_ok-entrance.ensures _ _ _ _ _ _ r r.now w.held w.running w.method_is
    (now_there _ _ _ _ _ _ _ _ _ _ _ w) w.subgoal_is in
    facts_said_inside _ _ _ _ _ _ _ _ _ _ _ w _ _ i _ c.in_ok-facts.ensures.said

pub suppose_all-requires-clause-equations : goal.suppose_all-requires-clause-equations
suppose_all-requires-clause-equations c =
    let w = c.requires.awaits in let r = c.requires.running in
    let i = c.in_ok-entrance.ensures _ _ _ _ _ _ r r.now w.held w.running w.method_is
    (now_there _ _ _ _ _ _ _ _ _ _ _ w) w.subgoal_is in
    equations_said _ _ r.now.hypotheses c.in_ok-entrance.entrance.hypotheses
    (sides_said _ _ (c.in_ok-equations.ensures.equations
    ∙ ap (λ (g : stated.Subgoal). g.hypotheses) w.subgoal_is))
    (c.in_ok-equations.ensures.lines ∙ c.as_slice.ensures) i.hypotheses

pub returns-in_err-suppose_all-clause-refused : goal.returns-in_err-suppose_all-clause-refused
returns-in_err-suppose_all-clause-refused c =
    let q = err_from_is_err_and c.from_residual-in_err-suppose_all.result
    c.from_residual-in_err-suppose_all.ensures.1 in
    rw (q.1, q.2) (λ g e.
    hypotheses_refused c.args.around.now.precedence.now c.args.around.now.limit g (facts_of c.args.parent.now.facts)
    (facts_of c.in_ok-facts.facts) (facts_of c.in_ok-facts.facts) c.args.next.now c.args.next.now
    (map sides_in c.in_ok-equations.equations.items) c.in_ok-facts.ensures.same.0
    (sides_said _ g.hypotheses (c.in_ok-equations.ensures.equations ∙ ap (λ (h : stated.Subgoal). h.hypotheses) e))
    c.in_err-suppose_all.field-0.0 c.in_err-suppose_all.ensures.refused)

pub returns-in_err-first-clause-refused : goal.returns-in_err-first-clause-refused
returns-in_err-first-clause-refused c =
    let q = err_from_is_err_and c.from_residual-in_err-first.result c.from_residual-in_err-first.ensures.1 in
    rw (q.1, q.2) (λ g e.
    goal_refused c.args.around.now.precedence.now c.args.around.now.limit g (facts_of c.args.parent.now.facts)
    (facts_of c.in_ok-facts.facts) (facts_of c.suppose_all.new.facts) c.args.next.now c.suppose_all.new.next
    (map sides_in c.in_ok-equations.equations.items) c.in_ok-facts.ensures.same.0
    (sides_said _ g.hypotheses (c.in_ok-equations.ensures.equations ∙ ap (λ (h : stated.Subgoal). h.hypotheses) e))
    c.in_ok-suppose_all.ensures.supposed c.args.entering.now.subgoal.now.goal
    (ap (λ (h : stated.Subgoal). h.goal) e) _
    (tells_code _ _ (start_tells _ _ _ _ c.in_err-first.ensures.refused)))

pub returns-in_err-first-clause-grows : goal.returns-in_err-first-clause-grows
returns-in_err-first-clause-grows c =
    grows_trans _ _ _ c.in_ok-suppose_all.ensures.grows c.in_err-first.ensures.grows

pub returns-in_err-term-clause-grows : goal.returns-in_err-term-clause-grows
returns-in_err-term-clause-grows c =
    grows_trans _ _ _ c.in_ok-suppose_all.ensures.grows c.in_ok-first.ensures.grows

pub normalise_goal-requires : goal.normalise_goal-requires
normalise_goal-requires c =
    let w = c.requires.awaits in let r = c.requires.running in
    let i = c.in_ok-entrance.ensures _ _ _ _ _ _ r r.now w.held w.running w.method_is
    (now_there _ _ _ _ _ _ _ _ _ _ _ w) w.subgoal_is in
    let first = c.in_ok-first.ensures.term ∙ ap (λ (g : stated.Subgoal). g.goal) w.subgoal_is in
    let term = ap term_of c.in_ok-term.ensures ∙ first in
    record {
      goal = subst (Belongs c.intern.new.self) (sym c.in_ok-term.ensures) c.in_ok-first.ensures.belongs;
      kept = belongs_further _ _ c.suppose_all.new.facts.rules c.in_ok-first.ensures.grows
          c.in_ok-suppose_all.ensures.kept;
      said = c.in_ok-suppose_all.ensures.said;
      way = said_as _ _ _ _ _ _ (sym first) (sym term)
          (stays_said _ _ _ _ c.in_ok-suppose_all.ensures.extends i.way);
    }

pub returns-in_err-normalise_goal-clause-refused : goal.returns-in_err-normalise_goal-clause-refused
returns-in_err-normalise_goal-clause-refused c =
    let q = err_from_is_err_and c.from_residual-in_err-normalise_goal.result
    c.from_residual-in_err-normalise_goal.ensures.1 in
    rw (q.1, q.2) (λ g e.
    goal_refused c.args.around.now.precedence.now c.args.around.now.limit g (facts_of c.args.parent.now.facts)
    (facts_of c.in_ok-facts.facts) (facts_of c.suppose_all.new.facts) c.args.next.now c.suppose_all.new.next
    (map sides_in c.in_ok-equations.equations.items) c.in_ok-facts.ensures.same.0
    (sides_said _ g.hypotheses (c.in_ok-equations.ensures.equations ∙ ap (λ (h : stated.Subgoal). h.hypotheses) e))
    c.in_ok-suppose_all.ensures.supposed (term_of c.in_ok-term.term)
    (ap term_of c.in_ok-term.ensures ∙ c.in_ok-first.ensures.term ∙ ap (λ (h : stated.Subgoal). h.goal) e)
    c.in_err-normalise_goal.field-0.0 c.in_err-normalise_goal.ensures.refused)

pub returns-in_err-normalise_goal-clause-grows : goal.returns-in_err-normalise_goal-clause-grows
returns-in_err-normalise_goal-clause-grows c =
    grows_trans _ _ _ c.in_ok-suppose_all.ensures.grows
    (grows_trans _ _ _ c.in_ok-first.ensures.grows c.in_err-normalise_goal.ensures.grows)

pub returns-clause-opened : goal.returns-clause-opened
returns-clause-opened c = λ g e.
    opened_as c.args.around.now.precedence.now c.args.around.now.limit g (facts_of c.args.parent.now.facts)
    (facts_of c.in_ok-facts.facts) (facts_of c.suppose_all.new.facts) c.args.next.now c.suppose_all.new.next
    (map sides_in c.in_ok-equations.equations.items) c.in_ok-facts.ensures.same.0
    (sides_said _ g.hypotheses (c.in_ok-equations.ensures.equations ∙ ap (λ (h : stated.Subgoal). h.hypotheses) e))
    c.in_ok-suppose_all.ensures.supposed (term_of c.in_ok-term.term)
    (ap term_of c.in_ok-term.ensures ∙ c.in_ok-first.ensures.term ∙ ap (λ (h : stated.Subgoal). h.goal) e)
    (facts_of c.normalise_goal.new.level.facts) (term_of c.normalise_goal.new.level.goal.term)
    c.in_ok-normalise_goal.ensures.normal c.in_ok-normalise_goal.ensures.facts

pub returns-clause-entered : goal.returns-clause-entered
returns-clause-entered c = λ t s cs levels k ks r w.
    let i = c.in_ok-entrance.ensures t s cs levels k ks r r.now w.held w.running w.method_is
    (now_there t s cs levels k ks r _ _ _ _ w) w.subgoal_is in
    let rest = c.in_ok-normalise_goal.ensures.rest in
    let first = ap (λ (l : Level). term_of l.first) rest ∙ c.in_ok-first.ensures.term in
    entered_so t s cs levels k ks r _ _ _ _ w c.enter_subgoal.new.builder c.normalise_goal.new.builder
    c.in_ok-entrance.entrance c.normalise_goal.new.store c.normalise_goal.new.level i
    (extends_trans _ _ _ c.in_ok-suppose_all.ensures.extends c.in_ok-normalise_goal.ensures.extends)
    (ap (λ (l : Level). l.purpose) rest) (first ∙ ap (λ (h : stated.Subgoal). h.goal) w.subgoal_is)
    (ap (λ (l : Level). l.entrance) rest) (ap (λ (l : Level). l.extras) rest ∙ c.new.ensures)
    (ap (λ (l : Level). l.running) rest) c.in_ok-normalise_goal.ensures.ready
    (record {
      goal = c.in_ok-normalise_goal.ensures.ready.goal;
      first = subst (Belongs c.normalise_goal.new.store) (sym (ap (λ (l : Level). l.first) rest))
          (belongs_stays _ _ _ c.in_ok-normalise_goal.ensures.grows c.in_ok-first.ensures.belongs);
      formula = ap sort_of (first ∙ ap (λ (h : stated.Subgoal). h.goal) w.subgoal_is)
          ∙ (subgoal_known t s _ c.enter_subgoal.new.builder cs levels k ks r r.now i.boxes w.held w.running
          (now_there t s cs levels k ks r _ _ _ _ w) i.through i.shapes).sort;
    })

pub returns-clause-grows : goal.returns-clause-grows
returns-clause-grows c =
    grows_trans _ _ _ c.in_ok-suppose_all.ensures.grows
    (grows_trans _ _ _ c.in_ok-first.ensures.grows c.in_ok-normalise_goal.ensures.grows)
