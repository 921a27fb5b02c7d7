-- The open subgoal has a level of its own, upon the one below.
use Rattle.std.proofs.Common.{ap, map, refl, reverse, subst, sym, ◌∙◌, ◌∷◌}
use Rattle.std.proofs.lemmas.List.{reverse-append}
use Rattle.std.proofs.lemmas.Result.{err_from_is_err_and}
use Rattle.larch_prove_draft.specs.ProveLevelsLevel.{IsReady, IsStored}
use Rattle.larch_prove_settling.proofs.Leading.{lead_by}
use Rattle.larch_prove_settling.proofs.Next.{awaits_now, next_alike, next_proof, next_rises, next_stands, next_stays}
use Rattle.larch_prove_settling.proofs.Next.{next_tells, opened_same}
use Rattle.larch_prove_settling.specs.Entered.{IsUpon}
use Rattle.larch_prove_settling.proofs.methods.open_now.Goals as goal

pub open_subgoal-requires : goal.open_subgoal-requires
open_subgoal-requires c =
    let r = c.requires.opens in let w = r.1.1.1.1.1 in record {
      theory = c.args.proving.now.theory.now;
      statement = c.args.proving.now.statement.now;
      constants = r.0.constants;
      levels = record r.1.1.0 { remaining = w.waiting } ∷ r.1.0;
      top = w.on;
      others = w.others;
      running = w.running;
      awaits = awaits_now _ _ _ _ _ _ _ _ _ _ w;
    }

pub returns-in_err-level-clause-refused : goal.returns-in_err-level-clause-refused
returns-in_err-level-clause-refused c =
    let q = err_from_is_err_and c.from_residual-in_err-level.result c.from_residual-in_err-level.ensures.1 in
    rw (q.1, q.2) (λ p below parent gs over w.
    next_tells _ _ _ _ p below parent _ _ _ w _ _ c.in_err-level.field-0.0 over
    (c.in_err-level.ensures.refused w.running.now w.subgoal_is))

pub line_of_goal-requires-clause-ready : goal.line_of_goal-requires-clause-ready
line_of_goal-requires-clause-ready c =
    let w = c.requires.opens.1.1.1.1.1 in
    subst (IsReady _ _) (sym c.in_ok-push_level.ensures.current)
    (c.in_ok-level.ensures.entered _ _ _ _ _ _ _ (awaits_now _ _ _ _ _ _ _ _ _ _ w)).ready

pub line_of_goal-requires-clause-stored : goal.line_of_goal-requires-clause-stored
line_of_goal-requires-clause-stored c =
    let w = c.requires.opens.1.1.1.1.1 in
    subst (IsStored _) (sym c.in_ok-push_level.ensures.current)
    (c.in_ok-level.ensures.entered _ _ _ _ _ _ _ (awaits_now _ _ _ _ _ _ _ _ _ _ w)).stored

pub returns-clause-leads : goal.returns-clause-leads
returns-clause-leads c = λ p below parent gs over w.
    let t = c.args.proving.now.theory.now in let s = c.args.proving.now.statement.now in
    let d = c.args.draft.now in let store = c.args.store.now in let more = c.open_subgoal.new.store in
    let e = record d {
      builder = c.open_subgoal.new.builder;
      current = c.push_level.new.current;
      below = c.push_level.new.below;
      waiting = c.mark.new.waiting;
      next_hypothesis = c.open_subgoal.new.next;
    } in
    let same = c.in_ok-push_level.ensures.current in
    let upon = c.in_ok-level.ensures.entered t s p.constants _ _ _ _
    (awaits_now t s store d p below parent _ _ _ w) in
    let here = subst (IsUpon t s p.constants _ _ _ e.builder more) (sym same) upon in
    let opened = opened_same t s store more d e p below parent _ _ _ w _ _ c.in_ok-level.level over same
    (c.in_ok-level.ensures.opened w.running.now w.subgoal_is) in
    lead_by t s more e c.line_of_goal.new.builder here.entered (w.on ∷ w.others) p
    (next_proof t s store more d e p below parent _ _ _ w) c.in_ok-shown.shown _
    (next_alike t s store more d e p below parent _ _ _ w)
    (next_stays t s store more d e p below parent _ _ _ w opened)
    (next_rises t s store more d e p below parent _ _ _ w opened)
    (next_stands t s store more d e p below parent _ _ _ w c.in_ok-level.ensures.grows refl c.in_ok-mark.ensures refl
    refl c.in_ok-push_level.ensures.below here)
    c.in_ok-shown.ensures.extends c.in_ok-shown.ensures.proved c.in_ok-shown.ensures.says c.in_ok-shown.ensures.open

pub returns-clause-below : goal.returns-clause-below
returns-clause-below c =
    ap reverse c.in_ok-push_level.ensures.below ∙ reverse-append (map (λ l. l.value) c.args.draft.now.below.items) _
