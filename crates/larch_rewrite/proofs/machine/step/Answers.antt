use Rattle.std.specs.Prelude.{refl}
use Rattle.std.proofs.Common.{subst}
use Rattle.std.proofs.lemmas.Result.{err_from_is_err_and}
use Rattle.larch_rewrite_step.proofs.Written.{of_store_stay}
use Rattle.larch_rewrite.specs.Level.{IsTurnOf}
use Rattle.larch_rewrite.proofs.Turns.{tells_whole, works_from, works_kept, works_on}
use Rattle.larch_rewrite.proofs.Lines.{means_written, says_from, says_kept, says_on}
use Rattle.larch_rewrite.proofs.Stored.{all_kept, front_at, front_same, frames_stay, kept_stay, means_stay}
use Rattle.larch_rewrite.proofs.machine.step.Goals as goal

-- ---- a term's work begins

pub returns-in_ok-turn-in-Begin-clause-stored : goal.returns-in_ok-turn-in-Begin-clause-stored
returns-in_ok-turn-in-Begin-clause-stored c = record {
  kept_are = all_kept _ _ _ _ _ c.keep.ensures c.in_ok-turn-in-Begin.ensures.turn c.requires.stored.kept_are;
  frames_are = c.requires.stored.frames_are;
  turn_is = c.in_ok-turn-in-Begin.ensures.turn;
}

pub returns-in_ok-turn-in-Begin-clause-front : goal.returns-in_ok-turn-in-Begin-clause-front
returns-in_ok-turn-in-Begin-clause-front c = front_at _ _ _ _ c.keep.ensures

pub returns-in_ok-turn-in-Begin-clause-works : goal.returns-in_ok-turn-in-Begin-clause-works
returns-in_ok-turn-in-Begin-clause-works c whole budget h =
    let g = works_from _ _ _ _ _ _ _ _ c.in-Begin.is h in
    works_kept _ _ _ _ _ _ _ _ c.keep.ensures
    (works_on _ _ _ _ _ _ _ _ _ c.in_ok-turn-in-Begin.ensures.start (c.in_ok-turn-in-Begin.ensures.work _ g.forms) g)

pub returns-in_ok-turn-in-Begin-clause-says : goal.returns-in_ok-turn-in-Begin-clause-says
returns-in_ok-turn-in-Begin-clause-says c h d =
    let g = says_from _ _ _ _ _ _ c.in-Begin.is h in
    says_kept _ _ _ _ _ _ _ c.keep.ensures
    (says_on _ _ _ _ _ _ _ (c.in_ok-turn-in-Begin.ensures.extends _ g.kept_led g.way)
    c.in_ok-turn-in-Begin.ensures.start
    (c.in_ok-turn-in-Begin.ensures.says _ g.kept_led g.way) g)

pub returns-in_err-turn-in-Begin-clause-refused : goal.returns-in_err-turn-in-Begin-clause-refused
returns-in_err-turn-in-Begin-clause-refused c =
    let p = err_from_is_err_and c.from_residual.result c.from_residual.ensures.1 in
    rw (p.1, p.2)
    (λ whole budget h.
    tells_whole _ _ _ _ _ _ _ _ (works_from _ _ _ _ _ _ _ _ c.in-Begin.is h)
    (c.in_err-turn-in-Begin.ensures.refused _ (works_from _ _ _ _ _ _ _ _ c.in-Begin.is h).forms))

-- ---- among arguments

pub go_on-requires-clause-turn : goal.go_on-requires-clause-turn
go_on-requires-clause-turn c = subst (IsTurnOf c.args.store.now) c.in-Arguments.is c.requires.stored.turn_is

pub returns-in_ok-turn-in-Arguments-clause-stored : goal.returns-in_ok-turn-in-Arguments-clause-stored
returns-in_ok-turn-in-Arguments-clause-stored c = record {
  kept_are = kept_stay _ _ _ c.in_ok-turn-in-Arguments.ensures.grows c.requires.stored.kept_are;
  frames_are = c.in_ok-turn-in-Arguments.ensures.frames;
  turn_is = c.in_ok-turn-in-Arguments.ensures.turn;
}

pub returns-in_ok-turn-in-Arguments-clause-works : goal.returns-in_ok-turn-in-Arguments-clause-works
returns-in_ok-turn-in-Arguments-clause-works c whole budget h =
    c.in_ok-turn-in-Arguments.ensures.works _ whole budget _ (works_from _ _ _ _ _ _ _ _ c.in-Arguments.is h)

pub returns-in_ok-turn-in-Arguments-clause-says : goal.returns-in_ok-turn-in-Arguments-clause-says
returns-in_ok-turn-in-Arguments-clause-says c h d =
    c.in_ok-turn-in-Arguments.ensures.says _ _ _ (says_from _ _ _ _ _ _ c.in-Arguments.is h)

pub returns-in_err-turn-in-Arguments-clause-refused : goal.returns-in_err-turn-in-Arguments-clause-refused
returns-in_err-turn-in-Arguments-clause-refused c =
    let p = err_from_is_err_and c.from_residual-in_err-turn-in-Arguments.result
    c.from_residual-in_err-turn-in-Arguments.ensures.1 in
    rw (p.1, p.2)
    (λ whole budget h.
    c.in_err-turn-in-Arguments.ensures.refused _ whole budget _ (works_from _ _ _ _ _ _ _ _ c.in-Arguments.is h))

pub returns-in_ok-turn-in-Arguments-clause-belong : goal.returns-in_ok-turn-in-Arguments-clause-belong
returns-in_ok-turn-in-Arguments-clause-belong c =
    means_stay _ _ _ c.in_ok-turn-in-Arguments.ensures.means
    (of_store_stay _ _ _ c.in_ok-turn-in-Arguments.ensures.grows c.requires.encodings)

pub returns-in_ok-turn-in-Arguments-clause-encodings : goal.returns-in_ok-turn-in-Arguments-clause-encodings
returns-in_ok-turn-in-Arguments-clause-encodings c d =
    means_written c.args.builder.now _ _ c.in_ok-turn-in-Arguments.ensures.means d

-- ---- a root

pub keep-requires-in-Root-clause-kept : goal.keep-requires-in-Root-clause-kept
keep-requires-in-Root-clause-kept c =
    kept_stay _ _ _ c.in_ok-turn-in-Root.ensures.grows c.requires.stored.kept_are

pub returns-in_ok-turn-in-Root-clause-stored : goal.returns-in_ok-turn-in-Root-clause-stored
returns-in_ok-turn-in-Root-clause-stored c = record {
  kept_are = all_kept _ _ _ _ _ c.keep-in-Root.ensures c.in_ok-turn-in-Root.ensures.turn
      (kept_stay _ _ _ c.in_ok-turn-in-Root.ensures.grows c.requires.stored.kept_are);
  frames_are = frames_stay _ _ _ c.in_ok-turn-in-Root.ensures.grows c.requires.stored.frames_are;
  turn_is = c.in_ok-turn-in-Root.ensures.turn;
}

pub returns-in_ok-turn-in-Root-clause-front : goal.returns-in_ok-turn-in-Root-clause-front
returns-in_ok-turn-in-Root-clause-front c = front_at _ _ _ _ c.keep-in-Root.ensures

pub returns-in_ok-turn-in-Root-clause-works : goal.returns-in_ok-turn-in-Root-clause-works
returns-in_ok-turn-in-Root-clause-works c whole budget h =
    let g = works_from _ _ _ _ _ _ _ _ c.in-Root.is h in
    works_kept _ _ _ _ _ _ _ _ c.keep-in-Root.ensures
    (works_on _ _ _ _ _ _ _ _ _ c.in_ok-turn-in-Root.ensures.start c.in_ok-turn-in-Root.ensures.work g)

pub returns-in_ok-turn-in-Root-clause-says : goal.returns-in_ok-turn-in-Root-clause-says
returns-in_ok-turn-in-Root-clause-says c h d =
    let g = says_from _ _ _ _ _ _ c.in-Root.is h in
    says_kept _ _ _ _ _ _ _ c.keep-in-Root.ensures
    (says_on _ _ _ _ _ _ _ (c.in_ok-turn-in-Root.ensures.extends _ g.rules_said g.way d)
    c.in_ok-turn-in-Root.ensures.start
    (c.in_ok-turn-in-Root.ensures.says _ g.rules_said g.way d) g)

pub returns-in_err-turn-in-Root-clause-refused : goal.returns-in_err-turn-in-Root-clause-refused
returns-in_err-turn-in-Root-clause-refused c =
    let p = err_from_is_err_and c.from_residual-in_err-turn-in-Root.result
    c.from_residual-in_err-turn-in-Root.ensures.1 in
    rw (p.1, p.2)
    (λ whole budget h.
    tells_whole _ _ _ _ _ _ _ _ (works_from _ _ _ _ _ _ _ _ c.in-Root.is h) c.in_err-turn-in-Root.ensures.refused)

pub returns-in_err-turn-in-Root-clause-front : goal.returns-in_err-turn-in-Root-clause-front
returns-in_err-turn-in-Root-clause-front c = front_same _ _ refl

-- ---- a normal form

pub returns-in_ok-turn-in-Finish-clause-works : goal.returns-in_ok-turn-in-Finish-clause-works
returns-in_ok-turn-in-Finish-clause-works c whole budget h =
    c.in_ok-turn-in-Finish.ensures.works _ whole budget _ (works_from _ _ _ _ _ _ _ _ c.in-Finish.is h)

pub returns-in_ok-turn-in-Finish-clause-says : goal.returns-in_ok-turn-in-Finish-clause-says
returns-in_ok-turn-in-Finish-clause-says c h d =
    c.in_ok-turn-in-Finish.ensures.says _ _ (says_from _ _ _ _ _ _ c.in-Finish.is h) d

pub returns-in_ok-turn-in-Finish-clause-extends : goal.returns-in_ok-turn-in-Finish-clause-extends
returns-in_ok-turn-in-Finish-clause-extends c h d =
    c.in_ok-turn-in-Finish.ensures.extends _ _ (says_from _ _ _ _ _ _ c.in-Finish.is h) d

pub returns-in_err-turn-in-Finish-clause-extends : goal.returns-in_err-turn-in-Finish-clause-extends
returns-in_err-turn-in-Finish-clause-extends c h d =
    c.in_err-turn-in-Finish.ensures.extends _ _ (says_from _ _ _ _ _ _ c.in-Finish.is h) d
