use Rattle.std.specs.Prelude.{All, refl}
use Rattle.std.proofs.Common.{ap, sym, subst, ◌∙◌}
use Rattle.std.proofs.lemmas.List.Elements.{All-nil}
use Rattle.std.proofs.lemmas.Result.{err_from_is_err_and}
use Rattle.larch_rewrite_step.proofs.Written.{encodings_stay}
use Rattle.larch_derive.proofs.Growth.{extends_same, extends_trans}
use Rattle.larch_store.specs.Stored.{Belongs}
use Rattle.larch_store.proofs.Growth.{grows_refl, grows_trans}
use Rattle.larch_rewrite.specs.Level.{IsFrameOf}
use Rattle.larch_rewrite.specs.declared.level.Level.{Level}
use Rattle.larch_rewrite.proofs.Turns.{last_made, last_start, works_first}
use Rattle.larch_rewrite.proofs.Lines.{last_says, last_way, led_stays, none_written, says_first}
use Rattle.larch_rewrite.proofs.Stored.{front_further, front_same, none_of_store}
use Rattle.larch_rewrite.proofs.machine.run.Goals as goal

pub loop-init : goal.loop-init
loop-init c =
    let e = c.in_ok-first.ensures in record {
      stored = record {
        kept_are = c.requires.kept;
        frames_are = subst (All (IsFrameOf c.args.store.now)) (sym c.new.ensures.items) (All-nil _);
        turn_is = (
          subst (Belongs c.args.store.now) (sym (ap (λ (l : Level). l.start) e)) c.requires.term,
          subst (Belongs c.args.store.now) (sym (ap (λ (l : Level). l.term) e)) c.requires.term,
          All-nil _,
        );
      };
      grows = grows_refl _;
      front = front_same _ _ refl;
      works = works_first _ _ _ _ _ c.in_ok-first.first c.new.ensures.items
          (ap (λ (l : Level). l.start) e, ap (λ (l : Level). l.begun) e, ap (λ (l : Level). l.term) e) c.requires.forms;
      extends = λ m. extends_same _ _ refl;
      says = λ m. says_first _ _ _ _ _ c.in_ok-first.first c.new.ensures.items
          (ap (λ (l : Level). l.start) e, ap (λ (l : Level). l.way) e, ap (λ (l : Level). l.term) e) m;
      belong = none_of_store c.args.store.now _ c.new-encodings.ensures;
      encodings = λ m. none_written c.args.builder.now _ c.new-encodings.ensures;
    }

pub loop-preserved : goal.loop-preserved
loop-preserved c = record {
  stored = c.in_ok-turn.ensures.stored;
  grows = grows_trans _ _ _ c.loop.invariant.grows c.in_ok-turn.ensures.grows;
  front = front_further _ _ _ c.loop.invariant.front c.in_ok-turn.ensures.front;
  works = c.in_ok-turn.ensures.works _ _ c.loop.invariant.works;
  extends = λ m.
      extends_trans _ _ _ (c.loop.invariant.extends m)
      (c.in_ok-turn.ensures.extends (c.loop.invariant.says m) (c.loop.invariant.encodings m));
  says = λ m. c.in_ok-turn.ensures.says (c.loop.invariant.says m) (c.loop.invariant.encodings m);
  belong = c.in_ok-turn.ensures.belong;
  encodings = λ m.
      encodings_stay _ _ _ (c.in_ok-turn.ensures.extends (c.loop.invariant.says m) (c.loop.invariant.encodings m))
      (c.in_ok-turn.ensures.encodings (c.loop.invariant.encodings m));
}

pub returns-then-is_last-clause-belongs : goal.returns-then-is_last-clause-belongs
returns-then-is_last-clause-belongs c =
    subst (Belongs _) (sym c.in_ok-normal.ensures.form) c.loop.invariant.stored.turn_is.1

pub returns-then-is_last-clause-made : goal.returns-then-is_last-clause-made
returns-then-is_last-clause-made c =
    last_made _ _ _ _ _ _ _ _ _ (c.is_last.ensures c.if-is_last.true)
    (c.in_ok-normal.ensures.cost ∙ c.saturating_sub-cost.ensures) c.in_ok-normal.ensures.form c.loop.invariant.works

pub returns-then-is_last-clause-says : goal.returns-then-is_last-clause-says
returns-then-is_last-clause-says c m =
    let w = last_way _ _ _ _ _ (c.is_last.ensures c.if-is_last.true) (c.loop.invariant.says m) in
    last_says _ _ c.loop.turn _ _ (last_start _ _ _ _ _ _ _
    (c.is_last.ensures c.if-is_last.true) c.loop.invariant.works)
    c.in_ok-normal.ensures.form (c.in_ok-normal.ensures.says _ w.0 w.1 (c.loop.invariant.encodings m))

pub returns-then-is_last-clause-led : goal.returns-then-is_last-clause-led
returns-then-is_last-clause-led c m =
    let w = last_way _ _ _ _ _ (c.is_last.ensures c.if-is_last.true) (c.loop.invariant.says m) in
    led_stays _ _ _ (c.in_ok-normal.ensures.extends _ w.0 w.1 (c.loop.invariant.encodings m))
    (c.loop.invariant.says m).kept_led

pub returns-then-is_last-clause-extends : goal.returns-then-is_last-clause-extends
returns-then-is_last-clause-extends c m =
    let w = last_way _ _ _ _ _ (c.is_last.ensures c.if-is_last.true) (c.loop.invariant.says m) in
    extends_trans _ _ _ (c.loop.invariant.extends m)
    (c.in_ok-normal.ensures.extends _ w.0 w.1 (c.loop.invariant.encodings m))

pub returns-in_err-normal-clause-extends : goal.returns-in_err-normal-clause-extends
returns-in_err-normal-clause-extends c m =
    let w = last_way _ _ _ _ _ (c.is_last.ensures c.if-is_last.true) (c.loop.invariant.says m) in
    extends_trans _ _ _ (c.loop.invariant.extends m)
    (c.in_err-normal.ensures.extends _ w.0 w.1 (c.loop.invariant.encodings m))

pub returns-in_err-turn-clause-refused : goal.returns-in_err-turn-clause-refused
returns-in_err-turn-clause-refused c =
    let p = err_from_is_err_and c.from_residual-in_err-turn.result c.from_residual-in_err-turn.ensures.1 in
    rw (p.1, p.2) (c.in_err-turn.ensures.refused _ _ c.loop.invariant.works)

pub returns-in_err-turn-clause-grows : goal.returns-in_err-turn-clause-grows
returns-in_err-turn-clause-grows c = grows_trans _ _ _ c.loop.invariant.grows c.in_err-turn.ensures.grows

pub returns-in_err-turn-clause-front : goal.returns-in_err-turn-clause-front
returns-in_err-turn-clause-front c = front_further _ _ _ c.loop.invariant.front c.in_err-turn.ensures.front

pub returns-in_err-turn-clause-extends : goal.returns-in_err-turn-clause-extends
returns-in_err-turn-clause-extends c m =
    extends_trans _ _ _ (c.loop.invariant.extends m)
    (c.in_err-turn.ensures.extends (c.loop.invariant.says m) (c.loop.invariant.encodings m))
