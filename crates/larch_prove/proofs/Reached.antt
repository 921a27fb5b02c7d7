-- Proofs that are reached, what works on them, and what commands make of it.
use Rattle.std.specs.Prelude.{◌≡◌, ◌<◌, ◌+◌, ◌++◌, ◌==◌, ℕ, Bool, true, false, List, map, None}
use Rattle.std.specs.Prelude.{Err, IfErr, Ok, OnOk, Result, refl, vec_len}
use Rattle.std.proofs.Common.{ap, ap₂, subst, sym, ◌∙◌}
use Rattle.larch_base.specs.declared.code.Code.{Code}
use Rattle.larch_calculus.specs.Theories.{with_statements}
use Rattle.larch_base.specs.declared.limits.TheConstants.{MAX_COMMANDS}
use Rattle.larch_order.specs.declared.precedence.Ranked.{Ranked}
use Rattle.larch_prove.proofs.Marked.{counts_of, end_of}
use Rattle.larch_prove.proofs.Turns.{counted, quiet_so, told_as}
use Rattle.larch_prove.specs.Kinds.{IsCommand}
use Rattle.larch_prove.specs.State.{IsGoingFor, MakesFor, StepsTo, Works}
use Rattle.larch_prove.specs.declared.going.Going.{Going}
use Rattle.larch_prove_resuming.specs.ProveDraftDraft.{IsAlike, IsProofBy, IsProofOf, Leads}
use Rattle.larch_prove_resuming.specs.ProveDraftDraftDraft.{Draft}
use Rattle.larch_prove_resuming.specs.ProveDraftProving.{IsProvable}
use Rattle.larch_prove_resuming.specs.ProveInvariantHolding.{theory_for}
use Rattle.larch_prove_meaning.proofs.OpeningSorts.{step_sorted}
use Rattle.larch_prove_meaning.proofs.StepNames.{step_named}
use Rattle.larch_prove_meaning.proofs.StepScopes.{step_words}
use Rattle.larch_prove_meaning.specs.Levels.{EarlierDuty, Proof}
use Rattle.larch_prove_meaning.specs.Replays.{by_kind, is_quiet, mark_command, step}
use Rattle.larch_prove_meaning.specs.Steps.{carried_out, check_boxes}
use Rattle.larch_prove_beginning.specs.ProveSettingsSettings.{AreSettingsOf, with_settings}
use Rattle.larch_prove_beginning.specs.ProveSettingsTelling.{Tells}
use Rattle.larch_prove_beginning.specs.ProveSettingsRefusalCommandRefusal.{CommandRefusal}
use Rattle.larch_prove_beginning.specs.ProveSettingsSettingsSettings.{Settings}
use Rattle.larch_prove_resuming.specs.ProveWorkWork.{IsReached, IsWorkOf, Makes, MayWork}
use Rattle.larch_prove_resuming.specs.ProveWorkWorkClaim.{Claim}
use Rattle.larch_prove_resuming.specs.ProveWorkWorkWork.{Work}
use Rattle.larch_script_commands.specs.Worded.{WordedKind}
use Rattle.larch_script_commands.specs.declared.command.CommandKind.{CommandKind}
use Rattle.larch_script_commands.specs.declared.command.CommandKind.TheVariants as command
use Rattle.larch_sorts_known.specs.Sorts.{existing_sorts}
use Rattle.larch_sorts_meaning.specs.Scope.{Variables}
use Rattle.larch_store.specs.Numbered.{Numbered}
use Rattle.larch_term.specs.declared.statement.Statement.{Statement}
use Rattle.larch_term.specs.declared.statement.Theory.{Theory}

-- ---- a draft says nothing of scope, precedence and limit, nor of how many commands there were

module _ (t : Theory) (s : Statement) (store : List Numbered) (d : Draft) (p : Proof) (vs : Variables)
    (ranks : List Ranked) (limit commands : ℕ) where
  changed_by : (b : Bool) → IsProofBy b t s store d p
      → IsProofBy b t s store d (record p { scope = vs; ranks = ranks; limit = limit; commands = commands })
  changed_by true w = record { counts = w.counts; proved = w.proved; finished = w.finished }
  changed_by false w = (
    w.0,
    (
      w.1.0,
      record {
        counts = w.1.1.counts;
        undone = w.1.1.undone;
        current = w.1.1.current;
        level_is = w.1.1.level_is;
        idle = w.1.1.idle;
        ready = w.1.1.ready;
        stored = w.1.1.stored;
        below = w.1.1.below;
        holds = w.1.1.holds;
      },
    ),
  )

  pub changed_of : IsProofOf t s store d p
      → IsProofOf t s store d (record p { scope = vs; ranks = ranks; limit = limit; commands = commands })
  changed_of w = changed_by p.is_proved w

-- ---- one command more

abbrev pub counting : Proof → Proof
counting p = record p { commands = p.commands + 1 }

pub works_counting : (going : Going) (p : Proof) → Works going p → Works going (counting p)
works_counting going p w = record {
  work = record {
    whole = w.work.whole;
    settings = record {
      operators = w.work.settings.operators;
      sorts = w.work.settings.sorts;
      constants = w.work.settings.constants;
      scope = w.work.settings.scope;
      ranks = w.work.settings.ranks;
      limit = w.work.settings.limit;
    };
    draft = changed_of going.claim.value.theory going.claim.value.statement going.work.store going.work.draft p p.scope
        p.ranks p.limit (p.commands + 1) w.work.draft;
  };
  reached = record {
    sorted = record {
      theory = w.reached.sorted.theory;
      lemmas = w.reached.sorted.lemmas;
      scope = w.reached.sorted.scope;
      levels = w.reached.sorted.levels;
    };
    scope = w.reached.scope;
    named = w.reached.named;
  };
}

-- what is reached stays so behind a command
reached_behind : (k : CommandKind) (p q : Proof) → WordedKind k → IsReached p → step k p ≡ Ok q → IsReached q
reached_behind k p q worded r e = record {
  sorted = (step_sorted k p q r.sorted e).0;
  scope = step_words k p q worded e r.scope;
  named = step_named k p q r.named e;
}

-- a command that was counted leads to the step's proof
pub stepped_behind : (s : Statement) (going made : Going) (k : CommandKind) (n : ℕ) (p : Proof) → IsCommand k
    → WordedKind k → going.commands < MAX_COMMANDS → made ≡ record going { work = made.work }
    → n ≡ going.commands + 1 → IsGoingFor s going p → MakesFor made (counting p) (by_kind k (counting p))
    → StepsTo s (record made { commands = n }) (step k p)
stepped_behind s going made k n p is worded below rest more g m =
    let e : step k p ≡ Ok m.0 = counted k p is (subst (λ i. i < MAX_COMMANDS) g.commands below) ∙ m.1.0 in (
      m.0,
      (
        e,
        record {
          statement = ap (λ (x : Going). x.claim.value.statement) rest ∙ g.statement;
          claimed = subst (λ (x : Going). IsProvable x.claim.value.theory x.claim.value.statement) (sym rest) g.claimed;
          works = record { work = m.1.1.0; reached = reached_behind k p m.0 worded g.works.reached e };
          commands = more ∙ (ap (λ i. i + 1) g.commands ∙ sym m.1.1.1);
        },
      ),
    )

-- ---- proofs that are alike

whole_alike : (p q : Proof) → IsAlike p q → theory_for q ≡ theory_for p
whole_alike p q a = ap₂ (λ u ls. with_statements u (map (λ (l : EarlierDuty). l.statement) ls)) a.theory a.lemmas

settings_alike : (settings : Settings) (p q : Proof) → IsAlike p q → AreSettingsOf settings p → AreSettingsOf settings q
settings_alike settings p q a w = record {
  operators = w.operators ∙ sym (ap₂ (λ (u : Theory) cs. u.operators ++ cs) a.theory a.constants);
  sorts = w.sorts ∙ sym (ap (λ (u : Theory). existing_sorts u.operators) a.theory);
  constants = w.constants ∙ sym a.constants;
  scope = w.scope ∙ sym a.scope;
  ranks = w.ranks ∙ sym a.ranks;
  limit = w.limit ∙ sym a.limit;
}

-- ---- what commands make

-- nothing changes
pub made_same : (going : Going) (k : CommandKind) (p : Proof) → Works going p → by_kind k p ≡ Ok p
    → MakesFor going p (by_kind k p)
made_same going k p w e = (p, (e, (w.work, refl)))

-- the draft alone changes
pub made_in_draft : (going : Going) (d : Draft) (p : Proof) (a : Result Proof Code) → Works going p
    → Leads going.claim.value.theory going.claim.value.statement going.work.store d p None a
    → MakesFor (record going { work = record going.work { draft = d } }) p a
made_in_draft going d p a w l =
    let q = l.0 in let alike = l.1.1.0 in (
      q,
      (
        l.1.0,
        (
          record {
            whole = whole_alike p q alike ∙ w.work.whole;
            settings = settings_alike going.work.settings p q alike w.work.settings;
            draft = l.1.1.1;
          },
          alike.commands,
        ),
      ),
    )

-- boxes are checked from now on, or aren't
pub made_checking : (going : Going) (d : Draft) (on : Bool) (p : Proof) (a : Result Proof Code) → Works going p
    → a ≡ Ok (check_boxes on p)
    → IsProofOf going.claim.value.theory going.claim.value.statement going.work.store d (check_boxes on p)
    → MakesFor (record going { work = record going.work { draft = d } }) p a
made_checking going d on p a w e h =
    made_in_draft going d p a w (
      check_boxes on p,
      (
        e,
        (
          record {
            theory = refl;
            lemmas = refl;
            scope = refl;
            constants = refl;
            ranks = refl;
            limit = refl;
            commands = refl;
          },
          h,
        ),
      ),
    )

-- the settings alone change
pub made_in_settings : (going : Going) (settings : Settings) (p : Proof) (a : Result Proof Code) → Works going p
    → a ≡ Ok (with_settings settings p) → AreSettingsOf settings (with_settings settings p)
    → MakesFor (record going { work = record going.work { settings = settings } }) p a
made_in_settings going settings p a w e are = (
  with_settings settings p,
  (
    e,
    (
      record {
        whole = w.work.whole;
        settings = are;
        draft = changed_of going.claim.value.theory going.claim.value.statement going.work.store going.work.draft p
            settings.scope.value settings.precedence.value settings.limit p.commands w.work.draft;
      },
      refl,
    ),
  ),
)

-- a copy can be worked on, where the proof isn't done
pub may_work : (going : Going) (w : Work) (claim : Claim) (p : Proof) → claim ≡ going.claim.value
    → going.work.draft.is_proved ≡ false
    → ((t : Theory) (s : Statement) (q : Proof) → IsWorkOf t s going.work q → IsWorkOf t s w q) → Works going p
    → MayWork claim.theory claim.statement w p
may_work going w claim p e undone copied h =
    subst (λ (c : Claim). MayWork c.theory c.statement w p) (sym e)
    (record {
      work = copied going.claim.value.theory going.claim.value.statement p h.work;
      reached = h.reached;
      undone = end_of _ _ going.work.store going.work.draft p h.work.draft ∙ undone;
    })

-- what was made of a copy takes its place
pub made_on_copy : (going : Going) (w : Work) (claim : Claim) (p : Proof) (a : Result Proof Code)
    → claim ≡ going.claim.value → Makes claim.theory claim.statement w p a
    → MakesFor (record going { work = w }) p a
made_on_copy going w claim p a e h = subst (λ (c : Claim). Makes c.theory c.statement w p a) e h

-- ---- whether marks wait, and whether the proof is done

pub quiet_of : (going : Going) (p : Proof) (b : Bool) → b ≡ (vec_len going.work.draft.waiting == 0) → Works going p
    → is_quiet p.waiting ≡ b
quiet_of going p b e w =
    let t = going.claim.value.theory in let s = going.claim.value.statement in
    quiet_so going.work.draft.waiting p.waiting b e
    (counts_of t s going.work.store going.work.draft p w.work.draft).1.0

pub done_of : (going : Going) (p : Proof) → Works going p → p.is_proved ≡ going.work.draft.is_proved
done_of going p w =
    end_of going.claim.value.theory going.claim.value.statement going.work.store going.work.draft p w.work.draft

-- ---- answers

pub marked_made : {A E : Type 0} (going : Going) (d : Draft) (k : CommandKind) (b : Bool) (r : Result A E)
    → k ≡ command.Mark b
    → OnOk r ((t : Theory) (s : Statement) (store : List Numbered) (p : Proof)
    → IsProofOf t s store going.work.draft p → Leads t s store d p None (mark_command b p))
    → OnOk r ((p : Proof) → Works going p
    → MakesFor (record going { work = record going.work { draft = d } }) p (by_kind k p))
marked_made going d k b (Ok x) e h = λ p w.
    subst (λ j. MakesFor (record going { work = record going.work { draft = d } }) p (by_kind j p)) (sym e)
    (made_in_draft going d p (mark_command b p) w
    (h going.claim.value.theory going.claim.value.statement going.work.store p w.work.draft))
marked_made going d k b (Err x) e h = tt

pub marked_told : {A : Type 0} (going : Going) (k : CommandKind) (b : Bool) (r : Result A CommandRefusal)
    → k ≡ command.Mark b
    → IfErr r (λ refusal. (t : Theory) (s : Statement) (store : List Numbered) (p : Proof)
    → IsProofOf t s store going.work.draft p → Tells (mark_command b p) refusal)
    → IfErr r (λ refusal. (p : Proof) → Works going p → Tells (by_kind k p) refusal)
marked_told going k b (Ok x) e h = tt
marked_told going k b (Err x) e h = λ p w.
    subst (λ j. Tells (by_kind j p) x) (sym e)
    (h going.claim.value.theory going.claim.value.statement going.work.store p w.work.draft)

pub ended_made : {A E : Type 0} (going : Going) (k : CommandKind) (r : Result A E) → k ≡ command.Qed
    → OnOk r ((p : Proof) → Works going p → by_kind command.Qed p ≡ Ok p)
    → OnOk r ((p : Proof) → Works going p → MakesFor going p (by_kind k p))
ended_made going k (Ok x) e h = λ p w.
    subst (λ j. MakesFor going p (by_kind j p)) (sym e) (made_same going command.Qed p w (h p w))
ended_made going k (Err x) e h = tt

-- what is made of one command, or told of it, is so of the same
pub made_of : {A E : Type 0} (going made : Going) (k j : CommandKind) (r : Result A E) → k ≡ j
    → OnOk r ((p : Proof) → Works going p → MakesFor made p (by_kind j p))
    → OnOk r ((p : Proof) → Works going p → MakesFor made p (by_kind k p))
made_of going made k j r e h =
    subst (λ x. OnOk r ((p : Proof) → Works going p → MakesFor made p (by_kind x p))) (sym e) h

pub told_of : {A : Type 0} (going : Going) (k j : CommandKind) (r : Result A CommandRefusal) → k ≡ j
    → IfErr r (λ refusal. (p : Proof) → Works going p → Tells (by_kind j p) refusal)
    → IfErr r (λ refusal. (p : Proof) → Works going p → Tells (by_kind k p) refusal)
told_of going k j r e h =
    subst (λ x. IfErr r (λ refusal. (p : Proof) → Works going p → Tells (by_kind x p) refusal)) (sym e) h

-- what a command in its turn makes, and what is told of it
pub turn_made : {A E : Type 0} (going made : Going) (k : CommandKind) (r : Result A E)
    → ((p : Proof) → Works going p → by_kind k p ≡ carried_out k p)
    → OnOk r ((p : Proof) → Works going p → MakesFor made p (carried_out k p))
    → OnOk r ((p : Proof) → Works going p → MakesFor made p (by_kind k p))
turn_made going made k (Ok x) e h = λ p w. subst (λ a. MakesFor made p a) (sym (e p w)) (h p w)
turn_made going made k (Err x) e h = tt

pub turn_told : {A : Type 0} (going : Going) (k : CommandKind) (r : Result A CommandRefusal)
    → ((p : Proof) → Works going p → by_kind k p ≡ carried_out k p)
    → IfErr r (λ refusal. (p : Proof) → Works going p → Tells (carried_out k p) refusal)
    → IfErr r (λ refusal. (p : Proof) → Works going p → Tells (by_kind k p) refusal)
turn_told going k (Ok x) e h = tt
turn_told going k (Err x) e h = λ p w. told_as (by_kind k p) (carried_out k p) x (e p w) (h p w)

pub settings_made : {A E : Type 0} (going : Going) (settings : Settings) (k : CommandKind) (r : Result A E)
    → OnOk r ((p : Proof) → AreSettingsOf going.work.settings p → carried_out k p ≡ Ok (with_settings settings p))
    → OnOk r ((p : Proof) → AreSettingsOf going.work.settings p → AreSettingsOf settings (with_settings settings p))
    → OnOk r ((p : Proof) → Works going p
    → MakesFor (record going { work = record going.work { settings = settings } }) p (carried_out k p))
settings_made going settings k (Ok x) h a = λ p w.
    made_in_settings going settings p (carried_out k p) w (h p w.work.settings) (a p w.work.settings)
settings_made going settings k (Err x) h a = tt

pub settings_told : {A : Type 0} (going : Going) (k : CommandKind) (r : Result A CommandRefusal)
    → IfErr r (λ refusal. (p : Proof) → AreSettingsOf going.work.settings p → Tells (carried_out k p) refusal)
    → IfErr r (λ refusal. (p : Proof) → Works going p → Tells (carried_out k p) refusal)
settings_told going k (Ok x) h = tt
settings_told going k (Err x) h = λ p w. h p w.work.settings

-- ---- arms of a match

-- what is made of one command is made of the same
pub made_as : {A E : Type 0} (t : Theory) (s : Statement) (old new : Work) (k j : CommandKind) (r : Result A E) → k ≡ j
    → OnOk r ((p : Proof) → MayWork t s old p → Makes t s new p (carried_out j p))
    → OnOk r ((p : Proof) → MayWork t s old p → Makes t s new p (carried_out k p))
made_as t s old new k j r e h =
    subst (λ x. OnOk r ((p : Proof) → MayWork t s old p → Makes t s new p (carried_out x p))) (sym e) h

pub refused_as : {A : Type 0} (t : Theory) (s : Statement) (old : Work) (k j : CommandKind)
    (r : Result A CommandRefusal) → k ≡ j
    → IfErr r (λ refusal. (p : Proof) → MayWork t s old p → Tells (carried_out j p) refusal)
    → IfErr r (λ refusal. (p : Proof) → MayWork t s old p → Tells (carried_out k p) refusal)
refused_as t s old k j r e h =
    subst (λ x. IfErr r (λ refusal. (p : Proof) → MayWork t s old p → Tells (carried_out x p) refusal)) (sym e) h

-- ---- copies

-- a copy goes on as what was copied
pub copied_going : (going made : Going) (s : Statement) (p : Proof) → made.claim.value ≡ going.claim.value
    → ((t : Theory) (s : Statement) (q : Proof) → IsWorkOf t s going.work q → IsWorkOf t s made.work q)
    → made.commands ≡ going.commands → IsGoingFor s going p → IsGoingFor s made p
copied_going going made s p e copied n g = record {
  statement = ap (λ (c : Claim). c.statement) e ∙ g.statement;
  claimed = subst (λ (c : Claim). IsProvable c.theory c.statement) (sym e) g.claimed;
  works = record {
    work = subst (λ (c : Claim). IsWorkOf c.theory c.statement made.work p) (sym e)
        (copied going.claim.value.theory going.claim.value.statement p g.works.work);
    reached = g.works.reached;
  };
  commands = n ∙ g.commands;
}
