-- What a duty that can be replayed is opened from and to.
use Rattle.std.specs.Prelude.{◌≡◌, ◌++◌, ℕ, Bool, List, All, IfErr, IfOk, Result, Ok, Err, refl}
use Rattle.std.proofs.Common.{ap, ap₂, subst, sym, ◌∙◌}
use Rattle.std.proofs.lemmas.List.{append-nil}
use Rattle.std.proofs.lemmas.List.Elements.{All-append, All-map}
use Rattle.larch_base.specs.declared.code.Code.{Code}
use Rattle.larch_calculus.proofs.Sorted.{with_statements_well_sorted}
use Rattle.larch_calculus.specs.Theories.{with_statements}
use Rattle.larch_derive.specs.Words.{IsWordedTheory}
use Rattle.larch_order.specs.declared.precedence.Ranked.{Ranked}
use Rattle.larch_prove.specs.Begun.{AreOpenedSettings, IsBegunFor, IsClaimOf, IsFirstFor, IsOpened, IsWorkFor}
use Rattle.larch_prove.specs.Begun.{whole_of}
use Rattle.larch_prove.specs.Prepared.{CanReplay, IsPreparedFor, duty_of, prepared_proof}
use Rattle.larch_prove.specs.State.{IsNow, place_of}
use Rattle.larch_prove.specs.declared.duty.ProofDuty.{ProofDuty}
use Rattle.larch_prove.specs.declared.going.Going.{Going}
use Rattle.larch_prove.specs.declared.outcome.Place.{Place}
use Rattle.larch_prove.specs.declared.preparing.Prepared.{Prepared}
use Rattle.larch_prove.specs.declared.state.Stage.{Stage}
use Rattle.larch_prove.specs.declared.state.Stage.TheVariants as stage
use Rattle.larch_prove_beginning.specs.Beginning.{IsFirst, IsUnopened, unopened_proof}
use Rattle.larch_prove_beginning.specs.declared.duty.FirstDraft.{FirstDraft}
use Rattle.larch_prove_beginning.specs.declared.duty.Preamble.{Preamble}
use Rattle.larch_prove_beginning.specs.declared.duty.WholeDuty.{WholeDuty}
use Rattle.larch_prove_resuming.specs.ProveDraftDraft.{IsProofOf}
use Rattle.larch_prove_resuming.specs.ProveDraftProving.{IsProvable}
use Rattle.larch_prove_resuming.specs.ProveDraftDraftDraft.{Draft}
use Rattle.larch_prove_resuming.proofs.ProveInvariantReadWords.{theory_in_words}
use Rattle.larch_prove_resuming.specs.ProveInvariantHolding.{theory_for}
use Rattle.larch_prove_resuming.specs.ProveLevelsSupposing.{TellsCode}
use Rattle.larch_prove_meaning.proofs.OpeningNames.{begun_named}
use Rattle.larch_prove_meaning.proofs.OpeningSorts.{begun_sorted}
use Rattle.larch_prove_meaning.proofs.StepScopes.{begun_words}
use Rattle.larch_prove_meaning.specs.InWords.{IsStatementInWords}
use Rattle.larch_prove_meaning.specs.Levels.{EarlierDuty, Proof}
use Rattle.larch_prove_meaning.specs.Replays.{AtOpening, Refusal, all_prepared, begun_with, blank, duty_opened}
use Rattle.larch_prove_meaning.specs.Replays.{locate}
use Rattle.larch_prove_beginning.specs.ProveOpeningStating.{duties_of, what_state}
use Rattle.larch_prove_beginning.specs.ProveSettingsSettings.{AreSettingsOf}
use Rattle.larch_prove_resuming.specs.ProveWorkWork.{IsReached, IsWorkOf}
use Rattle.larch_prove_resuming.specs.ProveWorkWorkClaim.{Claim}
use Rattle.larch_prove_resuming.specs.ProveWorkWorkWork.{Work}
use Rattle.larch_script_commands.specs.Worded.{WordedKind}
use Rattle.larch_script_commands.specs.declared.command.CommandKind.{CommandKind}
use Rattle.larch_sorts_known.specs.Sorts.{existing_sorts}
use Rattle.larch_prove_resuming.specs.RewriteRefusalRewriteRefusal.{RewriteRefusal}
use Rattle.larch_sorts_meaning.specs.Scope.{Variables}
use Rattle.larch_store.specs.Numbered.{Numbered}
use Rattle.larch_term.specs.Operator.{PlainOperator}
use Rattle.larch_term.specs.Statement.{IsStatementOver}
use Rattle.larch_term.specs.declared.statement.Statement.{Statement}
use Rattle.larch_term.specs.declared.statement.Theory.{Theory}
use Rattle.larch_prove_resuming.proofs.TraitsItemsKept.{ok_inj}
use Rattle.larch_base_meaning.specs.Steps.{after}

-- ---- a duty

-- the theory with what the lemmas state is in words
pub whole_worded : (d : ProofDuty) → CanReplay d → IsWordedTheory (whole_of d)
whole_worded d h =
    theory_in_words (whole_of d) h.operators
    (All-append IsStatementInWords d.theory.now.statements (what_state (duties_of d.lemmas.now)) h.statements h.lemmas)

lemmas_over : (fs : List PlainOperator) (ls : List EarlierDuty)
    → All (λ (lemma : EarlierDuty). IsStatementOver fs lemma.statement) ls → All (IsStatementOver fs) (what_state ls)
lemmas_over fs ls h = All-map (IsStatementOver fs) (λ (lemma : EarlierDuty). lemma.statement) ls h

-- what is claimed of a duty can be proved
pub claim_provable : (d : ProofDuty) (claim : Claim) → CanReplay d → IsClaimOf d claim
    → IsProvable claim.theory claim.statement
claim_provable d claim h c =
    subst (λ (t : Theory). IsProvable t claim.statement) (sym c.theory)
    (subst (IsProvable (whole_of d)) (sym c.statement) (record {
      theory = with_statements_well_sorted d.theory.now (what_state (duties_of d.lemmas.now)) h.sorted.theory
          (lemmas_over d.theory.now.operators (duties_of d.lemmas.now) h.sorted.lemmas);
      statement = h.sorted.statement;
      named = h.named;
    }))

-- ---- the draft of a claim

module _ (d : ProofDuty) (claim : Claim) (w : WholeDuty) (m : Preamble) (store : List Numbered)
    (before ranks : List Ranked) (scope : Variables) (limit : ℕ) (checking : Bool) where
  -- a proof before its opening
  abbrev pub bare : Proof
  bare = unopened_proof (duty_of d) scope before limit checking

  opened_first : (first : FirstDraft) (q : Proof) → duty_opened w.statement.now bare ≡ Ok q
      → IsFirst w store first ranks bare q → w.whole.now ≡ claim.theory → w.statement.now ≡ d.statement.now
      → IsFirstFor d claim store first ranks limit (duty_opened d.statement.now bare)
  opened_first first q e i whole stated = record {
    made = q;
    is = ap (λ (s : Statement). duty_opened s bare) (sym stated) ∙ e;
    draft = subst (λ (t : Theory). IsProofOf t d.statement.now store first.draft q) whole
        (subst (λ (s : Statement). IsProofOf w.whole.now s store first.draft q) stated i.draft);
    constants = i.constants;
    scope = i.scope;
    ranks_are = i.ranks_are;
    theory = i.theory;
    lemmas = i.lemmas;
    limit_is = i.limit;
    commands = i.commands;
  }

  -- what is opened is a proof's
  pub claim_opened : {E : Type 0} (result : Result FirstDraft E)
      → IfOk result (λ first. (p : Proof) → IsUnopened w m before p
      → (q : Proof) × ((duty_opened w.statement.now p ≡ Ok q) × IsFirst w store first ranks p q))
      → IsUnopened w m before bare → w.whole.now ≡ claim.theory → w.statement.now ≡ d.statement.now
      → IfOk result (λ first. IsFirstFor d claim store first ranks limit (duty_opened d.statement.now bare))
  claim_opened (Ok first) h u whole stated =
      let o = h bare u in opened_first first o.0 o.1.0 o.1.1 whole stated
  claim_opened (Err x) h u whole stated = tt

  -- or a refusal tells why it isn't opened
  pub claim_refused : {A : Type 0} (result : Result A RewriteRefusal)
      → IfErr result (λ refusal. (p : Proof) → IsUnopened w m before p
      → TellsCode (duty_opened w.statement.now p) refusal)
      → IsUnopened w m before bare → w.statement.now ≡ d.statement.now
      → IfErr result (TellsCode (duty_opened d.statement.now bare))
  claim_refused (Ok first) h u stated = tt
  claim_refused (Err x) h u stated = subst (λ (s : Statement). TellsCode (duty_opened s bare) x) stated (h bare u)

-- ---- what is worked on behind the opening

module _ (d : ProofDuty) (prepared : Prepared) (claim : Claim) (first : FirstDraft) (ranks : List Ranked)
    (work : Work) (answer : Result Proof Code) (are : IsPreparedFor (duty_of d) prepared)
    (f : IsFirstFor d claim work.store first ranks prepared.settings.limit answer)
    (s : AreOpenedSettings prepared.settings first.constants first.scope ranks work.settings) where
  opened_operators : work.settings.signature.value ≡ f.made.theory.operators ++ f.made.constants
  opened_operators =
      s.named.operators
      ∙ (ap (λ fs. fs ++ first.constants) (are.operators ∙ append-nil d.theory.now.operators)
      ∙ ap₂ (λ (t : Theory) (cs : List PlainOperator). t.operators ++ cs) (sym f.theory) (sym f.constants))

  opened_settings : AreSettingsOf work.settings f.made
  opened_settings = record {
    operators = opened_operators;
    sorts = s.named.sorts ∙ (are.sorts ∙ ap (λ (t : Theory). existing_sorts t.operators) (sym f.theory));
    constants = s.named.constants ∙ (ap (λ fs. fs ++ first.constants) are.constants ∙ sym f.constants);
    scope = s.scope_is ∙ sym f.scope;
    ranks = s.ranks_are ∙ sym f.ranks_are;
    limit = s.named.limit ∙ sym f.limit_is;
  }

  opened_whole : theory_for f.made ≡ whole_of d
  opened_whole =
      ap₂ (λ (t : Theory) (ls : List EarlierDuty). with_statements t (what_state ls)) f.theory f.lemmas

  opened_draft : work.draft ≡ first.draft → IsClaimOf d claim
      → IsProofOf (whole_of d) d.statement.now work.store work.draft f.made
  opened_draft e c =
      subst (λ (t : Theory). IsProofOf t d.statement.now work.store work.draft f.made) c.theory
      (subst (λ (draft : Draft). IsProofOf claim.theory d.statement.now work.store draft f.made) (sym e) f.draft)

  -- a duty is opened to a proof, and what is worked on is of it
  pub started_so : work.draft ≡ first.draft → IsClaimOf d claim → IsWorkFor d answer work
  started_so draft c = record {
    made = f.made;
    is = f.is;
    work_is = record { whole = opened_whole; settings = opened_settings; draft = opened_draft draft c };
    commands = f.commands;
  }

-- so it is where the precedence is a copy of the preamble's
pub started_from : (d : ProofDuty) (prepared : Prepared) (claim : Claim) (first : FirstDraft)
    (before ranks : List Ranked) (store : List Numbered) (work : Work) → IsPreparedFor (duty_of d) prepared
    → IsClaimOf d claim → before ≡ prepared.settings.precedence.value
    → IsFirstFor d claim store first ranks prepared.settings.limit (duty_opened d.statement.now
    (unopened_proof (duty_of d) prepared.settings.scope.value before prepared.settings.limit prepared.checking))
    → work.store ≡ store → work.draft ≡ first.draft
    → AreOpenedSettings prepared.settings first.constants first.scope ranks work.settings
    → IsWorkFor d (duty_opened d.statement.now (prepared_proof (duty_of d) prepared)) work
started_from d prepared claim first before ranks store work are c e f stored draft s =
    let answer : List Ranked → Result Proof Code = λ rs. duty_opened d.statement.now
    (unopened_proof (duty_of d) prepared.settings.scope.value rs prepared.settings.limit prepared.checking) in
    started_so d prepared claim first ranks work (answer prepared.settings.precedence.value) are
    (subst (λ (x : List Numbered). IsFirstFor d claim x first ranks prepared.settings.limit
    (answer prepared.settings.precedence.value)) (sym stored)
    (subst (λ (rs : List Ranked). IsFirstFor d claim store first ranks prepared.settings.limit (answer rs)) e f))
    s draft c

pub told_from : (d : ProofDuty) (prepared : Prepared) (before : List Ranked) (x : RewriteRefusal)
    → before ≡ prepared.settings.precedence.value
    → TellsCode (duty_opened d.statement.now
    (unopened_proof (duty_of d) prepared.settings.scope.value before prepared.settings.limit prepared.checking)) x
    → TellsCode (duty_opened d.statement.now (prepared_proof (duty_of d) prepared)) x
told_from d prepared before x e h =
    subst (λ (rs : List Ranked). TellsCode (duty_opened d.statement.now
    (unopened_proof (duty_of d) prepared.settings.scope.value rs prepared.settings.limit prepared.checking)) x) e h

-- a duty is opened to a proof, and what goes on is of it
pub begun_so : (d : ProofDuty) (claim : Claim) (work : Work) (going : Going) (answer : Result Proof Code)
    → IsClaimOf d claim → IsWorkFor d answer work → going.claim.value ≡ claim → going.work ≡ work
    → going.commands ≡ 0 → IsBegunFor d answer going
begun_so d claim work going answer c w e same none = record {
  made = w.made;
  is = w.is;
  claim = subst (IsClaimOf d) (sym e) c;
  work = subst (λ (x : Work). IsWorkOf (whole_of d) d.statement.now x w.made) (sym same) w.work_is;
  commands = (none, w.commands);
}

-- ---- the stage

-- what goes on behind the opening
pub opened_so : (d : ProofDuty) (going : Going) (answer : Result Proof Code) → IsBegunFor d answer going
    → IsOpened d (locate AtOpening answer) (stage.Going going)
opened_so d going answer w =
    subst (λ (a : Result Proof Code). IsOpened d (locate AtOpening a) (stage.Going going)) (sym w.is)
    (record { made = w.made; is = refl; claim = w.claim; work = w.work; commands = w.commands })

-- ---- the state

module _ (d : ProofDuty) (limit : ℕ) (cs : List CommandKind) (h : CanReplay d) (ws : All WordedKind cs) where
  -- the proof is one that a replay reaches
  reached_so : (p : Proof) → begun_with (duty_of d) limit cs ≡ Ok p → IsReached p
  reached_so p e = record {
    sorted = begun_sorted (duty_of d) limit cs p h.sorted e;
    scope = begun_words (duty_of d) limit cs p h.statement ws e;
    named = begun_named (duty_of d) limit cs p h.numbers e;
  }

  work_claimed : (p : Proof) (going : Going) (o : IsBegunFor d (Ok p) going)
      → IsWorkOf going.claim.value.theory going.claim.value.statement going.work p
  work_claimed p going o =
      subst (λ (t : Theory). IsWorkOf t going.claim.value.statement going.work p) (sym o.claim.theory)
      (subst (λ (s : Statement). IsWorkOf (whole_of d) s going.work p) (sym o.claim.statement)
      (subst (λ (q : Proof). IsWorkOf (whole_of d) d.statement.now going.work q) (sym (ok_inj o.is)) o.work))

  now_by : (answer : Result Proof Refusal) (st : Stage) → begun_with (duty_of d) limit cs ≡ answer
      → IsOpened d answer st → IsNow d.statement.now st answer
  now_by (Ok p) (stage.Going going) e o = record {
    statement = o.claim.statement;
    claimed = claim_provable d going.claim.value h o.claim;
    works = record { work = work_claimed p going o; reached = reached_so p e };
    commands = o.commands.0 ∙ (sym o.commands.1 ∙ ap (λ (q : Proof). q.commands) (sym (ok_inj o.is)));
  }
  now_by (Ok p) (stage.Refused at code) e o = absurd o
  now_by (Err refused) (stage.Going going) e o = absurd o
  now_by (Err refused) (stage.Refused at code) e o = o

  -- where the preamble is carried out, the opening tells what has become of the duty
  pub opened_now : (p : Proof) (st : Stage) → all_prepared 1 cs (blank (duty_of d) limit) ≡ Ok p
      → IsOpened d (locate AtOpening (duty_opened d.statement.now p)) st
      → IsNow d.statement.now st (begun_with (duty_of d) limit cs)
  opened_now p st e o =
      let k : begun_with (duty_of d) limit cs ≡ locate AtOpening (duty_opened d.statement.now p) =
      ap (λ m. after m (λ (q : Proof). locate AtOpening (duty_opened d.statement.now q))) e in
      subst (IsNow d.statement.now st) (sym k)
      (now_by (locate AtOpening (duty_opened d.statement.now p)) st k o)

  -- where the preamble is refused, the duty is
  pub refused_now : (at : Place) (code : Code)
      → all_prepared 1 cs (blank (duty_of d) limit) ≡ Err (record { place = place_of at; code = code })
      → IsNow d.statement.now (stage.Refused at code) (begun_with (duty_of d) limit cs)
  refused_now at code e =
      subst (IsNow d.statement.now (stage.Refused at code))
      (sym (ap (λ m. after m (λ (q : Proof). locate AtOpening (duty_opened d.statement.now q))) e)) refl
