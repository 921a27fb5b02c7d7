-- Duties that are replayed one behind the other.
use Rattle.std.proofs.Common.{◌≡◌, ◌≢◌, refl, sym, ap, ap₂, subst, ◌∙◌, ℕ, suc, ◌+◌, ◌≤◌, ◌<◌, arith}
use Rattle.std.proofs.Common.{List, [], ◌∷◌, ◌++◌, map, length, All, Contains, Option, Some, None, Result}
use Rattle.std.specs.Prelude.{sum_by}
use Rattle.std.specs.List.{AllPairs}
use Rattle.std.proofs.lemmas.List.{append_assoc, append-nil, length-append, length-map, map-append}
use Rattle.std.proofs.lemmas.List.Elements.{All-contains, All-map, All-nil}
use Rattle.larch_base.specs.declared.label.Label.{Label}
use Rattle.larch_base.specs.declared.limits.TheConstants.{MAX_DUTIES}
use Rattle.larch_base.proofs.Lists.{map_map}
use Rattle.larch_base.proofs.Members.{contained_in_map, contains_here, contains_left, contains_map, contains_right}
use Rattle.larch_session_blocks.specs.DutiesMeaningClaims.{Claim}
use Rattle.larch_prove.specs.Prepared.{CanReplay}
use Rattle.larch_prove.specs.State.{IsStateOf, told_outcome}
use Rattle.larch_prove.specs.declared.duty.ProofDuty.{ProofDuty}
use Rattle.larch_prove.specs.declared.state.ProofState.{ProofState}
use Rattle.larch_prove_meaning.specs.InWords.{IsStatementInWords}
use Rattle.larch_prove_meaning.specs.Levels.{EarlierDuty, Proof}
use Rattle.larch_prove_meaning.specs.Named.{HaveDifferentNumbers}
use Rattle.larch_prove_meaning.specs.Replays.{Refusal, all_stepped, begun_with}
use Rattle.larch_prove_meaning.specs.Reports.{Answered, all_answered, commands_in, lemmas_for, outcome_for}
use Rattle.larch_prove_meaning.specs.Scripts.{ClaimedDuty, block_of, commands_of, same_label}
use Rattle.larch_prove_meaning.specs.WellSorted.{AreLemmasOver}
use Rattle.larch_prove_meaning.proofs.LemmaNumbers.{lemmas_apart, numbers_apart}
use Rattle.larch_prove.specs.ProveOpeningStating.{duties_of, what_state}
use Rattle.larch_script_commands.specs.Worded.{WordedBlock, WordedCommand, WordedScript}
use Rattle.larch_script_commands.specs.declared.command.RawCommand.{RawCommand}
use Rattle.larch_script_commands.specs.declared.script.Block.{Block}
use Rattle.larch_script_commands.specs.declared.script.Script.{Script}
use Rattle.larch_session_sources.specs.SessionLawClaims.{AreClaims, IsClaim}
use Rattle.larch_session_sources.proofs.SessionLawLemmas.{lemmas_over, lemmas_worded}
use Rattle.larch_session_blocks.specs.SessionMeaningTraits.{script_duty}
use Rattle.larch_session_replay.specs.Replayed.{AreReplays, CanFollow, IsReplay, answer_of, come_to}
use Rattle.larch_session_sources.specs.Steps.{block_steps}
use Rattle.larch_session_sources.specs.Steps.{script_steps}
use Rattle.larch_session_replay.specs.declared.replayed.Replayed.{Replayed}
use Rattle.larch_sorts_meaning.specs.Laws.{OperatorSorts}
use Rattle.larch_term.specs.Statement.{IsStatementOver}
use Rattle.larch_term.specs.declared.statement.Statement.{Statement}
use Rattle.larch_term.specs.declared.statement.Theory.{Theory}
use Rattle.larch_base_meaning.specs.Word.{IsWord}
use Rattle.larch_session_blocks.specs.TraitsItemsLaws.{NamesOwn}
use Rattle.larch_base_meaning.specs.Steps.{after}
use Rattle.larch_session_blocks.proofs.TraitsItemsKept.{found_is}

-- ---- what is answered

module _ (limit : ℕ) (script : Script) where
  -- a duty more
  answered_more : (earlier : List Answered) (k : ℕ) (ds : List ClaimedDuty) (d : ClaimedDuty)
      → all_answered limit script earlier k (ds ++ d ∷ [])
      ≡ all_answered limit script earlier k ds
      ++ record {
        number = k + length ds;
        duty = d;
        outcome = outcome_for limit script (all_answered limit script earlier k ds) d;
      } ∷ []
  answered_more earlier k [] d =
      ap (λ (n : ℕ). earlier ++ record { number = n; duty = d; outcome = outcome_for limit script earlier d } ∷ [])
      (omega arith)
  answered_more earlier k (e ∷ ds) d =
      let a : Answered = record { number = k; duty = e; outcome = outcome_for limit script earlier e } in
      let before = all_answered limit script (earlier ++ a ∷ []) (suc k) ds in
      answered_more (earlier ++ a ∷ []) (suc k) ds d
      ∙ ap (λ (n : ℕ). before ++ record { number = n; duty = d; outcome = outcome_for limit script before d } ∷ [])
      (omega arith)

  -- it is told of the duties in order
  pub answered_are : (earlier : List Answered) (k : ℕ) (ds : List ClaimedDuty)
      → map (λ (a : Answered). a.duty) (all_answered limit script earlier k ds)
      ≡ map (λ (a : Answered). a.duty) earlier ++ ds
  answered_are earlier k [] = sym (append-nil (map (λ (a : Answered). a.duty) earlier))
  answered_are earlier k (d ∷ ds) =
      let a : Answered = record { number = k; duty = d; outcome = outcome_for limit script earlier d } in
      answered_are (earlier ++ a ∷ []) (suc k) ds
      ∙ ap (λ xs. xs ++ ds) (map-append (λ (b : Answered). b.duty) earlier (a ∷ []))
      ∙ append_assoc (map (λ (b : Answered). b.duty) earlier) (d ∷ []) ds

  -- a duty behind others can be replayed
  pub can_follow : (all done rest : List ClaimedDuty) (d : ClaimedDuty) → AreClaims all → done ++ d ∷ rest ≡ all
      → CanFollow (all_answered limit script [] 1 done) d
  can_follow all done rest d claims e =
      let earlier = all_answered limit script [] 1 done in
      let there : Contains all d = subst (λ xs. Contains xs d) e
      (contains_right done (d ∷ rest) d (contains_here d rest)) in
      let among : (a : Answered) → Contains earlier a → Contains all a.duty =
      λ a c. subst (λ xs. Contains xs a.duty) e (contains_left done (d ∷ rest) a.duty
      (subst (λ xs. Contains xs a.duty) (answered_are [] 1 done)
      (contains_map (λ (b : Answered). b.duty) earlier a c))) in
      record {
        claim = All-contains IsClaim all d claims.each there;
        over = lemmas_over all claims earlier among d there;
        words = lemmas_worded all claims earlier among d;
        numbers = lemmas_apart d earlier (numbers_apart limit script done);
      }

  -- ---- one more

  pub replays_push : (earlier : List Answered) (rs : List Replayed) (r : Replayed)
      → AreReplays limit script earlier rs → IsReplay limit script (earlier ++ map answer_of rs) r
      → AreReplays limit script earlier (rs ++ r ∷ [])
  replays_push earlier [] r h k = (subst (λ xs. IsReplay limit script xs r) (append-nil earlier) k, tt)
  replays_push earlier (q ∷ rs) r h k = (
    h.0,
    replays_push (earlier ++ answer_of q ∷ []) rs r h.1
        (subst (λ xs. IsReplay limit script xs r)
        (sym (append_assoc earlier (answer_of q ∷ []) (map answer_of rs))) k),
  )

  -- the duties so far were replayed, and this is left of all
  pub record Progress (all rest : List Claim) (rs : List Replayed) : Type 0 where
    pub whole : map (λ (r : Replayed). r.claim) rs ++ rest ≡ all
    pub answers : map answer_of rs
        ≡ all_answered limit script [] 1 (map script_duty (map (λ (r : Replayed). r.claim) rs))
    pub replays : AreReplays limit script [] rs

  pub at_first : (all : List Claim) → Progress all all []
  at_first all = record { whole = refl; answers = refl; replays = tt }

  pub next_follows : (all rest : List Claim) (c : Claim) (rs : List Replayed) → AreClaims (map script_duty all)
      → Progress all (c ∷ rest) rs → CanFollow (map answer_of rs) (script_duty c)
  next_follows all rest c rs claims h =
      let done : List Claim = map (λ (r : Replayed). r.claim) rs in
      subst (λ xs. CanFollow xs (script_duty c)) (sym h.answers)
      (can_follow (map script_duty all) (map script_duty done) (map script_duty rest) (script_duty c) claims
      (sym (map-append script_duty done (c ∷ rest)) ∙ ap (map script_duty) h.whole))

  pub fewer : (all rest : List Claim) (c : Claim) (rs : List Replayed) → AreClaims (map script_duty all)
      → Progress all (c ∷ rest) rs → length rs < MAX_DUTIES
  fewer all rest c rs claims h =
      let done : List Claim = map (λ (r : Replayed). r.claim) rs in
      let a = length-map rs (λ (r : Replayed). r.claim) in
      let b = length-append done (c ∷ rest) in
      let l = ap length h.whole in
      let m = length-map all script_duty in
      let few = claims.few in
      omega (arith, a, b, l, m, few)

  pub one_more : (all rest : List Claim) (c : Claim) (rs : List Replayed) (r : Replayed)
      → Progress all (c ∷ rest) rs → r.claim ≡ c → r.number ≡ 1 + length rs
      → IsReplay limit script (map answer_of rs) r → Progress all rest (rs ++ r ∷ [])
  one_more all rest c rs r h is number replay =
      let done : List Claim = map (λ (x : Replayed). x.claim) rs in
      let now : List Claim = map (λ (x : Replayed). x.claim) (rs ++ r ∷ []) in
      let grown : now ≡ done ++ r.claim ∷ [] = map-append (λ (x : Replayed). x.claim) rs (r ∷ []) in
      let earlier = all_answered limit script [] 1 (map script_duty done) in
      let counted : r.number ≡ 1 + length (map script_duty done) =
      number ∙ ap (λ (n : ℕ). 1 + n) (sym (length-map done script_duty ∙ length-map rs (λ (x : Replayed). x.claim))) in
      let outcome : told_outcome r.outcome ≡ outcome_for limit script earlier (script_duty r.claim) =
      replay.outcome ∙ ap (λ xs. outcome_for limit script xs (script_duty r.claim)) h.answers in
      record {
        whole = ap (λ xs. xs ++ rest) (grown ∙ ap (λ x. done ++ x ∷ []) is) ∙ append_assoc done (c ∷ []) rest
            ∙ h.whole;
        answers = map-append answer_of rs (r ∷ [])
            ∙ ap₂ (λ xs (a : Answered). xs ++ a ∷ []) h.answers
            (ap₂ (λ (n : ℕ) o. record { number = n; duty = script_duty r.claim; outcome = o }) counted outcome)
            ∙ sym (answered_more [] 1 (map script_duty done) (script_duty r.claim))
            ∙ ap (all_answered limit script [] 1)
            (sym (map-append script_duty done (r.claim ∷ [])) ∙ sym (ap (map script_duty) grown));
        replays = replays_push [] rs r h.replays replay;
      }

  pub all_done : (all rest : List Claim) (rs : List Replayed) → rest ≡ [] → Progress all rest rs
      → map answer_of rs ≡ all_answered limit script [] 1 (map script_duty all)
  all_done all rest rs e h =
      let done : List Claim = map (λ (r : Replayed). r.claim) rs in
      h.answers ∙ ap (λ (xs : List Claim). all_answered limit script [] 1 (map script_duty xs))
      (sym (append-nil done) ∙ sym (ap (λ xs. done ++ xs) e) ∙ h.whole)

-- ---- one duty

-- a duty behind earlier ones can be replayed with its lemmas
pub can_replay : (d : ProofDuty) (c : ClaimedDuty) (earlier : List Answered) → CanFollow earlier c
    → d.theory.now ≡ c.theory → d.statement.now ≡ c.statement → duties_of d.lemmas.now ≡ lemmas_for c earlier
    → CanReplay d
can_replay d c earlier h t s ls =
    record {
      sorted = record {
        theory = subst (λ u. All (IsStatementOver u.operators) u.statements) (sym t) h.claim.theory;
        statement = subst (λ u. IsStatementOver u.operators d.statement.now) (sym t)
            (subst (IsStatementOver c.theory.operators) (sym s) h.claim.statement);
        lemmas = subst (λ u. AreLemmasOver u.operators (duties_of d.lemmas.now)) (sym t)
            (subst (AreLemmasOver c.theory.operators) (sym ls) h.over);
      };
      named = subst (λ u. NamesOwn u.operators d.statement.now) (sym t)
          (subst (NamesOwn c.theory.operators) (sym s) h.claim.named);
      operators = subst (λ u. All (OperatorSorts IsWord) u.operators) (sym t) h.claim.operators;
      statements = subst (λ u. All IsStatementInWords u.statements) (sym t) h.claim.statements;
      lemmas = subst (λ xs. All IsStatementInWords (what_state xs)) (sym ls)
          (All-map IsStatementInWords (λ (l : EarlierDuty). l.statement) (lemmas_for c earlier) h.words);
      statement = subst IsStatementInWords (sym s) h.claim.words;
      numbers = subst HaveDifferentNumbers (sym ls) h.numbers;
    }

-- the commands of a block are in words
pub worded_block : (script : Script) (label : Label) → WordedScript script
    → All WordedCommand (commands_in (block_of script label))
worded_block script label h = by (block_of script label) refl
  where
    by : (b : Option Block) → block_of script label ≡ b → All WordedCommand (commands_in b)
    by None e = All-nil WordedCommand
    by (Some b) e =
        All-contains WordedBlock script.blocks b h.1
        (found_is (λ (x : Block). same_label x.label label) script.blocks b e).0

-- from the opening of a duty to what its block comes to
pub reached : (limit : ℕ) (script : Script) (earlier : List Answered) (c : ClaimedDuty) (theory : Theory)
    (statement : Statement) (lemmas : List EarlierDuty) (preamble commands : List RawCommand) (first last : ProofState)
    → theory ≡ c.theory → statement ≡ c.statement → lemmas ≡ lemmas_for c earlier → preamble ≡ script.preamble
    → commands ≡ commands_in (block_of script c.label)
    → IsStateOf statement first
    (begun_with (record { theory = theory; statement = statement; lemmas = lemmas }) limit (commands_of preamble))
    → ((s : Statement) (answer : Result Proof Refusal) → IsStateOf s first answer
    → IsStateOf s last (after answer (all_stepped (commands_of commands))))
    → IsStateOf c.statement last (come_to limit script earlier c)
reached limit script earlier c theory statement lemmas preamble commands first last t s ls p q h f =
    let path : after (begun_with (record { theory = theory; statement = statement; lemmas = lemmas }) limit
    (commands_of preamble)) (all_stepped (commands_of commands)) ≡ come_to limit script earlier c =
    λ i. after (begun_with (record { theory = t i; statement = s i; lemmas = ls i }) limit (commands_of (p i)))
    (all_stepped (commands_of (q i))) in
    subst (λ (u : Statement). IsStateOf u last (come_to limit script earlier c)) s
    (subst (IsStateOf statement last) path (f statement _ h))

pub empty_list : {X : Type 0} (xs : List X) → length xs ≡ 0 → xs ≡ []
empty_list [] e = refl
empty_list (x ∷ xs) e = absurd (omega (arith, e))
