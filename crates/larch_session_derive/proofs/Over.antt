-- The state of a duty that is proved is one of a proof over its theory with its lemmas.
use Rattle.std.proofs.Common.{◌≡◌, refl, sym, ap₂, subst, ◌∙◌, ℕ, if◌then◌else◌, Bool, true, false, List, [], ◌∷◌, ◌++◌}
use Rattle.std.proofs.Common.{map, Contains, Result, Ok, Err}
use Rattle.std.proofs.lemmas.List.{append_assoc, append-nil}
use Rattle.std.proofs.lemmas.List.Elements.{All-contains}
use Rattle.larch_base.proofs.Members.{contained_in_map, contains_here, contains_left, contains_map, contains_right}
use Rattle.larch_calculus.specs.Theories.{with_statements}
use Rattle.larch_session_replay.specs.ProveState.{IsStateOf, told_outcome}
use Rattle.larch_session_replay.specs.ProveInvariantHolding.{theory_for}
use Rattle.larch_prove_meaning.specs.Levels.{EarlierDuty, Proof}
use Rattle.larch_prove_meaning.specs.Replays.{Outcome, Proved, Refusal, Refused, Suspended, outcome_of}
use Rattle.larch_prove_meaning.specs.Reports.{Answered, commands_in, is_proved, lemmas_for, replayed_for}
use Rattle.larch_prove_meaning.specs.Scripts.{ClaimedDuty, block_of, commands_of}
use Rattle.larch_prove_meaning.specs.WellSorted.{IsWellSortedDuty}
use Rattle.larch_script_commands.specs.declared.script.Script.{Script}
use Rattle.larch_session_derive.specs.Parts.{AreReplayed, HasCertificate}
use Rattle.larch_session_derive_meaning.specs.SessionLawCertified.{with_lemmas}
use Rattle.larch_session_derive_meaning.specs.SessionLawClaims.{AreClaims, IsClaim}
use Rattle.larch_session_derive_meaning.proofs.SessionLawBegun.{replayed_has}
use Rattle.larch_session_derive_meaning.proofs.SessionLawLemmas.{lemmas_over}
use Rattle.larch_session_derive_meaning.specs.SessionMeaningTraits.{script_duty}
use Rattle.larch_session_replay.specs.Replayed.{AreReplays, IsReplay, answer_of, come_to}
use Rattle.larch_session_replay.specs.declared.replayed.Replayed.{Replayed}
use Rattle.larch_term.specs.Tree.{Tree}
use Rattle.larch_term.specs.declared.statement.Theory.{Theory}

-- behind these earlier ones, the state is one of a proof that is done, over the theory with the lemmas
pub record IsOver (r : Replayed) (earlier : List Answered) : Type 0 where
  pub proof : Proof
  pub is_state : IsStateOf r.claim.statement r.state (Ok proof)
  pub done : proof.is_proved ≡ true
  pub theory : theory_for proof ≡ with_lemmas r.claim.theory (lemmas_for (script_duty r.claim) earlier)

pub proved_is : (o : Outcome) → is_proved o ≡ true → o ≡ Proved
proved_is Proved e = refl
proved_is (Suspended n g) e = absurd (cc)
proved_is (Refused r) e = absurd (cc)

ended : (b : Bool) (n : ℕ) (goal : Tree) → (if b then Proved else Suspended n goal) ≡ Proved → b ≡ true
ended true n goal e = refl
ended false n goal e = absurd (cc)

module _ (duties : List ClaimedDuty) (claims : AreClaims duties) (limit : ℕ) (script : Script) where
  abbrev Among : List Answered → Type 0
  Among answers = (a : Answered) → Contains answers a → Contains duties a.duty

  well_sorted : (earlier : List Answered) → Among earlier → (d : ClaimedDuty) → Contains duties d
      → IsWellSortedDuty (replayed_for d earlier)
  well_sorted earlier among d i =
      let own = All-contains IsClaim duties d claims.each i in
      record {
        theory = own.theory;
        statement = own.statement;
        lemmas = lemmas_over duties claims earlier among d i;
      }

  by_answer : (earlier : List Answered) → Among earlier → (r : Replayed) → Contains duties (script_duty r.claim)
      → (answer : Result Proof Refusal) → come_to limit script earlier (script_duty r.claim) ≡ answer
      → IsStateOf r.claim.statement r.state answer → outcome_of answer ≡ Proved → IsOver r earlier
  by_answer earlier among r i (Ok p) e h o =
      let d : ClaimedDuty = script_duty r.claim in
      let has = replayed_has (replayed_for d earlier) limit (commands_of script.preamble)
      (commands_of (commands_in (block_of script d.label))) p (well_sorted earlier among d i) e in
      record {
        proof = p;
        is_state = h;
        done = ended p.is_proved _ _ o;
        theory = ap₂ (λ (t : Theory) (ls : List EarlierDuty). with_statements t
            (map (λ (l : EarlierDuty). l.statement) ls)) has.0 has.1;
      }
  by_answer earlier among r i (Err x) e h o = absurd (cc)

  over : (earlier : List Answered) → Among earlier → (r : Replayed) → Contains duties (script_duty r.claim)
      → IsReplay limit script earlier r → is_proved (told_outcome r.outcome) ≡ true → IsOver r earlier
  over earlier among r i h e =
      by_answer earlier among r i (come_to limit script earlier (script_duty r.claim)) refl h.state
      (sym h.outcome ∙ proved_is (told_outcome r.outcome) e)

replay_at : (limit : ℕ) (script : Script) (earlier : List Answered) (before : List Replayed) (r : Replayed)
    (rest : List Replayed) → AreReplays limit script earlier (before ++ r ∷ rest)
    → IsReplay limit script (earlier ++ map answer_of before) r
replay_at limit script earlier [] r rest h =
    subst (λ xs. IsReplay limit script xs r) (sym (append-nil earlier)) h.0
replay_at limit script earlier (b ∷ before) r rest h =
    subst (λ xs. IsReplay limit script xs r) (append_assoc earlier (answer_of b ∷ []) (map answer_of before))
    (replay_at limit script (earlier ++ answer_of b ∷ []) before r rest h.1)

-- ---- among all duties of the trait

module _ (rs before rest : List Replayed) (r : Replayed) (all : AreReplayed rs) (is : rs ≡ before ++ r ∷ rest) where
  abbrev duties_in : List ClaimedDuty
  duties_in = map (λ (q : Replayed). (answer_of q).duty) rs

  pub own_there : Contains duties_in (script_duty r.claim)
  own_there =
      contains_map (λ (q : Replayed). (answer_of q).duty) rs r
      (subst (λ xs. Contains xs r) (sym is) (contains_right before (r ∷ rest) r (contains_here r rest)))

  earlier_there : (a : Answered) → Contains (map answer_of before) a → Contains duties_in a.duty
  earlier_there a c =
      let q = contained_in_map answer_of before a c in
      subst (λ (x : Answered). Contains duties_in x.duty) q.2
      (contains_map (λ (p : Replayed). (answer_of p).duty) rs q.0
      (subst (λ xs. Contains xs q.0) (sym is) (contains_left before (r ∷ rest) q.0 q.1)))

  pub over_at : is_proved (told_outcome r.outcome) ≡ true → IsOver r (map answer_of before)
  over_at e =
      over duties_in all.claims all.limit all.script (map answer_of before) earlier_there r own_there
      (replay_at all.limit all.script [] before r rest (subst (AreReplays all.limit all.script []) is all.replays)) e

  pub has_certificate : HasCertificate r
  has_certificate e = let o = over_at e in (r.claim.statement, (o.proof, (o.is_state, o.done)))
