-- The state of a duty that is proved has a certificate of it.
use Rattle.std.proofs.Common.{◌≡◌, refl, sym, ap₂, subst, ◌∙◌, ℕ, if◌then◌else◌, Bool, true, false, List, []}
use Rattle.std.proofs.Common.{◌∷◌, ◌++◌, map, All, Contains, Result, Ok, Err}
use Rattle.std.proofs.lemmas.List.Elements.{All-contains, All-push}
use Rattle.larch_base.proofs.Lists.{all_from}
use Rattle.larch_base.proofs.Members.{contains_here, contains_later, contains_map, contains_none}
use Rattle.larch_calculus.specs.Theories.{with_statements}
use Rattle.larch_certificate.specs.declared.line.Line.{Line}
use Rattle.larch_prove.specs.DeriveFinished.{IsFinished}
use Rattle.larch_prove.specs.State.{IsStateOf, told_outcome}
use Rattle.larch_prove.specs.declared.state.ProofState.{ProofState}
use Rattle.larch_prove_meaning.specs.Levels.{EarlierDuty, Proof}
use Rattle.larch_prove_meaning.specs.Replays.{Outcome, Proved, Refusal, Suspended, outcome_of, replay_block}
use Rattle.larch_prove_meaning.specs.Reports.{Answered, commands_in, lemmas_for, replayed_for}
use Rattle.larch_prove_meaning.specs.Scripts.{ClaimedDuty, block_of, commands_of}
use Rattle.larch_prove_meaning.specs.WellSorted.{IsWellSortedDuty}
use Rattle.larch_script_commands.specs.declared.script.Script.{Script}
use Rattle.larch_session_sources.specs.SessionLawCertified.{AreCertified, IsCertified, with_lemmas}
use Rattle.larch_session_sources.specs.SessionLawClaims.{AreClaims, IsClaim}
use Rattle.larch_session_sources.proofs.SessionLawBegun.{replayed_has}
use Rattle.larch_session_sources.proofs.SessionLawLemmas.{lemmas_over}
use Rattle.larch_session_blocks.specs.SessionMeaningTraits.{script_duty}
use Rattle.larch_session_replay.proofs.Stated.{state_lines}
use Rattle.larch_session_replay.specs.Replayed.{AreReplays, IsReplay, answer_of, come_to}
use Rattle.larch_session_replay.specs.declared.replayed.Replayed.{Replayed}
use Rattle.larch_term.specs.Tree.{Tree}
use Rattle.larch_term.specs.declared.statement.Statement.{Statement}
use Rattle.larch_term.specs.declared.statement.Theory.{Theory}

ended : (b : Bool) (n : ℕ) (goal : Tree) → (if b then Proved else Suspended n goal) ≡ Proved → b ≡ true
ended true n goal e = refl
ended false n goal e = absurd (cc)

module _ (duties : List ClaimedDuty) (claims : AreClaims duties) (limit : ℕ) (script : Script) where
  abbrev Among : List Answered → Type 0
  Among answers = (a : Answered) → Contains answers a → Contains duties a.duty

  well_sorted : (earlier : List Answered) → Among earlier → (d : ClaimedDuty) → Contains duties d
      → IsWellSortedDuty (replayed_for d earlier)
  well_sorted earlier among d i =
      let own = All-contains IsClaim duties d claims.each i in
      record {
        theory = own.theory;
        statement = own.statement;
        lemmas = lemmas_over duties claims earlier among d i;
      }

  by_answer : (earlier : List Answered) → Among earlier → (d : ClaimedDuty) → Contains duties d → (state : ProofState)
      → (answer : Result Proof Refusal) → come_to limit script earlier d ≡ answer → IsStateOf d.statement state answer
      → outcome_of answer ≡ Proved
      → (lines : List Line) × IsFinished (with_lemmas d.theory (lemmas_for d earlier)) d.statement lines
  by_answer earlier among d i state (Ok p) e h o =
      let found = state_lines d.statement p state h (ended p.is_proved _ _ o) in
      let has = replayed_has (replayed_for d earlier) limit (commands_of script.preamble)
      (commands_of (commands_in (block_of script d.label))) p (well_sorted earlier among d i) e in (
        found.0,
        subst (λ (t : Theory). IsFinished t d.statement found.0)
            (ap₂ (λ (t : Theory) (ls : List EarlierDuty). with_statements t (map (λ (l : EarlierDuty). l.statement) ls))
            has.0 has.1)
            found.1,
      )
  by_answer earlier among d i state (Err r) e h o = absurd (cc)

  certified : (earlier : List Answered) → Among earlier → (r : Replayed) → Contains duties (script_duty r.claim)
      → IsReplay limit script earlier r → IsCertified earlier (answer_of r)
  certified earlier among r i h e =
      by_answer earlier among (script_duty r.claim) i r.state (come_to limit script earlier (script_duty r.claim)) refl
      h.state (sym h.outcome ∙ e)

  among_more : (earlier : List Answered) (a : Answered) → Among earlier → Contains duties a.duty
      → Among (earlier ++ a ∷ [])
  among_more earlier a among d =
      let all = All-push (λ (x : Answered). Contains duties x.duty) earlier a
      (all_from (λ (x : Answered). Contains duties x.duty) earlier among) d in
      λ x c. All-contains (λ (y : Answered). Contains duties y.duty) (earlier ++ a ∷ []) x all c

  pub all_certified : (earlier : List Answered) (rs : List Replayed) → Among earlier
      → ((r : Replayed) → Contains rs r → Contains duties (script_duty r.claim)) → AreReplays limit script earlier rs
      → AreCertified earlier (map answer_of rs)
  all_certified earlier [] among there h = tt
  all_certified earlier (r ∷ rs) among there h =
      let d = there r (contains_here r rs) in (
        certified earlier among r d h.0,
        all_certified (earlier ++ answer_of r ∷ []) rs (among_more earlier (answer_of r) among d)
            (λ q c. there q (contains_later r q rs c)) h.1,
      )

pub replays_certified : (limit : ℕ) (script : Script) (rs : List Replayed)
    → AreClaims (map (λ r. (answer_of r).duty) rs) → AreReplays limit script [] rs
    → AreCertified [] (map answer_of rs)
replays_certified limit script rs claims h =
    all_certified (map (λ r. (answer_of r).duty) rs) claims limit script [] rs (λ a c. absurd (contains_none a c))
    (λ r c. contains_map (λ (q : Replayed). (answer_of q).duty) rs r c) h
