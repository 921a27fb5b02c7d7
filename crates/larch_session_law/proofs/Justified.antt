-- What is proved by lemmas that are derivable is derivable.
use Rattle.std.specs.Prelude.{◌≡◌, suc, true, List, [], ◌∷◌, ◌++◌, map, All, Contains}
use Rattle.std.proofs.Common.{arith, subst}
use Rattle.std.proofs.lemmas.List.Elements.{All-cons, All-contains, All-nil, All-push, All-weaker}
use Rattle.larch_base.proofs.Lists.{all_from}
use Rattle.larch_base.proofs.Members.{contained_in_map, contains_map, contains_none}
use Rattle.larch_calculus.specs.Derivable.{Derivable, weaken}
use Rattle.larch_calculus.proofs.DerivedRules.{cut_statements}
use Rattle.larch_calculus.proofs.Sorted.{with_statements_well_sorted}
use Rattle.larch_calculus.proofs.WellSorted.{well_sorted}
use Rattle.larch_prove_meaning.specs.Levels.{EarlierDuty}
use Rattle.larch_prove_meaning.specs.Reports.{Answered, lemmas_for}
use Rattle.larch_prove_meaning.specs.Scripts.{ClaimedDuty}
use Rattle.larch_session_law.specs.Certified.{AreCertified, IsCertified, IsJustified, with_lemmas}
use Rattle.larch_session_law.specs.Claims.{AreClaims, IsClaim}
use Rattle.larch_session_law.proofs.Lemmas.{IsLemmaFrom, lemma_from}
use Rattle.larch_term.specs.Statement.{IsStatementOver}
use Rattle.larch_term.specs.declared.statement.Statement.{Statement}
use Rattle.larch_verify_law.proofs.Accepted.{accepted_derivable}

module _ (duties : List ClaimedDuty) (claims : AreClaims duties) where
  -- each of these is among the duties
  abbrev Among : List Answered → Type 0
  Among answers = (a : Answered) → Contains answers a → Contains duties a.duty

  lemma_derivable : (earlier : List Answered) → Among earlier → All IsJustified earlier → (duty : ClaimedDuty)
      → Contains duties duty → (l : EarlierDuty) → IsLemmaFrom duty earlier l → Derivable duty.theory l.statement
  lemma_derivable earlier among just duty d l h =
      let there = among h.from h.there in
      let own = All-contains IsClaim duties h.from.duty claims.each there in
      subst (Derivable duty.theory) h.states
      (weaken own.theory (claims.serve h.from.duty duty there d h.serves)
      (All-contains IsJustified earlier h.from just h.there h.proved))

  lemmas_derivable : (earlier : List Answered) → Among earlier → All IsJustified earlier → (duty : ClaimedDuty)
      → Contains duties duty
      → All (Derivable duty.theory) (map (λ (l : EarlierDuty). l.statement) (lemmas_for duty earlier))
  lemmas_derivable earlier among just duty d =
      all_from (Derivable duty.theory) (map (λ (l : EarlierDuty). l.statement) (lemmas_for duty earlier)) (λ s c.
      let m = contained_in_map (λ (l : EarlierDuty). l.statement) (lemmas_for duty earlier) s c in
      subst (Derivable duty.theory) m.2
      (lemma_derivable earlier among just duty d m.0 (lemma_from duty earlier m.0 m.1)))

  certified_is_justified : (earlier : List Answered) → Among earlier → All IsJustified earlier → (a : Answered)
      → Contains duties a.duty → IsCertified earlier a → IsJustified a
  certified_is_justified earlier among just a d h e =
      let own = All-contains IsClaim duties a.duty claims.each d in
      let t = a.duty.theory in
      let ss : List Statement = map (λ (l : EarlierDuty). l.statement) (lemmas_for a.duty earlier) in
      let found = h e in
      let derived = lemmas_derivable earlier among just a.duty d in
      let sorted = with_statements_well_sorted t ss own.theory
      (All-weaker (Derivable t) (IsStatementOver t.operators) (λ r k. well_sorted k) ss derived) in
      cut_statements ss own.theory derived
      (accepted_derivable (with_lemmas t (lemmas_for a.duty earlier)) a.duty.statement found.0 sorted own.plain
      found.1.accepted)

  among_more : (earlier : List Answered) (a : Answered) → Among earlier → Contains duties a.duty
      → Among (earlier ++ a ∷ [])
  among_more earlier a among d =
      let all = All-push (λ (x : Answered). Contains duties x.duty) earlier a
      (all_from (λ (x : Answered). Contains duties x.duty) earlier among) d in
      λ x c. All-contains (λ (y : Answered). Contains duties y.duty) (earlier ++ a ∷ []) x all c

  all_justified : (earlier answers : List Answered) → Among earlier → All IsJustified earlier
      → All (λ a. Contains duties a.duty) answers → AreCertified earlier answers
      → All IsJustified answers
  all_justified earlier [] among just there h = All-nil IsJustified
  all_justified earlier (a ∷ answers) among just there h =
      let d = there 0 a (omega arith) in
      let own = certified_is_justified earlier among just a d h.0 in
      All-cons IsJustified a answers own
      (all_justified (earlier ++ a ∷ []) answers (among_more earlier a among d)
      (All-push IsJustified earlier a just own) (λ k e lt. there (suc k) e (omega arith)) h.1)

pub all_derivable : (answers : List Answered) → AreClaims (map (λ a. a.duty) answers) → AreCertified [] answers
    → All IsJustified answers
all_derivable answers claims h =
    let duties : List ClaimedDuty = map (λ (a : Answered). a.duty) answers in
    all_justified duties claims [] answers (λ a c. absurd (contains_none a c)) (All-nil IsJustified)
    (all_from (λ a. Contains duties a.duty) answers (λ a c. contains_map (λ (x : Answered). x.duty) answers a c)) h
