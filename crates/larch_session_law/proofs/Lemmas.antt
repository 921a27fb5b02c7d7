-- The lemmas of a duty: earlier duties that are proved.
use Rattle.std.specs.Prelude.{◌≡◌, ◌&&◌, ℕ, Bool, true, false, List, map, filter, All, Contains, refl}
use Rattle.std.proofs.Common.{ap, inl, inr, subst}
use Rattle.std.proofs.lemmas.List.Elements.{All-contains}
use Rattle.larch_base.proofs.Bools.{both_true}
use Rattle.larch_base.proofs.Lists.{all_from}
use Rattle.larch_base.proofs.Members.{contained_in_filter, contained_in_map}
use Rattle.larch_calculus.specs.Theories.{IsIncluded}
use Rattle.larch_calculus.proofs.Sorted.{statement_over_more}
use Rattle.larch_prove_meaning.specs.InWords.{IsStatementInWords}
use Rattle.larch_prove_meaning.specs.Levels.{EarlierDuty}
use Rattle.larch_prove_meaning.specs.Replays.{Outcome, Proved, Suspended, Refused}
use Rattle.larch_prove_meaning.specs.Reports.{Answered, is_proved, lemmas_for, may_serve}
use Rattle.larch_prove_meaning.specs.Scripts.{ClaimedDuty}
use Rattle.larch_prove_meaning.specs.WellSorted.{AreLemmasOver}
use Rattle.larch_session_law.specs.Claims.{AreClaims, IsClaim}
use Rattle.larch_term.specs.Operator.{PlainOperator}
use Rattle.larch_term.specs.Sorts.{IsKnown}
use Rattle.larch_term.specs.Statement.{IsStatementOver}
use Rattle.larch_term.specs.declared.statement.Statement.{Statement}

-- a lemma of a duty is what an earlier one states that is proved and may serve it
pub record IsLemmaFrom (duty : ClaimedDuty) (earlier : List Answered) (l : EarlierDuty) : Type 0 where
  pub from : Answered
  pub there : Contains earlier from
  pub proved : from.outcome ≡ Proved
  pub serves : may_serve from.duty.clause duty.clause ≡ true
  pub states : from.duty.statement ≡ l.statement

proved_is : (o : Outcome) → is_proved o ≡ true → o ≡ Proved
proved_is Proved e = refl
proved_is (Suspended n g) e = absurd (cc)
proved_is (Refused r) e = absurd (cc)

pub lemma_from : (duty : ClaimedDuty) (earlier : List Answered) (l : EarlierDuty)
    → Contains (lemmas_for duty earlier) l → IsLemmaFrom duty earlier l
lemma_from duty earlier l c =
    let test : Answered → Bool = λ a. is_proved a.outcome && may_serve a.duty.clause duty.clause in
    let m = contained_in_map (λ (a : Answered). record { number = a.number; statement = a.duty.statement })
    (filter test earlier) l c in
    let f = contained_in_filter test earlier m.0 m.1 in
    let b = both_true (is_proved m.0.outcome) (may_serve m.0.duty.clause duty.clause) f.1 in
    record {
      from = m.0;
      there = f.0;
      proved = proved_is m.0.outcome b.0;
      serves = b.1;
      states = ap (λ (x : EarlierDuty). x.statement) m.2;
    }

-- what is known of one theory's operators is known of those of a theory of which it is part
knows_included : (fs gs : List PlainOperator) → ((f : PlainOperator) → Contains fs f → Contains gs f)
    → (f : PlainOperator) → IsKnown fs f → IsKnown gs f
knows_included fs gs h f (inl c) = inl (h f c)
knows_included fs gs h f (inr b) = inr b

module _ (duties : List ClaimedDuty) (claims : AreClaims duties) (earlier : List Answered)
    (among : (a : Answered) → Contains earlier a → Contains duties a.duty) where
  claim_of : (a : Answered) → Contains earlier a → IsClaim a.duty
  claim_of a c = All-contains IsClaim duties a.duty claims.each (among a c)

  -- lemmas are well sorted over the operators of the duty's theory
  pub lemmas_over : (duty : ClaimedDuty) → Contains duties duty
      → AreLemmasOver duty.theory.operators (lemmas_for duty earlier)
  lemmas_over duty d =
      all_from (λ l. IsStatementOver duty.theory.operators l.statement) (lemmas_for duty earlier)
      (λ l c. over l (lemma_from duty earlier l c))
    where
      over : (l : EarlierDuty) → IsLemmaFrom duty earlier l → IsStatementOver duty.theory.operators l.statement
      over l h =
          let i = claims.serve h.from.duty duty (among h.from h.there) d h.serves in
          subst (IsStatementOver duty.theory.operators) h.states
          (statement_over_more h.from.duty.theory.operators duty.theory.operators
          (knows_included h.from.duty.theory.operators duty.theory.operators i.operators) h.from.duty.statement
          (claim_of h.from h.there).statement)

  -- and in words
  pub lemmas_worded : (duty : ClaimedDuty) → All (λ l. IsStatementInWords l.statement) (lemmas_for duty earlier)
  lemmas_worded duty =
      all_from (λ l. IsStatementInWords l.statement) (lemmas_for duty earlier)
      (λ l c. worded l (lemma_from duty earlier l c))
    where
      worded : (l : EarlierDuty) → IsLemmaFrom duty earlier l → IsStatementInWords l.statement
      worded l h = subst IsStatementInWords h.states (claim_of h.from h.there).words
