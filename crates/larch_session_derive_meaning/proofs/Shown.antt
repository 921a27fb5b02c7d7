-- What is derived is accepted for the duty that its text is verified for.
use Rattle.std.proofs.Common.{◌≡◌, refl, sym, ap, subst, ◌∙◌, ℕ, suc, ◌<◌, ◌^◌, Bool, true, List, [], ◌∷◌, ◌++◌, map}
use Rattle.std.proofs.Common.{All}
use Rattle.std.proofs.Common.{Contains, Option, Some, None, Result, Ok, Err}
use Rattle.std.specs.Prelude.{bytes_eq, find, option_map}
use Rattle.std.proofs.lemmas.List.{append_assoc, append-nil, map-append}
use Rattle.std.proofs.lemmas.List.Elements.{All-contains}
use Rattle.larch_base.proofs.Members.{contains_map}
use Rattle.larch_base.specs.Label.{label_text}
use Rattle.larch_base.specs.declared.label.Label.{Label}
use Rattle.larch_certificate.specs.declared.line.Line.{Line}
use Rattle.larch_certificate_text.proofs.CertificateLaws.{certificate_again}
use Rattle.larch_derive.specs.Finished.{IsFinished}
use Rattle.larch_session_law.specs.DutiesTraitDuties.{trait_claims}
use Rattle.larch_duties_meaning.specs.Claims.{Claim, claims_in, duty_of, same_label}
use Rattle.larch_duties_meaning.specs.Duties.{Duties, Duty, all_duties}
use Rattle.larch_duties_meaning.proofs.Claims.{all_are}
use Rattle.larch_flat_meaning.specs.Stops.{Stop}
use Rattle.larch_prove_meaning.specs.Reports.{Answered, all_answered, outcome_for}
use Rattle.larch_prove_meaning.specs.Scripts.{ClaimedDuty}
use Rattle.larch_script_commands.specs.declared.script.Script.{Script}
use Rattle.larch_session_derive_meaning.proofs.Finding.{find_by, find_in_map, made_from}
use Rattle.larch_session_derive_meaning.proofs.Labels.{number_of, same_numbers, same_text}
use Rattle.larch_session_derive_meaning.proofs.Made.{IsBelow, all_small, claimed}
use Rattle.larch_session_derive_meaning.specs.Derived.{Derives, IsDerivedOf, answer_with, answers_by}
use Rattle.larch_session_derive_meaning.specs.Verified.{IsVerified}
use Rattle.larch_session_law.specs.Claims.{IsClaim}
use Rattle.larch_session_law.proofs.Claimed.{are_claims}
use Rattle.larch_session_law.specs.SessionMeaningFiles.{script_among}
use Rattle.larch_session_law.specs.SessionMeaningTraits.{script_duty}
use Rattle.larch_session_law.specs.TraitsFiles.{Table}
use Rattle.larch_session_law.specs.TraitsReading.{read_files}
use Rattle.larch_flat_meaning.proofs.TraitsItemsKept.{found_is}
use Rattle.larch_session_law.proofs.VerifyLawAccepted.{accepted_derivable}
use Rattle.larch_session_law.proofs.VerifyLawVerdicts.{accepted_verdict}

-- it is told of the duties in order
answered_are : (limit : ℕ) (script : Script) (earlier : List Answered) (k : ℕ) (ds : List ClaimedDuty)
    → map (λ (a : Answered). a.duty) (all_answered limit script earlier k ds)
    ≡ map (λ (a : Answered). a.duty) earlier ++ ds
answered_are limit script earlier k [] = sym (append-nil (map (λ (a : Answered). a.duty) earlier))
answered_are limit script earlier k (d ∷ ds) =
    let a : Answered = record { number = k; duty = d; outcome = outcome_for limit script earlier d } in
    answered_are limit script (earlier ++ a ∷ []) (suc k) ds
    ∙ ap (λ xs. xs ++ ds) (map-append (λ (b : Answered). b.duty) earlier (a ∷ []))
    ∙ append_assoc (map (λ (b : Answered). b.duty) earlier) (d ∷ []) ds

-- the claim of a duty that was answered, with a label
record IsClaimOf (label : Label) (claims : List Claim) (d : ClaimedDuty) : Type 0 where
  pub claim : Claim
  pub found : find (λ c. same_label label c.label) claims ≡ Some claim
  pub is : script_duty claim ≡ d

claim_of_answer : (limit : ℕ) (script : Script) (label : Label) (claims : List Claim) (a : Answered)
    → answer_with label (all_answered limit script [] 1 (map script_duty claims)) ≡ Some a
    → IsClaimOf label claims a.duty
claim_of_answer limit script label claims a e =
    let test : ClaimedDuty → Bool = λ d. same_label label d.label in
    let answers = all_answered limit script [] 1 (map script_duty claims) in
    let there : find test (map (λ (b : Answered). b.duty) answers) ≡ Some a.duty =
    find_in_map test (λ (b : Answered). b.duty) answers ∙ ap (option_map (λ (b : Answered). b.duty)) e in
    let told : option_map script_duty (find (λ c. same_label label c.label) claims) ≡ Some a.duty =
    sym (find_in_map test script_duty claims)
    ∙ ap (find test) (sym (answered_are limit script [] 1 (map script_duty claims))) ∙ there in
    let m = made_from script_duty (find (λ c. same_label label c.label) claims) a.duty told in
    record { claim = m.0; found = m.1; is = m.2 }

-- the duty of a claim that was found by its label is found by the label's text
module _ (label : Label) (d : Duties) (small : All (IsBelow (2 ^ 64)) (all_duties d)) (c : Claim)
    (found : find (λ e. same_label label e.label) (claims_in d) ≡ Some c) where
  there : Contains (all_duties d) (duty_of c)
  there =
      subst (λ xs. Contains xs (duty_of c)) (all_are d)
      (contains_map duty_of (claims_in d) c
      (found_is (λ (e : Claim). same_label label e.label) (claims_in d) c found).0)

  small_label : number_of label < 2 ^ 64
  small_label =
      subst (λ n. n < 2 ^ 64)
      (sym (same_numbers label c.label
      (found_is (λ (e : Claim). same_label label e.label) (claims_in d) c found).1))
      (All-contains (IsBelow (2 ^ 64)) (all_duties d) (duty_of c) small there)

  by_text : find (λ (e : Duty). bytes_eq (label_text label) (label_text e.label)) (all_duties d) ≡ Some (duty_of c)
  by_text =
      find_by (λ (e : Duty). bytes_eq (label_text label) (label_text e.label)) (λ (e : Duty). same_label label e.label)
      (all_duties d)
      (λ e i. same_text label e.label small_label (All-contains (IsBelow (2 ^ 64)) (all_duties d) e small i))
      ∙ ap (find (λ (e : Duty). same_label label e.label)) (sym (all_are d))
      ∙ find_in_map (λ (e : Duty). same_label label e.label) duty_of (claims_in d) ∙ ap (option_map duty_of) found

module _ (limit : ℕ) (files : Table) (stem : List ℕ) (label : Label) (lines : List Line) where
  of_claim : (claims : List Claim) → trait_claims (read_files files) stem ≡ Ok claims → (d : ClaimedDuty)
      → IsClaimOf label claims d → IsFinished d.theory d.statement lines → IsVerified files stem label lines
  of_claim claims e d of h =
      let c = claimed (read_files files) stem claims e in
      let among : Contains claims of.claim =
      (found_is (λ (k : Claim). same_label label k.label) claims of.claim of.found).0 in
      let own = All-contains IsClaim (map script_duty claims) (script_duty of.claim)
      (are_claims files stem claims e).each (contains_map script_duty claims of.claim among) in
      let finished : IsFinished of.claim.theory of.claim.statement lines =
      subst (λ (k : ClaimedDuty). IsFinished k.theory k.statement lines) (sym of.is) h in
      record {
        duties = c.duties;
        are_duties = c.are_duties;
        duty = duty_of of.claim;
        is_duty =
            by_text label c.duties (all_small c.own c.duties c.made) of.claim
            (subst (λ xs. find (λ (k : Claim). same_label label k.label) xs ≡ Some of.claim) (sym c.are) of.found);
        read = certificate_again true true lines refl finished.writable;
        accepted = accepted_verdict of.claim.theory of.claim.statement lines finished.accepted;
        derivable = accepted_derivable of.claim.theory of.claim.statement lines own.theory own.plain finished.accepted;
      }

  of_answer : (claims : List Claim) → trait_claims (read_files files) stem ≡ Ok claims → (o : Option Answered)
      → answer_with label (all_answered limit (script_among files stem) [] 1 (map script_duty claims)) ≡ o
      → IsDerivedOf o (Some lines) → IsVerified files stem label lines
  of_answer claims e None is h = absurd (cc)
  of_answer claims e (Some a) is h =
      of_claim claims e a.duty (claim_of_answer limit (script_among files stem) label claims a is) h.1

  of_read : (r : Result (List Claim) Stop) → trait_claims (read_files files) stem ≡ r
      → IsDerivedOf (answer_with label (answers_by limit (script_among files stem) r)) (Some lines)
      → IsVerified files stem label lines
  of_read (Err stop) e h = absurd (cc)
  of_read (Ok claims) e h =
      of_answer claims e
      (answer_with label (all_answered limit (script_among files stem) [] 1 (map script_duty claims))) refl h

  pub derived_verified : Derives limit files stem label (Some lines) → IsVerified files stem label lines
  derived_verified h = of_read (trait_claims (read_files files) stem) refl h
