-- What a trait claims can be replayed.
use Rattle.std.proofs.Common.{◌≡◌, refl, sym, ap, subst, ◌∙◌, arith, ℕ, suc, ◌+◌, ◌≤◌, true, false, ◌==◌}
use Rattle.std.proofs.Common.{length, List, [], ◌∷◌, ◌++◌, map, All, Contains, Option, Some, None, Ok}
use Rattle.std.specs.Prelude.{nat_lt}
use Rattle.std.proofs.lemmas.Bool.Decides.{nat_tests}
use Rattle.std.proofs.lemmas.List.{append-nil, length-map, map-append}
use Rattle.std.proofs.lemmas.List.Elements.{All-append, All-cons, All-contains, All-nil}
use Rattle.larch_base.specs.declared.code.Code.TheVariants.{Size}
use Rattle.larch_base.specs.declared.label.Label.{Label}
use Rattle.larch_base.specs.declared.label.Label.TheVariants.{Assume, Imply, Convert}
use Rattle.larch_base.specs.declared.limits.TheConstants.{MAX_DUTIES}
use Rattle.larch_base.proofs.Lists.{all_from}
use Rattle.larch_base.proofs.Members.{contained_in_map}
use Rattle.larch_calculus.specs.Renaming.{HasPlainNames}
use Rattle.larch_calculus.specs.Theories.{IsIncluded, IsPrefix}
use Rattle.larch_calculus.proofs.DerivedRules.{prefix_included}
use Rattle.larch_session_meaning.specs.DutiesTraitDuties.{claims_of, trait_claims, trait_duties}
use Rattle.larch_session_meaning.proofs.DutiesWorded.{claims_in_words, claims_plain, claims_sound}
use Rattle.larch_session_meaning.specs.DutiesMeaningClaims.{Claim, claim_of, claims_in, clause_claims, duty_of}
use Rattle.larch_session_meaning.specs.DutiesMeaningConversions.{Clause, Conversion, clause_over}
use Rattle.larch_session_meaning.specs.DutiesMeaningConversions.{clause_theory, conversion_of}
use Rattle.larch_session_meaning.specs.DutiesMeaningDuties.{Duties, Duty, all_duties, clause_duties}
use Rattle.larch_session_meaning.specs.DutiesMeaningDuties.{duties, duties_of, is_its_copy}
use Rattle.larch_session_meaning.specs.DutiesMeaningDuties.{label_all, not_too_many, with_clauses}
use Rattle.larch_session_meaning.specs.DutiesMeaningImplied.{implied_statements}
use Rattle.larch_session_meaning.specs.DutiesMeaningLaws.{IsDutyInWords, IsSoundDuty}
use Rattle.larch_session_meaning.proofs.DutiesMeaningClaims.{all_are}
use Rattle.larch_session_meaning.proofs.DutiesMeaningOneTheory.{one_theory}
use Rattle.larch_session_meaning.specs.FlatParts.{flat_trait}
use Rattle.larch_session_meaning.specs.FlatMeaningFiles.{Files}
use Rattle.larch_session_meaning.specs.FlatMeaningFlat.{FlatTrait, theory_of}
use Rattle.larch_session_meaning.specs.FlatMeaningGathered.{new_among}
use Rattle.larch_session_meaning.specs.FlatMeaningStops.{surely}
use Rattle.larch_session_meaning.proofs.FlatMeaningGathering.{surely_was}
use Rattle.larch_session_meaning.proofs.FlatMeaningProper.{refused_if_was}
use Rattle.larch_session_meaning.specs.FlatSourcesSources.{Table as Sources, files_in}
use Rattle.larch_prove_meaning.specs.Reports.{may_serve}
use Rattle.larch_prove_meaning.specs.Scripts.{ClaimedDuty}
use Rattle.larch_session_law.specs.Claims.{AreClaims, IsClaim}
use Rattle.larch_session_meaning.specs.Traits.{script_duty}
use Rattle.larch_term.specs.declared.statement.Statement.{Statement}
use Rattle.larch_term.specs.declared.statement.Theory.{Theory}
use Rattle.larch_session_meaning.specs.TraitsFiles.{Table}
use Rattle.larch_session_meaning.specs.TraitsReading.{read_files}
use Rattle.larch_session_meaning.proofs.TraitsWorded.{read_worded}
use Rattle.larch_base_meaning.specs.Steps.{each}
use Rattle.larch_session_meaning.proofs.TraitsItemsKept.{after_was, ok_inj}

-- a duty of a theory that begins with this one, which is its own where the duty is of no clause
record Begins (t : Theory) (c : Claim) : Type 0 where
  pub own : c.clause ≡ None → c.theory ≡ t
  pub begins : IsPrefix t c.theory

labelled_begin : (kind : ℕ → Label) (n : ℕ) (t : Theory) (ss : List Statement)
    → All (Begins t) (map (claim_of None) (label_all kind n t ss))
labelled_begin kind n t [] = All-nil (Begins t)
labelled_begin kind n t (s ∷ ss) =
    All-cons (Begins t) (record { label = kind n; clause = None; theory = t; statement = s })
    (map (claim_of None) (label_all kind (suc n) t ss))
    (record { own = λ e. refl; begins = (([], sym (append-nil t.operators)), ([], sym (append-nil t.statements))) })
    (labelled_begin kind (suc n) t ss)

converted_begin : (n j : ℕ) (t : Theory) (c : Clause) (ss : List Statement)
    → All (Begins t) (map (claim_of (Some n)) (label_all Convert j (clause_theory t c) ss))
converted_begin n j t c [] = All-nil (Begins t)
converted_begin n j t c (s ∷ ss) =
    All-cons (Begins t) (record { label = Convert j; clause = Some n; theory = clause_theory t c; statement = s })
    (map (claim_of (Some n)) (label_all Convert (suc j) (clause_theory t c) ss))
    (record { own = λ e. absurd (cc); begins = ((_, refl), (_, refl)) })
    (converted_begin n (suc j) t c ss)

clauses_begin : (t : Theory) (n j : ℕ) (cs : List Clause) → All (Begins t) (clause_claims n (clause_duties j t cs))
clauses_begin t n j [] = All-nil (Begins t)
clauses_begin t n j (c ∷ cs) =
    All-append (Begins t)
    (map (claim_of (Some n)) (label_all Convert j (clause_theory t c) (map is_its_copy c.copies)))
    (clause_claims (suc n) (clause_duties (j + length c.copies) t cs))
    (converted_begin n j t c (map is_its_copy c.copies)) (clauses_begin t (suc n) (j + length c.copies) cs)

all_begin : (own : FlatTrait) (ss : List Statement) (cs : List Clause)
    → All (Begins (theory_of own)) (claims_in (duties_of own ss cs))
all_begin own ss cs =
    let t : Theory = theory_of own in
    let assumed : List Duty = label_all Assume 1 t own.discharge in
    let implied : List Duty = label_all Imply 1 t (new_among own.discharge ss) in
    All-append (Begins t) (map (claim_of None) (assumed ++ implied)) (clause_claims 1 (clause_duties 1 t cs))
    (subst (All (Begins t)) (sym (map-append (claim_of None) assumed implied))
    (All-append (Begins t) (map (claim_of None) assumed) (map (claim_of None) implied)
    (labelled_begin Assume 1 t own.discharge) (labelled_begin Imply 1 t (new_among own.discharge ss))))
    (clauses_begin t 1 1 cs)

-- there aren't too many duties, and the theory of each begins with the trait's
record AreOfOne (t : Theory) (d : Duties) : Type 0 where
  pub few : length (all_duties d) ≤ MAX_DUTIES
  pub begin : All (Begins t) (claims_in d)

few_by : (n : ℕ) → nat_lt MAX_DUTIES n ≡ false → n ≤ MAX_DUTIES
few_by n e = grind (arith, nat_tests, e)

duties_of_one : (limit : ℕ) (files : Files) (own : FlatTrait) (d : Duties) → duties limit files own ≡ Ok d
    → AreOfOne (theory_of own) d
unfolding duties
duties_of_one limit files own d is =
    let t : Theory = theory_of own in
    let make : Conversion → Clause = clause_over t in
    let r = after_was (implied_statements limit files own) (λ ss. surely (with_clauses own ss)) d is in
    let p = after_was (each (conversion_of own.operators) own.raw.conversions)
    (λ cs. not_too_many own.raw.name.pos (duties_of own r.0 (map make cs))) d
    (surely_was (with_clauses own r.0) d r.2) in
    let made : Duties = duties_of own r.0 (map make p.0) in
    let q = refused_if_was Size own.raw.name.pos (nat_lt MAX_DUTIES (length (all_duties made))) (Ok made) d p.2 in
    subst (AreOfOne t) (ok_inj q.1)
    (record { few = few_by (length (all_duties made)) q.0; begin = all_begin own r.0 (map make p.0) })

same_number : (n m : ℕ) → (n == m) ≡ true → n ≡ m
same_number n m e = grind (arith, nat_tests, e)

included_itself : (t u : Theory) → t ≡ u → IsIncluded t u
included_itself t u e = subst (IsIncluded t) e (record { operators = λ f c. c; statements = λ s c. c })

-- of what may serve a duty the theory is part of the duty's
module _ (t : Theory) (cs : List Claim) (begin : All (Begins t) cs)
    (one : (c e : Claim) → Contains cs c → Contains cs e → c.clause ≡ e.clause → c.theory ≡ e.theory) where
  serve_by : (l m : Option ℕ) (c e : Claim) → c.clause ≡ l → e.clause ≡ m → Contains cs c → Contains cs e
      → may_serve l m ≡ true → IsIncluded c.theory e.theory
  serve_by None m c e p q i j h =
      let first = All-contains (Begins t) cs c begin i in
      let second = All-contains (Begins t) cs e begin j in
      subst (λ u. IsIncluded u e.theory) (sym (first.own p)) (prefix_included t e.theory second.begins)
  serve_by (Some n) None c e p q i j h = absurd (cc)
  serve_by (Some n) (Some m) c e p q i j h =
      included_itself c.theory e.theory (one c e i j (p ∙ ap Some (same_number n m h) ∙ sym q))

  all_serve : (d e : ClaimedDuty) → Contains (map script_duty cs) d → Contains (map script_duty cs) e
      → may_serve d.clause e.clause ≡ true → IsIncluded d.theory e.theory
  all_serve d e i j h =
      let c = contained_in_map script_duty cs d i in
      let k = contained_in_map script_duty cs e j in
      subst (λ (x : ClaimedDuty). IsIncluded x.theory e.theory) c.2
      (subst (λ (x : ClaimedDuty). IsIncluded c.0.theory x.theory) k.2
      (serve_by c.0.clause k.0.clause c.0 k.0 refl refl c.1 k.1
      (ap (λ (x : ClaimedDuty). may_serve x.clause k.0.clause) c.2
      ∙ ap (λ (x : ClaimedDuty). may_serve d.clause x.clause) k.2 ∙ h)))

is_claim : (c : Claim) → IsSoundDuty (duty_of c) → IsDutyInWords (duty_of c) → HasPlainNames c.theory
    → IsClaim (script_duty c)
is_claim c sound words plain =
    record {
      theory = sound.0.0.well_sorted;
      statement = sound.1.0;
      named = sound.1.1;
      plain = plain;
      operators = words.0.0;
      statements = words.0.1;
      words = words.1;
    }

each_is : (cs : List Claim) → All (λ c. IsSoundDuty (duty_of c)) cs → All (λ c. IsDutyInWords (duty_of c)) cs
    → All (λ c. HasPlainNames c.theory) cs → All IsClaim (map script_duty cs)
each_is cs sound words plain =
    all_from IsClaim (map script_duty cs) (λ d i.
    let c = contained_in_map script_duty cs d i in
    subst IsClaim c.2
    (is_claim c.0 (All-contains (λ x. IsSoundDuty (duty_of x)) cs c.0 sound c.1)
    (All-contains (λ x. IsDutyInWords (duty_of x)) cs c.0 words c.1)
    (All-contains (λ (x : Claim). HasPlainNames x.theory) cs c.0 plain c.1)))

pub are_claims : (files : Table) (stem : List ℕ) (cs : List Claim) → trait_claims (read_files files) stem ≡ Ok cs
    → AreClaims (map script_duty cs)
are_claims files stem cs e =
    let sources : Sources = read_files files in
    let worded = read_worded files in
    let p = after_was (trait_duties sources stem) (λ d. Ok (claims_in d)) cs e in
    let r = after_was (flat_trait sources stem) (claims_of sources) p.0 p.1 in
    let own = theory_of r.0 in
    let of_one = duties_of_one (length sources) (files_in sources) r.0 p.0 r.2 in
    let one = one_theory (length sources) (files_in sources) r.0 p.0 r.2 in
    let same : claims_in p.0 ≡ cs = ok_inj p.2 in
    record {
      each = each_is cs (claims_sound sources worded stem cs e) (claims_in_words sources worded stem cs e)
          (claims_plain sources stem cs e);
      few = subst (λ n. n ≤ MAX_DUTIES)
          (sym (ap length (all_are p.0)) ∙ length-map (claims_in p.0) duty_of ∙ ap length same
          ∙ sym (length-map cs script_duty))
          of_one.few;
      serve = all_serve own cs (subst (All (Begins own)) same of_one.begin)
          (subst (λ xs. (c d : Claim) → Contains xs c → Contains xs d → c.clause ≡ d.clause → c.theory ≡ d.theory)
          same one);
    }
