-- The duties of a clause have one theory, and so have those of none.
use Rattle.std.proofs.Common.{◌≡◌, refl, sym, ap, subst, ◌∙◌, arith, ℕ, suc, ◌+◌, ◌≤◌, true, false, cond, ◌==◌}
use Rattle.std.proofs.Common.{length, List, [], ◌∷◌, ◌++◌, map, All, Contains, Option, Some, None, Ok}
use Rattle.std.specs.Prelude.{nat_lt}
use Rattle.std.proofs.lemmas.Bool.Decides.{nat_tests}
use Rattle.std.proofs.lemmas.List.{map-append}
use Rattle.std.proofs.lemmas.List.Elements.{All-append, All-cons, All-contains, All-nil, All-weaker}
use Rattle.larch_base.specs.declared.code.Code.TheVariants.{Size}
use Rattle.larch_base.specs.declared.label.Label.{Label}
use Rattle.larch_base.specs.declared.label.Label.TheVariants.{Assume, Imply, Convert}
use Rattle.larch_base.specs.declared.limits.TheConstants.{MAX_DUTIES}
use Rattle.larch_term.specs.declared.statement.Statement.{Statement}
use Rattle.larch_term.specs.declared.statement.Theory.{Theory}
use Rattle.larch_base_meaning.specs.Steps.{each}
use Rattle.larch_flat_meaning.proofs.TraitsItemsKept.{after_was, ok_inj}
use Rattle.larch_flat_meaning.specs.Files.{Files}
use Rattle.larch_flat_meaning.specs.Flat.{FlatTrait, theory_of}
use Rattle.larch_flat_meaning.specs.Gathered.{new_among}
use Rattle.larch_flat_meaning.specs.Stops.{surely}
use Rattle.larch_flat_meaning.proofs.Gathering.{surely_was}
use Rattle.larch_flat_meaning.proofs.Proper.{refused_if_was}
use Rattle.larch_duties_meaning.specs.Claims.{Claim, claim_of, claims_in, clause_claims}
use Rattle.larch_duties_meaning.specs.Conversions.{Clause, Conversion, clause_over, clause_theory, conversion_of}
use Rattle.larch_duties_meaning.specs.Duties.{Duties, Duty, all_duties, clause_duties, duties, duties_of, is_its_copy}
use Rattle.larch_duties_meaning.specs.Duties.{label_all, not_too_many, with_clauses}
use Rattle.larch_duties_meaning.specs.Implied.{implied_statements}

own_number : (n : ℕ) → (n == n) ≡ true
own_number n = grind (arith, nat_tests)

other_number : (n k : ℕ) → suc n ≤ k → (n == k) ≡ false
other_number n k h = grind (arith, nat_tests, h)

-- the theory of the clause with a number, where the first has this one
abbrev theory_from : Theory → ℕ → List Clause → ℕ → Theory
theory_from t n [] k = t
theory_from t n (c ∷ cs) k = cond (n == k) (clause_theory t c) (theory_from t (suc n) cs k)

-- the theory of the duties of a clause, or of those of none
abbrev theory_at : Theory → List Clause → Option ℕ → Theory
theory_at t cs None = t
theory_at t cs (Some k) = theory_from t 1 cs k

-- a duty of the clause with a number, or of none, over a theory
abbrev IsOver : Option ℕ → Theory → Claim → Type 0
IsOver clause t c = (c.clause ≡ clause) × (c.theory ≡ t)

labelled_over : (kind : ℕ → Label) (n : ℕ) (clause : Option ℕ) (t : Theory) (ss : List Statement)
    → All (IsOver clause t) (map (claim_of clause) (label_all kind n t ss))
labelled_over kind n clause t [] = All-nil (IsOver clause t)
labelled_over kind n clause t (s ∷ ss) =
    All-cons (IsOver clause t) (record { label = kind n; clause = clause; theory = t; statement = s })
    (map (claim_of clause) (label_all kind (suc n) t ss)) (refl, refl) (labelled_over kind (suc n) clause t ss)

-- a duty of one of these clauses, where the first has this number
abbrev IsAmong : Theory → ℕ → List Clause → Claim → Type 0
IsAmong t n cs c = (k : ℕ) × (c.clause ≡ Some k) × (n ≤ k) × (c.theory ≡ theory_from t n cs k)

clauses_over : (t : Theory) (n j : ℕ) (cs : List Clause) → All (IsAmong t n cs) (clause_claims n (clause_duties j t cs))
clauses_over t n j [] = All-nil (IsAmong t n [])
clauses_over t n j (c ∷ cs) =
    let made : List Duty = label_all Convert j (clause_theory t c) (map is_its_copy c.copies) in
    let rest : List Claim = clause_claims (suc n) (clause_duties (j + length c.copies) t cs) in
    let first : clause_theory t c ≡ theory_from t n (c ∷ cs) n =
    sym (ap (λ b. cond b (clause_theory t c) (theory_from t (suc n) cs n)) (own_number n)) in
    All-append (IsAmong t n (c ∷ cs)) (map (claim_of (Some n)) made) rest
    (All-weaker (IsOver (Some n) (clause_theory t c)) (IsAmong t n (c ∷ cs))
    (λ x h. (n, h.0, omega arith, h.1 ∙ first)) (map (claim_of (Some n)) made)
    (labelled_over Convert j (Some n) (clause_theory t c) (map is_its_copy c.copies)))
    (All-weaker (IsAmong t (suc n) cs) (IsAmong t n (c ∷ cs))
    (λ x h. let far = h.2 in (
      h.0,
      h.1,
      omega (arith, far),
      h.3 ∙ sym (ap (λ b. cond b (clause_theory t c) (theory_from t (suc n) cs h.0)) (other_number n h.0 far)),
    ))
    rest (clauses_over t (suc n) (j + length c.copies) cs))

-- each duty of a trait is over the theory of its clause
all_over : (own : FlatTrait) (ss : List Statement) (cs : List Clause)
    → All (λ c. c.theory ≡ theory_at (theory_of own) cs c.clause) (claims_in (duties_of own ss cs))
all_over own ss cs =
    let t : Theory = theory_of own in
    let assumed : List Duty = label_all Assume 1 t own.discharge in
    let implied : List Duty = label_all Imply 1 t (new_among own.discharge ss) in
    let own_theory : (c : Claim) → IsOver None t c → c.theory ≡ theory_at t cs c.clause =
    λ c h. h.1 ∙ sym (ap (theory_at t cs) h.0) in
    All-append (λ c. c.theory ≡ theory_at t cs c.clause) (map (claim_of None) (assumed ++ implied))
    (clause_claims 1 (clause_duties 1 t cs))
    (All-weaker (IsOver None t) (λ c. c.theory ≡ theory_at t cs c.clause) own_theory
    (map (claim_of None) (assumed ++ implied))
    (subst (All (IsOver None t)) (sym (map-append (claim_of None) assumed implied))
    (All-append (IsOver None t) (map (claim_of None) assumed) (map (claim_of None) implied)
    (labelled_over Assume 1 None t own.discharge) (labelled_over Imply 1 None t (new_among own.discharge ss)))))
    (All-weaker (IsAmong t 1 cs) (λ c. c.theory ≡ theory_at t cs c.clause)
    (λ c h. h.3 ∙ sym (ap (theory_at t cs) h.1)) (clause_claims 1 (clause_duties 1 t cs)) (clauses_over t 1 1 cs))

-- duties of one clause are over one theory
pub one_theory : (limit : ℕ) (files : Files) (own : FlatTrait) (d : Duties) → duties limit files own ≡ Ok d
    → (c e : Claim) → Contains (claims_in d) c → Contains (claims_in d) e → c.clause ≡ e.clause → c.theory ≡ e.theory
unfolding duties
one_theory limit files own d is c e in_c in_e same =
    let t : Theory = theory_of own in
    let make : Conversion → Clause = clause_over t in
    let r = after_was (implied_statements limit files own) (λ ss. surely (with_clauses own ss)) d is in
    let p = after_was (each (conversion_of own.operators) own.raw.conversions)
    (λ cs. not_too_many own.raw.name.pos (duties_of own r.0 (map make cs))) d
    (surely_was (with_clauses own r.0) d r.2) in
    let made : Duties = duties_of own r.0 (map make p.0) in
    let q = refused_if_was Size own.raw.name.pos (nat_lt MAX_DUTIES (length (all_duties made))) (Ok made) d p.2 in
    let over : All (λ x. x.theory ≡ theory_at t (map make p.0) x.clause) (claims_in d) =
    subst (λ x. All (λ y. y.theory ≡ theory_at t (map make p.0) y.clause) (claims_in x)) (ok_inj q.1)
    (all_over own r.0 (map make p.0)) in
    All-contains (λ x. x.theory ≡ theory_at t (map make p.0) x.clause) (claims_in d) c over in_c
    ∙ ap (theory_at t (map make p.0)) same
    ∙ sym (All-contains (λ x. x.theory ≡ theory_at t (map make p.0) x.clause) (claims_in d) e over in_e)
