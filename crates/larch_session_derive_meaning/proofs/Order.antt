-- What a trait claims is in order.
use Rattle.std.proofs.Common.{◌≡◌, ◌≢◌, refl, sym, ap, subst, ◌∙◌, arith, ℕ, suc, ◌+◌, true, ◌==◌, length, List}
use Rattle.std.proofs.Common.{[], ◌∷◌, ◌++◌, map, All, Contains, Option, Some, None, Ok, inl, inr}
use Rattle.std.proofs.lemmas.Bool.Decides.{nat_tests}
use Rattle.std.proofs.lemmas.List.{append-nil, map-append}
use Rattle.std.proofs.lemmas.List.Elements.{All-append, All-cons, All-contains, All-nil}
use Rattle.larch_base.specs.declared.label.Label.{Label}
use Rattle.larch_base.specs.declared.label.Label.TheVariants.{Assume, Imply, Convert}
use Rattle.larch_base.proofs.Members.{contained_in_map, contains_cases, contains_here, contains_none, contains_right}
use Rattle.larch_calculus.specs.Theories.{IsPrefix}
use Rattle.larch_session_law.specs.DutiesTraitDuties.{trait_claims}
use Rattle.larch_duties_meaning.specs.Claims.{Claim, claim_of, claims_in, clause_claims}
use Rattle.larch_duties_meaning.specs.Conversions.{Clause, clause_theory}
use Rattle.larch_duties_meaning.specs.Duties.{ClauseDuties, Duties, Duty, clause_duties, duties_of, is_its_copy}
use Rattle.larch_duties_meaning.specs.Duties.{label_all}
use Rattle.larch_duties_meaning.proofs.OneTheory.{one_theory}
use Rattle.larch_flat_meaning.specs.Flat.{FlatTrait, theory_of}
use Rattle.larch_flat_meaning.specs.Gathered.{new_among}
use Rattle.larch_session_law.specs.FlatSourcesSources.{Table as Sources, files_in}
use Rattle.larch_prove_meaning.specs.Reports.{may_serve}
use Rattle.larch_prove_meaning.specs.Scripts.{ClaimedDuty}
use Rattle.larch_session_derive_meaning.proofs.Made.{claimed}
use Rattle.larch_session_derive_meaning.specs.Ordered.{AreInOrder}
use Rattle.larch_session_law.specs.SessionMeaningTraits.{script_duty}
use Rattle.larch_term.specs.declared.statement.Statement.{Statement}
use Rattle.larch_term.specs.declared.statement.Theory.{Theory}

-- ---- theories

-- a duty of a theory that begins with this one, which is its own where the duty is of no clause
record Begins (t : Theory) (c : Claim) : Type 0 where
  pub own : c.clause ≡ None → c.theory ≡ t
  pub begins : IsPrefix t c.theory

prefix_itself : (t u : Theory) → t ≡ u → IsPrefix t u
prefix_itself t u e =
    subst (IsPrefix t) e (([], sym (append-nil t.operators)), ([], sym (append-nil t.statements)))

labelled_begin : (kind : ℕ → Label) (n : ℕ) (t : Theory) (ss : List Statement)
    → All (Begins t) (map (claim_of None) (label_all kind n t ss))
labelled_begin kind n t [] = All-nil (Begins t)
labelled_begin kind n t (s ∷ ss) =
    All-cons (Begins t) (record { label = kind n; clause = None; theory = t; statement = s })
    (map (claim_of None) (label_all kind (suc n) t ss))
    (record { own = λ e. refl; begins = prefix_itself t t refl }) (labelled_begin kind (suc n) t ss)

converted_begin : (n j : ℕ) (t : Theory) (c : Clause) (ss : List Statement)
    → All (Begins t) (map (claim_of (Some n)) (label_all Convert j (clause_theory t c) ss))
converted_begin n j t c [] = All-nil (Begins t)
converted_begin n j t c (s ∷ ss) =
    All-cons (Begins t) (record { label = Convert j; clause = Some n; theory = clause_theory t c; statement = s })
    (map (claim_of (Some n)) (label_all Convert (suc j) (clause_theory t c) ss))
    (record { own = λ e. absurd (cc); begins = ((_, refl), (_, refl)) }) (converted_begin n (suc j) t c ss)

clauses_begin : (t : Theory) (n j : ℕ) (cs : List Clause) → All (Begins t) (clause_claims n (clause_duties j t cs))
clauses_begin t n j [] = All-nil (Begins t)
clauses_begin t n j (c ∷ cs) =
    All-append (Begins t)
    (map (claim_of (Some n)) (label_all Convert j (clause_theory t c) (map is_its_copy c.copies)))
    (clause_claims (suc n) (clause_duties (j + length c.copies) t cs))
    (converted_begin n j t c (map is_its_copy c.copies)) (clauses_begin t (suc n) (j + length c.copies) cs)

all_begin : (own : FlatTrait) (ss : List Statement) (cs : List Clause)
    → All (Begins (theory_of own)) (claims_in (duties_of own ss cs))
all_begin own ss cs =
    let t : Theory = theory_of own in
    let assumed : List Duty = label_all Assume 1 t own.discharge in
    let implied : List Duty = label_all Imply 1 t (new_among own.discharge ss) in
    All-append (Begins t) (map (claim_of None) (assumed ++ implied)) (clause_claims 1 (clause_duties 1 t cs))
    (subst (All (Begins t)) (sym (map-append (claim_of None) assumed implied))
    (All-append (Begins t) (map (claim_of None) assumed) (map (claim_of None) implied)
    (labelled_begin Assume 1 t own.discharge) (labelled_begin Imply 1 t (new_among own.discharge ss))))
    (clauses_begin t 1 1 cs)

same_number : (n m : ℕ) → (n == m) ≡ true → n ≡ m
same_number n m e = grind (arith, nat_tests, e)

-- the theory of what may serve a duty begins the duty's
module _ (t : Theory) (cs : List Claim) (begin : All (Begins t) cs)
    (one : (c e : Claim) → Contains cs c → Contains cs e → c.clause ≡ e.clause → c.theory ≡ e.theory) where
  serve_by : (l m : Option ℕ) (c e : Claim) → c.clause ≡ l → e.clause ≡ m → Contains cs c → Contains cs e
      → may_serve l m ≡ true → IsPrefix c.theory e.theory
  serve_by None m c e p q i j h =
      let first = All-contains (Begins t) cs c begin i in
      let second = All-contains (Begins t) cs e begin j in
      subst (λ u. IsPrefix u e.theory) (sym (first.own p)) second.begins
  serve_by (Some n) None c e p q i j h = absurd (cc)
  serve_by (Some n) (Some m) c e p q i j h =
      prefix_itself c.theory e.theory (one c e i j (p ∙ ap Some (same_number n m h) ∙ sym q))

  all_serve : (d e : ClaimedDuty) → Contains (map script_duty cs) d → Contains (map script_duty cs) e
      → may_serve d.clause e.clause ≡ true → IsPrefix d.theory e.theory
  all_serve d e i j h =
      let c = contained_in_map script_duty cs d i in
      let k = contained_in_map script_duty cs e j in
      subst (λ (x : ClaimedDuty). IsPrefix x.theory e.theory) c.2
      (subst (λ (x : ClaimedDuty). IsPrefix c.0.theory x.theory) k.2
      (serve_by c.0.clause k.0.clause c.0 k.0 refl refl c.1 k.1
      (ap (λ (x : ClaimedDuty). may_serve x.clause k.0.clause) c.2
      ∙ ap (λ (x : ClaimedDuty). may_serve d.clause x.clause) k.2 ∙ h)))

-- ---- which come first

-- a duty of no clause, and one of a clause
abbrev IsOwn : ClaimedDuty → Type 0
IsOwn d = d.clause ≡ None

abbrev IsOfClause : ClaimedDuty → Type 0
IsOfClause d = d.clause ≢ None

owns_are : (ds : List Duty) → All IsOwn (map script_duty (map (claim_of None) ds))
owns_are [] = All-nil IsOwn
owns_are (d ∷ ds) =
    All-cons IsOwn (script_duty (claim_of None d)) (map script_duty (map (claim_of None) ds)) refl (owns_are ds)

some_clause : (n : ℕ) (d : Duty) → IsOfClause (script_duty (claim_of (Some n) d))
some_clause n d e = absurd (cc)

of_clause : (n : ℕ) (ds : List Duty) → All IsOfClause (map script_duty (map (claim_of (Some n)) ds))
of_clause n [] = All-nil IsOfClause
of_clause n (d ∷ ds) =
    All-cons IsOfClause (script_duty (claim_of (Some n) d)) (map script_duty (map (claim_of (Some n)) ds))
    (some_clause n d) (of_clause n ds)

of_clauses : (n : ℕ) (cs : List ClauseDuties) → All IsOfClause (map script_duty (clause_claims n cs))
of_clauses n [] = All-nil IsOfClause
of_clauses n (c ∷ cs) =
    subst (All IsOfClause) (sym (map-append script_duty (map (claim_of (Some n)) c.duties) (clause_claims (suc n) cs)))
    (All-append IsOfClause (map script_duty (map (claim_of (Some n)) c.duties))
    (map script_duty (clause_claims (suc n) cs)) (of_clause n c.duties) (of_clauses (suc n) cs))

head_is : (x y : ClaimedDuty) (xs ys : List ClaimedDuty) → x ∷ xs ≡ y ∷ ys → x ≡ y
head_is x y xs ys e = cc

tail_is : (x y : ClaimedDuty) (xs ys : List ClaimedDuty) → x ∷ xs ≡ y ∷ ys → xs ≡ ys
tail_is x y xs ys e = cc

own_first : (xs ys before rest : List ClaimedDuty) (d e : ClaimedDuty) → All IsOwn xs → All IsOfClause ys
    → xs ++ ys ≡ before ++ d ∷ rest → d.clause ≡ None → Contains before e → e.clause ≡ None
own_first [] ys before rest d e own others is none c =
    absurd (All-contains IsOfClause ys d others
    (subst (λ zs. Contains zs d) (sym is) (contains_right before (d ∷ rest) d (contains_here d rest))) none)
own_first (x ∷ xs) ys [] rest d e own others is none c = absurd (contains_none e c)
own_first (x ∷ xs) ys (b ∷ before) rest d e own others is none c =
    elim (contains_cases b e before c) [
      | inl same ↦ subst IsOwn (head_is x b (xs ++ ys) (before ++ d ∷ rest) is ∙ same) (own 0 x (omega arith))
      | inr later ↦ own_first xs ys before rest d e (λ k f lt. own (suc k) f (omega arith)) others
          (tail_is x b (xs ++ ys) (before ++ d ∷ rest) is) none later
    ]

own_claims_first : (made : Duties) (before rest : List ClaimedDuty) (d e : ClaimedDuty)
    → map script_duty (claims_in made) ≡ before ++ d ∷ rest → d.clause ≡ None → Contains before e → e.clause ≡ None
own_claims_first made before rest d e is none c =
    let owns : List Claim = map (claim_of None) made.own in
    let others : List Claim = clause_claims 1 made.clauses in
    own_first (map script_duty owns) (map script_duty others) before rest d e (owns_are made.own)
    (of_clauses 1 made.clauses) (sym (map-append script_duty owns others) ∙ is) none c

pub in_order : (sources : Sources) (stem : List ℕ) (cs : List Claim) → trait_claims sources stem ≡ Ok cs
    → AreInOrder (map script_duty cs)
in_order sources stem cs e =
    let c = claimed sources stem cs e in
    let own = theory_of c.own in
    let one = one_theory (length sources) (files_in sources) c.own c.duties c.of_flat in
    let begin : All (Begins own) (claims_in c.duties) =
    subst (λ (d : Duties). All (Begins own) (claims_in d)) c.made.is (all_begin c.own c.made.implied c.made.clauses) in
    subst (λ xs. AreInOrder (map script_duty xs)) c.are
    (record {
      begin = all_serve own (claims_in c.duties) begin one;
      first = own_claims_first c.duties;
    })
