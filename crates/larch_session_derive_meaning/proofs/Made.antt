-- How the duties of a trait were made, and that their labels have small numbers.
use Rattle.std.proofs.Common.{◌≡◌, refl, sym, subst, ◌∙◌, arith, ℕ, suc, ◌+◌, ◌<◌, ◌≤◌, ◌^◌, false, List, [], ◌∷◌}
use Rattle.std.proofs.Common.{◌++◌}
use Rattle.std.proofs.Common.{length, map, All, Ok}
use Rattle.std.specs.Prelude.{flat_map, nat_lt}
use Rattle.std.proofs.lemmas.Bool.Decides.{nat_tests}
use Rattle.std.proofs.lemmas.List.{length-append, length-map}
use Rattle.std.proofs.lemmas.List.Elements.{All-append, All-cons, All-nil}
use Rattle.larch_base.specs.declared.code.Code.TheVariants.{Size}
use Rattle.larch_base.specs.declared.label.Label.{Label}
use Rattle.larch_base.specs.declared.label.Label.TheVariants.{Assume, Imply, Convert}
use Rattle.larch_base.specs.declared.limits.TheConstants.{MAX_DUTIES}
use Rattle.larch_session_law.specs.DutiesTraitDuties.{claims_of, trait_claims, trait_duties}
use Rattle.larch_session_law.proofs.DutiesCounts.{labelled_length}
use Rattle.larch_duties_meaning.specs.Claims.{Claim, claims_in}
use Rattle.larch_duties_meaning.specs.Conversions.{Clause, Conversion, clause_over, clause_theory}
use Rattle.larch_duties_meaning.specs.Conversions.{conversion_of}
use Rattle.larch_duties_meaning.specs.Duties.{Duties, Duty, all_duties, clause_duties, duties, duties_of, is_its_copy}
use Rattle.larch_duties_meaning.specs.Duties.{label_all, not_too_many, with_clauses}
use Rattle.larch_duties_meaning.specs.Implied.{implied_statements}
use Rattle.larch_session_law.specs.FlatParts.{flat_trait}
use Rattle.larch_flat_meaning.specs.Files.{Files}
use Rattle.larch_flat_meaning.specs.Flat.{FlatTrait, theory_of}
use Rattle.larch_flat_meaning.specs.Gathered.{new_among}
use Rattle.larch_flat_meaning.specs.Stops.{surely}
use Rattle.larch_flat_meaning.proofs.Gathering.{surely_was}
use Rattle.larch_flat_meaning.proofs.Proper.{refused_if_was}
use Rattle.larch_session_law.specs.FlatSourcesSources.{Table as Sources, files_in}
use Rattle.larch_session_derive_meaning.proofs.Labels.{number_of}
use Rattle.larch_term.specs.declared.statement.Statement.{Statement}
use Rattle.larch_term.specs.declared.statement.Theory.{Theory}
use Rattle.larch_base_meaning.specs.Steps.{each}
use Rattle.larch_flat_meaning.proofs.TraitsItemsKept.{after_was, ok_inj}

-- the duties of a flat trait are those of some implied statements and clauses, and there aren't too many
pub record Made (own : FlatTrait) (d : Duties) : Type 0 where
  pub implied : List Statement
  pub clauses : List Clause
  pub is : duties_of own implied clauses ≡ d
  pub few : length (all_duties d) ≤ MAX_DUTIES

not_more : (n : ℕ) → nat_lt MAX_DUTIES n ≡ false → n ≤ MAX_DUTIES
not_more n e = grind (arith, nat_tests, e)

made_of : (limit : ℕ) (files : Files) (own : FlatTrait) (d : Duties) → duties limit files own ≡ Ok d → Made own d
unfolding duties
made_of limit files own d is =
    let make : Conversion → Clause = clause_over (theory_of own) in
    let r = after_was (implied_statements limit files own) (λ ss. surely (with_clauses own ss)) d is in
    let p = after_was (each (conversion_of own.operators) own.raw.conversions)
    (λ cs. not_too_many own.raw.name.pos (duties_of own r.0 (map make cs))) d
    (surely_was (with_clauses own r.0) d r.2) in
    let made : Duties = duties_of own r.0 (map make p.0) in
    let q = refused_if_was Size own.raw.name.pos (nat_lt MAX_DUTIES (length (all_duties made))) (Ok made) d p.2 in
    record {
      implied = r.0;
      clauses = map make p.0;
      is = ok_inj q.1;
      few =
          subst (λ (x : Duties). length (all_duties x) ≤ MAX_DUTIES) (ok_inj q.1)
          (not_more (length (all_duties made)) q.0);
    }

-- what a trait claims is that of its duties
pub record Claimed (sources : Sources) (stem : List ℕ) (cs : List Claim) : Type 0 where
  pub own : FlatTrait
  pub duties : Duties
  pub are_duties : trait_duties sources stem ≡ Ok duties
  pub of_flat : claims_of sources own ≡ Ok duties
  pub made : Made own duties
  pub are : claims_in duties ≡ cs

pub claimed : (sources : Sources) (stem : List ℕ) (cs : List Claim) → trait_claims sources stem ≡ Ok cs
    → Claimed sources stem cs
claimed sources stem cs e =
    let p = after_was (trait_duties sources stem) (λ d. Ok (claims_in d)) cs e in
    let r = after_was (flat_trait sources stem) (claims_of sources) p.0 p.1 in
    record {
      own = r.0;
      duties = p.0;
      are_duties = p.1;
      of_flat = r.2;
      made = made_of (length sources) (files_in sources) r.0 p.0 r.2;
      are = ok_inj p.2;
    }

-- ---- numbers of labels

-- the label has a number below this one
abbrev pub IsBelow : ℕ → Duty → Type 0
IsBelow m d = number_of d.label < m

labelled_below : (kind : ℕ → Label) → ((n : ℕ) → number_of (kind n) ≡ n) → (n m : ℕ) (t : Theory) (ss : List Statement)
    → n + length ss ≤ m → All (IsBelow m) (label_all kind n t ss)
labelled_below kind is n m t [] le = All-nil (IsBelow m)
labelled_below kind is n m t (s ∷ ss) le =
    let own = is n in
    All-cons (IsBelow m) (record { label = kind n; theory = t; statement = s }) (label_all kind (suc n) t ss)
    (omega (arith, own, le)) (labelled_below kind is (suc n) m t ss (omega (arith, le)))

clauses_below : (j m : ℕ) (t : Theory) (cs : List Clause)
    → j + length (flat_map (λ c. c.duties) (clause_duties j t cs)) ≤ m
    → All (IsBelow m) (flat_map (λ c. c.duties) (clause_duties j t cs))
clauses_below j m t [] le = All-nil (IsBelow m)
clauses_below j m t (c ∷ cs) le =
    let ss : List Statement = map is_its_copy c.copies in
    let own : List Duty = label_all Convert j (clause_theory t c) ss in
    let rest : List Duty = flat_map (λ k. k.duties) (clause_duties (j + length c.copies) t cs) in
    let long : length own ≡ length c.copies =
    labelled_length Convert j (clause_theory t c) ss ∙ length-map c.copies is_its_copy in
    let many : length ss ≡ length c.copies = length-map c.copies is_its_copy in
    let both = length-append own rest in
    All-append (IsBelow m) own rest
    (labelled_below Convert (λ n. refl) j m (clause_theory t c) ss (omega (arith, long, many, both, le)))
    (clauses_below (j + length c.copies) m t cs (omega (arith, long, both, le)))

small : (own : FlatTrait) (ss : List Statement) (cs : List Clause)
    → length (all_duties (duties_of own ss cs)) ≤ MAX_DUTIES
    → All (IsBelow (2 ^ 64)) (all_duties (duties_of own ss cs))
small own ss cs few =
    let t : Theory = theory_of own in
    let implied : List Statement = new_among own.discharge ss in
    let one : List Duty = label_all Assume 1 t own.discharge in
    let two : List Duty = label_all Imply 1 t implied in
    let three : List Duty = flat_map (λ k. k.duties) (clause_duties 1 t cs) in
    let a = length-append (one ++ two) three in
    let b = length-append one two in
    let p = labelled_length Assume 1 t own.discharge in
    let q = labelled_length Imply 1 t implied in
    All-append (IsBelow (2 ^ 64)) (one ++ two) three
    (All-append (IsBelow (2 ^ 64)) one two
    (labelled_below Assume (λ n. refl) 1 (2 ^ 64) t own.discharge (omega (arith, a, b, p, few)))
    (labelled_below Imply (λ n. refl) 1 (2 ^ 64) t implied (omega (arith, a, b, q, few))))
    (clauses_below 1 (2 ^ 64) t cs (omega (arith, a, few)))

pub all_small : (own : FlatTrait) (d : Duties) → Made own d → All (IsBelow (2 ^ 64)) (all_duties d)
all_small own d m =
    subst (λ (x : Duties). All (IsBelow (2 ^ 64)) (all_duties x)) m.is
    (small own m.implied m.clauses
    (subst (λ (x : Duties). length (all_duties x) ≤ MAX_DUTIES) (sym m.is) m.few))
