-- Duties that are put one behind the other are those of a trait with the numbers of their clauses.
use Rattle.std.proofs.Common.{◌≡◌, refl, sym, ap, ap₂, ◌∙◌, ℕ, suc, ◌+◌, ◌<◌, add-one, append_assoc, drop, get_or}
use Rattle.std.proofs.Common.{length, List, [], ◌∷◌, ◌++◌, map, Option, Some, None}
use Rattle.std.proofs.lemmas.List.{drop_more, map-append}
use Rattle.larch_base.specs.declared.label.Label.{Label}
use Rattle.larch_base.specs.declared.label.Label.TheVariants.{Assume, Imply, Convert}
use Rattle.larch_term.specs.declared.statement.Statement.{Statement}
use Rattle.larch_term.specs.declared.statement.Theory.{Theory}
use Rattle.larch_duties_meaning.specs.Claims.{Claim, claim_of, clause_claims}
use Rattle.larch_duties_meaning.specs.Conversions.{Clause, Conversion, bytes_of, clause_over, clause_theory}
use Rattle.larch_duties_meaning.specs.Duties.{clause_duties, is_its_copy, label_all}
use Rattle.larch_duties.specs.Finding.{label_behind}
use Rattle.larch_duties.specs.Labelling.{claims_from}
use Rattle.larch_duties.proofs.Counts.{copies_length}
use Rattle.larch_duties.proofs.Lines.{went_on}

-- duties of one kind
labelled_are : (kind : ℕ → Label) (next : (n : ℕ) → label_behind (kind n) ≡ kind (suc n)) (n : ℕ)
    (clause : Option ℕ) (t : Theory) (ss : List Statement)
    → claims_from (kind n) clause t ss ≡ map (claim_of clause) (label_all kind n t ss)
labelled_are kind next n clause t [] = refl
labelled_are kind next n clause t (s ∷ ss) =
    let c : Claim = record { label = kind n; clause = clause; theory = t; statement = s } in
    ap (λ cs. c ∷ cs)
    (ap (λ l. claims_from l clause t ss) (next n) ∙ labelled_are kind next (suc n) clause t ss)

-- the duties of a trait's own theory are put
pub own_put : (t : Theory) (ds is : List Statement) (claims assumed all : List Claim)
    → assumed ≡ claims ++ claims_from (Assume 1) None t ds → all ≡ assumed ++ claims_from (Imply 1) None t is
    → all ≡ claims ++ map (claim_of None) (label_all Assume 1 t ds ++ label_all Imply 1 t is)
own_put t ds is claims assumed all a b =
    let first : List Claim = claims_from (Assume 1) None t ds in
    let second : List Claim = claims_from (Imply 1) None t is in
    b ∙ ap (λ xs. xs ++ second) a ∙ append_assoc claims first second
    ∙ ap (λ xs. claims ++ xs)
    (ap₂ (λ xs ys. xs ++ ys) (labelled_are Assume (λ _. refl) 1 None t ds) (labelled_are Imply (λ _. refl) 1 None t is)
    ∙ sym (map-append (claim_of None) (label_all Assume 1 t ds) (label_all Imply 1 t is)))

-- the duties of a clause are put
pub clause_put : (t : Theory) (cs : List Conversion) (i : ℕ) (c : Conversion) (first number next behind : ℕ)
    (claims put all : List Claim)
    → i < length cs → c ≡ get_or cs i c
    → put ≡ claims ++ claims_from (Convert first) (Some number) (clause_theory t (clause_over t c))
    (map is_its_copy (clause_over t c).copies)
    → next ≡ first + length c.converted → behind ≡ number + 1
    → claims ++ clause_claims number (clause_duties first t (map (clause_over t) (drop i cs))) ≡ all
    → put ++ clause_claims behind (clause_duties next t (map (clause_over t) (drop (i + 1) cs))) ≡ all
clause_put t cs i c first number next behind claims put all lt is p n b h =
    let k : Clause = clause_over t c in
    let made : List Claim = claims_from (Convert first) (Some number) (clause_theory t k) (map is_its_copy k.copies) in
    let rest : ℕ → ℕ → List Claim =
    λ m j. clause_claims m (clause_duties j t (map (clause_over t) (drop (i + 1) cs))) in
    let long : length k.copies ≡ length c.converted =
    copies_length 1 (map (λ f. bytes_of f.name) t.operators) c.converted in
    went_on claims put made (rest behind next)
    (clause_claims number (clause_duties first t (map (clause_over t) (drop i cs)))) all p
    (ap (λ xs. clause_claims number (clause_duties first t (map (clause_over t) xs)))
    (drop_more cs i c lt ∙ ap (λ y. y ∷ drop (i + 1) cs) (sym is))
    ∙ ap₂ (λ xs ys. xs ++ ys)
    (sym (labelled_are Convert (λ _. refl) first (Some number) (clause_theory t k) (map is_its_copy k.copies)))
    (ap₂ rest (sym (b ∙ add-one number)) (ap (λ m. first + m) long ∙ sym n)))
    h
