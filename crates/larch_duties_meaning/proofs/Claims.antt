-- Duties with the numbers of their clauses are the duties.
use Rattle.std.proofs.Common.{◌≡◌, refl, sym, subst, ap, ap₂, ◌∙◌, ℕ, suc, List, [], ◌∷◌, ◌++◌, map, Option, Some, None}
use Rattle.std.proofs.Common.{All}
use Rattle.std.specs.Prelude.{flat_map}
use Rattle.std.proofs.lemmas.List.{map-append}
use Rattle.std.proofs.lemmas.List.Elements.{All-contains}
use Rattle.larch_base.proofs.Lists.{all_from}
use Rattle.larch_base.proofs.Members.{contains_map}
use Rattle.larch_duties_meaning.specs.Claims.{claim_of, claims_in, clause_claims, duty_of}
use Rattle.larch_duties_meaning.specs.Duties.{ClauseDuties, Duties, Duty, all_duties}

claims_are : (clause : Option ℕ) (ds : List Duty) → map duty_of (map (claim_of clause) ds) ≡ ds
claims_are clause [] = refl
claims_are clause (d ∷ ds) = ap (λ xs. d ∷ xs) (claims_are clause ds)

clauses_are : (n : ℕ) (cs : List ClauseDuties) → map duty_of (clause_claims n cs) ≡ flat_map (λ c. c.duties) cs
clauses_are n [] = refl
clauses_are n (c ∷ cs) =
    map-append duty_of (map (claim_of (Some n)) c.duties) (clause_claims (suc n) cs)
    ∙ ap₂ (λ a b. a ++ b) (claims_are (Some n) c.duties) (clauses_are (suc n) cs)

-- the duties of a trait, with or without the numbers of clauses
pub all_are : (d : Duties) → map duty_of (claims_in d) ≡ all_duties d
all_are d =
    map-append duty_of (map (claim_of None) d.own) (clause_claims 1 d.clauses)
    ∙ ap₂ (λ a b. a ++ b) (claims_are None d.own) (clauses_are 1 d.clauses)

-- what holds of each duty holds of each with the number of its clause
pub each_has : (P : Duty → Type 0) (d : Duties) → All P (all_duties d) → All (λ c. P (duty_of c)) (claims_in d)
each_has P d a =
    let b : All P (map duty_of (claims_in d)) = subst (All P) (sym (all_are d)) a in
    all_from (λ c. P (duty_of c)) (claims_in d)
    (λ c m. All-contains P (map duty_of (claims_in d)) (duty_of c) b (contains_map duty_of (claims_in d) c m))
