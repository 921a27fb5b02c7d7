-- What a trait claims over its own theory, by what is kept of its duties.
use Rattle.std.proofs.Common.{◌≡◌, refl, sym, ap, ap₂, ◌∙◌, ℕ, suc, Bool, true, false, cond, List, [], ◌∷◌, ◌++◌, map}
use Rattle.std.proofs.Common.{filter, Option, Some, None, Result, Ok, Err}
use Rattle.std.specs.Prelude.{IfSome}
use Rattle.std.proofs.lemmas.List.{map-append}
use Rattle.std.proofs.lemmas.List.Elements.{filter-append}
use Rattle.larch_base.specs.declared.label.Label.{Label}
use Rattle.larch_base.specs.declared.label.Label.TheVariants.{Assume, Imply}
use Rattle.larch_raw.specs.declared.equation.RawTrait.{RawTrait}
use Rattle.larch_term.specs.declared.statement.Statement.{Statement}
use Rattle.larch_term.specs.declared.statement.Theory.{Theory}
use Rattle.larch_base_meaning.specs.Steps.{after}
use Rattle.larch_flat_meaning.specs.Flat.{FlatTrait}
use Rattle.larch_flat_meaning.specs.Gathered.{Gathered}
use Rattle.larch_flat_meaning.specs.Laws.{gathered_in}
use Rattle.larch_flat_meaning.specs.Stops.{Stop}
use Rattle.larch_duties_meaning.specs.Conversions.{Conversion}
use Rattle.larch_duties_meaning.specs.Duties.{Duties, Duty, label_all}
use Rattle.larch_flat.specs.FlatSourcesSources.{Table}
use Rattle.larch_flat.specs.Parts.{flat_trait, parts_of}
use Rattle.larch_duties.specs.Kept.{duties_in, theory_in}
use Rattle.larch_duties.specs.Own.{is_assumed, is_implied, own_claims, statements_with, trait_own_claims}
use Rattle.larch_duties.specs.TraitDuties.{claims_of, flat_with, trait_duties}
use Rattle.larch_duties.specs.declared.own.OwnClaims.{OwnClaims}

-- ---- statements of duties of a kind

with_joined : (kind : Label → Bool) (ds es : List Duty)
    → statements_with kind (ds ++ es) ≡ statements_with kind ds ++ statements_with kind es
with_joined kind ds es =
    ap (map (λ (d : Duty). d.statement)) (filter-append (λ (d : Duty). kind d.label) ds es)
    ∙ map-append (λ (d : Duty). d.statement) (filter (λ (d : Duty). kind d.label) ds)
    (filter (λ (d : Duty). kind d.label) es)

-- duties of the kind
with_all : (kind : Label → Bool) (label : ℕ → Label) → ((n : ℕ) → kind (label n) ≡ true) → (n : ℕ) (t : Theory)
    (ss : List Statement) → statements_with kind (label_all label n t ss) ≡ ss
with_all kind label so n t [] = refl
with_all kind label so n t (s ∷ ss) =
    let d : Duty = record { label = label n; theory = t; statement = s } in
    let ds : List Duty = filter (λ (d : Duty). kind d.label) (label_all label (suc n) t ss) in
    ap (λ b. map (λ (d : Duty). d.statement) (cond b (d ∷ ds) ds)) (so n)
    ∙ ap (λ rs. s ∷ rs) (with_all kind label so (suc n) t ss)

-- duties of another kind
with_none : (kind : Label → Bool) (label : ℕ → Label) → ((n : ℕ) → kind (label n) ≡ false) → (n : ℕ) (t : Theory)
    (ss : List Statement) → statements_with kind (label_all label n t ss) ≡ []
with_none kind label other n t [] = refl
with_none kind label other n t (s ∷ ss) =
    let d : Duty = record { label = label n; theory = t; statement = s } in
    let ds : List Duty = filter (λ (d : Duty). kind d.label) (label_all label (suc n) t ss) in
    ap (λ b. map (λ (d : Duty). d.statement) (cond b (d ∷ ds) ds)) (other n)
    ∙ with_none kind label other (suc n) t ss

append_none : {A : Type 0} (xs : List A) → xs ++ [] ≡ xs
append_none [] = refl
append_none (x ∷ xs) = ap (λ ys. x ∷ ys) (append_none xs)

pub assumed_are : (t : Theory) (discharge implied : List Statement)
    → statements_with is_assumed (label_all Assume 1 t discharge ++ label_all Imply 1 t implied) ≡ discharge
assumed_are t discharge implied =
    with_joined is_assumed (label_all Assume 1 t discharge) (label_all Imply 1 t implied)
    ∙ ap₂ (λ ss rs. ss ++ rs) (with_all is_assumed Assume (λ _. refl) 1 t discharge)
    (with_none is_assumed Imply (λ _. refl) 1 t implied)
    ∙ append_none discharge

pub implied_are : (t : Theory) (discharge implied : List Statement)
    → statements_with is_implied (label_all Assume 1 t discharge ++ label_all Imply 1 t implied) ≡ implied
implied_are t discharge implied =
    with_joined is_implied (label_all Assume 1 t discharge) (label_all Imply 1 t implied)
    ∙ ap₂ (λ ss rs. ss ++ rs) (with_none is_implied Assume (λ _. refl) 1 t discharge)
    (with_all is_implied Imply (λ _. refl) 1 t implied)

same_own : (own other : OwnClaims) → own.theory ≡ other.theory → own.assumed ≡ other.assumed
    → own.implied ≡ other.implied → own ≡ other
same_own own other t a i =
    ap (λ x. record { theory = x; assumed = own.assumed; implied = own.implied }) t
    ∙ ap (λ x. record { theory = other.theory; assumed = x; implied = own.implied }) a
    ∙ ap (λ x. record { theory = other.theory; assumed = other.assumed; implied = x }) i

-- what is kept of duties is what is claimed
pub own_kept : (raw : RawTrait) (g other : Gathered) (implied : List Statement) (cs : List Conversion) (own : OwnClaims)
    → own.theory ≡ theory_in g → own.assumed ≡ other.discharge → own.implied ≡ implied
    → own ≡ own_claims (flat_with raw g) (duties_in other implied cs)
own_kept raw g other implied cs own t a i =
    same_own own (own_claims (flat_with raw g) (duties_in other implied cs)) t
    (a ∙ sym (assumed_are (theory_in other) other.discharge implied))
    (i ∙ sym (implied_are (theory_in other) other.discharge implied))

-- ---- the trait of a name

same_parts : (t : FlatTrait) (g : Gathered) → parts_of (Ok t) ≡ Ok g → gathered_in t ≡ g
same_parts t g e = cc

own_by : (claims : FlatTrait → Result Duties Stop) (r : Result FlatTrait Stop) (g : Gathered) (d : Duties)
    (own : OwnClaims)
    → parts_of r ≡ Ok g → after r claims ≡ Ok d → ((raw : RawTrait) → own ≡ own_claims (flat_with raw g) d)
    → after r (λ flat. after (claims flat) (λ d. Ok (own_claims flat d))) ≡ Ok own
own_by claims (Err s) g d own p e h = cc
own_by claims (Ok flat) g d own p e h =
    ap (λ r. after r (λ d. Ok (own_claims flat d))) e
    ∙ ap Ok (ap (λ h. own_claims (flat_with flat.raw h) d) (same_parts flat g p) ∙ sym (h flat.raw))

-- all is right
pub own_told : (sources : Table) (name : List ℕ) (g : Gathered) (d : Duties) (own : OwnClaims)
    → parts_of (flat_trait sources name) ≡ Ok g → trait_duties sources name ≡ Ok d
    → ((raw : RawTrait) → own ≡ own_claims (flat_with raw g) d) → trait_own_claims sources name ≡ Ok own
own_told sources name g d own p e h = own_by (claims_of sources) (flat_trait sources name) g d own p e h

stopped_by : (claims : FlatTrait → Result Duties Stop) (r : Result FlatTrait Stop) (s : Stop) → after r claims ≡ Err s
    → after r (λ flat. after (claims flat) (λ d. Ok (own_claims flat d))) ≡ Err s
stopped_by claims (Err t) s e = cc
stopped_by claims (Ok flat) s e = ap (λ r. after r (λ d. Ok (own_claims flat d))) e

-- the duties are wrong
pub own_stopped : (sources : Table) (name : List ℕ) (o : Option Stop)
    → IfSome o (λ s. trait_duties sources name ≡ Err s)
    → IfSome o (λ s. trait_own_claims sources name ≡ Err s)
own_stopped sources name None h = tt
own_stopped sources name (Some s) h = stopped_by (claims_of sources) (flat_trait sources name) s h

-- the flat trait is wrong
pub no_own : (sources : Table) (name : List ℕ) (s : Stop) → flat_trait sources name ≡ Err s
    → trait_own_claims sources name ≡ Err s
no_own sources name s e =
    ap (λ r. after r (λ flat. after (claims_of sources flat) (λ d. Ok (own_claims flat d)))) e
