-- The duties of a trait, by what its parts claim.
use Rattle.std.proofs.Common.{◌≡◌, refl, sym, ap, ◌∙◌, Bool, length, List, [], ◌++◌, map, Option, Some, None, Result}
use Rattle.std.proofs.Common.{Ok, Err}
use Rattle.std.specs.Prelude.{IfSome, nat_lt, option_map}
use Rattle.larch_base.specs.declared.code.Code.TheVariants.{Size}
use Rattle.larch_base.specs.declared.fault.Fault.{Fault}
use Rattle.larch_base.specs.declared.limits.TheConstants.{MAX_DUTIES}
use Rattle.larch_raw.specs.declared.equation.RawTrait.{RawTrait}
use Rattle.larch_term.specs.declared.statement.Statement.{Statement}
use Rattle.larch_flat_meaning.specs.TraitsItemsItems.{items_state}
use Rattle.larch_base_meaning.specs.Steps.{after, all_behind, all_taken, each}
use Rattle.larch_flat_meaning.specs.Flat.{FlatTrait, theory_of}
use Rattle.larch_flat_meaning.specs.Gathered.{Gathered, new_among}
use Rattle.larch_flat_meaning.specs.Stops.{Stop, Refused, refused_if, surely}
use Rattle.larch_duties_meaning.specs.Conversions.{Conversion, clause_over, conversion_of}
use Rattle.larch_duties_meaning.specs.Duties.{all_duties, duties, duties_of, not_too_many, with_clauses}
use Rattle.larch_duties_meaning.specs.Implied.{implied_statements}
use Rattle.larch_flat.specs.FlatSourcesSources.{Table, files_in}
use Rattle.larch_duties.specs.Kept.{duties_in}
use Rattle.larch_duties.specs.Steps.{reference_implies}
use Rattle.larch_duties.specs.TraitDuties.{claims_of, flat_with}
use Rattle.larch_duties.proofs.References.{references_imply}

-- what all references of a trait imply, by each
abbrev pub by_references : Table → FlatTrait → Result (List Statement) Stop
by_references sources own = all_taken (λ ref. all_behind (reference_implies sources own ref)) own.raw.implied []

-- what a trait implies, by what its references do
pub implied_is : (sources : Table) (own : FlatTrait)
    → implied_statements (length sources) (files_in sources) own
    ≡ after (by_references sources own)
    (λ ss. after (surely (items_state own.operators own.raw.implied_items)) (λ more. Ok (ss ++ more)))
implied_is sources own =
    ap (λ r. after r (λ ss. after (surely (items_state own.operators own.raw.implied_items)) (λ more. Ok (ss ++ more))))
    (references_imply sources own own.raw.implied [])

-- a reference is wrong
pub references_wrong : (sources : Table) (own : FlatTrait) (o : Option Stop)
    → IfSome o (λ s. by_references sources own ≡ Err s)
    → IfSome o (λ s. implied_statements (length sources) (files_in sources) own ≡ Err s)
references_wrong sources own None h = tt
references_wrong sources own (Some s) h =
    implied_is sources own ∙ ap (λ r.
    after r (λ ss. after (surely (items_state own.operators own.raw.implied_items)) (λ more. Ok (ss ++ more)))) h

-- an item is wrong
pub items_wrong : (sources : Table) (own : FlatTrait) (ss : List Statement) (o : Option Fault)
    → by_references sources own ≡ Ok ss
    → IfSome o (λ f. items_state own.operators own.raw.implied_items ≡ Err f)
    → IfSome (option_map Refused o) (λ s. implied_statements (length sources) (files_in sources) own ≡ Err s)
items_wrong sources own ss None e h = tt
items_wrong sources own ss (Some f) e h =
    implied_is sources own ∙ ap (λ r.
    after r (λ ss. after (surely (items_state own.operators own.raw.implied_items)) (λ more. Ok (ss ++ more)))) e
    ∙ ap (λ r. after (surely r) (λ more. Ok (ss ++ more))) h

-- all are right
pub implied_told : (sources : Table) (own : FlatTrait) (ss more : List Statement) → by_references sources own ≡ Ok ss
    → items_state own.operators own.raw.implied_items ≡ Ok more
    → implied_statements (length sources) (files_in sources) own ≡ Ok (ss ++ more)
implied_told sources own ss more e h =
    implied_is sources own ∙ ap (λ r.
    after r (λ ss. after (surely (items_state own.operators own.raw.implied_items)) (λ more. Ok (ss ++ more)))) e
    ∙ ap (λ r. after (surely r) (λ more. Ok (ss ++ more))) h

claimed_is : (sources : Table) (own : FlatTrait)
    → claims_of sources own ≡ after (implied_statements (length sources) (files_in sources) own)
    (λ ss. surely (with_clauses own ss))
unfolding duties
claimed_is sources own = refl

-- what it implies is wrong
pub claims_stopped : (sources : Table) (own : FlatTrait) (o : Option Stop)
    → IfSome o (λ s. implied_statements (length sources) (files_in sources) own ≡ Err s)
    → IfSome o (λ s. claims_of sources own ≡ Err s)
claims_stopped sources own None h = tt
claims_stopped sources own (Some s) h =
    claimed_is sources own ∙ ap (λ r. after r (λ ss. surely (with_clauses own ss))) h

-- a clause is wrong
pub clauses_wrong : (sources : Table) (own : FlatTrait) (ss : List Statement) (o : Option Fault)
    → implied_statements (length sources) (files_in sources) own ≡ Ok ss
    → IfSome o (λ f. each (conversion_of own.operators) own.raw.conversions ≡ Err f)
    → IfSome (option_map Refused o) (λ s. claims_of sources own ≡ Err s)
clauses_wrong sources own ss None e h = tt
clauses_wrong sources own ss (Some f) e h =
    claimed_is sources own ∙ ap (λ r. after r (λ ss. surely (with_clauses own ss))) e
    ∙ ap
    (λ r.
    surely (after r (λ cs. not_too_many own.raw.name.pos (duties_of own ss (map (clause_over (theory_of own)) cs))))) h

claims_told : (sources : Table) (raw : RawTrait) (g : Gathered) (ss : List Statement) (cs : List Conversion) (b : Bool)
    → implied_statements (length sources) (files_in sources) (flat_with raw g) ≡ Ok ss
    → each (conversion_of g.operators) raw.conversions ≡ Ok cs
    → b ≡ nat_lt MAX_DUTIES (length (all_duties (duties_in g (new_among g.discharge ss) cs)))
    → claims_of sources (flat_with raw g)
    ≡ surely (refused_if Size raw.name.pos b (Ok (duties_in g (new_among g.discharge ss) cs)))
claims_told sources raw g ss cs b e h t =
    let own = flat_with raw g in
    claimed_is sources own ∙ ap (λ r. after r (λ ss. surely (with_clauses own ss))) e
    ∙ ap
    (λ r.
    surely (after r (λ cs. not_too_many own.raw.name.pos (duties_of own ss (map (clause_over (theory_of own)) cs))))) h
    ∙ ap (λ c. surely (refused_if Size raw.name.pos c (Ok (duties_in g (new_among g.discharge ss) cs)))) (sym t)

-- all are right, and there may be too many duties
pub claims_kept : (sources : Table) (raw : RawTrait) (g : Gathered) (ss is : List Statement)
    (cs : List Conversion) (b : Bool)
    → implied_statements (length sources) (files_in sources) (flat_with raw g) ≡ Ok ss
    → each (conversion_of g.operators) raw.conversions ≡ Ok cs
    → is ≡ new_among g.discharge ss → b ≡ nat_lt MAX_DUTIES (length (all_duties (duties_in g is cs)))
    → claims_of sources (flat_with raw g) ≡ surely (refused_if Size raw.name.pos b (Ok (duties_in g is cs)))
claims_kept sources raw g ss is cs b e h n t =
    claims_told sources raw g ss cs b e h (t ∙ ap (λ xs. nat_lt MAX_DUTIES (length (all_duties (duties_in g xs cs)))) n)
    ∙ ap (λ xs. surely (refused_if Size raw.name.pos b (Ok (duties_in g xs cs)))) (sym n)

-- nothing is implied
nothing_implied : (sources : Table) (own : FlatTrait) → own.raw.implied ≡ [] → own.raw.implied_items ≡ []
    → implied_statements (length sources) (files_in sources) own ≡ Ok []
nothing_implied sources own e h =
    implied_told sources own [] []
    (ap (λ refs. all_taken (λ ref. all_behind (reference_implies sources own ref)) refs []) e)
    (ap (items_state own.operators) h)

-- nothing is implied or converted, and there may be too much that is to be discharged
pub claims_none : (sources : Table) (raw : RawTrait) (g : Gathered) (is : List Statement) (cs : List Conversion)
    (b : Bool)
    → raw.implied ≡ [] → raw.implied_items ≡ [] → raw.conversions ≡ [] → is ≡ [] → cs ≡ []
    → b ≡ nat_lt MAX_DUTIES (length (all_duties (duties_in g is cs)))
    → claims_of sources (flat_with raw g) ≡ surely (refused_if Size raw.name.pos b (Ok (duties_in g is cs)))
claims_none sources raw g is cs b e h k i j t =
    claims_kept sources raw g [] is cs b (nothing_implied sources (flat_with raw g) e h)
    (ap (each (conversion_of g.operators)) k ∙ ap Ok (sym j)) i t
