-- What a trait implies by a reference.
use Rattle.std.proofs.Common.{◌≡◌, refl, sym, ap, ◌∙◌, subst, ℕ, Bool, true, false, length, List, [], ◌∷◌, ◌++◌, Option}
use Rattle.std.proofs.Common.{Some, None, Result, Ok, Err}
use Rattle.std.specs.Prelude.{◌&&◌, map, not, is_none, is_some, get_or}
use Rattle.std.specs.List.{list_all}
use Rattle.larch_base.specs.declared.code.Code.{Code}
use Rattle.larch_base.specs.declared.code.Code.TheVariants.{BadReference, ImpliedOperator, UnknownTrait}
use Rattle.larch_base.specs.declared.fault.Fault.{Fault}
use Rattle.larch_base.specs.declared.position.Pos.{Pos}
use Rattle.larch_raw.specs.declared.equation.RawTrait.{RawTrait}
use Rattle.larch_raw.specs.declared.reference.RawRef.{RawRef}
use Rattle.larch_term.specs.declared.statement.Statement.{Statement}
use Rattle.larch_flat_meaning.specs.SortsMeaningFaults.{fault}
use Rattle.larch_base_meaning.specs.Steps.{after, all_behind, all_taken}
use Rattle.larch_flat_meaning.proofs.TraitsItemsKept.{ok_inj}
use Rattle.larch_flat_meaning.specs.Flat.{FlatTrait, at_reference}
use Rattle.larch_term.specs.Operator.{PlainOperator}
use Rattle.larch_flat_meaning.specs.Gathered.{Gathered}
use Rattle.larch_flat_meaning.specs.Laws.{gathered_in}
use Rattle.larch_flat_meaning.specs.Replacements.{Replacements, new_operator, replacements_of}
use Rattle.larch_flat_meaning.specs.Stops.{Stop, Refused, refused_if, stopped_if, surely}
use Rattle.larch_duties_meaning.specs.Implied.{implied_by, is_among, take_implied, take_reference}
use Rattle.larch_flat.specs.FlatSourcesSources.{Table, files_in, name_at}
use Rattle.larch_flat.specs.Known.{Knows}
use Rattle.larch_flat.specs.Parts.{flat_trait, parts_of}
use Rattle.larch_flat.proofs.References.{flat_raw}
use Rattle.larch_duties.specs.Steps.{new_in, reference_implies, told_implies, trait_implies}
use Rattle.larch_duties.specs.TraitDuties.{flat_with}

flat_by : (raw : RawTrait) (g : Gathered) (answer : Result FlatTrait Stop) → parts_of answer ≡ Ok g
    → ((t : FlatTrait) → answer ≡ Ok t → t.raw ≡ raw)
    → answer ≡ Ok (flat_with raw g)
flat_by raw g (Ok t) e k =
    let q : gathered_in t ≡ g = ok_inj e in
    ap (λ r. Ok (flat_with r (gathered_in t))) (k t refl) ∙ ap (λ h. Ok (flat_with raw h)) q
flat_by raw g (Err s) e k = cc

refused_by : (s : Stop) (answer : Result FlatTrait Stop) → parts_of answer ≡ Err s → answer ≡ Err s
refused_by s (Ok t) e = cc
refused_by s (Err r) e = cc

-- the flat trait of a file by its text and by what is known of it
pub flat_known : (sources : Table) (known : List (Option (Result Gathered Fault))) (number : ℕ) (raw : RawTrait)
    (g : Gathered) → Knows sources known
    → files_in sources (name_at sources number) ≡ Some (Ok raw) → get_or known number None ≡ Some (Ok g)
    → flat_trait sources (name_at sources number) ≡ Ok (flat_with raw g)
flat_known sources known number raw g knows text at =
    flat_by raw g (flat_trait sources (name_at sources number)) (knows.flat number (Ok g) at)
    (λ t e. flat_raw (length sources) (files_in sources) (name_at sources number) raw t text e)

-- or what is wrong with it
pub flat_refused : (sources : Table) (known : List (Option (Result Gathered Fault))) (number : ℕ) (f : Fault)
    → Knows sources known
    → get_or known number None ≡ Some (Err f) → flat_trait sources (name_at sources number) ≡ Err (Refused f)
flat_refused sources known number f knows at =
    refused_by (Refused f) (flat_trait sources (name_at sources number)) (knows.flat number (Err f) at)

absent_by : (code : Code) (pos : Pos) (o : Option (Result RawTrait Fault)) (next : Result (List Statement) Stop)
    → is_some o ≡ false
    → stopped_if code pos (is_none o) next ≡ Err (Refused (fault code pos))
absent_by code pos None next e = refl
absent_by code pos (Some x) next e = cc

-- there is no file
pub reference_absent : (sources : Table) (own : FlatTrait) (ref : RawRef)
    → is_some (files_in sources ref.name.name) ≡ false
    → reference_implies sources own ref ≡ Err (Refused (fault UnknownTrait ref.name.pos))
reference_absent sources own ref e =
    absent_by UnknownTrait ref.name.pos (files_in sources ref.name.name)
    (told_implies own ref (flat_trait sources ref.name.name)) e

there : (sources : Table) (own : FlatTrait) (ref : RawRef) (text : Result RawTrait Fault)
    → files_in sources ref.name.name ≡ Some text
    → reference_implies sources own ref ≡ told_implies own ref (flat_trait sources ref.name.name)
there sources own ref text e =
    ap (λ o. stopped_if UnknownTrait ref.name.pos (is_none o) (told_implies own ref (flat_trait sources ref.name.name)))
    e

-- its trait is refused
pub reference_bad : (sources : Table) (known : List (Option (Result Gathered Fault))) (found : ℕ) (own : FlatTrait)
    (ref : RawRef) (text : Result RawTrait Fault) (f : Fault)
    → Knows sources known → name_at sources found ≡ ref.name.name → files_in sources (name_at sources found) ≡ Some text
    → get_or known found None ≡ Some (Err f)
    → reference_implies sources own ref ≡ Err (Refused (fault BadReference ref.name.pos))
reference_bad sources known found own ref text f knows named at is =
    there sources own ref text (subst (λ m. files_in sources m ≡ Some text) named at)
    ∙ ap (told_implies own ref) (subst (λ m. flat_trait sources m ≡ Err (Refused f)) named
    (flat_refused sources known found f knows is))

-- it is there
pub reference_told : (sources : Table) (known : List (Option (Result Gathered Fault))) (found : ℕ) (own : FlatTrait)
    (ref : RawRef) (raw : RawTrait) (g : Gathered)
    → Knows sources known → name_at sources found ≡ ref.name.name
    → files_in sources (name_at sources found) ≡ Some (Ok raw) → get_or known found None ≡ Some (Ok g)
    → reference_implies sources own ref ≡ surely (trait_implies own ref (flat_with raw g))
reference_told sources known found own ref raw g knows named at is =
    there sources own ref (Ok raw) (subst (λ m. files_in sources m ≡ Some (Ok raw)) named at)
    ∙ ap (told_implies own ref) (subst (λ m. flat_trait sources m ≡ Ok (flat_with raw g)) named
    (flat_known sources known found raw g knows at is))

pushed : (ss : List Statement) (r : Result (List Statement) Fault)
    → surely (after r (λ more. Ok (ss ++ more))) ≡ all_behind (surely r) ss
pushed ss (Err f) = refl
pushed ss (Ok more) = refl

more_by : (own : FlatTrait) (ref : RawRef) (ss : List Statement) (other : FlatTrait) (r : Result Replacements Fault)
    → surely (after r (λ by. after (implied_by own ref.name.pos other by) (λ more. Ok (ss ++ more))))
    ≡ all_behind (surely (after r (implied_by own ref.name.pos other))) ss
more_by own ref ss other (Err f) = refl
more_by own ref ss other (Ok by) = pushed ss (implied_by own ref.name.pos other by)

told_by : (own : FlatTrait) (ref : RawRef) (ss : List Statement) (r : Result FlatTrait Stop)
    → after r (λ other. surely (take_implied own ref ss other))
    ≡ all_behind (after r (λ other. surely (trait_implies own ref other))) ss
told_by own ref ss (Err s) = refl
told_by own ref ss (Ok other) = more_by own ref ss other (replacements_of other.operators other.raw.formals ref)

stopped_by : (pos : Pos) (b : Bool) (x y : Result (List Statement) Stop) (ss : List Statement) → x ≡ all_behind y ss
    → stopped_if UnknownTrait pos b x ≡ all_behind (stopped_if UnknownTrait pos b y) ss
stopped_by pos true x y ss e = refl
stopped_by pos false x y ss e = e

step : (sources : Table) (own : FlatTrait) (ref : RawRef) (ss : List Statement)
    → take_reference (length sources) (files_in sources) own ref ss ≡ all_behind (reference_implies sources own ref) ss
step sources own ref ss =
    let r = at_reference ref.name.pos (flat_trait sources ref.name.name) in
    stopped_by ref.name.pos (is_none (files_in sources ref.name.name))
    (after r (λ other. surely (take_implied own ref ss other)))
    (after r (λ other. surely (trait_implies own ref other))) ss (told_by own ref ss r)

after_same : {A B E : Type 0} (r : Result A E) (f g : A → Result B E) → ((x : A) → f x ≡ g x) → after r f ≡ after r g
after_same (Ok x) f g h = h x
after_same (Err e) f g h = refl

-- what all references imply
pub references_imply : (sources : Table) (own : FlatTrait) (refs : List RawRef) (ss : List Statement)
    → all_taken (take_reference (length sources) (files_in sources) own) refs ss
    ≡ all_taken (λ ref. all_behind (reference_implies sources own ref)) refs ss
references_imply sources own [] ss = refl
references_imply sources own (ref ∷ refs) ss =
    ap (λ r. after r (all_taken (take_reference (length sources) (files_in sources) own) refs))
    (step sources own ref ss)
    ∙ after_same (all_behind (reference_implies sources own ref) ss)
    (all_taken (take_reference (length sources) (files_in sources) own) refs)
    (all_taken (λ ref. all_behind (reference_implies sources own ref)) refs) (references_imply sources own refs)

all_mapped : (p : PlainOperator → Bool) (g : PlainOperator → PlainOperator) (fs : List PlainOperator)
    → list_all p (map g fs) ≡ list_all (λ f. p (g f)) fs
all_mapped p g [] = refl
all_mapped p g (f ∷ fs) = ap (λ b. p (g f) && b) (all_mapped p g fs)

-- what is implied, by the operators with their new names
implied_is : (own other : FlatTrait) (ref : RawRef) (by : Replacements) (gs : List PlainOperator) (b : Bool)
    → replacements_of other.operators other.raw.formals ref ≡ Ok by → gs ≡ map (new_operator by) other.operators
    → b ≡ not (list_all (is_among own.operators) gs)
    → trait_implies own ref other ≡ refused_if ImpliedOperator ref.name.pos b (Ok (new_in own.marked by other.marked))
implied_is own other ref by gs b e n t =
    ap (λ r. after r (implied_by own ref.name.pos other)) e
    ∙ ap (λ c. refused_if ImpliedOperator ref.name.pos (not c) (Ok (new_in own.marked by other.marked)))
    (sym (ap (list_all (is_among own.operators)) n
    ∙ all_mapped (is_among own.operators) (new_operator by) other.operators))
    ∙ ap (λ c. refused_if ImpliedOperator ref.name.pos c (Ok (new_in own.marked by other.marked))) (sym t)

-- an operator lacks, or none does
pub implied_told : (own other : FlatTrait) (ref : RawRef) (by : Replacements) (gs : List PlainOperator) (b c : Bool)
    → replacements_of other.operators other.raw.formals ref ≡ Ok by → gs ≡ map (new_operator by) other.operators
    → b ≡ not (list_all (is_among own.operators) gs) → b ≡ c
    → trait_implies own ref other ≡ refused_if ImpliedOperator ref.name.pos c (Ok (new_in own.marked by other.marked))
implied_told own other ref by gs b c e n t s = implied_is own other ref by gs c e n (sym s ∙ t)
