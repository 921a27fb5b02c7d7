-- What a store keeps once the parts of a flat trait are taken.
use Rattle.std.proofs.Common.{◌≡◌, refl, sym, ap, subst, ◌∙◌, ℕ, suc, ◌+◌, ◌<◌, Bool, true, false, length, get_or, map}
use Rattle.std.proofs.Common.{drop, List, [], ◌∷◌, Option, Some, None, Result, Ok, Err, arith}
use Rattle.std.specs.Prelude.{IfSome, fold, is_some}
use Rattle.std.specs.List.{slice_get}
use Rattle.std.proofs.lemmas.List.{drop_more}
use Rattle.std.proofs.lemmas.Option.{get_or_from_slice_get, slice_get-get_or}
use Rattle.larch_base.specs.declared.code.Code.TheVariants.{BadReference, Size}
use Rattle.larch_base.specs.declared.fault.Fault.{Fault}
use Rattle.larch_base.specs.declared.position.Pos.{Pos}
use Rattle.larch_raw.specs.declared.declared.RawForm.{RawForm}
use Rattle.larch_raw.specs.declared.equation.RawTrait.{RawTrait}
use Rattle.larch_raw.specs.declared.reference.RawReference.{RawReference}
use Rattle.larch_term.specs.Operator.{PlainOperator}
use Rattle.larch_term.specs.declared.statement.Statement.{Statement}
use Rattle.larch_flat_sources.specs.SortsMeaningFaults.{fault}
use Rattle.larch_flat_replacing.specs.RenamingRenaming.{renamed_statement}
use Rattle.larch_flat_sources.specs.TraitsItemsRefusal.{cause}
use Rattle.larch_base_meaning.specs.Steps.{after}
use Rattle.larch_flat_sources.specs.TraitsItemsRefusalTraitRefusal.{TraitRefusal}
use Rattle.larch_flat_sources.proofs.TraitsItemsKept.{ok_inj}
use Rattle.larch_flat_sources.specs.FlatMeaningFiles.{closure, is_there, target}
use Rattle.larch_flat_sources.specs.FlatMeaningFlat.{FlatTrait, renamed_mark, renamed_marked, with_mark, within}
use Rattle.larch_flat_sources.specs.FlatMeaningGathered.{Gathered, Marked, is_too_large, with_operators, with_statement}
use Rattle.larch_flat_sources.specs.FlatMeaningGathered.{with_taken}
use Rattle.larch_flat_sources.specs.FlatMeaningReplacements.{Replacements, new_operator, renaming, replacements_of}
use Rattle.larch_flat_sources.specs.FlatMeaningStops.{Stop, Refused, refused_if, surely}
use Rattle.larch_flat_gathering.specs.Keeping.{Keeps, KeepsAnswer, Leaves, Gathering}
use Rattle.larch_flat_sources.specs.Sources.{Table, files_in, name_at}
use Rattle.larch_flat_sources.proofs.Tables.{there_at}
use Rattle.larch_flat.specs.Known.{IsTarget, Knows, LeavesFlat, stop_told}
use Rattle.larch_flat.specs.Parts.{flat_trait, parts_of, with_new, with_parts, with_reference}
use Rattle.larch_flat.proofs.Answering.{refused_surely}
use Rattle.larch_flat.proofs.Files.{bad_text}
use Rattle.larch_flat.proofs.References.{flat_raw, flat_target, refused_target}
use Rattle.larch_flat.proofs.Targets.{led, unfolded}

marked_next : (ms : List Marked) (i : ℕ) (m : Marked) → i < length ms → Some m ≡ slice_get ms i
    → drop i ms ≡ m ∷ drop (i + 1) ms
marked_next ms i m lt e = drop_more ms i m lt ∙ ap (λ y. y ∷ drop (i + 1) ms) (get_or_from_slice_get ms i m m (sym e))

-- each number below the length has an element
pub no_more : {A : Type 0} (xs : List A) (i : ℕ) → i < length xs → None ≡ slice_get xs i → ⊥
no_more [] i lt e = omega (arith, lt)
no_more (x ∷ xs) i lt e = let s = slice_get-get_or (x ∷ xs) i x lt in cc

-- the next marked statement is taken
pub taken_next : (assumes : Bool) (before behind : Gathering) (ms : List Marked) (i : ℕ) (s z : Statement)
    (assumed : Bool) (whole : Gathered) → i < length ms
    → Some (record { statement = s; assumed = assumed }) ≡ slice_get ms i → z ≡ s
    → ((h : Gathered) → Keeps before h
    → Keeps behind (with_taken assumes (record { statement = z; assumed = assumed }) h))
    → (h : Gathered) × Keeps before h × (fold (λ k m. with_taken assumes m k) h (drop i ms) ≡ whole)
    → (h : Gathered) × Keeps behind h × (fold (λ k m. with_taken assumes m k) h (drop (i + 1) ms) ≡ whole)
taken_next assumes before behind ms i s z assumed whole lt at same took p =
    let m : Marked = record { statement = s; assumed = assumed } in (
      with_taken assumes m p.0,
      subst (λ y. Keeps behind (with_taken assumes (record { statement = y; assumed = assumed }) p.0)) same
          (took p.0 p.1),
      sym (ap (fold (λ k m. with_taken assumes m k) p.0) (marked_next ms i m lt at)) ∙ p.2,
    )

-- the next marked statement is renamed
pub renamed_next : (by : Replacements) (before behind ms : List Marked) (i : ℕ) (s z : Statement) (assumed : Bool)
    (whole : List Marked) → i < length ms
    → Some (record { statement = s; assumed = assumed }) ≡ slice_get ms i → z ≡ renamed_statement (renaming by) s
    → behind ≡ with_statement z assumed before
    → fold with_mark before (map (renamed_mark by) (drop i ms)) ≡ whole
    → fold with_mark behind (map (renamed_mark by) (drop (i + 1) ms)) ≡ whole
renamed_next by before behind ms i s z assumed whole lt at same put e =
    let m : Marked = record { statement = s; assumed = assumed } in
    ap (λ x. fold with_mark x (map (renamed_mark by) (drop (i + 1) ms)))
    (put ∙ ap (λ y. with_statement y assumed before) same)
    ∙ sym (ap (λ xs. fold with_mark before (map (renamed_mark by) xs)) (marked_next ms i m lt at)) ∙ e

pub within_is : (pos : Pos) (g : Gathered) (b : Bool) → is_too_large g ≡ b → within pos g ≡ refused_if Size pos b (Ok g)
within_is pos g b e = ap (λ x. refused_if Size pos x (Ok g)) e

-- what is gathered once all is taken, by what the calls answered
pub new_parts : (r : RawReference) (by names : Replacements) (fs os ns : List PlainOperator) (fm ms : List Marked)
    (g : Gathered) → names ≡ by → os ≡ map (new_operator names) fs → ns ≡ os
    → ms ≡ renamed_marked names fm
    → fold (λ h m. with_taken r.assumed m h) (with_operators ns g) ms ≡ with_new r by fs fm g
new_parts r by names fs os ns fm ms g n o s m =
    ap (λ x. fold (λ h m. with_taken r.assumed m h) (with_operators x g) ms) (s ∙ o)
    ∙ ap (λ x. fold (λ h m. with_taken r.assumed m h) (with_operators (map (new_operator names) fs) g) x) m
    ∙ ap (λ x. with_new r x fs fm g) n

-- names can be given
pub parts_taken : (r : RawReference) (formals : List RawForm) (fs : List PlainOperator) (fm : List Marked)
    (g : Gathered) (by : Replacements) → replacements_of fs formals r.target ≡ Ok by
    → with_parts r formals fs fm g ≡ within r.target.name.pos (with_new r by fs fm g)
parts_taken r formals fs fm g by e = ap (λ o. after o (λ by. within r.target.name.pos (with_new r by fs fm g))) e

left_surely : {Value : Type 0} (store : Gathering) (result : Result Value TraitRefusal) (a : Result Gathered Fault)
    → Leaves store result a → LeavesFlat store result (surely a)
left_surely store (Ok v) (Ok g) h = h
left_surely store (Ok v) (Err f) h = h
left_surely store (Err r) a h = refused_surely (cause r) a h

there_by : (sources : Table) (name : List ℕ) (text : Result RawTrait Fault) → files_in sources name ≡ Some text
    → is_there (files_in sources) name ≡ true
there_by sources name text e = ap is_some e

-- the flat trait that a reference names is taken
pub target_flat : {Value : Type 0} (sources : Table) (known : List (Option (Result Gathered Fault))) (number found : ℕ)
    (r : RawReference) (raw : RawTrait) (flat g : Gathered) (store : Gathering)
    (result : Result Value TraitRefusal) → Knows sources known → IsTarget sources number r found
    → files_in sources (name_at sources found) ≡ Some (Ok raw)
    → get_or known found None ≡ Some (Ok flat)
    → Leaves store result (with_parts r raw.formals flat.operators flat.marked g)
    → LeavesFlat store result (with_reference sources (name_at sources number) r g)
target_flat sources known number found r raw flat g store result knows is text at left =
    let there = there_by sources (name_at sources found) (Ok raw) text in
    let p = led sources (name_at sources found) there in
    let same : name_at sources found ≡ target r = is.named in
    let e : with_reference sources (name_at sources number) r g
    ≡ surely (with_parts r raw.formals flat.operators flat.marked g) =
    flat_target (suc (length sources)) (files_in sources) (name_at sources number) (flat_trait sources) r g p.0
    (subst (λ m. is_there (files_in sources) m ≡ true) same there)
    (ap (λ m. closure (files_in sources) (suc (length sources)) (m ∷ [])) (sym same) ∙ p.1)
    (is.away (suc (length sources)) p.0 p.1) raw.formals flat
    (subst (λ m. parts_of (flat_trait sources m) ≡ Ok flat) same (knows.flat found (Ok flat) at))
    (λ t f. ap (λ w. w.formals) (flat_raw (length sources) (files_in sources) (target r) raw t
    (subst (λ m. files_in sources m ≡ Some (Ok raw)) same text) f)) in
    subst (LeavesFlat store result) (sym e)
    (left_surely store result (with_parts r raw.formals flat.operators flat.marked g) left)

-- or it is refused
pub target_bad : (sources : Table) (known : List (Option (Result Gathered Fault))) (number found : ℕ) (r : RawReference)
    (f : Fault) (g : Gathered)
    → Knows sources known → IsTarget sources number r found
    → get_or known found None ≡ Some (Err f)
    → with_reference sources (name_at sources number) r g ≡ Err (Refused (fault BadReference r.target.name.pos))
target_bad sources known number found r f g knows is at =
    let there = there_at sources found is.within in
    let p = led sources (name_at sources found) there in
    let same : name_at sources found ≡ target r = is.named in
    refused_target (suc (length sources)) (files_in sources) (name_at sources number) (flat_trait sources) r g p.0
    (subst (λ m. is_there (files_in sources) m ≡ true) same there)
    (ap (λ m. closure (files_in sources) (suc (length sources)) (m ∷ [])) (sym same) ∙ p.1)
    (is.away (suc (length sources)) p.0 p.1) f
    (subst (λ m. parts_of (flat_trait sources m) ≡ Err (Refused f)) same (knows.flat found (Err f) at))

-- a text that is wrong has no flat trait
pub no_flat : (sources : Table) (known : List (Option (Result Gathered Fault))) (found : ℕ) (f : Fault)
    (flat : Gathered) → Knows sources known
    → files_in sources (name_at sources found) ≡ Some (Err f) → get_or known found None ≡ Some (Ok flat) → ⊥
no_flat sources known found f flat knows text at =
    let e : parts_of (flat_trait sources (name_at sources found)) ≡ Ok flat = knows.flat found (Ok flat) at in
    let b = bad_text sources (name_at sources found) f (unfolded sources (name_at sources found)) text in
    let q : parts_of (flat_trait sources (name_at sources found)) ≡ Err (Refused f) = ap parts_of b in
    let n : Ok flat ≡ Err (Refused f) = sym e ∙ q in cc
