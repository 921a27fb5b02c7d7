-- What is gathered with a reference, by what is told of the file that it names.
use Rattle.std.proofs.Common.{◌≡◌, refl, sym, ap, ◌∙◌, ℕ, Bool, true, false, List, [], ◌∷◌, Option, Some}
use Rattle.std.proofs.Common.{None, Result, Ok, Err}
use Rattle.std.specs.Prelude.{bytes_eq, is_none, is_some}
use Rattle.std.specs.List.{list_any}
use Rattle.larch_base.specs.declared.code.Code.{Code}
use Rattle.larch_base.specs.declared.code.Code.TheVariants.{BadReference, Cycle, UnknownTrait}
use Rattle.larch_base.specs.declared.fault.Fault.{Fault}
use Rattle.larch_base.specs.declared.position.Pos.{Pos}
use Rattle.larch_base.proofs.Options.{some_inj}
use Rattle.larch_raw.specs.declared.declared.RawForm.{RawForm}
use Rattle.larch_raw.specs.declared.equation.RawTrait.{RawTrait}
use Rattle.larch_raw.specs.declared.reference.RawReference.{RawReference}
use Rattle.larch_flat_sources.specs.SortsMeaningFaults.{fault}
use Rattle.larch_base_meaning.specs.Steps.{after}
use Rattle.larch_flat_sources.proofs.TraitsItemsKept.{ok_inj}
use Rattle.larch_flat_sources.specs.FlatMeaningFiles.{Files, closure, target}
use Rattle.larch_flat_sources.specs.FlatMeaningFlat.{FlatTrait, flat}
use Rattle.larch_flat_sources.specs.FlatMeaningFlat.{take_flat, take_new, take_reference}
use Rattle.larch_flat_sources.specs.FlatMeaningFlat.{take_told}
use Rattle.larch_flat_sources.specs.FlatMeaningGathered.{Gathered}
use Rattle.larch_flat_sources.specs.FlatMeaningLaws.{gathered_in}
use Rattle.larch_flat_sources.specs.FlatMeaningStops.{Stop, Refused, TooDeep, stopped_if, surely}
use Rattle.larch_flat_sources.proofs.FlatMeaningTexts.{flat_text}
use Rattle.larch_flat.specs.Parts.{parts_of, with_parts}

-- a text as it is known to be there
none_is : (o : Option (Result RawTrait Fault)) → is_some o ≡ false → is_none o ≡ true
none_is None e = refl
none_is (Some x) e = cc

some_is : (o : Option (Result RawTrait Fault)) → is_some o ≡ true → is_none o ≡ false
some_is None e = cc
some_is (Some x) e = refl

stopped_here : {A : Type 0} (code : Code) (pos : Pos) (b : Bool) (next : Result A Stop) → b ≡ true
    → stopped_if code pos b next ≡ Err (Refused (fault code pos))
stopped_here code pos true next e = refl
stopped_here code pos false next e = cc

stopped_past : {A : Type 0} (code : Code) (pos : Pos) (b : Bool) (next : Result A Stop) → b ≡ false
    → stopped_if code pos b next ≡ next
stopped_past code pos true next e = cc
stopped_past code pos false next e = refl

-- there is no file
pub unknown_target : (limit : ℕ) (files : Files) (name : List ℕ) (next : List ℕ → Result FlatTrait Stop)
    (r : RawReference) (g : Gathered) → is_some (files (target r)) ≡ false
    → take_reference limit files name next r g ≡ Err (Refused (fault UnknownTrait r.target.name.pos))
unknown_target limit files name next r g e =
    stopped_here UnknownTrait r.target.name.pos (is_none (files (target r))) _ (none_is (files (target r)) e)

-- there is one: what it leads to is looked at
found_target : (limit : ℕ) (files : Files) (name : List ℕ) (next : List ℕ → Result FlatTrait Stop) (r : RawReference)
    (g : Gathered) (ms : List (List ℕ)) → is_some (files (target r)) ≡ true
    → closure files limit (target r ∷ []) ≡ Ok ms
    → take_reference limit files name next r g ≡ take_new name r g (next (target r)) ms
found_target limit files name next r g ms e c =
    stopped_past UnknownTrait r.target.name.pos (is_none (files (target r))) _ (some_is (files (target r)) e)
    ∙ ap (λ o. after o (take_new name r g (next (target r)))) c

-- it leads back
pub cyclic_target : (limit : ℕ) (files : Files) (name : List ℕ) (next : List ℕ → Result FlatTrait Stop)
    (r : RawReference) (g : Gathered) (ms : List (List ℕ)) → is_some (files (target r)) ≡ true
    → closure files limit (target r ∷ []) ≡ Ok ms → list_any (bytes_eq name) ms ≡ true
    → take_reference limit files name next r g ≡ Err (Refused (fault Cycle r.target.name.pos))
cyclic_target limit files name next r g ms e c b =
    found_target limit files name next r g ms e c
    ∙ stopped_here Cycle r.target.name.pos (list_any (bytes_eq name) ms) (take_told r g (next (target r))) b

-- it doesn't: its flat trait is asked for
asked_target : (limit : ℕ) (files : Files) (name : List ℕ) (next : List ℕ → Result FlatTrait Stop) (r : RawReference)
    (g : Gathered) (ms : List (List ℕ)) → is_some (files (target r)) ≡ true
    → closure files limit (target r ∷ []) ≡ Ok ms → list_any (bytes_eq name) ms ≡ false
    → take_reference limit files name next r g ≡ take_told r g (next (target r))
asked_target limit files name next r g ms e c b =
    found_target limit files name next r g ms e c
    ∙ stopped_past Cycle r.target.name.pos (list_any (bytes_eq name) ms) (take_told r g (next (target r))) b

refused_told : (r : RawReference) (g : Gathered) (answer : Result FlatTrait Stop) (f : Fault)
    → parts_of answer ≡ Err (Refused f) → take_told r g answer ≡ Err (Refused (fault BadReference r.target.name.pos))
refused_told r g (Ok t) f e = cc
refused_told r g (Err (Refused x)) f e = refl
refused_told r g (Err TooDeep) f e = cc

-- its trait is refused
pub refused_target : (limit : ℕ) (files : Files) (name : List ℕ) (next : List ℕ → Result FlatTrait Stop)
    (r : RawReference) (g : Gathered) (ms : List (List ℕ)) → is_some (files (target r)) ≡ true
    → closure files limit (target r ∷ []) ≡ Ok ms → list_any (bytes_eq name) ms ≡ false → (f : Fault)
    → parts_of (next (target r)) ≡ Err (Refused f)
    → take_reference limit files name next r g ≡ Err (Refused (fault BadReference r.target.name.pos))
refused_target limit files name next r g ms e c b f p =
    asked_target limit files name next r g ms e c b ∙ refused_told r g (next (target r)) f p

-- a flat trait by its parts
flat_parts : (r : RawReference) (g : Gathered) (t : FlatTrait) (parts : Gathered) → gathered_in t ≡ parts
    → take_flat r g t ≡ with_parts r t.raw.formals parts.operators parts.marked g
flat_parts r g t parts e = ap (λ p. with_parts r t.raw.formals p.operators p.marked g) e

-- the text of a flat trait is that of its file
pub flat_raw : (limit : ℕ) (files : Files) (name : List ℕ) (raw : RawTrait) (t : FlatTrait) → files name ≡ Some (Ok raw)
    → flat limit files name ≡ Ok t → t.raw ≡ raw
flat_raw limit files name raw t o e = ok_inj (some_inj (sym (flat_text limit files name t e) ∙ o))

told_parts : (r : RawReference) (g : Gathered) (formals : List RawForm) (parts : Gathered)
    (answer : Result FlatTrait Stop) → parts_of answer ≡ Ok parts
    → ((t : FlatTrait) → answer ≡ Ok t → t.raw.formals ≡ formals)
    → take_told r g answer ≡ surely (with_parts r formals parts.operators parts.marked g)
told_parts r g formals parts (Ok t) e k =
    let q : gathered_in t ≡ parts = ok_inj e in
    ap surely (flat_parts r g t parts q ∙ ap (λ fs. with_parts r fs parts.operators parts.marked g) (k t refl))
told_parts r g formals parts (Err stop) e k = cc

-- its trait is told
pub flat_target : (limit : ℕ) (files : Files) (name : List ℕ) (next : List ℕ → Result FlatTrait Stop) (r : RawReference)
    (g : Gathered) (ms : List (List ℕ)) → is_some (files (target r)) ≡ true
    → closure files limit (target r ∷ []) ≡ Ok ms → list_any (bytes_eq name) ms ≡ false
    → (formals : List RawForm) (parts : Gathered) → parts_of (next (target r)) ≡ Ok parts
    → ((t : FlatTrait) → next (target r) ≡ Ok t → t.raw.formals ≡ formals)
    → take_reference limit files name next r g ≡ surely (with_parts r formals parts.operators parts.marked g)
flat_target limit files name next r g ms e c b formals parts p k =
    asked_target limit files name next r g ms e c b ∙ told_parts r g formals parts (next (target r)) p k
