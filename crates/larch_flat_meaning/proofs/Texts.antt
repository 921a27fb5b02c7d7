-- A flat trait has the text of its file.
use Rattle.std.proofs.Common.{◌≡◌, ℕ, suc, not, List, Option, Some, None, Result, Ok, Err, ap}
use Rattle.std.specs.Prelude.{bytes_eq}
use Rattle.larch_base.specs.declared.code.Code.TheVariants.{TraitName}
use Rattle.larch_base.specs.declared.fault.Fault.{Fault}
use Rattle.larch_raw.specs.declared.equation.RawTrait.{RawTrait}
use Rattle.larch_shorthand.specs.BaseMeaningSteps.{after, all_taken}
use Rattle.larch_shorthand.proofs.TraitsItemsKept.{after_was, ok_inj}
use Rattle.larch_flat_meaning.specs.Files.{Files}
use Rattle.larch_flat_meaning.specs.Flat.{FlatTrait, finish_trait, flat, flat_by, flat_file, take_own, take_reference}
use Rattle.larch_flat_meaning.specs.Flat.{take_rest, take_shorthand, within}
use Rattle.larch_flat_meaning.specs.Gathered.{Gathered, nothing}
use Rattle.larch_flat_meaning.specs.Stops.{Stop, surely}
use Rattle.larch_flat_meaning.proofs.Gathering.{stopped_if_was, surely_was}

rest_text : (raw : RawTrait) (g : Gathered) (t : FlatTrait) → take_rest raw g ≡ Ok t → raw ≡ t.raw
rest_text raw g t e =
    let p = after_was (all_taken take_shorthand raw.shorthands g)
    (λ h. after (take_own raw h) (λ i. after (within raw.name.pos i) (λ j. Ok (finish_trait raw j)))) t e in
    let q = after_was (take_own raw p.0) (λ i. after (within raw.name.pos i) (λ j. Ok (finish_trait raw j))) t p.2 in
    let s = after_was (within raw.name.pos q.0) (λ j. Ok (finish_trait raw j)) t q.2 in
    let same : finish_trait raw s.0 ≡ t = ok_inj s.2 in
    ap (λ x. x.raw) same

file_text : (limit : ℕ) (files : Files) (name : List ℕ) (next : List ℕ → Result FlatTrait Stop) (t : FlatTrait)
    (text : Option (Result RawTrait Fault)) → flat_file limit files name next text ≡ Ok t → text ≡ Some (Ok t.raw)
file_text limit files name next t None e = cc
file_text limit files name next t (Some (Err f)) e = cc
file_text limit files name next t (Some (Ok raw)) e =
    let all : Result Gathered Stop = all_taken (take_reference limit files name next) raw.references nothing in
    let a = stopped_if_was TraitName raw.name.pos (not (bytes_eq raw.name.name name))
    (after all (λ g. surely (take_rest raw g))) t e in
    let b = after_was all (λ g. surely (take_rest raw g)) t a in
    ap (λ r. Some (Ok r)) (rest_text raw b.0 t (surely_was (take_rest raw b.0) t b.2))

-- the text of a flat trait is that of its file
pub flat_text : (limit : ℕ) (files : Files) (name : List ℕ) (t : FlatTrait) → flat limit files name ≡ Ok t
    → files name ≡ Some (Ok t.raw)
unfolding flat
flat_text limit files name t e =
    file_text (suc limit) files name (λ m. flat_by limit (suc limit) files m) t (files name) e
