-- What each step of gathering keeps, every flat trait has.
use Rattle.std.proofs.Common.{◌≡◌, ℕ, zero, suc, Bool, true, false, not, refl, List, [], ◌∷◌, All, Option, Some, None}
use Rattle.std.proofs.Common.{Result, Ok, Err, ap, subst}
use Rattle.std.specs.Prelude.{bytes_eq, is_none}
use Rattle.std.specs.List.{list_any}
use Rattle.larch_base.specs.declared.code.Code.{Code}
use Rattle.larch_base.specs.declared.code.Code.TheVariants.{Cycle, Size, TraitName, UnknownTrait}
use Rattle.larch_base.specs.declared.fault.Fault.{Fault}
use Rattle.larch_base.specs.declared.position.Pos.{Pos}
use Rattle.larch_raw.specs.declared.equation.RawTrait.{RawTrait}
use Rattle.larch_raw.specs.declared.reference.RawReference.{RawReference}
use Rattle.larch_raw.specs.declared.shorthand.RawShorthand.{RawShorthand}
use Rattle.larch_shorthand.specs.BaseMeaningSteps.{after, all_taken}
use Rattle.larch_shorthand.proofs.TraitsItemsKept.{after_was, kept, ok_inj}
use Rattle.larch_flat_meaning.specs.Files.{Files, closure, target}
use Rattle.larch_flat_meaning.specs.Flat.{FlatTrait, finish_trait, flat, flat_by, flat_file, at_reference, take_flat}
use Rattle.larch_flat_meaning.specs.Flat.{take_new, take_own, take_reference, take_rest, take_shorthand, take_told}
use Rattle.larch_flat_meaning.specs.Flat.{within}
use Rattle.larch_flat_meaning.specs.Gathered.{Gathered, is_too_large, nothing}
use Rattle.larch_flat_meaning.specs.Laws.{gathered_in}
use Rattle.larch_flat_meaning.specs.Stops.{Refused, Stop, TooDeep, stopped_if, surely}
use Rattle.larch_flat_meaning.proofs.Proper.{refused_if_was}

pub stopped_if_was : {A : Type 0} (code : Code) (pos : Pos) (b : Bool) (next : Result A Stop) (x : A)
    → stopped_if code pos b next ≡ Ok x → next ≡ Ok x
stopped_if_was code pos true next x e = cc
stopped_if_was code pos false next x e = e

pub surely_was : {A : Type 0} (a : Result A Fault) (x : A) → surely a ≡ Ok x → a ≡ Ok x
surely_was (Ok y) x e = ap Ok (ok_inj e)
surely_was (Err f) x e = cc

pub referred_was : (pos : Pos) (a : Result FlatTrait Stop) (x : FlatTrait) → at_reference pos a ≡ Ok x → a ≡ Ok x
referred_was pos (Ok y) x e = e
referred_was pos (Err (Refused f)) x e = cc
referred_was pos (Err TooDeep) x e = cc

-- each step keeps a property of what is gathered: for traits that are written so, and so their references and their
-- shorthands
pub record Keeps (W : RawTrait → Type 0) (R : RawReference → Type 0) (S : RawShorthand → Type 0) (P : Gathered → Type 0)
    : Type 0 where
  pub references : (raw : RawTrait) → W raw → All R raw.references
  pub shorthands : (raw : RawTrait) → W raw → All S raw.shorthands
  pub begins : P nothing
  pub with_flat : (r : RawReference) (g h : Gathered) (t : FlatTrait) → R r → P (gathered_in t)
      → take_flat r g t ≡ Ok h → P g → P h
  pub with_shorthand : (s : RawShorthand) (g h : Gathered) → S s → take_shorthand s g ≡ Ok h → P g → P h
  pub with_own : (raw : RawTrait) (g h : Gathered) → W raw → take_own raw g ≡ Ok h → P g → P h
  pub ends : (raw : RawTrait) (g : Gathered) → P g → P (gathered_in (finish_trait raw g))

module _ (W : RawTrait → Type 0) (R : RawReference → Type 0) (S : RawShorthand → Type 0) (P : Gathered → Type 0)
    (keeps : Keeps W R S P) where
  by_reference : (limit : ℕ) (files : Files) (name : List ℕ) (next : List ℕ → Result FlatTrait Stop)
      → ((m : List ℕ) (t : FlatTrait) → next m ≡ Ok t → P (gathered_in t))
      → (r : RawReference) (g h : Gathered) → R r → take_reference limit files name next r g ≡ Ok h → P g → P h
  by_reference limit files name next k r g h w e i =
      let m : List ℕ = target r in let pos : Pos = r.target.name.pos in
      let a = stopped_if_was UnknownTrait pos (is_none (files m))
      (after (closure files limit (m ∷ [])) (take_new name r g (next m))) h e in
      let b = after_was (closure files limit (m ∷ [])) (take_new name r g (next m)) h a in
      let c = stopped_if_was Cycle pos (list_any (bytes_eq name) b.0) (take_told r g (next m)) h b.2 in
      let d = after_was (at_reference pos (next m)) (λ t. surely (take_flat r g t)) h c in
      keeps.with_flat r g h d.0 w (k m d.0 (referred_was pos (next m) d.0 d.1)) (surely_was (take_flat r g d.0) h d.2) i

  by_rest : (raw : RawTrait) (g : Gathered) (t : FlatTrait) → W raw → take_rest raw g ≡ Ok t → P g → P (gathered_in t)
  by_rest raw g t w e i =
      let p = after_was (all_taken take_shorthand raw.shorthands g)
      (λ h. after (take_own raw h) (λ j. after (within raw.name.pos j) (λ k. Ok (finish_trait raw k)))) t e in
      let q = after_was (take_own raw p.0) (λ j. after (within raw.name.pos j) (λ k. Ok (finish_trait raw k))) t p.2 in
      let s = after_was (within raw.name.pos q.0) (λ k. Ok (finish_trait raw k)) t q.2 in
      let same = (refused_if_was Size raw.name.pos (is_too_large q.0) (Ok q.0) s.0 s.1).1 in
      let shorts = kept take_shorthand S P (λ x b c v n k. keeps.with_shorthand x b c v n k) raw.shorthands g p.0
      (keeps.shorthands raw w) p.1 i in
      subst (λ u. P (gathered_in u)) (ok_inj s.2)
      (keeps.ends raw s.0 (subst P (ok_inj same) (keeps.with_own raw p.0 q.0 w q.1 shorts)))

  by_text : (limit : ℕ) (files : Files) (name : List ℕ) (next : List ℕ → Result FlatTrait Stop)
      → ((m : List ℕ) (t : FlatTrait) → next m ≡ Ok t → P (gathered_in t))
      → (text : Option (Result RawTrait Fault)) → ((raw : RawTrait) → text ≡ Some (Ok raw) → W raw) → (t : FlatTrait)
      → flat_file limit files name next text ≡ Ok t
      → P (gathered_in t)
  by_text limit files name next k None w t e = cc
  by_text limit files name next k (Some (Err f)) w t e = cc
  by_text limit files name next k (Some (Ok raw)) w t e =
      let all : Result Gathered Stop = all_taken (take_reference limit files name next) raw.references nothing in
      let a = stopped_if_was TraitName raw.name.pos (not (bytes_eq raw.name.name name))
      (after all (λ g. surely (take_rest raw g))) t e in
      let b = after_was all (λ g. surely (take_rest raw g)) t a in
      by_rest raw b.0 t (w raw refl) (surely_was (take_rest raw b.0) t b.2)
      (kept (take_reference limit files name next) R P
      (λ r g h v d i. by_reference limit files name next k r g h v d i) raw.references nothing b.0
      (keeps.references raw (w raw refl)) b.1 keeps.begins)

  by_depth : (files : Files) → ((name : List ℕ) (raw : RawTrait) → files name ≡ Some (Ok raw) → W raw)
      → (n limit : ℕ) (name : List ℕ) (t : FlatTrait)
      → flat_by n limit files name ≡ Ok t → P (gathered_in t)
  by_depth files w zero limit name t e = cc
  by_depth files w (suc n) limit name t e =
      by_text limit files name (λ m. flat_by n limit files m) (λ m u d. by_depth files w n limit m u d) (files name)
      (w name) t e

-- what the steps keep, the flat trait of each name has
pub every_flat : (W : RawTrait → Type 0) (R : RawReference → Type 0) (S : RawShorthand → Type 0) (P : Gathered → Type 0)
    → Keeps W R S P
    → (files : Files) → ((name : List ℕ) (raw : RawTrait) → files name ≡ Some (Ok raw) → W raw)
    → (limit : ℕ) (name : List ℕ) (t : FlatTrait)
    → flat limit files name ≡ Ok t → P (gathered_in t)
unfolding flat
every_flat W R S P keeps files w limit name t e = by_depth W R S P keeps files w (suc limit) (suc limit) name t e
