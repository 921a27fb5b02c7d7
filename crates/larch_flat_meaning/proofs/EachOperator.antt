-- What holds of each operator that a step of gathering brings holds of each operator of a flat trait.
use Rattle.std.proofs.Common.{◌≡◌, refl, Bool, true, false, cond, List, [], ◌∷◌, ◌++◌, map, All, Ok, sym, subst, ◌∙◌}
use Rattle.std.specs.Prelude.{fold}
use Rattle.std.specs.List.{list_any}
use Rattle.std.proofs.lemmas.List.Elements.{All-nil, All-head, All-tail, All-map, All-push, All-weaker}
use Rattle.larch_base.specs.declared.code.Code.TheVariants.{Size}
use Rattle.larch_raw.specs.declared.equation.RawTrait.{RawTrait}
use Rattle.larch_raw.specs.declared.reference.RawReference.{RawReference}
use Rattle.larch_raw.specs.declared.shorthand.RawShorthand.{RawShorthand}
use Rattle.larch_term.specs.Equality.{same_operator}
use Rattle.larch_term.specs.Operator.{PlainOperator}
use Rattle.larch_term.specs.declared.statement.Statement.{Statement}
use Rattle.larch_shorthand.specs.TraitsItemsDeclarations.{declared_operators}
use Rattle.larch_shorthand.specs.TraitsItemsItems.{items_state}
use Rattle.larch_shorthand.proofs.TraitsItemsKept.{after_was, ok_inj}
use Rattle.larch_shorthand.specs.Shorthand.{expand}
use Rattle.larch_shorthand.specs.declared.expansion.Expansion.{Expansion}
use Rattle.larch_flat_meaning.specs.Flat.{FlatTrait, renamed_marked, take_flat, take_items, take_own, take_shorthand}
use Rattle.larch_flat_meaning.specs.Flat.{with_renamed, within}
use Rattle.larch_flat_meaning.specs.Gathered.{Gathered, Marked, is_too_large, with_asserted, with_marked, with_operator}
use Rattle.larch_flat_meaning.specs.Gathered.{with_operators, with_taken}
use Rattle.larch_flat_meaning.specs.Replacements.{Replacements, new_operator, replacements_of}
use Rattle.larch_flat_meaning.proofs.Gathering.{Keeps}
use Rattle.larch_flat_meaning.proofs.Proper.{refused_if_was}
use Rattle.larch_flat_meaning.proofs.Sound.{taken_operators}

-- each operator that a step brings has a property: by the names that a reference gives, of a shorthand, declared
pub record Brings (W : RawTrait → Type 0) (R : RawReference → Type 0) (S : RawShorthand → Type 0)
    (P : PlainOperator → Type 0) : Type 0 where
  pub references : (raw : RawTrait) → W raw → All R raw.references
  pub shorthands : (raw : RawTrait) → W raw → All S raw.shorthands
  pub renames : (r : RawReference) (t : FlatTrait) (by : Replacements) → R r
      → replacements_of t.operators t.raw.formals r.target ≡ Ok by
      → (f : PlainOperator) → P f → P (new_operator by f)
  pub expands : (s : RawShorthand) (x : Expansion) → S s → expand s ≡ Ok x → All P x.operators
  pub declares : (raw : RawTrait) (fs : List PlainOperator) → W raw
      → declared_operators raw.declarations ≡ Ok fs → All P fs

-- the operators that are gathered have the property
abbrev pub HaveOperators : (PlainOperator → Type 0) → Gathered → Type 0
HaveOperators P g = All P g.operators

with_by : (P : PlainOperator → Type 0) (fs : List PlainOperator) (f : PlainOperator) (b : Bool) → All P fs → P f
    → All P (cond b fs (fs ++ f ∷ []))
with_by P fs f true h k = h
with_by P fs f false h k = All-push P fs f h k

with_each : (P : PlainOperator → Type 0) (fs os : List PlainOperator) → All P os → All P fs
    → All P (fold with_operator os fs)
with_each P [] os h k = h
with_each P (f ∷ fs) os h k =
    with_each P fs (with_operator os f) (with_by P os f (list_any (same_operator f) os) h (All-head P f fs k))
    (All-tail P f fs k)

all_taken_same : (assumes : Bool) (ms : List Marked) (g : Gathered)
    → (fold (λ h m. with_taken assumes m h) g ms).operators ≡ g.operators
all_taken_same assumes [] g = refl
all_taken_same assumes (m ∷ ms) g = all_taken_same assumes ms (with_taken assumes m g) ∙ taken_operators assumes m g

asserted_same : (ss : List Statement) (g : Gathered) → (with_asserted ss g).operators ≡ g.operators
asserted_same [] g = refl
asserted_same (s ∷ ss) g = asserted_same ss (with_marked false s g)

module _ (W : RawTrait → Type 0) (R : RawReference → Type 0) (S : RawShorthand → Type 0) (P : PlainOperator → Type 0)
    (brings : Brings W R S P) where
  after_flat : (r : RawReference) (g h : Gathered) (t : FlatTrait) → R r → All P t.operators → take_flat r g t ≡ Ok h
      → HaveOperators P g → HaveOperators P h
  after_flat r g h t w i e k =
      let p = after_was (replacements_of t.operators t.raw.formals r.target)
      (λ by. within r.target.name.pos (with_renamed r.assumed t by g)) h e in
      let by : Replacements = p.0 in
      let q = refused_if_was Size r.target.name.pos (is_too_large (with_renamed r.assumed t by g))
      (Ok (with_renamed r.assumed t by g)) h p.2 in
      let news : List PlainOperator = map (new_operator by) t.operators in
      subst (HaveOperators P) (ok_inj q.1)
      (subst (All P) (sym (all_taken_same r.assumed (renamed_marked by t.marked) (with_operators news g)))
      (with_each P news g.operators k
      (All-map P (new_operator by) t.operators
      (All-weaker P (λ f. P (new_operator by f)) (brings.renames r t by w p.1) t.operators i))))

  after_shorthand : (s : RawShorthand) (g h : Gathered) → S s → take_shorthand s g ≡ Ok h → HaveOperators P g
      → HaveOperators P h
  after_shorthand s g h w e i =
      let p = after_was (expand s) (λ x. Ok (with_asserted x.statements (with_operators x.operators g))) h e in
      let x : Expansion = p.0 in
      subst (HaveOperators P) (ok_inj p.2)
      (subst (All P) (sym (asserted_same x.statements (with_operators x.operators g)))
      (with_each P x.operators g.operators i (brings.expands s x w p.1)))

  after_own : (raw : RawTrait) (g h : Gathered) → W raw → take_own raw g ≡ Ok h → HaveOperators P g → HaveOperators P h
  after_own raw g h w e i =
      let p = after_was (declared_operators raw.declarations) (λ fs. take_items raw (with_operators fs g)) h e in
      let q = after_was (items_state (with_operators p.0 g).operators raw.items)
      (λ ss. Ok (with_asserted ss (with_operators p.0 g))) h p.2 in
      subst (HaveOperators P) (ok_inj q.2)
      (subst (All P) (sym (asserted_same q.0 (with_operators p.0 g)))
      (with_each P p.0 g.operators i (brings.declares raw p.0 w p.1)))

-- so each operator that is gathered has it
pub each_operator : (W : RawTrait → Type 0) (R : RawReference → Type 0) (S : RawShorthand → Type 0)
    (P : PlainOperator → Type 0) → Brings W R S P
    → Keeps W R S (HaveOperators P)
each_operator W R S P brings =
    record {
      references = brings.references;
      shorthands = brings.shorthands;
      begins = All-nil P;
      with_flat = after_flat W R S P brings;
      with_shorthand = after_shorthand W R S P brings;
      with_own = after_own W R S P brings;
      ends = λ raw g h. h;
    }
