-- What is reached over all references decides duties.
use Rattle.std.proofs.Common.{◌≡◌, refl, arith, ℕ, ◌+◌, ◌≤◌, length, List, [], ◌++◌, map, Contains, Result, Ok, Err}
use Rattle.std.proofs.Common.{ap, sym, subst, ◌∙◌}
use Rattle.std.specs.Prelude.{is_none}
use Rattle.larch_base.specs.declared.code.Code.TheVariants.{UnknownTrait}
use Rattle.larch_base.proofs.Members.{contains_map, contains_right}
use Rattle.larch_raw.specs.declared.reference.RawRef.{RawRef}
use Rattle.larch_term.specs.declared.statement.Statement.{Statement}
use Rattle.larch_flat_meaning.specs.TraitsItemsItems.{items_state}
use Rattle.larch_base_meaning.specs.Steps.{after}
use Rattle.larch_flat_meaning.specs.Files.{Files, target}
use Rattle.larch_flat_meaning.specs.Flat.{FlatTrait, at_reference, flat}
use Rattle.larch_flat_meaning.specs.Laws.{AreAmong}
use Rattle.larch_flat_meaning.specs.Reached.{AgreeOn, AreReached, all_targets_in, implied_target}
use Rattle.larch_flat_meaning.specs.Stops.{stopped_if, surely}
use Rattle.larch_flat_meaning.proofs.Agreement.{all_same, flat_reached_only}
use Rattle.larch_flat_meaning.proofs.Closures.{Names}
use Rattle.larch_flat_meaning.proofs.Every.{every_contained}
use Rattle.larch_flat_meaning.proofs.Reached.{agree_from, all_follow, depths_same, flat_same, name_reached}
use Rattle.larch_flat_meaning.proofs.Texts.{flat_text}
use Rattle.larch_duties_meaning.specs.Duties.{duties, duties_named, with_clauses}
use Rattle.larch_duties_meaning.specs.Implied.{implied_statements, take_implied, take_reference}

-- files of which the implied traits of a trait are the same
module _ (limit deep : ℕ) (files other : Files) (own : FlatTrait)
    (same : (m : List ℕ) → Contains (map implied_target own.raw.implied) m
    → (files m ≡ other m) × (flat limit files m ≡ flat deep other m)) where
  reference_same : (ref : RawRef) → Contains own.raw.implied ref → (ss : List Statement)
      → take_reference limit files own ref ss ≡ take_reference deep other own ref ss
  reference_same ref c ss =
      let m : List ℕ = ref.name.name in
      let h = same m (contains_map implied_target own.raw.implied ref c) in
      ap (λ o. stopped_if UnknownTrait ref.name.pos (is_none o)
      (after (at_reference ref.name.pos (flat limit files m)) (λ t. surely (take_implied own ref ss t)))) h.0
      ∙ ap (λ a. stopped_if UnknownTrait ref.name.pos (is_none (other m))
      (after (at_reference ref.name.pos a) (λ t. surely (take_implied own ref ss t)))) h.1

  implied_same : implied_statements limit files own ≡ implied_statements deep other own
  implied_same =
      ap (λ a. after a (λ ss. after (surely (items_state own.operators own.raw.implied_items))
      (λ more. Ok (ss ++ more))))
      (all_same (take_reference limit files own) (take_reference deep other own) own.raw.implied []
      (every_contained
      (λ ref. (ss : List Statement) → take_reference limit files own ref ss ≡ take_reference deep other own ref ss)
      own.raw.implied reference_same))

  -- its duties are the same
  claims_same : duties limit files own ≡ duties deep other own
  unfolding duties
  claims_same = ap (λ a. after a (λ ss. surely (with_clauses own ss))) implied_same

told_same : {A B E : Type 0} (a : Result A E) (go to : A → Result B E) → ((x : A) → a ≡ Ok x → go x ≡ to x)
    → after a go ≡ after a to
told_same (Ok x) go to h = h x refl
told_same (Err e) go to h = refl

-- what is reached from a name decides its duties
pub duties_reached : (files other : Files) (name : List ℕ) (names : Names) → AreReached files name names
    → AgreeOn names files other → (limit : ℕ) → duties_named limit files name ≡ duties_named limit other name
duties_reached files other name names v a limit =
    told_same (flat limit files name) (duties limit files) (duties limit other)
    (λ own e. claims_same limit limit files other own
    (λ m c. let text = flat_text limit files name own e in
    let in_names : Contains names m = all_follow files name names v name (name_reached files name names v) m
    (subst (λ o. Contains (all_targets_in o) m) (sym text)
    (contains_right (map target own.raw.references) (map implied_target own.raw.implied) m c)) in
    (a m in_names, flat_reached_only limit files other m (agree_from files other name names v a m in_names))))
    ∙ ap (λ r. after r (duties limit other)) (flat_same files other name names v a limit)

-- and it doesn't matter how deep references are followed, if deep enough
pub duties_depths : (files : Files) (all : Names) → AreAmong files all → (limit other : ℕ) → length all ≤ limit
    → length all ≤ other → (name : List ℕ) → duties_named limit files name ≡ duties_named other files name
duties_depths files all among limit other h k name =
    told_same (flat limit files name) (duties limit files) (duties other files)
    (λ own e. claims_same limit other files files own (λ m c. (refl, depths_same files all among limit other h k m)))
    ∙ ap (λ r. after r (duties other files)) (depths_same files all among limit other h k name)

-- the duties of a trait are the same elsewhere
pub duties_elsewhere : (files other : Files) (all others : Names) → AreAmong files all → AreAmong other others
    → (name : List ℕ) (names : Names) → AreReached files name names → AgreeOn names files other
    → (limit deep : ℕ) → length all ≤ limit → length others ≤ deep
    → duties_named limit files name ≡ duties_named deep other name
duties_elsewhere files other all others among amid name names v a limit deep h k =
    let far : ℕ = limit + deep in
    duties_depths files all among limit far h (omega (arith, h)) name
    ∙ duties_reached files other name names v a far
    ∙ duties_depths other others amid far deep (omega (arith, k)) k name
