-- What a trait implies is stated over its operators.
use Rattle.std.proofs.Common.{◌≡◌, refl, ℕ, Bool, true, false, not, ◌&&◌, List, [], ◌∷◌, ◌++◌, map, All, Contains}
use Rattle.std.proofs.Common.{Result, Ok, inl, inr, sym, subst}
use Rattle.std.specs.Prelude.{filter, is_none}
use Rattle.std.proofs.lemmas.List.Elements.{All-nil, All-append, All-map, All-weaker}
use Rattle.larch_base.specs.declared.code.Code.TheVariants.{ImpliedOperator, UnknownTrait}
use Rattle.larch_base.specs.declared.position.Pos.{Pos}
use Rattle.larch_base.proofs.Members.{contains_cases, contains_none}
use Rattle.larch_raw.specs.declared.reference.RawRef.{RawRef}
use Rattle.larch_calculus.specs.RenamingRenaming.{KeepsBuiltIns, renamed_statement}
use Rattle.larch_term.specs.Operator.{PlainOperator}
use Rattle.larch_term.specs.declared.statement.Statement.{Statement}
use Rattle.larch_flat_meaning.specs.TraitsItemsItems.{items_state}
use Rattle.larch_base_meaning.specs.Steps.{after, all_taken}
use Rattle.larch_flat_meaning.proofs.TraitsItemsKept.{Any, after_was, all_any, kept, ok_inj}
use Rattle.larch_flat_meaning.proofs.TraitsItemsStated.{items_are}
use Rattle.larch_flat_meaning.specs.Files.{Files}
use Rattle.larch_flat_meaning.specs.Flat.{FlatTrait, flat, at_reference, renamed_mark, renamed_marked}
use Rattle.larch_flat_meaning.specs.Gathered.{Marked, stands_in, statements_in}
use Rattle.larch_flat_meaning.specs.Laws.{AreWorded, IsStatedOver}
use Rattle.larch_flat_meaning.specs.Replacements.{Replacements, new_operator, renaming, replacements_of}
use Rattle.larch_flat_meaning.specs.Stops.{Stop, surely}
use Rattle.larch_flat_meaning.proofs.Gathering.{referred_was, stopped_if_was, surely_was}
use Rattle.larch_flat_meaning.proofs.Proper.{proper_keeps, refused_if_was, renaming_fits, replacements_proper}
use Rattle.larch_flat_meaning.proofs.Sound.{found, marks_from}
use Rattle.larch_flat_meaning.proofs.Stated.{stated_renamed}
use Rattle.larch_flat_meaning.proofs.Theory.{all_left, flat_sound}
use Rattle.larch_duties_meaning.specs.Implied.{are_among, implied_statements, implied_by, is_among, take_implied}
use Rattle.larch_duties_meaning.specs.Implied.{take_reference}

not_false : (b : Bool) → not b ≡ false → b ≡ true
not_false true e = refl
not_false false e = sym e

both_true : (a b : Bool) → (a && b) ≡ true → (a ≡ true) × (b ≡ true)
both_true true b e = (refl, e)
both_true false b e = absurd cc

one_among : (own : List PlainOperator) (by : Replacements) (fs : List PlainOperator) → are_among own by fs ≡ true
    → (f : PlainOperator) → Contains fs f → Contains own (new_operator by f)
one_among own by [] e f c = absurd (contains_none f c)
one_among own by (h ∷ fs) e f c =
    let b = both_true (is_among own (new_operator by h)) (are_among own by fs) e in
    elim (contains_cases h f fs c) [
      | inl q ↦ subst (λ g. Contains own (new_operator by g)) q (found own (new_operator by h) b.0)
      | inr d ↦ one_among own by fs b.1 f d
    ]

-- what holds of all that implied references and items add holds of all that is implied
module _ (own : FlatTrait) (P : Statement → Type 0) (limit : ℕ) (files : Files)
    (by_other : (ref : RawRef) (other : FlatTrait) (by : Replacements) (ss : List Statement)
    → flat limit files ref.name.name ≡ Ok other → replacements_of other.operators other.raw.formals ref ≡ Ok by
    → implied_by own ref.name.pos other by ≡ Ok ss → All P ss)
    (by_items : (ss : List Statement) → items_state own.operators own.raw.implied_items ≡ Ok ss → All P ss) where
  by_trait : (ref : RawRef) (ss zs : List Statement) (other : FlatTrait) → flat limit files ref.name.name ≡ Ok other
      → take_implied own ref ss other ≡ Ok zs → All P ss → All P zs
  by_trait ref ss zs other f e a =
      let p = after_was (replacements_of other.operators other.raw.formals ref)
      (λ by. after (implied_by own ref.name.pos other by) (λ more. Ok (ss ++ more))) zs e in
      let q = after_was (implied_by own ref.name.pos other p.0) (λ more. Ok (ss ++ more)) zs p.2 in
      subst (All P) (ok_inj q.2) (All-append P ss q.0 a (by_other ref other p.0 q.0 f p.1 q.1))

  by_reference : (ref : RawRef) (ss zs : List Statement) → take_reference limit files own ref ss ≡ Ok zs → All P ss
      → All P zs
  by_reference ref ss zs e a =
      let next : Result FlatTrait Stop = at_reference ref.name.pos (flat limit files ref.name.name) in
      let r = stopped_if_was UnknownTrait ref.name.pos (is_none (files ref.name.name))
      (after next (λ other. surely (take_implied own ref ss other))) zs e in
      let p = after_was next (λ other. surely (take_implied own ref ss other)) zs r in
      by_trait ref ss zs p.0 (referred_was ref.name.pos (flat limit files ref.name.name) p.0 p.1)
      (surely_was (take_implied own ref ss p.0) zs p.2) a

  pub each_implied : (ss : List Statement) → implied_statements limit files own ≡ Ok ss → All P ss
  each_implied ss e =
      let all : Result (List Statement) Stop = all_taken (take_reference limit files own) own.raw.implied [] in
      let p =
      after_was all (λ zs. after (surely (items_state own.operators own.raw.implied_items))
      (λ more. Ok (zs ++ more))) ss e in
      let q = after_was (surely (items_state own.operators own.raw.implied_items)) (λ more. Ok (p.0 ++ more)) ss p.2 in
      subst (All P) (ok_inj q.2)
      (All-append P p.0 q.0
      (kept (take_reference limit files own) Any (All P) (λ ref b c _ s a. by_reference ref b c s a) own.raw.implied []
      p.0 (all_any own.raw.implied) p.1 (All-nil P))
      (by_items q.0 (surely_was (items_state own.operators own.raw.implied_items) q.0 q.1)))

-- the statements that are added for an implied trait are among its own by other names
pub implied_are : (P : Statement → Type 0) (own other : FlatTrait) (pos : Pos) (by : Replacements) (ss : List Statement)
    → All (λ m. P m.statement) (renamed_marked by other.marked) → implied_by own pos other by ≡ Ok ss → All P ss
implied_are P own other pos by ss news e =
    let new : Statement → Bool = (λ s. not (stands_in (statements_in own.marked) s)) in
    let r = refused_if_was ImpliedOperator pos (not (are_among own.operators by other.operators))
    (Ok (filter new (statements_in (renamed_marked by other.marked)))) ss e in
    subst (All P) (ok_inj r.1)
    (all_left P new (statements_in (renamed_marked by other.marked))
    (All-map P (λ m. m.statement) (renamed_marked by other.marked) news))

module _ (own : FlatTrait) where
  abbrev Own : Statement → Type 0
  Own s = IsStatedOver own.operators s

  abbrev OwnMark : Marked → Type 0
  OwnMark m = IsStatedOver own.operators m.statement

  stated_other : (pos : Pos) (other : FlatTrait) (by : Replacements) (ss : List Statement) → KeepsBuiltIns (renaming by)
      → All (λ m. IsStatedOver other.operators m.statement) other.marked → implied_by own pos other by ≡ Ok ss
      → All Own ss
  stated_other pos other by ss keeps marks e =
      let r = refused_if_was ImpliedOperator pos (not (are_among own.operators by other.operators))
      (Ok (filter (λ s. not (stands_in (statements_in own.marked) s)) (statements_in (renamed_marked by other.marked))))
      ss e in
      let come : (f : PlainOperator) → Contains other.operators f → Contains own.operators (new_operator by f) =
      one_among own.operators by other.operators (not_false (are_among own.operators by other.operators) r.0) in
      implied_are Own own other pos by ss
      (marks_from Own (map (renamed_mark by) other.marked) []
      (All-map OwnMark (renamed_mark by) other.marked
      (All-weaker (λ m. IsStatedOver other.operators m.statement)
      (λ m. IsStatedOver own.operators (renamed_statement (renaming by) m.statement))
      (λ m s. stated_renamed (renaming by) (renaming_fits by) keeps other.operators own.operators come m.statement s)
      other.marked marks))
      (All-nil OwnMark)) e

  -- all that is implied is stated over the trait's operators
  pub implied_stated : (files : Files) → AreWorded files → (limit : ℕ) (ss : List Statement)
      → implied_statements limit files own ≡ Ok ss → All Own ss
  implied_stated files w limit ss e =
      each_implied own Own limit files
      (λ ref other by zs f r s. stated_other ref.name.pos other by zs
      (proper_keeps by (replacements_proper other.operators other.raw.formals ref by r).0)
      (flat_sound files w limit ref.name.name other f).marked s)
      (items_are own.operators own.raw.implied_items) ss e
