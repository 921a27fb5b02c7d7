-- What is gathered is within the limits.
use Rattle.std.proofs.Common.{◌≡◌, ◌≤◌, ◌||◌, Bool, true, false, cond, length, List, [], ◌∷◌, ◌++◌, subst, arith}
use Rattle.std.proofs.Common.{Result, Ok, Err}
use Rattle.std.specs.Prelude.{fold, nat_lt}
use Rattle.std.specs.List.{list_any}
use Rattle.std.proofs.lemmas.List.{length-append}
use Rattle.larch_base.specs.declared.fault.Fault.{Fault}
use Rattle.larch_base.specs.declared.limits.TheConstants.{MAX_OPERATORS, MAX_STATEMENTS, MAX_TRAIT_NODES}
use Rattle.larch_base.proofs.Bools.{or_left}
use Rattle.larch_term.specs.Equality.{same_operator}
use Rattle.larch_term.specs.Operator.{PlainOperator}
use Rattle.larch_term.specs.declared.statement.Statement.{Statement}
use Rattle.larch_shorthand.specs.TraitsItemsDeclarations.{declared_operators}
use Rattle.larch_shorthand.specs.TraitsItemsItems.{items_state}
use Rattle.larch_base.specs.declared.code.Code.TheVariants.{Size}
use Rattle.larch_base.specs.declared.position.Pos.{Pos}
use Rattle.larch_raw.specs.declared.equation.RawTrait.{RawTrait}
use Rattle.larch_raw.specs.declared.reference.RawReference.{RawReference}
use Rattle.larch_shorthand.specs.BaseMeaningSteps.{after, all_taken}
use Rattle.larch_shorthand.proofs.TraitsItemsKept.{after_was, ok_inj}
use Rattle.larch_flat_meaning.specs.Flat.{FlatTrait, finish_trait, take_flat, take_items, take_own, take_rest}
use Rattle.larch_flat_meaning.specs.Flat.{take_shorthand, with_renamed, within}
use Rattle.larch_flat_meaning.specs.Gathered.{Gathered, is_too_large, nodes_in, with_asserted, with_operator}
use Rattle.larch_flat_meaning.specs.Gathered.{with_operators}
use Rattle.larch_flat_meaning.specs.Laws.{gathered_in}
use Rattle.larch_flat_meaning.specs.Replacements.{replacements_of}
use Rattle.larch_flat_meaning.proofs.Proper.{refused_if_was}

within_bounded : (pos : Pos) (g h : Gathered) → within pos g ≡ Ok h → is_too_large h ≡ false
within_bounded pos g h e =
    let r = refused_if_was Size pos (is_too_large g) (Ok g) h e in
    subst (λ k. is_too_large k ≡ false) (ok_inj r.1) r.0

pub flat_bounded : (r : RawReference) (g h : Gathered) (t : FlatTrait) → take_flat r g t ≡ Ok h → is_too_large h ≡ false
flat_bounded r g h t e =
    let p = after_was (replacements_of t.operators t.raw.formals r.target)
    (λ by. within r.target.name.pos (with_renamed r.assumed t by g)) h e in
    within_bounded r.target.name.pos (with_renamed r.assumed t p.0 g) h p.2

pub rest_bounded : (raw : RawTrait) (g : Gathered) (t : FlatTrait) → take_rest raw g ≡ Ok t
    → is_too_large (gathered_in t) ≡ false
rest_bounded raw g t e =
    let p = after_was (all_taken take_shorthand raw.shorthands g)
    (λ h. after (take_own raw h) (λ i. after (within raw.name.pos i) (λ j. Ok (finish_trait raw j)))) t e in
    let q = after_was (take_own raw p.0) (λ i. after (within raw.name.pos i) (λ j. Ok (finish_trait raw j))) t p.2 in
    let s = after_was (within raw.name.pos q.0) (λ j. Ok (finish_trait raw j)) t q.2 in
    subst (λ u. is_too_large (gathered_in u) ≡ false) (ok_inj s.2) (within_bounded raw.name.pos q.0 s.0 s.1)

grow_by : (os : List PlainOperator) (f : PlainOperator) (b : Bool) → length os ≤ length (cond b os (os ++ f ∷ []))
grow_by os f true = omega arith
grow_by os f false = let l = length-append os (f ∷ []) in omega (arith, l)

pub operators_grow : (fs os : List PlainOperator) → length os ≤ length (fold with_operator os fs)
operators_grow [] os = omega arith
operators_grow (f ∷ fs) os =
    let k = operators_grow fs (with_operator os f) in let j = grow_by os f (list_any (same_operator f) os) in
    omega (arith, k, j)

pub too_many : (g : Gathered) → nat_lt MAX_OPERATORS (length g.operators) ≡ true → is_too_large g ≡ true
too_many g e =
    or_left (nat_lt MAX_OPERATORS (length g.operators))
    (nat_lt MAX_STATEMENTS (length g.marked) || nat_lt MAX_TRAIT_NODES (nodes_in g.marked)) e

items_refused : (r : Result (List Statement) Fault) (j k : Gathered) (f : Fault)
    → after r (λ ss. Ok (with_asserted ss j)) ≡ Err f → after r (λ ss. Ok (with_asserted ss k)) ≡ Err f
items_refused (Ok ss) j k f e = cc
items_refused (Err x) j k f e = e

own_by : (raw : RawTrait) (g h : Gathered) (f : Fault) → g.operators ≡ h.operators
    → (d : Result (List PlainOperator) Fault)
    → after d (λ fs. take_items raw (with_operators fs g)) ≡ Err f
    → after d (λ fs. take_items raw (with_operators fs h)) ≡ Err f
own_by raw g h f same (Ok fs) e =
    subst (λ os. after (items_state (fold with_operator os fs) raw.items)
    (λ ss. Ok (with_asserted ss (with_operators fs h))) ≡ Err f) same
    (items_refused (items_state (fold with_operator g.operators fs) raw.items) (with_operators fs g)
    (with_operators fs h) f e)
own_by raw g h f same (Err x) e = e

pub own_refused : (raw : RawTrait) (g h : Gathered) (f : Fault) → g.operators ≡ h.operators → take_own raw g ≡ Err f
    → take_own raw h ≡ Err f
own_refused raw g h f same e = own_by raw g h f same (declared_operators raw.declarations) e
