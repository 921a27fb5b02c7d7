-- Critical pairs of well sorted rules are well sorted.
use Rattle.std.proofs.Common.{◌≡◌, ℕ, zero, suc, ◌+◌, inl, inr, Bool, List, [], ◌∷◌, ◌++◌, map, Some, Ok, All, Contains}
use Rattle.std.proofs.Common.{arith, refl, sym, ◌∙◌, ap, subst}
use Rattle.std.specs.Prelude.{codes}
use Rattle.std.specs.Fmt.{decimal}
use Rattle.std.proofs.lemmas.List.Elements.{All-nil, All-cons}
use Rattle.std.proofs.lemmas.Option.{option_and_then_some}
use Rattle.larch_base.proofs.Members.{contains_cases, contains_either, contains_none, contained_in_map}
use Rattle.larch_base.proofs.Options.{some_inj}
use Rattle.larch_term.specs.Operator.{PlainOperator}
use Rattle.larch_term.specs.Place.{argument, at, put}
use Rattle.larch_term.specs.Sorts.{sort_of, WellSorted}
use Rattle.larch_term.specs.Substitution.{instance_of, Fits}
use Rattle.larch_term.specs.Tree.{Tree, Forest, var, app, none, more}
use Rattle.larch_term.specs.declared.substitution.Entry.{Entry}
use Rattle.larch_term.specs.declared.variable.Variable.{Variable}
use Rattle.larch_pairs.proofs.TermLawPlaces.{at_well_sorted, put_sort, put_well_sorted}
use Rattle.larch_pairs.proofs.TermLawSubstitutions.{substituted_sort, substituted_well_sorted}
use Rattle.larch_pairs.proofs.Fitting.{application_unifier_fits}
use Rattle.larch_pairs.proofs.Solving.{unifier_unifies}
use Rattle.larch_pairs.specs.Unify.{unify, variables_of_both}
use Rattle.larch_pairs_critical.proofs.Every.{all_pairs, pair_from}
use Rattle.larch_pairs_critical.specs.Overlap.{AreSorted, IsApplication}
use Rattle.larch_pairs_critical.specs.Pairs.{apart, critical_pairs, inner_places, inner_places_from, marking}
use Rattle.larch_pairs_critical.specs.Pairs.{name_variables, number_variables, pair_variables, raw_pair}
use Rattle.larch_pairs_critical.specs.declared.pair.Pair.{Pair}
use Rattle.larch_pairs_critical.specs.declared.pair.Rule.{Rule}

-- what stands at a place below arguments before which a number of arguments stands
abbrev StandsBelow : ℕ → Forest → List ℕ → Type 0
StandsBelow k ts p =
    (j : ℕ) × (q : List ℕ) × (suc (k + j) ∷ q ≡ p)
    × ((w u : Tree) → argument ts (suc j) ≡ Some w → at w q ≡ Some u → IsApplication u)

stands_later : (k : ℕ) (t : Tree) (ts : Forest) (p : List ℕ) → StandsBelow (suc k) ts p → StandsBelow k (more t ts) p
stands_later k t ts p (j, q, e, h) =
    let n : suc (k + suc j) ≡ suc (suc k + j) = omega arith in (suc j, q, ap (λ m. m ∷ q) n ∙ e, h)

below_root : (f : PlainOperator) (ts : Forest) (p : List ℕ) (u : Tree) → StandsBelow 0 ts p → at (app f ts) p ≡ Some u
    → IsApplication u
below_root f ts p u (j, q, e, h) a =
    let n : suc (0 + j) ≡ suc j = omega arith in
    let b : at (app f ts) (suc j ∷ q) ≡ Some u = ap (λ i. at (app f ts) (i ∷ q)) (sym n) ∙ ap (at (app f ts)) e ∙ a in
    option_and_then_some (λ w. at w q) (argument ts (suc j)) u b (λ w c d. h w u c d)

mutual
  -- at the places of the list applications stand
  pub stands_inner : (t : Tree) (p : List ℕ) → Contains (inner_places t) p → (u : Tree) → at t p ≡ Some u
      → IsApplication u
  stands_inner (var n s) p c u e = absurd (contains_none p c)
  stands_inner (app f ts) p c u e =
      elim (contains_cases [] p (inner_places_from 0 ts) c) [
        | inl i ↦ subst IsApplication (some_inj (ap (at (app f ts)) i ∙ e)) tt
        | inr d ↦ below_root f ts p u (stands_below 0 ts p d) e
      ]

  stands_below : (k : ℕ) (ts : Forest) (p : List ℕ) → Contains (inner_places_from k ts) p → StandsBelow k ts p
  stands_below k none p c = absurd (contains_none p c)
  stands_below k (more t ts) p c =
      elim (contains_either (map (λ q. suc k ∷ q) (inner_places t)) (inner_places_from (suc k) ts) p c) [
        | inl a ↦
            let m = contained_in_map (λ q. suc k ∷ q) (inner_places t) p a in
            let n : suc (k + 0) ≡ suc k = omega arith in (
              zero,
              m.0,
              ap (λ i. i ∷ m.0) n ∙ m.2,
              λ w u b e. stands_inner t m.0 m.1 u (ap (λ x. at x m.0) (some_inj b) ∙ e),
            )
        | inr b ↦ stands_later k t ts p (stands_below (suc k) ts p b)
      ]

abbrev EntryFits : Entry → Type 0
EntryFits e = WellSorted e.term × (sort_of e.term ≡ e.sort)

pub marked_fit : (k : ℕ) (vs : List Variable)
    → Fits (map (λ v. record { name = v.name; sort = v.sort; term = var (v.name ++ k ∷ []) v.sort }) vs)
marked_fit k [] = All-nil EntryFits
marked_fit k (v ∷ vs) =
    All-cons EntryFits (record { name = v.name; sort = v.sort; term = var (v.name ++ k ∷ []) v.sort })
    (map (λ v. record { name = v.name; sort = v.sort; term = var (v.name ++ k ∷ []) v.sort }) vs) (tt, refl)
    (marked_fit k vs)

pub numbered_fit : (k : ℕ) (vs : List Variable) → Fits (number_variables k vs)
numbered_fit k [] = All-nil EntryFits
numbered_fit k (v ∷ vs) =
    All-cons EntryFits (record { name = v.name; sort = v.sort; term = var (codes "v" ++ decimal k) v.sort })
    (number_variables (k + 1) vs)
    (tt, refl) (numbered_fit (k + 1) vs)

pub under_sorted : (es : List Entry) (l r : Tree) → Fits es → AreSorted l r
    → AreSorted (instance_of es l) (instance_of es r)
under_sorted es l r k h = (
  substituted_well_sorted es l k h.0,
  substituted_well_sorted es r k h.1,
  substituted_sort es r k ∙ h.2 ∙ sym (substituted_sort es l k),
)

pub under_application : (es : List Entry) (t : Tree) → IsApplication t → IsApplication (instance_of es t)
under_application es (var n s) c = absurd c
under_application es (app f ts) c = tt

pub unifying_fits : (t l : Tree) (u : List Entry) → WellSorted t → WellSorted l → IsApplication t → IsApplication l
    → unify t l ≡ Ok (Some u) → Fits u
unifying_fits (var n s) l u a b c d e = absurd c
unifying_fits (app f ts) (var n s) u a b c d e = absurd d
unifying_fits (app f ts) (app g us) u a b c d e = application_unifier_fits f g ts us u a b e

raw_sorted : (one two : Rule) (p : List ℕ) (t : Tree) (u : List Entry) → at one.left p ≡ Some t
    → AreSorted one.left one.right
    → AreSorted two.left two.right → unify t two.left ≡ Ok (Some u) → Fits u
    → AreSorted (instance_of u (put one.left p two.right)) (instance_of u one.right)
raw_sorted one two p t u a h k e f =
    let s : sort_of two.right ≡ sort_of t =
    k.2 ∙ sym (substituted_sort u two.left f) ∙ sym (ap sort_of (unifier_unifies t two.left u e))
    ∙ substituted_sort u t f in
    under_sorted u (put one.left p two.right) one.right f
    (put_well_sorted one.left p t two.right a s h.0 k.1, h.1, h.2 ∙ sym (put_sort one.left p t two.right a s))

-- the pair of a unifier
made_sorted : (r q : Rule) (p : List ℕ) (t : Tree) (u : List Entry) → AreSorted r.left r.right
    → AreSorted q.left q.right → IsApplication q.left
    → Contains (inner_places (apart 1 r).rule.left) p → at (apart 1 r).rule.left p ≡ Some t
    → unify t (apart 2 q).rule.left ≡ Ok (Some u)
    → AreSorted (name_variables (raw_pair (apart 1 r) (apart 2 q) p u)).left
    (name_variables (raw_pair (apart 1 r) (apart 2 q) p u)).right
made_sorted r q p t u h k i c a e =
    let one = (apart 1 r).rule in
    let two = (apart 2 q).rule in
    let raw = raw_pair (apart 1 r) (apart 2 q) p u in
    let m = under_sorted (marking 1 r) r.left r.right (marked_fit 1 (variables_of_both r.left r.right)) h in
    let n = under_sorted (marking 2 q) q.left q.right (marked_fit 2 (variables_of_both q.left q.right)) k in
    let f = unifying_fits t two.left u (at_well_sorted one.left p t a m.0) n.0 (stands_inner one.left p c t a)
    (under_application (marking 2 q) q.left i) e in
    under_sorted (number_variables 1 (pair_variables raw)) raw.left raw.right (numbered_fit 1 (pair_variables raw))
    (raw_sorted one two p t u a m n e f)

pub all_sorted : (r q : Rule) (b : Bool) (ys : List Pair) → AreSorted r.left r.right → AreSorted q.left q.right
    → IsApplication q.left
    → critical_pairs r q b ≡ Ok ys → All (λ y. AreSorted y.left y.right) ys
all_sorted r q b ys h k i e =
    all_pairs (λ y. AreSorted y.left y.right) r q b ys
    (λ p c y x.
    let f = pair_from (apart 1 r) (apart 2 q) p y x in
    subst (λ y. AreSorted y.left y.right) f.is (made_sorted r q p f.here f.unifier h k i c f.stands f.unifies))
    e
