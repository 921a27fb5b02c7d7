-- What makes a sort.
use Rattle.std.proofs.Common.{◌≡◌, inl, inr, ◌⊎◌, Bool, true, false, cond, List, [], ◌∷◌, Contains, Option, Some, None}
use Rattle.std.proofs.Common.{refl, sym, ◌∙◌, ap, subst}
use Rattle.std.specs.List.{fold}
use Rattle.larch_base.proofs.Members.{contains_here, contains_later, contains_cases, contains_none}
use Rattle.larch_term.specs.Equality.{same_operator}
use Rattle.larch_term.specs.Operator.{PlainOperator}
use Rattle.larch_term.specs.OperatorKey.{operator_Decides}
use Rattle.larch_sorts_counts.specs.SortsMeaningFound.{Tells, merged_by}
use Rattle.larch_sorts_signature.specs.Makers.{made_place, maker_among, with_maker}
use Rattle.larch_sorts_signature.specs.Places.{same_place, place_Decides}
use Rattle.larch_sorts_counts.specs.SortsMeaningFoundFound.{Found}
use Rattle.larch_sorts_counts.specs.SortsMeaningFoundFound.TheVariants.{One}
use Rattle.larch_sorts_signature.specs.declared.place.Place.{Place}
use Rattle.larch_sorts_counts.proofs.SortsMeaningTelling.{tells_same, tells_merged}

-- one of these operators, which makes the sort of a place
abbrev pub IsMaker : Place → List PlainOperator → PlainOperator → Type 0
IsMaker p fs f = Contains fs f × (made_place f ≡ p)

maker_stepped : (P : PlainOperator → Type 0) (p : Place) (before : Option (Found PlainOperator)) (f : PlainOperator)
    (b : Bool) → same_place (made_place f) p ≡ b → Tells before P
    → Tells (cond b (Some (merged_by same_operator before (One f))) before) (λ g. P g ⊎ ((g ≡ f) × (made_place g ≡ p)))
maker_stepped P p before f true e h =
    let made : made_place f ≡ p = (place_Decides (made_place f) p).0 e in
    tells_merged same_operator operator_Decides P (λ g. (g ≡ f) × (made_place g ≡ p)) before (One f) h
    ((refl, made), λ g q. q.0)
maker_stepped P p before f false e h =
    tells_same P (λ g. P g ⊎ ((g ≡ f) × (made_place g ≡ p))) (λ g q. inl q)
    (λ g q. elim q [
      | inl a ↦ a
      | inr b ↦
          absurd (let w : same_place (made_place f) p
          ≡ true = (place_Decides (made_place f) p).1 (ap made_place (sym b.0) ∙ b.1) in cc)
    ]) before h

makers_folded : (P : PlainOperator → Type 0) (p : Place) (before : Option (Found PlainOperator))
    (fs : List PlainOperator) → Tells before P
    → Tells (fold (with_maker p) before fs) (λ g. P g ⊎ IsMaker p fs g)
makers_folded P p before [] h =
    tells_same P (λ g. P g ⊎ IsMaker p [] g) (λ g q. inl q)
    (λ g q. elim q [ inl a ↦ a | inr b ↦ absurd (contains_none g b.0) ]) before h
makers_folded P p before (f ∷ fs) h =
    tells_same (λ g. (P g ⊎ ((g ≡ f) × (made_place g ≡ p))) ⊎ IsMaker p fs g) (λ g. P g ⊎ IsMaker p (f ∷ fs) g)
    (λ g q. elim q [
      | inl a ↦ elim a [ inl b ↦ inl b | inr b ↦ inr (subst (Contains (f ∷ fs)) (sym b.0) (contains_here f fs), b.1) ]
      | inr b ↦ inr (contains_later f g fs b.0, b.1)
    ])
    (λ g q. elim q [
      | inl a ↦ inl (inl a)
      | inr b ↦ elim (contains_cases f g fs b.0) [
        | inl e ↦ inl (inr (sym e, b.1))
        | inr c ↦ inr (c, b.1)
      ]
    ])
    (fold (with_maker p) (with_maker p before f) fs)
    (makers_folded (λ g. P g ⊎ ((g ≡ f) × (made_place g ≡ p))) p (with_maker p before f) fs
    (maker_stepped P p before f (same_place (made_place f) p) refl h))

-- what makes a sort is told
pub makers_tell : (p : Place) (fs : List PlainOperator) → Tells (maker_among p fs) (IsMaker p fs)
makers_tell p fs =
    tells_same (λ g. ⊥ ⊎ IsMaker p fs g) (IsMaker p fs) (λ g q. elim q [ inl a ↦ absurd a | inr b ↦ b ]) (λ g q. inr q)
    (maker_among p fs) (makers_folded (λ g. ⊥) p None fs (λ g q. q))
