-- Operators by the number of their arguments and the sort of one of them.
use Rattle.std.specs.Map.{lookup}
use Rattle.std.specs.Bool.{Decides}
use Rattle.std.specs.Hash as fed
use Rattle.std.specs.Prelude.{Bool, List, [], bytes_eq, false, filter, length, ℕ, zero, suc, ◌&&◌, ◌++◌, ◌==◌, ◌∷◌, ◌≡◌}
use Rattle.std.proofs.Common.{ap}
use Rattle.std.proofs.lemmas.Bool.Decides.{Decides-eqb, Decides-and, Decides-like}
use Rattle.std.proofs.lemmas.Slice.Eq.{bytes_eq-Decides}
use Rattle.larch_term.specs.Operator.{PlainOperator}
use Rattle.larch_sorts_counts.specs.SortsMeaningSignature.{kept}
use Rattle.larch_sorts_signature.specs.declared.place.Place.{Place}

-- whether a sort stands at a position among sorts
abbrev pub has_at : List (List ℕ) → ℕ → List ℕ → Bool
has_at [] i s = false
has_at (z ∷ zs) zero s = bytes_eq z s
has_at (z ∷ zs) (suc i) s = has_at zs i s

-- whether two places have one number of arguments, one position and one sort
abbrev pub same_place : Place → Place → Bool
same_place p q = (p.arity == q.arity) && ((p.position == q.position) && bytes_eq p.sort q.sort)

-- what is hashed of a place
abbrev pub place_input : Place → List (List ℕ)
place_input p = fed.usize p.arity ++ (fed.usize p.position ++ fed.slice fed.u8 p.sort)

-- whether an operator has so many arguments, and this sort at this position
abbrev pub takes_at : Place → PlainOperator → Bool
takes_at p f = (length f.domain == p.arity) && has_at f.domain p.position p.sort

-- the operators that are kept at a place
abbrev pub kept_at : List (Place × List PlainOperator) → Place → List PlainOperator
kept_at entries p = kept (lookup (same_place p) entries)

-- each operator is kept at each of its places
abbrev pub IsPlaced : List (Place × List PlainOperator) → List PlainOperator → Type 0
IsPlaced entries fs = (p : Place) → kept_at entries p ≡ filter (takes_at p) fs

same_fields : (p q : Place) → p.arity ≡ q.arity → p.position ≡ q.position → p.sort ≡ q.sort → p ≡ q
same_fields p q a i s = λ j. record { arity = a j; position = i j; sort = s j }

-- the test tells exactly what is equal
pub place_Decides : (p q : Place) → Decides (same_place p q) (p ≡ q)
place_Decides p q =
    Decides-like ((p.arity == q.arity) && ((p.position == q.position) && bytes_eq p.sort q.sort))
    (λ h. same_fields p q h.0 h.1.0 h.1.1)
    (λ e. (ap (λ x. x.arity) e, (ap (λ x. x.position) e, ap (λ x. x.sort) e)))
    (Decides-and (p.arity == q.arity) ((p.position == q.position) && bytes_eq p.sort q.sort)
    (Decides-eqb p.arity q.arity)
    (Decides-and (p.position == q.position) (bytes_eq p.sort q.sort) (Decides-eqb p.position q.position)
    (bytes_eq-Decides p.sort q.sort)))
