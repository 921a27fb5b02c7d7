-- Operators of clauses, as contracts see what is made ready for them; what is made of a set of values by some of them,
-- and what they show of two values.
use Rattle.std.specs.Prelude.{◌≡◌, ◌<◌, ℕ, suc, ◌&&◌, ◌||◌, ◌==◌, not, Bool, true, false, List, [], ◌∷◌, bytes_eq}
use Rattle.std.specs.Prelude.{get_or}
use Rattle.std.specs.Prelude.{length, map}
use Rattle.std.specs.List.{list_all}
use Rattle.larch_term.specs.Operator.{PlainOperator}
use Rattle.larch_models_meaning.specs.Interpretation.{Interpretation, first, others}
use Rattle.larch_models_meaning.specs.Models.{with_value}
use Rattle.larch_models.specs.declared.operation.Operation.{Operation}
use Rattle.larch_models.specs.Every.{all_lists}
use Rattle.larch_models.specs.Tables.{made_by}

-- what an operator makes of arguments, the last value of each of them, and whether each is of a clause's sort
pub record PlainOperation : Type 0 where
  pub value : List ℕ → ℕ
  pub lasts : List ℕ
  pub own : List Bool

abbrev pub plain_operation : Operation → PlainOperation
plain_operation o = record { value = made_by o.maker; lasts = o.lasts; own = o.own }

-- an operator in an interpretation, for a clause of this sort
abbrev pub operation_at : Interpretation → List ℕ → PlainOperator → PlainOperation
operation_at m s f =
    record { value = m.table f; lasts = map m.last f.domain; own = map (λ r. bytes_eq r s) f.domain }

-- ---- what is made of a set of values

-- each argument of the sort is among the values that are made
abbrev pub arguments_among : List Bool → List Bool → List ℕ → Bool
arguments_among [] made vs = true
arguments_among (o ∷ os) made [] = true
arguments_among (o ∷ os) made (v ∷ vs) = (not o || get_or made v false) && arguments_among os made vs

-- the operator doesn't make the value of values that are made
abbrev pub is_unmade_by : List Bool → ℕ → PlainOperation → Bool
is_unmade_by made v o = all_lists o.lasts (λ vs. not (arguments_among o.own made vs && o.value vs == v))

-- no operator does
abbrev pub is_unmade_among : List PlainOperation → List Bool → ℕ → Bool
is_unmade_among os made v = list_all (is_unmade_by made v) os

-- whether a value is made, or the operators make it of values that are
abbrev pub is_made_next : List PlainOperation → List Bool → ℕ → Bool
is_made_next os made v = get_or made v false || not (is_unmade_among os made v)

-- of so many values, each is made by what is made before
pub record IsNextMade (os : List PlainOperation) (made next : List Bool) : Type 0 where
  pub many : length next ≡ length made
  pub each : (v : ℕ) → v < length made → get_or next v false ≡ is_made_next os made v

-- ---- what is shown of two values

-- an operator makes the same with either value at a place, the places being numbered from k, if that is of the sort
abbrev pub shows_from : PlainOperation → ℕ → ℕ → ℕ → List Bool → Bool
shows_from o u v k [] = true
shows_from o u v k (b ∷ bs) =
    (not b || all_lists o.lasts (λ vs. o.value (with_value k u 1 vs) == o.value (with_value k v 1 vs)))
    && shows_from o u v (suc k) bs

-- an operator makes the same with either value at each place of the sort
abbrev pub shows_same_by : ℕ → ℕ → PlainOperation → Bool
shows_same_by u v o = shows_from o u v 1 o.own

-- all operators do
abbrev pub shows_same_among : List PlainOperation → ℕ → ℕ → Bool
shows_same_among os u v = list_all (shows_same_by u v) os

-- two values are equal, or an operator tells them apart
abbrev pub is_told_apart : List PlainOperation → List ℕ → Bool
is_told_apart os vs =
    not (shows_same_among os (first vs) (first (others vs))) || first vs == first (others vs)
