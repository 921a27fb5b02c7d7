-- Observations by numbers of a pool.
use Rattle.std.specs.Prelude.{◌≡◌, ℕ, suc, ◌<◌, ◌&&◌, not, Bool, false, if◌then◌else◌, List, length, slice_get, map}
use Rattle.std.specs.Prelude.{Option, Some, None}
use Rattle.std.specs.List.{list_all}
use Rattle.std.specs.Option.{option_map_or}
use Rattle.larch_term.specs.Tree.{Tree}
use Rattle.larch_term.specs.Truth.{truth}
use Rattle.larch_term.specs.declared.substitution.Entry.{Entry}
use Rattle.larch_term.specs.declared.variable.Variable.{Variable}
use Rattle.larch_calculus.specs.Observation.{Observation}
use Rattle.larch_verify_meaning.specs.Matching.{all_different, occurs_in}
use Rattle.larch_verify_pool.specs.Pooled.{Pooled, tree_in}
use Rattle.larch_verify_pool.specs.Substitution.{variable_of}
use Rattle.larch_verify_clause_rules.specs.declared.observers.Observer.{Observer}

-- the observation
abbrev pub observation_of : Observer → Observation
observation_of o = record { observer = o.operator; place = suc o.index }

-- the observer has the number, and it has the place
abbrev pub IsObserver : Pooled → Observer → Type 0
IsObserver p o = (slice_get p.operators o.number ≡ Some o.operator) × (o.index < length o.operator.domain)

-- the variables of these numbers
abbrev pub variables_in : List Tree → List ℕ → List Variable
variables_in us vs = map (λ v. variable_of (tree_in us v)) vs

-- whether no variable occurs in a term
abbrev pub none_occurs : Tree → List Variable → Bool
none_occurs t vs = list_all (λ v. not (occurs_in t v)) vs

-- whether no variable occurs in one of two terms
abbrev pub unbound : Tree → Tree → List Variable → Bool
unbound l r vs = none_occurs l vs && none_occurs r vs

-- likewise, if there are variables
abbrev pub some_unbound : Tree → Tree → Option (List Variable) → Bool
some_unbound l r o = option_map_or (unbound l r) o false

-- variables, if none stands twice
abbrev pub if_different : List Variable → Option (List Variable)
if_different vs = if all_different vs then Some vs else None

-- true for a variable
abbrev pub truth_for : Variable → Entry
truth_for v = record { name = v.name; sort = v.sort; term = truth }
