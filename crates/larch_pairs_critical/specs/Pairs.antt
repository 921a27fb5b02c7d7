-- Critical pairs: what two rules make of one term.
use Rattle.std.specs.Prelude.{if◌then◌else◌, ℕ, suc, ◌+◌, ◌||◌, Bool, List, [], ◌∷◌, ◌++◌, map, drop, fold, codes}
use Rattle.std.specs.Prelude.{Option, Some, None, Result, Ok, Err}
use Rattle.std.specs.Fmt.{decimal}
use Rattle.std.specs.List.{flat_map}
use Rattle.larch_term.specs.Place.{at, put}
use Rattle.larch_term.specs.Substitution.{instance_of}
use Rattle.larch_term.specs.Tree.{Tree, Forest, var, app, none, more}
use Rattle.larch_term.specs.Variable.{occurrences, with_variable}
use Rattle.larch_term.specs.declared.substitution.Entry.{Entry}
use Rattle.larch_term.specs.declared.variable.Variable.{Variable}
use Rattle.larch_pairs.specs.Unify.{Oversize, a_term_is_too_large, entries_under, is_large, unify, variables_of_both}
use Rattle.larch_pairs_critical.specs.declared.pair.Rule.{Rule}
use Rattle.larch_pairs_critical.specs.declared.pair.Pair.{Pair}
use Rattle.larch_pairs_critical.specs.declared.pair.Apart.{Apart}

-- what gives each variable of a rule one byte more at the end of its name
abbrev pub marking : ℕ → Rule → List Entry
marking mark r =
    map (λ v. record { name = v.name; sort = v.sort; term = var (v.name ++ mark ∷ []) v.sort })
    (variables_of_both r.left r.right)

-- the rule with its variables marked, and what marks them: rules with different marks have no variable in common
abbrev pub apart : ℕ → Rule → Apart
apart mark r =
    let by = marking mark r in
    record { rule = record { left = instance_of by r.left; right = instance_of by r.right }; by = by }

abbrev mutual
  -- the places of a term at which no variable stands, each before those below it, from left to right
  pub inner_places : Tree → List (List ℕ)
  inner_places (var n s) = []
  inner_places (app f ts) = [] ∷ inner_places_from 0 ts

  -- those below arguments before which a number of arguments stands
  pub inner_places_from : ℕ → Forest → List (List ℕ)
  inner_places_from k none = []
  inner_places_from k (more t ts) = map (λ p. suc k ∷ p) (inner_places t) ++ inner_places_from (suc k) ts

-- the pair that a unifier makes at a place, before its variables get their names
abbrev pub raw_pair : Apart → Apart → List ℕ → List Entry → Pair
raw_pair one two p u = record {
  left = instance_of u (put one.rule.left p two.rule.right);
  right = instance_of u one.rule.right;
  place = p;
  first = entries_under u one.by;
  second = entries_under u two.by;
}

-- the variables of a pair, in the order in which each occurs first: in its left side, its right side, and then in the
-- terms of its substitutions
abbrev pub pair_variables : Pair → List Variable
pair_variables q =
    fold with_variable (variables_of_both q.left q.right) (flat_map (λ e. occurrences e.term) (q.first ++ q.second))

-- the names v1, v2, .. for variables, counted from a number
abbrev pub number_variables : ℕ → List Variable → List Entry
number_variables k [] = []
number_variables k (v ∷ vs) =
    record { name = v.name; sort = v.sort; term = var (codes "v" ++ decimal k) v.sort } ∷ number_variables (k + 1) vs

-- the pair with other variables
abbrev pub pair_under : List Entry → Pair → Pair
pair_under es q = record {
  left = instance_of es q.left;
  right = instance_of es q.right;
  place = q.place;
  first = entries_under es q.first;
  second = entries_under es q.second;
}

-- the pair with its variables named
abbrev pub name_variables : Pair → Pair
name_variables q = pair_under (number_variables 1 (pair_variables q)) q

-- the pair, unless a side has more than 5,000 nodes
abbrev pub pair_within : Pair → Result Pair Oversize
pair_within q = if is_large q.left || is_large q.right then Err a_term_is_too_large else Ok q

-- the pair at a place of the first rule's left side, if a unifier makes one
unfoldable pub pair_at : Apart → Apart → List ℕ → Result (Option Pair) Oversize
pair_at one two p = elim (at one.rule.left p) [
  | None ↦ Ok None
  | Some t ↦ elim (unify t two.rule.left) [
    | Err e ↦ Err e
    | Ok None ↦ Ok None
    | Ok (Some u) ↦ elim (pair_within (raw_pair one two p u)) [ Err e ↦ Err e | Ok q ↦ Ok (Some (name_variables q)) ]
  ]
]

-- pairs and the one behind them, if there is one
abbrev pub with_pair : List Pair → Option Pair → List Pair
with_pair found None = found
with_pair found (Some q) = found ++ q ∷ []

-- pairs and those at places behind them, in order
abbrev pub with_pairs_at : Apart → Apart → List Pair → List (List ℕ) → Result (List Pair) Oversize
with_pairs_at one two found [] = Ok found
with_pairs_at one two found (p ∷ ps) = elim (pair_at one two p) [
  | Err e ↦ Err e
  | Ok q ↦ with_pairs_at one two (with_pair found q) ps
]

-- the pairs of rules whose variables are marked, the root left out where both are one rule
abbrev pub pairs_of : Apart → Apart → Bool → Result (List Pair) Oversize
pairs_of one two are_one =
    let places = inner_places one.rule.left in
    with_pairs_at one two [] (if are_one then drop 1 places else places)

-- the critical pairs of the second rule's left side in the first one's
unfoldable pub critical_pairs : Rule → Rule → Bool → Result (List Pair) Oversize
critical_pairs r q are_one = pairs_of (apart 1 r) (apart 2 q) are_one
