-- Unifiers: substitutions that make two terms one.
use Rattle.std.specs.Prelude.{if◌then◌else◌, ℕ, zero, suc, nat_lt, ◌||◌, Bool, List, [], ◌∷◌, ◌++◌, map, length, fold}
use Rattle.std.specs.Prelude.{Option, Some, None, Result, Ok, Err}
use Rattle.std.specs.List.{list_any}
use Rattle.larch_base.specs.declared.limits.TheConstants.{MAX_TERM_NODES}
use Rattle.larch_term.specs.Substitution.{instance_of}
use Rattle.larch_term.specs.Tree.{Tree, nodes}
use Rattle.larch_term.specs.Variable.{occurrences, with_variable, variables_of}
use Rattle.larch_term.specs.declared.substitution.Entry.{Entry}
use Rattle.larch_term.specs.declared.variable.Variable.{Variable}
use Rattle.larch_pairs.specs.Demand.{demand, first_demand}
use Rattle.larch_pairs.specs.declared.demand.Demand.{Demand}
use Rattle.larch_pairs.specs.declared.demand.Demand.TheVariants.{Nothing, Bind, Clash}
use Rattle.larch_pairs.specs.declared.demand.Sides.{Sides}

-- the one event that ends a unification early: a term has more than 5,000 nodes
pub data Oversize : Type 0 where
  a_term_is_too_large : Oversize

-- a variable with the term that takes its place
abbrev pub entry : Variable → Tree → Entry
entry v t = record { name = v.name; sort = v.sort; term = t }

-- equations with all variables replaced at once
abbrev pub sides_under : List Entry → List Sides → List Sides
sides_under es = map (λ e. record { left = instance_of es e.left; right = instance_of es e.right })

-- entries in whose terms all variables are replaced at once
abbrev pub entries_under : List Entry → List Entry → List Entry
entries_under es = map (λ d. record { name = d.name; sort = d.sort; term = instance_of es d.term })

-- the bindings with one more, which is put into those before
abbrev pub extend : Variable → Tree → List Entry → List Entry
extend v t bs = entries_under (entry v t ∷ []) bs ++ entry v t ∷ []

-- whether a term has more than 5,000 nodes
abbrev pub is_large : Tree → Bool
is_large t = nat_lt MAX_TERM_NODES (nodes t)

-- the term, unless it has more than 5,000 nodes
abbrev pub within : Tree → Result Tree Oversize
within t = if is_large t then Err a_term_is_too_large else Ok t

-- whether a side of an equation or a bound term has more than 5,000 nodes
abbrev pub some_large : List Sides → List Entry → Bool
some_large es bs = list_any (λ e. is_large e.left || is_large e.right) es || list_any (λ b. is_large b.term) bs

-- the bindings that meet a demand and all later ones, behind those so far, where at most so many variables are bound: a
-- binding is put at once into all equations that are left and into the bindings before it
unfoldable pub unify_from : ℕ → Demand → List Entry → Result (Option (List Entry)) Oversize
unify_from n Nothing bs = Ok (Some bs)
unify_from n Clash bs = Ok None
unify_from zero (Bind v t es) bs = Err a_term_is_too_large
unify_from (suc n) (Bind v t es) bs =
    let left = sides_under (entry v t ∷ []) es in
    let bound = extend v t bs in
    if some_large left bound then Err a_term_is_too_large else unify_from n (first_demand left) bound

-- the different variables of two terms, those of the first one first
abbrev pub variables_of_both : Tree → Tree → List Variable
variables_of_both t u = fold with_variable (variables_of t) (occurrences u)

-- the bindings that make two terms one, if any do: each of their variables is bound at most once
unfoldable pub unify : Tree → Tree → Result (Option (List Entry)) Oversize
unify t u = unify_from (length (variables_of_both t u)) (demand t u) []
