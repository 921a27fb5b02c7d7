-- How many rounds a unification takes: no more than both terms have nodes.
use Rattle.std.proofs.Common.{◌≡◌, ℕ, suc, ◌+◌, ◌≤◌, Bool, true, false, cond, List, [], ◌∷◌, ◌++◌, length}
use Rattle.std.proofs.Common.{length-append, fold, AllPairs, Some, Ok, arith, refl, sym, ◌∙◌}
use Rattle.std.specs.List.{list_any}
use Rattle.larch_term.specs.Substitution.{is_entry_of}
use Rattle.larch_term.specs.Tree.{Tree, Forest, var, app, none, more, nodes, nodes_all}
use Rattle.larch_term.specs.Variable.{occurrences, occurrences_in, same_variable, variables_of, with_variable}
use Rattle.larch_term.specs.declared.substitution.Entry.{Entry}
use Rattle.larch_term.specs.declared.variable.Variable.{Variable}
use Rattle.larch_pairs.proofs.Solving.{rounds_suffice, unifier_different}
use Rattle.larch_pairs.specs.Demand.{demand}
use Rattle.larch_pairs.specs.Unify.{unify, unify_from, variables_of_both}

mutual
  few_occurrences : (t : Tree) → length (occurrences t) ≤ nodes t
  few_occurrences (var n s) = omega arith
  few_occurrences (app f ts) = let i = few_occurrences_in ts in omega (arith, i)

  few_occurrences_in : (ts : Forest) → length (occurrences_in ts) ≤ nodes_all ts
  few_occurrences_in none = omega arith
  few_occurrences_in (more t ts) =
      let i = few_occurrences t in
      let j = few_occurrences_in ts in
      let k = length-append (occurrences t) (occurrences_in ts) in
      omega (arith, i, j, k)

one_more : (b : Bool) (vs : List Variable) (v : Variable) → length (cond b vs (vs ++ v ∷ [])) ≤ suc (length vs)
one_more true vs v = omega arith
one_more false vs v = let k = length-append vs (v ∷ []) in omega (arith, k)

few_variables : (vs ws : List Variable) → length (fold with_variable vs ws) ≤ length vs + length ws
few_variables vs [] = omega arith
few_variables vs (w ∷ ws) =
    let i = one_more (list_any (same_variable w) vs) vs w in
    let j = few_variables (with_variable vs w) ws in
    omega (arith, i, j)

few_of_both : (t u : Tree) → length (variables_of_both t u) ≤ nodes t + nodes u
few_of_both t u =
    let a = few_variables [] (occurrences t) in
    let b = few_variables (variables_of t) (occurrences u) in
    let c = few_occurrences t in
    let d = few_occurrences u in
    omega (arith, a, b, c, d)

pub unify_by_nodes : (t u : Tree) → unify t u ≡ unify_from (nodes t + nodes u) (demand t u) []
unify_by_nodes t u = sym (rounds_suffice t u (nodes t + nodes u) (few_of_both t u))

pub different_answer : (t u : Tree) (r : List Entry) → unify_from (nodes t + nodes u) (demand t u) [] ≡ Ok (Some r)
    → AllPairs (λ d e. is_entry_of e.name e.sort d ≡ false) r
different_answer t u r e = unifier_different t u r (unify_by_nodes t u ∙ e)
