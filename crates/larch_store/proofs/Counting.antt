-- How many nodes terms have, and when they are refused.
use Rattle.std.proofs.Common.{◌≡◌, ℕ, ◌+◌, ◌≤◌, List, [], ◌∷◌, sum_by, refl, sym, ◌∙◌, ap, arith}
use Rattle.std.proofs.lemmas.List.Sums.{sum_by-cons}
use Rattle.larch_term.specs.Tree.{nodes, nodes_all}
use Rattle.larch_store.specs.Numbered.{Numbered, term_of, terms_of, several}
use Rattle.larch_store.specs.Refusal.{MayRefuse}
use Rattle.larch_store.specs.declared.refusal.StoreRefusal.{StoreRefusal}
use Rattle.larch_store.specs.declared.refusal.StoreRefusal.TheVariants.{TooLarge, Memory}

-- shared terms have together the nodes of each
pub nodes_several : (xs : List Numbered) → nodes_all (terms_of (several xs)) ≡ sum_by (λ x. nodes (term_of x)) xs
nodes_several [] = refl
nodes_several (x ∷ xs) =
    ap (λ k. nodes (term_of x) + k) (nodes_several xs) ∙ sym (sum_by-cons (λ y. nodes (term_of y)) x xs)

-- what is too large for a part is so for the whole
pub refused_above : (m n : ℕ) (e : StoreRefusal) → m ≤ n → MayRefuse m e → MayRefuse n e
refused_above m n TooLarge le h = omega arith
refused_above m n Memory le h = tt
