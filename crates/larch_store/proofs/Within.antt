-- What stands in a store, as its calls say it.
use Rattle.std.proofs.Common.{◌≡◌, ◌+◌, ◌≤◌, List, map, sum_by, sym, subst}
use Rattle.std.specs.List.{IsDistinct}
use Rattle.std.specs.Map.{keys_of}
use Rattle.larch_term.specs.Operator.{PlainOperator}
use Rattle.larch_term.specs.Tree.{app, nodes, forest_of}
use Rattle.larch_store.specs.Layers.{shared_in}
use Rattle.larch_store.specs.Numbered.{Numbered, term_of, size_of, children_of}
use Rattle.larch_store.specs.Stored.{Belongs, AllBelong, IsStore, most_nodes}
use Rattle.larch_store.specs.declared.key.Key.{Key}
use Rattle.larch_store.specs.contracts.key.KeyPartialEq.TheImpl as key_eq
use Rattle.larch_store.proofs.Apart.{one_term}
use Rattle.larch_store.proofs.Standing.{belonging, branch_nodes}

pub children_within : (ks : List Key) (s n : List Numbered) → s ≡ n → IsStore ks s → (x : Numbered) → Belongs n x
    → AllBelong n (children_of x)
children_within ks s n e h =
    subst (λ u. (x : Numbered) → Belongs u x → AllBelong u (children_of x)) e (λ x b. (belonging ks s x h b).3)

pub size_within : (ks : List Key) (s n : List Numbered) → s ≡ n → IsStore ks s → (x : Numbered) → Belongs n x
    → size_of x ≡ nodes (term_of x)
size_within ks s n e h =
    subst (λ u. (x : Numbered) → Belongs u x → size_of x ≡ nodes (term_of x)) e (λ x b. (belonging ks s x h b).1)

pub small_within : (ks : List Key) (s n : List Numbered) → s ≡ n → IsStore ks s → (x : Numbered) → Belongs n x
    → nodes (term_of x) ≤ most_nodes
small_within ks s n e h =
    subst (λ u. (x : Numbered) → Belongs u x → nodes (term_of x) ≤ most_nodes) e (λ x b. (belonging ks s x h b).2)

pub terms_within : (ks : List Key) (s n : List Numbered) → s ≡ n → IsStore ks s → IsDistinct key_eq.ghosts.eq ks
    → (x y : Numbered) → Belongs n x → Belongs n y → term_of x ≡ term_of y → x ≡ y
terms_within ks s n e h u =
    subst (λ v. (x y : Numbered) → Belongs v x → Belongs v y → term_of x ≡ term_of y → x ≡ y) e (one_term ks s h u)

pub nodes_within : (ks : List Key) (s n : List Numbered) (f : PlainOperator) (cs : List Numbered) → s ≡ n → IsStore ks s
    → AllBelong n cs → nodes (app f (forest_of (map term_of cs))) ≡ 1 + sum_by size_of cs
nodes_within ks s n f cs e h b = branch_nodes ks s f cs h (subst (λ u. AllBelong u cs) (sym e) b)

-- the same keys and shared terms once more are a store
pub copied_store : (es fs : List (Key × Numbered)) → fs ≡ es → IsStore (keys_of es) (shared_in es)
    → IsStore (keys_of fs) (shared_in fs)
copied_store es fs e h = subst (λ gs. IsStore (keys_of gs) (shared_in gs)) (sym e) h
