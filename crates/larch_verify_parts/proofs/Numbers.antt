-- Numbers while the pool grows.
use Rattle.std.proofs.Common.{◌≡◌, ℕ, ◌<◌, List, [], ◌∷◌, length, refl, sym, subst, arith}
use Rattle.std.proofs.lemmas.List.Elements.{All-head, All-tail, All-weaker}
use Rattle.std.proofs.lemmas.Option.{slice_get_within, get_or_from_slice_get}
use Rattle.larch_term.specs.Tree.{Tree}
use Rattle.larch_verify_pool.specs.Pooled.{Pooled, tree_in, no_tree, Grows, HasTree}
use Rattle.larch_verify_pool.specs.Substitution.{IsVar, AreBindings, entry_from, entries_of}
use Rattle.larch_verify_pool.specs.declared.substitution.PoolBinding.{PoolBinding}
use Rattle.larch_verify_pool.proofs.Front.{front_at, front_get, front_within}

pub within_later : (p q : Pooled) (n : ℕ) → Grows p q → n < length p.trees → n < length q.trees
within_later p q n g l = let w = front_within p.trees q.trees g.1 in omega (arith, w, l)

pub tree_later : (p q : Pooled) (n : ℕ) → Grows p q → n < length p.trees → tree_in q.trees n ≡ tree_in p.trees n
tree_later p q n g l = front_at p.trees q.trees n no_tree g.1 l

pub has_within : (p : Pooled) (n : ℕ) (t : Tree) → HasTree p n t → n < length p.trees
has_within p n t h = slice_get_within p.trees n t h

pub has_tree : (p : Pooled) (n : ℕ) (t : Tree) → HasTree p n t → tree_in p.trees n ≡ t
has_tree p n t h = get_or_from_slice_get p.trees n t no_tree h

pub has_later : (p q : Pooled) (n : ℕ) (t : Tree) → Grows p q → HasTree p n t → HasTree q n t
has_later p q n t g h = front_get p.trees q.trees n t g.1 h

pub has_tree_later : (p q : Pooled) (n : ℕ) (t : Tree) → Grows p q → HasTree p n t → tree_in q.trees n ≡ t
has_tree_later p q n t g h = has_tree q n t (has_later p q n t g h)

pub has_within_later : (p q : Pooled) (n : ℕ) (t : Tree) → Grows p q → HasTree p n t → n < length q.trees
has_within_later p q n t g h = has_within q n t (has_later p q n t g h)

abbrev pub BindingIn : List Tree → PoolBinding → Type 0
BindingIn us b = (b.variable < length us) × (b.image < length us) × IsVar (tree_in us b.variable)

-- bindings stay, and what they bind
pub entries_later : (p q : Pooled) (bs : List PoolBinding) → Grows p q → AreBindings p.trees bs
    → entries_of q.trees bs ≡ entries_of p.trees bs
entries_later p q [] g a = refl
entries_later p q (b ∷ bs) g a =
    let h : BindingIn p.trees b = All-head (BindingIn p.trees) b bs a in
    λ i. entry_from (tree_later p q b.variable g h.0 i) (tree_later p q b.image g h.1 i)
    ∷ entries_later p q bs g (All-tail (BindingIn p.trees) b bs a) i

pub bindings_later : (p q : Pooled) (bs : List PoolBinding) → Grows p q → AreBindings p.trees bs
    → AreBindings q.trees bs
bindings_later p q bs g a =
    All-weaker (BindingIn p.trees) (BindingIn q.trees)
    (λ b h. (within_later p q b.variable g h.0, within_later p q b.image g h.1, still p q b.variable g h.0 h.2)) bs a
  where
    still : (p q : Pooled) (n : ℕ) → Grows p q → n < length p.trees → IsVar (tree_in p.trees n)
        → IsVar (tree_in q.trees n)
    still p q n g l v = subst IsVar (sym (tree_later p q n g l)) v
