-- What equality of keys says.
use Rattle.std.proofs.Common.{◌≡◌, ℕ, List, true, refl, ap, arith}
use Rattle.std.specs.Prelude.{nat_eq}
use Rattle.std.specs.Cmp.Lexicographic.{pointwise}
use Rattle.std.proofs.lemmas.Bool.Decides.{Decides-eqb}
use Rattle.std.proofs.lemmas.Slice.Eq.{slice_eq-Decides}
use Rattle.larch_verify_pool.specs.declared.node.PoolNode.{PoolNode}
use Rattle.larch_verify_pool.specs.declared.node.PoolNode.TheVariants.{Var, App}
use Rattle.larch_verify_pool.specs.contracts.node.PoolNodePartialEq.TheImpl as node_eq
use Rattle.larch_verify_pool.specs.contracts.symbol.PoolSymbolPartialEq.TheImpl as symbol_eq
use Rattle.larch_verify_pool.specs.contracts.symbol.SymbolNamePartialEq.TheImpl as name_eq
use Rattle.larch_verify_pool.specs.declared.symbol.PoolSymbol.{PoolSymbol}
use Rattle.larch_verify_pool.specs.declared.symbol.SymbolName.{SymbolName}
use Rattle.larch_verify_pool.specs.declared.symbol.SymbolName.TheVariants.{Plain, Boxed}

same_numbers : (xs ys : List ℕ) → pointwise nat_eq xs ys ≡ true → xs ≡ ys
same_numbers xs ys = (slice_eq-Decides Decides-eqb xs ys (pointwise nat_eq xs ys) refl).0

pub same_node : (x y : PoolNode) → node_eq.ghosts.eq x y ≡ true → x ≡ y
same_node (Var n s) (Var m r) h =
    let a : pointwise nat_eq n m ≡ true = grind arith in
    let b : pointwise nat_eq s r ≡ true = grind arith in
    λ i. Var (same_numbers n m a i) (same_numbers s r b i)
same_node (Var n s) (App g ds) h = grind arith
same_node (App f cs) (Var m r) h = grind arith
same_node (App f cs) (App g ds) h =
    let a : f ≡ g = grind arith in
    let b : pointwise nat_eq cs ds ≡ true = grind arith in
    λ i. App (a i) (same_numbers cs ds b i)

self_numbers : (xs : List ℕ) → pointwise nat_eq xs xs ≡ true
self_numbers xs = (slice_eq-Decides Decides-eqb xs xs (pointwise nat_eq xs xs) refl).1 refl

self_lists : (xs : List (List ℕ)) → pointwise (pointwise nat_eq) xs xs ≡ true
self_lists xs =
    (slice_eq-Decides (λ a b. slice_eq-Decides Decides-eqb a b (pointwise nat_eq a b) refl) xs xs
    (pointwise (pointwise nat_eq) xs xs) refl).1 refl

pub self_node : (x : PoolNode) → node_eq.ghosts.eq x x ≡ true
self_node (Var n s) = grind (arith, self_numbers n, self_numbers s)
self_node (App f cs) = grind (arith, self_numbers cs, (Decides-eqb f f).1 refl)

self_name : (x : SymbolName) → name_eq.ghosts.eq x x ≡ true
self_name (Plain n) = grind (arith, self_numbers n)
self_name (Boxed b k) = grind (arith, (Decides-eqb b b).1 refl, (Decides-eqb k k).1 refl)

pub self_symbol : (x : PoolSymbol) → symbol_eq.ghosts.eq x x ≡ true
self_symbol x = grind (arith, self_name x.name, self_lists x.domain, self_numbers x.range)

same_lists : (xs ys : List (List ℕ)) → pointwise (pointwise nat_eq) xs ys ≡ true → xs ≡ ys
same_lists xs ys =
    (slice_eq-Decides (λ a b. slice_eq-Decides Decides-eqb a b (pointwise nat_eq a b) refl) xs ys
    (pointwise (pointwise nat_eq) xs ys) refl).0

same_name_key : (x y : SymbolName) → name_eq.ghosts.eq x y ≡ true → x ≡ y
same_name_key (Plain n) (Plain m) h = let a : pointwise nat_eq n m ≡ true = grind arith in ap Plain (same_numbers n m a)
same_name_key (Plain n) (Boxed c l) h = grind arith
same_name_key (Boxed b k) (Plain m) h = grind arith
same_name_key (Boxed b k) (Boxed c l) h = let p : b ≡ c = grind arith in let q : k ≡ l = grind arith in
    λ i. Boxed (p i) (q i)

pub same_symbol_key : (x y : PoolSymbol) → symbol_eq.ghosts.eq x y ≡ true → x ≡ y
same_symbol_key x y h =
    let a : name_eq.ghosts.eq x.name y.name ≡ true = grind arith in
    let b : pointwise (pointwise nat_eq) x.domain y.domain ≡ true = grind arith in
    let c : pointwise nat_eq x.range y.range ≡ true = grind arith in
    λ i. record {
      name = same_name_key x.name y.name a i;
      domain = same_lists x.domain y.domain b i;
      range = same_numbers x.range y.range c i;
    }
