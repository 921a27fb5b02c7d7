-- Maps of terms by a table of numbers.
use Rattle.std.proofs.Common.{◌≡◌, ◌==◌, ℕ, ◌<◌, ◌≤◌, Bool, true, false, cond, List, [], ◌∷◌, length, map, take, All}
use Rattle.std.proofs.Common.{slice_get, Option, Some, None, refl, sym, ◌∙◌, ap, subst, arith}
use Rattle.std.proofs.lemmas.Bool.Decides.{Decides-eqb}
use Rattle.std.proofs.lemmas.List.Elements.{All-nil, All-cons, All-weaker}
use Rattle.std.proofs.lemmas.Option.{slice_get-get_or, get_or_from_slice_get, same_Some}
use Rattle.larch_term.specs.Operator.{PlainOperator}
use Rattle.larch_term.specs.Tree.{Tree, var, app, more, forest_of}
use Rattle.larch_verify_pool.specs.Exchanging.{map_forest, ExchangesAt, IsExchange, Exchanged, IsWithin}
use Rattle.larch_verify_pool.specs.Pooled.{tree_in, no_tree, operator_in, node_tree, StandsBehind}
use Rattle.larch_verify_pool.specs.declared.node.PoolNode.TheVariants.{Var, App}
use Rattle.larch_verify_pool.proofs.Front.{front_within, front_at, front_get, trees_stay}

mapped_forest : (F : Tree → Tree) (ts : List Tree) → map_forest F (forest_of ts) ≡ forest_of (map F ts)
mapped_forest F [] = refl
mapped_forest F (t ∷ ts) = ap (more (F t)) (mapped_forest F ts)

-- one number more is done
more_at : (P : ℕ → ℕ → Type 0) (g : ℕ → Option ℕ) (q r k m : ℕ) → ((i j : ℕ) → g i ≡ Some j → P i j) → P q r
    → (b : Bool) → (q == k) ≡ b → cond b (Some r) (g k) ≡ Some m → P k m
more_at P g q r k m all p true e s = subst (P k) (same_Some r m s) (subst (λ i. P i r) ((Decides-eqb q k).0 e) p)
more_at P g q r k m all p false e s = all k m s

-- what holds of all that is done, and of the number that is new, holds then
pub done_more : (P : ℕ → ℕ → Type 0) (g h : ℕ → Option ℕ) (q r : ℕ) → ((k : ℕ) → h k ≡ cond (q == k) (Some r) (g k))
    → P q r → ((i j : ℕ) → g i ≡ Some j → P i j) → (i j : ℕ) → h i ≡ Some j → P i j
done_more P g h q r new p all k m s = more_at P g q r k m all p (q == k) refl (sym (new k) ∙ s)

pub exchanged_stays : (us vs ws : List Tree) (F : Tree → Tree) (g : ℕ → Option ℕ) → take (length vs) ws ≡ vs
    → Exchanged us vs F g → Exchanged us ws F g
exchanged_stays us vs ws F g f h q r s = front_get vs ws r (F (tree_in us q)) f (h q r s)

pub within_stays : (vs ws : List Tree) (g : ℕ → Option ℕ) → take (length vs) ws ≡ vs → IsWithin vs g → IsWithin ws g
within_stays vs ws g f h q r s = let le : length vs ≤ length ws = front_within vs ws f in
    let lt : r < length vs = h q r s in omega arith

-- what a node that is ready tells
pub ready_within : (vs : List Tree) (g : ℕ → Option ℕ) (cs ns : List ℕ) → IsWithin vs g → map g cs ≡ map Some ns
    → All (λ n. n < length vs) ns
ready_within vs g cs [] h e = All-nil (λ n. n < length vs)
ready_within vs g [] (n ∷ ns) h e = absurd cc
ready_within vs g (c ∷ cs) (n ∷ ns) h e =
    let p : g c ≡ Some n = cc in
    let q : map g cs ≡ map Some ns = cc in
    All-cons (λ m. m < length vs) n ns (h c n p) (ready_within vs g cs ns h q)

ready_trees : (us vs : List Tree) (F : Tree → Tree) (g : ℕ → Option ℕ) (cs ns : List ℕ) → Exchanged us vs F g
    → map g cs ≡ map Some ns → map F (map (tree_in us) cs) ≡ map (tree_in vs) ns
ready_trees us vs F g [] [] h e = refl
ready_trees us vs F g (c ∷ cs) [] h e = absurd cc
ready_trees us vs F g [] (n ∷ ns) h e = absurd cc
ready_trees us vs F g (c ∷ cs) (n ∷ ns) h e =
    let p : g c ≡ Some n = cc in
    let q : map g cs ≡ map Some ns = cc in
    λ i. sym (get_or_from_slice_get vs n (F (tree_in us c)) no_tree (h c n p)) i ∷ ready_trees us vs F g cs ns h q i

none_at : (us : List Tree) (F : Tree → Tree) (o : Option ℕ) (t : Tree) → o ≡ None → ExchangesAt us F o t
    → ExchangesAt us F None t
none_at us F o t e h = subst (λ p. ExchangesAt us F p t) e h

-- an application is rebuilt
pub rebuilt : (fs : List PlainOperator) (us vs : List Tree) (F : Tree → Tree) (table g : ℕ → Option ℕ) (q f : ℕ)
    (cs ns : List ℕ) → take (length us) vs ≡ us → q < length us
    → node_tree fs vs (App f cs) ≡ tree_in vs q → StandsBehind (length fs) q (App f cs) → IsExchange us table F
    → table q ≡ None → Exchanged us vs F g → map g cs ≡ map Some ns
    → F (tree_in us q) ≡ app (operator_in fs f) (forest_of (map (tree_in vs) ns))
rebuilt fs us vs F table g q f cs ns front lt is stands ex miss h m =
    let a : All (λ c. c < length us) cs =
    All-weaker (λ c. c < q) (λ c. c < length us) (λ c l. omega arith) cs stands.1 in
    let x : tree_in us q ≡ app (operator_in fs f) (forest_of (map (tree_in us) cs)) =
    sym (is ∙ front_at us vs q no_tree front lt)
    ∙ ap (λ ts. app (operator_in fs f) (forest_of ts)) (trees_stay us vs cs front a) in
    let e : ExchangesAt us F None (app (operator_in fs f) (forest_of (map (tree_in us) cs))) =
    subst (ExchangesAt us F None) x (none_at us F (table q) (tree_in us q) miss (ex q lt)) in
    ap F x ∙ e ∙ ap (app (operator_in fs f))
    (mapped_forest F (map (tree_in us) cs) ∙ ap forest_of (ready_trees us vs F g cs ns h m))

-- a variable stays
pub kept : (fs : List PlainOperator) (us vs : List Tree) (F : Tree → Tree) (table : ℕ → Option ℕ) (q : ℕ)
    (n s : List ℕ) → take (length us) vs ≡ us → q < length us
    → node_tree fs vs (Var n s) ≡ tree_in vs q → IsExchange us table F → table q ≡ None
    → slice_get vs q ≡ Some (F (tree_in us q))
kept fs us vs F table q n s front lt is ex miss =
    let le : length us ≤ length vs = front_within us vs front in
    let x : tree_in us q ≡ var n s = sym (is ∙ front_at us vs q no_tree front lt) in
    let e : ExchangesAt us F None (var n s) =
    subst (ExchangesAt us F None) x (none_at us F (table q) (tree_in us q) miss (ex q lt)) in
    slice_get-get_or vs q no_tree (omega arith) ∙ ap Some (sym is ∙ sym e ∙ ap F (sym x))

some_at : (us : List Tree) (F : Tree → Tree) (o : Option ℕ) (r : ℕ) (t : Tree) → o ≡ Some r → ExchangesAt us F o t
    → slice_get us r ≡ Some (F t)
some_at us F o r t e h = subst (λ p. ExchangesAt us F p t) e h

-- the table's number
pub told_image : (us vs : List Tree) (F : Tree → Tree) (table : ℕ → Option ℕ) (q r : ℕ) → take (length us) vs ≡ us
    → q < length us → IsExchange us table F → table q ≡ Some r → slice_get vs r ≡ Some (F (tree_in us q))
told_image us vs F table q r front lt ex e =
    front_get us vs r (F (tree_in us q)) front (some_at us F (table q) r (tree_in us q) e (ex q lt))
