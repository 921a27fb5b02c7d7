-- Arguments by number, and replacement from inside out.
use Rattle.std.proofs.Common.{◌≡◌, ℕ, zero, suc, ◌-◌, ◌<◌, ◌≤◌, ◌⊎◌, inl, inr, List, [], ◌∷◌, ◌++◌, length, map, take}
use Rattle.std.proofs.Common.{slice_get, Option, Some, None, option_map, option_and_then, refl, sym, ◌∙◌, ap, subst}
use Rattle.std.proofs.Common.{arith}
use Rattle.std.specs.Prelude.{IfSome, IfNone}
use Rattle.std.specs.List.{slice_index, slice_set}
use Rattle.std.proofs.lemmas.List.{get_or-map, length-map, map-set}
use Rattle.std.proofs.lemmas.Option.{slice_get-get_or, slice_get_past, get_or_from_slice_get, none-some}
use Rattle.larch_term.specs.Operator.{PlainOperator}
use Rattle.larch_term.specs.Place.{argument, at, put, put_in}
use Rattle.larch_term.specs.Tree.{Tree, Forest, var, app, none, more, forest_of}
use Rattle.larch_term.proofs.TreeLists.{argument_zero, argument_at}
use Rattle.larch_verify_pool.specs.Pooled.{tree_in, no_tree, node_tree, operator_in}
use Rattle.larch_verify_pool.specs.Places.{argument_of, set_in, with_argument, plug_in}
use Rattle.larch_verify_pool.specs.declared.placing.Frame.{Frame}
use Rattle.larch_verify_pool.specs.declared.node.PoolNode.{PoolNode}
use Rattle.larch_verify_pool.specs.declared.node.PoolNode.TheVariants.{App}
use Rattle.larch_verify_pool.proofs.Front.{front_at}

outside : (ts : List Tree) (k : ℕ) → (k ≡ 0) ⊎ (length ts ≤ k - 1) → argument (forest_of ts) k ≡ None
outside ts k (inl e) = ap (argument (forest_of ts)) e ∙ argument_zero (forest_of ts)
outside ts zero (inr l) = argument_zero (forest_of ts)
outside ts (suc k) (inr l) = argument_at ts (suc k) (omega arith) ∙ slice_get_past ts (suc k - 1) l

-- what a list says of a number
pub numbered_tree : (us : List Tree) (cs : List ℕ) (k : ℕ) (r : Option ℕ)
    → IfSome r (λ c. (0 < k) × (k - 1 < length cs) × (c ≡ slice_index cs (k - 1)))
    → IfNone r ((k ≡ 0) ⊎ (length cs ≤ k - 1))
    → option_map (tree_in us) r ≡ argument (forest_of (map (tree_in us) cs)) k
numbered_tree us cs k None s n =
    sym (outside (map (tree_in us) cs) k (subst (λ l. (k ≡ 0) ⊎ (l ≤ k - 1)) (sym (length-map cs (tree_in us))) n))
numbered_tree us cs k (Some c) s n =
    let ts : List Tree = map (tree_in us) cs in
    let lt : k - 1 < length ts = omega (arith, length-map cs (tree_in us), s.1) in
    ap (λ d. Some (tree_in us d)) s.2
    ∙ sym (argument_at ts k s.0 ∙ slice_get-get_or ts (k - 1) no_tree lt
    ∙ ap Some (get_or-map (tree_in us) cs (k - 1) 0 no_tree s.1))

-- what a node says of a number
pub node_argument : (fs : List PlainOperator) (us : List Tree) (x : Tree) (n : PoolNode) (f : ℕ) (cs : List ℕ) (k : ℕ)
    → node_tree fs us n ≡ x → n ≡ App f cs → argument_of x k ≡ argument (forest_of (map (tree_in us) cs)) k
node_argument fs us x n f cs k t e = ap (λ y. argument_of y k) (sym t ∙ ap (node_tree fs us) e)

at_down : (x : Tree) (k : ℕ) (p : List ℕ) → at x (k ∷ p) ≡ option_and_then (λ u. at u p) (argument_of x k)
at_down (var n s) k p = refl
at_down (app f ts) k p = refl

put_in_down : (ts : Forest) (k : ℕ) (p : List ℕ) (t y : Tree) → argument ts k ≡ Some y
    → put_in ts k p t ≡ set_in ts k (put y p t)
put_in_down none k p t y e = refl
put_in_down (more x xs) zero p t y e = refl
put_in_down (more x xs) (suc zero) p t y e = let i : x ≡ y = cc in ap (λ z. more (put z p t) xs) i
put_in_down (more x xs) (suc (suc k)) p t y e = ap (more x) (put_in_down xs (suc k) p t y e)

put_down : (x : Tree) (k : ℕ) (p : List ℕ) (t y : Tree) → argument_of x k ≡ Some y
    → put x (k ∷ p) t ≡ with_argument x k (put y p t)
put_down (var n s) k p t y e = absurd (none-some y e)
put_down (app f ts) k p t y e = ap (app f) (put_in_down ts k p t y e)

plugged_push : (us : List Tree) (fs : List Frame) (f : Frame) (t : Tree)
    → plug_in us (fs ++ f ∷ []) t ≡ plug_in us fs (with_argument (tree_in us f.node) f.argument t)
plugged_push us [] f t = refl
plugged_push us (g ∷ fs) f t = ap (with_argument (tree_in us g.node) g.argument) (plugged_push us fs f t)

-- one argument further down
pub down_at : (x y root : Tree) (q p all : List ℕ) (k : ℕ) → q ≡ k ∷ p → argument_of x k ≡ Some y → at x q ≡ at root all
    → at y p ≡ at root all
down_at x y root q p all k e a h = sym (ap (at x) e ∙ at_down x k p ∙ ap (option_and_then (λ u. at u p)) a) ∙ h

pub down_put : (us : List Tree) (fs : List Frame) (f : Frame) (y root : Tree) (q p all : List ℕ) → q ≡ f.argument ∷ p
    → argument_of (tree_in us f.node) f.argument ≡ Some y
    → ((t : Tree) → plug_in us fs (put (tree_in us f.node) q t) ≡ put root all t) → (t : Tree)
    → plug_in us (fs ++ f ∷ []) (put y p t) ≡ put root all t
down_put us fs f y root q p all e a h t =
    plugged_push us fs f (put y p t)
    ∙ ap (plug_in us fs)
    (sym (ap (λ r. put (tree_in us f.node) r t) e ∙ put_down (tree_in us f.node) f.argument p t y a)) ∙ h t

-- one frame less
pub plug_less : (us vs ws : List Tree) (gs fs : List Frame) (f : Frame) (h m : ℕ) (z : Tree) → take (length us) vs ≡ us
    → f.node < length us → gs ≡ fs ++ f ∷ []
    → slice_get ws m ≡ Some (with_argument (tree_in vs f.node) f.argument (tree_in vs h))
    → plug_in us gs (tree_in vs h) ≡ z → plug_in us fs (tree_in ws m) ≡ z
plug_less us vs ws gs fs f h m z front lt e made is =
    ap (plug_in us fs) (get_or_from_slice_get ws m
    (with_argument (tree_in vs f.node) f.argument (tree_in vs h)) no_tree made
    ∙ ap (λ x. with_argument x f.argument (tree_in vs h)) (front_at us vs f.node no_tree front lt))
    ∙ sym (plugged_push us fs f (tree_in vs h)) ∙ ap (λ xs. plug_in us xs (tree_in vs h)) (sym e) ∙ is

set_in_zero : (ts : Forest) (t : Tree) → set_in ts 0 t ≡ ts
set_in_zero none t = refl
set_in_zero (more x xs) t = refl

set_in_past : (ts : List Tree) (k : ℕ) (t : Tree) → length ts < k → set_in (forest_of ts) k t ≡ forest_of ts
set_in_past [] k t l = refl
set_in_past (x ∷ xs) zero t l = refl
set_in_past (x ∷ xs) (suc zero) t l = absurd (omega arith)
set_in_past (x ∷ xs) (suc (suc k)) t l = ap (more x) (set_in_past xs (suc k) t (omega arith))

set_in_suc : (ts : List Tree) (k : ℕ) (t : Tree) → set_in (forest_of ts) (suc k) t ≡ forest_of (slice_set ts k t)
set_in_suc [] k t = refl
set_in_suc (x ∷ xs) zero t = refl
set_in_suc (x ∷ xs) (suc k) t = ap (more x) (set_in_suc xs k t)

set_in_at : (ts : List Tree) (k : ℕ) (t : Tree) → 0 < k → set_in (forest_of ts) k t ≡ forest_of (slice_set ts (k - 1) t)
set_in_at ts zero t l = absurd (omega arith)
set_in_at ts (suc k) t l = let e : suc k - 1 ≡ k = omega arith in rw e (set_in_suc ts k t)

-- a node whose argument is changed
pub refit_same : (fs : List PlainOperator) (us : List Tree) (x : Tree) (n : PoolNode) (f : ℕ) (cs : List ℕ) (k : ℕ)
    (t : Tree) → node_tree fs us n ≡ x → n ≡ App f cs → (k ≡ 0) ⊎ (length cs < k) → with_argument x k t ≡ x
refit_same fs us x n f cs k t h e (inl z) =
    let i : x ≡ app (operator_in fs f) (forest_of (map (tree_in us) cs)) = sym h ∙ ap (node_tree fs us) e in
    ap (λ y. with_argument y k t) i ∙ ap (λ j. app (operator_in fs f) (set_in (forest_of (map (tree_in us) cs)) j t)) z
    ∙ ap (app (operator_in fs f)) (set_in_zero (forest_of (map (tree_in us) cs)) t) ∙ sym i
refit_same fs us x n f cs k t h e (inr l) =
    let i : x ≡ app (operator_in fs f) (forest_of (map (tree_in us) cs)) = sym h ∙ ap (node_tree fs us) e in
    let m : length (map (tree_in us) cs) < k = omega (arith, length-map cs (tree_in us)) in
    ap (λ y. with_argument y k t) i ∙ ap (app (operator_in fs f)) (set_in_past (map (tree_in us) cs) k t m) ∙ sym i

pub refit_set : (fs : List PlainOperator) (us : List Tree) (x : Tree) (n : PoolNode) (f : ℕ) (cs : List ℕ) (k a : ℕ)
    → node_tree fs us n ≡ x → n ≡ App f cs → 0 < k
    → app (operator_in fs f) (forest_of (map (tree_in us) (slice_set cs (k - 1) a))) ≡ with_argument x k (tree_in us a)
refit_set fs us x n f cs k a h e l =
    ap (λ ts. app (operator_in fs f) (forest_of ts)) (map-set (tree_in us) cs (k - 1) a)
    ∙ ap (app (operator_in fs f)) (sym (set_in_at (map (tree_in us) cs) k (tree_in us a) l))
    ∙ ap (λ y. with_argument y k (tree_in us a)) (sym (ap (node_tree fs us) e) ∙ h)
