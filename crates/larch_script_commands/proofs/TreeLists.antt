-- Arguments as lists.
use Rattle.std.proofs.Common.{◌≡◌, ◌↔◌, ◌<◌, ℕ, zero, suc, Bool, IsTrue, List, [], ◌∷◌, length, get_or, map, refl, sym}
use Rattle.std.proofs.Common.{◌∙◌, ap, arith}
use Rattle.larch_base.specs.Position.{start_of_text}
use Rattle.larch_base.specs.declared.position.Pos.{Pos}
use Rattle.larch_script_commands.specs.Bare.{bare_all, bare_tree}
use Rattle.larch_raw.specs.RawTree.{RawTree, apply, raw_forest, raw_list, one_more}

raw_list_again : (ts : List RawTree) → raw_list (raw_forest ts) ≡ ts
raw_list_again [] = refl
raw_list_again (t ∷ ts) = ap (λ us. t ∷ us) (raw_list_again ts)

-- arguments without positions are those of the list
bare_all_is_map : (ts : List RawTree) → bare_all (raw_forest ts) ≡ raw_forest (map bare_tree ts)
bare_all_is_map [] = refl
bare_all_is_map (t ∷ ts) = ap (one_more (bare_tree t)) (bare_all_is_map ts)

bare_all_inj : (ts us : List RawTree) → bare_all (raw_forest ts) ≡ bare_all (raw_forest us)
    → map bare_tree ts ≡ map bare_tree us
bare_all_inj ts us e =
    sym (raw_list_again (map bare_tree ts)) ∙ ap raw_list (sym (bare_all_is_map ts) ∙ e ∙ bare_all_is_map us)
    ∙ raw_list_again (map bare_tree us)

-- equal applications have one name and the same arguments
pub same_parts : (n m : List ℕ) (ts us : List RawTree) (p : Pos)
    → apply n (bare_all (raw_forest ts)) p ≡ apply m (bare_all (raw_forest us)) p
    → (n ≡ m) × (map bare_tree ts ≡ map bare_tree us)
same_parts n m ts us p e =
    let a : n ≡ m = cc in
    let b : bare_all (raw_forest ts) ≡ bare_all (raw_forest us) = cc in
    (a, bare_all_inj ts us b)

-- the same name with the same arguments is the same application
pub same_whole : (ts us : List RawTree) → map bare_tree ts ≡ map bare_tree us
    → bare_all (raw_forest ts) ≡ bare_all (raw_forest us)
same_whole ts us e = bare_all_is_map ts ∙ ap raw_forest e ∙ sym (bare_all_is_map us)

-- applications are equal where their names are, and their arguments one by one
pub same_application : (l r : RawTree) (n m : List ℕ) (ts us : List RawTree) (p q : Pos) (b : Bool)
    → l ≡ apply n (raw_forest ts) p → r ≡ apply m (raw_forest us) q → n ≡ m
    → (IsTrue b ↔ (map bare_tree ts ≡ map bare_tree us)) → (IsTrue b ↔ (bare_tree l ≡ bare_tree r))
same_application l r n m ts us p q b e f g h =
    rw (e, f, g) (
      (λ t. ap (λ xs. apply m xs start_of_text) (same_whole ts us (h.0 t))),
      (λ k. h.1 (same_parts m m ts us start_of_text k).1),
    )

-- lists that differ at a place differ
pub differs_at : {A B : Type 0} (f : A → B) (xs ys : List A) (i : ℕ) (x y : A)
    → i < length xs → i < length ys → x ≡ get_or xs i x → y ≡ get_or ys i y → map f xs ≡ map f ys → f x ≡ f y
differs_at f [] ys i x y h k a b e = absurd (omega arith)
differs_at f (z ∷ zs) [] i x y h k a b e = absurd (omega arith)
differs_at f (z ∷ zs) (w ∷ ws) zero x y h k a b e = let c : f z ≡ f w = cc in ap f a ∙ c ∙ sym (ap f b)
differs_at f (z ∷ zs) (w ∷ ws) (suc i) x y h k a b e = differs_at f zs ws i x y (omega arith) (omega arith) a b cc
