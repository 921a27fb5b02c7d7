-- The work on a term whose arguments are done one behind the other.
use Rattle.std.specs.Prelude.{◌≡◌, ◌+◌, ◌≤◌, ◌<◌, ℕ, List, [], ◌∷◌, ◌++◌, map, drop, get_or, length, slice_get, false}
use Rattle.std.specs.Prelude.{true, Some, refl}
use Rattle.std.proofs.Common.{ap, ap₂, sym, subst, ◌∙◌}
use Rattle.std.proofs.lemmas.Bool.{le-ltb, lt-ltb}
use Rattle.std.proofs.lemmas.List.{append_assoc, append-nil, drop_all, drop_more, length_push, map_push}
use Rattle.std.proofs.lemmas.Option.{get_or_from_slice_get, slice_get-get_or, slice_get_within}
use Rattle.larch_term.specs.Operator.{PlainOperator}
use Rattle.larch_term.specs.Tree.{Tree, app, more, forest_of, nodes}
use Rattle.larch_rewrite_meaning.specs.NormalForm.{normal}
use Rattle.larch_rewrite_meaning.specs.Sides.{Sides}
use Rattle.larch_rewrite_meaning.specs.Work.{OverSize, is_large}
use Rattle.larch_rewrite_law.specs.Levels.{root_work, arguments_work}
use Rattle.larch_rewrite_law.proofs.Turns.{begins_variable, begins_application, root_large}
use Rattle.larch_store.specs.Numbered.{Numbered, Several, leaf, branch, nothing, further, term_of, terms_of}
use Rattle.larch_store.specs.Numbered.{list_of_several, children_of}
use Rattle.larch_store.proofs.Standing.{listed_several}
use Rattle.larch_store.specs.SharedView.{view_shared}
use Rattle.larch_store.specs.Stored.{most_nodes}
use Rattle.larch_store.specs.declared.shared.SharedNode.TheVariants.{Variable, Application}
use Rattle.larch_rewrite.specs.Level.{IsApplication, arguments_left, operator_of}
use Rattle.larch_rewrite.specs.Ways.{with_done}

-- ---- sizes

pub small_is : (t : Tree) → nodes t ≤ most_nodes → is_large t ≡ false
small_is t h = le-ltb most_nodes (nodes t) h

pub large_is : (t : Tree) → most_nodes < nodes t → is_large t ≡ true
large_is t h = lt-ltb most_nodes (nodes t) h

-- ---- lists

pub drop_next : {X : Type 0} → (xs : List X) (i : ℕ) (x : X) → slice_get xs i ≡ Some x → drop i xs ≡ x ∷ drop (i + 1) xs
drop_next xs i x h =
    drop_more xs i x (slice_get_within xs i x h) ∙ ap (λ y. y ∷ drop (i + 1) xs) (get_or_from_slice_get xs i x x h)

pub terms_listed : (xs : Several) → terms_of xs ≡ forest_of (map term_of (list_of_several xs))
terms_listed nothing = refl
terms_listed (further x xs) = ap (more (term_of x)) (terms_listed xs)

-- ---- how the work on the arguments begins, goes on and ends

pub begins_arguments : (rules : List Sides) (x : Numbered) (b : ℕ) → is_large (term_of x) ≡ false
    → normal rules (term_of x) b ≡ arguments_left rules x [] b
begins_arguments rules (leaf k z n s) b h = begins_variable rules n s b
begins_arguments rules (branch k z f xs) b h =
    ap (λ ts. normal rules (app f ts) b) (terms_listed xs)
    ∙ begins_application rules f (map term_of (list_of_several xs)) b
    (ap (λ ts. is_large (app f ts)) (sym (terms_listed xs)) ∙ h)

pub arguments_next : (rules : List Sides) (x : Numbered) (done : List Numbered) (b : ℕ) (c : Numbered) → IsApplication x
    → slice_get (children_of x) (length done) ≡ Some c
    → arguments_left rules x done b
    ≡ arguments_work rules (operator_of x) (map term_of done)
    (term_of c ∷ map term_of (drop (length done + 1) (children_of x))) b
arguments_next rules (leaf k z n s) done b c a h = absurd a
arguments_next rules (branch k z f xs) done b c a h =
    ap (λ ys. arguments_work rules f (map term_of done) (map term_of ys) b)
    (drop_next (list_of_several xs) (length done) c h)

pub arguments_behind : (rules : List Sides) (x : Numbered) (done : List Numbered) (t : Numbered) (b : ℕ)
    → IsApplication x
    → arguments_work rules (operator_of x) (map term_of done ++ term_of t ∷ [])
    (map term_of (drop (length done + 1) (children_of x))) b
    ≡ arguments_left rules x (done ++ t ∷ []) b
arguments_behind rules (leaf k z n s) done t b a = absurd a
arguments_behind rules (branch k z f xs) done t b a =
    ap₂ (λ ds n. arguments_work rules f ds (map term_of (drop n (list_of_several xs))) b)
    (sym (map_push term_of done t))
    (sym (length_push done t))

ends_arguments : (rules : List Sides) (x : Numbered) (done : List Numbered) (b : ℕ) → IsApplication x
    → length (children_of x) ≤ length done
    → arguments_left rules x done b ≡ root_work rules (app (operator_of x) (forest_of (map term_of done))) b
ends_arguments rules (leaf k z n s) done b a h = absurd a
ends_arguments rules (branch k z f xs) done b a h =
    ap (λ ys. arguments_work rules f (map term_of done) (map term_of ys) b)
    (drop_all (length done) (list_of_several xs) h)

-- ---- the same for the term that they make

pub done_next : (x : Numbered) (done : List Numbered) (c : Numbered) → IsApplication x
    → slice_get (children_of x) (length done) ≡ Some c
    → with_done x done
    ≡ app (operator_of x) (forest_of
    (map term_of done ++ term_of c ∷ map term_of (drop (length done + 1) (children_of x))))
done_next (leaf k z n s) done c a h = absurd a
done_next (branch k z f xs) done c a h =
    ap (λ ys. app f (forest_of (map term_of done ++ map term_of ys))) (drop_next (list_of_several xs) (length done) c h)

pub done_behind : (x : Numbered) (done : List Numbered) (t : Numbered) → IsApplication x
    → app (operator_of x) (forest_of
    (map term_of done ++ term_of t ∷ map term_of (drop (length done + 1) (children_of x))))
    ≡ with_done x (done ++ t ∷ [])
done_behind (leaf k z n s) done t a = absurd a
done_behind (branch k z f xs) done t a =
    ap (λ ts. app f (forest_of ts))
    (sym (append_assoc (map term_of done) (term_of t ∷ []) (map term_of (drop (length done + 1) (list_of_several xs))))
    ∙ ap₂ (λ ds n. ds ++ map term_of (drop n (list_of_several xs))) (sym (map_push term_of done t))
    (sym (length_push done t)))

ends_done : (x : Numbered) (done : List Numbered) → IsApplication x → length (children_of x) ≤ length done
    → with_done x done ≡ app (operator_of x) (forest_of (map term_of done))
ends_done (leaf k z n s) done a h = absurd a
ends_done (branch k z f xs) done a h =
    ap (λ ys. app f (forest_of (map term_of done ++ map term_of ys))) (drop_all (length done) (list_of_several xs) h)
    ∙ ap (λ ts. app f (forest_of ts)) (append-nil (map term_of done))

-- ---- by the node of the code

pub is_application : (x : Numbered) (k z : ℕ) (f : PlainOperator) (cs : List Numbered)
    → view_shared k z (Application f cs) ≡ x → IsApplication x × (operator_of x ≡ f)
is_application x k z f cs e = subst (λ y. IsApplication y × (operator_of y ≡ f)) e (tt, refl)

pub child_at : (x : Numbered) (k z : ℕ) (f : PlainOperator) (cs : List Numbered) (n : ℕ) (c : Numbered)
    → view_shared k z (Application f cs) ≡ x → slice_get cs n ≡ Some c → slice_get (children_of x) n ≡ Some c
child_at x k z f cs n c e h =
    subst (λ y. slice_get (children_of y) n ≡ Some c) e (ap (λ ys. slice_get ys n) (listed_several cs) ∙ h)

pub variable_work : (rules : List Sides) (x : Numbered) (k z : ℕ) (n s : List ℕ) (done : List Numbered) (b : ℕ)
    → view_shared k z (Variable n s) ≡ x → arguments_left rules x done b ≡ root_work rules (term_of x) b
variable_work rules x k z n s done b e =
    subst (λ y. arguments_left rules y done b ≡ root_work rules (term_of y) b) e refl

pub variable_done : (x : Numbered) (k z : ℕ) (n s : List ℕ) (done : List Numbered)
    → view_shared k z (Variable n s) ≡ x → term_of x ≡ with_done x done
variable_done x k z n s done e = subst (λ y. term_of y ≡ with_done y done) e refl

pub variable_children : (x : Numbered) (k z : ℕ) (n s : List ℕ) → view_shared k z (Variable n s) ≡ x
    → children_of x ≡ []
variable_children x k z n s e = subst (λ y. children_of y ≡ []) e refl

pub formed_work : (rules : List Sides) (x : Numbered) (k z : ℕ) (f : PlainOperator) (cs done : List Numbered) (t : Tree)
    (b : ℕ) → view_shared k z (Application f cs) ≡ x → length (children_of x) ≤ length done
    → t ≡ app f (forest_of (map term_of done)) → arguments_left rules x done b ≡ root_work rules t b
formed_work rules x k z f cs done t b e h p =
    let a = is_application x k z f cs e in
    ends_arguments rules x done b a.0 h
    ∙ ap (λ u. root_work rules u b) (ap (λ g. app g (forest_of (map term_of done))) a.1 ∙ sym p)

pub formed_done : (x : Numbered) (k z : ℕ) (f : PlainOperator) (cs done : List Numbered) (t : Tree)
    → view_shared k z (Application f cs) ≡ x → length (children_of x) ≤ length done
    → t ≡ app f (forest_of (map term_of done)) → t ≡ with_done x done
formed_done x k z f cs done t e h p =
    let a = is_application x k z f cs e in
    sym (ends_done x done a.0 h ∙ ap (λ g. app g (forest_of (map term_of done))) a.1 ∙ sym p)

pub formed_large : (rules : List Sides) (x : Numbered) (k z : ℕ) (f : PlainOperator) (cs done : List Numbered) (b : ℕ)
    → view_shared k z (Application f cs) ≡ x → length (children_of x) ≤ length done
    → most_nodes < nodes (app f (forest_of (map term_of done))) → arguments_left rules x done b ≡ OverSize
formed_large rules x k z f cs done b e h p =
    formed_work rules x k z f cs done (app f (forest_of (map term_of done))) b e h refl
    ∙ root_large rules (app f (forest_of (map term_of done))) b (large_is (app f (forest_of (map term_of done))) p)

-- ---- the first argument that isn't done

pub applies : (x : Numbered) (k z : ℕ) (f : PlainOperator) (cs : List Numbered) → view_shared k z (Application f cs) ≡ x
    → IsApplication x
applies x k z f cs e = (is_application x k z f cs e).0

pub child_got : (x : Numbered) (k z : ℕ) (f : PlainOperator) (cs items done part : List Numbered) (y : Numbered)
    → view_shared k z (Application f cs) ≡ x → items ≡ cs → part ≡ done → length part < length items
    → y ≡ get_or items (length part) y → slice_get (children_of x) (length done) ≡ Some y
child_got x k z f cs items done part y v p q lt e =
    child_at x k z f cs (length done) y v
    (ap₂ slice_get (sym p) (ap length (sym q)) ∙ slice_get-get_or items (length part) y lt ∙ ap Some (sym e))

pub none_left : (x : Numbered) (k z : ℕ) (f : PlainOperator) (cs items done part : List Numbered)
    → view_shared k z (Application f cs) ≡ x → items ≡ cs → part ≡ done → length items ≤ length part
    → length (children_of x) ≤ length done
none_left x k z f cs items done part v p q le =
    subst (λ y. length (children_of y) ≤ length done) v
    (subst (λ ys. length ys ≤ length done) (sym (listed_several cs))
    (subst (λ ds. length cs ≤ length ds) q (subst (λ ys. length ys ≤ length part) p le)))

pub done_none : (x : Numbered) (done : List Numbered) → done ≡ [] → term_of x ≡ with_done x done
done_none (leaf k z n s) done e = refl
done_none (branch k z f xs) done e =
    ap (app f) (terms_listed xs) ∙ ap (λ ds. with_done (branch k z f xs) ds) (sym e)
