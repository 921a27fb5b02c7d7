-- What stands in a store.
use Rattle.std.proofs.Common.{◌≡◌, ℕ, zero, suc, ◌+◌, ◌<◌, ◌≤◌, List, [], ◌∷◌, ◌++◌, length, map, sum_by, slice_get}
use Rattle.std.proofs.Common.{Option, Some, option_map, refl, sym, ◌∙◌, ap, subst, arith, append_assoc, append-nil}
use Rattle.std.specs.Prelude.{IfSome}
use Rattle.std.proofs.lemmas.List.{length_push, get_or_push, map_push}
use Rattle.std.proofs.lemmas.List.Elements.{All-head, All-tail, All-nil}
use Rattle.std.proofs.lemmas.List.Sums.{sum_by-cons}
use Rattle.std.proofs.lemmas.Option.{slice_get-get_or, slice_get-map, none-some}
use Rattle.larch_term.specs.Operator.{PlainOperator}
use Rattle.larch_term.specs.Tree.{var, app, more, nodes, nodes_all, forest_of}
use Rattle.larch_store.specs.Numbered.{Numbered, Several, leaf, branch, nothing, further, term_of, terms_of, number_of}
use Rattle.larch_store.specs.Numbered.{size_of, several, list_of_several, children_of}
use Rattle.larch_store.specs.Key.{key_of}
use Rattle.larch_store.specs.SharedView.{view_shared}
use Rattle.larch_store.specs.Stored.{Belongs, AllBelong, Grows, most_nodes, StandsBehind, AllStandBehind, IsStore}
use Rattle.larch_store.specs.declared.key.Key.{Key}
use Rattle.larch_store.specs.declared.shared.SharedNode.{SharedNode}
use Rattle.larch_store.specs.declared.shared.SharedNode.TheVariants.{Variable, Application}
use Rattle.larch_store.specs.declared.key.Key.TheVariants.{Var, App}
use Rattle.larch_store.proofs.Growth.{grows_append, all_belong_stay, all_belong_once}

-- arguments as a list, and back
pub listed_several : (xs : List Numbered) → list_of_several (several xs) ≡ xs
listed_several [] = refl
listed_several (x ∷ xs) = ap (λ ys. x ∷ ys) (listed_several xs)

pub several_listed : (xs : Several) → several (list_of_several xs) ≡ xs
several_listed nothing = refl
several_listed (further x xs) = ap (further x) (several_listed xs)

pub terms_several : (xs : List Numbered) → terms_of (several xs) ≡ forest_of (map term_of xs)
terms_several [] = refl
terms_several (x ∷ xs) = ap (more (term_of x)) (terms_several xs)

-- what holds of a shared term at a place of a store
abbrev pub IsPlaced : ℕ → List Numbered → Numbered → Type 0
IsPlaced i s x =
    (number_of x ≡ i) × (size_of x ≡ nodes (term_of x)) × (nodes (term_of x) ≤ most_nodes) × AllBelong s (children_of x)

placed_behind : (b s : List Numbered) (i : ℕ) (x : Numbered) → AllStandBehind b s → slice_get s i ≡ Some x
    → IsPlaced (length b + i) (b ++ s) x
unfolding AllStandBehind
placed_behind b [] i x h e = absurd (none-some x e)
placed_behind b (y ∷ ys) zero x h e =
    let p : y ≡ x = cc in
    let w : StandsBehind b x = subst (StandsBehind b) p h.0 in
    (omega (arith, w.0), w.1, w.2, all_belong_stay b (b ++ y ∷ ys) (children_of x) (grows_append b (y ∷ ys)) w.3)
placed_behind b (y ∷ ys) (suc i) x h e =
    let w : IsPlaced (length (b ++ y ∷ []) + i) ((b ++ y ∷ []) ++ ys) x = placed_behind (b ++ y ∷ []) ys i x h.1 e in (
      omega (arith, w.0, length_push b y),
      w.1,
      w.2,
      subst (λ s. AllBelong s (children_of x)) (append_assoc b (y ∷ []) ys) w.3,
    )

pub placed : (s : List Numbered) (i : ℕ) (x : Numbered) → AllStandBehind [] s → slice_get s i ≡ Some x → IsPlaced i s x
placed s i x h e = subst (λ k. IsPlaced k s x) (omega arith) (placed_behind [] s i x h e)

-- one more stands
stand_pushed : (b s : List Numbered) (x : Numbered) → AllStandBehind b s → StandsBehind (b ++ s) x
    → AllStandBehind b (s ++ x ∷ [])
unfolding AllStandBehind
stand_pushed b [] x h w = (subst (λ u. StandsBehind u x) (append-nil b) w, tt)
stand_pushed b (y ∷ ys) x h w =
    (h.0, stand_pushed (b ++ y ∷ []) ys x h.1 (subst (λ u. StandsBehind u x) (sym (append_assoc b (y ∷ []) ys)) w))

pub store_pushed : (ks ls : List Key) (s u : List Numbered) (x : Numbered) → IsStore ks s → StandsBehind s x
    → ls ≡ ks ++ key_of x ∷ [] → u ≡ s ++ x ∷ [] → IsStore ls u
store_pushed ks ls s u x h w p q = (
  p ∙ ap (λ js. js ++ key_of x ∷ []) h.0 ∙ sym (map_push key_of s x) ∙ ap (map key_of) (sym q),
  subst (AllStandBehind []) (sym q) (stand_pushed [] s x h.1 w),
)

-- what stands under a number has that number
pub found_belongs : (ks : List Key) (s : List Numbered) (i : ℕ) (x : Numbered) → IsStore ks s → slice_get s i ≡ Some x
    → Belongs s x
unfolding Belongs
found_belongs ks s i x h e = subst (λ k. slice_get s k ≡ Some x) (sym (placed s i x h.1 e).0) e

pub pushed_belongs : (s u : List Numbered) (x : Numbered) → u ≡ s ++ x ∷ [] → number_of x ≡ length s → Belongs u x
unfolding Belongs
pushed_belongs s u x e n =
    let lt : number_of x < length (s ++ x ∷ []) = omega (arith, n, length_push s x) in
    subst (λ v. slice_get v (number_of x) ≡ Some x) (sym e)
    (slice_get-get_or (s ++ x ∷ []) (number_of x) x lt ∙ ap Some (get_or_push s x x (number_of x) (sym n)))

pub pushed_grows : (s u : List Numbered) (x : Numbered) → u ≡ s ++ x ∷ [] → Grows s u
pushed_grows s u x e = subst (Grows s) (sym e) (grows_append s (x ∷ []))

-- what belongs to a store
pub belonging : (ks : List Key) (s : List Numbered) (x : Numbered) → IsStore ks s → Belongs s x
    → IsPlaced (number_of x) s x
unfolding Belongs
belonging ks s x h b = placed s (number_of x) x h.1 b

pub sizes : (ks : List Key) (s xs : List Numbered) → IsStore ks s → AllBelong s xs
    → sum_by size_of xs ≡ nodes_all (terms_of (several xs))
sizes ks s [] h b = refl
sizes ks s (x ∷ xs) h b =
    sum_by-cons size_of x xs
    ∙ (λ i. (belonging ks s x h (All-head (Belongs s) x xs b)).1 i + sizes ks s xs h (All-tail (Belongs s) x xs b) i)

-- the key that is found is that of what is found
found_key : (ks : List Key) (s : List Numbered) (i : ℕ) (k : Key) (x : Numbered) → ks ≡ map key_of s
    → slice_get ks i ≡ Some k → slice_get s i ≡ Some x → key_of x ≡ k
found_key ks s i k x e a b =
    let p : Some (key_of x) ≡ Some k =
    sym (slice_get-map key_of s i ∙ ap (option_map key_of) b) ∙ ap (λ js. slice_get js i) (sym e) ∙ a in cc

variable_keyed : (x : Numbered) (n z : List ℕ) → key_of x ≡ Var n z → term_of x ≡ var n z
variable_keyed (leaf k w m r) n z e = let p : m ≡ n = cc in let q : r ≡ z = cc in λ i. var (p i) (q i)
variable_keyed (branch k w f xs) n z e = absurd cc

pub found_variable : (ks : List Key) (s : List Numbered) (i : ℕ) (x : Numbered) (n z : List ℕ) → IsStore ks s
    → slice_get ks i ≡ Some (Var n z) → slice_get s i ≡ Some x → term_of x ≡ var n z
found_variable ks s i x n z h a b = variable_keyed x n z (found_key ks s i (Var n z) x h.0 a b)

application_keyed : (s : List Numbered) (x : Numbered) (f : PlainOperator) (cs : List Numbered)
    → AllBelong s (children_of x) → AllBelong s cs → key_of x ≡ App f (map number_of cs)
    → term_of x ≡ app f (forest_of (map term_of cs))
application_keyed s (leaf k w m r) f cs a b e = absurd cc
application_keyed s (branch k w g xs) f cs a b e =
    let p : g ≡ f = cc in
    let q : map number_of (list_of_several xs) ≡ map number_of cs = cc in
    let r : list_of_several xs ≡ cs = all_belong_once s (list_of_several xs) cs a b q in
    let t : terms_of xs ≡ forest_of (map term_of cs) =
    ap terms_of (sym (several_listed xs) ∙ ap several r) ∙ terms_several cs in
    λ i. app (p i) (t i)

pub found_application : (ks : List Key) (s : List Numbered) (i : ℕ) (x : Numbered) (f : PlainOperator)
    (cs : List Numbered) → IsStore ks s → AllBelong s cs → slice_get ks i ≡ Some (App f (map number_of cs))
    → slice_get s i ≡ Some x
    → term_of x ≡ app f (forest_of (map term_of cs))
found_application ks s i x f cs h b k e =
    application_keyed s x f cs (placed s i x h.1 e).3 b (found_key ks s i (App f (map number_of cs)) x h.0 k e)

-- a new variable stands behind others
pub variable_store : (ks ls : List Key) (s u : List Numbered) (n z : List ℕ) → IsStore ks s → ls ≡ ks ++ Var n z ∷ []
    → u ≡ s ++ leaf (length s) 1 n z ∷ [] → IsStore ls u
variable_store ks ls s u n z h p q =
    store_pushed ks ls s u (leaf (length s) 1 n z) h (refl, refl, omega arith, All-nil (Belongs s)) p q

-- likewise a new application
pub application_store : (ks ls : List Key) (s u : List Numbered) (w : ℕ) (f : PlainOperator) (cs : List Numbered)
    → IsStore ks s → AllBelong s cs → w ≡ 1 + sum_by size_of cs → w ≤ most_nodes
    → ls ≡ ks ++ App f (map number_of cs) ∷ [] → u ≡ s ++ branch (length s) w f (several cs) ∷ [] → IsStore ls u
application_store ks ls s u w f cs h b e m p q =
    let x : Numbered = branch (length s) w f (several cs) in
    let z : w ≡ nodes (term_of x) = e ∙ ap (λ k. 1 + k) (sizes ks s cs h b) in
    store_pushed ks ls s u x h (refl, z, omega (arith, z, m), subst (AllBelong s) (sym (listed_several cs)) b)
    (p ∙ ap (λ ds. ks ++ App f (map number_of ds) ∷ []) (sym (listed_several cs))) q

-- its term
pub branch_term : (k w : ℕ) (f : PlainOperator) (cs : List Numbered)
    → term_of (branch k w f (several cs)) ≡ app f (forest_of (map term_of cs))
branch_term k w f cs = ap (app f) (terms_several cs)

-- how many nodes it has
pub branch_nodes : (ks : List Key) (s : List Numbered) (f : PlainOperator) (cs : List Numbered) → IsStore ks s
    → AllBelong s cs → nodes (app f (forest_of (map term_of cs))) ≡ 1 + sum_by size_of cs
branch_nodes ks s f cs h b = ap (λ k. 1 + k) (ap nodes_all (sym (terms_several cs)) ∙ sym (sizes ks s cs h b))

-- what is found, whatever the slice is called
pub found_in : (ks : List Key) (k : Key) (s t : List Numbered) (o : Option Numbered) (x : Numbered)
    → IfSome o (λ y. (i : ℕ) × (slice_get ks i ≡ Some k) × (slice_get t i ≡ Some y)) → o ≡ Some x → t ≡ s
    → (i : ℕ) × (slice_get ks i ≡ Some k) × (slice_get s i ≡ Some x)
found_in ks k s t o x f e p =
    subst (λ u. (i : ℕ) × (slice_get ks i ≡ Some k) × (slice_get u i ≡ Some x)) p
    (subst (λ q. IfSome q (λ y. (i : ℕ) × (slice_get ks i ≡ Some k) × (slice_get t i ≡ Some y))) e f)

-- a root is given its number
pub number_viewed : (k z : ℕ) (n : SharedNode) → number_of (view_shared k z n) ≡ k
number_viewed k z (Variable n s) = refl
number_viewed k z (Application f xs) = refl
