-- Laws of substitution.
use Rattle.std.proofs.Common.{◌≡◌, ℕ, zero, suc, ◌+◌, Bool, true, false, cond, List, [], ◌∷◌, ◌++◌, length, Option}
use Rattle.std.proofs.Common.{Some, option_and_then, option_map, sum_by, All, bytes_eq, refl, sym, ◌∙◌, ap, arith}
use Rattle.std.proofs.Common.{length-append}
use Rattle.std.proofs.lemmas.List.Elements.{All-head, All-tail, All-weaker}
use Rattle.std.proofs.lemmas.List.Sums.{sum_by-append}
use Rattle.std.proofs.lemmas.Option.{option_and_then_some}
use Rattle.std.proofs.lemmas.Slice.Eq.{bytes_eq-Decides}
use Rattle.larch_term.specs.Operator.{PlainOperator}
use Rattle.larch_term.specs.Tree.{Tree, Forest, var, app, none, more, nodes, nodes_all}
use Rattle.larch_term.specs.Place.{at, argument, put, put_in}
use Rattle.larch_term.specs.Sorts.{sort_of, sorts_of, WellSorted, AllWellSorted, IsOver, AllOver}
use Rattle.larch_term.specs.Variable.{occurrences, occurrences_in}
use Rattle.larch_term.specs.Substitution.{is_entry_of, image, instance_of, substituted_all, Fits, compose}
use Rattle.larch_term_law.proofs.Places.{at-append}
use Rattle.larch_term.specs.declared.substitution.Entry.{Entry}

-- an entry of a variable has its sort
pub entry_sort : (n s : List ℕ) (e : Entry) → is_entry_of n s e ≡ true → e.sort ≡ s
entry_sort n s e h =
    let b : bytes_eq e.sort s ≡ true = grind arith in
    (bytes_eq-Decides e.sort s).0 b

cond_holds : (P : Tree → Type 0) (b : Bool) (t u : Tree) → (b ≡ true → P t) → P u → P (cond b t u)
cond_holds P true t u p q = p refl
cond_holds P false t u p q = q

-- what holds of a variable and of the terms of its entries holds of its image
pub image_holds : (P : Tree → Type 0) (n s : List ℕ) (es : List Entry) → P (var n s)
    → All (λ e. is_entry_of n s e ≡ true → P e.term) es → P (image es n s)
image_holds P n s [] v h = v
image_holds P n s (e ∷ es) v h =
    let Q : Entry → Type 0 = λ d. is_entry_of n s d ≡ true → P d.term in
    cond_holds P (is_entry_of n s e) e.term (image es n s) (All-head Q e es h)
    (image_holds P n s es v (All-tail Q e es h))

pub image_sort : (es : List Entry) (n s : List ℕ) → Fits es → sort_of (image es n s) ≡ s
image_sort es n s f =
    image_holds (λ t. sort_of t ≡ s) n s es refl
    (All-weaker (λ e. WellSorted e.term × (sort_of e.term ≡ e.sort))
    (λ e. is_entry_of n s e ≡ true → sort_of e.term ≡ s) (λ e p h. p.1 ∙ entry_sort n s e h) es f)

pub image_well_sorted : (es : List Entry) (n s : List ℕ) → Fits es → WellSorted (image es n s)
image_well_sorted es n s f =
    image_holds WellSorted n s es tt
    (All-weaker (λ e. WellSorted e.term × (sort_of e.term ≡ e.sort)) (λ e. is_entry_of n s e ≡ true → WellSorted e.term)
    (λ e p h. p.0) es f)

pub substituted_sort : (es : List Entry) (t : Tree) → Fits es → sort_of (instance_of es t) ≡ sort_of t
substituted_sort es (var n s) f = image_sort es n s f
substituted_sort es (app g ts) f = refl

pub substituted_sorts : (es : List Entry) (ts : Forest) → Fits es → sorts_of (substituted_all es ts) ≡ sorts_of ts
substituted_sorts es none f = refl
substituted_sorts es (more t ts) f = λ i. substituted_sort es t f i ∷ substituted_sorts es ts f i

mutual
  pub substituted_well_sorted : (es : List Entry) (t : Tree) → Fits es → WellSorted t → WellSorted (instance_of es t)
  substituted_well_sorted es (var n s) f w = image_well_sorted es n s f
  substituted_well_sorted es (app g ts) f w = (substituted_sorts es ts f ∙ w.0, substituted_all_well_sorted es ts f w.1)

  pub substituted_all_well_sorted : (es : List Entry) (ts : Forest) → Fits es → AllWellSorted ts
      → AllWellSorted (substituted_all es ts)
  substituted_all_well_sorted es none f w = tt
  substituted_all_well_sorted es (more t ts) f w =
      (substituted_well_sorted es t f w.0, substituted_all_well_sorted es ts f w.1)

mutual
  pub substituted_over : (fs : List PlainOperator) (es : List Entry) (t : Tree) → All (λ e. IsOver fs e.term) es
      → IsOver fs t → IsOver fs (instance_of es t)
  substituted_over fs es (var n s) h w =
      image_holds (IsOver fs) n s es tt
      (All-weaker (λ e. IsOver fs e.term) (λ e. is_entry_of n s e ≡ true → IsOver fs e.term) (λ e p q. p) es h)
  substituted_over fs es (app g ts) h w = (w.0, substituted_all_over fs es ts h w.1)

  pub substituted_all_over : (fs : List PlainOperator) (es : List Entry) (ts : Forest) → All (λ e. IsOver fs e.term) es
      → AllOver fs ts → AllOver fs (substituted_all es ts)
  substituted_all_over fs es none h w = tt
  substituted_all_over fs es (more t ts) h w = (substituted_over fs es t h w.0, substituted_all_over fs es ts h w.1)

-- the substitution without entries changes nothing
mutual
  pub substituted_nil : (t : Tree) → instance_of [] t ≡ t
  substituted_nil (var n s) = refl
  substituted_nil (app f ts) = ap (app f) (substituted_all_nil ts)

  pub substituted_all_nil : (ts : Forest) → substituted_all [] ts ≡ ts
  substituted_all_nil none = refl
  substituted_all_nil (more t ts) = λ i. more (substituted_nil t i) (substituted_all_nil ts i)

substituted_cond : (es : List Entry) (b : Bool) (t u : Tree)
    → instance_of es (cond b t u) ≡ cond b (instance_of es t) (instance_of es u)
substituted_cond es true t u = refl
substituted_cond es false t u = refl

image_composed : (es ds : List Entry) (n s : List ℕ) → image (compose es ds) n s ≡ instance_of es (image ds n s)
image_composed es [] n s = refl
image_composed es (d ∷ ds) n s =
    ap (cond (is_entry_of n s d) (instance_of es d.term)) (image_composed es ds n s)
    ∙ sym (substituted_cond es (is_entry_of n s d) d.term (image ds n s))

mutual
  pub substituted_composed : (es ds : List Entry) (t : Tree)
      → instance_of (compose es ds) t ≡ instance_of es (instance_of ds t)
  substituted_composed es ds (var n s) = image_composed es ds n s
  substituted_composed es ds (app f ts) = ap (app f) (substituted_all_composed es ds ts)

  pub substituted_all_composed : (es ds : List Entry) (ts : Forest)
      → substituted_all (compose es ds) ts ≡ substituted_all es (substituted_all ds ts)
  substituted_all_composed es ds none = refl
  substituted_all_composed es ds (more t ts) =
      λ i. more (substituted_composed es ds t i) (substituted_all_composed es ds ts i)

mutual
  pub nodes_substituted : (es : List Entry) (t : Tree)
      → nodes (instance_of es t) + length (occurrences t)
      ≡ nodes t + sum_by (λ v. nodes (image es v.name v.sort)) (occurrences t)
  nodes_substituted es (var n s) = omega arith
  nodes_substituted es (app f ts) = omega (arith, nodes_all_substituted es ts)

  pub nodes_all_substituted : (es : List Entry) (ts : Forest)
      → nodes_all (substituted_all es ts) + length (occurrences_in ts)
      ≡ nodes_all ts + sum_by (λ v. nodes (image es v.name v.sort)) (occurrences_in ts)
  nodes_all_substituted es none = refl
  nodes_all_substituted es (more t ts) =
      omega (
        arith,
        nodes_substituted es t,
        nodes_all_substituted es ts,
        length-append (occurrences t) (occurrences_in ts),
        sum_by-append (λ v. nodes (image es v.name v.sort)) (occurrences t) (occurrences_in ts),
      )

argument_substituted : (es : List Entry) (ts : Forest) (k : ℕ)
    → argument (substituted_all es ts) k ≡ option_map (instance_of es) (argument ts k)
argument_substituted es none k = refl
argument_substituted es (more t ts) zero = refl
argument_substituted es (more t ts) (suc zero) = refl
argument_substituted es (more t ts) (suc (suc k)) = argument_substituted es ts (suc k)

-- a place of a term is one of the substituted term, with the substituted subterm
pub at_substituted : (es : List Entry) (t : Tree) (p : List ℕ) (u : Tree) → at t p ≡ Some u
    → at (instance_of es t) p ≡ Some (instance_of es u)
at_substituted es t [] u h = ap (λ v. option_map (instance_of es) v) h
at_substituted es (var n s) (k ∷ p) u h = cc
at_substituted es (app f ts) (k ∷ p) u h =
    option_and_then_some (λ v. at v p) (argument ts k) u h
    (λ v a b. ap (option_and_then (λ w. at w p)) (argument_substituted es ts k ∙ ap (option_map (instance_of es)) a)
    ∙ at_substituted es v p u b)

at_further : (o : Option Tree) (u : Tree) (q : List ℕ) → o ≡ Some u → option_and_then (λ v. at v q) o ≡ at u q
at_further o u q h = ap (option_and_then (λ v. at v q)) h

-- a place that goes on behind one of the term
pub at_substituted_further : (es : List Entry) (t : Tree) (p q : List ℕ) (u : Tree) → at t p ≡ Some u
    → at (instance_of es t) (p ++ q) ≡ at (instance_of es u) q
at_substituted_further es t p q u h =
    at-append (instance_of es t) p q
    ∙ at_further (at (instance_of es t) p) (instance_of es u) q (at_substituted es t p u h)

put_in_substituted : (es : List Entry) (ts : Forest) (k : ℕ) (p : List ℕ) (v t : Tree) → argument ts k ≡ Some t
    → instance_of es (put t p v) ≡ put (instance_of es t) p (instance_of es v)
    → substituted_all es (put_in ts k p v) ≡ put_in (substituted_all es ts) k p (instance_of es v)
put_in_substituted es none k p v t a e = refl
put_in_substituted es (more x xs) zero p v t a e = refl
put_in_substituted es (more x xs) (suc zero) p v t a e =
    let i : x ≡ t = cc in
    ap (λ y. more y (substituted_all es xs))
    (ap (λ y. instance_of es (put y p v)) i ∙ e ∙ ap (λ y. put (instance_of es y) p (instance_of es v)) (sym i))
put_in_substituted es (more x xs) (suc (suc k)) p v t a e =
    ap (more (instance_of es x)) (put_in_substituted es xs (suc k) p v t a e)

-- to put and then substitute is to substitute and then put
pub substituted_put : (es : List Entry) (t : Tree) (p : List ℕ) (u v : Tree) → at t p ≡ Some u
    → instance_of es (put t p v) ≡ put (instance_of es t) p (instance_of es v)
substituted_put es t [] u v h = refl
substituted_put es (var n s) (k ∷ p) u v h = cc
substituted_put es (app f ts) (k ∷ p) u v h =
    option_and_then_some (λ w. at w p) (argument ts k) u h
    (λ w a b. ap (app f) (put_in_substituted es ts k p v w a (substituted_put es w p u v b)))
