-- Reading a term from its terms in postorder gives what it means.
use Rattle.std.proofs.Common.{◌≡◌, ℕ, zero, suc, ◌+◌, ◌-◌, List, [], ◌∷◌, ◌++◌, length, map, take, drop, Option, Some}
use Rattle.std.proofs.Common.{None, refl, sym, ◌∙◌, ap, subst, arith, append_assoc, append-nil, length-append}
use Rattle.std.specs.Option.{option_and_then, option_map}
use Rattle.std.proofs.lemmas.List.{take_at, drop_at}
use Rattle.std.proofs.lemmas.Option.{option_and_then_some, same_Some, none-some}
use Rattle.larch_term.specs.Operator.{PlainOperator}
use Rattle.larch_term.specs.Sorts.{sorts_of}
use Rattle.larch_term.specs.Tree.{Tree, Forest, var, app, none, more, forest_of, list_of}
use Rattle.larch_certificate.specs.Coded.{CodedTree, CodedForest, coded_var, coded_app, no_terms, term_then}
use Rattle.larch_certificate.specs.declared.symbol.Symbol.{Symbol}
use Rattle.larch_verify_meaning.specs.Decoding.{decode, decode_all, applied_to}
use Rattle.larch_verify_decoding.specs.Postorder.{postorder, postorder_all, postorders, count_of, value_of}
use Rattle.larch_verify_decoding.specs.Postorder.{values_after}

abbrev Finder : Type 0
Finder = Symbol → List (List ℕ) → Option PlainOperator

forest_list : (ts : Forest) → forest_of (list_of ts) ≡ ts
forest_list none = refl
forest_list (more t ts) = ap (more t) (forest_list ts)

map_some : {A B P : Type 0} (f : A → B) (o : Option A) (y : B) → option_map f o ≡ Some y
    → ((x : A) → o ≡ Some x → f x ≡ y → P) → P
map_some f None y e k = absurd (none-some y e)
map_some f (Some x) y e k = k x refl (same_Some (f x) y e)

-- a decoded forest has as many terms as were coded
decoded_count : (find : Finder) (cs : CodedForest) (ts : Forest) → decode_all find cs ≡ Some ts
    → length (list_of ts) ≡ count_of cs
decoded_count find no_terms none e = refl
decoded_count find no_terms (more t ts) e = absurd cc
decoded_count find (term_then c cs) ts e =
    option_and_then_some (λ t. option_map (λ us. more t us) (decode_all find cs)) (decode find c) ts e
    (λ t p q. map_some (λ us. more t us) (decode_all find cs) ts q
    (λ us r w. subst (λ xs. length (list_of xs) ≡ suc (count_of cs)) w (ap suc (decoded_count find cs us r))))

bind_bind : {X Y Z : Type 0} (f : X → Option Y) (g : Y → Option Z) (o : Option X)
    → option_and_then g (option_and_then f o) ≡ option_and_then (λ x. option_and_then g (f x)) o
bind_bind f g None = refl
bind_bind f g (Some x) = refl

bind_map : {X Y Z : Type 0} (f : X → Y) (g : Y → Option Z) (o : Option X)
    → option_and_then g (option_map f o) ≡ option_and_then (λ x. g (f x)) o
bind_map f g None = refl
bind_map f g (Some x) = refl

bind_same : {X Y : Type 0} (f g : X → Option Y) (o : Option X) → ((x : X) → o ≡ Some x → f x ≡ g x)
    → option_and_then f o ≡ option_and_then g o
bind_same f g None h = refl
bind_same f g (Some x) h = h x refl

applied : (find : Finder) (f : Symbol) (args : CodedForest) (us : Forest) (cs : List CodedTree) (ts : List Tree)
    → length (list_of us) ≡ count_of args
    → values_after find (coded_app f args ∷ cs) (ts ++ list_of us)
    ≡ option_and_then (λ t. values_after find cs (ts ++ t ∷ []))
    (option_and_then (applied_to us) (find f (sorts_of us)))
applied find f args us cs ts e =
    let k : length (ts ++ list_of us) - count_of args ≡ length ts = omega (arith, length-append ts (list_of us), e) in
    ap (λ n. option_and_then (λ t. values_after find cs (take n (ts ++ list_of us) ++ t ∷ []))
    (value_of find f (drop n (ts ++ list_of us)))) k
    ∙ ap (λ xs. option_and_then (λ t. values_after find cs (xs ++ t ∷ []))
    (value_of find f (drop (length ts) (ts ++ list_of us)))) (take_at ts (list_of us) (length ts) refl)
    ∙ ap (λ xs. option_and_then (λ t. values_after find cs (ts ++ t ∷ [])) (value_of find f xs))
    (drop_at ts (list_of us) (length ts) refl)
    ∙ ap (λ xs. option_and_then (λ t. values_after find cs (ts ++ t ∷ []))
    (option_and_then (applied_to xs) (find f (sorts_of xs)))) (forest_list us)

mutual
  pub read_term : (find : Finder) (c : CodedTree) (cs : List CodedTree) (ts : List Tree)
      → values_after find (postorder c ++ cs) ts
      ≡ option_and_then (λ t. values_after find cs (ts ++ t ∷ [])) (decode find c)
  read_term find (coded_var n s) cs ts = refl
  read_term find (coded_app f args) cs ts =
      ap (λ xs. values_after find xs ts) (append_assoc (postorder_all args) (coded_app f args ∷ []) cs)
      ∙ read_terms find args (coded_app f args ∷ cs) ts
      ∙ bind_same _ _ (decode_all find args) (λ us d. applied find f args us cs ts (decoded_count find args us d))
      ∙ sym (bind_bind (λ us. option_and_then (applied_to us) (find f (sorts_of us)))
      (λ t. values_after find cs (ts ++ t ∷ [])) (decode_all find args))

  pub read_terms : (find : Finder) (args : CodedForest) (cs : List CodedTree) (ts : List Tree)
      → values_after find (postorder_all args ++ cs) ts
      ≡ option_and_then (λ us. values_after find cs (ts ++ list_of us)) (decode_all find args)
  read_terms find no_terms cs ts = ap (λ xs. values_after find cs xs) (sym (append-nil ts))
  read_terms find (term_then a args) cs ts =
      ap (λ xs. values_after find xs ts) (append_assoc (postorder a) (postorder_all args) cs)
      ∙ read_term find a (postorder_all args ++ cs) ts
      ∙ bind_same _ _ (decode find a) (λ t d. read_terms find args cs (ts ++ t ∷ [])
      ∙ bind_same _ _ (decode_all find args)
      (λ us q. ap (λ xs. values_after find cs xs) (append_assoc ts (t ∷ []) (list_of us)))
      ∙ sym (bind_map (λ us. more t us) (λ us. values_after find cs (ts ++ list_of us)) (decode_all find args)))
      ∙ sym (bind_bind (λ t. option_map (λ us. more t us) (decode_all find args))
      (λ us. values_after find cs (ts ++ list_of us)) (decode find a))

-- the whole term
pub read_whole : (find : Finder) (c : CodedTree)
    → values_after find (postorder c) [] ≡ option_map (λ t. t ∷ []) (decode find c)
read_whole find c =
    ap (λ xs. values_after find xs []) (sym (append-nil (postorder c))) ∙ read_term find c [] []
    ∙ as_map (decode find c)
  where
    as_map : (o : Option Tree) → option_and_then (λ t. Some (t ∷ [])) o ≡ option_map (λ t. t ∷ []) o
    as_map None = refl
    as_map (Some t) = refl
