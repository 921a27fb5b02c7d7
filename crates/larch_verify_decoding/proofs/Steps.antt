-- One step of reading a term from its terms.
use Rattle.std.proofs.Common.{◌≡◌, ℕ, suc, ◌-◌, ◌<◌, Bool, true, false, not, List, [], ◌∷◌, ◌++◌, length, map, take}
use Rattle.std.proofs.Common.{drop, All, bytes_eq, IsTrue, ◌↔◌, slice_get, Option, Some, None, refl, sym, ◌∙◌, ap}
use Rattle.std.proofs.Common.{subst, if◌then◌else◌}
use Rattle.std.specs.Prelude.{reverse, IfSome}
use Rattle.std.specs.Option.{option_map, option_and_then}
use Rattle.std.proofs.lemmas.List.{length-map, drop-map, take-map, map_push, reverse-append}
use Rattle.std.proofs.lemmas.List.Elements.{All-push, All-take}
use Rattle.std.proofs.lemmas.Option.{slice_get-get_or, slice_get_within, get_or_from_slice_get}
use Rattle.larch_term.specs.Operator.{PlainOperator}
use Rattle.larch_term.specs.Sorts.{sort_of, sorts_of}
use Rattle.larch_term.specs.Tree.{Tree, var, app, forest_of}
use Rattle.larch_term.specs.declared.statement.Statement.{Statement}
use Rattle.larch_term.specs.declared.statement.Statement.TheVariants.{Equation}
use Rattle.larch_certificate.specs.Coded.{CodedTree, coded_var, coded_app, coded_forest_of}
use Rattle.larch_certificate.specs.declared.line.CodedEquation.{CodedEquation}
use Rattle.larch_certificate.specs.declared.symbol.Symbol.{Symbol}
use Rattle.larch_verify_meaning.specs.Decoding.{decode, equation_between, decode_equation}
use Rattle.larch_verify_pool.specs.Pooled.{tree_in, no_tree, operator_in, no_operator}
use Rattle.larch_verify_pool.proofs.Front.{all_within, numbers_more}
use Rattle.larch_verify_decoding.specs.Postorder.{postorder, postorders, count_of, value_of, values_after}
use Rattle.larch_verify_decoding.proofs.Orders.{order_less, order_step, applied_not, applied_yes, value_none}
use Rattle.larch_verify_decoding.proofs.Orders.{value_some}

abbrev Finder : Type 0
Finder = Symbol → List (List ℕ) → Option PlainOperator

-- a term is taken from those that wait, and its arguments are put there
pub order_more : {X : Type 0} (waiting popped left order pushed : List X) (x : X) (now : X → CodedTree)
    (whole : List CodedTree)
    → waiting ≡ popped ++ x ∷ [] → pushed ≡ order ++ x ∷ []
    → postorders (map now left) ++ now x ∷ [] ≡ postorders (map now popped) ++ postorder (now x)
    → postorders (map now waiting) ++ map now (reverse order) ≡ whole
    → postorders (map now left) ++ map now (reverse pushed) ≡ whole
order_more waiting popped left order pushed x now whole w o p h =
    ap (λ os. postorders (map now left) ++ map now (reverse os)) o
    ∙ ap (λ os. postorders (map now left) ++ map now os) (reverse-append order (x ∷ []))
    ∙ order_step (map now popped) (map now left) (now x) (map now (reverse order)) whole p
    (ap (λ ws. postorders ws ++ map now (reverse order)) (sym (ap (map now) w ∙ map_push now popped x)) ∙ h)

-- fewer terms wait then, with those in them
pub waiting_less : {X : Type 0} (waiting popped left : List X) (x : X) (now : X → CodedTree)
    → waiting ≡ popped ++ x ∷ []
    → postorders (map now left) ++ now x ∷ [] ≡ postorders (map now popped) ++ postorder (now x)
    → length (postorders (map now left)) < length (postorders (map now waiting))
waiting_less waiting popped left x now w p =
    subst (λ ws. length (postorders (map now left)) < length (postorders ws))
    (sym (ap (map now) w ∙ map_push now popped x))
    (order_less (map now popped) (map now left) (now x) p)

-- the newest of a list is the first of those that are read
pub popped_first : {X : Type 0} (order popped : List X) (x : X) (now : X → CodedTree) → order ≡ popped ++ x ∷ []
    → map now (reverse order) ≡ now x ∷ map now (reverse popped)
popped_first order popped x now w = ap (λ os. map now (reverse os)) w ∙ ap (map now) (reverse-append popped (x ∷ []))

pub found_here : (fs : List PlainOperator) (found : Option ℕ) (o : ℕ) → found ≡ Some o
    → IfSome found (λ n. n < length fs)
    → Some (operator_in fs o) ≡ option_and_then (slice_get fs) found
found_here fs found o e w =
    let lt : o < length fs = subst (λ x. IfSome x (λ n. n < length fs)) e w in
    sym (slice_get-get_or fs o no_operator lt) ∙ ap (option_and_then (slice_get fs)) (sym e)

-- an operator doesn't take arguments
pub application_not : (find : Finder) (f : Symbol) (fs : List PlainOperator) (us vs : List Tree) (ks bs cs : List ℕ)
    (found : Option ℕ) (o : ℕ) (r : Bool)
    → ks ≡ cs → bs ≡ cs → vs ≡ us → found ≡ Some o → IfSome found (λ n. n < length fs)
    → option_and_then (slice_get fs) found ≡ find f (sorts_of (forest_of (map (tree_in us) ks)))
    → (IsTrue r ↔ (sorts_of (forest_of (map (tree_in vs) bs)) ≡ (operator_in fs o).domain)) → r ≡ false
    → None ≡ value_of find f (map (tree_in us) cs)
application_not find f fs us vs ks bs cs found o r p q v fo w e h n =
    let a : Some (operator_in fs o) ≡ find f (sorts_of (forest_of (map (tree_in us) cs))) =
    found_here fs found o fo w ∙ e ∙ ap (λ x. find f (sorts_of (forest_of (map (tree_in us) x)))) p in
    let k : IsTrue r ↔ (sorts_of (forest_of (map (tree_in us) cs)) ≡ (operator_in fs o).domain) =
    subst (λ x. IsTrue r ↔ (sorts_of (forest_of (map (tree_in x) cs)) ≡ (operator_in fs o).domain)) v
    (subst (λ x. IsTrue r ↔ (sorts_of (forest_of (map (tree_in vs) x)) ≡ (operator_in fs o).domain)) q h) in
    value_some find f (map (tree_in us) cs) (operator_in fs o) None a
    (applied_not (forest_of (map (tree_in us) cs)) (operator_in fs o) r k n)

-- an operator takes arguments
pub application_yes : (find : Finder) (f : Symbol) (fs : List PlainOperator) (us vs ws : List Tree) (ks bs cs : List ℕ)
    (found : Option ℕ) (o n : ℕ) (r : Bool)
    → ks ≡ cs → bs ≡ cs → vs ≡ us → found ≡ Some o → IfSome found (λ n. n < length fs)
    → option_and_then (slice_get fs) found ≡ find f (sorts_of (forest_of (map (tree_in us) ks)))
    → (IsTrue r ↔ (sorts_of (forest_of (map (tree_in vs) bs)) ≡ (operator_in fs o).domain)) → r ≡ true
    → slice_get ws n ≡ Some (app (operator_in fs o) (forest_of (map (tree_in vs) cs)))
    → Some (tree_in ws n) ≡ value_of find f (map (tree_in us) cs)
application_yes find f fs us vs ws ks bs cs found o n r p q v fo w e h t m =
    let a : Some (operator_in fs o) ≡ find f (sorts_of (forest_of (map (tree_in us) cs))) =
    found_here fs found o fo w ∙ e ∙ ap (λ x. find f (sorts_of (forest_of (map (tree_in us) x)))) p in
    let k : IsTrue r ↔ (sorts_of (forest_of (map (tree_in us) cs)) ≡ (operator_in fs o).domain) =
    subst (λ x. IsTrue r ↔ (sorts_of (forest_of (map (tree_in x) cs)) ≡ (operator_in fs o).domain)) v
    (subst (λ x. IsTrue r ↔ (sorts_of (forest_of (map (tree_in vs) x)) ≡ (operator_in fs o).domain)) q h) in
    value_some find f (map (tree_in us) cs) (operator_in fs o) (Some (tree_in ws n)) a
    (ap Some (get_or_from_slice_get ws n (app (operator_in fs o) (forest_of (map (tree_in vs) cs))) no_tree m)
    ∙ ap (λ x. Some (app (operator_in fs o) (forest_of (map (tree_in x) cs)))) v
    ∙ applied_yes (forest_of (map (tree_in us) cs)) (operator_in fs o) r k t)

-- a variable is read
pub next_variable : (find : Finder) (n s : List ℕ) (t : CodedTree) (cs : List CodedTree) (us vs : List Tree)
    (xs ns : List ℕ) (k : ℕ)
    → coded_var n s ≡ t → take (length us) vs ≡ us → All (λ m. m < length us) xs → ns ≡ xs ++ k ∷ []
    → slice_get vs k ≡ Some (var n s)
    → values_after find (t ∷ cs) (map (tree_in us) xs) ≡ values_after find cs (map (tree_in vs) ns)
next_variable find n s t cs us vs xs ns k e f a p h =
    ap (λ x. values_after find (x ∷ cs) (map (tree_in us) xs)) (sym e)
    ∙ ap (values_after find cs) (sym
    (ap (map (tree_in vs)) p ∙ numbers_more us vs (map (tree_in us) xs) xs k (var n s) f a refl h))

pub number_within : (us vs : List Tree) (xs ns : List ℕ) (k : ℕ) → take (length us) vs ≡ us
    → All (λ m. m < length us) xs → ns ≡ xs ++ k ∷ [] → k < length vs
    → All (λ m. m < length vs) ns
number_within us vs xs ns k f a p l =
    subst (All (λ m. m < length vs)) (sym p) (All-push (λ m. m < length vs) xs k (all_within us vs xs f a) l)

counted : (cs : List CodedTree) → count_of (coded_forest_of cs) ≡ length cs
counted [] = refl
counted (c ∷ cs) = ap suc (counted cs)

-- an application is read
pub next_application : (find : Finder) (f : Symbol) (args : List CodedTree) (t : CodedTree) (cs : List CodedTree)
    (us : List Tree) (xs : List ℕ) (m : ℕ) (ks rest : List ℕ)
    → coded_app f (coded_forest_of args) ≡ t → m ≡ length args → ks ≡ drop (length xs - m) xs
    → rest ≡ take (length xs - m) xs
    → values_after find (t ∷ cs) (map (tree_in us) xs)
    ≡ option_and_then (λ v. values_after find cs (map (tree_in us) rest ++ v ∷ []))
    (value_of find f (map (tree_in us) ks))
next_application find f args t cs us xs m ks rest e l a r =
    let k : length (map (tree_in us) xs) - count_of (coded_forest_of args) ≡ length xs - m =
    (λ i. length-map xs (tree_in us) i - (counted args ∙ sym l) i) in
    ap (λ x. values_after find (x ∷ cs) (map (tree_in us) xs)) (sym e)
    ∙ ap (λ j. option_and_then (λ v. values_after find cs (take j (map (tree_in us) xs) ++ v ∷ []))
    (value_of find f (drop j (map (tree_in us) xs)))) k
    ∙ ap (λ ys. option_and_then (λ v. values_after find cs (ys ++ v ∷ []))
    (value_of find f (drop (length xs - m) (map (tree_in us) xs))))
    (take-map (tree_in us) (length xs - m) xs ∙ ap (map (tree_in us)) (sym r))
    ∙ ap (λ ys. option_and_then (λ v. values_after find cs (map (tree_in us) rest ++ v ∷ [])) (value_of find f ys))
    (drop-map (tree_in us) (length xs - m) xs ∙ ap (map (tree_in us)) (sym a))

pub value_here : (find : Finder) (cs : List CodedTree) (us vs : List Tree) (rest ns : List ℕ) (n : ℕ) (o : Option Tree)
    (z : Option (List Tree))
    → take (length us) vs ≡ us → All (λ m. m < length us) rest → ns ≡ rest ++ n ∷ [] → n < length vs
    → Some (tree_in vs n) ≡ o
    → z ≡ option_and_then (λ v. values_after find cs (map (tree_in us) rest ++ v ∷ [])) o
    → z ≡ values_after find cs (map (tree_in vs) ns)
value_here find cs us vs rest ns n o z f a p l e h =
    h ∙ ap (option_and_then (λ v. values_after find cs (map (tree_in us) rest ++ v ∷ []))) (sym e)
    ∙ ap (values_after find cs)
    (sym (ap (map (tree_in vs)) p ∙ numbers_more us vs (map (tree_in us) rest) rest n (tree_in vs n) f a refl
    (slice_get-get_or vs n no_tree l)))

pub part_within : (us : List Tree) (xs rest : List ℕ) (k : ℕ) → rest ≡ take k xs → All (λ m. m < length us) xs
    → All (λ m. m < length us) rest
part_within us xs rest k e a = subst (All (λ m. m < length us)) (sym e) (All-take (λ m. m < length us) k xs a)

-- the equation of two terms
pub equation_none : (find : Finder) (e : CodedEquation) (l : Tree) → Some l ≡ decode find e.left
    → None ≡ decode find e.right → None ≡ decode_equation find e
equation_none find e l p q =
    ap (option_and_then (equation_between l)) q
    ∙ ap (option_and_then (λ x. option_and_then (equation_between x) (decode find e.right))) p

pub equation_some : (find : Finder) (e : CodedEquation) (l r : Tree) (b : Bool) → Some l ≡ decode find e.left
    → Some r ≡ decode find e.right
    → b ≡ not (bytes_eq (sort_of l) (sort_of r)) → b ≡ false → Some (Equation l r) ≡ decode_equation find e
equation_some find e l r b p q s n =
    by (bytes_eq (sort_of l) (sort_of r)) (sym s ∙ n)
    ∙ ap (option_and_then (equation_between l)) q
    ∙ ap (option_and_then (λ x. option_and_then (equation_between x) (decode find e.right))) p
  where
    by : (d : Bool) → not d ≡ false → Some (Equation l r) ≡ (if d then Some (Equation l r) else None)
    by true z = refl
    by false z = absurd cc

pub equation_unequal : (find : Finder) (e : CodedEquation) (l r : Tree) (b : Bool) → Some l ≡ decode find e.left
    → Some r ≡ decode find e.right
    → b ≡ not (bytes_eq (sort_of l) (sort_of r)) → b ≡ true → None ≡ decode_equation find e
equation_unequal find e l r b p q s n =
    by (bytes_eq (sort_of l) (sort_of r)) (sym s ∙ n)
    ∙ ap (option_and_then (equation_between l)) q
    ∙ ap (option_and_then (λ x. option_and_then (equation_between x) (decode find e.right))) p
  where
    by : (d : Bool) → not d ≡ true → None ≡ (if d then Some (Equation l r) else None)
    by true z = absurd cc
    by false z = refl
