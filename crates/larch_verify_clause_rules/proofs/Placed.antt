-- Variables by their places, and a term at one of them.
use Rattle.std.proofs.Common.{◌≡◌, ◌==◌, ℕ, zero, suc, ◌+◌, ◌<◌, ◌≤◌, true, false, if◌then◌else◌, List, [], ◌∷◌, ◌++◌}
use Rattle.std.proofs.Common.{length, map, drop, get_or, All, inl, inr, refl, sym, ◌∙◌, ap, subst, arith}
use Rattle.std.specs.List.{slice_set, remove}
use Rattle.std.proofs.lemmas.Bool.Decides.{Decides-eqb}
use Rattle.std.proofs.lemmas.List.{append-nil, append_assoc, drop_more, drop_all, map-set, length-map}
use Rattle.std.proofs.lemmas.List.Elements.{All-head, All-tail, All-nil, All-cons, All-push}
use Rattle.larch_base.proofs.Bools.{true_or_false}
use Rattle.larch_term.specs.Tree.{Tree, var, more, forest_of}
use Rattle.larch_term.specs.declared.variable.Variable.{Variable}
use Rattle.larch_calculus.specs.Observation.{arguments_with, variables_beside}
use Rattle.larch_verify_pool.specs.Pooled.{Pooled, tree_in, Grows, HasTree}
use Rattle.larch_verify_pool.specs.Substitution.{IsVar, AreVariables, variable_of}
use Rattle.larch_verify_pool.proofs.Front.{all_within, numbers_more}
use Rattle.larch_verify_parts.proofs.Numbers.{has_within}
use Rattle.larch_verify_clause_rules.specs.Naming.{variables_named, variable_term}
use Rattle.larch_verify_clause_rules.specs.Observers.{variables_in}

-- one variable more
pub variables_pushed : (p q : Pooled) (ns : List ℕ) (n : ℕ) (names : ℕ → List ℕ) (i : ℕ) (ds : List (List ℕ))
    (us : List Tree)
    → Grows p q → All (λ m. m < length p.trees) ns → i < length ds
    → map (tree_in p.trees) ns ++ map variable_term (variables_named names (i + 1) (drop i ds)) ≡ us
    → HasTree q n (var (names (i + 1)) (get_or ds i []))
    → map (tree_in q.trees) (ns ++ n ∷ [])
    ++ map variable_term (variables_named names (i + 1 + 1) (drop (i + 1) ds)) ≡ us
variables_pushed p q ns n names i ds us g a l e t =
    let k : suc (i + 1) ≡ i + 1 + 1 = omega arith in
    (λ j. numbers_more p.trees q.trees (map (tree_in p.trees) ns) ns n
    (var (names (i + 1)) (get_or ds i [])) g.1 a refl t j
    ++ map variable_term (variables_named names (sym k j) (drop (i + 1) ds)))
    ∙ append_assoc (map (tree_in p.trees) ns) (var (names (i + 1)) (get_or ds i []) ∷ [])
    (map variable_term (variables_named names (suc (i + 1)) (drop (i + 1) ds)))
    ∙ (λ j. map (tree_in p.trees) ns ++ map variable_term (variables_named names (i + 1) (sym (drop_more ds i [] l) j)))
    ∙ e

pub within_pushed : (p q : Pooled) (ns : List ℕ) (n : ℕ) (t : Tree) → Grows p q → All (λ m. m < length p.trees) ns
    → HasTree q n t
    → All (λ m. m < length q.trees) (ns ++ n ∷ [])
within_pushed p q ns n t g a h =
    All-push (λ m. m < length q.trees) ns n (all_within p.trees q.trees ns g.1 a) (has_within q n t h)

-- no sort is left
pub variables_done : (xs us : List Tree) (names : ℕ → List ℕ) (i k : ℕ) (ds : List (List ℕ)) → length ds ≤ i
    → xs ++ map variable_term (variables_named names k (drop i ds)) ≡ us → xs ≡ us
variables_done xs us names i k ds l e =
    sym (append-nil xs) ∙ (λ j. xs ++ map variable_term (variables_named names k (sym (drop_all i ds l) j))) ∙ e

pub length_named : (names : ℕ → List ℕ) (k : ℕ) (ds : List (List ℕ)) → length (variables_named names k ds) ≡ length ds
length_named names k [] = refl
length_named names k (d ∷ ds) = ap suc (length_named names (suc k) ds)

-- there are as many numbers as sorts
pub length_numbers : (us : List Tree) (ns : List ℕ) (names : ℕ → List ℕ) (k : ℕ) (ds : List (List ℕ))
    → map (tree_in us) ns ≡ map variable_term (variables_named names k ds) → length ns ≡ length ds
length_numbers us ns names k ds e =
    sym (length-map ns (tree_in us)) ∙ ap length e ∙ length-map (variables_named names k ds) variable_term
    ∙ length_named names k ds

abbrev IsVariable : List Tree → ℕ → Type 0
IsVariable us v = (v < length us) × IsVar (tree_in us v)

-- they are those of variables
pub are_variables : (us : List Tree) (ns : List ℕ) (vs : List Variable) → All (λ n. n < length us) ns
    → map (tree_in us) ns ≡ map variable_term vs
    → AreVariables us ns
are_variables us [] vs a e = All-nil (IsVariable us)
are_variables us (n ∷ ns) [] a e = absurd cc
are_variables us (n ∷ ns) (v ∷ vs) a e =
    let h : tree_in us n ≡ var v.name v.sort = cc in
    let t : map (tree_in us) ns ≡ map variable_term vs = cc in
    All-cons (IsVariable us) n ns (All-head (λ m. m < length us) n ns a, subst IsVar (sym h) tt)
    (are_variables us ns vs (All-tail (λ m. m < length us) n ns a) t)

pub variables_are : (us : List Tree) (ns : List ℕ) (vs : List Variable) → map (tree_in us) ns ≡ map variable_term vs
    → variables_in us ns ≡ vs
variables_are us [] [] e = refl
variables_are us [] (v ∷ vs) e = absurd cc
variables_are us (n ∷ ns) [] e = absurd cc
variables_are us (n ∷ ns) (v ∷ vs) e =
    let h : tree_in us n ≡ var v.name v.sort = cc in
    let t : map (tree_in us) ns ≡ map variable_term vs = cc in
    λ i. variable_of (h i) ∷ variables_are us ns vs t i

different : (a b : ℕ) → (a ≡ b → ⊥) → (a == b) ≡ false
different a b n = elim (true_or_false (a == b)) [ inl e ↦ absurd (n ((Decides-eqb a b).0 e)) | inr e ↦ e ]

same : (a b : ℕ) → a ≡ b → (a == b) ≡ true
same a b e = (Decides-eqb a b).1 e

-- behind the place there are variables alone
placed_before : (names : ℕ → List ℕ) (place k : ℕ) (t : Tree) (ds : List (List ℕ)) → place < k
    → arguments_with names place t k ds ≡ forest_of (map variable_term (variables_named names k ds))
placed_before names place k t [] l = refl
placed_before names place k t (d ∷ ds) l =
    let n : (k == place) ≡ false = different k place (λ e. absurd (omega (arith, l, e))) in
    λ i. more (if n i then t else var (names k) d) (placed_before names place (suc k) t ds (omega (arith, l)) i)

placed_from : (names : ℕ → List ℕ) (i k place : ℕ) (t : Tree) (ds : List (List ℕ)) → i < length ds → k + i ≡ place
    → arguments_with names place t k ds ≡ forest_of (slice_set (map variable_term (variables_named names k ds)) i t)
placed_from names i k place t [] l e = absurd (omega (arith, l))
placed_from names zero k place t (d ∷ ds) l e =
    let n : (k == place) ≡ true = same k place (omega (arith, e)) in
    λ j. more (if n j then t else var (names k) d) (placed_before names place (suc k) t ds (omega (arith, e)) j)
placed_from names (suc i) k place t (d ∷ ds) l e =
    let n : (k == place) ≡ false = different k place (λ f. absurd (omega (arith, e, f))) in
    λ j. more (if n j then t else var (names k) d)
    (placed_from names i (suc k) place t ds (omega (arith, l)) (omega (arith, e)) j)

-- numbers of variables with another one at an index are the arguments of an observation
pub observed_arguments : (us : List Tree) (ns : List ℕ) (n i : ℕ) (names : ℕ → List ℕ) (ds : List (List ℕ))
    → i < length ds
    → map (tree_in us) ns ≡ map variable_term (variables_named names 1 ds)
    → forest_of (map (tree_in us) (slice_set ns i n)) ≡ arguments_with names (suc i) (tree_in us n) 1 ds
observed_arguments us ns n i names ds l e =
    ap forest_of (map-set (tree_in us) ns i n ∙ ap (λ xs. slice_set xs i (tree_in us n)) e)
    ∙ sym (placed_from names i 1 (suc i) (tree_in us n) ds l (omega arith))

beside_before : (names : ℕ → List ℕ) (place k : ℕ) (ds : List (List ℕ)) → place < k
    → variables_beside names place k ds ≡ variables_named names k ds
beside_before names place k [] l = refl
beside_before names place k (d ∷ ds) l =
    let n : (k == place) ≡ false = different k place (λ e. absurd (omega (arith, l, e))) in
    ap (λ b. if b then variables_beside names place (suc k) ds else record { name = names k; sort = d }
    ∷ variables_beside names place (suc k) ds) n
    ∙ ap (λ vs. record { name = names k; sort = d } ∷ vs) (beside_before names place (suc k) ds (omega (arith, l)))

beside_from : (names : ℕ → List ℕ) (i k place : ℕ) (ds : List (List ℕ)) → i < length ds → k + i ≡ place
    → variables_beside names place k ds ≡ remove (variables_named names k ds) i
beside_from names i k place [] l e = absurd (omega (arith, l))
beside_from names zero k place (d ∷ ds) l e =
    let n : (k == place) ≡ true = same k place (omega (arith, e)) in
    ap (λ b. if b then variables_beside names place (suc k) ds else record { name = names k; sort = d }
    ∷ variables_beside names place (suc k) ds) n
    ∙ beside_before names place (suc k) ds (omega (arith, e))
beside_from names (suc i) k place (d ∷ ds) l e =
    let n : (k == place) ≡ false = different k place (λ f. absurd (omega (arith, e, f))) in
    ap (λ b. if b then variables_beside names place (suc k) ds else record { name = names k; sort = d }
    ∷ variables_beside names place (suc k) ds) n
    ∙ ap (λ vs. record { name = names k; sort = d } ∷ vs)
    (beside_from names i (suc k) place ds (omega (arith, l)) (omega (arith, e)))

-- the other variables of an observation are those without the one at its index
pub beside_index : (names : ℕ → List ℕ) (i : ℕ) (ds : List (List ℕ)) → i < length ds
    → variables_beside names (suc i) 1 ds ≡ remove (variables_named names 1 ds) i
beside_index names i ds l = beside_from names i 1 (suc i) ds l (omega arith)
