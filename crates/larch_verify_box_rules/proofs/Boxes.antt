-- Constants of boxes as terms, and tests of boxes.
use Rattle.std.proofs.Common.{◌≡◌, ℕ, suc, ◌+◌, ◌<◌, Bool, true, false, not, ◌&&◌, IsTrue, ◌↔◌, List, [], ◌∷◌, ◌++◌}
use Rattle.std.proofs.Common.{length, map, take, All, bytes_eq, slice_get, Some, refl, sym, ◌∙◌, ap, arith}
use Rattle.std.specs.Cmp.Lexicographic.{pointwise}
use Rattle.std.specs.List.{list_all}
use Rattle.std.proofs.lemmas.Bool.Decides.{same_from_decides}
use Rattle.std.proofs.lemmas.List.{length-map, length-take, map_push}
use Rattle.std.proofs.lemmas.List.Elements.{All-nil, All-cons}
use Rattle.std.proofs.lemmas.Slice.Eq.{slice_eq-Decides}
use Rattle.larch_base.proofs.Bools.{and_left, and_right}
use Rattle.larch_term.proofs.Decided.{sorts_Decides, statement_Decides}
use Rattle.larch_term.specs.Tree.{Tree, more, forest_of}
use Rattle.larch_term.specs.Operator.{PlainOperator}
use Rattle.larch_term.specs.declared.statement.Statement.{Statement}
use Rattle.larch_calculus.specs.Formula.{constant}
use Rattle.larch_calculus.specs.Generation.{constant_terms}
use Rattle.larch_certificate.specs.declared.line.BoxPart.{BoxPart}
use Rattle.larch_verify_meaning.specs.Events.{PlainBox, part_operator, operators_from}
use Rattle.larch_verify_meaning.specs.Matching.{is_empty, same_statements, has_constants}
use Rattle.larch_verify_pool.specs.Pooled.{tree_in}
use Rattle.larch_verify_pool.proofs.Front.{numbers_more}

pub operators_push : (b k : ℕ) (ps : List BoxPart) (p : BoxPart)
    → operators_from b k (ps ++ p ∷ []) ≡ operators_from b k ps ++ part_operator b (k + length ps) p ∷ []
operators_push b k [] p = let e : k ≡ k + 0 = omega arith in ap (λ j. part_operator b j p ∷ []) e
operators_push b k (q ∷ ps) p =
    let e : suc k + length ps ≡ k + length (q ∷ ps) = omega arith in
    ap (λ os. part_operator b k q ∷ os)
    (operators_push b (suc k) ps p ∙ ap (λ j. operators_from b (suc k) ps ++ part_operator b j p ∷ []) e)

-- one constant more, with its number
pub constants_more : (us vs : List Tree) (b i : ℕ) (ps : List BoxPart) (p : BoxPart) (ns ms : List ℕ) (n : ℕ)
    → take (length us) vs ≡ us → All (λ m. m < length us) ns
    → map (tree_in us) ns ≡ map constant (operators_from b 1 (take i ps)) → i < length ps
    → take (i + 1) ps ≡ take i ps ++ p ∷ [] → slice_get vs n ≡ Some (constant (part_operator b (i + 1) p))
    → ms ≡ ns ++ n ∷ []
    → map (tree_in vs) ms ≡ map constant (operators_from b 1 (take (i + 1) ps))
constants_more us vs b i ps p ns ms n f a h l t e m =
    let k : 1 + length (take i ps) ≡ i + 1 = omega (arith, length-take i ps, l) in
    ap (map (tree_in vs)) m
    ∙ numbers_more us vs (map constant (operators_from b 1 (take i ps))) ns n
    (constant (part_operator b (i + 1) p)) f a h e
    ∙ sym (map_push constant (operators_from b 1 (take i ps)) (part_operator b (i + 1) p))
    ∙ ap (λ j. map constant (operators_from b 1 (take i ps) ++ part_operator b j p ∷ [])) (sym k)
    ∙ ap (map constant) (sym (operators_push b 1 (take i ps) p))
    ∙ ap (λ qs. map constant (operators_from b 1 qs)) (sym t)

-- constants as arguments
pub constant_forest : (cs : List PlainOperator) → constant_terms cs ≡ forest_of (map constant cs)
constant_forest [] = refl
constant_forest (c ∷ cs) = ap (more (constant c)) (constant_forest cs)

pub statements_same : (ss zs : List Statement) (r : Bool) → (IsTrue r ↔ (ss ≡ zs)) → r ≡ same_statements ss zs
statements_same ss zs r h =
    same_from_decides r (same_statements ss zs) h
    (slice_eq-Decides statement_Decides ss zs (same_statements ss zs) refl)

pub sorts_same : (ss zs : List (List ℕ)) (r : Bool) → (IsTrue r ↔ (ss ≡ zs)) → r ≡ pointwise bytes_eq ss zs
sorts_same ss zs r h = same_from_decides r (pointwise bytes_eq ss zs) h (sorts_Decides ss zs)

pub empty_same : {X : Type 0} (xs : List X) (r : Bool) → (IsTrue r ↔ (xs ≡ [])) → r ≡ is_empty xs
empty_same xs r h = same_from_decides r (is_empty xs) h (decides xs)
  where
    decides : {X : Type 0} (xs : List X) → (is_empty xs ≡ true → xs ≡ []) × (xs ≡ [] → is_empty xs ≡ true)
    decides [] = (λ e. refl, λ e. refl)
    decides (x ∷ xs) = (λ e. cc, λ e. cc)

not_true : (b : Bool) → not b ≡ true → b ≡ false
not_true true e = cc
not_true false e = refl

all_constants : (ps : List BoxPart) → list_all (λ p. not p.predicate) ps ≡ true → All (λ p. p.predicate ≡ false) ps
all_constants [] e = All-nil (λ p. p.predicate ≡ false)
all_constants (p ∷ ps) e =
    All-cons (λ q. q.predicate ≡ false) p ps
    (not_true p.predicate (and_left (not p.predicate) (list_all (λ q. not q.predicate) ps) e))
    (all_constants ps (and_right (not p.predicate) (list_all (λ q. not q.predicate) ps) e))

-- a box of constants has no predicates
pub are_constants : (b : PlainBox) (ss : List (List ℕ)) → has_constants b ss ≡ true
    → All (λ p. p.predicate ≡ false) b.parts
are_constants b ss e =
    all_constants b.parts (and_left (list_all (λ p. not p.predicate) b.parts)
    (pointwise bytes_eq (map (λ p. p.sort) b.parts) ss) e)

-- as many as there are sorts
pub constants_count : (b : PlainBox) (ss : List (List ℕ)) → has_constants b ss ≡ true → length b.parts ≡ length ss
constants_count b ss e =
    sym (length-map b.parts (λ p. p.sort))
    ∙ ap length ((sorts_Decides (map (λ p. p.sort) b.parts) ss).0
    (and_right (list_all (λ p. not p.predicate) b.parts) (pointwise bytes_eq (map (λ p. p.sort) b.parts) ss) e))

-- both tests of a box's parts
pub has_told : (b : PlainBox) (ss : List (List ℕ)) (r q : Bool) → r ≡ list_all (λ p. not p.predicate) b.parts
    → (IsTrue q ↔ (map (λ p. p.sort) b.parts ≡ ss)) → r ≡ true → q ≡ has_constants b ss
has_told b ss r q e h k =
    sorts_same (map (λ p. p.sort) b.parts) ss q h
    ∙ ap (λ c. c && pointwise bytes_eq (map (λ p. p.sort) b.parts) ss) (sym (sym e ∙ k))
