-- What passed tests tell.
use Rattle.std.proofs.Common.{◌≡◌, ◌≢◌, ℕ, suc, Bool, true, false, cond, not, ◌&&◌, ◌||◌, ◌-◌, inl, inr, List, [], ◌∷◌}
use Rattle.std.proofs.Common.{map, bytes_eq, All, Contains, Option, Some, None, option_map, refl, sym, ◌∙◌, ap, subst}
use Rattle.std.proofs.Common.{arith}
use Rattle.std.specs.List.{list_all, list_any}
use Rattle.std.specs.Option.{option_map_or}
use Rattle.std.specs.Cmp.Lexicographic.{pointwise}
use Rattle.std.proofs.lemmas.List.Elements.{All-nil, All-cons, All-contains}
use Rattle.std.proofs.lemmas.List.Kept.{AllPairs-cons}
use Rattle.std.proofs.lemmas.Option.{option_and_then_some}
use Rattle.std.proofs.lemmas.Slice.Eq.{bytes_eq-Decides, slice_eq-Decides}
use Rattle.larch_base.proofs.Bools.{true_or_false, and_left, and_right}
use Rattle.larch_base.proofs.Members.{contains_here, contains_later, got_contains}
use Rattle.larch_base.proofs.Options.{some_inj}
use Rattle.larch_base.specs.ByNumber.{numbered}
use Rattle.larch_term.proofs.Decided.{tree_Decides, statement_Decides, sorts_Decides}
use Rattle.larch_term.specs.Equality.{same_tree, same_statement}
use Rattle.larch_term.specs.Place.{at}
use Rattle.larch_term.specs.Tree.{Tree}
use Rattle.larch_term.specs.Variable.{occurrences, same_variable}
use Rattle.larch_term.specs.declared.statement.Statement.{Statement}
use Rattle.larch_term.specs.declared.variable.Variable.{Variable}
use Rattle.larch_verify_meaning.proofs.TermLawOccurring.{variable_Decides}
use Rattle.larch_verify_meaning.proofs.TablesIdentities.{at_place}
use Rattle.larch_verify_meaning.specs.CalculusBoxes.{constants_from}
use Rattle.larch_verify_meaning.specs.CalculusDerivable.{AreApart}
use Rattle.larch_verify_meaning.specs.CalculusObservation.{AreDifferent}
use Rattle.larch_certificate.specs.declared.line.BoxPart.{BoxPart}
use Rattle.larch_verify_meaning.specs.Decoding.{each}
use Rattle.larch_verify_meaning.specs.Events.{PlainBox, box_constant, box_predicate, part_operator, operators_from}
use Rattle.larch_verify_meaning.specs.Events.{operators_of}
use Rattle.larch_verify_meaning.specs.Matching.{is_empty, same_statements, all_different, occurs_in, are_apart}
use Rattle.larch_verify_meaning.specs.Matching.{has_constants, is_predicate_on}
use Rattle.larch_verify_meaning.specs.Rules.{stands_at}

-- what is a value under a map was one before
pub option_map_some : {A B P : Type 0} (f : A → B) (o : Option A) (y : B) → option_map f o ≡ Some y
    → ((x : A) → o ≡ Some x → f x ≡ y → P) → P
option_map_some f None y e k = cc
option_map_some f (Some x) y e k = k x refl (some_inj e)

-- a value of a choice is one of its branches
pub cond_either : {A P : Type 0} (b : Bool) (x y : Option A) (z : A) → cond b x y ≡ Some z
    → (b ≡ true → x ≡ Some z → P) → (b ≡ false → y ≡ Some z → P) → P
cond_either true x y z e k l = k refl e
cond_either false x y z e k l = l refl e

pub cond_then : {A : Type 0} (b : Bool) (o : Option A) (y : A) → cond b o None ≡ Some y → (b ≡ true) × (o ≡ Some y)
cond_then true o y e = (refl, e)
cond_then false o y e = cc

-- what passes a test is there
pub map_or_true : {A P : Type 0} (f : A → Bool) (o : Option A) → option_map_or f o false ≡ true
    → ((x : A) → o ≡ Some x → f x ≡ true → P) → P
map_or_true f None e k = cc
map_or_true f (Some x) e k = k x refl e

pub not_true : (b : Bool) → not b ≡ true → b ≡ false
not_true true e = cc
not_true false e = refl

neither_left : (a b : Bool) → not (a || b) ≡ true → a ≡ false
neither_left true b e = cc
neither_left false b e = refl

neither_right : (a b : Bool) → not (a || b) ≡ true → not b ≡ true
neither_right true b e = cc
neither_right false b e = e

pub numbered_contains : {X : Type 0} (xs : List X) (k : ℕ) (x : X) → numbered xs k ≡ Some x → Contains xs x
numbered_contains xs k x e = got_contains xs (k - 1) x (at_place xs k x e)

-- what is found for each has what is found for any
pub each_told : {X Y : Type 0} (find : X → Option Y) (P : Y → Type 0) → ((x : X) (y : Y) → find x ≡ Some y → P y)
    → (xs : List X) (ys : List Y) → each find xs ≡ Some ys → All P ys
each_told find P k [] ys e = subst (All P) (some_inj e) (All-nil P)
each_told find P k (x ∷ xs) ys e =
    option_and_then_some (λ y. option_map (λ zs. y ∷ zs) (each find xs)) (find x) ys e
    (λ y p q. option_map_some (λ zs. y ∷ zs) (each find xs) ys q
    (λ zs r w. subst (All P) w (All-cons P y zs (k x y p) (each_told find P k xs zs r))))

pub all_told : {X : Type 0} (f : X → Bool) (P : X → Type 0) → ((x : X) → f x ≡ true → P x) → (xs : List X)
    → list_all f xs ≡ true → All P xs
all_told f P k [] e = All-nil P
all_told f P k (x ∷ xs) e =
    All-cons P x xs (k x (and_left (f x) (list_all f xs) e)) (all_told f P k xs (and_right (f x) (list_all f xs) e))

pub bytes_told : (xs ys : List ℕ) → bytes_eq xs ys ≡ true → xs ≡ ys
bytes_told xs ys e = (bytes_eq-Decides xs ys).0 e

pub contains_told : (s : List ℕ) (ss : List (List ℕ)) → list_any (bytes_eq s) ss ≡ true → Contains ss s
contains_told s [] e = cc
contains_told s (r ∷ rs) e =
    elim (true_or_false (bytes_eq s r)) [
      | inl p ↦ subst (Contains (r ∷ rs)) (sym (bytes_told s r p)) (contains_here r rs)
      | inr p ↦ contains_later r s rs (contains_told s rs (sym (ap (λ b. b || list_any (bytes_eq s) rs) p) ∙ e))
    ]

pub statement_told : (s r : Statement) → same_statement s r ≡ true → s ≡ r
statement_told s r e = (statement_Decides s r).0 e

pub statements_told : (ss rs : List Statement) → same_statements ss rs ≡ true → ss ≡ rs
statements_told ss rs e = (slice_eq-Decides statement_Decides ss rs (same_statements ss rs) refl).0 e

pub place_told : (t : Tree) (p : List ℕ) (u : Tree) → stands_at t p u ≡ true → at t p ≡ Some u
place_told t p u e =
    map_or_true (λ v. same_tree v u) (at t p) e (λ v q r. q ∙ ap Some ((tree_Decides v u).0 r))

pub empty_told : {X : Type 0} (xs : List X) → is_empty xs ≡ true → xs ≡ []
empty_told [] e = refl
empty_told (x ∷ xs) e = cc

-- no part is a predicate
not_predicate : (b k : ℕ) (p : BoxPart) → not p.predicate ≡ true → part_operator b k p ≡ box_constant b k p.sort
not_predicate b k p e =
    ap (λ x. cond x (box_predicate b k p.sort) (box_constant b k p.sort)) (not_true p.predicate e)

all_constants : (b k : ℕ) (ps : List BoxPart) → list_all (λ p. not p.predicate) ps ≡ true
    → operators_from b k ps ≡ constants_from b k (map (λ p. p.sort) ps)
all_constants b k [] e = refl
all_constants b k (p ∷ ps) e =
    let first = and_left (not p.predicate) (list_all (λ q. not q.predicate) ps) e in
    let rest = and_right (not p.predicate) (list_all (λ q. not q.predicate) ps) e in
    λ i. not_predicate b k p first i ∷ all_constants b (suc k) ps rest i

pub constants_told : (b : PlainBox) (ss : List (List ℕ)) → has_constants b ss ≡ true
    → operators_of b ≡ constants_from b.number 1 ss
constants_told b ss e =
    let sorts = pointwise bytes_eq (map (λ p. p.sort) b.parts) ss in
    all_constants b.number 1 b.parts (and_left (list_all (λ p. not p.predicate) b.parts) sorts e)
    ∙ ap (constants_from b.number 1)
    ((sorts_Decides (map (λ p. p.sort) b.parts) ss).0 (and_right (list_all (λ p. not p.predicate) b.parts) sorts e))

one_predicate : (b : ℕ) (s : List ℕ) (ps : List BoxPart) → is_predicate_on s ps ≡ true
    → operators_from b 1 ps ≡ box_predicate b 1 s ∷ []
one_predicate b s [] e = cc
one_predicate b s (p ∷ []) e =
    ap (λ x. cond x (box_predicate b 1 p.sort) (box_constant b 1 p.sort) ∷ [])
    (and_left p.predicate (bytes_eq p.sort s) e)
    ∙ ap (λ r. box_predicate b 1 r ∷ []) (bytes_told p.sort s (and_right p.predicate (bytes_eq p.sort s) e))
one_predicate b s (p ∷ q ∷ ps) e = cc

pub predicate_told : (b : PlainBox) (s : List ℕ) → is_predicate_on s b.parts ≡ true
    → operators_of b ≡ box_predicate b.number 1 s ∷ []
predicate_told b s e = one_predicate b.number s b.parts e

pub no_parts_told : (b : PlainBox) → is_empty b.parts ≡ true → operators_of b ≡ []
no_parts_told b e = ap (operators_from b.number 1) (empty_told b.parts e)

none_same : (v : Variable) (vs : List Variable) → not (list_any (same_variable v) vs) ≡ true → All (λ w. v ≢ w) vs
none_same v [] e = All-nil (λ w. v ≢ w)
none_same v (w ∷ ws) e =
    All-cons (λ w. v ≢ w) w ws
    (λ p. apart (same_variable v w) (neither_left (same_variable v w) (list_any (same_variable v) ws) e)
    ((variable_Decides v w).1 p))
    (none_same v ws (neither_right (same_variable v w) (list_any (same_variable v) ws) e))
  where
    apart : (b : Bool) → b ≡ false → b ≡ true → ⊥
    apart b p q = cc

pub different_told : (vs : List Variable) → all_different vs ≡ true → AreDifferent vs
different_told [] e = λ i j d lt within. absurd (omega arith)
different_told (v ∷ vs) e =
    AllPairs-cons (λ v w. v ≢ w) v vs
    (none_same v vs (and_left (not (list_any (same_variable v) vs)) (all_different vs) e))
    (different_told vs (and_right (not (list_any (same_variable v) vs)) (all_different vs) e))

absent_told : (t : Tree) (v : Variable) → not (occurs_in t v) ≡ true → Contains (occurrences t) v → ⊥
absent_told t v e c = All-contains (λ w. v ≢ w) (occurrences t) v (none_same v (occurrences t) e) c refl

pub apart_told : (vs : List Variable) (l r : Tree) → are_apart vs l r ≡ true → AreApart vs l r
apart_told vs l r e =
    let test : Variable → Bool = λ v. not (occurs_in l v) && not (occurs_in r v) in
    let none = and_right (all_different vs) (list_all test vs) e in
    record {
      different = different_told vs (and_left (all_different vs) (list_all test vs) e);
      left = all_told test (λ v. Contains (occurrences l) v → ⊥)
          (λ v p. absent_told l v (and_left (not (occurs_in l v)) (not (occurs_in r v)) p)) vs none;
      right = all_told test (λ v. Contains (occurrences r) v → ⊥)
          (λ v p. absent_told r v (and_right (not (occurs_in l v)) (not (occurs_in r v)) p)) vs none;
    }
