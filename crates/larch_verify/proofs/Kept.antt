-- A theory's operators and statements by numbers, while the pool grows.
use Rattle.std.proofs.Common.{◌≡◌, ℕ, List, [], ◌∷◌, ◌++◌, length, map, take, All, slice_get, Some, refl, sym, ◌∙◌}
use Rattle.std.proofs.lemmas.List.{map_push}
use Rattle.std.proofs.lemmas.List.Elements.{All-head, All-tail, All-push, All-weaker}
use Rattle.larch_term.specs.Operator.{PlainOperator}
use Rattle.larch_term.specs.declared.statement.Statement.{Statement}
use Rattle.larch_term.specs.declared.statement.Theory.{Theory}
use Rattle.larch_verify_pool.specs.Pooled.{Pooled, Grows}
use Rattle.larch_verify_pool.proofs.Front.{front_get}
use Rattle.larch_verify_history.specs.Past.{IsStated, stated_in}
use Rattle.larch_verify_history.specs.declared.stated.Stated.{Stated}
use Rattle.larch_verify_history.proofs.Staying.{stated_stays, stated_same}
use Rattle.larch_verify.specs.Checking.{AreStatements}

operators_stay : (fs gs : List PlainOperator) (ks : List ℕ) (os : List PlainOperator) → take (length fs) gs ≡ fs
    → map (slice_get fs) ks ≡ map Some os → map (slice_get gs) ks ≡ map Some os
operators_stay fs gs [] os f e = e
operators_stay fs gs (k ∷ ks) [] f e = absurd cc
operators_stay fs gs (k ∷ ks) (o ∷ os) f e =
    let a : slice_get fs k ≡ Some o = cc in
    let b : map (slice_get fs) ks ≡ map Some os = cc in
    λ i. front_get fs gs k o f a i ∷ operators_stay fs gs ks os f b i

-- one operator more
pub operators_more : (fs gs : List PlainOperator) (ks : List ℕ) (os : List PlainOperator) (k : ℕ) (o : PlainOperator)
    → take (length fs) gs ≡ fs → map (slice_get fs) ks ≡ map Some os → slice_get gs k ≡ Some o
    → map (slice_get gs) (ks ++ k ∷ []) ≡ map Some (os ++ o ∷ [])
operators_more fs gs ks os k o f e h =
    map_push (slice_get gs) ks k ∙ (λ i. operators_stay fs gs ks os f e i ++ h i ∷ []) ∙ sym (map_push Some os o)

all_stay : (p q : Pooled) (ss : List Stated) → Grows p q → All (IsStated p) ss → All (IsStated q) ss
all_stay p q ss g h = All-weaker (IsStated p) (IsStated q) (λ s w. stated_stays p q s g w) ss h

all_same : (p q : Pooled) (ss : List Stated) → Grows p q → All (IsStated p) ss
    → map (stated_in q) ss ≡ map (stated_in p) ss
all_same p q [] g h = refl
all_same p q (s ∷ ss) g h =
    λ i. stated_same p q s g (All-head (IsStated p) s ss h) i ∷ all_same p q ss g (All-tail (IsStated p) s ss h) i

-- one statement more
pub statements_within : (p q : Pooled) (ss : List Stated) (s : Stated) → Grows p q → All (IsStated p) ss → IsStated q s
    → All (IsStated q) (ss ++ s ∷ [])
statements_within p q ss s g h w = All-push (IsStated q) ss s (all_stay p q ss g h) w

pub statements_more : (p q : Pooled) (ss : List Stated) (s : Stated) (zs : List Statement) (z : Statement) → Grows p q
    → All (IsStated p) ss → map (stated_in p) ss ≡ zs → stated_in q s ≡ z
    → map (stated_in q) (ss ++ s ∷ []) ≡ zs ++ z ∷ []
statements_more p q ss s zs z g h e f =
    map_push (stated_in q) ss s ∙ (λ i. (all_same p q ss g h ∙ e) i ++ f i ∷ [])

-- the theory's statements stay
pub statements_stay : (t : Theory) (p q : Pooled) (ss : List Stated) → AreStatements t p ss → Grows p q
    → AreStatements t q ss
statements_stay t p q ss h g =
    record { within = all_stay p q ss g h.within; says = all_same p q ss g h.within ∙ h.says }
