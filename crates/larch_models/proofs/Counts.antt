-- How many assignments variables have, variable by variable.
use Rattle.std.proofs.Common.{◌≡◌, ◌↔◌, IsTrue, false, ◌≤◌, ◌<◌, ◌+◌, ◌*◌, ◌==◌, ℕ, zero, suc, List, [], ◌∷◌, drop}
use Rattle.std.proofs.Common.{get_or, length, sym}
use Rattle.std.proofs.Common.{◌∙◌, ap, arith}
use Rattle.std.proofs.Math.Nat.{mul-suc, mul_assoc}
use Rattle.std.proofs.Math.ListN.{drop_of_length-le}
use Rattle.std.proofs.lemmas.Bool.{ne_eqb}
use Rattle.larch_term.specs.declared.variable.Variable.{Variable}
use Rattle.larch_models.proofs.Rests.{drop_next}
use Rattle.larch_models_meaning.specs.FiniteModel.{argument_lists, assignment_count}

times_some : (k n : ℕ) → 1 ≤ n → k ≤ k * n
times_some k zero l = absurd (omega (arith, l))
times_some k (suc n) l = let e = mul-suc k n in omega (arith, e)

-- there is one at least
some_assignments : (last : List ℕ → ℕ) (ws : List Variable) → 1 ≤ assignment_count last ws
some_assignments last [] = omega arith
some_assignments last (w ∷ ws) =
    let h = some_assignments last ws in
    let k = times_some (suc (last w.sort)) (assignment_count last ws) h in
    omega (arith, k)

-- one variable more is counted
pub count_more : (last : List ℕ → ℕ) (ws : List Variable) (i k : ℕ) (w : Variable) → i < length ws → w ≡ get_or ws i w
    → (k * suc (last w.sort)) * assignment_count last (drop (i + 1) ws) ≡ k * assignment_count last (drop i ws)
count_more last ws i k w l e =
    mul_assoc k (suc (last w.sort)) (assignment_count last (drop (i + 1) ws))
    ∙ ap (λ us. k * assignment_count last us)
    (sym (drop_next ws i w l e))

-- where so many are too many, all are
pub count_beyond : (last : List ℕ → ℕ) (ws us : List Variable) (k most : ℕ)
    → k * assignment_count last us ≡ assignment_count last ws → most < k → assignment_count last ws ≤ most → ⊥
count_beyond last ws us k most e l h =
    let s = some_assignments last us in
    let t = times_some k (assignment_count last us) s in
    absurd (omega (arith, e, l, h, t))

pub product_step : (last : List ℕ → ℕ) (ws : List Variable) (i k n : ℕ) (w : Variable) → i < length ws
    → w ≡ get_or ws i w → n ≡ last w.sort
    → (k * (n + 1)) * assignment_count last (drop (i + 1) ws) ≡ k * assignment_count last (drop i ws)
product_step last ws i k n w l e h =
    ap (λ m. (k * m) * assignment_count last (drop (i + 1) ws)) (one_more n ∙ ap suc h) ∙ count_more last ws i k w l e
  where
    one_more : (n : ℕ) → n + 1 ≡ suc n
    one_more n = omega arith

pub is_not_few : (last : List ℕ → ℕ) (ws : List Variable) (i k more most n : ℕ) (w : Variable) → i < length ws
    → w ≡ get_or ws i w → n ≡ last w.sort → more ≡ k * (n + 1)
    → k * assignment_count last (drop i ws) ≡ assignment_count last ws → most < more
    → IsTrue false ↔ (assignment_count last ws ≤ most)
is_not_few last ws i k more most n w l e h r p lt = (
  λ t. absurd (grind arith),
  λ le. absurd (count_beyond last ws (drop (i + 1) ws) more most
      (ap (λ m. m * assignment_count last (drop (i + 1) ws)) r ∙ product_step last ws i k n w l e h ∙ p) lt le),
)

-- ---- lists of arguments

pub some_lists : (last : List ℕ → ℕ) (ss : List (List ℕ)) → 1 ≤ argument_lists last ss
some_lists last [] = omega arith
some_lists last (s ∷ ss) =
    let h = some_lists last ss in
    let k = times_some (suc (last s)) (argument_lists last ss) h in
    omega (arith, k)

-- one argument more is counted
pub lists_further : (last : List ℕ → ℕ) (ss : List (List ℕ)) (i k n : ℕ) (s : List ℕ) → i < length ss
    → s ≡ get_or ss i s → n ≡ last s
    → (k * (n + 1)) * argument_lists last (drop (i + 1) ss) ≡ k * argument_lists last (drop i ss)
lists_further last ss i k n s l e h =
    ap (λ m. (k * m) * argument_lists last (drop (i + 1) ss)) (one_more n ∙ ap suc h)
    ∙ mul_assoc k (suc (last s)) (argument_lists last (drop (i + 1) ss))
    ∙ ap (λ us. k * argument_lists last us) (sym (drop_next ss i s l e))
  where
    one_more : (n : ℕ) → n + 1 ≡ suc n
    one_more n = omega arith

-- where so many are too many, all are
pub lists_beyond : (last : List ℕ → ℕ) (ss : List (List ℕ)) (i k n count : ℕ) (s : List ℕ) → i < length ss
    → s ≡ get_or ss i s → n ≡ last s → k * argument_lists last (drop i ss) ≡ argument_lists last ss
    → count < k * (n + 1) → false ≡ (count == argument_lists last ss)
lists_beyond last ss i k n count s l e h p lt =
    let whole = lists_further last ss i k n s l e h ∙ p in
    let some = some_lists last (drop (i + 1) ss) in
    let t = times_some (k * (n + 1)) (argument_lists last (drop (i + 1) ss)) some in
    sym (ne_eqb count (argument_lists last ss) (λ q. absurd (omega (arith, whole, t, lt, q))))

pub not_below : (a b : ℕ) → (a < b → ⊥) → b ≤ a
not_below a zero h = omega arith
not_below zero (suc b) h = absurd (h (omega arith))
not_below (suc a) (suc b) h = let le = not_below a b (λ l. h (omega (arith, l))) in omega (arith, le)

pub lists_end : (last : List ℕ → ℕ) (ss : List (List ℕ)) (i k : ℕ) → length ss ≤ i
    → k * argument_lists last (drop i ss) ≡ argument_lists last ss → k ≡ argument_lists last ss
lists_end last ss i k l e =
    let one = mul_one k in
    sym (ap (λ us. k * argument_lists last us) (drop_of_length-le ss l) ∙ one) ∙ e
  where
    mul_one : (k : ℕ) → k * 1 ≡ k
    mul_one k = omega arith
