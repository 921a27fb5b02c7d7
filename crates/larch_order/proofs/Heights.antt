-- Heights in the precedence.
use Rattle.std.proofs.Common.{◌≡◌, ℕ, suc, ◌+◌, ◌-◌, ◌<◌, List, [], ◌∷◌, ◌++◌, take, drop, set, length, get_or, Some}
use Rattle.std.proofs.Common.{sym, ◌∙◌, ap, ap₂, drop-cons, append_assoc, arith}
use Rattle.std.proofs.lemmas.List.{length-take-le}
use Rattle.std.proofs.Math.Seq.{take-append-add, drop-append-add}
use Rattle.std.specs.List.{insert, remove}
use Rattle.std.proofs.lemmas.List.Quantifiers.{position-Some}
use borrow.Rule.Slice.PartMut.{put_mid, mid_of}
use Rattle.larch_term.specs.Operator.{PlainOperator}
use Rattle.larch_order.specs.declared.precedence.Ranked.{Ranked}
use Rattle.larch_base.specs.declared.way.Way.{Way}
use Rattle.larch_order.specs.Precedence.{is_of, height_of, with_status, with_status_at}
use Rattle.larch_term.proofs.Decided.{operator_Decides}

-- the operator at its height
pub operator_at : (ranks : List Ranked) (f : PlainOperator) (i : ℕ) (r : Ranked) → Some i ≡ height_of ranks f
    → r ≡ get_or ranks i r → r.operator ≡ f
operator_at ranks f i r e at =
    let p = position-Some (is_of f) ranks i r (sym e) in
    (operator_Decides r.operator f).0 (ap (is_of f) at ∙ p.1)

pub moved_up : (xs : List Ranked) (i j k : ℕ) (ys : List Ranked) (d : Ranked) → i < j → j < length xs → k ≡ j + 1 - i
    → ys ≡ drop 1 (mid_of i k xs) ++ take 1 (mid_of i k xs) → put_mid i k xs ys ≡ insert (remove xs i) j (get_or xs i d)
moved_up xs i j k ys d lt within is e =
    let n : length (take i xs) ≡ i = length-take-le i xs (omega arith) in
    let part : drop i xs ≡ get_or xs i d ∷ drop (suc i) xs = drop-cons xs i d (omega arith) in
    let m : k ≡ suc (j - i) = omega arith in
    let turned : ys ≡ take (j - i) (drop (suc i) xs) ++ get_or xs i d ∷ [] =
    e ∙ ap (λ l. drop 1 (take k l) ++ take 1 (take k l)) part
    ∙ ap (λ q. drop 1 (take q (get_or xs i d ∷ drop (suc i) xs)) ++ take 1 (take q (get_or xs i d ∷ drop (suc i) xs)))
    m in
    let post : drop k (drop i xs) ≡ drop (j - i) (drop (suc i) xs) =
    ap (drop k) part ∙ ap (λ q. drop q (get_or xs i d ∷ drop (suc i) xs)) m in
    let q : j ≡ length (take i xs) + (j - i) = omega arith in
    let front : take j (take i xs ++ drop (suc i) xs) ≡ take i xs ++ take (j - i) (drop (suc i) xs) =
    ap (λ z. take z (take i xs ++ drop (suc i) xs)) q ∙ take-append-add (take i xs) (drop (suc i) xs) (j - i) in
    let back : drop j (take i xs ++ drop (suc i) xs) ≡ drop (j - i) (drop (suc i) xs) =
    ap (λ z. drop z (take i xs ++ drop (suc i) xs)) q ∙ drop-append-add (take i xs) (drop (suc i) xs) (j - i) in
    ap₂ (λ u v. take i xs ++ (u ++ v)) turned post
    ∙ ap (λ v. take i xs ++ v) (append_assoc (take (j - i) (drop (suc i) xs)) (get_or xs i d ∷ [])
    (drop (j - i) (drop (suc i) xs)))
    ∙ sym (append_assoc (take i xs) (take (j - i) (drop (suc i) xs)) (get_or xs i d ∷ drop (j - i) (drop (suc i) xs)))
    ∙ sym (ap₂ (λ u v. u ++ get_or xs i d ∷ v) front back)

pub status_set : (ranks : List Ranked) (f : PlainOperator) (way : Way) (i : ℕ) (r : Ranked) → Some i ≡ height_of ranks f
    → r ≡ get_or ranks i r
    → set ranks i (record { operator = r.operator; status = way }) ≡ with_status ranks f way
status_set ranks f way i r e at = rw (operator_at ranks f i r e at) (ap (with_status_at ranks f way) e)
