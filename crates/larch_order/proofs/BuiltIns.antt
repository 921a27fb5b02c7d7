-- The height above the built-in operators.
use Rattle.std.proofs.Common.{◌≡◌, ℕ, suc, ◌+◌, ◌≤◌, ◌<◌, take, map, Bool, true, false, cond, ◌||◌, List, [], ◌∷◌, ◌++◌}
use Rattle.std.proofs.Common.{length, get_or, refl, sym, ◌∙◌, ap, arith}
use Rattle.std.specs.List.{list_any}
use Rattle.std.proofs.lemmas.List.Folds.{list_any-append}
use Rattle.std.proofs.lemmas.List.{take_more, length-take-le}
use Rattle.larch_term.specs.Operator.{PlainOperator}
use Rattle.std.proofs.lemmas.List.{map-append}
use Rattle.larch_order.specs.declared.precedence.Ranked.{Ranked}
use Rattle.larch_term.specs.BuiltIn.{is_built_in}
use Rattle.larch_base.proofs.Bools.{or_left, or_right, or_known_right}
use Rattle.larch_order.specs.Precedence.{new_rank, above_built_ins}

-- one entry more: a built-in operator moves the height behind itself
pub above_one_more : (ranks : List Ranked) (r : Ranked) → is_built_in r.operator ≡ true
    → above_built_ins (ranks ++ r ∷ []) ≡ length ranks + 1
above_one_more [] r e = rw e refl
above_one_more (q ∷ ranks) r e =
    let a : list_any (λ p. is_built_in p.operator) (ranks ++ r ∷ []) ≡ true =
    list_any-append (λ p. is_built_in p.operator) ranks (r ∷ [])
    ∙ or_right (list_any (λ p. is_built_in p.operator) ranks) (is_built_in r.operator || false)
    (or_left (is_built_in r.operator) false e) in
    rw (or_right (is_built_in q.operator) (list_any (λ p. is_built_in p.operator) (ranks ++ r ∷ [])) a)
    (omega (arith, above_one_more ranks r e))

-- one entry more of another operator leaves it
pub above_other_more : (ranks : List Ranked) (r : Ranked) → is_built_in r.operator ≡ false
    → above_built_ins (ranks ++ r ∷ []) ≡ above_built_ins ranks
above_other_more [] r e = rw e refl
above_other_more (q ∷ ranks) r e =
    let a : list_any (λ p. is_built_in p.operator) (ranks ++ r ∷ []) ≡ list_any (λ p. is_built_in p.operator) ranks =
    list_any-append (λ p. is_built_in p.operator) ranks (r ∷ [])
    ∙ rw e (or_known_right (list_any (λ p. is_built_in p.operator) ranks) false refl) in
    rw (a, above_other_more ranks r e) refl

within_more : (b : Bool) (n m : ℕ) → n ≤ m → cond b (1 + n) 0 ≤ suc m
within_more true n m h = omega arith
within_more false n m h = omega arith

pub above_within : (ranks : List Ranked) → above_built_ins ranks ≤ length ranks
above_within [] = omega arith
above_within (q ∷ ranks) =
    within_more (list_any (λ p. is_built_in p.operator) (q ∷ ranks)) (above_built_ins ranks) (length ranks)
    (above_within ranks)

-- a step of the search: the entries so far are one more
pub next_height : (ranks : List Ranked) (i old new : ℕ) (r : Ranked) (b : Bool) → i < length ranks
    → r ≡ get_or ranks i r → b ≡ is_built_in r.operator
    → (old ≡ above_built_ins (take i ranks)) × (old ≤ i) → new ≡ cond b (i + 1) old
    → (new ≡ above_built_ins (take (i + 1) ranks)) × (new ≤ i + 1)
next_height ranks i old new r true lt at is h e =
    let t : take (i + 1) ranks ≡ take i ranks ++ r ∷ [] =
    take_more ranks i r lt ∙ ap (λ q. take i ranks ++ q ∷ []) (sym at) in
    let n : length (take i ranks) ≡ i = length-take-le i ranks (omega arith) in
    (e ∙ sym (rw t (above_one_more (take i ranks) r (sym is) ∙ ap (λ m. m + 1) n)), omega arith)
next_height ranks i old new r false lt at is h e =
    let t : take (i + 1) ranks ≡ take i ranks ++ r ∷ [] =
    take_more ranks i r lt ∙ ap (λ q. take i ranks ++ q ∷ []) (sym at) in
    (e ∙ h.0 ∙ sym (rw t (above_other_more (take i ranks) r (sym is))), omega arith)

-- operators put in turn
pub ranked_in_turn : (a b : List Ranked) (fs gs : List PlainOperator) → a ≡ [] ++ map new_rank fs
    → b ≡ a ++ map new_rank gs → b ≡ map new_rank (fs ++ gs)
ranked_in_turn a b fs gs p q = q ∙ ap (λ l. l ++ map new_rank gs) p ∙ sym (map-append new_rank fs gs)
