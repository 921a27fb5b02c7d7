-- One put after another.
use Rattle.std.proofs.Common.{◌≡◌, ◌≢◌, ℕ, zero, suc, List, [], ◌∷◌, ◌++◌, ◌⊎◌, inl, inr, Option, Some, None}
use Rattle.std.proofs.Common.{option_and_then, option_map, refl, sym, ◌∙◌, ap, subst}
use Rattle.std.proofs.lemmas.Option.{option_and_then_some}
use Rattle.larch_term.specs.Operator.{PlainOperator}
use Rattle.larch_term.specs.Place.{at, argument, put, put_in}
use Rattle.larch_term.specs.Tree.{Tree, Forest, var, app, none, more}
use Rattle.larch_term_law.specs.Apart.{Part}
use Rattle.larch_term_law.proofs.Places.{argument_put_in}

-- put at a place, then at a place below it: put there at once
mutual
  pub put_below_put : (t : Tree) (p q : List ℕ) (u v : Tree) → put (put t p u) (p ++ q) v ≡ put t p (put u q v)
  put_below_put t [] q u v = refl
  put_below_put (var n s) (k ∷ p) q u v = refl
  put_below_put (app f ts) (k ∷ p) q u v = ap (app f) (put_in_below_put ts k p q u v)

  put_in_below_put : (ts : Forest) (k : ℕ) (p q : List ℕ) (u v : Tree)
      → put_in (put_in ts k p u) k (p ++ q) v ≡ put_in ts k p (put u q v)
  put_in_below_put none k p q u v = refl
  put_in_below_put (more t ts) zero p q u v = refl
  put_in_below_put (more t ts) (suc zero) p q u v = ap (λ x. more x ts) (put_below_put t p q u v)
  put_in_below_put (more t ts) (suc (suc k)) p q u v = ap (more t) (put_in_below_put ts (suc k) p q u v)

-- put below a place, then at the place: only the last counts
mutual
  pub put_above_put : (t : Tree) (p q : List ℕ) (u v : Tree) → put (put t (p ++ q) u) p v ≡ put t p v
  put_above_put t [] q u v = refl
  put_above_put (var n s) (k ∷ p) q u v = refl
  put_above_put (app f ts) (k ∷ p) q u v = ap (app f) (put_in_above_put ts k p q u v)

  put_in_above_put : (ts : Forest) (k : ℕ) (p q : List ℕ) (u v : Tree)
      → put_in (put_in ts k (p ++ q) u) k p v ≡ put_in ts k p v
  put_in_above_put none k p q u v = refl
  put_in_above_put (more t ts) zero p q u v = refl
  put_in_above_put (more t ts) (suc zero) p q u v = ap (λ x. more x ts) (put_above_put t p q u v)
  put_in_above_put (more t ts) (suc (suc k)) p q u v = ap (more t) (put_in_above_put ts (suc k) p q u v)

put_in_composed : (ts : Forest) (k : ℕ) (p q : List ℕ) (v t x : Tree) → argument ts k ≡ Some t
    → put t (p ++ q) v ≡ put t p x
    → put_in ts k (p ++ q) v ≡ put_in ts k p x
put_in_composed none k p q v t x a e = refl
put_in_composed (more y ys) zero p q v t x a e = refl
put_in_composed (more y ys) (suc zero) p q v t x a e =
    let i : y ≡ t = cc in ap (λ z. more z ys) (ap (λ z. put z (p ++ q) v) i ∙ e ∙ ap (λ z. put z p x) (sym i))
put_in_composed (more y ys) (suc (suc k)) p q v t x a e = ap (more y) (put_in_composed ys (suc k) p q v t x a e)

-- a put below a place changes the subterm there
pub put_composed : (t : Tree) (p q : List ℕ) (u v : Tree) → at t p ≡ Some u → put t (p ++ q) v ≡ put t p (put u q v)
put_composed t [] q u v h = let i : t ≡ u = cc in ap (λ z. put z q v) i
put_composed (var n s) (k ∷ p) q u v h = cc
put_composed (app f ts) (k ∷ p) q u v h =
    option_and_then_some (λ w. at w p) (argument ts k) u h
    (λ w a b. ap (app f) (put_in_composed ts k p q v w (put u q v) a (put_composed w p q u v b)))

-- the other arguments stay
argument_elsewhere : (ts : Forest) (k j : ℕ) (p : List ℕ) (v : Tree) → k ≢ j
    → argument (put_in ts k p v) j ≡ argument ts j
argument_elsewhere none k j p v h = refl
argument_elsewhere (more t ts) zero j p v h = refl
argument_elsewhere (more t ts) (suc zero) zero p v h = refl
argument_elsewhere (more t ts) (suc zero) (suc zero) p v h = absurd (h refl)
argument_elsewhere (more t ts) (suc zero) (suc (suc j)) p v h = refl
argument_elsewhere (more t ts) (suc (suc k)) zero p v h = refl
argument_elsewhere (more t ts) (suc (suc k)) (suc zero) p v h = refl
argument_elsewhere (more t ts) (suc (suc k)) (suc (suc j)) p v h =
    argument_elsewhere ts (suc k) (suc j) p v (λ e. h (ap suc e))

found_below : (p q : List ℕ) (v : Tree) (o : Option Tree) → ((t : Tree) → at (put t p v) q ≡ at t q)
    → option_and_then (λ x. at x q) (option_map (λ t. put t p v) o) ≡ option_and_then (λ x. at x q) o
found_below p q v None h = refl
found_below p q v (Some t) h = h t

elsewhere_same : (ts : Forest) (k j : ℕ) (p q : List ℕ) (v : Tree) → k ≡ j → ((t : Tree) → at (put t p v) q ≡ at t q)
    → option_and_then (λ x. at x q) (argument (put_in ts k p v) j) ≡ option_and_then (λ x. at x q) (argument ts j)
elsewhere_same ts k j p q v e h =
    ap (λ i. option_and_then (λ x. at x q) (argument (put_in ts i p v) j)) e
    ∙ ap (option_and_then (λ x. at x q)) (argument_put_in ts j p v) ∙ found_below p q v (argument ts j) h

-- what stands at a place that parts from it stays
pub at_elsewhere : (t : Tree) (p q : List ℕ) (v : Tree) → Part p q → at (put t p v) q ≡ at t q
at_elsewhere t [] q v h = absurd h
at_elsewhere t (k ∷ p) [] v h = absurd h
at_elsewhere (var n s) (k ∷ p) (j ∷ q) v h = refl
at_elsewhere (app f ts) (k ∷ p) (j ∷ q) v (inl a) = ap (option_and_then (λ x. at x q)) (argument_elsewhere ts k j p v a)
at_elsewhere (app f ts) (k ∷ p) (j ∷ q) v (inr b) = elsewhere_same ts k j p q v b.0 (λ t. at_elsewhere t p q v b.1)

puts_in_apart : (ts : Forest) (k j : ℕ) (p q : List ℕ) (u v : Tree) → k ≢ j
    → put_in (put_in ts k p u) j q v ≡ put_in (put_in ts j q v) k p u
puts_in_apart none k j p q u v h = refl
puts_in_apart (more t ts) zero zero p q u v h = refl
puts_in_apart (more t ts) zero (suc zero) p q u v h = refl
puts_in_apart (more t ts) zero (suc (suc j)) p q u v h = refl
puts_in_apart (more t ts) (suc zero) zero p q u v h = refl
puts_in_apart (more t ts) (suc zero) (suc zero) p q u v h = absurd (h refl)
puts_in_apart (more t ts) (suc zero) (suc (suc j)) p q u v h = refl
puts_in_apart (more t ts) (suc (suc k)) zero p q u v h = refl
puts_in_apart (more t ts) (suc (suc k)) (suc zero) p q u v h = refl
puts_in_apart (more t ts) (suc (suc k)) (suc (suc j)) p q u v h =
    ap (more t) (puts_in_apart ts (suc k) (suc j) p q u v (λ e. h (ap suc e)))

puts_in_one : (ts : Forest) (k : ℕ) (p q : List ℕ) (u v : Tree)
    → ((t : Tree) → put (put t p u) q v ≡ put (put t q v) p u)
    → put_in (put_in ts k p u) k q v ≡ put_in (put_in ts k q v) k p u
puts_in_one none k p q u v h = refl
puts_in_one (more t ts) zero p q u v h = refl
puts_in_one (more t ts) (suc zero) p q u v h = ap (λ x. more x ts) (h t)
puts_in_one (more t ts) (suc (suc k)) p q u v h = ap (more t) (puts_in_one ts (suc k) p q u v h)

-- puts at places that part can be exchanged
pub puts_exchange : (t : Tree) (p q : List ℕ) (u v : Tree) → Part p q → put (put t p u) q v ≡ put (put t q v) p u
puts_exchange t [] q u v h = absurd h
puts_exchange t (k ∷ p) [] u v h = absurd h
puts_exchange (var n s) (k ∷ p) (j ∷ q) u v h = refl
puts_exchange (app f ts) (k ∷ p) (j ∷ q) u v (inl a) = ap (app f) (puts_in_apart ts k j p q u v a)
puts_exchange (app f ts) (k ∷ p) (j ∷ q) u v (inr b) =
    ap (app f)
    (subst (λ i. put_in (put_in ts k p u) i q v ≡ put_in (put_in ts i q v) k p u) b.0
    (puts_in_one ts k p q u v (λ t. puts_exchange t p q u v b.1)))
