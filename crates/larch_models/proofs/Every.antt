-- What is so of all lists of values, of all arguments and of all assignments.
use Rattle.std.proofs.Common.{◌≡◌, ◌≤◌, ◌-◌, ◌&&◌, ℕ, zero, suc, Bool, true, false, List, [], ◌∷◌, ◌++◌, length, refl}
use Rattle.std.proofs.Common.{sym, ◌∙◌, ap, arith, append_assoc, length-append, take, Option, None, Some}
use Rattle.std.specs.Prelude.{IsSome}
use Rattle.std.specs.Option.{option_to_list}
use Rattle.std.proofs.Math.Seq.{take-append_seam}
use Rattle.std.specs.Prelude.{map}
use Rattle.larch_base.proofs.Bools.{and_not_left, and_known_left}
use Rattle.larch_term.specs.declared.variable.Variable.{Variable}
use Rattle.larch_models_meaning.specs.Computed.{all_up_to, all_arguments, all_assignments, update}
use Rattle.larch_models_meaning.specs.Interpretation.{Assignment}
use Rattle.larch_models.specs.Every.{all_lists}
use Rattle.larch_models.specs.Stacks.{assignment_of}

-- what is so of each number up to one is so of all
pub up_to_same : (n : ℕ) (p q : ℕ → Bool) → ((v : ℕ) → v ≤ n → p v ≡ q v) → all_up_to n p ≡ all_up_to n q
up_to_same zero p q h = h zero (omega arith)
up_to_same (suc n) p q h =
    ap (λ b. b && all_up_to n p) (h (suc n) (omega arith))
    ∙ ap (λ b. q (suc n) && b) (up_to_same n p q (λ v le. h v (omega (arith, le))))

-- values, each up to the last one of its place
abbrev pub Within : List ℕ → List ℕ → Type 0
Within [] [] = Unit {0}
Within [] (v ∷ vs) = ⊥
Within (n ∷ ns) [] = ⊥
Within (n ∷ ns) (v ∷ vs) = (v ≤ n) × Within ns vs

pub within_length : (ns vs : List ℕ) → Within ns vs → length vs ≡ length ns
within_length [] [] w = refl
within_length [] (v ∷ vs) w = absurd w
within_length (n ∷ ns) [] w = absurd w
within_length (n ∷ ns) (v ∷ vs) w = ap suc (within_length ns vs w.1)

pub lists_same : (ns : List ℕ) (p q : List ℕ → Bool) → ((vs : List ℕ) → Within ns vs → p vs ≡ q vs)
    → all_lists ns p ≡ all_lists ns q
lists_same [] p q h = h [] tt
lists_same (n ∷ ns) p q h =
    up_to_same n (λ v. all_lists ns (λ vs. p (v ∷ vs))) (λ v. all_lists ns (λ vs. q (v ∷ vs)))
    (λ v le. lists_same ns (λ vs. p (v ∷ vs)) (λ vs. q (v ∷ vs)) (λ vs w. h (v ∷ vs) (le, w)))

pub arguments_are_lists : (last : List ℕ → ℕ) (rs : List (List ℕ)) (p : List ℕ → Bool)
    → all_arguments last rs p ≡ all_lists (map last rs) p
arguments_are_lists last [] p = refl
arguments_are_lists last (r ∷ rs) p =
    up_to_same (last r) (λ v. all_arguments last rs (λ vs. p (v ∷ vs)))
    (λ v. all_lists (map last rs) (λ vs. p (v ∷ vs))) (λ v le. arguments_are_lists last rs (λ vs. p (v ∷ vs)))

pub assignments_are_lists : (last : List ℕ → ℕ) (ws : List Variable) (a : Assignment) (p : Assignment → Bool)
    → all_assignments last ws a p ≡ all_lists (map (λ w. last w.sort) ws) (λ vs. p (assignment_of a ws vs))
assignments_are_lists last [] a p = refl
assignments_are_lists last (w ∷ ws) a p =
    up_to_same (last w.sort) (λ v. all_assignments last ws (update w.name w.sort v a) p)
    (λ v. all_lists (map (λ u. last u.sort) ws) (λ vs. p (assignment_of (update w.name w.sort v a) ws vs)))
    (λ v le. assignments_are_lists last ws (update w.name w.sort v a) p)

-- the lists that begin with values and one more
pub lists_behind : (ns us : List ℕ) (v : ℕ) (p : List ℕ → Bool)
    → all_lists ns (λ vs. p ((us ++ v ∷ []) ++ vs)) ≡ all_lists ns (λ vs. p (us ++ v ∷ vs))
lists_behind ns us v p =
    lists_same ns (λ vs. p ((us ++ v ∷ []) ++ vs)) (λ vs. p (us ++ v ∷ vs)) (λ vs w. ap p (append_assoc us (v ∷ []) vs))

pub lists_none : (p : List ℕ → Bool) (us : List ℕ) → p us ≡ all_lists [] (λ vs. p (us ++ vs))
lists_none p us = ap p (sym (nothing_behind us))
  where
    nothing_behind : (us : List ℕ) → us ++ [] ≡ us
    nothing_behind [] = refl
    nothing_behind (u ∷ us) = ap (λ vs. u ∷ vs) (nothing_behind us)

-- what isn't so of a number isn't so of all
pub up_to_fails : (n : ℕ) (p : ℕ → Bool) → p n ≡ false → false ≡ all_up_to n p
up_to_fails zero p h = sym h
up_to_fails (suc n) p h = sym (and_not_left (p (suc n)) (all_up_to n p) h)

pub up_to_ends : (n : ℕ) (p : ℕ → Bool) → n ≡ 0 → p n ≡ true → true ≡ all_up_to n p
up_to_ends zero p e h = sym h
up_to_ends (suc n) p e h = absurd (omega (arith, e))

pub up_to_goes_on : (n : ℕ) (p : ℕ → Bool) → (n ≡ 0 → ⊥) → p n ≡ true → all_up_to (n - 1) p ≡ all_up_to n p
up_to_goes_on zero p l h = absurd (l refl)
up_to_goes_on (suc n) p l h =
    ap (λ k. all_up_to k p) (one_less n) ∙ sym (and_known_left (p (suc n)) (all_up_to n p) h)
  where
    one_less : (n : ℕ) → suc n - 1 ≡ n
    one_less n = omega arith

-- what is left where the last value is taken off again
pub popped : (us vs : List ℕ) (v : ℕ) (r : Option ℕ) → us ++ v ∷ [] ≡ vs ++ option_to_list r → IsSome r → vs ≡ us
popped us vs v None e s = let no : false ≡ true = s in cc
popped us vs v (Some u) e s =
    sym (take-append_seam vs (u ∷ [])) ∙ ap (λ k. take k (vs ++ u ∷ [])) (sym (same_length us vs v u e))
    ∙ ap (take (length us)) (sym e) ∙ take-append_seam us (v ∷ [])
  where
    same_length : (us vs : List ℕ) (v u : ℕ) → us ++ v ∷ [] ≡ vs ++ u ∷ [] → length us ≡ length vs
    same_length us vs v u e =
        let n = ap length e in
        omega (arith, n, length-append us (v ∷ []), length-append vs (u ∷ []))
