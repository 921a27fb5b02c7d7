-- Lists of trees and arguments.
use Rattle.std.proofs.Common.{◌≡◌, ℕ, zero, suc, length, ◌+◌, ◌-◌, ◌<◌, List, [], ◌∷◌, ◌++◌, Option, Some, None}
use Rattle.std.proofs.Common.{slice_get, option_map, MatchOption, HoldsAt, Bor, ◌≤◌, add-one, drop-cons, append_assoc}
use Rattle.std.proofs.Common.{map, cond, false, ◌==◌, get_or, drop, refl, sym, ◌∙◌, ap, arith}
use Rattle.std.proofs.lemmas.List.{drop_all, append-nil}
use Rattle.std.proofs.lemmas.Option.{slice_get_past, slice_get-get_or}
use Rattle.larch_term.specs.Operator.{PlainOperator}
use Rattle.larch_term.specs.Tree.{Tree, Forest, var, app, none, more, forest_of, list_of}
use Rattle.larch_term.specs.Substitution.{instance_of, substituted_all}
use Rattle.larch_term.specs.declared.substitution.Entry.{Entry}
use Rattle.larch_term.specs.Sorts.{sorts_of}
use Rattle.larch_term.specs.Place.{at, argument, put, put_in}

pub list_of-forest_of : (ts : List Tree) → list_of (forest_of ts) ≡ ts
list_of-forest_of [] = refl
list_of-forest_of (t ∷ ts) = ap (λ us. t ∷ us) (list_of-forest_of ts)

pub forest_of-list_of : (ts : Forest) → forest_of (list_of ts) ≡ ts
forest_of-list_of none = refl
forest_of-list_of (more t ts) = ap (λ us. more t us) (forest_of-list_of ts)

pub forest_of_inj : (ts us : List Tree) → forest_of ts ≡ forest_of us → ts ≡ us
forest_of_inj ts us e = sym (list_of-forest_of ts) ∙ ap list_of e ∙ list_of-forest_of us

-- equal applications have one operator and the same arguments
pub same_parts : (f g : PlainOperator) (ts us : List Tree) → app f (forest_of ts) ≡ app g (forest_of us)
    → (f ≡ g) × (ts ≡ us)
same_parts f g ts us e =
    let a : f ≡ g = cc in
    let b : forest_of ts ≡ forest_of us = cc in
    (a, forest_of_inj ts us b)

pub argument_zero : (ts : Forest) → argument ts 0 ≡ None
argument_zero none = refl
argument_zero (more t ts) = refl

pub argument_suc : (ts : List Tree) (k : ℕ) → argument (forest_of ts) (suc k) ≡ slice_get ts k
argument_suc [] k = refl
argument_suc (t ∷ ts) zero = refl
argument_suc (t ∷ ts) (suc k) = argument_suc ts k

pub argument_at : (ts : List Tree) (k : ℕ) → 0 < k → argument (forest_of ts) k ≡ slice_get ts (k - 1)
argument_at ts zero p = absurd (omega arith)
argument_at ts (suc k) p = let e : suc k - 1 ≡ k = omega arith in rw e (argument_suc ts k)

-- nothing is below a variable
pub none_below : (n s p : List ℕ) → 0 < length p → None ≡ at (var n s) p
none_below n s [] h = absurd (omega arith)
none_below n s (k ∷ p) h = refl

-- what `get` answers
pub got : (r : Option (Bor Tree)) (ts : List Tree) (i : ℕ)
    → MatchOption r (length ts ≤ i) (λ t. (i < length ts) × HoldsAt (λ u. t.now ≡ u) ts i)
    → option_map (λ t. t.now) r ≡ slice_get ts i
got None ts i h = sym (slice_get_past ts i h)
got (Some t) ts i h = ap Some (h.1 t.now) ∙ sym (slice_get-get_or ts i t.now h.0)

pub substituted_all_forest : (es : List Entry) (ts : List Tree)
    → substituted_all es (forest_of ts) ≡ forest_of (map (instance_of es) ts)
substituted_all_forest es [] = refl
substituted_all_forest es (t ∷ ts) = ap (more (instance_of es t)) (substituted_all_forest es ts)

-- the list of the arguments with another term at a place of one of them
unfoldable pub put_in_list : List Tree → ℕ → List ℕ → Tree → List Tree
put_in_list [] k p u = []
put_in_list (t ∷ ts) zero p u = t ∷ ts
put_in_list (t ∷ ts) (suc zero) p u = put t p u ∷ ts
put_in_list (t ∷ ts) (suc (suc k)) p u = t ∷ put_in_list ts (suc k) p u

pub put_in_forest : (ts : List Tree) (k : ℕ) (p : List ℕ) (u : Tree)
    → put_in (forest_of ts) k p u ≡ forest_of (put_in_list ts k p u)
unfolding put_in_list
put_in_forest [] k p u = refl
put_in_forest (t ∷ ts) zero p u = refl
put_in_forest (t ∷ ts) (suc zero) p u = refl
put_in_forest (t ∷ ts) (suc (suc k)) p u = ap (more t) (put_in_forest ts (suc k) p u)

put_in_zero : (ts : List Tree) (p : List ℕ) (u : Tree) → put_in_list ts 0 p u ≡ ts
unfolding put_in_list
put_in_zero [] p u = refl
put_in_zero (t ∷ ts) p u = refl

pub put_in_nil : (k : ℕ) (p : List ℕ) (u : Tree) → put_in_list [] k p u ≡ []
unfolding put_in_list
put_in_nil k p u = refl

-- the first argument is changed where its number is asked for, and the numbers of the others fall by one
pub put_in_cons : (t : Tree) (ts : List Tree) (k : ℕ) (p : List ℕ) (u : Tree)
    → put_in_list (t ∷ ts) k p u ≡ cond (k == 1) (put t p u) t ∷ put_in_list ts (k - 1) p u
unfolding put_in_list
put_in_cons t ts zero p u = ap (λ us. t ∷ us) (sym (put_in_zero ts p u))
put_in_cons t ts (suc zero) p u = ap (λ us. put t p u ∷ us) (sym (put_in_zero ts p u))
put_in_cons t ts (suc (suc k)) p u =
    let e : suc (suc k) - 1 ≡ suc k = omega arith in
    let f : (suc (suc k) == 1) ≡ false = grind arith in
    rw (e, f)

-- one argument more is done
pub put_in_step : (done ts all : List Tree) (i k : ℕ) (p : List ℕ) (u x y : Tree) → i < length ts → y ≡ get_or ts i y
    → x ≡ cond (k == 1) (put y p u) y
    → done ++ put_in_list (drop i ts) k p u ≡ all → (done ++ x ∷ []) ++ put_in_list (drop (i + 1) ts) (k - 1) p u ≡ all
put_in_step done ts all i k p u x y lt is same h =
    let a : drop i ts ≡ y ∷ drop (i + 1) ts =
    rw add-one (drop-cons ts i y lt ∙ ap (λ z. z ∷ drop (suc i) ts) (sym is)) in
    rw (append_assoc, same) (rw (a, put_in_cons) at h)

-- all arguments are done
pub put_in_all : (done ts us : List Tree) (i k n : ℕ) (p : List ℕ) (u : Tree) → length ts ≤ i → ts ≡ us
    → done ++ put_in_list (drop i ts) k p u ≡ put_in_list ts n p u → forest_of done ≡ put_in (forest_of us) n p u
put_in_all done ts us i k n p u le e h =
    let a : drop i ts ≡ [] = drop_all i ts le in
    let b : done ≡ put_in_list ts n p u = rw (a, put_in_nil k p u, append-nil done) at h in
    ap forest_of b ∙ sym (put_in_forest ts n p u) ∙ ap (λ xs. put_in (forest_of xs) n p u) e

pub put_below : (f : PlainOperator) (ts us : List Tree) (place : List ℕ) (v : Tree) → 1 ≤ length place
    → forest_of us ≡ put_in (forest_of ts) (get_or place 0 0) (drop 1 place) v
    → app f (forest_of us) ≡ put (app f (forest_of ts)) place v
put_below f ts us [] v h e = absurd (omega arith)
put_below f ts us (k ∷ p) v h e = ap (app f) e

pub sorts_length : (ts : List Tree) → length (sorts_of (forest_of ts)) ≡ length ts
sorts_length [] = refl
sorts_length (t ∷ ts) = ap suc (sorts_length ts)
