-- The numbers of a theory's operators, and what boxes make.
use Rattle.std.proofs.Common.{◌≡◌, ◌==◌, if◌then◌else◌, ℕ, zero, suc, ◌+◌, ◌-◌, ◌<◌, List, [], ◌∷◌, length, map, get_or}
use Rattle.std.proofs.Common.{slice_get, Option, Some, None, refl, sym, ◌∙◌, ap, subst, arith}
use Rattle.std.specs.Prelude.{IfSome}
use Rattle.std.specs.Option.{option_and_then, option_map}
use Rattle.std.proofs.lemmas.List.{length-map, get_or-map}
use Rattle.std.proofs.lemmas.Option.{slice_get_within, same_Some, none-some}
use Rattle.larch_base.specs.ByNumber.{numbered}
use Rattle.larch_term.specs.Operator.{PlainOperator}
use Rattle.larch_term.specs.Sorts.{sort_of, sorts_of}
use Rattle.larch_term.specs.Tree.{Tree, forest_of}
use Rattle.larch_certificate.specs.declared.line.BoxPart.{BoxPart}
use Rattle.larch_verify_meaning.specs.Context.{last_sort}
use Rattle.larch_verify_meaning.specs.Events.{PlainBox, operators_from, operators_of, part_operator}
use Rattle.larch_verify_history.proofs.LookUps.{not_same}

pub numbered_from : {X : Type 0} (xs : List X) (n : ℕ) → (n ≡ 0 → ⊥) → numbered xs n ≡ slice_get xs (n - 1)
numbered_from xs n h = ap (λ b. if b then None else slice_get xs (n - 1)) (not_same n 0 (n == 0) refl h)

own_at : (fs : List PlainOperator) (ks : List ℕ) (os : List PlainOperator) (i : ℕ) → map (slice_get fs) ks ≡ map Some os
    → option_and_then (slice_get fs) (slice_get ks i) ≡ slice_get os i
own_at fs [] [] i e = refl
own_at fs [] (o ∷ os) i e = absurd cc
own_at fs (k ∷ ks) [] i e = absurd cc
own_at fs (k ∷ ks) (o ∷ os) zero e = cc
own_at fs (k ∷ ks) (o ∷ os) (suc i) e =
    let b : map (slice_get fs) ks ≡ map Some os = cc in
    own_at fs ks os i b

own_in : (fs : List PlainOperator) (ks : List ℕ) (os : List PlainOperator) (i n : ℕ)
    → map (slice_get fs) ks ≡ map Some os
    → slice_get ks i ≡ Some n → n < length fs
own_in fs [] os i n e h = absurd (none-some n h)
own_in fs (k ∷ ks) [] i n e h = absurd cc
own_in fs (k ∷ ks) (o ∷ os) zero n e h =
    let a : slice_get fs k ≡ Some o = cc in
    let s : k ≡ n = same_Some k n h in
    slice_get_within fs n o (ap (slice_get fs) (sym s) ∙ a)
own_in fs (k ∷ ks) (o ∷ os) (suc i) n e h =
    let b : map (slice_get fs) ks ≡ map Some os = cc in
    own_in fs ks os i n b h

own_within : (fs : List PlainOperator) (ks : List ℕ) (os : List PlainOperator) (i : ℕ) (r : Option ℕ)
    → map (slice_get fs) ks ≡ map Some os
    → slice_get ks i ≡ r → IfSome r (λ n. n < length fs)
own_within fs ks os i None e h = tt
own_within fs ks os i (Some n) e h = own_in fs ks os i n e h

-- the operator with a number, by the number that it has in the pool
pub own_numbered : (fs : List PlainOperator) (ks : List ℕ) (os : List PlainOperator) (n : ℕ)
    → map (slice_get fs) ks ≡ map Some os → option_and_then (slice_get fs) (numbered ks n) ≡ numbered os n
own_numbered fs ks os zero e = refl
own_numbered fs ks os (suc k) e =
    ap (option_and_then (slice_get fs)) (numbered_from ks (suc k) (λ z. absurd (omega (arith, z))))
    ∙ own_at fs ks os (suc k - 1) e
    ∙ sym (numbered_from os (suc k) (λ z. absurd (omega (arith, z))))

pub own_number_within : (fs : List PlainOperator) (ks : List ℕ) (os : List PlainOperator) (n : ℕ) (r : Option ℕ)
    → map (slice_get fs) ks ≡ map Some os → numbered ks n ≡ r → IfSome r (λ k. k < length fs)
own_number_within fs ks os zero r e h = subst (λ o. IfSome o (λ k. k < length fs)) h tt
own_number_within fs ks os (suc k) r e h =
    own_within fs ks os (suc k - 1) r e (sym (numbered_from ks (suc k) (λ z. absurd (omega (arith, z)))) ∙ h)

pub parts_at : (b j : ℕ) (ps : List BoxPart) (i : ℕ)
    → slice_get (operators_from b j ps) i ≡ option_map (part_operator b (j + i)) (slice_get ps i)
parts_at b j [] i = refl
parts_at b j (p ∷ ps) zero = let e : j ≡ j + 0 = omega arith in ap (λ k. Some (part_operator b k p)) e
parts_at b j (p ∷ ps) (suc i) =
    let e : suc j + i ≡ j + suc i = omega arith in
    parts_at b (suc j) ps i ∙ ap (λ k. option_map (part_operator b k) (slice_get ps i)) e

pub part_numbered : (b : ℕ) (ps : List BoxPart) (k : ℕ)
    → numbered (operators_from b 1 ps) k ≡ option_map (part_operator b k) (numbered ps k)
part_numbered b ps zero = refl
part_numbered b ps (suc k) =
    let f : 1 + (suc k - 1) ≡ suc k = omega arith in
    numbered_from (operators_from b 1 ps) (suc k) (λ z. absurd (omega (arith, z)))
    ∙ parts_at b 1 ps (suc k - 1)
    ∙ ap (λ j. option_map (part_operator b j) (slice_get ps (suc k - 1))) f
    ∙ ap (option_map (part_operator b (suc k))) (sym (numbered_from ps (suc k) (λ z. absurd (omega (arith, z)))))

-- what an open box has under a number
pub of_box : (o : Option PlainBox) (x : PlainBox) (k : ℕ) (p : Option BoxPart) → Some x ≡ o → p ≡ numbered x.parts k
    → option_map (part_operator x.number k) p ≡ option_and_then (λ b. numbered (operators_of b) k) o
of_box o x k p e f =
    ap (option_map (part_operator x.number k)) f ∙ sym (part_numbered x.number x.parts k)
    ∙ ap (option_and_then (λ b. numbered (operators_of b) k)) e

-- the sort of the last argument
pub sorts_map : (tree : ℕ → Tree) (ns : List ℕ) → sorts_of (forest_of (map tree ns)) ≡ map (λ n. sort_of (tree n)) ns
sorts_map tree [] = refl
sorts_map tree (n ∷ ns) = ap (λ ss. sort_of (tree n) ∷ ss) (sorts_map tree ns)

pub last_none : (tree : ℕ → Tree) (ns : List ℕ) → length ns ≡ 0 → last_sort (sorts_of (forest_of (map tree ns))) ≡ []
last_none tree [] l = refl
last_none tree (n ∷ ns) l = absurd (omega (arith, l))

pub last_some : (tree : ℕ → Tree) (ns : List ℕ) (d : ℕ) → 0 < length ns
    → last_sort (sorts_of (forest_of (map tree ns))) ≡ sort_of (tree (get_or ns (length ns - 1) d))
last_some tree ns d l =
    let m : length (map (λ n. sort_of (tree n)) ns) ≡ length ns = length-map ns (λ n. sort_of (tree n)) in
    let lt : length ns - 1 < length ns = omega (arith, l) in
    ap last_sort (sorts_map tree ns)
    ∙ ap (λ k. get_or (map (λ n. sort_of (tree n)) ns) (k - 1) []) m
    ∙ get_or-map (λ n. sort_of (tree n)) ns (length ns - 1) d [] lt

pub of_none : (o : Option PlainBox) (k : ℕ) → None ≡ o → None ≡ option_and_then (λ b. numbered (operators_of b) k) o
of_none o k e = ap (option_and_then (λ b. numbered (operators_of b) k)) e
