-- Deduction rows by their numbers, and the terms of what follows.
use Rattle.std.specs.Prelude.{◌≡◌, ◌+◌, ◌-◌, ◌<◌, ◌==◌, ℕ, zero, suc, Bool, true, false, cond, List, [], ◌∷◌, map}
use Rattle.std.specs.Prelude.{codes, slice_get, Option, Some, None, length, refl}
use Rattle.std.specs.List.{flat_map}
use Rattle.std.proofs.Common.{ap, ap₂, arith, sym, subst, ◌∙◌}
use Rattle.std.proofs.lemmas.Option.{slice_get_past}
use Rattle.larch_base.proofs.Options.{some_inj}
use Rattle.larch_base.specs.ByNumber.{numbered}
use Rattle.larch_term.specs.BuiltIn.{bool_sort}
use Rattle.larch_term.specs.Sorts.{WellSorted}
use Rattle.larch_term.specs.Substitution.{image, substituted_statement}
use Rattle.larch_term.specs.Tree.{Tree}
use Rattle.larch_term.specs.Truth.{truth}
use Rattle.larch_term.specs.declared.statement.Statement.{Statement}
use Rattle.larch_term.specs.declared.statement.Statement.TheVariants.{Equation}
use Rattle.larch_prove_invariant.specs.CalculusFormula.{falsity}
use Rattle.larch_rewrite_meaning.specs.TablesRow.{PlainRow}
use Rattle.larch_rewrite_meaning.specs.Sides.{Sides, sides_of}
use Rattle.larch_prove_invariant.specs.DeriveFormulasConsequences.{Follows}
use Rattle.larch_prove_adding.specs.Deductions.{Deduction, Conjunction, Disjunction, Negation, Implication, Equality}
use Rattle.larch_prove_adding.specs.Deductions.{Equivalence, deductions, first_right, found_by, left_by, only_right}
use Rattle.larch_prove_adding.specs.Deductions.{right_by, second_right}
use Rattle.larch_prove_invariant.specs.ProveMeaningFacts.{deduce}
use Rattle.larch_prove_adding.proofs.Deductions.{deduced_by, not_some}

-- ---- numbers

-- each of seven numbers has a deduction
pub has_deduction : (n : ℕ) → n < 7 → (d : Deduction) × (numbered deductions (n + 1) ≡ Some d)
has_deduction zero h = (Conjunction, refl)
has_deduction (suc zero) h = (Disjunction, refl)
has_deduction (suc (suc zero)) h = (Negation true, refl)
has_deduction (suc (suc (suc zero))) h = (Negation false, refl)
has_deduction (suc (suc (suc (suc zero)))) h = (Implication, refl)
has_deduction (suc (suc (suc (suc (suc zero))))) h = (Equality, refl)
has_deduction (suc (suc (suc (suc (suc (suc zero)))))) h = (Equivalence, refl)
has_deduction (suc (suc (suc (suc (suc (suc (suc n))))))) h = absurd (omega (arith, h))

-- there is no eighth deduction
either : {X : Type 0} (q : Bool) (o : Option X) → o ≡ None → cond q None o ≡ None
either true o e = refl
either false o e = e

past : {X : Type 0} (xs : List X) (n : ℕ) → length xs ≡ 7 → 7 < n → numbered xs n ≡ None
past xs n k l = either (n == 0) (slice_get xs (n - 1)) (slice_get_past xs (n - 1) (omega (arith, k, l)))

many : (n : ℕ) → 7 < suc (suc (suc (suc (suc (suc (suc (suc n)))))))
many n = omega arith

none_past : (n : ℕ) (d : Deduction) → numbered deductions (suc (suc (suc (suc (suc (suc (suc (suc n)))))))) ≡ Some d
    → ⊥
none_past n d k = not_some d (sym (past deductions _ refl (many n)) ∙ k)

-- terms make the row's equation this one, and its consequences those
pub record Read (d : Deduction) (e : Statement) (es : List Statement) : Type 0 where
  pub sort : List ℕ
  pub first : Tree
  pub second : Tree
  pub given : Equation (left_by d sort first second) (right_by d) ≡ e
  pub found : found_by d first second ≡ es

row_is : (n : ℕ) (e : Statement) (es : List Statement) (h : Follows n e es) (r : PlainRow) → Some r ≡ Some h.row
    → (substituted_statement h.by r.given ≡ e) × (map (substituted_statement h.by) r.consequences ≡ es)
row_is n e es h r k = (
  ap (λ q. substituted_statement h.by q.given) (some_inj k) ∙ h.equation,
  ap (λ q. map (substituted_statement h.by) q.consequences) (some_inj k) ∙ h.consequences,
)

-- what takes the places of x and y, and of a and b
abbrev of_x : {n : ℕ} {e : Statement} {es : List Statement} → Follows n e es → Tree
of_x h = image h.by (codes "x") bool_sort

abbrev of_y : {n : ℕ} {e : Statement} {es : List Statement} → Follows n e es → Tree
of_y h = image h.by (codes "y") bool_sort

abbrev of_a : {n : ℕ} {e : Statement} {es : List Statement} → Follows n e es → Tree
of_a h = image h.by (codes "a") h.sort

abbrev of_b : {n : ℕ} {e : Statement} {es : List Statement} → Follows n e es → Tree
of_b h = image h.by (codes "b") h.sort

-- what follows by a number is read so by the row that has it
pub reads : (n : ℕ) (e : Statement) (es : List Statement) (d : Deduction) → numbered deductions n ≡ Some d
    → Follows n e es → Read d e es
reads zero e es d k h = absurd (not_some d k)
reads (suc zero) e es d k h =
    let w = row_is _ e es h _ h.has_number in
    subst (λ c. Read c e es) (some_inj k)
    (record { sort = bool_sort; first = of_x h; second = of_y h; given = w.0; found = w.1 })
reads (suc (suc zero)) e es d k h =
    let w = row_is _ e es h _ h.has_number in
    subst (λ c. Read c e es) (some_inj k)
    (record { sort = bool_sort; first = of_x h; second = of_y h; given = w.0; found = w.1 })
reads (suc (suc (suc zero))) e es d k h =
    let w = row_is _ e es h _ h.has_number in
    subst (λ c. Read c e es) (some_inj k)
    (record { sort = bool_sort; first = of_x h; second = of_x h; given = w.0; found = w.1 })
reads (suc (suc (suc (suc zero)))) e es d k h =
    let w = row_is _ e es h _ h.has_number in
    subst (λ c. Read c e es) (some_inj k)
    (record { sort = bool_sort; first = of_x h; second = of_x h; given = w.0; found = w.1 })
reads (suc (suc (suc (suc (suc zero))))) e es d k h =
    let w = row_is _ e es h _ h.has_number in
    subst (λ c. Read c e es) (some_inj k)
    (record { sort = bool_sort; first = of_x h; second = of_y h; given = w.0; found = w.1 })
reads (suc (suc (suc (suc (suc (suc zero)))))) e es d k h =
    let w = row_is _ e es h _ h.has_number in
    subst (λ c. Read c e es) (some_inj k)
    (record { sort = h.sort; first = of_a h; second = of_b h; given = w.0; found = w.1 })
reads (suc (suc (suc (suc (suc (suc (suc zero))))))) e es d k h =
    let w = row_is _ e es h _ h.has_number in
    subst (λ c. Read c e es) (some_inj k)
    (record { sort = bool_sort; first = of_x h; second = of_y h; given = w.0; found = w.1 })
reads (suc (suc (suc (suc (suc (suc (suc (suc n)))))))) e es d k h = absurd (none_past n d k)

equation_left : (l k r q : Tree) → Equation l r ≡ Equation k q → l ≡ k
equation_left l k r q e = cc

equation_right : (l k r q : Tree) → Equation l r ≡ Equation k q → r ≡ q
equation_right l k r q e = cc

-- what follows by a number from a well sorted equation is deduced
pub follows_deduced : (n : ℕ) (e : Sides) (d : Deduction) (es : List Statement) → numbered deductions n ≡ Some d
    → Follows n (Equation e.left e.right) es → WellSorted e.left → deduce e ≡ Some (flat_map sides_of es)
follows_deduced n e d es k h w =
    let r = reads n (Equation e.left e.right) es d k h in
    let p = equation_left _ _ _ _ r.given in
    let q = equation_right _ _ _ _ r.given in
    ap₂ (λ l r. deduce (record { left = l; right = r })) (sym p) (sym q)
    ∙ deduced_by d r.sort r.first r.second (subst WellSorted (sym p) w)
    ∙ ap (λ fs. Some (flat_map sides_of fs)) r.found

-- ---- what follows, by its number

two_not_one : ◌≡◌ {A = ℕ} 2 1 → ⊥
two_not_one e = omega (arith, e)

one_not_two : ◌≡◌ {A = ℕ} 1 2 → ⊥
one_not_two e = omega (arith, e)

-- the only consequence by a number, and both
pub only_found : (n : ℕ) (d : Deduction) (t u : Tree) → numbered deductions n ≡ Some d
    → length (found_by d t u) ≡ 1 → found_by d t u ≡ Equation t (only_right n u) ∷ []
only_found zero d t u k h = absurd (not_some d k)
only_found (suc zero) d t u k h = absurd (two_not_one (subst (λ c. length (found_by c t u) ≡ 1) (sym (some_inj k)) h))
only_found (suc (suc zero)) d t u k h =
    absurd (two_not_one (subst (λ c. length (found_by c t u) ≡ 1) (sym (some_inj k)) h))
only_found (suc (suc (suc zero))) d t u k h =
    subst (λ c. found_by c t u ≡ Equation t falsity ∷ []) (some_inj k) refl
only_found (suc (suc (suc (suc zero)))) d t u k h =
    subst (λ c. found_by c t u ≡ Equation t truth ∷ []) (some_inj k) refl
only_found (suc (suc (suc (suc (suc zero))))) d t u k h =
    absurd (two_not_one (subst (λ c. length (found_by c t u) ≡ 1) (sym (some_inj k)) h))
only_found (suc (suc (suc (suc (suc (suc zero)))))) d t u k h =
    subst (λ c. found_by c t u ≡ Equation t u ∷ []) (some_inj k) refl
only_found (suc (suc (suc (suc (suc (suc (suc zero))))))) d t u k h =
    subst (λ c. found_by c t u ≡ Equation t u ∷ []) (some_inj k) refl
only_found (suc (suc (suc (suc (suc (suc (suc (suc n)))))))) d t u k h = absurd (none_past n d k)

pub both_found : (n : ℕ) (d : Deduction) (t u : Tree) → numbered deductions n ≡ Some d
    → length (found_by d t u) ≡ 2
    → found_by d t u ≡ Equation t (first_right n) ∷ Equation u (second_right n) ∷ []
both_found zero d t u k h = absurd (not_some d k)
both_found (suc zero) d t u k h =
    subst (λ c. found_by c t u ≡ Equation t truth ∷ Equation u truth ∷ []) (some_inj k) refl
both_found (suc (suc zero)) d t u k h =
    subst (λ c. found_by c t u ≡ Equation t falsity ∷ Equation u falsity ∷ []) (some_inj k) refl
both_found (suc (suc (suc zero))) d t u k h =
    absurd (one_not_two (subst (λ c. length (found_by c t u) ≡ 2) (sym (some_inj k)) h))
both_found (suc (suc (suc (suc zero)))) d t u k h =
    absurd (one_not_two (subst (λ c. length (found_by c t u) ≡ 2) (sym (some_inj k)) h))
both_found (suc (suc (suc (suc (suc zero))))) d t u k h =
    subst (λ c. found_by c t u ≡ Equation t truth ∷ Equation u falsity ∷ []) (some_inj k) refl
both_found (suc (suc (suc (suc (suc (suc zero)))))) d t u k h =
    absurd (one_not_two (subst (λ c. length (found_by c t u) ≡ 2) (sym (some_inj k)) h))
both_found (suc (suc (suc (suc (suc (suc (suc zero))))))) d t u k h =
    absurd (one_not_two (subst (λ c. length (found_by c t u) ≡ 2) (sym (some_inj k)) h))
both_found (suc (suc (suc (suc (suc (suc (suc (suc n)))))))) d t u k h = absurd (none_past n d k)
