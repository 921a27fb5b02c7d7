-- What a coded row tells of the row at its number.
use Rattle.std.proofs.Common.{◌≡◌, ℕ, zero, suc, ◌==◌, ◌-◌, Bool, true, false, ◌||◌, ◌↔◌, eqb-true, ◌≤◌, ◌<◌, length}
use Rattle.std.proofs.Common.{IsSome, arith, cond, List, [], ◌∷◌, take, bytes_eq, Option, Some, None, refl, sym, ◌∙◌}
use Rattle.std.proofs.Common.{ap, subst}
use Rattle.std.specs.Option.{is_some, option_map, option_and_then, ok_or}
use Rattle.std.specs.Result.{IfOk, IsErrOf}
use Rattle.std.specs.List.{AllZip, slice_get}
use Rattle.std.proofs.lemmas.Slice.Eq.{bytes_eq-Decides}
use Rattle.larch_calculus.proofs.BaseOptions.{some_inj}
use Rattle.larch_calculus.specs.BaseByNumber.{numbered}
use Rattle.larch_calculus.specs.TermBuiltIn.{bool_sort}
use Rattle.larch_calculus.specs.TermStatementStatement.{Statement}
use Rattle.larch_tables.specs.Row.{PlainRow}
use Rattle.larch_tables.specs.Spelling.{equation_of}
use Rattle.larch_tables.specs.Statement.{is_offered, offered_row}
use Rattle.larch_tables.specs.Tables.{built_in_rows, sort_for, equations_of, row_of, IsRowAt, HasRows}
use Rattle.larch_tables.specs.declared.row.Row.{Row}

-- items of two lists that fit each other one by one
zipped_some : {X Y : Type 0} (R : X → Y → Type 0) (xs : List X) (ys : List Y) (i : ℕ) (x : X) → AllZip R xs ys
    → slice_get xs i ≡ Some x
    → (P : Type 0) → ((y : Y) → slice_get ys i ≡ Some y → R x y → P) → P
zipped_some R [] ys i x z e P k = cc
zipped_some R (x ∷ xs) [] i w z e P k = absurd z
zipped_some R (x ∷ xs) (y ∷ ys) zero w z e P k = k y refl (subst (λ v. R v y) (some_inj e) z.0)
zipped_some R (x ∷ xs) (y ∷ ys) (suc i) w z e P k = zipped_some R xs ys i w z.1 e P k

zipped_none : {X Y : Type 0} (R : X → Y → Type 0) (xs : List X) (ys : List Y) (i : ℕ) → AllZip R xs ys
    → slice_get xs i ≡ None → slice_get ys i ≡ None
zipped_none R [] [] i z e = refl
zipped_none R [] (y ∷ ys) i z e = absurd z
zipped_none R (x ∷ xs) [] i z e = absurd z
zipped_none R (x ∷ xs) (y ∷ ys) zero z e = cc
zipped_none R (x ∷ xs) (y ∷ ys) (suc i) z e = zipped_none R xs ys i z.1 e

pub numbered_some : {X Y : Type 0} (R : X → Y → Type 0) (xs : List X) (ys : List Y) (n : ℕ) (x : X) → AllZip R xs ys
    → numbered xs n ≡ Some x
    → (P : Type 0) → ((y : Y) → numbered ys n ≡ Some y → R x y → P) → P
numbered_some R xs ys n x z = at_number R xs ys (n == 0) (n - 1) x z
  where
    at_number : {X Y : Type 0} (R : X → Y → Type 0) (xs : List X) (ys : List Y) (b : Bool) (i : ℕ) (x : X)
        → AllZip R xs ys
        → cond b None (slice_get xs i) ≡ Some x → (P : Type 0)
        → ((y : Y) → cond b None (slice_get ys i) ≡ Some y → R x y → P) → P
    at_number R xs ys true i x z e P k = cc
    at_number R xs ys false i x z e P k = zipped_some R xs ys i x z e P k

pub numbered_none : {X Y : Type 0} (R : X → Y → Type 0) (xs : List X) (ys : List Y) (n : ℕ) → AllZip R xs ys
    → numbered xs n ≡ None → numbered ys n ≡ None
numbered_none R xs ys n z = at_number R xs ys (n == 0) (n - 1) z
  where
    at_number : {X Y : Type 0} (R : X → Y → Type 0) (xs : List X) (ys : List Y) (b : Bool) (i : ℕ) → AllZip R xs ys
        → cond b None (slice_get xs i) ≡ None → cond b None (slice_get ys i) ≡ None
    at_number R xs ys true i z e = refl
    at_number R xs ys false i z e = zipped_none R xs ys i z e

within : {X : Type 0} (xs : List X) (i : ℕ) → is_some (slice_get xs i) ≡ true → i < length xs
within [] i e = cc
within (x ∷ xs) zero e = omega arith
within (x ∷ xs) (suc i) e = let h = within xs i e in omega arith

inside : {X : Type 0} (xs : List X) (i : ℕ) → i < length xs → is_some (slice_get xs i) ≡ true
inside [] i h = absurd (omega arith)
inside (x ∷ xs) zero h = refl
inside (x ∷ xs) (suc i) h = inside xs i (omega arith)

-- the numbers of a list go from 1 to its length
pub has_number : {X : Type 0} (xs : List X) (n : ℕ) → IsSome (numbered xs n) ↔ ((1 ≤ n) × (n ≤ length xs))
has_number xs n = by_zero xs n (n == 0) refl
  where
    by_zero : {X : Type 0} (xs : List X) (n : ℕ) (b : Bool) → (n == 0) ≡ b
        → IsSome (cond b None (slice_get xs (n - 1))) ↔ ((1 ≤ n) × (n ≤ length xs))
    by_zero xs n true z = (λ e. cc, λ h. absurd (omega (arith, eqb-true n 0 z, h.0)))
    by_zero xs zero false z = cc
    by_zero xs (suc n) false z = (
      λ e. let h = within xs (suc n - 1) e in
          (omega arith, omega (arith, h)),
      λ h. inside xs (suc n - 1) (omega (arith, h.1)),
    )

-- what a row spells has its mark, and the equation of its sides
spelled_parts : (s : List ℕ) (row : Row) (plain : PlainRow) → row_of s row ≡ Some plain
    → (plain.sorted ≡ row.sorted) × (equation_of (sort_for s row) row.given ≡ Some plain.given)
spelled_parts s row plain e =
    by_given (equation_of (sort_for s row) row.given)
    (equations_of (sort_for s row) (take row.count row.consequences)) row.sorted plain e
  where
    by_given : (given : Option Statement) (further : Option (List Statement)) (b : Bool) (plain : PlainRow)
        → option_and_then (λ g. option_map (λ h. record { sorted = b; given = g; consequences = h }) further) given
        ≡ Some plain
        → (plain.sorted ≡ b) × (given ≡ Some plain.given)
    by_given None further b plain e = cc
    by_given (Some g) None b plain e = cc
    by_given (Some g) (Some h) b plain e = (cc, cc)

pub no_row : (table : List Row) (n : ℕ) (s : List ℕ) → HasRows built_in_rows table → numbered table n ≡ None
    → offered_row n s ≡ None
no_row table n s h e =
    ap (option_and_then (λ row. cond (is_offered s row) (Some row.given) None))
    (numbered_none (IsRowAt s) table (built_in_rows s) n (h s) e)

-- the sort for a row that is offered is the sort
offered_sort : (s : List ℕ) (row : Row) → (row.sorted || bytes_eq s bool_sort) ≡ true → sort_for s row ≡ s
offered_sort s row e = for_mark s row.sorted e
  where
    for_mark : (s : List ℕ) (b : Bool) → (b || bytes_eq s bool_sort) ≡ true → cond b s bool_sort ≡ s
    for_mark s true e = refl
    for_mark s false e = sym ((bytes_eq-Decides s bool_sort).0 e)

-- the equation of a row that a coded one spells is offered where that one's mark says so
offered_by_mark : (n : ℕ) (s : List ℕ) (row : Row) (plain : PlainRow) (b : Bool)
    → numbered (built_in_rows s) n ≡ Some plain → plain.sorted ≡ row.sorted
    → (row.sorted || bytes_eq s bool_sort) ≡ b → offered_row n s ≡ cond b (Some plain.given) None
offered_by_mark n s row plain b q r f =
    ap (option_and_then (λ p. cond (is_offered s p) (Some p.given) None)) q ∙
    ap (λ c. cond c (Some plain.given) None) (ap (λ c. c || bytes_eq s bool_sort) r ∙ f)

pub not_offered : (table : List Row) (n : ℕ) (s : List ℕ) (row : Row) → HasRows built_in_rows table
    → numbered table n ≡ Some row
    → (row.sorted || bytes_eq s bool_sort) ≡ false → offered_row n s ≡ None
not_offered table n s row h e f =
    numbered_some (IsRowAt s) table (built_in_rows s) n row (h s) e (offered_row n s ≡ None)
    (λ plain q r. offered_by_mark n s row plain false q (spelled_parts s row plain r.0).0 f)

pub offered_equation : (table : List Row) (n : ℕ) (s : List ℕ) (row : Row) → HasRows built_in_rows table
    → numbered table n ≡ Some row
    → (row.sorted || bytes_eq s bool_sort) ≡ true → offered_row n s ≡ equation_of s row.given
offered_equation table n s row h e f =
    numbered_some (IsRowAt s) table (built_in_rows s) n row (h s) e (offered_row n s ≡ equation_of s row.given)
    (λ plain q r.
    let p = spelled_parts s row plain r.0 in
    offered_by_mark n s row plain true q p.0 f ∙ sym p.1 ∙ ap (λ t. equation_of t row.given) (offered_sort s row f))

-- what an answer or a refusal tells of what was there
pub said : {A E : Type 0} (P : A → Type 0) (o : Option A) (e : E) → ((x : A) → o ≡ Some x → P x) → IfOk (ok_or o e) P
said P None e k = tt
said P (Some x) e k = k x refl

pub not_said : {A E : Type 0} (o : Option A) (e : E) → IsErrOf (ok_or o e) e → o ≡ None
not_said None e h = refl
not_said (Some x) e h = cc
