-- Rows with and without sorts of their own.
use Rattle.std.proofs.Common.{◌≡◌, ℕ, ◌<◌, ◌≤◌, Bool, true, false, not, ◌||◌, if◌then◌else◌}
use Rattle.std.proofs.Common.{length, arith, List, take, bytes_eq, Option, Some, None, refl, sym, ◌∙◌, ap}
use Rattle.std.specs.Option.{is_some, option_map, option_and_then}
use Rattle.std.proofs.lemmas.Slice.Eq.{bytes_eq-Decides}
use Rattle.larch_base.specs.ByNumber.{numbered}
use Rattle.larch_term.specs.BuiltIn.{bool_sort}
use Rattle.larch_term.specs.declared.statement.Statement.{Statement}
use Rattle.larch_tables.specs.Row.{PlainRow}
use Rattle.larch_tables.specs.Spelling.{equation_of}
use Rattle.larch_tables.specs.Statement.{is_offered, offered_row}
use Rattle.larch_tables.specs.Tables.{built_in_rows, sort_for, equations_of, row_of, IsRowAt, HasRows}
use Rattle.larch_tables.specs.declared.row.Row.{Row}
use Rattle.larch_tables.proofs.Offered.{numbered_some, numbered_none, has_number}
use Rattle.larch_verify_rules.specs.Row.{row_at, has_mark}

spelled_mark : (s : List ℕ) (row : Row) (plain : PlainRow) → row_of s row ≡ Some plain → plain.sorted ≡ row.sorted
spelled_mark s row plain e =
    by_given (equation_of (sort_for s row) row.given)
    (equations_of (sort_for s row) (take row.count row.consequences)) row.sorted plain e
  where
    by_given : (given : Option Statement) (further : Option (List Statement)) (b : Bool) (plain : PlainRow)
        → option_and_then (λ g. option_map (λ h. record { sorted = b; given = g; consequences = h }) further) given
        ≡ Some plain
        → plain.sorted ≡ b
    by_given None further b plain e = cc
    by_given (Some g) None b plain e = cc
    by_given (Some g) (Some h) b plain e = cc

pub mark_some : (table : List Row) (n : ℕ) (s : List ℕ) (row : Row) (b : Bool) → HasRows built_in_rows table
    → numbered table n ≡ Some row
    → (if row.sorted then b else not b) ≡ has_mark b (numbered (built_in_rows s) n)
mark_some table n s row b h e =
    numbered_some (IsRowAt s) table (built_in_rows s) n row (h s) e
    ((if row.sorted then b else not b) ≡ has_mark b (numbered (built_in_rows s) n))
    (λ plain q r. ap (λ c. if c then b else not b) (sym (spelled_mark s row plain r.0)) ∙ sym (ap (has_mark b) q))

pub mark_none : (table : List Row) (n : ℕ) (s : List ℕ) (b : Bool) → HasRows built_in_rows table
    → numbered table n ≡ None
    → false ≡ has_mark b (numbered (built_in_rows s) n)
mark_none table n s b h e = sym (ap (has_mark b) (numbered_none (IsRowAt s) table (built_in_rows s) n (h s) e))

pub unmarked : (b : Bool) (o : Option PlainRow) → has_mark b o ≡ false → None ≡ row_at b o
unmarked b None e = refl
unmarked b (Some row) e = by b row.sorted row.given e
  where
    by : (b c : Bool) (g : Statement) → (if c then b else not b) ≡ false
        → None ≡ (if c then (if b then Some g else None) else (if b then None else Some g))
    by true true g e = cc
    by true false g e = refl
    by false true g e = refl
    by false false g e = cc

marked_as : (b : Bool) (o : Option PlainRow) (s : List ℕ) → has_mark b o ≡ true → (b ≡ false → s ≡ bool_sort)
    → option_and_then (λ row. if is_offered s row then Some row.given else None) o ≡ row_at b o
marked_as b None s e h = refl
marked_as b (Some row) s e h =
    by b row.sorted row.given (bytes_eq s bool_sort) e (λ z. (bytes_eq-Decides s bool_sort).1 (h z))
  where
    by : (b c : Bool) (g : Statement) (d : Bool) → (if c then b else not b) ≡ true → (b ≡ false → d ≡ true)
        → (if c || d then Some g else None) ≡ (if c then (if b then Some g else None) else (if b then None else Some g))
    by true true g d e h = refl
    by true false g d e h = cc
    by false true g d e h = cc
    by false false g d e h = ap (λ x. if x then Some g else None) (h refl)

pub marked : (b : Bool) (n : ℕ) (s : List ℕ) → has_mark b (numbered (built_in_rows s) n) ≡ true
    → (b ≡ false → s ≡ bool_sort)
    → offered_row n s ≡ row_at b (numbered (built_in_rows s) n)
marked b n s e h = marked_as b (numbered (built_in_rows s) n) s e h

-- no row has a number of more than 32 bits
pub no_further : (s : List ℕ) (n : ℕ) → (n < 4294967296 → ⊥) → None ≡ numbered (built_in_rows s) n
no_further s n l = by (numbered (built_in_rows s) n) refl
  where
    by : (o : Option PlainRow) → numbered (built_in_rows s) n ≡ o → None ≡ o
    by None e = refl
    by (Some row) e =
        let k : length (built_in_rows s) < 4294967296 = omega arith in
        let h : n ≤ length (built_in_rows s) = ((has_number (built_in_rows s) n).0 (ap is_some e)).1 in
        absurd (l (omega (arith, k, h)))
