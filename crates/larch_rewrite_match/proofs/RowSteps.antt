-- Rows of the table, as rules.
use Rattle.std.specs.Prelude.{◌≡◌, ℕ, zero, suc, ◌+◌, ◌-◌, ◌==◌, ◌≤◌, ◌||◌, ◌↔◌, IsSome, IsTrue, Bool, true, false}
use Rattle.std.specs.Prelude.{cond, All, List, [], ◌∷◌, ◌++◌, take, bytes_eq, Option, Some, None, option_map, refl}
use Rattle.std.specs.List.{flat_map, slice_get}
use Rattle.std.specs.Option.{option_and_then}
use Rattle.std.proofs.Common.{arith, ap, sym, subst, eqb-true, ◌∙◌}
use Rattle.larch_base.proofs.Options.{some_inj}
use Rattle.larch_term.specs.BuiltIn.{bool_sort}
use Rattle.larch_term.specs.declared.statement.Statement.{Statement}
use Rattle.larch_verify_meaning.specs.Rules.{row_says}
use Rattle.larch_term.proofs.BuiltIns.{built_in_told}
use Rattle.larch_term.specs.BuiltIn.{IsBuiltIn}
use Rattle.larch_term.specs.Operator.{PlainOperator}
use Rattle.larch_term.specs.Tree.{Forest, app}
use Rattle.larch_rewrite_match.specs.Rule.{all_sides, sides_of_rule, IsRule, IsSaidByRow}
use Rattle.std.proofs.lemmas.List.{map_push}
use Rattle.std.proofs.lemmas.List.Elements.{All-push}
use Rattle.larch_base.specs.ByNumber.{numbered}
use Rattle.larch_rewrite_match.specs.declared.rule.RewriteRule.{RewriteRule}
use Rattle.larch_rewrite_meaning.specs.Rewriting.{rewriting_row_count, rewriting_rows, rows_for, tries_of, sort_at}
use Rattle.larch_rewrite_meaning.specs.Sides.{Sides, sides_of}
use Rattle.larch_rewrite_meaning.specs.TablesRow.{PlainRow}
use Rattle.larch_rewrite_meaning.specs.TablesSpelling.{equation_of}
use Rattle.larch_rewrite_meaning.specs.TablesStatement.{offered_row}
use Rattle.larch_rewrite_meaning.specs.TablesTables.{built_in_rows, sort_for, equations_of, row_of, IsRowAt, HasRows}
use Rattle.larch_rewrite_meaning.specs.TablesRowRow.{Row}
use Rattle.larch_rewrite_meaning.proofs.TablesOffered.{has_number, numbered_none, numbered_some, offered_equation}

-- what a row spells has its mark, and the equation of its sides
by_given : (given : Option Statement) (further : Option (List Statement)) (b : Bool) (plain : PlainRow)
    → option_and_then (λ g. option_map (λ h. record { sorted = b; given = g; consequences = h }) further) given
    ≡ Some plain
    → (plain.sorted ≡ b) × (given ≡ Some plain.given)
by_given None further b plain e = cc
by_given (Some g) None b plain e = cc
by_given (Some g) (Some h) b plain e = (cc, cc)

parts : (s : List ℕ) (row : Row) (plain : PlainRow) → row_of s row ≡ Some plain
    → (plain.sorted ≡ row.sorted) × (equation_of (sort_for s row) row.given ≡ Some plain.given)
parts s row plain e =
    by_given (equation_of (sort_for s row) row.given) (equations_of (sort_for s row) (take row.count row.consequences))
    row.sorted plain e

marked : (s : List ℕ) (b : Bool) → (b || bytes_eq (cond b s bool_sort) bool_sort) ≡ true
marked s true = refl
marked s false = refl

-- the row at each sort at which it is read alike
at_row : (table : List Row) (n : ℕ) (s : List ℕ) (row : Row) (x : Statement) → HasRows built_in_rows table
    → numbered table n ≡ Some row → offered_row n (sort_for s row) ≡ Some x → (z : List ℕ)
    → sort_for z row ≡ sort_for s row
    → (P : Type 0)
    → ((p : PlainRow) → numbered (built_in_rows z) n ≡ Some p → p.sorted ≡ row.sorted → p.given ≡ x → P) → P
at_row table n s row x h e o z same P go =
    numbered_some (IsRowAt z) table (built_in_rows z) n row (h z) e P
    (λ p q r. let k = parts z row p r.0 in go p q k.0 (some_inj
    (sym k.1 ∙ (ap (λ t. equation_of t row.given) same
    ∙ (sym (offered_equation table n (sort_for s row) row h e (marked s row.sorted)) ∙ o)))))

-- the rows that rewrite are there
pub row_is_there : (table : List Row) (n : ℕ) → HasRows built_in_rows table → 1 ≤ n → n ≤ rewriting_row_count
    → numbered table n ≡ None → ⊥
row_is_there table n h first last e =
    let some : IsSome (numbered (built_in_rows bool_sort) n) =
    (has_number (built_in_rows bool_sort) n).1 (first, omega (arith, last)) in
    let nothing : numbered (built_in_rows bool_sort) n ≡ None =
    numbered_none (IsRowAt bool_sort) table (built_in_rows bool_sort) n (h bool_sort) e in
    nothing_there (numbered (built_in_rows bool_sort) n) some nothing
  where
    nothing_there : {X : Type 0} (o : Option X) → IsSome o → o ≡ None → ⊥
    nothing_there None h e = cc
    nothing_there (Some x) h e = cc

-- a row is offered at the sort at which it is read
pub row_is_offered : (table : List Row) (n : ℕ) (s z : List ℕ) (row : Row) → HasRows built_in_rows table
    → numbered table n ≡ Some row → z ≡ sort_for s row → offered_row n z ≡ None → ⊥
row_is_offered table n s z row h e q o =
    numbered_some (IsRowAt s) table (built_in_rows s) n row (h s) e ⊥
    (λ p r i. none_of_some (equation_of (sort_for s row) row.given) p.given (parts s row p i.0).1
    (sym (offered_equation table n (sort_for s row) row h e (marked s row.sorted)) ∙ (ap (offered_row n) (sym q) ∙ o)))
  where
    none_of_some : (o : Option Statement) (x : Statement) → o ≡ Some x → o ≡ None → ⊥
    none_of_some o x p q = cc

-- what the row says, as a side
pub row_given : (table : List Row) (n : ℕ) (s : List ℕ) (row : Row) (x : Statement) → HasRows built_in_rows table
    → numbered table n ≡ Some row → offered_row n (sort_for s row) ≡ Some x
    → option_map (λ p. sides_of p.given) (numbered (built_in_rows s) n) ≡ Some (sides_of x)
row_given table n s row x h e o =
    at_row table n s row x h e o s refl
    (option_map (λ p. sides_of p.given) (numbered (built_in_rows s) n) ≡ Some (sides_of x))
    (λ p q m g. ap (option_map (λ p. sides_of p.given)) q ∙ ap (λ y. Some (sides_of y)) g)

said_at : (s : List ℕ) (n : ℕ) (p : PlainRow) (x : Statement) → numbered (built_in_rows s) n ≡ Some p → p.sorted ≡ true
    → p.given ≡ x → row_says n (Some s) ≡ Some x
said_at s n p x q m g =
    ap (option_and_then (λ row. cond row.sorted (Some row.given) None)) q
    ∙ (ap (λ b. cond b (Some p.given) None) m ∙ ap Some g)

said_everywhere : (n : ℕ) (p : PlainRow) (x : Statement) → numbered (built_in_rows bool_sort) n ≡ Some p
    → p.sorted ≡ false → p.given ≡ x → row_says n None ≡ Some x
said_everywhere n p x q m g =
    ap (option_and_then (λ row. cond row.sorted None (Some row.given))) q
    ∙ (ap (λ b. cond b None (Some p.given)) m ∙ ap Some g)

said_by : (table : List Row) (n : ℕ) (s : List ℕ) (row : Row) (x : Statement) (b : Bool) → row.sorted ≡ b
    → HasRows built_in_rows table → numbered table n ≡ Some row → offered_row n (sort_for s row) ≡ Some x
    → row_says n (cond b (Some s) None) ≡ Some x
said_by table n s row x true m h e o =
    at_row table n s row x h e o s refl (row_says n (Some s) ≡ Some x)
    (λ p q k g. said_at s n p x q (k ∙ m) g)
said_by table n s row x false m h e o =
    at_row table n s row x h e o bool_sort
    (ap (λ b. cond b bool_sort bool_sort) m ∙ sym (ap (λ b. cond b s bool_sort) m))
    (row_says n None ≡ Some x) (λ p q k g. said_everywhere n p x q (k ∙ m) g)

-- the line of the row says it
pub row_said : (table : List Row) (n : ℕ) (s : List ℕ) (row : Row) (x : Statement) → HasRows built_in_rows table
    → numbered table n ≡ Some row → offered_row n (sort_for s row) ≡ Some x
    → row_says n (cond row.sorted (Some s) None) ≡ Some x
row_said table n s row x h e o = said_by table n s row x row.sorted refl h e o

-- ---- one row more

nothing_more : {Y : Type 0} (ys : List Y) → ys ++ [] ≡ ys
nothing_more [] = refl
nothing_more (y ∷ ys) = ap (λ zs. y ∷ zs) (nothing_more ys)

bracketed : {Y : Type 0} (xs ys zs : List Y) → xs ++ (ys ++ zs) ≡ xs ++ ys ++ zs
bracketed [] ys zs = refl
bracketed (x ∷ xs) ys zs = ap (λ l. x ∷ l) (bracketed xs ys zs)

one_more : {X Y : Type 0} (f : X → List Y) (xs : List X) (i : ℕ) (x : X) → slice_get xs i ≡ Some x
    → flat_map f (take (suc i) xs) ≡ flat_map f (take i xs) ++ f x
one_more f [] i x e = cc
one_more f (y ∷ xs) zero x e = nothing_more (f y) ∙ ap f (some_inj e)
one_more f (y ∷ xs) (suc i) x e =
    ap (λ l. f y ++ l) (one_more f xs i x e) ∙ bracketed (f y) (flat_map f (take i xs)) (f x)

by_place : {X Y : Type 0} (f : X → List Y) (xs : List X) (i : ℕ) (ys : List Y) (o : Option X) → slice_get xs i ≡ o
    → option_map f o ≡ Some ys → flat_map f (take (suc i) xs) ≡ flat_map f (take i xs) ++ ys
by_place f xs i ys None e h = cc
by_place f xs i ys (Some x) e h = one_more f xs i x e ∙ ap (λ l. flat_map f (take i xs) ++ l) (some_inj h)

numbered_step : {X Y : Type 0} (f : X → List Y) (xs : List X) (i : ℕ) (ys : List Y) (b : Bool) → (i + 1 == 0) ≡ b
    → option_map f (cond b None (slice_get xs (i + 1 - 1))) ≡ Some ys
    → flat_map f (take (i + 1) xs) ≡ flat_map f (take i xs) ++ ys
numbered_step f xs i ys true z h = absurd (omega (arith, eqb-true (i + 1) 0 z))
numbered_step f xs i ys false z h =
    subst (λ n. flat_map f (take n xs) ≡ flat_map f (take i xs) ++ ys) (next_is i)
    (by_place f xs i ys (slice_get xs i) refl (subst (λ n. option_map f (slice_get xs n) ≡ Some ys) (back i) h))
  where
    next_is : (i : ℕ) → suc i ≡ i + 1
    next_is i = omega arith

    back : (i : ℕ) → i + 1 - 1 ≡ i
    back i = omega arith

-- one row more
pub rows_step : (s : List ℕ) (i : ℕ) (e : Sides)
    → option_map (λ p. sides_of p.given) (numbered (built_in_rows s) (i + 1)) ≡ Some (e ∷ [])
    → flat_map (λ p. sides_of p.given) (take (i + 1) (built_in_rows s))
    ≡ flat_map (λ p. sides_of p.given) (take i (built_in_rows s)) ++ e ∷ []
rows_step s i e h = numbered_step (λ p. sides_of p.given) (built_in_rows s) i (e ∷ []) (i + 1 == 0) refl h

-- the rows with one more are the table's with one more
abbrev pub AreRows : List ℕ → ℕ → List RewriteRule → Type 0
AreRows s i rows =
    (all_sides rows ≡ flat_map (λ row. sides_of row.given) (take i (built_in_rows s)))
    × All IsSaidByRow rows × All IsRule rows

pub rows_pushed : (s : List ℕ) (i : ℕ) (rows more : List RewriteRule) (row : RewriteRule) → more ≡ rows ++ row ∷ []
    → AreRows s i rows
    → option_map (λ p. sides_of p.given) (numbered (built_in_rows s) (i + 1)) ≡ Some (sides_of_rule row ∷ [])
    → IsSaidByRow row → IsRule row → AreRows s (i + 1) more
rows_pushed s i rows more row m a e w r =
    subst (AreRows s (i + 1)) (sym m) (
      map_push sides_of_rule rows row
          ∙ (ap (λ l. l ++ sides_of_rule row ∷ []) a.0 ∙ sym (rows_step s i (sides_of_rule row) e)),
      All-push IsSaidByRow rows row a.1 w,
      All-push IsRule rows row a.2 r,
    )

-- ---- rows for a term

pub rows_of_built_in : (rows : List RewriteRule) (f : PlainOperator) (ts : Forest) (r : Bool) → IsTrue r ↔ IsBuiltIn f
    → r ≡ true → all_sides rows ≡ rewriting_rows (sort_at f) → flat_map tries_of (all_sides rows) ≡ rows_for (app f ts)
rows_of_built_in rows f ts r h e q =
    ap (λ xs. flat_map tries_of xs) q
    ∙ sym (ap (λ b. elim b [ true ↦ flat_map tries_of (rewriting_rows (sort_at f)) | false ↦ [] ])
    (sym (built_in_told f r h) ∙ e))

pub rows_of_other : (f : PlainOperator) (ts : Forest) (r : Bool) → IsTrue r ↔ IsBuiltIn f → r ≡ false
    → [] ≡ rows_for (app f ts)
rows_of_other f ts r h e =
    sym (ap (λ b. elim b [ true ↦ flat_map tries_of (rewriting_rows (sort_at f)) | false ↦ [] ])
    (sym (built_in_told f r h) ∙ e))
