-- Each built-in row is an identity: the rows without a sort of their own by their truth tables, the others by the
-- forms of identities at a sort.
use Rattle.std.proofs.Common.{rules, ◌≡◌, ℕ, zero, suc, ◌==◌, ◌-◌, Bool, true, false, ◌||◌, cond, List, [], ◌∷◌}
use Rattle.std.proofs.Common.{bytes_eq, codes, get_or, Option, Some, None, refl, sym, ◌∙◌, ap, subst}
use Rattle.std.specs.List.{slice_get, list_all}
use Rattle.std.proofs.lemmas.Option.{option_and_then_some, cond_some}
use Rattle.larch_calculus.specs.TermTree.{Tree, Forest, var, app, none, more}
use Rattle.larch_calculus.specs.TermOperator.{name_bytes}
use Rattle.larch_calculus.specs.TermBuiltIn.{built_in_name}
use Rattle.larch_calculus.specs.TermBuilt_inBuiltIn.{BuiltIn}
use Rattle.larch_calculus.specs.TermBuilt_inBuiltIn.TheVariants.{True, False, Not, And, Or, Implies, Iff, Equal}
use Rattle.larch_calculus.specs.TermBuilt_inBuiltIn.TheVariants.{Unequal, If}
use Rattle.larch_calculus.specs.TermStatementStatement.{Statement}
use Rattle.larch_calculus.specs.TermStatementStatement.TheVariants.{Equation, Generated, Partitioned}
use Rattle.larch_calculus.specs.Identity.{Proposition, letter, always, never, denied, both, either, implied, equivalent}
use Rattle.larch_calculus.specs.Identity.{equal, unequal, chosen, term_of, agree, value, propositional, equal_itself}
use Rattle.larch_calculus.specs.Identity.{equal_exchanged, unequal_denied, chosen_first, chosen_second, chosen_same}
use Rattle.larch_tables.specs.Row.{PlainRow}
use Rattle.larch_tables.specs.Spelling.{words}
use Rattle.larch_tables.specs.Statement.{is_offered, offered_row, IsIdentityStatement}
use Rattle.larch_tables.specs.Tables.{built_in_rows}
use Rattle.larch_calculus.proofs.BaseBools.{both_true}
use Rattle.larch_calculus.proofs.BaseOptions.{some_inj}
use Rattle.larch_calculus.specs.BaseByNumber.{numbered}

-- the first of some words that has a name
abbrev word_named : List ℕ → List BuiltIn → BuiltIn
word_named n [] = True
word_named n (w ∷ ws) = cond (bytes_eq n (built_in_name w)) w (word_named n ws)

-- the argument with a number, counted from 0
abbrev part : List Proposition → ℕ → Proposition
part ps k = get_or ps k never

-- the proposition with a word at its head
abbrev headed : BuiltIn → List Proposition → Proposition
headed True ps = always
headed False ps = never
headed Not ps = denied (part ps 0)
headed And ps = both (part ps 0) (part ps 1)
headed Or ps = either (part ps 0) (part ps 1)
headed Implies ps = implied (part ps 0) (part ps 1)
headed Iff ps = equivalent (part ps 0) (part ps 1)
headed Equal ps = equal (part ps 0) (part ps 1)
headed Unequal ps = unequal (part ps 0) (part ps 1)
headed If ps = chosen (part ps 0) (part ps 1) (part ps 2)

abbrev mutual
  -- a term that is a proposition as one
  proposition_of : Tree → Proposition
  proposition_of (var n s) = letter n
  proposition_of (app f ts) = headed (word_named (name_bytes f.name) words) (propositions_of ts)

  propositions_of : Forest → List Proposition
  propositions_of none = []
  propositions_of (more t ts) = proposition_of t ∷ propositions_of ts

-- an equation, whose sides are read as propositions and written as terms again
abbrev reread : Statement → Statement
reread (Equation l r) = Equation (term_of (proposition_of l)) (term_of (proposition_of r))
reread (Generated s fs) = Generated s fs
reread (Partitioned s fs) = Partitioned s fs

-- its sides have one truth value
abbrev is_balanced : (List ℕ → Bool) → Statement → Bool
is_balanced given (Equation l r) = agree (value given (proposition_of l)) (value given (proposition_of r))
is_balanced given (Generated s fs) = false
is_balanced given (Partitioned s fs) = false

-- a truth value for x, and one for each other letter
abbrev pub assigned : Bool → Bool → List ℕ → Bool
assigned b c n = cond (bytes_eq n (codes "x")) b c

abbrev is_balanced_row : (List ℕ → Bool) → PlainRow → Bool
is_balanced_row given row = row.sorted || is_balanced given row.given

-- the truth tables of all rows, for each value of x and y
tables : (s : List ℕ) (b c : Bool) → list_all (is_balanced_row (assigned b c)) (built_in_rows s) ≡ true
tables s true true = refl
tables s true false = refl
tables s false true = refl
tables s false false = refl

-- the rows have no other letters, so their sides agree under each assignment
balanced : (s : List ℕ) (given : List ℕ → Bool) → list_all (is_balanced_row given) (built_in_rows s) ≡ true
balanced s given = tables s (given (codes "x")) (given (codes "y"))

-- a row without a sort of its own is an equation of propositions, another one an identity at its sort
abbrev IsShown : Bool → Statement → Type 0
IsShown true statement = IsIdentityStatement statement
IsShown false statement = reread statement ≡ statement

-- what holds of each row
abbrev pub Every : (PlainRow → Type 0) → List PlainRow → Type 0
Every P [] = Unit {0}
Every P (row ∷ rows) = P row × Every P rows

-- each row is shown so, one without a sort by computing
shown : (s : List ℕ) → Every (λ row. IsShown row.sorted row.given) (built_in_rows s)
shown s =
    search (
      rules,
      equal_itself s (codes "a") refl refl,
      unequal_denied s (codes "a") (codes "b") refl refl,
      chosen_first s (codes "a") (codes "b") refl refl,
      chosen_second s (codes "a") (codes "b") refl refl,
      chosen_same s (codes "x") (codes "a") refl refl,
      equal_exchanged s (codes "a") (codes "b") refl refl,
    )

pub every_at : (P : PlainRow → Type 0) (rows : List PlainRow) (i : ℕ) (row : PlainRow) → Every P rows
    → slice_get rows i ≡ Some row → P row
every_at P [] i row h e = cc
every_at P (r ∷ rows) zero row h e = subst P (some_inj e) h.0
every_at P (r ∷ rows) (suc i) row h e = every_at P rows i row h.1 e

passed_at : (p : PlainRow → Bool) (rows : List PlainRow) (i : ℕ) (row : PlainRow) → list_all p rows ≡ true
    → slice_get rows i ≡ Some row → p row ≡ true
passed_at p [] i row h e = cc
passed_at p (r ∷ rows) zero row h e = ap p (sym (some_inj e)) ∙ (both_true (p r) (list_all p rows) h).0
passed_at p (r ∷ rows) (suc i) row h e = passed_at p rows i row (both_true (p r) (list_all p rows) h).1 e

-- truth values that agree are one
agreed : (b c : Bool) → agree b c ≡ true → b ≡ c
agreed true true e = refl
agreed true false e = cc
agreed false true e = cc
agreed false false e = refl

sides_equal : {a b l r : Tree} → Equation a b ≡ Equation l r → (a ≡ l) × (b ≡ r)
sides_equal e = (cc, cc)

shown_is_identity : (b : Bool) (statement : Statement) → IsShown b statement
    → ((given : List ℕ → Bool) → (b || is_balanced given statement) ≡ true) → IsIdentityStatement statement
shown_is_identity true statement h k = h
shown_is_identity false (Equation l r) h k =
    let e = sides_equal h in
    propositional (proposition_of l) (proposition_of r) (sym e.0) (sym e.1)
    (λ given. agreed (value given (proposition_of l)) (value given (proposition_of r)) (k given))
shown_is_identity false (Generated s fs) h k = let e = k (λ n. true) in cc
shown_is_identity false (Partitioned s fs) h k = let e = k (λ n. true) in cc

-- what has a number stands at the place before it
pub at_place : {X : Type 0} (rows : List X) (n : ℕ) (row : X) → numbered rows n ≡ Some row
    → slice_get rows (n - 1) ≡ Some row
at_place rows n row = unless (n == 0) (slice_get rows (n - 1)) row
  where
    unless : {X : Type 0} (b : Bool) (o : Option X) (row : X) → cond b None o ≡ Some row → o ≡ Some row
    unless true o row e = cc
    unless false o row e = e

pub row_identity : (s : List ℕ) (n : ℕ) (row : PlainRow) → numbered (built_in_rows s) n ≡ Some row
    → IsIdentityStatement row.given
row_identity s n row e =
    let f = at_place (built_in_rows s) n row e in
    shown_is_identity row.sorted row.given
    (every_at (λ r. IsShown r.sorted r.given) (built_in_rows s) (n - 1) row (shown s) f)
    (λ given. passed_at (is_balanced_row given) (built_in_rows s) (n - 1) row (balanced s given) f)

pub offered_identity : (s : List ℕ) (n : ℕ) (statement : Statement) → offered_row n s ≡ Some statement
    → IsIdentityStatement statement
offered_identity s n statement e =
    option_and_then_some (λ row. cond (is_offered s row) (Some row.given) None)
    (numbered (built_in_rows s) n) statement e
    (λ row f g. subst IsIdentityStatement (cond_some (is_offered s row) row.given statement g).1
    (row_identity s n row f))
