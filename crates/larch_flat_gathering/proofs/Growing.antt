-- What is gathered only grows, and so a limit that is passed stays passed.
use Rattle.std.proofs.Common.{◌≡◌, ℕ, ◌≤◌, ◌<◌, Bool, true, false, cond, ◌&&◌, ◌||◌, length, List, [], ◌∷◌, refl, arith}
use Rattle.std.specs.Prelude.{nat_lt}
use Rattle.std.proofs.lemmas.Bool.{lt-ltb, ltb-true}
use Rattle.larch_base.specs.declared.limits.TheConstants.{MAX_OPERATORS, MAX_STATEMENTS, MAX_TRAIT_NODES}
use Rattle.larch_base.proofs.Bools.{or_left, or_right}
use Rattle.larch_term.specs.Equality.{same_statement}
use Rattle.larch_term.specs.Operator.{PlainOperator}
use Rattle.larch_term.specs.declared.statement.Statement.{Statement}
use Rattle.larch_flat_statements.specs.FlatMeaningGathered.{Gathered, Marked, is_too_large, nodes_in}
use Rattle.larch_flat_statements.specs.FlatMeaningGathered.{with_asserted, with_marked, with_operators}
use Rattle.larch_flat_statements.specs.FlatMeaningGathered.{with_statement, with_taken}
use Rattle.larch_flat_statements.proofs.FlatMeaningSizes.{operators_grow}
use Rattle.larch_flat_statements.proofs.Entries.{counts}

-- there are no fewer operators, statements and nodes
abbrev pub Grew : Gathered → Gathered → Type 0
Grew g h =
    (length g.operators ≤ length h.operators)
    × ((length g.marked ≤ length h.marked) × (nodes_in g.marked ≤ nodes_in h.marked))

test_grows : (m n k : ℕ) → n ≤ k → nat_lt m n ≡ true → nat_lt m k ≡ true
test_grows m n k le e = let p : m < n = ltb-true m n e in lt-ltb m k (omega (arith, p, le))

either_grows : (a b c d : Bool) → (a ≡ true → c ≡ true) → (b ≡ true → d ≡ true) → (a || b) ≡ true → (c || d) ≡ true
either_grows true b c d f h e = or_left c d (f refl)
either_grows false b c d f h e = or_right c d (h e)

-- what is too large stays so where it grows
pub large_grows : (g h : Gathered) → Grew g h → is_too_large g ≡ true → is_too_large h ≡ true
large_grows g h w e =
    either_grows (nat_lt MAX_OPERATORS (length g.operators))
    (nat_lt MAX_STATEMENTS (length g.marked) || nat_lt MAX_TRAIT_NODES (nodes_in g.marked))
    (nat_lt MAX_OPERATORS (length h.operators))
    (nat_lt MAX_STATEMENTS (length h.marked) || nat_lt MAX_TRAIT_NODES (nodes_in h.marked))
    (test_grows MAX_OPERATORS (length g.operators) (length h.operators) w.0)
    (either_grows (nat_lt MAX_STATEMENTS (length g.marked)) (nat_lt MAX_TRAIT_NODES (nodes_in g.marked))
    (nat_lt MAX_STATEMENTS (length h.marked)) (nat_lt MAX_TRAIT_NODES (nodes_in h.marked))
    (test_grows MAX_STATEMENTS (length g.marked) (length h.marked) w.1.0)
    (test_grows MAX_TRAIT_NODES (nodes_in g.marked) (nodes_in h.marked) w.1.1))
    e

longer_head : (m n : Marked) (ms more : List Marked) (c : Bool) → length ms ≤ length more
    → length (m ∷ ms) ≤ length (cond c (n ∷ ms) (m ∷ more))
longer_head m n ms more true le = omega arith
longer_head m n ms more false le = omega (arith, le)

longer : (s : Statement) (b : Bool) (ms : List Marked) → length ms ≤ length (with_statement s b ms)
longer s b [] = omega arith
longer s b (m ∷ ms) =
    longer_head m (record { statement = m.statement; assumed = m.assumed && b }) ms (with_statement s b ms)
    (same_statement m.statement s) (longer s b ms)

more_nodes : (s : Statement) (b : Bool) (ms : List Marked) → nodes_in ms ≤ nodes_in (with_statement s b ms)
more_nodes s b ms = let p = counts s b ms in omega (arith, p)

itself : (n : ℕ) → n ≤ n
itself n = omega arith

through : (m n k : ℕ) → m ≤ n → n ≤ k → m ≤ k
through m n k p q = omega (arith, p, q)

pub grew_itself : (g : Gathered) → Grew g g
grew_itself g = (itself (length g.operators), (itself (length g.marked), itself (nodes_in g.marked)))

pub grew_through : (g h i : Gathered) → Grew g h → Grew h i → Grew g i
grew_through g h i p q = (
  through (length g.operators) (length h.operators) (length i.operators) p.0 q.0,
  (
    through (length g.marked) (length h.marked) (length i.marked) p.1.0 q.1.0,
    through (nodes_in g.marked) (nodes_in h.marked) (nodes_in i.marked) p.1.1 q.1.1,
  ),
)

pub grew_marked : (b : Bool) (s : Statement) (g : Gathered) → Grew g (with_marked b s g)
grew_marked b s g = (itself (length g.operators), (longer s b g.marked, more_nodes s b g.marked))

pub grew_operators : (fs : List PlainOperator) (g : Gathered) → Grew g (with_operators fs g)
grew_operators fs g = (operators_grow fs g.operators, (itself (length g.marked), itself (nodes_in g.marked)))

-- with a statement that a trait asserts or only assumes
abbrev pub taken : Bool → Bool → Statement → Gathered → Gathered
taken assumes assumed s g = with_taken assumes (record { statement = s; assumed = assumed }) g

pub grew_taken : (assumes assumed : Bool) (s : Statement) (g : Gathered) → Grew g (taken assumes assumed s g)
grew_taken true assumed s g = grew_marked true s g
grew_taken false true s g = (itself (length g.operators), (itself (length g.marked), itself (nodes_in g.marked)))
grew_taken false false s g = grew_marked false s g

pub taken_same : (assumes assumed : Bool) (s : Statement) (g : Gathered)
    → (taken assumes assumed s g).operators ≡ g.operators
taken_same true assumed s g = refl
taken_same false true s g = refl
taken_same false false s g = refl

pub grew_asserted : (ss : List Statement) (g : Gathered) → Grew g (with_asserted ss g)
grew_asserted [] g = grew_itself g
grew_asserted (s ∷ ss) g =
    grew_through g (with_marked false s g) (with_asserted ss (with_marked false s g)) (grew_marked false s g)
    (grew_asserted ss (with_marked false s g))

pub asserted_same : (ss : List Statement) (g : Gathered) → (with_asserted ss g).operators ≡ g.operators
asserted_same [] g = refl
asserted_same (s ∷ ss) g = asserted_same ss (with_marked false s g)
