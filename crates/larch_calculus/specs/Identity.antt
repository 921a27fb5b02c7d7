-- Identities: equations between built-in terms that hold by the meaning of the built-in operators alone.
use Rattle.std.specs.Prelude.{◌≡◌, ℕ, Bool, true, false, not, ◌&&◌, ◌||◌, if◌then◌else◌, List, refl}
use Rattle.larch_term.specs.Tree.{Tree, var}
use Rattle.larch_term.specs.BuiltIn.{bool_sort}
use Rattle.larch_calculus.specs.Formula.{falsity, negation, conjunction, disjunction, implication, equivalence}
use Rattle.larch_calculus.specs.Formula.{equality, inequality, choice}
use Rattle.larch_term.specs.Truth.{truth}

-- a term whose variables are of sort Bool and whose operators are the built-in ones over Bool
pub data Proposition : Type 0 where
  letter : List ℕ → Proposition
  always : Proposition
  never : Proposition
  denied : Proposition → Proposition
  both : Proposition → Proposition → Proposition
  either : Proposition → Proposition → Proposition
  implied : Proposition → Proposition → Proposition
  equivalent : Proposition → Proposition → Proposition
  equal : Proposition → Proposition → Proposition
  unequal : Proposition → Proposition → Proposition
  chosen : Proposition → Proposition → Proposition → Proposition

-- it as a term
abbrev pub term_of : Proposition → Tree
term_of (letter n) = var n bool_sort
term_of always = truth
term_of never = falsity
term_of (denied p) = negation (term_of p)
term_of (both p q) = conjunction (term_of p) (term_of q)
term_of (either p q) = disjunction (term_of p) (term_of q)
term_of (implied p q) = implication (term_of p) (term_of q)
term_of (equivalent p q) = equivalence (term_of p) (term_of q)
term_of (equal p q) = equality bool_sort (term_of p) (term_of q)
term_of (unequal p q) = inequality bool_sort (term_of p) (term_of q)
term_of (chosen p q r) = choice bool_sort (term_of p) (term_of q) (term_of r)

-- whether two truth values are one
abbrev pub agree : Bool → Bool → Bool
agree p q = if p then q else not q

pub agree_itself : (p : Bool) → agree p p ≡ true
agree_itself true = refl
agree_itself false = refl

-- its truth value where its variables have these
abbrev pub value : (List ℕ → Bool) → Proposition → Bool
value given (letter n) = given n
value given always = true
value given never = false
value given (denied p) = not (value given p)
value given (both p q) = value given p && value given q
value given (either p q) = value given p || value given q
value given (implied p q) = not (value given p) || value given q
value given (equivalent p q) = agree (value given p) (value given q)
value given (equal p q) = agree (value given p) (value given q)
value given (unequal p q) = not (agree (value given p) (value given q))
value given (chosen p q r) = if value given p then value given q else value given r

-- both sides agree under each assignment of truth values, or the equation has one of six forms at some sort
pub data IsIdentity : Tree → Tree → Type 0 where
  -- p == q, of one truth value under each assignment
  propositional : {l r : Tree} (p q : Proposition) → l ≡ term_of p → r ≡ term_of q
      → ((given : List ℕ → Bool) → value given p ≡ value given q) → IsIdentity l r
  -- (x = x) == true
  equal_itself : {l r : Tree} (s x : List ℕ) → l ≡ equality s (var x s) (var x s) → r ≡ truth → IsIdentity l r
  -- (x = y) == (y = x)
  equal_exchanged : {l r : Tree} (s x y : List ℕ) → l ≡ equality s (var x s) (var y s)
      → r ≡ equality s (var y s) (var x s) → IsIdentity l r
  -- (x ~= y) == ~(x = y)
  unequal_denied : {l r : Tree} (s x y : List ℕ) → l ≡ inequality s (var x s) (var y s)
      → r ≡ negation (equality s (var x s) (var y s)) → IsIdentity l r
  -- (if true then x else y) == x
  chosen_first : {l r : Tree} (s x y : List ℕ) → l ≡ choice s truth (var x s) (var y s) → r ≡ var x s
      → IsIdentity l r
  -- (if false then x else y) == y
  chosen_second : {l r : Tree} (s x y : List ℕ) → l ≡ choice s falsity (var x s) (var y s) → r ≡ var y s
      → IsIdentity l r
  -- (if b then x else x) == x
  chosen_same : {l r : Tree} (s b x : List ℕ) → l ≡ choice s (var b bool_sort) (var x s) (var x s)
      → r ≡ var x s → IsIdentity l r
