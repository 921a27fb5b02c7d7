-- What the codes of a row spell.
use Rattle.std.specs.Prelude.{ℕ, ◌-◌, nat_le, if◌then◌else◌, List, [], ◌∷◌, codes, length, take, drop, Option, Some}
use Rattle.std.specs.Prelude.{None, option_map, option_and_then}
use Rattle.std.specs.List.{slice_get}
use Rattle.larch_calculus.specs.TermTree.{Tree, var, app, forest_of}
use Rattle.larch_calculus.specs.TermBuiltIn.{bool_sort, built_in, built_in_domain}
use Rattle.larch_calculus.specs.TermBuilt_inBuiltIn.{BuiltIn}
use Rattle.larch_calculus.specs.TermBuilt_inBuiltIn.TheVariants.{True, False, Not, And, Or, Implies, Iff, Equal}
use Rattle.larch_calculus.specs.TermBuilt_inBuiltIn.TheVariants.{Unequal, If}
use Rattle.larch_calculus.specs.TermStatementStatement.{Statement}
use Rattle.larch_calculus.specs.TermStatementStatement.TheVariants.{Equation}
use Rattle.larch_tables.specs.declared.row.Side.{Side}
use Rattle.larch_tables.specs.declared.row.Sides.{Sides}

-- the variables of rows: x, y and z are of sort Bool, a and b of the row's sort
abbrev pub x : Tree
x = var (codes "x") bool_sort

abbrev pub y : Tree
y = var (codes "y") bool_sort

abbrev pub z : Tree
z = var (codes "z") bool_sort

abbrev pub a : List ℕ → Tree
a s = var (codes "a") s

abbrev pub b : List ℕ → Tree
b s = var (codes "b") s

-- what the codes from 0 on stand for
abbrev pub words : List BuiltIn
words = True ∷ False ∷ Not ∷ And ∷ Or ∷ Implies ∷ Iff ∷ Equal ∷ Unequal ∷ If ∷ []

-- what the codes behind those stand for, at a sort
abbrev pub variables : List ℕ → List Tree
variables s = x ∷ y ∷ z ∷ a s ∷ b s ∷ []

-- how many arguments a built-in operator has
abbrev pub arity : BuiltIn → ℕ
arity w = length (built_in_domain w [])

-- a word before some terms takes as many of them as it has arguments, where there are so many
abbrev pub word_before : List ℕ → BuiltIn → List Tree → Option (List Tree)
word_before s w ts =
    if nat_le (arity w) (length ts)
    then Some (app (built_in w s) (forest_of (take (arity w) ts)) ∷ drop (arity w) ts)
    else None

-- a variable is a term by itself, and what is no variable spells nothing
abbrev pub variable_before : Option Tree → List Tree → Option (List Tree)
variable_before None ts = None
variable_before (Some t) ts = Some (t ∷ ts)

-- a code is a word or else a variable
abbrev pub before : List ℕ → Option BuiltIn → Option Tree → List Tree → Option (List Tree)
before s None v ts = variable_before v ts
before s (Some w) v ts = word_before s w ts

-- the terms that codes in preorder spell at a sort, one behind the other, where all stand for something and each word
-- has its arguments
abbrev pub spelling_of : List ℕ → List ℕ → Option (List Tree)
spelling_of s [] = Some []
spelling_of s (k ∷ ks) =
    option_and_then (before s (slice_get words k) (slice_get (variables s) (k - length words))) (spelling_of s ks)

-- the term, where there is one
abbrev pub only : List Tree → Option Tree
only [] = None
only (t ∷ []) = Some t
only (t ∷ u ∷ us) = None

-- the term that a side spells
abbrev pub spelled_side : List ℕ → Side → Option Tree
spelled_side s side = option_and_then only (spelling_of s (take side.length side.codes))

-- the equation that two sides spell at a sort, where each spells one term
abbrev pub equation_of : List ℕ → Sides → Option Statement
equation_of s sides =
    option_and_then (λ l. option_map (λ r. Equation l r) (spelled_side s sides.right)) (spelled_side s sides.left)
