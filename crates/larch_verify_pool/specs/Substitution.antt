-- Substitution by numbers.
use Rattle.std.specs.Prelude.{◌==◌, ℕ, ◌<◌, if◌then◌else◌, List, [], ◌∷◌, length, map, All, Some, None, Option}
use Rattle.larch_term.specs.Tree.{Tree, var, app}
use Rattle.larch_term.specs.declared.substitution.Entry.{Entry}
use Rattle.larch_term.specs.declared.variable.Variable.{Variable}
use Rattle.larch_verify_pool.specs.Pooled.{tree_in}
use Rattle.larch_verify_pool.specs.declared.substitution.PoolBinding.{PoolBinding}

-- the number that is bound to a number: the first binding counts
abbrev pub found : List PoolBinding → ℕ → Option ℕ
found [] q = None
found (b ∷ bs) q = if b.variable == q then Some b.image else found bs q

-- the term is a variable
abbrev pub IsVar : Tree → Type 0
IsVar (var n s) = Unit {0}
IsVar (app f ts) = ⊥

-- a variable term as a variable
abbrev pub variable_of : Tree → Variable
variable_of (var n s) = record { name = n; sort = s }
variable_of (app f ts) = record { name = []; sort = [] }

-- the entry of a variable with a term
abbrev pub entry_from : Tree → Tree → Entry
entry_from x t = record { name = (variable_of x).name; sort = (variable_of x).sort; term = t }

-- what numbers bind, as entries
abbrev pub entries_of : List Tree → List PoolBinding → List Entry
entries_of us bs = map (λ b. entry_from (tree_in us b.variable) (tree_in us b.image)) bs

-- variables are bound to nodes
abbrev pub AreBindings : List Tree → List PoolBinding → Type 0
AreBindings us bs =
    All (λ b. (b.variable < length us) × (b.image < length us) × IsVar (tree_in us b.variable)) bs

-- the numbers are those of variables
abbrev pub AreVariables : List Tree → List ℕ → Type 0
AreVariables us vs = All (λ v. (v < length us) × IsVar (tree_in us v)) vs
