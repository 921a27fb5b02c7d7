-- Instances of equations by numbers.
use Rattle.std.specs.Prelude.{◌<◌, List, length}
use Rattle.larch_term.specs.Substitution.{instance_of}
use Rattle.larch_term.specs.Tree.{Tree}
use Rattle.larch_term.specs.declared.statement.Statement.{Statement}
use Rattle.larch_term.specs.declared.statement.Statement.TheVariants.{Equation}
use Rattle.larch_term.specs.declared.substitution.Entry.{Entry}
use Rattle.larch_verify_pool.specs.Pooled.{Pooled, tree_in}
use Rattle.larch_verify_pool.specs.Substitution.{IsVar, entry_from, entries_of}
use Rattle.larch_verify_pool.specs.declared.substitution.PoolBinding.{PoolBinding}
use Rattle.larch_verify_history.specs.declared.stated.Equated.{Equated}

-- a variable is bound to a node
abbrev pub IsBinding : List Tree → PoolBinding → Type 0
IsBinding us b = (b.variable < length us) × (b.image < length us) × IsVar (tree_in us b.variable)

-- what is bound to what
abbrev pub entry_of : List Tree → PoolBinding → Entry
entry_of us b = entry_from (tree_in us b.variable) (tree_in us b.image)

-- the equation with all variables replaced at once
abbrev pub instance_in : Pooled → List PoolBinding → Equated → Statement
instance_in p bs e =
    Equation (instance_of (entries_of p.trees bs) (tree_in p.trees e.left))
    (instance_of (entries_of p.trees bs) (tree_in p.trees e.right))
