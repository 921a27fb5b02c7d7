use Rattle.std.proofs.Common.{◌≡◌, ◌++◌, ◌∷◌, [], map, take}
use Rattle.larch_term.specs.Tree.{var}
use Rattle.larch_pairs_critical.proofs.pairs.marks.Given as goal

-- the variables so far are marked
abbrev pub invariant-loop-variable : goal.invariant-loop-variable
invariant-loop-variable l =
    l.entries ≡ map (λ v. record { name = v.name; sort = v.sort; term = var (v.name ++ l.mark ∷ []) v.sort })
    (take l.variable-index l.variable-items)
