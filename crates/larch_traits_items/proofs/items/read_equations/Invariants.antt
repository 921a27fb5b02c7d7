use Rattle.std.proofs.Common.{◌≡◌, drop}
use Rattle.larch_sorts.specs.SortsMeaningRead.{read_equation}
use Rattle.larch_base_meaning.specs.Steps.{all_taken, each, one_behind}
use Rattle.larch_traits_items.proofs.items.read_equations.Given as goal

-- the statements so far, with those of the equations that are left, are all
abbrev pub invariant-loop-equation : goal.invariant-loop-equation
invariant-loop-equation l =
    all_taken (λ e. one_behind (read_equation l.signature l.scope e)) (drop l.equation-index l.equations) l.statements
    ≡ each (read_equation l.signature l.scope) l.equations
