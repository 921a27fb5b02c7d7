use Rattle.std.proofs.Common.{◌≡◌, drop}
use Rattle.larch_traits_items.specs.Declarations.{declared_operators, declared_by}
use Rattle.larch_base_meaning.specs.Steps.{all_behind, all_taken}
use Rattle.larch_traits_items.proofs.declarations.declare.Given as goal

-- the operators so far, with those of the declarations that are left, are all
abbrev pub invariant-loop-decl : goal.invariant-loop-decl
invariant-loop-decl l =
    all_taken (λ d. all_behind (declared_by d)) (drop l.decl-index l.decls) l.operators ≡ declared_operators l.decls
