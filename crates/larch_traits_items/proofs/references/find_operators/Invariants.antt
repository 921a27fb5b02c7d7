use Rattle.std.proofs.Common.{◌≡◌, drop}
use Rattle.larch_traits_items.specs.References.{operator_named, operators_named}
use Rattle.larch_base_meaning.specs.Steps.{all_taken, one_behind}
use Rattle.larch_traits_items.proofs.references.find_operators.Given as goal

-- the operators so far, with those that the references that are left name, are all
abbrev pub invariant-loop-reference : goal.invariant-loop-reference
invariant-loop-reference l =
    all_taken (λ ref. one_behind (operator_named l.signature l.kind l.sort ref)) (drop l.reference-index l.refs) l.named
    ≡ operators_named l.signature l.kind l.sort l.refs
