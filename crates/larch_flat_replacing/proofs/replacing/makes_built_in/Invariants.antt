use Rattle.std.proofs.Common.{◌≡◌, drop}
use Rattle.std.specs.List.{list_any}
use Rattle.larch_term.specs.BuiltIn.{is_built_in}
use Rattle.larch_flat_meaning.specs.Replacements.{new_operator}
use Rattle.larch_flat_replacing.proofs.replacing.makes_built_in.Given as goal

-- what is left is answered as all operators are
abbrev pub invariant-loop-operator : goal.invariant-loop-operator
invariant-loop-operator l =
    list_any (λ f. is_built_in (new_operator l.by f)) (drop l.operator-index l.operators)
    ≡ list_any (λ f. is_built_in (new_operator l.by f)) l.operators
