use Rattle.std.proofs.Common.{◌≡◌, ◌++◌, drop, filter}
use Rattle.std.specs.Option.{option_copied}
use Rattle.larch_prove_meaning.specs.Steps.{is_referred}
use Rattle.larch_prove_settings.specs.References.{as_list, only_one}
use Rattle.larch_prove_settings.proofs.references.the_only.Given as goal

-- what was found and what is left tell it
abbrev pub invariant-loop-operator : goal.invariant-loop-operator
invariant-loop-operator l =
    only_one (as_list (option_copied l.found) ++ filter (is_referred l.reference) (drop l.operator-index l.operators))
    ≡ only_one (filter (is_referred l.reference) l.operators)
