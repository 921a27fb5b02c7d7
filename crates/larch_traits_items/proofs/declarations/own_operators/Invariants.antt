use Rattle.std.proofs.Common.{◌≡◌, drop}
use Rattle.larch_traits_items.specs.Declarations.{own_operator}
use Rattle.larch_base_meaning.specs.Steps.{all_taken, each, one_behind}
use Rattle.larch_traits_items.proofs.declarations.own_operators.Given as goal

-- the operators so far, with those of the forms that are left, are all
abbrev pub invariant-loop-form : goal.invariant-loop-form
invariant-loop-form l =
    all_taken (λ form. one_behind (own_operator l.sig form)) (drop l.form-index l.forms) l.operators
    ≡ each (own_operator l.sig) l.forms
