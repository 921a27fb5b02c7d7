use Rattle.std.proofs.Common.{◌≡◌, not, drop}
use Rattle.larch_traits_items.specs.Declarations.{fits}
use Rattle.larch_base_meaning.specs.Steps.{first_position}
use Rattle.larch_traits_items.proofs.declarations.unfit_form.Given as goal

-- what is left is answered as all forms are
abbrev pub invariant-loop-form : goal.invariant-loop-form
invariant-loop-form l =
    first_position (λ f. not (fits l.sig f)) (λ f. f.pos) (drop l.form-index l.forms)
    ≡ first_position (λ f. not (fits l.sig f)) (λ f. f.pos) l.forms
