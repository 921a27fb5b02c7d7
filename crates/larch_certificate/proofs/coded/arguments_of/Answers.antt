-- The arguments are those of the term.
use Rattle.std.proofs.Common.{ap, sym, ◌∙◌}
use Rattle.larch_certificate.proofs.Deepest.{taken_fall}
use Rattle.larch_certificate.specs.CodedView.{view_coded}
use Rattle.larch_certificate.proofs.coded.arguments_of.Goals as goal

pub returns-in-App : goal.returns-in-App
returns-in-App c =
    taken_fall c.in-App._symbol c.in-App.arguments c.into_unshared.result c.args.term
    (rw c.in-App.is at c.into_unshared.ensures) (sym (ap view_coded c.in-App.is) ∙ c.term.view_is)
