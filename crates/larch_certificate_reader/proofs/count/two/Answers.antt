-- The first part and the one behind it.
use Rattle.std.proofs.Common.{◌∙◌, sym, ap}
use Rattle.std.specs.Prelude.{option_map}
use Rattle.larch_certificate_reader.specs.Views.{parts_of}
use Rattle.larch_certificate_text.specs.LineText.{behind, two_of}
use Rattle.larch_certificate_reader.proofs.Fields.{two_cut}
use Rattle.larch_certificate_reader.proofs.count.two.Goals as goal

pub returns-in-Some : goal.returns-in-Some
returns-in-Some c =
    c.with_first.ensures ∙ ap (option_map (behind c.in-Some.first.now)) c.one.ensures
    ∙ sym (two_cut 32 c.in_ok-parts.parts.now c.in-Some.first.now c.in-Some.rest.now
    (rw c.in-Some.is at c.cut_at.ensures))
    ∙ ap (λ p. two_of (parts_of p)) (sym c.in_ok-parts.was)
