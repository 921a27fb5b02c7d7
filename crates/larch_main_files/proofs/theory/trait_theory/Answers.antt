use Rattle.std.proofs.Common.{◌∙◌, ap, Ok, Some}
use Rattle.larch_flat_sources.specs.Sources.{name_at}
use Rattle.larch_main_files.proofs.Theories.{theory_told}
use Rattle.larch_main_files.proofs.theory.trait_theory.Goals as goal

pub returns-in_ok-theory_of-in-Ok : goal.returns-in_ok-theory_of-in-Ok
returns-in_ok-theory_of-in-Ok c =
    theory_told c.args.sources.now (name_at c.args.sources.now c.args.number) c.in-Ok.flat
    c.in_ok-theory_of-in-Ok.field-0
    (c.requires.known.flat c.args.number (Ok c.in-Ok.flat) (c.known_of.ensures ∙ ap Some c.in-Ok.is))
    c.in_ok-theory_of-in-Ok.ensures
