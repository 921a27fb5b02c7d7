use Rattle.std.proofs.Common.{◌∙◌, ap, Ok, Some}
use Rattle.larch_flat.specs.FlatSourcesSources.{name_at}
use Rattle.larch_duties.proofs.Listed.{listed_told}
use Rattle.larch_duties.proofs.printing.list_trait.Goals as goal

pub returns-in_ok-text-in-Ok : goal.returns-in_ok-text-in-Ok
returns-in_ok-text-in-Ok c =
    listed_told c.args.sources.now
    (name_at c.args.sources.now c.args.number) c.in-Ok.flat c.in_ok-duties-in-Ok.duties c.in_ok-text-in-Ok.text
    (c.requires.known.flat c.args.number (Ok c.in-Ok.flat) (c.known_of.ensures ∙ ap Some c.in-Ok.is))
    c.in_ok-duties-in-Ok.ensures c.in_ok-text-in-Ok.ensures
