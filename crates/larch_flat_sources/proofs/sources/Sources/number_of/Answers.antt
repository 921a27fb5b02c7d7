use Rattle.std.proofs.Common.{◌∙◌, ap}
use Rattle.std.specs.Prelude.{bytes_eq}
use Rattle.std.specs.List.{position}
use Rattle.larch_flat_sources.specs.Sources.{Table, names_in}
use Rattle.larch_flat_sources.proofs.Tables.{position_named}
use Rattle.larch_flat_sources.proofs.sources.Sources.number_of.Goals as goal

pub returns-clause-name : goal.returns-clause-name
returns-clause-name c = position_named c.args.self.now c.args.name.now c.get_index_of.result
    (c.get_index_of.ensures.index ∙ ap (λ (t : Table). position (bytes_eq c.args.name.now) (names_in t)) c.self.view_is)
