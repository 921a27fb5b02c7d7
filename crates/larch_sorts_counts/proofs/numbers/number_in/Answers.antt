use Rattle.std.proofs.Common.{◌∙◌, sym}
use Rattle.larch_sorts_counts.proofs.Numbering.{number_of_none}
use Rattle.larch_sorts_counts.proofs.numbers.number_in.Goals as goal

pub returns-in-None : goal.returns-in-None
returns-in-None c =
    c.len.ensures.len ∙ number_of_none c.args.sorts.now.keys c.args.sort.now
    (sym c.get_index_of.ensures.index ∙ c.in-None.is)
