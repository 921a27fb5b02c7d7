use Rattle.larch_generate.proofs.Lengths.{trait_short}
use Rattle.larch_generate.proofs.writing.trait_text.Goals as goal

pub returns-clause-short : goal.returns-clause-short
returns-clause-short c = trait_short c.args.place c.args.height c.ranges.place.fits c.requires

pub returns-in_err-append_trait-clause-short : goal.returns-in_err-append_trait-clause-short
returns-in_err-append_trait-clause-short c = trait_short c.args.place c.args.height c.ranges.place.fits c.requires
