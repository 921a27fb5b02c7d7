use Rattle.std.proofs.Common.{◌∙◌}
use Rattle.larch_session_sources.proofs.Among.{mapped_is}
use Rattle.larch_session_sources.proofs.Named.{trait_named}
use Rattle.larch_session_sources.proofs.scripts.has_trait.Goals as goal

pub text_under-requires : goal.text_under-requires
text_under-requires c = trait_named c.args.stem.now

pub returns : goal.returns
returns c = c.is_some.ensures ∙ mapped_is _ c.in_ok-found.found _ c.in_ok-found.ensures.text
