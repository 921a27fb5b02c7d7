use Rattle.larch_store.specs.Numbered.{term_of}
use Rattle.larch_rewrite_match.proofs.Apart.{same_told}
use Rattle.larch_rewrite_match.proofs.patterns.is_same.Goals as goal

pub returns : goal.returns
returns c = same_told (term_of c.args.left.now) (term_of c.args.right.now) c.same.result c.same.ensures
