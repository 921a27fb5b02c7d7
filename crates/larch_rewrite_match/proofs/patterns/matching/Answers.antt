use Rattle.larch_store.specs.Numbered.{term_of}
use Rattle.larch_rewrite_match.proofs.Apart.{match_made}
use Rattle.larch_rewrite_match.proofs.patterns.matching.Goals as goal

pub returns-clause-bound : goal.returns-clause-bound
returns-clause-bound c =
    match_made c.args.store.now c.args.pattern.now (term_of c.args.term.now) _ _ _ _ c.new-bound.ensures.items
    c.from_vec.ensures c.if-not-branch.false c.in_ok-matches.ensures.fits c.matches.ensures.bound
