use Rattle.larch_prove_meaning.proofs.Taking.{first_enough, goes_on, lighter, lighter_instead, starts}
use Rattle.larch_prove_meaning.proofs.laws.adding_comes_to_an_end.Goals as goal

pub returns-clause-start : goal.returns-clause-start
returns-clause-start c n manner e facts b h = starts n manner e facts b h

pub returns-clause-onward : goal.returns-clause-onward
returns-clause-onward c n manner made e waiting facts b h = goes_on n manner made e waiting facts b h

pub returns-clause-first : goal.returns-clause-first
returns-clause-first c rules ranks e d b k others q t = first_enough rules ranks e d b k others q t

pub returns-clause-without : goal.returns-clause-without
returns-clause-without c rules e d b k waiting q = lighter rules e d b k waiting q

pub returns-clause-instead : goal.returns-clause-instead
returns-clause-instead c rules ranks e d b k others waiting q t =
    lighter_instead rules ranks e d b k others waiting q t
