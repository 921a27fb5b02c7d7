use Rattle.larch_prove_beginning.proofs.opening.settle_first.Goals as goal

pub settle-requires-clause-provable : goal.settle-requires-clause-provable
settle-requires-clause-provable c = c.requires.provable

pub settle-requires-clause-stands : goal.settle-requires-clause-stands
settle-requires-clause-stands c = c.requires.stands

pub returns-clause-settled : goal.returns-clause-settled
returns-clause-settled c = c.settle.ensures.settled

pub returns-clause-refused : goal.returns-clause-refused
returns-clause-refused c = c.settle.ensures.refused

pub returns-clause-grows : goal.returns-clause-grows
returns-clause-grows c = c.settle.ensures.grows
