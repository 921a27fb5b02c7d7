-- From laws of the calculus.
use Rattle.larch_tables.proofs.Consequences.{consequences}
use Rattle.larch_tables.proofs.laws.consequences_are_derivable.Goals as goal

pub returns : goal.returns
returns c =
    consequences c.identity_with_terms.ensures c.transitivity.ensures c.derivable_is_well_sorted.ensures
    c.arguments.ensures.one c.arguments.ensures.two
