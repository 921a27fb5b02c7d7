use Rattle.std.specs.Map.{keys_of}
use Rattle.larch_store.specs.Layers.{shared_in}
use Rattle.larch_store.proofs.Growth.{belongs_once}
use Rattle.larch_store.proofs.Within.{terms_within}
use Rattle.larch_store.proofs.store.Store.terms_have_numbers.Goals as goal

pub returns-clause-terms : goal.returns-clause-terms
returns-clause-terms c =
    terms_within (keys_of c.self.inside.entries) (shared_in c.self.inside.entries) c.args.self.now c.self.view_is
    c.self.invariant
    c.keys_differ.ensures

pub returns-clause-numbers : goal.returns-clause-numbers
returns-clause-numbers c = belongs_once c.args.self.now
