-- What is answered where a demand ends a unification.
use Rattle.std.specs.Prelude.{List, Option, Some, None}
use Rattle.larch_term.specs.declared.substitution.Entry.{Entry}
use Rattle.larch_pairs.specs.declared.demand.Demand.{Demand}
use Rattle.larch_pairs.specs.declared.demand.Demand.TheVariants.{Nothing, Bind, Clash}

-- the bindings, unless no substitution does what is asked
abbrev pub unless_clash : Demand → List Entry → Option (List Entry)
unless_clash Nothing bs = Some bs
unless_clash (Bind v t es) bs = Some bs
unless_clash Clash bs = None
