-- What equations ask for first, on the way to a unifier.
use Rattle.std.specs.Prelude.{if◌then◌else◌, ◌==◌, ◌&&◌, Bool, List, [], ◌∷◌, ◌++◌, length}
use Rattle.std.specs.List.{list_any}
use Rattle.larch_term.specs.Equality.{same_operator}
use Rattle.larch_term.specs.Tree.{Tree, Forest, var, app, none, more, list_of}
use Rattle.larch_term.specs.Variable.{occurrences, same_variable}
use Rattle.larch_term.specs.declared.variable.Variable.{Variable}
use Rattle.larch_pairs.specs.declared.demand.Demand.{Demand}
use Rattle.larch_pairs.specs.declared.demand.Demand.TheVariants.{Nothing, Bind, Clash}
use Rattle.larch_pairs.specs.declared.demand.Sides.{Sides}

-- whether a variable occurs in a term
abbrev pub occurs : Variable → Tree → Bool
occurs v t = list_any (same_variable v) (occurrences t)

-- a variable is to become an application: it is bound where it doesn't occur there
abbrev pub binding : Variable → Tree → Demand
binding v t = if occurs v t then Clash else Bind v t []

-- the equations of two lists of arguments, one by one
abbrev pub pairs_of : Forest → Forest → List Sides
pairs_of none us = []
pairs_of (more t ts) none = []
pairs_of (more t ts) (more u us) = record { left = t; right = u } ∷ pairs_of ts us

-- what an equation asks for, with equations behind it; where it asks for nothing, what those ask for
abbrev pub or_next : Demand → List Sides → Demand → Demand
or_next Nothing rest next = next
or_next (Bind v t es) rest next = Bind v t (es ++ rest)
or_next Clash rest next = Clash

abbrev mutual
  -- what an equation asks for: equal variables ask for nothing, a variable on the left, else one on the right, is
  -- bound, and applications of one operator ask for what their arguments' equations do; anything else clashes
  pub demand : Tree → Tree → Demand
  demand (var n s) (var m r) =
      let v : Variable = record { name = n; sort = s } in
      if same_variable v (record { name = m; sort = r }) then Nothing else Bind v (var m r) []
  demand (var n s) (app g us) = binding (record { name = n; sort = s }) (app g us)
  demand (app f ts) (var m r) = binding (record { name = m; sort = r }) (app f ts)
  demand (app f ts) (app g us) =
      if same_operator f g && length (list_of ts) == length (list_of us) then demand_all ts us else Clash

  -- what the equations of arguments ask for, the first one that asks
  pub demand_all : Forest → Forest → Demand
  demand_all none us = Nothing
  demand_all (more t ts) none = Nothing
  demand_all (more t ts) (more u us) = or_next (demand t u) (pairs_of ts us) (demand_all ts us)

-- what a list of equations asks for, the first one that asks; those before it are dropped
abbrev pub first_demand : List Sides → Demand
first_demand [] = Nothing
first_demand (e ∷ es) = or_next (demand e.left e.right) es (first_demand es)
