-- What lists of equations ask for.
use Rattle.std.proofs.Common.{◌≡◌, ◌==◌, Bool, true, false, cond, List, [], length, refl, ap, ◌∙◌}
use Rattle.std.proofs.lemmas.Bool.Decides.{Decides-eqb}
use Rattle.larch_base.proofs.Bools.{and_both}
use Rattle.larch_term.proofs.Decided.{operator_Decides}
use Rattle.larch_term.proofs.TreeLists.{list_of-forest_of}
use Rattle.larch_term.specs.Equality.{same_operator}
use Rattle.larch_term.specs.Tree.{Tree, Forest, var, app, none, more, forest_of, list_of}
use Rattle.larch_term.specs.declared.variable.Variable.{Variable}
use Rattle.larch_term_law.proofs.Occurring.{variable_Decides}
use Rattle.larch_pairs.specs.Demand.{demand, demand_all, or_next, pairs_of}
use Rattle.larch_pairs.specs.declared.demand.Demand.{Demand}
use Rattle.larch_pairs.specs.declared.demand.Demand.TheVariants.{Nothing, Bind, Clash}

pub forest_back : (ts : List Tree) → list_of (forest_of ts) ≡ ts
forest_back ts = list_of-forest_of ts

chosen : (b : Bool) (d e : Demand) → b ≡ true → cond b d e ≡ d
chosen true d e h = refl
chosen false d e h = cc

mutual
  -- equal terms ask for nothing
  pub dropped : (t : Tree) → demand t t ≡ Nothing
  dropped (var n s) =
      let v : Variable = record { name = n; sort = s } in
      chosen _ Nothing (Bind v (var n s) []) ((variable_Decides v v).1 refl)
  dropped (app f ts) =
      chosen _ (demand_all ts ts) Clash
      (and_both (same_operator f f) (length (list_of ts) == length (list_of ts)) ((operator_Decides f f).1 refl)
      ((Decides-eqb (length (list_of ts)) (length (list_of ts))).1 refl))
      ∙ all_dropped ts

  all_dropped : (ts : Forest) → demand_all ts ts ≡ Nothing
  all_dropped none = refl
  all_dropped (more t ts) = ap (λ d. or_next d (pairs_of ts ts) (demand_all ts ts)) (dropped t) ∙ all_dropped ts
