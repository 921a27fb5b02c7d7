-- Nodes in the places of a box's constants.
use Rattle.std.specs.Prelude.{ℕ, List, option_map, unwrap_or}
use Rattle.larch_term.specs.Tree.{Tree, Forest, var, app, none, more}
use Rattle.larch_verify_pool.specs.Exchanging.{constant_image}
use Rattle.larch_verify_pool.specs.Pooled.{tree_in}

abbrev mutual
  -- the term with the trees of these numbers in the places of a box's constants, the first of which has a number
  pub freed_by : List Tree → ℕ → ℕ → List ℕ → Tree → Tree
  freed_by us b k vs (var n s) = var n s
  freed_by us b k vs (app f ts) =
      unwrap_or (option_map (tree_in us) (constant_image b k vs f.name)) (app f (freed_all_by us b k vs ts))

  pub freed_all_by : List Tree → ℕ → ℕ → List ℕ → Forest → Forest
  freed_all_by us b k vs none = none
  freed_all_by us b k vs (more t ts) = more (freed_by us b k vs t) (freed_all_by us b k vs ts)
