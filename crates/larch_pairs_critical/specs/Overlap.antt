-- What the sides of a critical pair come from.
use Rattle.std.specs.Prelude.{◌≡◌, Some}
use Rattle.larch_term.specs.Place.{at, put}
use Rattle.larch_term.specs.Sorts.{sort_of, WellSorted}
use Rattle.larch_term.specs.Substitution.{instance_of}
use Rattle.larch_term.specs.Tree.{Tree, var, app}
use Rattle.larch_pairs_critical.specs.declared.pair.Pair.{Pair}
use Rattle.larch_pairs_critical.specs.declared.pair.Rule.{Rule}

-- in the first rule's left side the second one's left side stands at the pair's place, each under its substitution; the
-- pair's sides are what the second rule makes of it there, and what the first one makes of it at the root
pub record Overlaps (one two : Rule) (q : Pair) : Type 0 where
  pub stands : at (instance_of q.first one.left) q.place ≡ Some (instance_of q.second two.left)
  pub left : q.left ≡ put (instance_of q.first one.left) q.place (instance_of q.second two.right)
  pub right : q.right ≡ instance_of q.first one.right

-- both sides are well sorted and of one sort
abbrev pub AreSorted : Tree → Tree → Type 0
AreSorted l r = WellSorted l × WellSorted r × (sort_of r ≡ sort_of l)

-- the term is no variable
abbrev pub IsApplication : Tree → Type 0
IsApplication (var n s) = ⊥
IsApplication (app f ts) = Unit {0}
