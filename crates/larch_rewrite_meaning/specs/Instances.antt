-- Terms that are instances of patterns.
use Rattle.std.specs.Prelude.{◌≡◌, ℕ, List, Option, Some, option_map, find}
use Rattle.larch_term.specs.Tree.{Tree, Forest, var, app, none, more}
use Rattle.larch_term.specs.Substitution.{is_entry_of}
use Rattle.larch_term.specs.declared.substitution.Entry.{Entry}

-- the term that a substitution has for a variable, if it has one
abbrev pub bound_to : List Entry → List ℕ → List ℕ → Option Tree
bound_to es n s = option_map (λ e. e.term) (find (is_entry_of n s) es)

-- what one substitution has for a variable the other has too
abbrev pub Keeps : List Entry → List Entry → Type 0
Keeps es ds = (n s : List ℕ) (t : Tree) → bound_to es n s ≡ Some t → bound_to ds n s ≡ Some t

abbrev mutual
  -- a term is a pattern whose variables, all of them, are replaced by a substitution
  pub IsInstance : List Entry → Tree → Tree → Type 0
  IsInstance es (var n s) t = bound_to es n s ≡ Some t
  IsInstance es (app f ps) (var n s) = ⊥
  IsInstance es (app f ps) (app g ts) = (f ≡ g) × AreInstances es ps ts

  pub AreInstances : List Entry → Forest → Forest → Type 0
  AreInstances es none none = Unit {0}
  AreInstances es none (more t ts) = ⊥
  AreInstances es (more p ps) none = ⊥
  AreInstances es (more p ps) (more t ts) = IsInstance es p t × AreInstances es ps ts
