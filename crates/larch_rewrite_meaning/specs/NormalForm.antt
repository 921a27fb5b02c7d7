-- Normal forms, leftmost innermost, under a budget.
use Rattle.std.specs.Prelude.{◌≡◌, ◌≤◌, ℕ, zero, suc, false, List, Option, Some, None}
use Rattle.larch_term.specs.Tree.{Tree, Forest, var, app, none, more}
use Rattle.larch_rewrite_meaning.specs.Rewriting.{rewritten_once}
use Rattle.larch_rewrite_meaning.specs.Sides.{Sides}
use Rattle.larch_rewrite_meaning.specs.Work.{Work, Made, OverLimit, OverSize, then_work, after_forming, is_large}

-- How work goes on with a term that a rule has made.
abbrev pub Onward : Type 0
Onward = Tree → ℕ → Work Tree

-- an application takes one from the budget, and the work goes on with what it makes
abbrev pub spent : Onward → Tree → ℕ → Work Tree
spent next u zero = OverLimit
spent next u (suc b) = next u b

-- a term that no rule matches is the form; else the work goes on
abbrev pub applied_or : Onward → Tree → ℕ → Option Tree → Work Tree
applied_or next t b None = Made t b
applied_or next t b (Some u) = spent next u b

-- a term whose arguments are normal: the first rule that matches is applied
abbrev pub at_root : Onward → List Sides → Tree → ℕ → Work Tree
at_root next rules t b = after_forming t (applied_or next t b (rewritten_once rules t))

abbrev mutual
  -- one pass over a term: its arguments from left to right, and then its root
  pub pass : Onward → List Sides → Tree → ℕ → Work Tree
  pass next rules (var n s) b = at_root next rules (var n s) b
  pass next rules (app f ts) b = then_work (pass_all next rules ts b) (λ us r. at_root next rules (app f us) r)

  pub pass_all : Onward → List Sides → Forest → ℕ → Work Forest
  pass_all next rules none b = Made none b
  pass_all next rules (more t ts) b =
      then_work (pass next rules t b) (λ u r. then_work (pass_all next rules ts r) (λ us q. Made (more u us) q))

-- the normal form, where at most so many rules are applied one behind the other
abbrev pub normal_by : ℕ → List Sides → Tree → ℕ → Work Tree
normal_by zero rules t b = after_forming t (pass (λ u c. OverLimit) rules t b)
normal_by (suc n) rules t b = after_forming t (pass (λ u c. normal_by n rules u c) rules t b)

-- The normal form of a term by rules, under a budget, with what is left of that; or the first event. A term is formed
-- as a start, of normal arguments, or by an application, and may then have so many nodes and no more.
unfoldable pub normal : List Sides → Tree → ℕ → Work Tree
normal rules t b = normal_by b rules t b

-- no more is left of a budget than there was
abbrev pub LeavesAtMost : {A : Type 0} → ℕ → Work A → Type 0
LeavesAtMost b (Made x r) = r ≤ b
LeavesAtMost b OverLimit = Unit {0}
LeavesAtMost b OverSize = Unit {0}

-- no rule applies at the root of a term that is small enough
abbrev pub IsNormalAtRoot : List Sides → Tree → Type 0
IsNormalAtRoot rules t = (is_large t ≡ false) × (rewritten_once rules t ≡ None)

abbrev mutual
  -- no rule applies anywhere in a term
  pub IsNormal : List Sides → Tree → Type 0
  IsNormal rules (var n s) = IsNormalAtRoot rules (var n s)
  IsNormal rules (app f ts) = AreNormal rules ts × IsNormalAtRoot rules (app f ts)

  pub AreNormal : List Sides → Forest → Type 0
  AreNormal rules none = Unit {0}
  AreNormal rules (more t ts) = IsNormal rules t × AreNormal rules ts
