-- What waits while a map of a pool's terms is made.
use Rattle.std.specs.Prelude.{◌≡◌, ℕ, ◌<◌, ◌≤◌, ◌*◌, ◌⊎◌, List, [], ◌∷◌, Contains, IsSome, Option, None}
use Rattle.larch_term.specs.Tree.{Tree, var, app, list_of, nodes}
use Rattle.larch_verify_pool.specs.Exchanging.{image_in}
use Rattle.larch_verify_pool.specs.Pooled.{tree_in}
use Rattle.larch_verify_pool.specs.declared.exchanging.Rule.{Rule}
use Rattle.larch_verify_pool.specs.declared.exchanging.Task.{Task}
use Rattle.larch_verify_pool.specs.declared.exchanging.Task.TheVariants.{Visit, Rebuild}

-- the number that a task is about
abbrev pub number_of : Task → ℕ
number_of (Visit q) = q
number_of (Rebuild q) = q

-- a number is done, or one of these
abbrev pub IsDue : (ℕ → Option ℕ) → List ℕ → ℕ → Type 0
IsDue done ns q = IsSome (done q) ⊎ Contains ns q

-- the terms directly below a term
abbrev pub arguments : Tree → List Tree
arguments (var n s) = []
arguments (app f ts) = list_of ts

-- the numbers of all arguments of a number's tree are done, or among these
abbrev pub AreArgumentsDue : List Tree → (ℕ → Option ℕ) → List ℕ → ℕ → Type 0
AreArgumentsDue us done ns q =
    (c : ℕ) → c < q → Contains (arguments (tree_in us q)) (tree_in us c) → IsDue done ns c

-- the term has an operator
abbrev pub IsApplication : Tree → Type 0
IsApplication (var n s) = ⊥
IsApplication (app f ts) = Unit {0}

-- a task can be carried out once these numbers are done: what is rebuilt is an application for which the rule has
-- nothing, and whose arguments are done by then
abbrev pub IsReady : List Tree → Rule → (ℕ → Option ℕ) → List ℕ → Task → Type 0
IsReady us rule done ns (Visit q) = Unit {0}
IsReady us rule done ns (Rebuild q) =
    (image_in us rule q ≡ None) × IsApplication (tree_in us q) × AreArgumentsDue us done ns q

-- once these numbers are done, tasks about a number and those below it can be carried out one by one, and then the
-- number is done
abbrev pub AreTasks : List Tree → Rule → ℕ → (ℕ → Option ℕ) → List ℕ → List Task → Type 0
AreTasks us rule t done ns [] = IsDue done ns t
AreTasks us rule t done ns (w ∷ ws) =
    (number_of w ≤ t) × IsReady us rule done ns w × AreTasks us rule t done (number_of w ∷ ns) ws

-- more than the effort of all tasks that come of a task
abbrev pub effort : List Tree → Task → ℕ
effort us (Visit q) = 2 * nodes (tree_in us q)
effort us (Rebuild q) = 1
