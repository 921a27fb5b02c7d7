-- Maps of terms that change some subterms and rebuild what is above them.
use Rattle.std.specs.Prelude.{◌≡◌, ℕ, suc, ◌<◌, if◌then◌else◌, nat_eq, List, [], ◌∷◌, length, slice_get, Some}
use Rattle.std.specs.Prelude.{None, Option}
use Rattle.std.specs.HashMap.{get}
use Rattle.larch_term.specs.Operator.{OperatorName, boxed}
use Rattle.larch_term.specs.OperatorKey.{same_name}
use Rattle.larch_term.specs.Tree.{Tree, Forest, var, app, none, more}
use Rattle.larch_verify_pool.specs.Pooled.{tree_in}
use Rattle.larch_verify_pool.specs.declared.exchanging.Rule.{Rule}
use Rattle.larch_verify_pool.specs.declared.exchanging.Rule.TheVariants.{Table, Constants}

-- what takes the place of a name, if it is that of a constant of the box; the first constant has a number
abbrev pub constant_image : ℕ → ℕ → List ℕ → OperatorName → Option ℕ
constant_image b k [] n = None
constant_image b k (v ∷ vs) n = if same_name (boxed b k) n then Some v else constant_image b (suc k) vs n

-- the number that a rule has for a number and its tree
abbrev pub image_by : Rule → ℕ → Tree → Option ℕ
image_by (Table images) q t = get nat_eq images q
image_by (Constants b k vs) q (var n s) = None
image_by (Constants b k vs) q (app f ts) = constant_image b k vs f.name

-- the number that a rule has for a number, where these are the trees
abbrev pub image_in : List Tree → Rule → ℕ → Option ℕ
image_in us rule q = image_by rule q (tree_in us q)

-- all numbers that a rule has are those of nodes
abbrev pub IsRule : List Tree → Rule → Type 0
IsRule us rule = (q r : ℕ) (t : Tree) → image_by rule q t ≡ Some r → r < length us

-- a map at each of the arguments
abbrev pub map_forest : (Tree → Tree) → Forest → Forest
map_forest F none = none
map_forest F (more t ts) = more (F t) (map_forest F ts)

-- a map goes to the tree of a number, or leaves a variable and rebuilds an application
abbrev pub ExchangesAt : List Tree → (Tree → Tree) → Option ℕ → Tree → Type 0
ExchangesAt us F (Some r) t = slice_get us r ≡ Some (F t)
ExchangesAt us F None (var n s) = F (var n s) ≡ var n s
ExchangesAt us F None (app f ts) = F (app f ts) ≡ app f (map_forest F ts)

-- a map does what a table says
abbrev pub IsExchange : List Tree → (ℕ → Option ℕ) → (Tree → Tree) → Type 0
IsExchange us table F = (q : ℕ) → q < length us → ExchangesAt us F (table q) (tree_in us q)

-- each number that is done has the number of its changed tree
abbrev pub Exchanged : List Tree → List Tree → (Tree → Tree) → (ℕ → Option ℕ) → Type 0
Exchanged us vs F done = (q r : ℕ) → done q ≡ Some r → slice_get vs r ≡ Some (F (tree_in us q))

-- what a table gives are nodes
abbrev pub IsWithin : List Tree → (ℕ → Option ℕ) → Type 0
IsWithin us table = (q r : ℕ) → table q ≡ Some r → r < length us
