-- Replacement at a place, from inside out.
use Rattle.std.specs.Prelude.{ℕ, zero, suc, ◌<◌, List, [], ◌∷◌, length, All, Option, None}
use Rattle.larch_term.specs.Place.{argument}
use Rattle.larch_term.specs.Tree.{Tree, Forest, var, app, none, more}
use Rattle.larch_verify_pool.specs.Pooled.{tree_in}
use Rattle.larch_verify_pool.specs.declared.placing.Frame.{Frame}

-- the argument of a term with a number
abbrev pub argument_of : Tree → ℕ → Option Tree
argument_of (var n s) k = None
argument_of (app f ts) k = argument ts k

-- the arguments with another one at a number
abbrev pub set_in : Forest → ℕ → Tree → Forest
set_in none k t = none
set_in (more x xs) zero t = more x xs
set_in (more x xs) (suc zero) t = more t xs
set_in (more x xs) (suc (suc k)) t = more x (set_in xs (suc k) t)

-- a term with another argument at a number
abbrev pub with_argument : Tree → ℕ → Tree → Tree
with_argument (var n s) k t = var n s
with_argument (app f ts) k t = app f (set_in ts k t)

-- a term inside others, the outermost first
abbrev pub plug_in : List Tree → List Frame → Tree → Tree
plug_in us [] t = t
plug_in us (f ∷ fs) t = with_argument (tree_in us f.node) f.argument (plug_in us fs t)

-- the nodes of frames are in the pool
abbrev pub AreFrames : List Tree → List Frame → Type 0
AreFrames us fs = All (λ f. f.node < length us) fs
