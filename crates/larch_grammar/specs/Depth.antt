-- How many constructs are open.
use Rattle.std.specs.Prelude.{ℕ, suc, cond, Option, Some, None, List, [], ◌∷◌}
use Rattle.larch_grammar.specs.declared.machine.Frame.{Frame}
use Rattle.larch_grammar.specs.Opening.{is_opening}

-- how many of these frames wait inside a construct that nests
abbrev pub depth_of : List Frame → ℕ
depth_of [] = 0
depth_of (f ∷ k) = cond (is_opening f) (suc (depth_of k)) (depth_of k)

-- the innermost frame
abbrev pub top : List Frame → Option Frame
top [] = None
top (f ∷ k) = Some f

-- the frames around it
abbrev pub rest : List Frame → List Frame
rest [] = []
rest (f ∷ k) = k
