-- A list of frames by its innermost one.
use Rattle.std.specs.Prelude.{◌≡◌, Some, None, List, [], ◌∷◌}
use Rattle.larch_grammar.specs.Depth.{rest, top}
use Rattle.larch_grammar.specs.declared.machine.Frame.{Frame}

pub stack_of_top : (frames : List Frame) (frame : Frame) → top frames ≡ Some frame → frames ≡ frame ∷ rest frames
stack_of_top [] frame e = cc
stack_of_top (f ∷ k) frame e = cc

pub stack_of_none : (frames : List Frame) → top frames ≡ None → frames ≡ []
stack_of_none [] e = cc
stack_of_none (f ∷ k) e = cc
