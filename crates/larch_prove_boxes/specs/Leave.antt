-- How a subgoal was left, as the code has it.
use Rattle.larch_prove_invariant.specs.Book as book
use Rattle.larch_prove_boxes.specs.declared.leave.Leave.{Leave}
use Rattle.larch_prove_boxes.specs.declared.leave.Leave.TheVariants.{AtLine, InBox}

-- by a closed box, or by a line
abbrev pub left_of : Leave → book.Left
left_of (InBox x) = book.InBox x
left_of (AtLine n) = book.AtLine n
