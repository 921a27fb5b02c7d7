-- Bytes are compared one by one.
use Rattle.std.proofs.lemmas.Slice.Eq.{bytes_eq-Decides, slice_eq-Decides}
use Rattle.larch_term.proofs.operator.same_sorts.Goals as goal

pub returns : goal.returns
returns c = slice_eq-Decides bytes_eq-Decides _ _ _ c.eq.ensures
