-- What a refusal of the code tells.
use Rattle.std.specs.Prelude.{Option, Some, None}
use Rattle.larch_pairs.specs.Unify.{Oversize, a_term_is_too_large}
use Rattle.larch_pairs.specs.declared.refusal.PairRefusal.{PairRefusal}
use Rattle.larch_pairs.specs.declared.refusal.PairRefusal.TheVariants.{TooLarge, Memory}

-- the fault that a refusal tells; out of memory is none
abbrev pub cause : PairRefusal → Option Oversize
cause TooLarge = Some a_term_is_too_large
cause Memory = None
