use Rattle.larch_derive.proofs.Pushing.{refl_says, refl_extends}
use Rattle.larch_derive.proofs.laws.reflecting.Goals as goal

pub returns : goal.returns
returns c = record { says = refl_says; extends = refl_extends }
