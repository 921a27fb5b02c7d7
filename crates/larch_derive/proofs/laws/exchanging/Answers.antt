use Rattle.larch_derive.proofs.Pushing.{sym_says, sym_extends}
use Rattle.larch_derive.proofs.laws.exchanging.Goals as goal

pub returns : goal.returns
returns c = record { says = sym_says; extends = sym_extends }
