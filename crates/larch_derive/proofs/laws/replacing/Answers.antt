use Rattle.larch_derive.proofs.Pushing.{repl_says, repl_extends, trans_says, trans_extends}
use Rattle.larch_derive.proofs.laws.replacing.Goals as goal

pub returns : goal.returns
returns c =
    record { says = repl_says; extends = repl_extends; whole_says = trans_says; whole_extends = trans_extends }
