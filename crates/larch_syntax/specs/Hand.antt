-- Frames that hand on what they get.
use Rattle.std.specs.Prelude.{Bool, true, false, None}
use Rattle.larch_grammar.specs.declared.machine.Frame.{Frame}
use Rattle.larch_grammar.specs.declared.machine.Frame.TheVariants.{InConnectives, InEqualities, InFields, InInfixes}
use Rattle.larch_grammar.specs.declared.terminal.Terminal.{Terminal}
use Rattle.larch_grammar.specs.declared.terminal.Terminal.TheVariants.{Colon, Connective, Dot, Equality, OpenBracket}
use Rattle.larch_grammar.specs.declared.terminal.Terminal.TheVariants.{Symbol}

-- a frame hands on the term and the token as they are
abbrev pub hands_on : Frame → Terminal → Bool
hands_on InFields (Dot p) = false
hands_on InFields (Colon p) = false
hands_on InFields (OpenBracket b p) = false
hands_on InFields t = true
hands_on (InInfixes None) (Symbol x) = false
hands_on (InInfixes None) t = true
hands_on (InEqualities None) (Equality x) = false
hands_on (InEqualities None) t = true
hands_on (InConnectives None) (Connective x) = false
hands_on (InConnectives None) t = true
hands_on f t = false
