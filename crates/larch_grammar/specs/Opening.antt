-- Which frames wait inside a construct that nests.
use Rattle.std.specs.Prelude.{Bool, true, false}
use Rattle.larch_grammar.specs.declared.machine.Frame.{Frame}
use Rattle.larch_grammar.specs.declared.machine.Frame.TheVariants.{InParentheses, InList, InIf, InThen, InElse}

-- inside a parenthesis, a list of terms, or an `if`
abbrev pub is_opening : Frame → Bool
is_opening InParentheses = true
is_opening (InList h ts) = true
is_opening (InIf p) = true
is_opening (InThen p t) = true
is_opening (InElse p t u) = true
is_opening _ = false
