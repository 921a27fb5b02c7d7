use Rattle.std.proofs.Common.{◌≡◌, map, take}
use Rattle.larch_script_commands.specs.Bare.{bare_word}
use Rattle.larch_script_commands.proofs.equation.same_words.Given as goal

-- the words so far are equal
abbrev pub invariant-loop-i : goal.invariant-loop-i
invariant-loop-i l = map bare_word (take l.i l.left) ≡ map bare_word (take l.i l.right)
