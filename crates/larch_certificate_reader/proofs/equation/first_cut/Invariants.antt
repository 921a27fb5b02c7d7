use Rattle.std.proofs.Common.{◌≡◌, take, drop}
use Rattle.std.specs.Prelude.{option_map}
use Rattle.larch_certificate_text.specs.EquationText.{ahead_of, cut_equals, first_cut}
use Rattle.larch_certificate_reader.proofs.equation.first_cut.Given as goal

abbrev pub invariant-loop-i : goal.invariant-loop-i
invariant-loop-i l = option_map (ahead_of (take l.i l.text)) (cut_equals (drop l.i l.text)) ≡ first_cut l.text
