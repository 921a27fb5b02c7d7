use Rattle.std.proofs.Common.{◌≡◌, length}
use Rattle.larch_certificate_text.specs.TermText.{run}
use Rattle.larch_certificate_reader.specs.MachineViews.{machine_of}
use Rattle.larch_certificate_reader.proofs.machine.feed.Given as goal

-- the machine makes of what is left what it makes of the whole text from the start
abbrev pub invariant-marks : goal.invariant-marks
invariant-marks l = run l.here (machine_of l.reading) l.rest ≡ run l.here (machine_of l.fn.reading) l.text

abbrev pub decreases-marks : goal.decreases-marks
decreases-marks l = length l.rest
