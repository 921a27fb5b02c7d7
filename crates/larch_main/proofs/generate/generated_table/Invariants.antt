use Rattle.larch_main.proofs.Generating.{Puts}
use Rattle.larch_main.proofs.generate.generated_table.Given as goal

-- the files so far are put in, and with the rest come to all
abbrev pub invariant-loop-file : goal.invariant-loop-file
invariant-loop-file l = Puts l.fn.traits l.files l.file-iterator.rest.items
