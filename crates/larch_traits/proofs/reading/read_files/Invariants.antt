use Rattle.std.proofs.Common.{◌≡◌}
use Rattle.std.specs.Prelude.{fold}
use Rattle.larch_traits.specs.Files.{text_of}
use Rattle.larch_traits.specs.Reading.{read_files, with_file}
use Rattle.larch_traits.proofs.reading.read_files.Given as goal

-- what is read so far, with the files that are left, is all
abbrev pub invariant-loop-name : goal.invariant-loop-name
invariant-loop-name l =
    fold (λ read name. with_file read name (text_of l.files name)) l.sources l.name-iterator ≡ read_files l.files
