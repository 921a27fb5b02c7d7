use Rattle.std.proofs.Common.{◌∙◌, cond, Some, ap}
use Rattle.std.specs.Str.{bytes_eq}
use Rattle.larch_io.specs.Folder.{file_of}
use Rattle.larch_io.proofs.Files.{file_of_put}
use Rattle.larch_io.proofs.clean_folder.CleanFolder.insert.Goals as goal

pub returns-clause-ok : goal.returns-clause-ok
returns-clause-ok c = λ other.
    file_of_put c.self.inside.files.entries c.insert.new.self.entries c.args.name c.args.bytes other
    (c.in_ok-insert.ensures.updates.0 other)
    ∙ ap (λ files. cond (bytes_eq c.args.name other) (Some c.args.bytes) (file_of files other)) c.self.view_is
