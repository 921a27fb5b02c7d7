use Rattle.std.proofs.Common.{◌∙◌, ap}
use Rattle.larch_io.specs.Folder.{file_of}
use Rattle.larch_io.proofs.Files.{file_of_found}
use Rattle.larch_io.proofs.clean_folder.CleanFolder.find.Goals as goal

pub returns : goal.returns
returns c =
    c.get.ensures.value ∙ file_of_found c.self.inside.files.entries c.args.name.now
    ∙ ap (λ files. file_of files c.args.name.now) c.self.view_is
