-- What the folder gave under the name of a certificate or a model.
use Rattle.std.proofs.Common.{rules, ◌≤◌, length, subst, sym}
use Rattle.larch_base.specs.declared.limits.TheConstants.{MAX_FILE_BYTES}
use Rattle.larch_io.specs.Folder.{IsFile}
use Rattle.larch_io.specs.Refusal.{FileRefused}
use Rattle.larch_main_files.specs.Look.{Fetches, IsRefusalFor}
use Rattle.larch_main_files.specs.Gather.{Whole}
use Rattle.larch_main_files.proofs.Evidence.{fetched, fetch_refused}
use Rattle.larch_main_files.proofs.gather.fetch.Goals as goal

pub returns-in-Ok-clause-found : goal.returns-in-Ok-clause-found
returns-in-Ok-clause-found g c =
    let is : IsFile (g.F.Folder.files c.args.folder.now) c.args.name.now c.in-Ok.bytes.items = search rules in
    let short : length c.in-Ok.bytes.items ≤ MAX_FILE_BYTES = search rules in
    subst (λ bytes. Fetches (g.F.Folder.files c.args.folder.now) c.args.name.now (Whole bytes)) (sym c.from_vec.ensures)
    (fetched (g.F.Folder.files c.args.folder.now) c.args.name.now c.in-Ok.bytes.items is short)

pub returns-in-Err-clause-found : goal.returns-in-Err-clause-found
returns-in-Err-clause-found g c =
    let why : FileRefused c.in-Err.refusal (g.F.Folder.files c.args.folder.now) c.args.name.now = search rules in
    let is : IsRefusalFor c.args.name.now c.in-Err.refusal c.refusal_for.result = search rules in
    fetch_refused (g.F.Folder.files c.args.folder.now) c.args.name.now c.in-Err.refusal c.refusal_for.result why is

pub returns-in-Err-clause-faults : goal.returns-in-Err-clause-faults
returns-in-Err-clause-faults g c = c.refusal_for.ensures.faults _ _ c.in-Err.ensures.failed
