-- What the folder gave or refused, and what it comes to.
use Rattle.std.proofs.Common.{rules, ◌≡◌, ◌<◌, ◌≤◌, false, length, inr}
use Rattle.std.proofs.lemmas.Result.{err_from_is_err_and}
use Rattle.larch_base.specs.declared.limits.TheConstants.{MAX_FILES, MAX_FILE_BYTES}
use Rattle.larch_io.specs.Folder.{IsFile, with_look}
use Rattle.larch_io.specs.Refusal.{FileRefused}
use Rattle.larch_traits.specs.Files.{has_file}
use Rattle.larch_main_files.proofs.Looking.{one_too_many, put_in, refused}
use Rattle.larch_main_files.proofs.Turns.{looked_new}
use Rattle.larch_main_files.proofs.gather.look.Goals as goal

pub returns-in_err-bytes-clause-looks : goal.returns-in_err-bytes-clause-looks
returns-in_err-bytes-clause-looks g c =
    let new : has_file c.args.files.now c.args.name.now ≡ false = search rules in
    let p = err_from_is_err_and c.from_residual.result c.from_residual.ensures.1 in
    let why : FileRefused c.in_err-bytes.field-0.0 (g.F.Folder.files c.args.folder.now) c.args.name.now =
    search rules in
    rw (p.1, p.2) (refused (g.F.Folder.files c.args.folder.now) c.args.files.now c.args.name.now new
    c.in_err-bytes.field-0.0 why)

pub returns-then-len-clause-looks : goal.returns-then-len-clause-looks
returns-then-len-clause-looks g c =
    let new : has_file c.args.files.now c.args.name.now ≡ false = search rules in
    let is : IsFile (g.F.Folder.files c.args.folder.now) c.args.name.now c.in_ok-bytes.bytes.items = search rules in
    let many : MAX_FILES ≤ length c.args.files.now = search rules in
    one_too_many (g.F.Folder.files c.args.folder.now) c.args.files.now c.args.name.now new
    c.in_ok-bytes.bytes.items is many

pub returns-clause-looks : goal.returns-clause-looks
returns-clause-looks g c =
    let new : has_file c.args.files.now c.args.name.now ≡ false = search rules in
    let is : IsFile (g.F.Folder.files c.args.folder.now) c.args.name.now c.in_ok-bytes.bytes.items = search rules in
    let few : length c.args.files.now < MAX_FILES = search rules in
    let short : length c.in_ok-bytes.bytes.items ≤ MAX_FILE_BYTES = search rules in
    inr
    (put_in (g.F.Folder.files c.args.folder.now) c.args.files.now c.args.name.now new c.put.new.files
    c.in_ok-bytes.bytes.items is
    short few c.in_ok-put.ensures.ok)

pub returns-in_err-bytes-clause-looked : goal.returns-in_err-bytes-clause-looked
returns-in_err-bytes-clause-looked g c =
    let new : has_file c.args.files.now c.args.name.now ≡ false = search rules in
    let once :
    g.F.Folder.looks c.read_file.new.self ≡ with_look (g.F.Folder.looks c.args.folder.now) c.args.name.now =
    search rules in
    looked_new (has_file c.args.files.now c.args.name.now) (g.F.Folder.looks c.args.folder.now)
    (g.F.Folder.looks c.read_file.new.self) c.args.name.now new once

pub returns-then-len-clause-looked : goal.returns-then-len-clause-looked
returns-then-len-clause-looked g c =
    let new : has_file c.args.files.now c.args.name.now ≡ false = search rules in
    let once :
    g.F.Folder.looks c.read_file.new.self ≡ with_look (g.F.Folder.looks c.args.folder.now) c.args.name.now =
    search rules in
    looked_new (has_file c.args.files.now c.args.name.now) (g.F.Folder.looks c.args.folder.now)
    (g.F.Folder.looks c.read_file.new.self) c.args.name.now new once

pub returns-clause-looked : goal.returns-clause-looked
returns-clause-looked g c =
    let new : has_file c.args.files.now c.args.name.now ≡ false = search rules in
    let once :
    g.F.Folder.looks c.read_file.new.self ≡ with_look (g.F.Folder.looks c.args.folder.now) c.args.name.now =
    search rules in
    looked_new (has_file c.args.files.now c.args.name.now) (g.F.Folder.looks c.args.folder.now)
    (g.F.Folder.looks c.read_file.new.self) c.args.name.now new once
