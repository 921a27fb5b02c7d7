-- What is answered was to be written.
use Rattle.std.proofs.Common.{refl}
use Rattle.larch_words.specs.declared.call.Call.TheVariants.{Migrate}
use Rattle.larch_main_files.proofs.Said.{told_sink}
use Rattle.larch_main.proofs.Whole.{migrated_says, migrated_writes, told_folder, unread}
use Rattle.larch_main.proofs.running.run_migrate.Goals as goal

pub returns-clause-output : goal.returns-clause-output
returns-clause-output g c = λ left.
    migrated_writes c.args.certificate.now (g.F.Folder.files c.args.folder.now) c.migration-answered.result
    c.migration-answered.ensures.answer left _ _ _ _ c.tell.result c.tell.ensures

pub returns-clause-source_faults : goal.returns-clause-source_faults
returns-clause-source_faults g c = λ count. unread (Migrate c.args.certificate.now) refl c.tell.result count

pub returns-clause-folder_faults : goal.returns-clause-folder_faults
returns-clause-folder_faults g c =
    told_folder (Migrate c.args.certificate.now) refl c.migration-answered.result
    (migrated_says c.args.certificate.now (g.F.Folder.files c.args.folder.now) c.migration-answered.result
    c.migration-answered.ensures.answer) _ _ _ _ c.tell.result _ _ c.migration-answered.ensures.fine
    c.migration-answered.ensures.faults c.tell.ensures

pub returns-clause-sink_faults : goal.returns-clause-sink_faults
returns-clause-sink_faults g c =
    told_sink c.migration-answered.result
    (migrated_says c.args.certificate.now (g.F.Folder.files c.args.folder.now) c.migration-answered.result
    c.migration-answered.ensures.answer) _ _ _ _ c.tell.result c.tell.ensures

pub returns-clause-looks : goal.returns-clause-looks
returns-clause-looks g c = c.migration-answered.ensures.looks
