-- What the words ask for, and what that call does.
use Rattle.std.proofs.Common.{◌∙◌, ap, map, refl, string_bytes, sym}
use Rattle.larch_words.specs.declared.call.Call.TheVariants as call_
use Rattle.larch_main_files.proofs.Turns.{looks_as, no_look}
use Rattle.larch_main.proofs.Whole.{asked_certificate, asked_migrated, asked_model, asked_trimmed, completes_as}
use Rattle.larch_main.proofs.Whole.{folder_kept, memory_input}
use Rattle.larch_main.proofs.Sessions.{session_source, session_writes, source_as}
use Rattle.larch_main.proofs.Whole.{nothing_made, nothing_written, reports_as, shows}
use Rattle.larch_main.proofs.Whole.{source_kept, unlooked, unread, usage_sink, usage_writes}
use Rattle.larch_main.proofs.Whole.{writes_as}
use Rattle.larch_main.proofs.running.run.Goals as goal

pub returns-in-Session-clause-output : goal.returns-in-Session-clause-output
returns-in-Session-clause-output g c =
    writes_as (call_.Session c.in-Session.limit) _ _ _ _ _ _ c.run_session.result
    (sym c.in-Session.is ∙ c.in-Ok.ensures)
    (session_writes c.in-Session.limit _ _ _ _ _ c.run_session.result c.run_session.ensures.output)

pub returns-in-Session-clause-reports : goal.returns-in-Session-clause-reports
returns-in-Session-clause-reports g c =
    reports_as (call_.Session c.in-Session.limit) _ _ _ _ _ _ _ (sym c.in-Session.is ∙ c.in-Ok.ensures)
    c.run_session.ensures.reports

pub returns-in-Session-clause-source_faults : goal.returns-in-Session-clause-source_faults
returns-in-Session-clause-source_faults g c =
    source_as (call_.Session c.in-Session.limit) _ c.run_session.result _ _ (sym c.in-Session.is ∙ c.in-Ok.ensures)
    (session_source c.in-Session.limit c.run_session.result _ _ c.run_session.ensures.source_faults)

pub returns-in-Session-clause-shown : goal.returns-in-Session-clause-shown
returns-in-Session-clause-shown g c =
    shows c.what_is_verified_is_derivable.ensures c.what_is_trimmed_is_accepted.ensures _ _ _ _ _ _ c.run_session.result
    (writes_as (call_.Session c.in-Session.limit) _ _ _ _ _ _ c.run_session.result
    (sym c.in-Session.is ∙ c.in-Ok.ensures)
    (session_writes c.in-Session.limit (g.F.Folder.files c.args.folder.now) _ _ _ _ c.run_session.result
    c.run_session.ensures.output))

pub returns-in-Session-clause-complete : goal.returns-in-Session-clause-complete
returns-in-Session-clause-complete g c =
    completes_as (call_.Session c.in-Session.limit) _ _ _ _ _ _ c.run_session.result _ _ _ _ _ _
    (sym c.in-Session.is ∙ c.in-Ok.ensures)
    (session_writes c.in-Session.limit (g.F.Folder.files c.args.folder.now) _ _ _ _ c.run_session.result
    c.run_session.ensures.output)
    (session_source c.in-Session.limit c.run_session.result _ _ c.run_session.ensures.source_faults)
    (unlooked (call_.Session c.in-Session.limit) refl c.run_session.result
    (g.F.Folder.faults c.args.folder.now)) c.run_session.ensures.sink_faults

pub returns-in-Nothing-clause-output : goal.returns-in-Nothing-clause-output
returns-in-Nothing-clause-output g c =
    writes_as call_.Nothing _ _ _ _ _ _ c.say_at_end.result (sym c.in-Nothing.is ∙ c.in-Ok.ensures)
    (usage_writes _ _ _ _ _ _ c.say_at_end.result c.say_at_end.ensures)

pub returns-in-Nothing-clause-shown : goal.returns-in-Nothing-clause-shown
returns-in-Nothing-clause-shown g c =
    shows c.what_is_verified_is_derivable.ensures c.what_is_trimmed_is_accepted.ensures _ _ _ _ _ _ c.say_at_end.result
    (writes_as call_.Nothing _ _ _ _ _ _ c.say_at_end.result (sym c.in-Nothing.is ∙ c.in-Ok.ensures)
    (usage_writes (g.F.Folder.files c.args.folder.now) (g.S.Source.left c.args.source.now) _ _ _ _ c.say_at_end.result
    c.say_at_end.ensures))

pub returns-in-Nothing-clause-complete : goal.returns-in-Nothing-clause-complete
returns-in-Nothing-clause-complete g c =
    completes_as call_.Nothing _ _ _ _ _ _ c.say_at_end.result _ _ _ _ _ _ (sym c.in-Nothing.is ∙ c.in-Ok.ensures)
    (usage_writes (g.F.Folder.files c.args.folder.now)
    (g.S.Source.left c.args.source.now) _ _ _ _ c.say_at_end.result c.say_at_end.ensures)
    (unread call_.Nothing refl c.say_at_end.result (g.S.Source.faults c.args.source.now))
    (unlooked call_.Nothing refl c.say_at_end.result (g.F.Folder.faults c.args.folder.now))
    (usage_sink _ _ _ _ c.say_at_end.result c.say_at_end.ensures)

pub run_on_files-requires-clause-certificate : goal.run_on_files-requires-clause-certificate
run_on_files-requires-clause-certificate g c =
    asked_certificate _ (map string_bytes c.args.words.now) _ _ c.in-Ok.ensures c.in-OnFiles.is
    c.certificates_are_named.ensures.verify

pub run_on_files-requires-clause-trimmed : goal.run_on_files-requires-clause-trimmed
run_on_files-requires-clause-trimmed g c =
    asked_trimmed _ (map string_bytes c.args.words.now) _ _ c.in-Ok.ensures c.in-OnFiles.is
    c.certificates_are_named.ensures.trim

pub run_on_files-requires-clause-model : goal.run_on_files-requires-clause-model
run_on_files-requires-clause-model g c =
    asked_model _ (map string_bytes c.args.words.now) _ _ c.in-Ok.ensures c.in-OnFiles.is c.models_are_named.ensures

pub returns-clause-output : goal.returns-clause-output
returns-clause-output g c =
    writes_as _ _ _ _ _ _ _ c.run_on_files.result
    (ap (λ names. call_.OnFiles c.in-OnFiles.question names) c.as_slice.ensures
    ∙ (sym c.in-OnFiles.is ∙ c.in-Ok.ensures))
    (c.run_on_files.ensures.output (g.S.Source.left c.args.source.now))

pub returns-clause-shown : goal.returns-clause-shown
returns-clause-shown g c =
    shows c.what_is_verified_is_derivable.ensures c.what_is_trimmed_is_accepted.ensures _ _ _ _ _ _
    c.run_on_files.result
    (writes_as _ _ _ _ _ _ _ c.run_on_files.result
    (ap (λ names. call_.OnFiles c.in-OnFiles.question names) c.as_slice.ensures
    ∙ (sym c.in-OnFiles.is ∙ c.in-Ok.ensures))
    (c.run_on_files.ensures.output (g.S.Source.left c.args.source.now)))

pub returns-clause-complete : goal.returns-clause-complete
returns-clause-complete g c =
    completes_as _ _ _ _ _ _ _ c.run_on_files.result _ _ _ _ _ _
    (ap (λ names. call_.OnFiles c.in-OnFiles.question names) c.as_slice.ensures
    ∙ (sym c.in-OnFiles.is ∙ c.in-Ok.ensures))
    (c.run_on_files.ensures.output (g.S.Source.left c.args.source.now))
    (c.run_on_files.ensures.source_faults (g.S.Source.faults c.args.source.now))
    c.run_on_files.ensures.folder_faults c.run_on_files.ensures.sink_faults

pub returns-clause-reports : goal.returns-clause-reports
returns-clause-reports g c =
    reports_as _ _ _ _ _ _ _ _
    (ap (λ names. call_.OnFiles c.in-OnFiles.question names) c.as_slice.ensures
    ∙ (sym c.in-OnFiles.is ∙ c.in-Ok.ensures)) c.run_on_files.ensures.reports

pub returns-in-Nothing-clause-reports : goal.returns-in-Nothing-clause-reports
returns-in-Nothing-clause-reports g c =
    reports_as call_.Nothing _ _ _ _ _ _ _ (sym c.in-Nothing.is ∙ c.in-Ok.ensures) refl

pub returns-in-Err-clause-reports : goal.returns-in-Err-clause-reports
returns-in-Err-clause-reports g c = nothing_made _ _ _ _ c.args.steps.now

pub returns-in-Err-clause-output : goal.returns-in-Err-clause-output
returns-in-Err-clause-output g c = nothing_written _ _ _ _

pub returns-in-Err-clause-shown : goal.returns-in-Err-clause-shown
returns-in-Err-clause-shown g c =
    shows c.what_is_verified_is_derivable.ensures c.what_is_trimmed_is_accepted.ensures _ _ _ _ _ _ _
    (nothing_written _ (g.F.Folder.files c.args.folder.now) (g.S.Source.left c.args.source.now)
    (g.K.Sink.held c.args.sink.now))

pub returns-in-Err-clause-input : goal.returns-in-Err-clause-input
returns-in-Err-clause-input g c = memory_input _ _ _ _ _

pub returns-in-Err-clause-source_faults : goal.returns-in-Err-clause-source_faults
returns-in-Err-clause-source_faults g c = refl

pub returns-in-Err-clause-folder_faults : goal.returns-in-Err-clause-folder_faults
returns-in-Err-clause-folder_faults g c = refl

pub returns-in-Err-clause-folder : goal.returns-in-Err-clause-folder
returns-in-Err-clause-folder g c = folder_kept _ _

pub returns-in-Err-clause-untouched : goal.returns-in-Err-clause-untouched
returns-in-Err-clause-untouched g c = source_kept _ _

pub returns-in-Session-clause-looks : goal.returns-in-Session-clause-looks
returns-in-Session-clause-looks g c = no_look _ _ _

pub returns-in-Nothing-clause-looks : goal.returns-in-Nothing-clause-looks
returns-in-Nothing-clause-looks g c = no_look _ _ _

pub returns-in-Err-clause-looks : goal.returns-in-Err-clause-looks
returns-in-Err-clause-looks g c = no_look _ _ _

pub returns-clause-looks : goal.returns-clause-looks
returns-clause-looks g c =
    looks_as _ _ _ _ _
    (ap (λ names. call_.OnFiles c.in-OnFiles.question names) c.as_slice.ensures
    ∙ (sym c.in-OnFiles.is ∙ c.in-Ok.ensures)) c.run_on_files.ensures.looks

-- a certificate is migrated

pub run_migrate-requires : goal.run_migrate-requires
run_migrate-requires g c =
    asked_migrated _ (map string_bytes c.args.words.now) _ c.in-Ok.ensures c.in-Migrate.is
    c.certificates_are_named.ensures.migrate

pub returns-in-Migrate-clause-output : goal.returns-in-Migrate-clause-output
returns-in-Migrate-clause-output g c =
    writes_as (call_.Migrate c.in-Migrate.certificate) _ _ _ _ _ _ c.run_migrate.result
    (sym c.in-Migrate.is ∙ c.in-Ok.ensures) (c.run_migrate.ensures.output (g.S.Source.left c.args.source.now))

pub returns-in-Migrate-clause-shown : goal.returns-in-Migrate-clause-shown
returns-in-Migrate-clause-shown g c =
    shows c.what_is_verified_is_derivable.ensures c.what_is_trimmed_is_accepted.ensures _ _ _ _ _ _ c.run_migrate.result
    (writes_as (call_.Migrate c.in-Migrate.certificate) _ _ _ _ _ _ c.run_migrate.result
    (sym c.in-Migrate.is ∙ c.in-Ok.ensures) (c.run_migrate.ensures.output (g.S.Source.left c.args.source.now)))

pub returns-in-Migrate-clause-complete : goal.returns-in-Migrate-clause-complete
returns-in-Migrate-clause-complete g c =
    completes_as (call_.Migrate c.in-Migrate.certificate) _ _ _ _ _ _ c.run_migrate.result _ _ _ _ _ _
    (sym c.in-Migrate.is ∙ c.in-Ok.ensures) (c.run_migrate.ensures.output (g.S.Source.left c.args.source.now))
    (c.run_migrate.ensures.source_faults (g.S.Source.faults c.args.source.now))
    c.run_migrate.ensures.folder_faults c.run_migrate.ensures.sink_faults

pub returns-in-Migrate-clause-reports : goal.returns-in-Migrate-clause-reports
returns-in-Migrate-clause-reports g c =
    reports_as (call_.Migrate c.in-Migrate.certificate) _ _ _ _ _ _ _ (sym c.in-Migrate.is ∙ c.in-Ok.ensures) refl

pub returns-in-Migrate-clause-looks : goal.returns-in-Migrate-clause-looks
returns-in-Migrate-clause-looks g c =
    looks_as (call_.Migrate c.in-Migrate.certificate) _ _ _ _ (sym c.in-Migrate.is ∙ c.in-Ok.ensures)
    c.run_migrate.ensures.looks

-- a report is made on generated traits

pub returns-in-Generate-clause-output : goal.returns-in-Generate-clause-output
returns-in-Generate-clause-output g c =
    writes_as (call_.Generate c.in-Generate.traits) _ _ _ _ _ _ c.run_generate.result
    (sym c.in-Generate.is ∙ c.in-Ok.ensures)
    (c.run_generate.ensures.output (g.F.Folder.files c.args.folder.now) (g.S.Source.left c.args.source.now))

pub returns-in-Generate-clause-shown : goal.returns-in-Generate-clause-shown
returns-in-Generate-clause-shown g c =
    shows c.what_is_verified_is_derivable.ensures c.what_is_trimmed_is_accepted.ensures _ _ _ _ _ _
    c.run_generate.result
    (writes_as (call_.Generate c.in-Generate.traits) _ _ _ _ _ _ c.run_generate.result
    (sym c.in-Generate.is ∙ c.in-Ok.ensures)
    (c.run_generate.ensures.output (g.F.Folder.files c.args.folder.now) (g.S.Source.left c.args.source.now)))

pub returns-in-Generate-clause-complete : goal.returns-in-Generate-clause-complete
returns-in-Generate-clause-complete g c =
    completes_as (call_.Generate c.in-Generate.traits) _ _ _ _ _ _ c.run_generate.result _ _ _ _ _ _
    (sym c.in-Generate.is ∙ c.in-Ok.ensures)
    (c.run_generate.ensures.output (g.F.Folder.files c.args.folder.now) (g.S.Source.left c.args.source.now))
    (unread (call_.Generate c.in-Generate.traits) refl c.run_generate.result (g.S.Source.faults c.args.source.now))
    (unlooked (call_.Generate c.in-Generate.traits) refl c.run_generate.result (g.F.Folder.faults c.args.folder.now))
    c.run_generate.ensures.sink_faults

pub returns-in-Generate-clause-reports : goal.returns-in-Generate-clause-reports
returns-in-Generate-clause-reports g c =
    reports_as (call_.Generate c.in-Generate.traits) _ _ _ _ _ _ _ (sym c.in-Generate.is ∙ c.in-Ok.ensures)
    c.run_generate.ensures.reports

pub returns-in-Generate-clause-looks : goal.returns-in-Generate-clause-looks
returns-in-Generate-clause-looks g c = no_look _ _ _
