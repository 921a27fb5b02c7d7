-- What comes of a certificate or a model, and files.
use Rattle.std.proofs.Common.{Err, subst}
use Rattle.std.specs.Prelude.{IfSome}
use Rattle.std.proofs.lemmas.Result.{err_from_is_err_and}
use Rattle.larch_traits.specs.Files.{Table}
use Rattle.larch_main_files.specs.Gather.{Whole}
use Rattle.larch_main_files.specs.Look.{ComesTo, found_of}
use Rattle.larch_main_files.proofs.Evidence.{evidence_refused, files_refused, whole_evidence}
use Rattle.larch_main_files.proofs.Turns.{evidence_alone, evidence_first}
use Rattle.larch_main_files.proofs.gather.gather_evidence.Goals as goal

pub returns-in_err-text-clause-found : goal.returns-in_err-text-clause-found
returns-in_err-text-clause-found g c =
    let p = err_from_is_err_and c.from_residual.result c.from_residual.ensures.1 in
    rw (p.1, p.2)
    (evidence_refused (g.F.Folder.files c.args.folder.now) c.args.evidence.now c.args.names.now
    c.in_err-text.field-0.0 c.in_err-text.ensures.found)

pub returns-in_err-files-clause-found : goal.returns-in_err-files-clause-found
returns-in_err-files-clause-found g c =
    let p = err_from_is_err_and c.from_residual-in_err-files.result c.from_residual-in_err-files.ensures.1 in
    rw (p.1, p.2)
    (files_refused (g.F.Folder.files c.args.folder.now) c.args.evidence.now c.requires.other c.args.names.now
    c.requires.names c.in_ok-text.text c.in_ok-text.ensures.found c.in_err-files.field-0.0
    (subst (λ told. IfSome (found_of {A = Table} (Err c.in_err-files.field-0.0))
    (λ found. ComesTo told c.args.names.now found))
    c.in_ok-text.ensures.same c.in_err-files.ensures.found))

pub returns-clause-found : goal.returns-clause-found
returns-clause-found g c =
    whole_evidence (g.F.Folder.files c.args.folder.now) c.args.evidence.now c.requires.other c.args.names.now
    c.requires.names c.in_ok-text.text c.in_ok-text.ensures.found (Whole c.in_ok-files.files)
    (subst (λ told. ComesTo told c.args.names.now (Whole c.in_ok-files.files)) c.in_ok-text.ensures.same
    c.in_ok-files.ensures.found)

pub returns-in_err-text-clause-looks : goal.returns-in_err-text-clause-looks
returns-in_err-text-clause-looks g c =
    evidence_alone _ c.args.evidence.now c.args.names.now _ _ c.fetch.ensures.looked

pub returns-in_err-files-clause-looks : goal.returns-in_err-files-clause-looks
returns-in_err-files-clause-looks g c =
    evidence_first _ _ c.args.evidence.now c.in_ok-text.text c.args.names.now _ _ _ c.fetch.ensures.same
    c.in_ok-text.ensures.file c.fetch.ensures.looked c.gather.ensures.looks

pub returns-clause-looks : goal.returns-clause-looks
returns-clause-looks g c =
    evidence_first _ _ c.args.evidence.now c.in_ok-text.text c.args.names.now _ _ _ c.fetch.ensures.same
    c.in_ok-text.ensures.file c.fetch.ensures.looked c.gather.ensures.looks
