use Rattle.std.proofs.Common.{◌∙◌, ap}
use Rattle.larch_certificate_text.specs.CertificateText.{read_certificate, read_lines, with_version}
use Rattle.larch_certificate_text.specs.ListText.{split_at}
use Rattle.larch_certificate_reader.proofs.Lines.{header_cut, header_bad, form_kept}
use Rattle.larch_certificate_reader.proofs.certificate.read_version.Goals as goal

pub returns-in_default-version_of-clause-err : goal.returns-in_default-version_of-clause-err
unfolding read_certificate
returns-in_default-version_of-clause-err c =
    header_bad c.args.either c.args.text.now c.in-Some.first.now c.in-Some.rest.now
    (rw c.in-Some.is at c.cut_at.ensures) (rw c.in_default-version_of.is at c.version_of.ensures)

pub returns-in-Err-clause-err : goal.returns-in-Err-clause-err
unfolding read_certificate
returns-in-Err-clause-err c =
    let k = header_cut c.args.either c.args.text.now c.in-Some.first.now c.in-Some.rest.now c.in-Some-version_of.second
    (rw c.in-Some.is at c.cut_at.ensures) (rw c.in-Some-version_of.is at c.version_of.ensures) in
    form_kept c.in-Err.refusal c.in-Some-version_of.second
    (read_lines c.in-Some-version_of.second 1 (split_at 10 c.in-Some.rest.now))
    (read_certificate c.args.either c.args.text.now) c.in-Err.ensures.err k

pub returns-in-Ok-clause-ok : goal.returns-in-Ok-clause-ok
unfolding read_certificate
returns-in-Ok-clause-ok c =
    let k = header_cut c.args.either c.args.text.now c.in-Some.first.now c.in-Some.rest.now c.in-Some-version_of.second
    (rw c.in-Some.is at c.cut_at.ensures) (rw c.in-Some-version_of.is at c.version_of.ensures) in
    k ∙ ap (with_version c.in-Some-version_of.second) c.in-Ok.ensures.ok
