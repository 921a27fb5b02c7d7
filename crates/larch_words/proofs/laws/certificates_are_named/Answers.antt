use Rattle.larch_words.proofs.Checked.{names_certificates, names_migrated, names_trimmed}
use Rattle.larch_words.proofs.laws.certificates_are_named.Goals as goal

pub returns-clause-verify : goal.returns-clause-verify
returns-clause-verify c words names asked = names_certificates words names asked

pub returns-clause-trim : goal.returns-clause-trim
returns-clause-trim c words names asked = names_trimmed words names asked

pub returns-clause-migrate : goal.returns-clause-migrate
returns-clause-migrate c words certificate = names_migrated words certificate
