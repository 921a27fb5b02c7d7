-- Lines before others.
use Rattle.std.specs.Prelude.{List, ◌++◌, Ok, Err}
use Rattle.larch_certificate.specs.declared.line.Line.{Line}
use Rattle.larch_certificate_text.specs.CertificateText.{Reading}

-- the lines so far and those to come
abbrev pub join_lines : List Line → Reading → Reading
join_lines xs (Ok ys) = Ok (xs ++ ys)
join_lines xs (Err k) = Err k
