use Rattle.std.proofs.Common.{◌≡◌, ◌++◌, ◌+◌, drop}
use Rattle.larch_certificate_text.specs.CertificateText.{certificate_text, lines_text}
use Rattle.larch_certificate_printer.proofs.certificate.write_certificate.Given as goal

-- what is written and the lines to come make up the whole
abbrev pub invariant-loop-line : goal.invariant-loop-line
invariant-loop-line l = record {
  same : l.text ++ lines_text l.relative l.number (drop l.line-index l.lines)
      ≡ l.fn.text ++ certificate_text l.relative l.lines;
  number : l.number ≡ l.line-index + 1;
}
