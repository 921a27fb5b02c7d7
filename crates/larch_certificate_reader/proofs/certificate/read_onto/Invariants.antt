use Rattle.std.proofs.Common.{◌≡◌, ◌≤◌, ◌+◌, length}
use Rattle.larch_certificate_text.specs.CertificateText.{read_lines}
use Rattle.larch_certificate_text.specs.ListText.{split_at}
use Rattle.larch_certificate_reader.specs.JoinedLines.{join_lines}
use Rattle.larch_certificate_reader.proofs.certificate.read_onto.Given as goal

abbrev pub invariant-lines : goal.invariant-lines
invariant-lines l = record {
  same : join_lines l.lines (read_lines l.relative l.number (split_at 10 l.rest))
      ≡ join_lines l.initial.lines (read_lines l.relative 1 (split_at 10 l.text));
  small : l.number + length l.rest ≤ length l.text + 1;
}

abbrev pub decreases-lines : goal.decreases-lines
decreases-lines l = length l.rest
