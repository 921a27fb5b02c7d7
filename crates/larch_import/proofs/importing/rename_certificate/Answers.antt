use Rattle.std.proofs.Common.{◌≡◌, map, subst}
use Rattle.std.specs.Prelude.{IfOk}
use Rattle.larch_term.specs.declared.statement.Statement.{Statement}
use Rattle.larch_verify_meaning.specs.Acceptance.{Accepts}
use Rattle.larch_verify_meaning.specs.RenamingRenaming.{renamed_statement}
use Rattle.larch_verify_law.specs.Moves.{moved_line}
use Rattle.larch_import_names.specs.Names.{renaming}
use Rattle.larch_import_names.specs.Sorted.{HasNamedSorts}
use Rattle.larch_import_meaning.proofs.Accepted.{renamed_accepted}
use Rattle.larch_import_meaning.proofs.Ending.{last_rule_stays}
use Rattle.larch_import_meaning.specs.Imported.{HasRenamed, import_lines, import_move, move_by}
use Rattle.larch_import_meaning.specs.Rules.{last_rule}
use Rattle.larch_import.proofs.Moving.{if_made}
use Rattle.larch_import.proofs.importing.rename_certificate.Goals as goal

pub returns : goal.returns
returns c =
    let by = c.args.by.now in
    let source = c.args.source.now in
    let target = c.args.target.now in
    let places = c.args.places.now in
    let lines = c.args.certificate.now in
    let result = c.move_lines.result in
    let made = import_lines by source target places lines in
    let same : map (moved_line (move_by c.longest-letters.result by c.in_ok-operators.operators
    c.as_slice-sites.result.now))
    c.as_slice-lines.result.now ≡ made =
    λ i. map (moved_line
    (move_by (c.longest-letters.ensures i) by (c.in_ok-operators.ensures i) (c.as_slice-sites.ensures i)))
    (c.as_slice-lines.ensures i) in
    let is : IfOk result (λ some. some ≡ made) =
    subst (λ ls. IfOk result (λ some. some ≡ ls)) same c.move_lines.ensures in
    record {
      lines = is;
      accepted = if_made result made is
          (λ some. (s : Statement) → HasRenamed by source target places → HasNamedSorts by s → Accepts source s lines
          → Accepts target (renamed_statement (renaming by) s) some)
          (λ s x named a. renamed_accepted by source target places s lines x named a);
      ends = if_made result made is (λ some. last_rule some ≡ last_rule lines)
          (last_rule_stays (import_move by source target places) lines);
    }
