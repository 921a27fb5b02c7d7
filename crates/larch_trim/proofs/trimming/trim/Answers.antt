use Rattle.std.proofs.Common.{◌≡◌, ◌<◌, ◌≤◌, ℕ, length, sym, ◌∙◌, ap, subst}
use Rattle.std.specs.Prelude.{IfOk}
use Rattle.larch_calculus.specs.Renaming.{HasPlainNames}
use Rattle.larch_term.specs.Statement.{IsWellSortedTheory}
use Rattle.larch_term.specs.declared.statement.Statement.{Statement}
use Rattle.larch_term.specs.declared.statement.Theory.{Theory}
use Rattle.larch_verify_meaning.specs.Acceptance.{Accepts}
use Rattle.larch_trim_meaning.specs.Needed.{needs, Needed}
use Rattle.larch_trim_meaning.specs.Trimmed.{needed_marks, new_number, kept_lines, trim_lines}
use Rattle.larch_trim_law.proofs.Accepted.{kept_accepted}
use Rattle.larch_trim_law.proofs.Again.{all_needed, trimmed_again}
use Rattle.larch_trim_law.proofs.Marks.{reached_length}
use Rattle.larch_trim_law.proofs.Needed.{needed_whole}
use Rattle.larch_trim.proofs.Keeping.{if_left}
use Rattle.larch_trim.proofs.trimming.trim.Goals as goal

pub keep_lines-requires-clause-long : goal.keep_lines-requires-clause-long
keep_lines-requires-clause-long c =
    let lines = c.as_slice-lines.result.now in
    ap length c.as_slice-2.ensures.value ∙ ap length c.in_ok-marks.ensures
    ∙ reached_length (needs lines) (length lines)

pub keep_lines-requires-clause-numbers : goal.keep_lines-requires-clause-numbers
keep_lines-requires-clause-numbers c n =
    c.in_ok-numbers.ensures n
    ∙ ap (λ ms. new_number ms n) (c.as_slice.ensures.value ∙ sym c.as_slice-2.ensures.value)

pub returns : goal.returns
returns c =
    let lines = c.args.certificate.now in
    let same : kept_lines c.as_slice-2.result.now c.as_slice-lines.result.now ≡ trim_lines lines =
    (λ i. kept_lines
    ((c.as_slice-2.ensures.value ∙ c.in_ok-marks.ensures ∙ ap needed_marks c.as_slice-lines.ensures) i)
    (c.as_slice-lines.ensures i)) in
    let result = c.keep_lines.result in
    let is : IfOk result (λ left. left ≡ trim_lines lines) =
    subst (λ ls. IfOk result (λ left. left ≡ ls)) same c.keep_lines.ensures in
    record {
      lines = is;
      accepted = if_left result (trim_lines lines) is
          (λ left. (t : Theory) (s : Statement) → IsWellSortedTheory t → HasPlainNames t → Accepts t s lines
          → Accepts t s left)
          (λ t s sorted plain a.
          kept_accepted t sorted plain lines (needed_marks lines) (needed_whole t s lines a) s a);
      needed = if_left result (trim_lines lines) is
          (λ left. (t : Theory) (s : Statement) → Accepts t s lines → (n : ℕ) → 0 < n → n ≤ length left
          → Needed left n)
          (λ t s a. all_needed t s lines a);
      again = if_left result (trim_lines lines) is
          (λ left. (t : Theory) (s : Statement) → Accepts t s lines → trim_lines left ≡ left)
          (λ t s a. trimmed_again t s lines a);
    }
