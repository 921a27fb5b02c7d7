use Rattle.std.proofs.Common.{false, sym, ◌∙◌, ap}
use Rattle.larch_base.specs.ByNumber.{numbered}
use Rattle.larch_tables.specs.Tables.{built_in_rows}
use Rattle.larch_verify_meaning.specs.Rules.{row_says}
use Rattle.larch_verify_rules.specs.Row.{row_at}
use Rattle.larch_verify_rules.proofs.row.judge_row.Goals as goal

pub returns-in_ok-stated-in-None-clause-says : goal.returns-in_ok-stated-in-None-clause-says
returns-in_ok-stated-in-None-clause-says c =
    c.in_ok-stated-in-None.ensures.says
    ∙ ap (λ s. row_at false (numbered (built_in_rows s) c.args.number)) c.in_ok-truth-in-None.ensures
    ∙ ap (row_says c.args.number) (sym c.in-None.is)
