use Rattle.std.proofs.Common.{ap, ap₂, ◌++◌, ◌∙◌}
use Rattle.larch_generate.specs.Generator.{size_text}
use Rattle.larch_generate.proofs.summary.generated_text.Goals as goal
use Rattle.larch_report.specs.Text.{total_text}

pub returns : goal.returns
returns c =
    c.in_ok-append_total.ensures
    ∙ ap₂ (λ text counts. text ++ total_text counts)
    (c.in_ok-append_size.ensures ∙ ap (λ text. text ++ size_text c.args.size) c.new-text.ensures) c.counts_of.ensures
