use Rattle.std.proofs.Common.{rules, ◌≡◌, ◌∙◌, ap, ap₂, codes, true, Some}
use Rattle.clap.specs.Lexer.{usize_max}
use Rattle.clap.specs.Simple.{app_of_fields, on_top}
use Rattle.clap.specs.Words.{Rule, app_of, new_app, rule_of, with_rule}
use Rattle.larch_words.specs.CommandLine.{command_rule, words_rule}
use Rattle.clap.specs.declared.builder.range.ValueRange.{ValueRange}
use Rattle.larch_words.proofs.Given.{some_range}
use Rattle.larch_words.proofs.command_line.with_words.Goals as goal

pub returns : goal.returns
returns c =
    let start : app_of c.no_binary_name.result
    ≡ on_top (λ shape. record shape { no_binary_name = true }) (new_app (codes "larch")) =
    ap app_of_fields c.no_binary_name.ensures
    ∙ ap (on_top (λ shape. record shape { no_binary_name = true })) c.new.ensures.app in
    let name_is : rule_of c.required.result ≡ command_rule = search rules in
    let range : ValueRange = record { start_inclusive = 0; end_inclusive = usize_max } in
    let words_is : rule_of c.num_args.result ≡ words_rule =
    ap rule_of c.num_args.ensures.0
    ∙ ap (λ n. rule_of (record c.new-3.result { num_vals = n }))
    (some_range c.num_args.result.num_vals range c.num_args.ensures.1)
    ∙ ap (λ (q : Rule). record q { range = Some range }) c.new-3.ensures.rule in
    c.in_ok-command.ensures.shape (search rules)
    ∙ ap₂ with_rule (c.in_ok-arg.ensures.shape (search rules) ∙ ap₂ with_rule start name_is) words_is
