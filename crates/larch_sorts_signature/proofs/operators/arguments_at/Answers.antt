use Rattle.std.proofs.Common.{◌∙◌, ap, sym, map}
use Rattle.std.proofs.lemmas.List.{length-map}
use Rattle.std.specs.Option.{option_copied}
use Rattle.larch_sorts_signature.proofs.Arguments.{unequal_lengths, nothing_found, next_found}
use Rattle.larch_sorts_signature.proofs.operators.arguments_at.Goals as goal

pub returns-then-tables-sorts : goal.returns-then-tables-sorts
returns-then-tables-sorts c =
    unequal_lengths (map (λ t. t.found.value.entries) c.args.tables.now) c.args.sorts.now
    (λ e. c.if-tables-sorts.true (sym (length-map c.args.tables.now (λ t. t.found.value.entries)) ∙ e))

pub returns-in_default : goal.returns-in_default
returns-in_default c =
    nothing_found (λ t. t.found.value.entries) c.args.tables.now c.args.sorts.now c.loop-i.i c.index-tables-i.result
    c.index-sorts-i.result c.loop-i.arguments c.loop-i.several
    c.if-tables-sorts.false c.loop-i-test.true c.index-tables-i.is c.index-sorts-i.is
    (ap option_copied (sym c.in_default.is) ∙ c.at.ensures) c.loop-i.invariant

pub loop-i-preserved : goal.loop-i-preserved
loop-i-preserved c =
    next_found (λ t. t.found.value.entries) c.args.tables.now c.args.sorts.now c.loop-i.i c.index-tables-i.result
    c.index-sorts-i.result c.loop-i.arguments c.loop-i.several
    c.in-Some.found.now c.push_found.new.arguments c.in_ok-several.several
    c.if-tables-sorts.false c.loop-i-test.true c.index-tables-i.is c.index-sorts-i.is
    (ap option_copied (sym c.in-Some.is) ∙ c.at.ensures) c.in_ok-several.ensures c.loop-i.invariant
