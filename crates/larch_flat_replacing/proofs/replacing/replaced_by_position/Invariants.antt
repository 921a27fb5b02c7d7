use Rattle.std.proofs.Common.{◌≡◌, drop}
use Rattle.larch_base_meaning.specs.Steps.{all_taken}
use Rattle.larch_flat_meaning.specs.Replacements.{by_position, none_replaced, plain_forms, replace}
use Rattle.larch_flat_replacing.proofs.replacing.replaced_by_position.Given as goal

-- what is replaced so far, with what the forms that are left replace, is all
abbrev pub invariant-loop-actual : goal.invariant-loop-actual
invariant-loop-actual l =
    all_taken (replace l.names) (by_position l.left (plain_forms (drop l.actual-index l.actuals))) l.by
    ≡ all_taken (replace l.names) (by_position l.formals (plain_forms l.actuals)) none_replaced
