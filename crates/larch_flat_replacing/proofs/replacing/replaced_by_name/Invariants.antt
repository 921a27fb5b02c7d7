use Rattle.std.proofs.Common.{◌≡◌, drop}
use Rattle.larch_base_meaning.specs.Steps.{all_taken}
use Rattle.larch_flat_meaning.specs.Replacements.{by_name, replace}
use Rattle.larch_flat_replacing.proofs.replacing.replaced_by_name.Given as goal

-- what is replaced so far, with what the actuals that are left replace, is all
abbrev pub invariant-loop-actual : goal.invariant-loop-actual
invariant-loop-actual l =
    all_taken (replace l.names) (by_name (drop l.actual-index l.actuals)) l.by
    ≡ all_taken (replace l.names) (by_name l.actuals) l.fn.by
