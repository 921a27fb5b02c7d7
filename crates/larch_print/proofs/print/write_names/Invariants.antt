use Rattle.std.proofs.Common.{◌≡◌, ◌++◌, ◌==◌, cond, drop, codes}
use Rattle.std.specs.List.{flat_map, join_by}
use Rattle.larch_term.specs.Operator.{name_bytes}
use Rattle.larch_print.proofs.print.write_names.Given as goal

-- what is written and what is left to write are all
abbrev pub invariant-loop-i : goal.invariant-loop-i
invariant-loop-i l =
    l.text ++ cond (l.i == 0) (join_by (λ f. name_bytes f.name) (codes ", ") (drop l.i l.operators))
    (flat_map (λ f. codes ", " ++ name_bytes f.name) (drop l.i l.operators))
    ≡ l.initial.text ++ join_by (λ f. name_bytes f.name) (codes ", ") l.operators
