use Rattle.std.proofs.Common.{◌≡◌, ◌++◌, ◌==◌, cond, drop, codes}
use Rattle.std.specs.List.{flat_map, join_by}
use Rattle.larch_print.proofs.print.write_sorts.Given as goal

-- what is written and what is left to write are all
abbrev pub invariant-loop-i : goal.invariant-loop-i
invariant-loop-i l =
    l.text ++ cond (l.i == 0) (join_by (λ s. s) (codes ", ") (drop l.i l.sorts))
    (flat_map (λ s. codes ", " ++ s) (drop l.i l.sorts))
    ≡ l.initial.text ++ join_by (λ s. s) (codes ", ") l.sorts
