use Rattle.std.proofs.Common.{◌≡◌, ◌++◌, ◌==◌, cond, drop, codes}
use Rattle.std.specs.List.{flat_map, join_by}
use Rattle.larch_shorthand.proofs.tuple.append_markers.Given as goal

-- what is written and what is left to write are all
abbrev pub invariant-loop-i : goal.invariant-loop-i
invariant-loop-i l =
    l.text ++ cond (l.i == 0) (join_by (λ f. codes "__") (codes ", ") (drop l.i l.fields))
    (flat_map (λ f. codes ", " ++ codes "__") (drop l.i l.fields))
    ≡ l.initial.text ++ join_by (λ f. codes "__") (codes ", ") l.fields
