use Rattle.std.proofs.Common.{◌≡◌, ◌+◌, ◌++◌, ℕ, List, drop, map}
use Rattle.larch_duties_meaning.specs.Conversions.{bytes_of, copies}
use Rattle.larch_duties.specs.Names.{FindsNames}
use Rattle.larch_duties.proofs.clause.copies_of.Given as goal

-- the copies so far, and those of the operators that are left where the names so far are taken, are all
abbrev pub invariant-loop-i : goal.invariant-loop-i
invariant-loop-i l =
    (names : List (List ℕ)) × FindsNames l.taken.keys names
    × (l.copies ++ copies (l.i + 1) names (drop l.i l.converted)
    ≡ copies 1 (map (λ f. bytes_of f.name) l.operators) l.converted)
