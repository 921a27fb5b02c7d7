use Rattle.std.proofs.Common.{◌≡◌, ◌++◌, drop, map}
use Rattle.larch_duties_meaning.specs.Claims.{clause_claims}
use Rattle.larch_duties_meaning.specs.Conversions.{clause_over}
use Rattle.larch_duties_meaning.specs.Duties.{clause_duties}
use Rattle.larch_duties.specs.Kept.{theory_in}
use Rattle.larch_duties.proofs.claims.put_clauses.Given as goal

-- what is put and what is left to put are all
abbrev pub invariant-loop-conversion : goal.invariant-loop-conversion
invariant-loop-conversion l =
    l.claims ++ clause_claims l.number
    (clause_duties l.first (theory_in l.flat)
    (map (clause_over (theory_in l.flat)) (drop l.conversion-index l.conversions)))
    ≡ l.initial.claims ++ clause_claims 1
    (clause_duties 1 (theory_in l.flat) (map (clause_over (theory_in l.flat)) l.conversions))
