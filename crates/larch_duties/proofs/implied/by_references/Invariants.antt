use Rattle.std.proofs.Common.{◌≡◌, [], drop}
use Rattle.larch_base_meaning.specs.Steps.{all_behind, all_taken}
use Rattle.larch_duties.specs.Steps.{reference_implies}
use Rattle.larch_duties.specs.TraitDuties.{flat_with}
use Rattle.larch_duties.proofs.implied.by_references.Given as goal

-- the statements so far, with what the references that are left imply, are all
abbrev pub invariant-loop-reference : goal.invariant-loop-reference
invariant-loop-reference l =
    all_taken (λ ref. all_behind (reference_implies l.sources (flat_with l.own.text.now l.own.flat.now) ref))
    (drop l.reference-index l.references) l.statements
    ≡ all_taken (λ ref. all_behind (reference_implies l.sources (flat_with l.own.text.now l.own.flat.now) ref))
    l.references []
