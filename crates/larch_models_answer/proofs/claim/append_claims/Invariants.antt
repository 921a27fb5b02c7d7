use Rattle.std.proofs.Common.{◌≡◌, ◌+◌, ◌++◌, drop, take}
use Rattle.std.specs.List.{list_all}
use Rattle.larch_models_meaning.specs.Computed.{holds}
use Rattle.larch_models_meaning.specs.FiniteModel.{interpretation_of}
use Rattle.larch_models_answer.specs.Judgements.{claim_lines}
use Rattle.larch_models_answer.proofs.claim.append_claims.Given as goal

abbrev pub invariant-loop-i : goal.invariant-loop-i
invariant-loop-i l = record {
  all : l.all ≡ list_all (holds (interpretation_of l.model)) (take l.i l.claims);
  text : l.text ++ claim_lines (interpretation_of l.model) l.kind (l.i + 1) (drop l.i l.claims)
      ≡ l.initial.text ++ claim_lines (interpretation_of l.model) l.kind 1 l.claims;
}
