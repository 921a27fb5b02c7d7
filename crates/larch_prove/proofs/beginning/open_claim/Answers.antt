-- What the lemmas state stands behind the theory, and the variables are those of the preamble.
use Rattle.std.proofs.Common.{ap, refl, subst, sym}
use Rattle.larch_derive.specs.Words.{IsWordedTheory}
use Rattle.larch_prove.proofs.Begins.{claim_opened, claim_refused, whole_worded}
use Rattle.larch_prove.proofs.beginning.open_claim.Goals as goal
use Rattle.larch_prove.specs.Prepared.{duty_of}
use Rattle.larch_prove_beginning.specs.Beginning.{unopened_proof}
use Rattle.larch_prove_resuming.proofs.ProveInvariantReadWords.{statement_worded}

pub open_duty-requires : goal.open_duty-requires
open_duty-requires c = record {
  whole = c.requires.claim.theory;
  sorted = c.requires.replays.sorted;
  named = c.requires.replays.named;
  words = subst IsWordedTheory (sym c.requires.claim.theory) (whole_worded c.args.duty.now c.requires.replays);
  written = statement_worded c.args.duty.now.statement.now c.requires.replays.statement;
}

pub returns-clause-opened : goal.returns-clause-opened
returns-clause-opened c =
    claim_opened c.args.duty.now c.args.claim.now _ _ c.open_duty.new.store c.args.precedence.now
    c.open_duty.new.precedence c.args.prepared.now.settings.scope.value c.args.prepared.now.settings.limit
    c.args.prepared.now.checking c.open_duty.result c.open_duty.ensures.opened
    (record {
      is = ap (λ scope. unopened_proof (duty_of c.args.duty.now) scope c.args.precedence.now
          c.args.prepared.now.settings.limit c.args.prepared.now.checking) (sym c.deref.ensures);
    }) refl refl

pub returns-clause-refused : goal.returns-clause-refused
returns-clause-refused c =
    claim_refused c.args.duty.now c.args.claim.now _ _ c.open_duty.new.store c.args.precedence.now
    c.open_duty.new.precedence c.args.prepared.now.settings.scope.value c.args.prepared.now.settings.limit
    c.args.prepared.now.checking c.open_duty.result c.open_duty.ensures.refused
    (record {
      is = ap (λ scope. unopened_proof (duty_of c.args.duty.now) scope c.args.precedence.now
          c.args.prepared.now.settings.limit c.args.prepared.now.checking) (sym c.deref.ensures);
    }) refl
