-- Settings are changed in their place; what works on the proof works on a copy.
use Rattle.std.proofs.Common.{ap, inl, inr, subst, sym}
use Rattle.std.proofs.lemmas.Result.{on_err_weaker}
use Rattle.larch_prove.proofs.Reached.{settings_made, settings_told}
use Rattle.larch_prove.proofs.Turns.{works_on_proof}
use Rattle.larch_prove.proofs.going.Going.carry_out.Goals as goal
use Rattle.larch_prove_beginning.specs.ProveSettingsChanging.{ChangesSettings}

pub change-requires : goal.change-requires
change-requires c =
    elim c.in-Declare.is [
      | inl w ↦ subst ChangesSettings (sym w.2) tt
      | inr v ↦ elim v [
        | inl w ↦ subst ChangesSettings (sym w.1) tt
        | inr u ↦ elim u [
          | inl w ↦ subst ChangesSettings (sym w.2) tt
          | inr w ↦ subst ChangesSettings (sym w.2) tt
        ]
      ]
    ]

pub carry_out_on_copy-requires-clause-kind : goal.carry_out_on_copy-requires-clause-kind
carry_out_on_copy-requires-clause-kind c =
    works_on_proof c.args.kind.now c.requires.turn c.in_default.not-Declare c.in_default.not-Limit
    c.in_default.not-Height c.in_default.not-Status

pub returns-in-Declare-clause-made : goal.returns-in-Declare-clause-made
returns-in-Declare-clause-made c =
    settings_made c.args.self.now c.change.new.self c.args.kind.now c.change.result c.change.ensures.changed
    c.change.ensures.are

pub returns-in-Declare-clause-refused : goal.returns-in-Declare-clause-refused
returns-in-Declare-clause-refused c =
    settings_told c.args.self.now c.args.kind.now c.change.result c.change.ensures.refused

pub returns-in-Declare-clause-err : goal.returns-in-Declare-clause-err
returns-in-Declare-clause-err c =
    on_err_weaker c.change.result
    (λ e. ap (λ s. record c.args.self.now { work = record c.args.self.now.work { settings = s } }) e)
    c.change.ensures.err

pub returns-in_default-clause-made : goal.returns-in_default-clause-made
returns-in_default-clause-made c = c.carry_out_on_copy.ensures.made

pub returns-in_default-clause-refused : goal.returns-in_default-clause-refused
returns-in_default-clause-refused c = c.carry_out_on_copy.ensures.refused
