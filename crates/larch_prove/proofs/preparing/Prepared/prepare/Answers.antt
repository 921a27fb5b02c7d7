-- Settings are changed in their place; nothing but declarations, settings and registrations may stand there.
use Rattle.std.proofs.Common.{inl, inr, subst, sym}
use Rattle.larch_prove.proofs.Prepares.{checked_so, other_refused, prepared_so, refused_so}
use Rattle.larch_prove.proofs.preparing.Prepared.prepare.Goals as goal
use Rattle.larch_prove.specs.Prepared.{prepared_proof}
use Rattle.larch_prove_beginning.specs.ProveSettingsChanging.{ChangesSettings}

pub change-requires : goal.change-requires
change-requires c =
    elim c.in-Declare.is [
      | inl w ↦ subst ChangesSettings (sym w.2) tt
      | inr v ↦ elim v [
        | inl w ↦ subst ChangesSettings (sym w.1) tt
        | inr u ↦ elim u [
          | inl w ↦ subst ChangesSettings (sym w.2) tt
          | inr w ↦ subst ChangesSettings (sym w.2) tt
        ]
      ]
    ]

pub returns-in-Declare-clause-prepared : goal.returns-in-Declare-clause-prepared
returns-in-Declare-clause-prepared c =
    let changes : ChangesSettings c.args.kind.now = elim c.in-Declare.is [
      | inl w ↦ subst ChangesSettings (sym w.2) tt
      | inr v ↦ elim v [
        | inl w ↦ subst ChangesSettings (sym w.1) tt
        | inr u ↦ elim u [
          | inl w ↦ subst ChangesSettings (sym w.2) tt
          | inr w ↦ subst ChangesSettings (sym w.2) tt
        ]
      ]
    ] in
    prepared_so c.change.result c.args.kind.now c.args.self.now c.change.new.self changes c.change.ensures.changed
    c.change.ensures.are

pub returns-in-Declare-clause-refused : goal.returns-in-Declare-clause-refused
returns-in-Declare-clause-refused c =
    let changes : ChangesSettings c.args.kind.now = elim c.in-Declare.is [
      | inl w ↦ subst ChangesSettings (sym w.2) tt
      | inr v ↦ elim v [
        | inl w ↦ subst ChangesSettings (sym w.1) tt
        | inr u ↦ elim u [
          | inl w ↦ subst ChangesSettings (sym w.2) tt
          | inr w ↦ subst ChangesSettings (sym w.2) tt
        ]
      ]
    ] in
    refused_so c.change.result c.args.kind.now c.args.self.now changes c.change.ensures.refused

pub returns-in-BoxChecking-clause-prepared : goal.returns-in-BoxChecking-clause-prepared
returns-in-BoxChecking-clause-prepared c = λ d h.
    checked_so d c.args.kind.now c.args.self.now c.in-BoxChecking.on c.in-BoxChecking.is h

pub returns-in_default-clause-refused : goal.returns-in_default-clause-refused
returns-in_default-clause-refused c = λ d h.
    other_refused c.args.kind.now (prepared_proof d c.args.self.now) c.in_default.not-Declare c.in_default.not-Limit
    c.in_default.not-BoxChecking c.in_default.not-Height c.in_default.not-Status c.in_default.not-Bad
