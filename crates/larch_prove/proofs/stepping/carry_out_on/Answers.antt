-- A formula is proved, a fact is worked on, or a method is carried out.
use Rattle.std.specs.Prelude.{All}
use Rattle.std.proofs.Common.{ap, inl, inr, subst, sym, ◌∙◌}
use Rattle.larch_prove.proofs.Reached.{made_as, refused_as}
use Rattle.larch_prove.proofs.stepping.carry_out_on.Goals as goal
use Rattle.larch_prove_resuming.specs.Commands.{ResumesProof}
use Rattle.larch_script_commands.specs.Worded.{WordedInstance, WordedKind}
use Rattle.larch_script_commands.specs.declared.command.CommandKind.TheVariants as command

pub returns-in-Prove-clause-made : goal.returns-in-Prove-clause-made
returns-in-Prove-clause-made c =
    made_as c.args.claim.now.theory c.args.claim.now.statement c.args.work.now c.prove.new.work c.args.kind.now
    (command.Prove c.in-Prove.equation) c.prove.result c.in-Prove.is c.prove.ensures.proved

pub returns-in-Prove-clause-refused : goal.returns-in-Prove-clause-refused
returns-in-Prove-clause-refused c =
    refused_as c.args.claim.now.theory c.args.claim.now.statement c.args.work.now c.args.kind.now
    (command.Prove c.in-Prove.equation) c.prove.result c.in-Prove.is c.prove.ensures.refused

pub instantiate-requires-clause-worded : goal.instantiate-requires-clause-worded
instantiate-requires-clause-worded c =
    subst (All WordedInstance) (sym c.as_slice.ensures) (subst WordedKind c.in-Instantiate.is c.requires.worded)

pub returns-in-Instantiate-clause-made : goal.returns-in-Instantiate-clause-made
returns-in-Instantiate-clause-made c =
    made_as c.args.claim.now.theory c.args.claim.now.statement c.args.work.now c.instantiate.new.work c.args.kind.now
    (command.Instantiate c.as_slice.result.now c.in-Instantiate.fact) c.instantiate.result
    (c.in-Instantiate.is ∙ ap (λ is. command.Instantiate is c.in-Instantiate.fact) (sym c.as_slice.ensures))
    c.instantiate.ensures.instantiated

pub returns-in-Instantiate-clause-refused : goal.returns-in-Instantiate-clause-refused
returns-in-Instantiate-clause-refused c =
    refused_as c.args.claim.now.theory c.args.claim.now.statement c.args.work.now c.args.kind.now
    (command.Instantiate c.as_slice.result.now c.in-Instantiate.fact) c.instantiate.result
    (c.in-Instantiate.is ∙ ap (λ is. command.Instantiate is c.in-Instantiate.fact) (sym c.as_slice.ensures))
    c.instantiate.ensures.refused

pub returns-in-CriticalPairs-clause-made : goal.returns-in-CriticalPairs-clause-made
returns-in-CriticalPairs-clause-made c =
    made_as c.args.claim.now.theory c.args.claim.now.statement c.args.work.now c.pair_facts.new.work c.args.kind.now
    (command.CriticalPairs c.in-CriticalPairs.first c.in-CriticalPairs.second) c.pair_facts.result c.in-CriticalPairs.is
    c.pair_facts.ensures.paired

pub returns-in-CriticalPairs-clause-refused : goal.returns-in-CriticalPairs-clause-refused
returns-in-CriticalPairs-clause-refused c =
    refused_as c.args.claim.now.theory c.args.claim.now.statement c.args.work.now c.args.kind.now
    (command.CriticalPairs c.in-CriticalPairs.first c.in-CriticalPairs.second) c.pair_facts.result c.in-CriticalPairs.is
    c.pair_facts.ensures.refused

pub returns-in-Normalize-clause-made : goal.returns-in-Normalize-clause-made
returns-in-Normalize-clause-made c =
    made_as c.args.claim.now.theory c.args.claim.now.statement c.args.work.now c.normalize.new.work c.args.kind.now
    (command.Normalize c.in-Normalize.fact) c.normalize.result c.in-Normalize.is c.normalize.ensures.normalized

pub returns-in-Normalize-clause-refused : goal.returns-in-Normalize-clause-refused
returns-in-Normalize-clause-refused c =
    refused_as c.args.claim.now.theory c.args.claim.now.statement c.args.work.now c.args.kind.now
    (command.Normalize c.in-Normalize.fact) c.normalize.result c.in-Normalize.is c.normalize.ensures.refused

pub resume_by-requires-clause-kind : goal.resume_by-requires-clause-kind
resume_by-requires-clause-kind c =
    elim c.in-Cases.is [
      | inl w ↦ subst ResumesProof (sym w.1) tt
      | inr v ↦ elim v [
        | inl w ↦ subst ResumesProof (sym w) tt
        | inr u ↦ elim u [
          | inl w ↦ subst ResumesProof (sym w) tt
          | inr x ↦ elim x [
            | inl w ↦ subst ResumesProof (sym w) tt
            | inr y ↦ elim y [
              | inl w ↦ subst ResumesProof (sym w.1) tt
              | inr w ↦ subst ResumesProof (sym w) tt
            ]
          ]
        ]
      ]
    ]

pub returns-in-Cases-clause-made : goal.returns-in-Cases-clause-made
returns-in-Cases-clause-made c = c.resume_by.ensures.made

pub returns-in-Cases-clause-refused : goal.returns-in-Cases-clause-refused
returns-in-Cases-clause-refused c = c.resume_by.ensures.refused
