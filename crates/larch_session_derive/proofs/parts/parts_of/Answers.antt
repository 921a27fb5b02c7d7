-- Duty by duty.
use Rattle.std.proofs.Common.{refl, subst, [], ◌∷◌, ◌++◌}
use Rattle.std.proofs.lemmas.List.{take_all}
use Rattle.larch_session_derive.proofs.Over.{has_certificate}
use Rattle.larch_session_derive.proofs.Joining.{certificate_there, next_lemma, none_yet, own_pushed}
use Rattle.larch_session_derive.proofs.parts.parts_of.Goals as goal
use Rattle.larch_session_derive.specs.Parts.{AreLemmaParts, IsWithLemma}
use Rattle.larch_session_derive_meaning.specs.SessionMeaningTraits.{script_duty}

pub loop-replayed-init : goal.loop-replayed-init
loop-replayed-init c =
    none_yet c.args.earlier.now c.args.own.now c.requires.replayed c.new-parts.result c.new-parts.ensures

pub loop-replayed-preserved : goal.loop-replayed-preserved
loop-replayed-preserved c =
    next_lemma c.args.earlier.now c.args.own.now c.requires.replayed c.loop-replayed.replayed-index
    c.replayed-item.result c.loop-replayed-test.true c.replayed-item.is c.loop-replayed.parts c.push_if_lemma.new.parts
    c.loop-replayed.invariant
    (subst (λ clause. IsWithLemma clause c.replayed-item.result c.loop-replayed.parts c.push_if_lemma.new.parts)
    c.clause_of-clause.ensures c.in_ok-push_if_lemma.ensures)

pub push_if_lemma-requires : goal.push_if_lemma-requires
push_if_lemma-requires c =
    certificate_there c.args.earlier.now c.args.own.now c.requires.replayed c.loop-replayed.replayed-index
    c.replayed-item.result c.loop-replayed-test.true c.replayed-item.is

pub push_part-requires : goal.push_part-requires
push_part-requires c =
    has_certificate (c.args.earlier.now ++ c.args.own.now ∷ []) c.args.earlier.now [] c.args.own.now
    c.requires.replayed refl c.requires.proved

pub returns-clause-proved : goal.returns-clause-proved
returns-clause-proved c =
    let all = subst (λ rs. AreLemmaParts (script_duty c.args.own.now.claim) rs c.loop-replayed.parts)
    (take_all c.loop-replayed.replayed-index c.args.earlier.now c.loop-replayed-test.false) c.loop-replayed.invariant in
    (own_pushed c.args.earlier.now c.args.own.now c.requires.replayed c.requires.proved c.loop-replayed.parts
    c.push_part.new.parts all c.in_ok-push_part.ensures).0

pub returns-clause-writable : goal.returns-clause-writable
returns-clause-writable c =
    let all = subst (λ rs. AreLemmaParts (script_duty c.args.own.now.claim) rs c.loop-replayed.parts)
    (take_all c.loop-replayed.replayed-index c.args.earlier.now c.loop-replayed-test.false) c.loop-replayed.invariant in
    (own_pushed c.args.earlier.now c.args.own.now c.requires.replayed c.requires.proved c.loop-replayed.parts
    c.push_part.new.parts all c.in_ok-push_part.ensures).1
