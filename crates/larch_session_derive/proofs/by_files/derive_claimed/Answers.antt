-- The duties up to the first with the label, by the script among the files.
use Rattle.std.proofs.Common.{◌≡◌, ◌∷◌, ◌++◌, ◌∙◌, [], None, Ok, ap, arith, map, refl, subst, sym}
use Rattle.std.proofs.lemmas.List.{length-append}
use Rattle.larch_session_derive_meaning.specs.DutiesMeaningClaims.{Claim, place_of}
use Rattle.larch_prove_meaning.specs.Reports.{all_answered}
use Rattle.larch_script_commands.specs.Worded.{WordedScript}
use Rattle.larch_session_replay.proofs.SessionSourcesAmong.{among_worded}
use Rattle.larch_session_derive.proofs.Derived.{if_ok_so, of_answer}
use Rattle.larch_session_derive.proofs.Fronts.{answered_at, claim_has, front_claims}
use Rattle.larch_session_derive.proofs.Fronts.{front_order, front_steps, none_answered}
use Rattle.larch_session_derive.proofs.Fronts.{none_at, some_front}
use Rattle.larch_session_derive.proofs.by_files.derive_claimed.Goals as goal
use Rattle.larch_session_derive_meaning.specs.Derived.{IsDerivedOf, answer_with, answers_by}
use Rattle.larch_session_derive_meaning.specs.Ordered.{AreInOrder}
use Rattle.larch_session_derive_meaning.specs.SessionLawClaims.{AreClaims}
use Rattle.larch_session_derive_meaning.specs.SessionMeaningFiles.{script_among}
use Rattle.larch_session_derive_meaning.specs.SessionMeaningTraits.{script_duty}
use Rattle.larch_session_replay.specs.SessionSourcesSteps.{script_steps}

pub front-requires : goal.front-requires
front-requires g c =
    (answered_at c.args.looked.now.limit c.in_ok-script.script c.args.label c.args.claims c.in-Some.place
    (ap (place_of c.args.label) (sym c.as_slice.ensures) ∙ sym c.place_of.ensures ∙ c.in-Some.is)).within

pub derive_last-requires-clause-claims : goal.derive_last-requires-clause-claims
derive_last-requires-clause-claims g c =
    let a = answered_at c.args.looked.now.limit c.in_ok-script.script c.args.label c.args.claims c.in-Some.place
    (ap (place_of c.args.label) (sym c.as_slice.ensures) ∙ sym c.place_of.ensures ∙ c.in-Some.is) in
    subst (λ cs. AreClaims (map script_duty cs)) (sym (c.front.ensures ∙ a.taken))
    (front_claims c.args.claims (a.front ++ a.claim ∷ []) a.back a.is c.requires.claims)

pub derive_last-requires-clause-order : goal.derive_last-requires-clause-order
derive_last-requires-clause-order g c =
    let a = answered_at c.args.looked.now.limit c.in_ok-script.script c.args.label c.args.claims c.in-Some.place
    (ap (place_of c.args.label) (sym c.as_slice.ensures) ∙ sym c.place_of.ensures ∙ c.in-Some.is) in
    subst (λ cs. AreInOrder (map script_duty cs)) (sym (c.front.ensures ∙ a.taken))
    (front_order c.args.claims (a.front ++ a.claim ∷ []) a.back a.is c.requires.order)

pub derive_last-requires-clause-worded : goal.derive_last-requires-clause-worded
derive_last-requires-clause-worded g c =
    subst WordedScript (sym c.in_ok-script.ensures) (among_worded c.args.looked.now.files.now c.bytes.result.now)

pub derive_last-requires-clause-some : goal.derive_last-requires-clause-some
derive_last-requires-clause-some g c =
    let a = answered_at c.args.looked.now.limit c.in_ok-script.script c.args.label c.args.claims c.in-Some.place
    (ap (place_of c.args.label) (sym c.as_slice.ensures) ∙ sym c.place_of.ensures ∙ c.in-Some.is) in
    some_front a.front a.claim c.front.result (c.front.ensures ∙ a.taken)

pub returns-in-Some-clause-derived : goal.returns-in-Some-clause-derived
returns-in-Some-clause-derived g c =
    let limit = c.args.looked.now.limit in
    let script = c.in_ok-script.script in
    let same = c.in_ok-script.ensures ∙ ap (script_among c.args.looked.now.files.now) c.bytes.ensures in
    let a = answered_at limit script c.args.label c.args.claims c.in-Some.place
    (ap (place_of c.args.label) (sym c.as_slice.ensures) ∙ sym c.place_of.ensures ∙ c.in-Some.is) in
    let answers = all_answered limit script [] 1 (map script_duty c.args.claims) in
    let is = ap (λ cs. all_answered limit script [] 1 (map script_duty cs)) (c.front.ensures ∙ a.taken) ∙ a.answered in
    if_ok_so c.derive_last.result
    (λ answer h. subst (λ s. IsDerivedOf (answer_with c.args.label (answers_by limit s (Ok c.args.claims))) answer.0)
    same (of_answer c.args.label answers a.answer answer.0 a.found (h a.before a.answer is)))
    c.derive_last.ensures.derived

pub returns-in-Some-clause-most : goal.returns-in-Some-clause-most
returns-in-Some-clause-most g c =
    let script = c.in_ok-script.script in
    let a = answered_at c.args.looked.now.limit script c.args.label c.args.claims c.in-Some.place
    (ap (place_of c.args.label) (sym c.as_slice.ensures) ∙ sym c.place_of.ensures ∙ c.in-Some.is) in
    let most = c.derive_last.ensures.most in
    let few = front_steps c.args.claims (a.front ++ a.claim ∷ []) a.back a.is script in
    let front = ap (λ cs. script_steps script (map script_duty cs)) (c.front.ensures ∙ a.taken) in
    let same = ap (λ s. script_steps s (map script_duty c.args.claims))
    (c.in_ok-script.ensures ∙ ap (script_among c.args.looked.now.files.now) c.bytes.ensures) in
    omega (arith, most, few, front, same)

pub returns-in-None-clause-derived : goal.returns-in-None-clause-derived
returns-in-None-clause-derived g c =
    let limit = c.args.looked.now.limit in
    let same = c.in_ok-script.ensures ∙ ap (script_among c.args.looked.now.files.now) c.bytes.ensures in
    let none = none_answered limit c.in_ok-script.script c.args.label c.args.claims
    (none_at (claim_has c.args.label) c.args.claims
    (ap (place_of c.args.label) (sym c.as_slice.ensures) ∙ sym c.place_of.ensures ∙ c.in-None.is)) in
    subst (λ s. IsDerivedOf (answer_with c.args.label (answers_by limit s (Ok c.args.claims))) None) same
    (subst (λ o. IsDerivedOf o None) (sym none) refl)
