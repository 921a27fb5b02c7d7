-- A trait that is right, and one that is wrong.
use Rattle.std.proofs.Common.{◌≡◌, Err, IfSome, Ok, ap, ap₂, arith, subst, sym, ◌∙◌}
use Rattle.larch_session_derive_meaning.specs.DutiesTraitDuties.{trait_claims}
use Rattle.larch_session_derive_meaning.specs.FlatKnown.{stop_told}
use Rattle.larch_session_derive_meaning.specs.FlatMeaningStops.{Stop, Refused}
use Rattle.larch_session_derive_meaning.specs.FlatSourcesSources.{name_at}
use Rattle.larch_session_derive.proofs.Derived.{if_ok_so, none_wrong, of_claims}
use Rattle.larch_session_replay.proofs.SessionSourcesTold.{claimed_steps}
use Rattle.larch_session_derive.proofs.by_files.derive_at.Goals as goal
use Rattle.larch_session_derive_meaning.proofs.Order.{in_order}
use Rattle.larch_session_derive_meaning.specs.Derived.{IsDerivedOf, answer_with, answers_by}
use Rattle.larch_session_derive_meaning.proofs.SessionLawClaimed.{are_claims}
use Rattle.larch_session_derive_meaning.specs.SessionMeaningFiles.{script_among}
use Rattle.larch_sorts_meaning.specs.Faults.{fault}

pub derive_claimed-requires-clause-claims : goal.derive_claimed-requires-clause-claims
derive_claimed-requires-clause-claims g c =
    are_claims c.args.looked.now.files.now (name_at c.args.looked.now.sources.now c.args.number) c.in-Ok.claims
    (sym (ap (λ s. trait_claims s (name_at c.args.looked.now.sources.now c.args.number)) c.requires.read.read)
    ∙ c.in-Ok.ensures)

pub derive_claimed-requires-clause-order : goal.derive_claimed-requires-clause-order
derive_claimed-requires-clause-order g c =
    in_order c.args.looked.now.sources.now (name_at c.args.looked.now.sources.now c.args.number) c.in-Ok.claims
    c.in-Ok.ensures

pub returns-in-Ok-clause-derived : goal.returns-in-Ok-clause-derived
returns-in-Ok-clause-derived g c =
    let limit = c.args.looked.now.limit in
    let files = c.args.looked.now.files.now in
    let name = name_at c.args.looked.now.sources.now c.args.number in
    if_ok_so c.derive_claimed.result
    (λ answer h. of_claims limit files name c.args.label c.args.looked.now.sources.now c.in-Ok.claims answer.0
    c.requires.read.read c.in-Ok.ensures
    (subst (λ n. IsDerivedOf (answer_with c.args.label (answers_by limit (script_among files n) (Ok c.in-Ok.claims)))
    answer.0) c.name-stem.ensures h))
    c.derive_claimed.ensures.derived

pub returns-in-Ok-clause-most : goal.returns-in-Ok-clause-most
returns-in-Ok-clause-most g c =
    let most = c.derive_claimed.ensures.most in
    let same = claimed_steps c.args.looked.now.limit c.args.looked.now.files.now c.args.looked.now.sources.now
    (name_at c.args.looked.now.sources.now c.args.number) c.name-stem.result.now c.in-Ok.claims c.name-stem.ensures
    c.in-Ok.ensures in
    omega (arith, most, same)

pub returns-in-Err-Wrong-clause-derived : goal.returns-in-Err-Wrong-clause-derived
returns-in-Err-Wrong-clause-derived g c =
    let name = name_at c.args.looked.now.sources.now c.args.number in
    let stop : trait_claims c.args.looked.now.sources.now name
    ≡ Err (Refused (fault c.in-Err-Wrong.field-0-1 c.in-Err-Wrong.field-0-0)) =
    subst (λ r. IfSome (stop_told r) (λ (s : Stop). trait_claims c.args.looked.now.sources.now name ≡ Err s))
    c.in-Err-Wrong.field-0-is c.in-Err-Wrong.ensures in
    none_wrong c.args.looked.now.limit c.args.looked.now.files.now name c.args.label c.args.looked.now.sources.now
    (Refused (fault c.in-Err-Wrong.field-0-1 c.in-Err-Wrong.field-0-0)) c.requires.read.read stop
