-- A record that begins alike, and one that begins otherwise.
use Rattle.std.proofs.Common.{IsTrue, Some, ap, map, rules, subst, sym, ◌≡◌, ◌∙◌}
use Rattle.std.specs.Prelude.{find}
use Rattle.larch_script_commands.specs.Bare.{bare}
use Rattle.larch_session_kept.proofs.Helps.{help_is, other_kept}
use Rattle.larch_session_kept.proofs.alike.find_help.Goals as goal
use Rattle.larch_session_kept.specs.Kept.{is_for, records_in, replayed_of}
use Rattle.larch_session_trail.specs.ProveOpeningStating.{duties_of}

pub returns-clause-some : goal.returns-clause-some
returns-clause-some c =
    let same : IsTrue c.begins_alike.result = search rules in
    let h = c.begins_alike.ensures.0 same in
    help_is c.args.replaying.now.before.now c.in-Some.kept.now c.args.replaying.now.stem.now
    c.args.replaying.now.script.now.value c.args.claim.now (duties_of c.args.lemmas.now) c.in-Some.ensures.kept
    (subst (λ label. find (is_for c.args.replaying.now.stem.now label) (records_in c.args.replaying.now.before.now)
    ≡ Some (replayed_of c.in-Some.kept.now)) (ap (λ x. x.label) c.claim.view_is) (sym c.in-Some.ensures.found))
    (h.0, (h.1.0, (h.1.1.0, h.1.1.1 ∙ ap (λ s. map bare s.preamble) c.deref.ensures)))

pub returns-then-not-begins_alike-clause-none : goal.returns-then-not-begins_alike-clause-none
returns-then-not-begins_alike-clause-none c =
    other_kept c.args.replaying.now.before.now c.in-Some.kept.now c.args.replaying.now.stem.now
    c.args.replaying.now.script.now.value c.args.claim.now (duties_of c.args.lemmas.now)
    (subst (λ label. find (is_for c.args.replaying.now.stem.now label) (records_in c.args.replaying.now.before.now)
    ≡ Some (replayed_of c.in-Some.kept.now)) (ap (λ x. x.label) c.claim.view_is) (sym c.in-Some.ensures.found))
    (λ h. let same : IsTrue c.begins_alike.result = c.begins_alike.ensures.1 (
      h.0,
      (
        h.1.0,
        (
          h.1.1.0,
          h.1.1.1 ∙ sym (ap (λ s. map bare s.preamble) c.deref.ensures),
        ),
      ),
    ) in search rules)
