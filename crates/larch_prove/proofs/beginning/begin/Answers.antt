-- The preamble, and then the opening.
use Rattle.std.specs.Prelude.{map}
use Rattle.std.proofs.Common.{ap, false, refl, sym, ◌∙◌}
use Rattle.std.proofs.lemmas.List.Elements.{All-map}
use Rattle.larch_prove.proofs.Begins.{opened_now, refused_now}
use Rattle.larch_prove.proofs.Prepares.{first_settings, none_refused, nothing_prepared, some_refused}
use Rattle.larch_prove.proofs.beginning.begin.Goals as goal
use Rattle.larch_prove.specs.Prepared.{IsPreparedFor, duty_of}
use Rattle.larch_prove.specs.declared.preparing.Prepared.{Prepared}
use Rattle.larch_prove_meaning.specs.Replays.{all_prepared}
use Rattle.larch_script_commands.specs.Worded.{WordedKind}
use Rattle.larch_script_commands.specs.declared.command.RawCommand.{RawCommand}

pub open-requires-clause-prepared : goal.open-requires-clause-prepared
open-requires-clause-prepared c =
    let first : Prepared = record { settings = c.in_ok-settings.settings; checking = false } in
    let are : IsPreparedFor (duty_of c.args.duty.now) first = first_settings (duty_of c.args.duty.now) first
    c.in_ok-settings.ensures.signature c.in_ok-settings.ensures.sorts c.in_ok-settings.ensures.constants in
    (none_refused (duty_of c.args.duty.now) _ c.in_ok-refused.refused _ c.in-None.is
    (c.in_ok-refused.ensures (duty_of c.args.duty.now) are)).1

pub returns-in-Some : goal.returns-in-Some
returns-in-Some c =
    let first : Prepared = record { settings = c.in_ok-settings.settings; checking = false } in
    let are : IsPreparedFor (duty_of c.args.duty.now) first = first_settings (duty_of c.args.duty.now) first
    c.in_ok-settings.ensures.signature c.in_ok-settings.ensures.sorts c.in_ok-settings.ensures.constants in
    refused_now c.args.duty.now c.args.limit (map (λ (x : RawCommand). x.kind) c.args.preamble.now)
    c.requires.replays (All-map WordedKind (λ (x : RawCommand). x.kind) c.args.preamble.now c.requires.worded)
    c.in-Some.place c.in-Some.code
    (ap (λ p. all_prepared 1 (map (λ (x : RawCommand). x.kind) c.args.preamble.now) p)
    (sym (nothing_prepared (duty_of c.args.duty.now) first c.args.limit c.in_ok-settings.ensures.scope
    c.in_ok-settings.ensures.ranks c.in_ok-settings.ensures.limit refl))
    ∙ some_refused (duty_of c.args.duty.now) _ c.in_ok-refused.refused c.in-Some.place c.in-Some.code _ c.in-Some.is
    (c.in_ok-refused.ensures (duty_of c.args.duty.now) are))

pub returns : goal.returns
returns c =
    let first : Prepared = record { settings = c.in_ok-settings.settings; checking = false } in
    let are : IsPreparedFor (duty_of c.args.duty.now) first = first_settings (duty_of c.args.duty.now) first
    c.in_ok-settings.ensures.signature c.in_ok-settings.ensures.sorts c.in_ok-settings.ensures.constants in
    opened_now c.args.duty.now c.args.limit (map (λ (x : RawCommand). x.kind) c.args.preamble.now)
    c.requires.replays (All-map WordedKind (λ (x : RawCommand). x.kind) c.args.preamble.now c.requires.worded) _
    c.in_ok-stage-in-None.stage
    (ap (λ p. all_prepared 1 (map (λ (x : RawCommand). x.kind) c.args.preamble.now) p)
    (sym (nothing_prepared (duty_of c.args.duty.now) first c.args.limit c.in_ok-settings.ensures.scope
    c.in_ok-settings.ensures.ranks c.in_ok-settings.ensures.limit refl))
    ∙ (none_refused (duty_of c.args.duty.now) _ c.in_ok-refused.refused _ c.in-None.is
    (c.in_ok-refused.ensures (duty_of c.args.duty.now) are)).0)
    c.in_ok-stage-in-None.ensures
