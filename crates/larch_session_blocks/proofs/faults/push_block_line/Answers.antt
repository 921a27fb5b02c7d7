-- A block of no duty, a further one of a duty, and the first one.
use Rattle.std.proofs.Common.{◌≡◌, ap, refl, subst, sym, ◌∙◌, ◌∷◌, ◌++◌, false, map, true}
use Rattle.std.specs.List.{list_any}
use Rattle.larch_session_meaning.specs.ProveMeaningReports.{script_lines}
use Rattle.larch_session_meaning.specs.ProveMeaningScripts.{same_label}
use Rattle.larch_session_blocks.proofs.Seen.{first_next, on_ok, twice_next, unknown_next}
use Rattle.larch_session_blocks.proofs.faults.push_block_line.Goals as goal
use Rattle.larch_session_meaning.specs.Traits.{reported_line}

pub returns-then-not-is_among : goal.returns-then-not-is_among
returns-then-not-is_among c =
    on_ok c.push.result
    (λ put rest. unknown_next c.args.labels.now c.args.seen.now c.args.block.now rest c.args.lines.now c.push.new.self
    (c.args.lines.now ++ map reported_line (script_lines c.args.labels.now c.args.seen.now (c.args.block.now ∷ rest)))
    refl (sym c.if-not-is_among.ensures) put)
    c.push.ensures.ok

pub returns-then-is_among : goal.returns-then-is_among
returns-then-is_among c =
    on_ok c.push-then-is_among.result
    (λ put rest. twice_next c.args.labels.now c.args.seen.now c.args.block.now rest c.args.lines.now
    c.push-then-is_among.new.self
    (c.args.lines.now ++ map reported_line (script_lines c.args.labels.now c.args.seen.now (c.args.block.now ∷ rest)))
    refl (sym c.if-not-is_among.ensures)
    (subst (λ seen. list_any (same_label c.args.block.now.label) seen ≡ true) c.as_slice.ensures
    (sym c.if-is_among.ensures)) put)
    c.push-then-is_among.ensures.ok

pub returns : goal.returns
returns c =
    on_ok c.push-2.result
    (λ put rest. ap (λ seen. c.args.lines.now ++ map reported_line (script_lines c.args.labels.now seen rest)) put
    ∙ first_next c.args.labels.now c.args.seen.now c.args.block.now rest c.args.lines.now c.args.lines.now
    (c.args.lines.now ++ map reported_line (script_lines c.args.labels.now c.args.seen.now (c.args.block.now ∷ rest)))
    refl (sym c.if-not-is_among.ensures)
    (subst (λ seen. list_any (same_label c.args.block.now.label) seen ≡ false) c.as_slice.ensures
    (sym c.if-is_among.ensures)))
    c.push-2.ensures.ok
