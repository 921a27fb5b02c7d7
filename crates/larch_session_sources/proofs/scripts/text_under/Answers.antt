-- The name that is looked up is the stem with the ending.
use Rattle.std.proofs.Common.{◌≡◌, ap, if◌then◌else◌, sym, ◌∙◌, ◌++◌, None, Err}
use Rattle.larch_base.specs.FileName.{is_file_name}
use Rattle.larch_session_sources.proofs.Among.{clash}
use Rattle.larch_session_sources.proofs.scripts.text_under.Goals as goal
use Rattle.larch_session_law.specs.TraitsFiles.{text_of}

pub returns-then-not-is_stem-clause-text : goal.returns-then-not-is_stem-clause-text
returns-then-not-is_stem-clause-text c =
    ap (λ b. if b then text_of c.args.files.now (c.args.stem.now ++ c.args.ending.now) else None)
    c.if-not-is_stem.ensures

pub returns-in-Ok-clause-text : goal.returns-in-Ok-clause-text
returns-in-Ok-clause-text c =
    let joined : c.append-2.new.self ≡ c.args.stem.now ++ c.args.ending.now =
    c.in_ok-append-2.ensures.ok ∙ ap (λ b. b ++ c.args.ending.now)
    (c.in_ok-append.ensures.ok ∙ ap (λ b. b ++ c.args.stem.now) c.new-bytes.ensures) in
    c.get.ensures.text ∙ ap (text_of c.args.files.now) (c.in-Ok.ensures.ok ∙ c.bytes-3.ensures ∙ joined)
    ∙ ap (λ b. if b then text_of c.args.files.now (c.args.stem.now ++ c.args.ending.now) else None)
    c.if-not-is_stem.ensures

pub unreachable-requires : goal.unreachable-requires
unreachable-requires c =
    let joined : c.append-2.new.self ≡ c.args.stem.now ++ c.args.ending.now =
    c.in_ok-append-2.ensures.ok ∙ ap (λ b. b ++ c.args.ending.now)
    (c.in_ok-append.ensures.ok ∙ ap (λ b. b ++ c.args.stem.now) c.new-bytes.ensures) in
    clash (is_file_name c.bytes-3.result.now)
    (ap is_file_name (c.bytes-3.ensures ∙ joined) ∙ c.requires (sym c.if-not-is_stem.ensures))
    (c.in-Err-NotAName.ensures.other_form (ap Err c.in-Err-NotAName.field-0-is))
