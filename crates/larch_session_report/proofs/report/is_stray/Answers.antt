use Rattle.std.proofs.Common.{ap, not, sym, ◌∙◌, ◌&&◌}
use Rattle.std.specs.Prelude.{is_some}
use Rattle.larch_base.specs.FileName.{stem_of}
use Rattle.larch_session_report.proofs.report.is_stray.Goals as goal
use Rattle.larch_session_replay.specs.TraitsReading.{trait_text}

pub returns-then-is_trait : goal.returns-then-is_trait
returns-then-is_trait c =
    ap (λ b. not b && not (is_some (trait_text c.args.files.now (stem_of c.args.name.now)))) c.if-is_trait.ensures

pub returns : goal.returns
returns c =
    ap not c.in_ok-there.ensures ∙ ap (λ s. not (is_some (trait_text c.args.files.now s))) c.stem.ensures
    ∙ ap (λ b. not b && not (is_some (trait_text c.args.files.now (stem_of c.args.name.now))))
    (sym c.if-is_trait.false ∙ c.is_trait.ensures)
