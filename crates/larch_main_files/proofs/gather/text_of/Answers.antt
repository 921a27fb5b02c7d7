use Rattle.std.proofs.Common.{subst, sym}
use Rattle.std.specs.Str.{IsUtf8}
use Rattle.larch_main_files.proofs.NameTexts.{name_is_text}
use Rattle.larch_main_files.proofs.gather.text_of.Goals as goal

pub unreachable-requires : goal.unreachable-requires
unreachable-requires c =
    c.in-Err.ensures.cases.0 (subst IsUtf8 (sym c.bytes.ensures) (name_is_text c.args.name.now c.requires))
