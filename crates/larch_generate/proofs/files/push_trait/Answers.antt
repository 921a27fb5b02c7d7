-- The name has a stem and an ending.
use Rattle.std.proofs.Common.{◌≡◌, subst, sym, true, ◌∙◌}
use Rattle.larch_base.specs.FileName.{is_file_name}
use Rattle.larch_generate.proofs.Named.{stem_is, trait_named}
use Rattle.larch_generate.specs.Generator.{trait_stem}
use Rattle.larch_generate.proofs.files.push_trait.Goals as goal

pub push_file-requires : goal.push_file-requires
push_file-requires c =
    subst (λ name. is_file_name name ≡ true) (sym (c.as_bytes.ensures.value ∙ c.in_ok-name.ensures.ok))
    (trait_named (trait_stem c.args.place) (stem_is c.args.place c.ranges.place.fits))
