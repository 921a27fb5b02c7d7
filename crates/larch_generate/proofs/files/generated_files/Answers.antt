-- Trait by trait.
use Rattle.std.proofs.Common.{All, ap, length, subst, sym, ◌∷◌, ◌++◌, ◌∙◌, ◌≡◌, ◌≤◌, ◌+◌, ◌-◌, []}
use Rattle.std.proofs.lemmas.List.Elements.{All-append}
use Rattle.larch_base.specs.declared.limits.TheConstants.{MAX_FILE_BYTES}
use Rattle.larch_generate.specs.Generator.{files_from, generated_files, height_of, next_number, script_file}
use Rattle.larch_generate.specs.Generator.{trait_file}
use Rattle.larch_generate.specs.declared.file.GeneratedFile.{GeneratedFile}
use Rattle.larch_generate.proofs.Going.{count_more, files_more}
use Rattle.larch_generate.proofs.files.generated_files.Goals as goal

pub loop-place-preserved : goal.loop-place-preserved
loop-place-preserved c =
    let i = c.loop-place.invariant in
    let place = c.loop-place.place in
    let x = c.loop-place.number in
    let next = next_number x in
    let two = trait_file place (height_of next) ∷ script_file place ∷ [] in
    let same = c.height_of.ensures.height ∙ ap height_of c.next_number-number.ensures in
    let put = c.in_ok-push_files.ensures.files
    ∙ ap (λ h. c.loop-place.files ++ trait_file place h ∷ script_file place ∷ []) same in
    let short = subst (λ h. All (λ (file : GeneratedFile). length file.text ≤ MAX_FILE_BYTES)
    (trait_file place h ∷ script_file place ∷ [])) same c.in_ok-push_files.ensures.short in (
      subst (λ n. c.push_files.new.files
          ++ files_from (place + 1) (c.args.size - (place + 1)) n ≡ generated_files c.args.seed c.args.size)
          (sym c.next_number-number.ensures)
          (files_more place c.args.size x c.loop-place.files c.push_files.new.files _ c.loop-place-test.true put i.0),
      (
        count_more c.loop-place.files c.push_files.new.files (trait_file place (height_of next)) (script_file place)
            place put i.1.0,
        subst (All (λ (file : GeneratedFile). length file.text ≤ MAX_FILE_BYTES)) (sym put)
            (All-append (λ (file : GeneratedFile). length file.text ≤ MAX_FILE_BYTES) c.loop-place.files two i.1.1
            short),
      ),
    )
