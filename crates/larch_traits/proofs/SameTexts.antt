-- Files that have the same texts of all that decides a trait have the same trait and the same duties.
use Rattle.std.proofs.Common.{◌≡◌, sym, ap, ◌∙◌, ◌≤◌, arith, ℕ, length, List}
use Rattle.std.specs.Option.{option_map}
use Rattle.larch_duties_meaning.specs.FlatMeaningReached.{AgreeOn}
use Rattle.larch_duties_meaning.proofs.FlatMeaningReached.{reached_same}
use Rattle.larch_duties_meaning.proofs.Reached.{duties_elsewhere}
use Rattle.larch_flat.specs.FlatSourcesSources.{Table as Sources, files_in, names_in}
use Rattle.larch_flat.proofs.FlatSourcesTables.{among, names_length}
use Rattle.larch_flat.proofs.Elsewhere.{flat_elsewhere}
use Rattle.larch_traits.specs.Files.{Table}
use Rattle.larch_traits.specs.Reading.{AreDeciding, HaveSame, duties_of, flat_of, read_files, read_text}
use Rattle.larch_traits.proofs.EachFile.{read_by_itself}

as_many : (read : Sources) → length (names_in read) ≤ length read
as_many read = let e = names_length read in omega (arith, e)

module _ (files others : Table) (stem : List ℕ) (stems : List (List ℕ)) (deciding : AreDeciding files stem stems)
    (same : HaveSame stems files others) where
  agree : AgreeOn stems (files_in (read_files files)) (files_in (read_files others))
  agree m c =
      read_by_itself files m ∙ ap (option_map read_text) (same m c) ∙ sym (read_by_itself others m)

  pub same_deciding : AreDeciding others stem stems
  same_deciding = reached_same (files_in (read_files files)) (files_in (read_files others)) stem stems deciding agree

  pub same_flat : flat_of files stem ≡ flat_of others stem
  same_flat = flat_elsewhere (read_files files) (read_files others) stem stems deciding agree

  pub same_duties : duties_of files stem ≡ duties_of others stem
  same_duties =
      duties_elsewhere (files_in (read_files files)) (files_in (read_files others)) (names_in (read_files files))
      (names_in (read_files others)) (among (read_files files)) (among (read_files others)) stem stems deciding agree
      (length (read_files files)) (length (read_files others)) (as_many (read_files files))
      (as_many (read_files others))
