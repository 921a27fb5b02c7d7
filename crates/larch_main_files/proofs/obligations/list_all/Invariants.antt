use Rattle.std.proofs.Common.{◌≡◌, ◌++◌, drop, flat_map}
use Rattle.larch_session_meaning.specs.DutiesTraitDuties.{trait_duties}
use Rattle.larch_main_files.specs.Obligations.{listed_at, listings_of}
use Rattle.larch_main_files.specs.Report.{source_lines, trait_lines}
use Rattle.larch_main_files.proofs.obligations.list_all.Given as goal

-- the lines and listings so far, and those of the files that are left, are all
abbrev pub invariant-loop-number : goal.invariant-loop-number
invariant-loop-number l = record {
  lines :
      l.lines ++ flat_map (λ source. trait_lines source.0 (trait_duties l.sources source.0)) (drop l.number l.sources)
      ≡ source_lines l.sources;
  text :
      l.text ++ flat_map (λ source. listed_at l.sources source.0) (drop l.number l.sources)
      ≡ l.initial.text ++ listings_of l.sources;
}
