use Rattle.std.proofs.Common.{◌≡◌, drop, take}
use Rattle.larch_main_files.specs.Look.{Gathers}
use Rattle.larch_main_files.proofs.Turns.{Searched}
use Rattle.larch_main_files.proofs.gather.gather.Given as goal

-- the files of the names so far
abbrev pub invariant-loop-name : goal.invariant-loop-name
invariant-loop-name g l = record {
  gathers : Gathers (g.F.Folder.files l.initial.folder) l.names (drop l.name-index l.names) l.files;
  same : g.F.Folder.files l.folder ≡ g.F.Folder.files l.initial.folder;
  fine : g.F.Folder.faults l.folder ≡ g.F.Folder.faults l.initial.folder;
  searched :
      Searched (g.F.Folder.files l.initial.folder) (g.F.Folder.looks l.initial.folder) (g.F.Folder.looks l.folder)
      (take l.name-index l.names) l.files;
}
