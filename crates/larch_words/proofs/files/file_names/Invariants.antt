use Rattle.std.proofs.Common.{◌≡◌, map, take, true}
use Rattle.std.specs.List.{list_all}
use Rattle.larch_base.specs.FileName.{is_file_name}
use Rattle.larch_words.proofs.files.file_names.Given as goal

abbrev pub invariant-loop-word : goal.invariant-loop-word
invariant-loop-word l = record {
  names : l.names ≡ map (λ word. word.now) (take l.word-index l.words);
  form : list_all is_file_name (map (λ word. word.now) (take l.word-index l.words)) ≡ true;
}
