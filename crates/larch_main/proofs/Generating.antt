-- Generated files are put in, one after the other.
use Rattle.std.proofs.Common.{◌≡◌, ◌≤◌, sym, ap, subst, ◌∙◌, List, [], ◌∷◌, All, fold, length}
use Rattle.std.proofs.lemmas.List.Elements.{All-head, All-tail}
use Rattle.larch_base.specs.declared.limits.TheConstants.{MAX_FILE_BYTES}
use Rattle.larch_generate.specs.Generator.{generated_files}
use Rattle.larch_generate.specs.declared.file.GeneratedFile.{GeneratedFile}
use Rattle.larch_main_status.specs.TraitsFiles.{Table}
use Rattle.larch_words.specs.declared.call.Generation.{Generation}
use Rattle.larch_main.specs.Generate.{generated_table, with_generated}

-- the file isn't too long
abbrev pub IsShort : GeneratedFile → Type 0
IsShort file = length file.text ≤ MAX_FILE_BYTES

-- These files are put in, and with the rest behind them come to all.
pub record Puts (traits : Generation) (files : Table) (rest : List GeneratedFile) : Type 0 where
  pub onward : fold with_generated files rest ≡ generated_table traits
  pub short : All IsShort rest

module _ (traits : Generation) where
  -- none is put in yet
  pub puts_none : (files : Table) (rest all : List GeneratedFile) → files ≡ [] → rest ≡ all
      → all ≡ generated_files traits.seed traits.size → All IsShort all → Puts traits files rest
  puts_none files rest all none same is short = record {
    onward = ap (λ fs. fold with_generated fs rest) none ∙ ap (fold with_generated []) (same ∙ is);
    short = subst (All IsShort) (sym same) short;
  }

  module _ (files : Table) (left rest : List GeneratedFile) (file : GeneratedFile) (next : left ≡ file ∷ rest)
      (puts : Puts traits files left) where
    pub next_short : IsShort file
    next_short = All-head IsShort file rest (subst (All IsShort) next puts.short)

    -- one more is
    pub puts_one : (more : Table) → more ≡ with_generated files file → Puts traits more rest
    puts_one more is = record {
      onward =
          ap (λ fs. fold with_generated fs rest) is ∙ ap (fold with_generated files) (sym next) ∙ puts.onward;
      short = All-tail IsShort file rest (subst (All IsShort) next puts.short);
    }

  -- all are
  pub puts_all : (files : Table) (rest : List GeneratedFile) → length rest ≡ 0 → Puts traits files rest
      → files ≡ generated_table traits
  puts_all files [] none puts = puts.onward
  puts_all files (file ∷ rest) none puts = cc
