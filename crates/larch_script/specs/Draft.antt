-- Scripts of which the first lines are read.
use Rattle.std.specs.Prelude.{List, [], ◌∷◌, ◌++◌, Option, Some, None}
use Rattle.larch_script_commands.specs.declared.command.RawCommand.{RawCommand}
use Rattle.larch_script_commands.specs.declared.script.Block.{Block}
use Rattle.larch_script_commands.specs.declared.script.Script.{Script}
use Rattle.larch_script.specs.Scripts.{block}
use Rattle.larch_script.specs.declared.draft.Draft.{Draft}

-- a script behind what was read before it, of which the last block is open
abbrev pub behind : List RawCommand → List Block → Option Block → Script → Script
behind preamble blocks None rest = record { preamble = preamble ++ rest.preamble; blocks = blocks ++ rest.blocks }
behind preamble blocks (Some last) rest =
    record {
      preamble = preamble;
      blocks = blocks ++ (block last.line last.label (last.commands ++ rest.preamble) ∷ rest.blocks);
    }

-- the whole script, where the rest of its lines are this one
abbrev pub whole : Draft → Script → Script
whole draft rest = behind draft.preamble draft.blocks draft.begun rest

-- the blocks, the open one among them
abbrev pub all_blocks : List Block → Option Block → List Block
all_blocks blocks None = blocks
all_blocks blocks (Some last) = blocks ++ (last ∷ [])
