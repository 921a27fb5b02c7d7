-- Names that are words.
use Rattle.std.specs.Prelude.{◌≡◌, ℕ, true, List}
use Rattle.larch_base.specs.Word.{is_word}

-- the bytes are a word
abbrev pub IsWord : List ℕ → Type 0
IsWord n = is_word n ≡ true
