-- Words, of which names of operators, sorts, variables and traits are made.
use Rattle.std.specs.Prelude.{ℕ, ◌==◌, ◌&&◌, ◌||◌, Bool, true, false, List, [], ◌∷◌}
use Rattle.std.specs.Char.{is_ascii_alphanumeric}

-- the list begins with a letter or digit
abbrev pub begins_alphanumeric : List ℕ → Bool
begins_alphanumeric [] = false
begins_alphanumeric (byte ∷ bytes) = is_ascii_alphanumeric byte

-- what may follow inside a word: letters, digits, ', and _ before a letter or digit
abbrev pub goes_on : List ℕ → Bool
goes_on [] = true
goes_on (byte ∷ bytes) =
    (is_ascii_alphanumeric byte || (byte == 39) || ((byte == 95) && begins_alphanumeric bytes)) && goes_on bytes

-- a letter or digit, and what may follow it
abbrev pub is_word : List ℕ → Bool
is_word [] = false
is_word (byte ∷ bytes) = is_ascii_alphanumeric byte && goes_on bytes
