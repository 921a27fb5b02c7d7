-- Labels of obligations.
use Rattle.std.specs.Prelude.{ℕ, ◌&&◌, nat_le, nat_lt, if◌then◌else◌, List, ◌++◌, length, take, drop, codes, decimal}
use Rattle.std.specs.Prelude.{Option, Some, None, option_and_then, option_map}
use Rattle.std.specs.Str.{bytes_eq}
use Rattle.larch_base.specs.Number.{read_number}
use Rattle.larch_base.specs.declared.label.Label.{Label}
use Rattle.larch_base.specs.declared.label.Label.TheVariants.{Assume, Imply, Convert}

-- a label as reports write it
abbrev pub label_text : Label → List ℕ
label_text (Assume number) = codes "assume." ++ decimal number
label_text (Imply number) = codes "imply." ++ decimal number
label_text (Convert number) = codes "convert." ++ decimal number

-- the number of a label: from 1, of at most six digits
abbrev pub label_number : List ℕ → Option ℕ
label_number digits =
    option_and_then (λ number. if nat_lt 0 number then Some number else None) (read_number 999999 digits)

-- what stands behind a beginning, where the word has it
abbrev pub behind : List ℕ → List ℕ → Option (List ℕ)
behind beginning word =
    if nat_le (length beginning) (length word) && bytes_eq (take (length beginning) word) beginning
    then Some (drop (length beginning) word) else None

-- the label that a word is, where it is the beginning of a kind and a number
abbrev pub label_behind : List ℕ → (ℕ → Label) → List ℕ → Option Label
label_behind beginning kind word = option_map kind (option_and_then label_number (behind beginning word))

-- the first of two labels, or the second
abbrev pub or_label : Option Label → Option Label → Option Label
or_label None other = other
or_label (Some label) other = Some label

-- the label that a word is
abbrev pub read_label : List ℕ → Option Label
read_label word =
    or_label (label_behind (codes "assume.") Assume word)
    (or_label (label_behind (codes "imply.") Imply word) (label_behind (codes "convert.") Convert word))
