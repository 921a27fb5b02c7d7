-- Where boxes end, as a table by their numbers.
use Rattle.std.specs.Prelude.{if◌then◌else◌, ◌≡◌, ℕ, ◌==◌, ◌-◌, ◌<◌, ◌≤◌, List, [], ◌∷◌, length, get_or, set}
use Rattle.larch_certificate.specs.declared.line.Line.{Line}
use Rattle.larch_certificate.specs.declared.line.Line.TheVariants.{Done}
use Rattle.larch_trim_meaning.specs.Needed.{end_from}

-- the table behind the line with a number, where these boxes are open in front of it: a done line is the end of the
-- innermost one
abbrev pub with_end : ℕ → List ℕ → List ℕ → List ℕ
with_end n [] ends = ends
with_end n (b ∷ bs) ends = set ends b n

abbrev pub ends_behind : ℕ → List ℕ → Line → List ℕ → List ℕ
ends_behind n bs Done ends = with_end n bs ends
ends_behind n bs line ends = ends

-- what is needed with a box that ends at the line with a number; 0 stands for no line
abbrev pub end_lines : ℕ → List ℕ
end_lines d = if d == 0 then [] else d ∷ (d - 1) ∷ []

-- the table has the end of each box
abbrev pub AreEnds : List Line → List ℕ → Type 0
AreEnds lines ends = (b : ℕ) → 0 < b → b ≤ length lines → end_lines (get_or ends b 0) ≡ end_from 1 [] lines b
