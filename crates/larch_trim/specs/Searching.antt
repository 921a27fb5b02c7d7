-- The search for needed lines: lines with marks, and those of them whose needs are still to be looked at.
use Rattle.std.specs.Prelude.{if◌then◌else◌, ◌≡◌, ℕ, ◌-◌, ◌<◌, ◌≤◌, ◌⊎◌, not, Bool, true, false, List, [], ◌∷◌}
use Rattle.std.specs.Prelude.{◌++◌, length, set, get_or, Contains}
use Rattle.std.specs.Option.{option_map_or}
use Rattle.larch_base.specs.ByNumber.{numbered}
use Rattle.larch_certificate.specs.declared.line.Line.{Line}
use Rattle.larch_trim_meaning.specs.Needed.{names}
use Rattle.larch_trim_meaning.specs.Reached.{Reached, is_marked}
use Rattle.larch_trim.specs.Ends.{end_lines}

-- whether there is a line with a number that has no mark
abbrev pub is_free : List Bool → ℕ → Bool
is_free marks n = option_map_or not (numbered marks n) false

-- the marks and what waits, with a number that is wanted
abbrev pub marks_with : ℕ → List Bool → List Bool
marks_with n marks = if is_free marks n then set marks (n - 1) true else marks

abbrev pub waiting_with : ℕ → List Bool → List ℕ → List ℕ
waiting_with n marks waiting = if is_free marks n then n ∷ waiting else waiting

-- with several, in order
abbrev pub marks_after : List ℕ → List Bool → List Bool
marks_after [] marks = marks
marks_after (n ∷ ns) marks = marks_after ns (marks_with n marks)

abbrev pub waiting_after : List ℕ → List Bool → List ℕ → List ℕ
waiting_after [] marks waiting = waiting
waiting_after (n ∷ ns) marks waiting = waiting_after ns (marks_with n marks) (waiting_with n marks waiting)

-- what the line with a number needs, by the table of ends
abbrev pub needs_by : List Line → List ℕ → ℕ → List ℕ
needs_by lines ends n = option_map_or names (numbered lines n) [] ++ end_lines (get_or ends n 0)

-- how far the search has come: only what is reached has a mark; what waits has one; and what one with a mark wants has
-- one, or it waits itself
pub record Searching (wants : ℕ → List ℕ) (last : ℕ) (marks : List Bool) (waiting : List ℕ) : Type 0 where
  pub long : length marks ≡ last
  pub sound : (n : ℕ) → is_marked marks n ≡ true → Reached wants last n
  pub waits : (n : ℕ) → Contains waiting n → is_marked marks n ≡ true
  pub closed : (m : ℕ) → is_marked marks m ≡ true
      → Contains waiting m
      ⊎ ((n : ℕ) → Contains (wants m) n → 0 < n → n ≤ last → is_marked marks n ≡ true)
  pub begun : 0 < last → is_marked marks last ≡ true
