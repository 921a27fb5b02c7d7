-- How many things have a property, and lists of such counts by number.
use Rattle.std.specs.List.{fold}
use Rattle.std.specs.Prelude.{List, [], get_or, replicate, set, suc, zero, ℕ, ◌∷◌}
use Rattle.larch_sorts_meaning.specs.Readings.{AreSeveral, IsNone, IsOnly}
use Rattle.larch_sorts_counts.specs.declared.count.Count.{Count}
use Rattle.larch_sorts_counts.specs.declared.count.Count.TheVariants.{Never, Often, Once}
use Rattle.larch_sorts_counts.specs.declared.numbers.Numbered.{Numbered}

-- so many things have the property
abbrev pub IsCount : {A : Type 0} → Count → (A → Type 0) → Type 0
IsCount Never P = IsNone P
IsCount {A} Once P = (x : A) × IsOnly P x
IsCount Often P = AreSeveral P

-- how many have one property or another, where nothing has both
abbrev pub plus : Count → Count → Count
plus Never d = d
plus Once Never = Once
plus Once Once = Often
plus Once Often = Often
plus Often d = Often

-- how many pairs have one property and another
abbrev pub times : Count → Count → Count
times Never d = Never
times Once d = d
times Often Never = Never
times Often Once = Often
times Often Often = Often

-- the count at a number
abbrev pub count_at : List Count → ℕ → Count
count_at counts i = get_or counts i Never

-- how often two have one number in common
abbrev pub together : List Count → List Count → ℕ → Count
together counts further i = times (count_at counts i) (count_at further i)

-- the counts of all numbers below one together
abbrev pub sum_to : (ℕ → Count) → ℕ → Count
sum_to f zero = Never
sum_to f (suc n) = plus (sum_to f n) (f n)

-- how often arguments with these counts have these numbers, one by one
abbrev pub product : List (List Count) → List ℕ → Count
product [] [] = Once
product [] (i ∷ is) = Never
product (counts ∷ further) [] = Never
product (counts ∷ further) (i ∷ is) = times (count_at counts i) (product further is)

-- counts together with what an operator makes of arguments with these counts
abbrev pub with_count : List (List Count) → List Count → Numbered → List Count
with_count arguments counts g =
    set counts g.range (plus (count_at counts g.range) (product arguments g.domain))

-- no counts, of so many sorts and of what is none of them
abbrev pub blank : ℕ → List Count
blank count = replicate (suc count) Never

-- the counts, of so many sorts, of what operators make of arguments with these counts
abbrev pub counts_made : ℕ → List (List Count) → List Numbered → List Count
counts_made count arguments gs = fold (with_count arguments) (blank count) gs

-- no counts of so many sorts but that of one number
abbrev pub alone : ℕ → ℕ → Count → List Count
alone count n c = set (blank count) n c
