-- What was found of things with a property.
use Rattle.std.specs.Prelude.{None, Option, Some, Bool, if◌then◌else◌}
use Rattle.larch_sorts_meaning.specs.Readings.{AreSeveral, IsNone, IsOnly}
use Rattle.larch_sorts_meaning.specs.declared.found.Found.{Found}
use Rattle.larch_sorts_meaning.specs.declared.found.Found.TheVariants.{One, Several}

-- what was found are exactly the things with a property: none, the only one, or several
abbrev pub Tells : {A : Type 0} → Option (Found A) → (A → Type 0) → Type 0
Tells None P = IsNone P
Tells (Some (One x)) P = IsOnly P x
Tells (Some Several) P = AreSeveral P

-- what was found before together with what was found now, where things are compared so
abbrev pub merged_by : {A : Type 0} → (A → A → Bool) → Option (Found A) → Found A → Found A
merged_by same None now = now
merged_by same (Some Several) now = Several
merged_by same (Some (One t)) Several = Several
merged_by same (Some (One t)) (One u) = if same t u then One u else Several

-- what was found before together with what was found now, if anything
abbrev pub with_found : {A : Type 0} → (A → A → Bool) → Option (Found A) → Option (Found A) → Option (Found A)
with_found same before None = before
with_found same before (Some now) = Some (merged_by same before now)
