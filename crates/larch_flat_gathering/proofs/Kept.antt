-- What keeps what is gathered.
use Rattle.std.proofs.Common.{◌≡◌, Bool, true, false, ◌||◌, List, refl, sym, ◌∙◌, ap, subst}
use Rattle.std.specs.Prelude.{fold}
use Rattle.larch_term.specs.Operator.{PlainOperator}
use Rattle.larch_term.specs.declared.statement.Statement.{Statement}
use Rattle.larch_flat_statements.specs.FlatMeaningGathered.{Gathered, is_too_large, with_asserted}
use Rattle.larch_flat_statements.specs.FlatMeaningGathered.{with_operator, with_operators}
use Rattle.larch_flat_gathering.specs.Keeping.{Keeps, KeepsUnless, Gathering}
use Rattle.larch_flat_gathering.specs.Storing.{storing, storing_operators, with_limits}
use Rattle.larch_flat_gathering.proofs.Growing.{Grew, asserted_same, grew_asserted, grew_operators, grew_taken}
use Rattle.larch_flat_gathering.proofs.Growing.{large_grows, taken, taken_same}

-- a store that keeps what is gathered tells whether it is too large
told_by : (full : Bool) (kept g : Gathered) → KeepsUnless full kept g → (full || is_too_large kept) ≡ is_too_large g
told_by true kept g k = sym k
told_by false kept g k = ap is_too_large k

pub told_large : (s : Gathering) (g : Gathered) → Keeps s g → (s.full || is_too_large s.gathered) ≡ is_too_large g
told_large s g k = told_by s.full s.gathered g k.1

unless_by : (h g : Gathered) (b : Bool) → is_too_large h ≡ b → h ≡ g → KeepsUnless b h g
unless_by h g true e same = subst (λ x. is_too_large x ≡ true) same e
unless_by h g false e same = same

limits_by : (full : Bool) (kept g : Gathered) → KeepsUnless full kept g → KeepsUnless (full || is_too_large kept) kept g
limits_by true kept g k = k
limits_by false kept g k = unless_by kept g (is_too_large kept) refl k

-- it is full where a limit is passed
pub keeps_limits : (s : Gathering) (g : Gathered) → Keeps s g → Keeps (with_limits s) g
keeps_limits s g k = (k.0, limits_by s.full s.gathered g k.1)

operators_by : (fs : List PlainOperator) (full : Bool) (kept g : Gathered) → KeepsUnless full kept g
    → KeepsUnless full (with_operators fs kept) (with_operators fs g)
operators_by fs true kept g k = large_grows g (with_operators fs g) (grew_operators fs g) k
operators_by fs false kept g k = ap (with_operators fs) k

keeps_operators : (fs : List PlainOperator) (s : Gathering) (g : Gathered) → Keeps s g
    → Keeps (storing_operators fs s) (with_operators fs g)
keeps_operators fs s g k = (ap (λ os. fold with_operator os fs) k.0, operators_by fs s.full s.gathered g k.1)

-- operators are inserted, and then limits are looked at
pub inserted : (old mid new : Gathering) (fs : List PlainOperator) (g : Gathered) → mid ≡ storing_operators fs old
    → new ≡ with_limits mid
    → Keeps old g → Keeps new (with_operators fs g)
inserted old mid new fs g p q k =
    subst (λ s. Keeps s (with_operators fs g)) (sym (q ∙ ap with_limits p))
    (keeps_limits (storing_operators fs old) (with_operators fs g) (keeps_operators fs old g k))

whole_by : (full : Bool) (kept g : Gathered) → full ≡ false → KeepsUnless full kept g → kept ≡ g
whole_by true kept g e k = cc
whole_by false kept g e k = k

whole_back : (full : Bool) (kept g : Gathered) → full ≡ false → kept ≡ g → KeepsUnless full kept g
whole_back true kept g e same = cc
whole_back false kept g e same = same

-- a statement is taken by a store that isn't full, and then limits are looked at
pub took : (old mid new : Gathering) (assumes assumed : Bool) (s : Statement) (g : Gathered) → old.full ≡ false
    → mid ≡ storing assumes (record { statement = s; assumed = assumed }) old → new ≡ with_limits mid → Keeps old g
    → Keeps new (taken assumes assumed s g)
took old mid new assumes assumed s g empty p q k =
    let same : taken assumes assumed s old.gathered ≡ taken assumes assumed s g =
    ap (taken assumes assumed s) (whole_by old.full old.gathered g empty k.1) in
    subst (λ t. Keeps t (taken assumes assumed s g)) (sym (q ∙ ap with_limits p))
    (keeps_limits (storing assumes (record { statement = s; assumed = assumed }) old) (taken assumes assumed s g) (
      ap (λ h. h.operators) same,
      whole_back old.full (taken assumes assumed s old.gathered)
          (taken assumes assumed s g) empty same,
    ))

full_by : (full : Bool) (kept g h : Gathered) → full ≡ true → Grew g h → KeepsUnless full kept g
    → KeepsUnless full kept h
full_by true kept g h e grew k = large_grows g h grew k
full_by false kept g h e grew k = cc

-- a full store keeps what only grows without further operators
pub full_keeps : (s : Gathering) (g h : Gathered) → s.full ≡ true → g.operators ≡ h.operators → Grew g h
    → Keeps s g → Keeps s h
full_keeps s g h full same grew k = (k.0 ∙ same, full_by s.full s.gathered g h full grew k.1)

-- a full store keeps what has further statements
pub full_took : (s : Gathering) (assumes assumed : Bool) (z : Statement) (g : Gathered) → s.full ≡ true → Keeps s g
    → Keeps s (taken assumes assumed z g)
full_took s assumes assumed z g full k =
    full_keeps s g (taken assumes assumed z g) full (sym (taken_same assumes assumed z g))
    (grew_taken assumes assumed z g) k

pub full_asserted : (s : Gathering) (ss : List Statement) (g : Gathered) → s.full ≡ true → Keeps s g
    → Keeps s (with_asserted ss g)
full_asserted s ss g full k = full_keeps s g (with_asserted ss g) full (sym (asserted_same ss g)) (grew_asserted ss g) k
