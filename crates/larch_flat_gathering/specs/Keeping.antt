-- What a store keeps of all that is gathered.
use Rattle.std.specs.Prelude.{◌≡◌, Bool, true, false, IfSome, Result, Ok, Err}
use Rattle.larch_base.specs.declared.fault.Fault.{Fault}
use Rattle.larch_flat_statements.specs.TraitsItemsRefusal.{cause}
use Rattle.larch_flat_statements.specs.TraitsItemsRefusalTraitRefusal.{TraitRefusal}
use Rattle.larch_flat_statements.specs.FlatMeaningGathered.{Gathered, is_too_large}

-- what is kept, and whether a limit is passed for certain
pub record Gathering : Type 0 where
  pub gathered : Gathered
  pub full : Bool

-- all is kept; or else a limit is passed for certain
abbrev pub KeepsUnless : Bool → Gathered → Gathered → Type 0
KeepsUnless false kept g = kept ≡ g
KeepsUnless true kept g = is_too_large g ≡ true

-- a store keeps the operators of what is gathered, and the whole of it until a limit is passed for certain
abbrev pub Keeps : Gathering → Gathered → Type 0
Keeps s g = (s.gathered.operators ≡ g.operators) × KeepsUnless s.full s.gathered g

-- a store keeps what is answered
abbrev pub KeepsAnswer : Gathering → Result Gathered Fault → Type 0
KeepsAnswer s (Ok g) = Keeps s g
KeepsAnswer s (Err f) = ⊥

-- A definition answers what is gathered, or a fault. A call leaves a store that keeps it, or a refusal that tells that
-- fault; a refusal that tells none is out of memory, of which nothing is said.
abbrev pub Leaves : {Value : Type 0} → Gathering → Result Value TraitRefusal → Result Gathered Fault → Type 0
Leaves s (Ok value) answer = KeepsAnswer s answer
Leaves s (Err refusal) answer = IfSome (cause refusal) (λ f. answer ≡ Err f)
