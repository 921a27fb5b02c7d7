-- Adding while the facts of a name don't serve as rules.
use Rattle.std.specs.Prelude.{◌≡◌, ℕ, List, [], ◌∷◌, ◌++◌, filter, length, Option, None, Some, slice_get, true, false}
use Rattle.larch_base.specs.declared.fact_name.FactName.{FactName}
use Rattle.larch_prove_invariant.specs.OrderPrecedenceRanked.{Ranked}
use Rattle.larch_prove_invariant.specs.ProveMeaningFacts.{Fact, Facts, Manner, is_full}
use Rattle.larch_prove_invariant.specs.ProveMeaningSteps.{serves_beside}
use Rattle.larch_rewrite.specs.declared.refusal.RewriteRefusal.{RewriteRefusal}
use Rattle.larch_rewrite.specs.declared.refusal.RewriteRefusal.TheVariants.{Limit, TooLarge, Memory}

-- the facts that have another name
abbrev pub facts_without : FactName → Facts → Facts
facts_without n facts = record facts { rules = filter (serves_beside n) facts.rules }

-- equations are added under a name, oriented by a precedence, while the facts of another name don't serve as rules
abbrev pub manner_beside : FactName → List Ranked → FactName → Manner
manner_beside beside ranks name = record { serves = serves_beside beside; ranks = ranks; name = name }

-- no part of the second name is the first one
abbrev pub IsApart : FactName → FactName → Type 0
IsApart n m = n.letter ≡ m.letter → n.number ≡ m.number → ⊥

-- some facts serve, of all
pub record AreServing (beside : FactName) (all serving : Facts) : Type 0 where
  pub rules : filter (serves_beside beside) all.rules ≡ serving.rules
  pub contradictory : serving.contradictory ≡ all.contradictory

-- a fact, if there is one
abbrev pub one_or_none : Option Fact → List Fact
one_or_none None = []
one_or_none (Some fact) = fact ∷ []

-- what has come to facts that serve, at a place, comes behind all too
abbrev pub with_new : Facts → ℕ → Facts → Facts
with_new serving place all = record {
  rules = all.rules ++ one_or_none (slice_get serving.rules place);
  contradictory = serving.contradictory;
}

-- there is room for what comes, if something does
abbrev pub HasRoomFor : Option Fact → Facts → Type 0
HasRoomFor None all = Unit {0}
HasRoomFor (Some fact) all = is_full all ≡ false

-- or it is refused, since there isn't
abbrev pub HasNoRoomFor : Option Fact → Facts → RewriteRefusal → Type 0
HasNoRoomFor fact all Memory = Unit {0}
HasNoRoomFor fact all Limit = ⊥
HasNoRoomFor None all TooLarge = ⊥
HasNoRoomFor (Some fact) all TooLarge = is_full all ≡ true
