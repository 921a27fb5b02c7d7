-- Facts as lists of rules.
use Rattle.std.specs.Prelude.{◌≡◌, ◌<◌, ◌≤◌, ℕ, suc, Bool, true, false, not, nat_lt, List, [], ◌∷◌, ◌++◌, All, map}
use Rattle.std.specs.Prelude.{length, refl}
use Rattle.std.proofs.Common.{inl, inr, ap, arith, sym, subst, ◌∙◌}
use Rattle.std.proofs.lemmas.Bool.Decides.{leb_tells}
use Rattle.std.proofs.lemmas.List.Elements.{All-cons, All-head, All-nil, All-tail}
use Rattle.larch_base.specs.declared.limits.TheConstants.{MAX_FACTS}
use Rattle.larch_derive.specs.declared.builder.Builder.{Builder}
use Rattle.larch_prove_adding.specs.KeptFacts.{fact_by}
use Rattle.larch_prove_invariant.specs.Holding.{HasFacts}
use Rattle.larch_prove_invariant.specs.ProveMeaningFacts.{is_full, rules_of}
use Rattle.larch_rewrite.specs.RuleSet.{IsSaid, PlainRule, sides_of_plain}

-- the rules of facts are the rules
pub named_rules : (rs : List PlainRule) → rules_of (map fact_by rs) ≡ map sides_of_plain rs
named_rules [] = refl
named_rules (r ∷ rs) = ap (λ es. sides_of_plain r ∷ es) (named_rules rs)

pub named_length : (rs : List PlainRule) → length (map fact_by rs) ≡ length rs
named_length [] = refl
named_length (r ∷ rs) = ap suc (named_length rs)

-- one more behind the others
pub named_push : (rs : List PlainRule) (r : PlainRule) → map fact_by (rs ++ r ∷ []) ≡ map fact_by rs ++ fact_by r ∷ []
named_push [] r = refl
named_push (q ∷ rs) r = ap (λ fs. fact_by q ∷ fs) (named_push rs r)

-- where each rule's line says it, each fact's does
pub named_said : (b : Builder) (rs : List PlainRule) → All (IsSaid b) rs
    → HasFacts b (map fact_by rs) (map (λ r. r.line) rs)
named_said b [] g = tt
named_said b (r ∷ rs) g = (All-head (IsSaid b) r rs g, named_said b rs (All-tail (IsSaid b) r rs g))

-- and where each fact's line says it, each rule's does
pub said_named : (b : Builder) (rs : List PlainRule) → HasFacts b (map fact_by rs) (map (λ r. r.line) rs)
    → All (IsSaid b) rs
said_named b [] g = All-nil (IsSaid b)
said_named b (r ∷ rs) g = All-cons (IsSaid b) r rs g.0 (said_named b rs g.1)

-- ---- counts

pub less_told : (m n : ℕ) → m < n → nat_lt m n ≡ true
less_told m n h = elim (leb_tells (suc m) n) [
  | inl k ↦ k.0
  | inr k ↦ let l = k.1 in absurd (omega (arith, h, l))
]

pub more_told : (m n : ℕ) → n ≤ m → nat_lt m n ≡ false
more_told m n h = elim (leb_tells (suc m) n) [
  | inl k ↦ let l = k.1 in absurd (omega (arith, h, l))
  | inr k ↦ k.0
]

-- whether there is room for another fact
pub room_told : (rs : List PlainRule) (q : Bool) (count : ℕ) → count ≡ length rs → count < MAX_FACTS
    → is_full (record { rules = map fact_by rs; contradictory = q }) ≡ false
room_told rs q count k l =
    ap not (less_told (length (map fact_by rs)) MAX_FACTS
    (subst (λ n. n < MAX_FACTS) (k ∙ sym (named_length rs)) l))

pub full_told : (rs : List PlainRule) (q : Bool) (count : ℕ) → count ≡ length rs → MAX_FACTS ≤ count
    → is_full (record { rules = map fact_by rs; contradictory = q }) ≡ true
full_told rs q count k l =
    ap not (more_told (length (map fact_by rs)) MAX_FACTS
    (subst (λ n. MAX_FACTS ≤ n) (k ∙ sym (named_length rs)) l))

pub room_is : (n : ℕ) → not (nat_lt n MAX_FACTS) ≡ false → n < MAX_FACTS
room_is n h = elim (leb_tells (suc n) MAX_FACTS) [
  | inl k ↦ let l = k.1 in omega (arith, l)
  | inr k ↦ absurd (true_false (sym (ap not k.0) ∙ h))
]
  where
    true_false : true ≡ false → ⊥
    true_false e = cc
