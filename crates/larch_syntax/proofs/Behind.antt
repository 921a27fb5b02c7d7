-- Tokens behind `implies`, where a definition has no case of their own.
use Rattle.std.proofs.Common.{◌≡◌, ◌<◌, ◌-◌, ℕ, zero, suc, length, Bool, false, Some, None, List, [], ◌∷◌, refl, ap}
use Rattle.std.proofs.Common.{arith}
use Rattle.larch_base.specs.declared.position.Pos.{Pos}
use Rattle.larch_raw.specs.declared.declared.RawWord.{RawWord}
use Rattle.larch_grammar.specs.Leading.{from_first, from_second, open_depth}
use Rattle.larch_grammar.specs.Refused.{implied_tokens, is_implies, known}
use Rattle.larch_grammar.specs.declared.terminal.Terminal.{Terminal}
use Rattle.larch_grammar.specs.declared.terminal.Terminal.TheVariants.{Word, Open, Close, Generated, Partitioned}
use Rattle.larch_grammar.specs.declared.terminal.Terminal.TheVariants.{Implies}
use Rattle.larch_lexer.specs.declared.token.Token.{Token}

pub none_implied : (ts : List Token) → length ts < 1 → ts ≡ implied_tokens ts
none_implied [] h = refl
none_implied (t ∷ ts) h = absurd (omega (arith, h))

pub other_token : (k : Terminal) → ((lists : Bool) → k ≡ Implies lists → ⊥) → is_implies k ≡ false
other_token (Implies lists) h = absurd (h lists refl)
other_token k h = refl

pub other_first : (k : Terminal) (ts : List Token) → ((w : RawWord) → k ≡ Word w → ⊥) → from_first known k ts ≡ None
other_first (Word w) ts h = absurd (h w refl)
other_first k ts h = refl

pub other_second : (k : Terminal) (t : Token) (ts : List Token) → ((p : Pos) → k ≡ Open p → ⊥) → (k ≡ Generated → ⊥)
    → (k ≡ Partitioned → ⊥)
    → from_second known k t ts ≡ Some (t ∷ ts)
other_second (Open p) t ts h i j = absurd (h p refl)
other_second Generated t ts h i j = absurd (i refl)
other_second Partitioned t ts h i j = absurd (j refl)
other_second k t ts h i j = refl

pub one_closed : (n : ℕ) → (n ≡ 0 → ⊥) → Some (n - 1) ≡ open_depth Close n
one_closed zero h = absurd (h refl)
one_closed (suc n) h = ap Some (omega arith)

pub other_opened : (k : Terminal) (n : ℕ) → ((p : Pos) → k ≡ Open p → ⊥) → (k ≡ Close → ⊥) → open_depth k n ≡ Some n
other_opened (Open p) n h i = absurd (h p refl)
other_opened Close n h i = absurd (i refl)
other_opened k n h i = refl
