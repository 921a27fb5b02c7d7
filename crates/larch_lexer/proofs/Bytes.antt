-- Bytes that are one of a few.
use Rattle.std.proofs.Common.{ℕ, ◌≡◌, ◌==◌, true, List, [], ◌∷◌, sym, subst, inl, inr}
use Rattle.std.proofs.lemmas.Bool.{or_cases, eqb-true}
use Rattle.larch_lexer.specs.TokenTable.{one_of}

-- a fact for each of them
abbrev pub Each : (ℕ → Type 0) → List ℕ → Type 0
Each P [] = Unit {0}
Each P (byte ∷ bytes) = P byte × Each P bytes

pub each_of : (P : ℕ → Type 0) (bytes : List ℕ) (byte : ℕ) → one_of bytes byte ≡ true → Each P bytes → P byte
each_of P [] byte e all = absurd cc
each_of P (other ∷ bytes) byte e all =
    elim (or_cases (byte == other) (one_of bytes byte) e) [
      | inl same ↦ subst P (sym (eqb-true byte other same)) all.0
      | inr later ↦ each_of P bytes byte later all.1
    ]
