-- How far lines and columns go.
use Rattle.std.proofs.Common.{ℕ, zero, suc, ◌≡◌, ◌≢◌, ◌+◌, ◌≤◌, ◌==◌, List, [], ◌∷◌, take, drop, length, refl, arith}
use Rattle.std.proofs.Common.{All}
use Rattle.std.proofs.lemmas.Bool.{cond_both, ne_eqb}
use Rattle.std.proofs.lemmas.List.Elements.{All-head, All-tail}
use Rattle.larch_base.specs.Position.{advance, position_behind}
use Rattle.larch_base.specs.declared.position.Pos.{Pos}
use Rattle.larch_lexer.specs.Lexing.{line_ends}

pub advance_column : (position : Pos) (byte : ℕ) → (advance position byte).column ≤ position.column + 1
advance_column position byte =
    cond_both {A = Pos} (byte == 10) (record { line = position.line + 1; column = 1 })
    (record { line = position.line; column = position.column + 1 }) (λ p. p.column ≤ position.column + 1)
    (λ _. omega arith) (λ _. omega arith)

pub column_behind : (position : Pos) (bytes : List ℕ)
    → (position_behind position bytes).column ≤ position.column + length bytes
column_behind position [] = omega arith
column_behind position (byte ∷ bytes) =
    omega (arith, column_behind (advance position byte) bytes, advance_column position byte)

-- there are at most as many ends of lines as bytes
pub line_ends_within : (bytes : List ℕ) → line_ends bytes ≤ length bytes
line_ends_within [] = omega arith
line_ends_within (byte ∷ bytes) =
    cond_both {A = ℕ} (byte == 10) (line_ends bytes + 1) (line_ends bytes) (λ n. n ≤ length (byte ∷ bytes))
    (λ _. omega (arith, line_ends_within bytes)) (λ _. omega (arith, line_ends_within bytes))

-- no more of them are in the front of a text than in all of it
pub line_ends_taken : (count : ℕ) (bytes : List ℕ) → line_ends (take count bytes) ≤ line_ends bytes
line_ends_taken zero bytes = omega arith
line_ends_taken (suc count) [] = omega arith
line_ends_taken (suc count) (byte ∷ bytes) =
    cond_both {A = ℕ} (byte == 10) (line_ends (take count bytes) + 1) (line_ends (take count bytes))
    (λ n. n ≤ line_ends (byte ∷ bytes))
    (λ e. rw e (omega (arith, line_ends_taken count bytes))) (λ e. rw e (omega (arith, line_ends_taken count bytes)))

-- a line holds none
pub no_line_ends : (bytes : List ℕ) → All (λ byte. byte ≢ 10) bytes → line_ends bytes ≡ 0
no_line_ends [] all = refl
no_line_ends (byte ∷ bytes) all =
    rw (ne_eqb byte 10 (All-head (λ b. b ≢ 10) byte bytes all))
    (no_line_ends bytes (All-tail (λ b. b ≢ 10) byte bytes all))

advanced : (position : Pos) (byte : ℕ) (bytes : List ℕ)
    → (advance position byte).line + line_ends bytes ≡ position.line + line_ends (byte ∷ bytes)
advanced position byte bytes =
    cond_both {A = Pos} (byte == 10) (record { line = position.line + 1; column = 1 })
    (record { line = position.line; column = position.column + 1 })
    (λ p. p.line + line_ends bytes ≡ position.line + line_ends (byte ∷ bytes))
    (λ e. rw e (omega arith)) (λ e. rw e (omega arith))

-- the line behind some bytes of a text, with the ends of lines that are left
pub line_of_taken : (position : Pos) (count : ℕ) (bytes : List ℕ)
    → (position_behind position (take count bytes)).line + line_ends (drop count bytes)
    ≡ position.line + line_ends bytes
line_of_taken position zero bytes = refl
line_of_taken position (suc count) [] = refl
line_of_taken position (suc count) (byte ∷ bytes) =
    omega (arith, line_of_taken (advance position byte) count bytes, advanced position byte bytes)
