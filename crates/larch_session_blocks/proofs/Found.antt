-- The line of the command with a number.
use Rattle.std.proofs.Common.{◌≡◌, refl, sym, ap, ap₂, ◌∙◌, arith, ℕ, zero, suc, ◌-◌, ◌==◌, true, false, if◌then◌else◌}
use Rattle.std.proofs.Common.{List, [], ◌∷◌, Option, Some, None}
use Rattle.std.specs.List.{slice_get}
use Rattle.std.proofs.lemmas.Bool.Decides.{nat_tests}
use Rattle.larch_base.specs.ByNumber.{numbered}
use Rattle.larch_session_meaning.specs.ProveMeaningReports.{line_at}
use Rattle.larch_script_commands.specs.declared.command.RawCommand.{RawCommand}

not_zero : (k : ℕ) → (suc k == 0) ≡ false
not_zero k = grind (arith, nat_tests)

less_one : (k : ℕ) → suc k - 1 ≡ k
less_one k = omega arith

is_one : (suc zero == 1) ≡ true
is_one = grind (arith, nat_tests)

not_one : (k : ℕ) → (suc (suc k) == 1) ≡ false
not_one k = grind (arith, nat_tests)

numbered_next : (cs : List RawCommand) (k : ℕ) → numbered cs (suc k) ≡ slice_get cs k
numbered_next cs k =
    ap₂ (λ b (n : ℕ). if b then None else slice_get cs n) (not_zero k) (less_one k)

-- the line of a command, if there is one
abbrev line_in : Option RawCommand → ℕ
line_in None = 0
line_in (Some c) = c.line

no_line : (cs : List RawCommand) → line_at cs 0 ≡ 0
no_line [] = refl
no_line (c ∷ cs) = no_line cs

line_got : (cs : List RawCommand) (k : ℕ) → line_in (slice_get cs k) ≡ line_at cs (suc k)
line_got [] k = refl
line_got (c ∷ cs) zero = sym (ap (λ b. if b then c.line else line_at cs (suc zero - 1)) is_one)
line_got (c ∷ cs) (suc k) =
    line_got cs k
    ∙ sym (ap₂ (λ b (n : ℕ). if b then c.line else line_at cs n) (not_one k) (less_one (suc k)))

line_numbered : (cs : List RawCommand) (k : ℕ) → line_in (numbered cs k) ≡ line_at cs k
line_numbered cs zero = sym (no_line cs)
line_numbered cs (suc k) = ap line_in (numbered_next cs k) ∙ line_got cs k

pub line_found : (cs : List RawCommand) (k : ℕ) (c : RawCommand) → numbered cs k ≡ Some c → c.line ≡ line_at cs k
line_found cs k c e = sym (ap line_in e) ∙ line_numbered cs k

pub line_missed : (cs : List RawCommand) (k : ℕ) → numbered cs k ≡ None → 0 ≡ line_at cs k
line_missed cs k e = sym (ap line_in e) ∙ line_numbered cs k
