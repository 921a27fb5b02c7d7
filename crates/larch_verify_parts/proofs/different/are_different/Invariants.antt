use Rattle.std.proofs.Common.{◌≡◌, ℕ, nat_eq, ◌-◌, drop, length, true}
use Rattle.std.specs.HashMap.{get}
use Rattle.larch_verify_parts.specs.Apart.{seen_in, all_apart}
use Rattle.larch_verify_parts.proofs.different.are_different.Given as goal

abbrev pub invariant-loop-i : goal.invariant-loop-i
invariant-loop-i l = record {
  seen : (q : ℕ) → get nat_eq l.seen q ≡ seen_in (drop (length l.numbers - l.i) l.numbers) q;
  apart : all_apart (drop (length l.numbers - l.i) l.numbers) ≡ true;
}
