-- Work under a budget, whose first event counts.
use Rattle.std.specs.Prelude.{ℕ, Bool, true, false, nat_lt}
use Rattle.larch_term.specs.BaseLimitsTheConstants.{MAX_TERM_NODES}
use Rattle.larch_term.specs.Tree.{Tree, nodes}

-- what work ends in: what it made and what is left of the budget; or the first event, that the budget was used up or
-- that a term was too large
pub data Work (A : Type 0) : Type 0 where
  Made : A → ℕ → Work A
  OverLimit : Work A
  OverSize : Work A

-- further work with what was made and what is left
abbrev pub then_work : {A B : Type 0} → Work A → (A → ℕ → Work B) → Work B
then_work (Made x b) next = next x b
then_work OverLimit next = OverLimit
then_work OverSize next = OverSize

-- whether a term has more nodes than one in a proof may have
abbrev pub is_large : Tree → Bool
is_large t = nat_lt MAX_TERM_NODES (nodes t)

-- work, unless something is too large before it
abbrev pub within_size : {A : Type 0} → Bool → Work A → Work A
within_size true work = OverSize
within_size false work = work

-- work with a term that has been formed
abbrev pub after_forming : {A : Type 0} → Tree → Work A → Work A
after_forming t work = within_size (is_large t) work
