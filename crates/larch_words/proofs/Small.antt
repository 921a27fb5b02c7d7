-- What digits spell is no larger than may be given.
use Rattle.std.proofs.Common.{◌≡◌, ◌<◌, ◌≤◌, ◌&&◌, ℕ, nat_le, nat_lt, Bool, true, false, cond, List, Option, Some}
use Rattle.std.proofs.Common.{None, refl, arith}
use Rattle.std.proofs.lemmas.Bool.Decides.{nat_tests}
use Rattle.std.specs.Option.{option_and_then}
use Rattle.larch_base.specs.Number.{is_number, read_number, value_of}
use Rattle.larch_words.specs.Options.{read_seed, read_size}
use Rattle.larch_words.specs.declared.options.TheConstants.{MAX_SEED, MAX_SIZE}

-- a number, where there is one, is no larger
abbrev pub IsAtMost : ℕ → Option ℕ → Type 0
IsAtMost most None = Unit {0}
IsAtMost most (Some n) = n ≤ most

-- and it is from 1
abbrev pub IsPositive : Option ℕ → Type 0
IsPositive None = Unit {0}
IsPositive (Some n) = 0 < n

spelled_at_most : (value most : ℕ) (b c : Bool) → nat_le value most ≡ c
    → IsAtMost most (cond (b && c) (Some value) None)
spelled_at_most value most true true e = grind (arith, nat_tests, e)
spelled_at_most value most true false e = tt
spelled_at_most value most false c e = tt

number_at_most : (most : ℕ) (digits : List ℕ) → IsAtMost most (read_number most digits)
number_at_most most digits =
    spelled_at_most (value_of digits) most (is_number digits) (nat_le (value_of digits) most) refl

kept_at_most : (n most : ℕ) (b : Bool) → n ≤ most → IsAtMost most (cond b (Some n) None)
kept_at_most n most true h = h
kept_at_most n most false h = tt

kept_positive : (n : ℕ) (b : Bool) → nat_lt 0 n ≡ b → IsPositive (cond b (Some n) None)
kept_positive n true e = grind (arith, nat_tests, e)
kept_positive n false e = tt

-- of a number, where there is one, what is from 1
abbrev from_one : Option ℕ → Option ℕ
from_one o = option_and_then (λ n. cond (nat_lt 0 n) (Some n) None) o

from_one_at_most : (most : ℕ) (o : Option ℕ) → IsAtMost most o → IsAtMost most (from_one o)
from_one_at_most most None h = tt
from_one_at_most most (Some n) h = kept_at_most n most (nat_lt 0 n) h

from_one_positive : (o : Option ℕ) → IsPositive (from_one o)
from_one_positive None = tt
from_one_positive (Some n) = kept_positive n (nat_lt 0 n) refl

pub seed_at_most : (given : Option (List ℕ)) → IsAtMost MAX_SEED (option_and_then read_seed given)
seed_at_most None = tt
seed_at_most (Some digits) = number_at_most MAX_SEED digits

pub size_at_most : (given : Option (List ℕ)) → IsAtMost MAX_SIZE (option_and_then read_size given)
size_at_most None = tt
size_at_most (Some digits) =
    from_one_at_most MAX_SIZE (read_number MAX_SIZE digits) (number_at_most MAX_SIZE digits)

pub size_positive : (given : Option (List ℕ)) → IsPositive (option_and_then read_size given)
size_positive None = tt
size_positive (Some digits) = from_one_positive (read_number MAX_SIZE digits)
