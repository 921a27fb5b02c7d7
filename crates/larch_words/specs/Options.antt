-- What the values of options spell.
use Rattle.std.specs.Prelude.{ℕ, nat_lt, if◌then◌else◌, List, Option, Some, None}
use Rattle.std.specs.Option.{option_and_then}
use Rattle.larch_base.specs.Number.{read_number}
use Rattle.larch_base.specs.declared.limits.TheConstants.{DEFAULT_REWRITING_LIMIT, MAX_REWRITING_LIMIT}
use Rattle.larch_words.specs.declared.options.TheConstants.{MAX_SEED, MAX_SIZE}

-- a number from 1 that is at most so large
abbrev pub read_positive : ℕ → List ℕ → Option ℕ
read_positive most digits =
    option_and_then (λ number. if nat_lt 0 number then Some number else None) (read_number most digits)

-- a rewriting limit
abbrev pub read_limit : List ℕ → Option ℕ
read_limit digits = read_positive MAX_REWRITING_LIMIT digits

-- the rewriting limit that is asked for, where one is
abbrev pub limit_of : Option (List ℕ) → Option ℕ
limit_of None = Some DEFAULT_REWRITING_LIMIT
limit_of (Some digits) = read_limit digits

-- a seed
abbrev pub read_seed : List ℕ → Option ℕ
read_seed digits = read_number MAX_SEED digits

-- a size
abbrev pub read_size : List ℕ → Option ℕ
read_size digits = read_positive MAX_SIZE digits
