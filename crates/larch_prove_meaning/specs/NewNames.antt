-- Names for new constants.
use Rattle.std.specs.Prelude.{ℕ, zero, suc, not, List, [], ◌∷◌, ◌++◌, map, length, bytes_eq, codes, unwrap_or, find}
use Rattle.std.specs.List.{list_any}
use Rattle.std.specs.Fmt.{decimal}
use Rattle.larch_term.specs.Operator.{PlainOperator, plain}
use Rattle.larch_term.specs.Tree.{Tree}
use Rattle.larch_term.specs.Variable.{variables_of}
use Rattle.larch_term.specs.declared.variable.Variable.{Variable}

-- a word with so many numbers behind it in turn, from a first one on
abbrev pub numbered_from : List ℕ → ℕ → ℕ → List (List ℕ)
numbered_from word k zero = []
numbered_from word k (suc n) = (word ++ decimal k) ∷ numbered_from word (suc k) n

-- all the bytes of names, one behind the other
abbrev pub all_bytes : List (List ℕ) → List ℕ
all_bytes [] = []
all_bytes (n ∷ ns) = n ++ all_bytes ns

-- The first of a word, the word with 1, with 2, .. that isn't taken. As many names as are taken, and one more, are
-- looked at, so that one of them is free; what would stand there else is longer than all that are taken.
abbrev pub free_name : List (List ℕ) → List ℕ → List ℕ
free_name taken word =
    unwrap_or (find (λ n. not (list_any (bytes_eq n) taken)) (word ∷ numbered_from word 1 (length taken)))
    (word ++ all_bytes taken)

-- a constant with a name
abbrev pub constant_named : List ℕ → List ℕ → PlainOperator
constant_named n s = record { name = plain n; domain = []; range = s }

-- new constants named after variables, at their sorts, one after the other
abbrev pub new_constants : List (List ℕ) → List Variable → List PlainOperator
new_constants taken [] = []
new_constants taken (v ∷ vs) =
    let n = free_name taken (v.name ++ codes "c") in
    constant_named n v.sort ∷ new_constants (n ∷ taken) vs

-- the names of a term's variables
abbrev pub variable_names : Tree → List (List ℕ)
variable_names t = map (λ v. v.name) (variables_of t)
