-- Steps that may be refused, one after the other.
use Rattle.std.specs.Prelude.{Bool, List, [], ◌∷◌, ◌++◌, Option, option_map, find, Result, Ok, Err}
use Rattle.larch_base.specs.declared.position.Pos.{Pos}

-- what comes after a step, unless that is refused
abbrev pub after : {A B E : Type 0} → Result A E → (A → Result B E) → Result B E
after (Ok x) next = next x
after (Err e) next = Err e

-- a step for each of a list, in order, each with what those before it made
abbrev pub all_taken : {A B E : Type 0} → (A → B → Result B E) → List A → B → Result B E
all_taken take [] made = Ok made
all_taken take (x ∷ xs) made = after (take x made) (all_taken take xs)

-- one thing more behind those that were made
abbrev pub one_behind : {A E : Type 0} → Result A E → List A → Result (List A) E
one_behind answer made = after answer (λ x. Ok (made ++ x ∷ []))

-- more things behind those that were made
abbrev pub all_behind : {A E : Type 0} → Result (List A) E → List A → Result (List A) E
all_behind answer made = after answer (λ xs. Ok (made ++ xs))

-- what each of a list answers, in order, or what is wrong first
abbrev pub each : {A B E : Type 0} → (A → Result B E) → List A → Result (List B) E
each answer xs = all_taken (λ x. one_behind (answer x)) xs []

-- the things that each of a list answers, in order, or what is wrong first
abbrev pub each_several : {A B E : Type 0} → (A → Result (List B) E) → List A → Result (List B) E
each_several answer xs = all_taken (λ x. all_behind (answer x)) xs []

-- where the first of these stands that is so, if one is
abbrev pub first_position : {A : Type 0} → (A → Bool) → (A → Pos) → List A → Option Pos
first_position is_so position xs = option_map position (find is_so xs)
