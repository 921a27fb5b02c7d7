-- What `instantiate` puts in the places of variables.
use Rattle.std.specs.Prelude.{ℕ, zero, suc, ◌+◌, List, [], ◌∷◌, ◌++◌, length, Option, Some, None, option_map}
use Rattle.std.specs.Prelude.{option_and_then, if◌then◌else◌, codes}
use Rattle.larch_script_commands.specs.declared.command.CommandKind.{CommandKind}
use Rattle.larch_script_commands.specs.declared.command.CommandKind.TheVariants.{Instantiate}
use Rattle.larch_script_commands.specs.declared.command.RawInstance.{RawInstance}
use Rattle.larch_lexer.specs.TokenList.{TokenList}
use Rattle.larch_raw.specs.declared.declared.RawWord.{RawWord}
use Rattle.larch_raw.specs.declared.equation.RawEquation.{RawEquation}
use Rattle.larch_script.specs.Facts.{whole_fact_at}
use Rattle.larch_script.specs.Terms.{term_at}
use Rattle.larch_script.specs.Texts.{says, word_at}

-- a variable with a term that stands there, and the index after it
abbrev pub instance_of : RawWord → RawEquation × ℕ → RawInstance × ℕ
instance_of name found = (record { name = name; term = found.0 }, found.1)

-- a variable, `by` and a term, with the index after them
abbrev pub instance_at : TokenList → ℕ → Option (RawInstance × ℕ)
instance_at all index =
    option_and_then
    (λ name.
    if says all.tokens (index + 1) (codes "by") then option_map (instance_of name)
    (term_at all (index + 2)) else None)
    (word_at all.tokens index)

-- instances with others before them
abbrev pub behind_others : List RawInstance → Option (List RawInstance × ℕ) → Option (List RawInstance × ℕ)
behind_others before None = None
behind_others before (Some found) = Some (before ++ found.0, found.1)

-- one instance, as the only one
abbrev pub last_one : RawInstance × ℕ → List RawInstance × ℕ
last_one first = (first.0 ∷ [], first.1 + 1)

-- an instance with those that follow it: behind `,` further ones, from their index on, or behind `in` none
abbrev pub with_further : TokenList → (ℕ → Option (List RawInstance × ℕ)) → RawInstance × ℕ
    → Option (List RawInstance × ℕ)
with_further all further first =
    if says all.tokens first.1 (codes ",") then behind_others (first.0 ∷ []) (further (first.1 + 1))
    else if says all.tokens first.1 (codes "in") then Some (last_one first)
    else None

-- at most so many instances between commas from an index on, then `in`; with the index after that
abbrev pub instances_at : ℕ → TokenList → ℕ → Option (List RawInstance × ℕ)
instances_at zero all index = None
instances_at (suc count) all index =
    option_and_then (with_further all (λ next. instances_at count all next)) (instance_at all index)

-- instances of a fact that is all that stands behind them
abbrev pub instances_of_fact : TokenList → List RawInstance × ℕ → Option CommandKind
instances_of_fact all found = option_map (λ fact. Instantiate found.0 fact) (whole_fact_at all.tokens found.1)

-- `instantiate x by T, y by U in FACT`: there are no more instances than tokens
abbrev pub instantiation : TokenList → Option CommandKind
instantiation all = option_and_then (instances_of_fact all) (instances_at (length all.tokens) all 1)
