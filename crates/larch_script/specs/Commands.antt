-- What the tokens of a line command.
use Rattle.std.specs.Prelude.{ℕ, ◌+◌, ◌&&◌, ◌||◌, nat_le, Bool, true, false, List, [], ◌∷◌, ◌++◌, drop, Option, Some}
use Rattle.std.specs.Prelude.{None, option_map, option_and_then, if◌then◌else◌, codes}
use Rattle.std.specs.Str.{bytes_eq}
use Rattle.larch_base.specs.declared.label.Label.{Label}
use Rattle.larch_base.specs.declared.label.Label.TheVariants.{Assume, Imply, Convert}
use Rattle.larch_base.specs.declared.limits.TheConstants.{MAX_REWRITING_LIMIT}
use Rattle.larch_base.specs.declared.way.Way.{Way}
use Rattle.larch_base.specs.declared.way.Way.TheVariants.{LeftToRight, RightToLeft, Multiset}
use Rattle.larch_base.specs.declared.fact_name.FactName.{FactName}
use Rattle.larch_script_commands.specs.declared.command.CommandKind.{CommandKind}
use Rattle.larch_script_commands.specs.declared.command.CommandKind.TheVariants.{Declare, Limit, BoxChecking, Height}
use Rattle.larch_script_commands.specs.declared.command.CommandKind.TheVariants.{Status}
use Rattle.larch_script_commands.specs.declared.command.CommandKind.TheVariants.{Prove, Cases, Implication, Conjunction}
use Rattle.larch_script_commands.specs.declared.command.CommandKind.TheVariants.{Contradiction, Induction, Partition}
use Rattle.larch_script_commands.specs.declared.command.CommandKind.TheVariants.{CriticalPairs, Normalize, Qed}
use Rattle.larch_grammar.specs.Terminal.{terminal_of}
use Rattle.larch_lexer.specs.TokenList.{TokenList}
use Rattle.larch_lexer.specs.declared.token.Token.{Token}
use Rattle.larch_raw.specs.declared.declared.RawOpRef.{RawOpRef}
use Rattle.larch_raw.specs.declared.declared.RawWord.{RawWord}
use Rattle.larch_script.specs.Facts.{fact_at, whole_fact_at}
use Rattle.larch_script.specs.Instances.{instantiation}
use Rattle.larch_script.specs.Numbers.{number_of}
use Rattle.larch_script.specs.Terms.{reference_at, whole_equation_at, whole_reference_at, whole_term_at}
use Rattle.larch_script.specs.Texts.{ends, plain, says, says_dashed, text_at, word_at}
use Rattle.larch_script.specs.declared.commands.Verb.{Verb}
use Rattle.larch_script.specs.declared.commands.Verb.TheVariants as verb

-- the label of this kind with a number
abbrev pub label_from : List ℕ → ℕ → Option Label
label_from kind number =
    if bytes_eq kind (codes "assume") then Some (Assume number)
    else if bytes_eq kind (codes "imply") then Some (Imply number)
    else if bytes_eq kind (codes "convert") then Some (Convert number)
    else None

-- a label, whose number is from 1
abbrev pub label_of : List ℕ → ℕ → Option Label
label_of kind number = if nat_le 1 number then label_from kind number else None

-- `duty LABEL`
abbrev pub duty : List Token → Option Label
duty tokens =
    if says tokens 2 (codes ".") && ends tokens 4
    then option_and_then (label_of (text_at tokens 1)) (number_of (text_at tokens 3)) else None

-- the word that is all of these tokens
abbrev pub lone_word : List Token → Option RawWord
lone_word (token ∷ []) = plain (terminal_of false token)
lone_word _ = None

-- names with others before them, and their sort
abbrev pub behind_names : List RawWord → Option (List RawWord × RawWord) → Option (List RawWord × RawWord)
behind_names before None = None
behind_names before (Some found) = Some (before ++ found.0, found.1)

-- a name with its sort
abbrev pub of_sort : RawWord → RawWord → List RawWord × RawWord
of_sort name sort = (name ∷ [], sort)

-- names between commas, then `:`, a sort and no more
abbrev pub declaration_of : List Token → Option (List RawWord × RawWord)
declaration_of (first ∷ sign ∷ rest) =
    option_and_then
    (λ name.
    if bytes_eq sign.text (codes ",") then behind_names (name ∷ []) (declaration_of rest)
    else if bytes_eq sign.text (codes ":") then option_map (of_sort name) (lone_word rest)
    else None)
    (plain (terminal_of false first))
declaration_of _ = None

-- `declare variables x, y: S`; `variable` is right too
abbrev pub declaration : List Token → Option CommandKind
declaration tokens =
    if says tokens 1 (codes "variables") || says tokens 1 (codes "variable")
    then option_map (λ found. Declare found.0 found.1) (declaration_of (drop 2 tokens)) else None

-- a rewriting limit, from 1 on
abbrev pub limit_of : ℕ → Option CommandKind
limit_of number = if nat_le 1 number && nat_le number MAX_REWRITING_LIMIT then Some (Limit number) else None

-- `set rewriting-limit N`
abbrev pub limit : List Token → Option CommandKind
limit tokens =
    if says_dashed tokens 1 (codes "rewriting") (codes "limit") && ends tokens 5
    then option_and_then limit_of (number_of (text_at tokens 4)) else None

-- on or off
abbrev pub switch_of : List ℕ → Option Bool
switch_of text =
    if bytes_eq text (codes "on") then Some true
    else if bytes_eq text (codes "off") then Some false
    else None

-- `set box-checking on`, or `off`
abbrev pub box_checking : List Token → Option CommandKind
box_checking tokens =
    if says_dashed tokens 1 (codes "box") (codes "checking") && ends tokens 5
    then option_map BoxChecking (switch_of (text_at tokens 4)) else None

-- `set` and what it sets
abbrev pub setting : List Token → Option CommandKind
setting tokens = if says tokens 1 (codes "box") then box_checking tokens else limit tokens

-- `>` and the lower operator behind the upper one
abbrev pub above : TokenList → RawOpRef × ℕ → Option CommandKind
above all upper =
    if says all.tokens upper.1 (codes ">")
    then option_map (λ lower. Height upper.0 lower) (whole_reference_at all (upper.1 + 1)) else None

-- `register height F > G`
abbrev pub height : TokenList → Option CommandKind
height all = option_and_then (above all) (reference_at all 2)

-- the status behind `register status`, with the index after it
abbrev pub way_of : List Token → Option (Way × ℕ)
way_of tokens =
    if says tokens 2 (codes "multiset") then Some (Multiset, 3)
    else if says_dashed tokens 2 (codes "left") (codes "to") && says_dashed tokens 4 (codes "to") (codes "right")
    then Some (LeftToRight, 7)
    else if says_dashed tokens 2 (codes "right") (codes "to") && says_dashed tokens 4 (codes "to") (codes "left")
    then Some (RightToLeft, 7)
    else None

-- the operator of a status
abbrev pub of_status : TokenList → Way × ℕ → Option CommandKind
of_status all found = option_map (Status found.0) (whole_reference_at all found.1)

-- `register status left-to-right F`, or another status
abbrev pub status : TokenList → Option CommandKind
status all = option_and_then (of_status all) (way_of all.tokens)

-- `register` and what it registers
abbrev pub registration : TokenList → Option CommandKind
registration all =
    if says all.tokens 1 (codes "height") then height all
    else if says all.tokens 1 (codes "status") then status all
    else None

-- a method that is named by one word
abbrev pub method_of : List ℕ → Option CommandKind
method_of text =
    if bytes_eq text (codes "=>") then Some Implication
    else if bytes_eq text (codes "/\\") then Some Conjunction
    else if bytes_eq text (codes "contradiction") then Some Contradiction
    else if bytes_eq text (codes "partition") then Some Partition
    else None

-- `resume by induction on x`
abbrev pub induction : List Token → Option CommandKind
induction tokens =
    if says tokens 3 (codes "on") && ends tokens 5 then option_map Induction (word_at tokens 4) else None

-- a method behind `resume by`
abbrev pub method : TokenList → Option CommandKind
method all =
    if says all.tokens 2 (codes "cases") then option_map Cases (whole_term_at all 3)
    else if says all.tokens 2 (codes "induction") then induction all.tokens
    else if ends all.tokens 3 then method_of (text_at all.tokens 2)
    else None

-- `resume by` a method
abbrev pub resumption : TokenList → Option CommandKind
resumption all = if says all.tokens 1 (codes "by") then method all else None

-- `with` and the second fact behind the first one
abbrev pub with_second : List Token → FactName × ℕ → Option CommandKind
with_second tokens first =
    if says tokens first.1 (codes "with")
    then option_map (CriticalPairs first.0) (whole_fact_at tokens (first.1 + 1)) else None

-- `critical-pairs FACT with FACT`
abbrev pub critical : List Token → Option CommandKind
critical tokens =
    if says tokens 1 (codes "-") && says tokens 2 (codes "pairs")
    then option_and_then (with_second tokens) (fact_at tokens 3) else None

-- the command of a first word
abbrev pub verb_of : List ℕ → Option Verb
verb_of text =
    if bytes_eq text (codes "declare") then Some verb.Declare
    else if bytes_eq text (codes "set") then Some verb.Set
    else if bytes_eq text (codes "register") then Some verb.Register
    else if bytes_eq text (codes "prove") then Some verb.Prove
    else if bytes_eq text (codes "resume") then Some verb.Resume
    else if bytes_eq text (codes "instantiate") then Some verb.Instantiate
    else if bytes_eq text (codes "critical") then Some verb.Critical
    else if bytes_eq text (codes "normalize") then Some verb.Normalize
    else if bytes_eq text (codes "qed") then Some verb.Qed
    else None

-- what the tokens command, by their first word
abbrev pub by_verb : TokenList → Verb → Option CommandKind
by_verb all verb.Declare = declaration all.tokens
by_verb all verb.Set = setting all.tokens
by_verb all verb.Register = registration all
by_verb all verb.Prove = option_map Prove (whole_equation_at all 1)
by_verb all verb.Resume = resumption all
by_verb all verb.Instantiate = instantiation all
by_verb all verb.Critical = critical all.tokens
by_verb all verb.Normalize = option_map Normalize (whole_fact_at all.tokens 1)
by_verb all verb.Qed = if ends all.tokens 1 then Some Qed else None

-- what the tokens command
abbrev pub command_of : TokenList → Option CommandKind
command_of all = option_and_then (by_verb all) (verb_of (text_at all.tokens 0))
