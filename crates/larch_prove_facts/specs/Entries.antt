-- What a command writes for the variables of a fact.
use Rattle.std.specs.Prelude.{◌≡◌, ◌++◌, ℕ, List, All, Result, Ok, find, map}
use Rattle.larch_base.specs.declared.code.Code.{Code}
use Rattle.larch_base.specs.declared.code.Code.TheVariants as refusal
use Rattle.larch_base.specs.declared.fact_name.FactName.{FactName}
use Rattle.larch_derive.specs.Words.{IsWordedTerm}
use Rattle.larch_prove_meaning.specs.Facts.{Facts}
use Rattle.larch_prove_meaning.specs.Levels.{Proof, unless}
use Rattle.larch_prove_meaning.specs.Plans.{with_found}
use Rattle.larch_prove_meaning.specs.Steps.{has_name, instantiation, read_lone, sides_or, stands_once, variable_in}
use Rattle.larch_prove_work.specs.ProveSettingsSettings.{AreSettingsOf}
use Rattle.larch_prove_work.specs.ProveSettingsSettingsSettings.{Settings}
use Rattle.larch_rewrite_meaning.specs.Sides.{Sides}
use Rattle.larch_script_commands.specs.declared.command.RawInstance.{RawInstance}
use Rattle.larch_term.specs.Operator.{PlainOperator}
use Rattle.larch_term.specs.Sorts.{IsTermOver}
use Rattle.larch_term.specs.Variable.{variables_of}
use Rattle.larch_term.specs.declared.substitution.Entry.{Entry}
use Rattle.larch_term.specs.declared.statement.Theory.{Theory}
use Rattle.larch_term.specs.declared.variable.Variable.{Variable}
use Rattle.larch_base_meaning.specs.Steps.{after}

-- the settings are those of some proof
abbrev pub IsSomeSettings : Settings → Type 0
IsSomeSettings settings = (p : Proof) × AreSettingsOf settings p

-- the names that a command writes
abbrev pub names_in : List RawInstance → List (List ℕ)
names_in is = map (λ i. i.name.name) is

-- the variables of an equation, those of the left side first
abbrev pub variables_both : Sides → List Variable
variables_both e = variables_of e.left ++ variables_of e.right

-- what is written for one variable, where these names are written
abbrev pub entry_for : Proof → Sides → List (List ℕ) → RawInstance → Result Entry Code
entry_for p e names i =
    with_found refusal.Variable (variable_in e i.name.name) (λ v.
    unless refusal.Variable (stands_once names i.name.name)
    (after (read_lone p v.sort i.term) (λ t. Ok (record { name = v.name; sort = v.sort; term = t }))))

-- what is written for the variables of the fact of a name
abbrev pub entries_for : FactName → List RawInstance → Facts → Proof → Result (List Entry) Code
entries_for n is facts p =
    after (sides_or (find (has_name n) facts.rules)) (λ e. instantiation p e (names_in is) is)

-- a term in words over the theory and the constants of the block
abbrev pub MayStand : Theory → List PlainOperator → Entry → Type 0
MayStand t block entry = IsTermOver (t.operators ++ block) entry.term × IsWordedTerm entry.term
