-- What is left of commands without their lines, and with each position replaced by one and the same.
use Rattle.std.specs.Prelude.{map, option_map}
use Rattle.larch_base.specs.Position.{start_of_text}
use Rattle.larch_script_commands.specs.declared.command.CommandKind.{CommandKind}
use Rattle.larch_script_commands.specs.declared.command.CommandKind.TheVariants.{Declare, Limit, BoxChecking, Height}
use Rattle.larch_script_commands.specs.declared.command.CommandKind.TheVariants.{Status}
use Rattle.larch_script_commands.specs.declared.command.CommandKind.TheVariants.{Prove, Cases, Implication, Conjunction}
use Rattle.larch_script_commands.specs.declared.command.CommandKind.TheVariants.{Contradiction, Induction, Partition}
use Rattle.larch_script_commands.specs.declared.command.CommandKind.TheVariants.{Instantiate, CriticalPairs, Normalize}
use Rattle.larch_script_commands.specs.declared.command.CommandKind.TheVariants.{Qed}
use Rattle.larch_script_commands.specs.declared.command.CommandKind.TheVariants.{Mark, Bad}
use Rattle.larch_script_commands.specs.declared.command.RawCommand.{RawCommand}
use Rattle.larch_script_commands.specs.declared.command.RawInstance.{RawInstance}
use Rattle.larch_raw.specs.RawTree.{RawTree, RawForest, apply, qualified, no_more, one_more}
use Rattle.larch_raw.specs.declared.declared.RawForm.{RawForm}
use Rattle.larch_raw.specs.declared.declared.RawOpRef.{RawOpRef}
use Rattle.larch_raw.specs.declared.declared.RawSig.{RawSig}
use Rattle.larch_raw.specs.declared.declared.RawWord.{RawWord}
use Rattle.larch_raw.specs.declared.equation.RawEquation.{RawEquation}
use Rattle.larch_raw.specs.declared.equation.RawRight.{RawRight}

-- a word by its text
abbrev pub bare_word : RawWord → RawWord
bare_word w = record { name = w.name; pos = start_of_text }

abbrev mutual
  -- a term by its names, its sorts and its shape
  pub bare_tree : RawTree → RawTree
  bare_tree (apply n ts p) = apply n (bare_all ts) start_of_text
  bare_tree (qualified t w p) = qualified (bare_tree t) (bare_word w) start_of_text

  -- the same of arguments
  pub bare_all : RawForest → RawForest
  bare_all no_more = no_more
  bare_all (one_more t ts) = one_more (bare_tree t) (bare_all ts)

-- the right side of an equation
abbrev pub bare_right : RawRight → RawRight
bare_right r = record { term = bare_tree r.term; pos = start_of_text }

-- an equation by its sides
abbrev pub bare_equation : RawEquation → RawEquation
bare_equation e = record { left = bare_tree e.left; right = option_map bare_right e.right; first = start_of_text }

-- the name of an operator
abbrev pub bare_form : RawForm → RawForm
bare_form f = record { name = f.name; word = f.word; markers = f.markers; pos = start_of_text }

-- a signature by its sorts
abbrev pub bare_signature : RawSig → RawSig
bare_signature s = record { domain = map bare_word s.domain; range = bare_word s.range }

-- a reference to an operator, by its name and its sorts
abbrev pub bare_reference : RawOpRef → RawOpRef
bare_reference r = record { form = bare_form r.form; sig = option_map bare_signature r.sig }

-- a variable and what takes its place
abbrev pub bare_instance : RawInstance → RawInstance
bare_instance i = record { name = bare_word i.name; term = bare_equation i.term }

-- what is commanded, without positions
abbrev pub bare_kind : CommandKind → CommandKind
bare_kind (Declare xs s) = Declare (map bare_word xs) (bare_word s)
bare_kind (Limit n) = Limit n
bare_kind (BoxChecking on) = BoxChecking on
bare_kind (Height upper lower) = Height (bare_reference upper) (bare_reference lower)
bare_kind (Status way r) = Status way (bare_reference r)
bare_kind (Prove e) = Prove (bare_equation e)
bare_kind (Cases t) = Cases (bare_equation t)
bare_kind Implication = Implication
bare_kind Conjunction = Conjunction
bare_kind Contradiction = Contradiction
bare_kind (Induction x) = Induction (bare_word x)
bare_kind Partition = Partition
bare_kind (Instantiate is fact) = Instantiate (map bare_instance is) fact
bare_kind (CriticalPairs first second) = CriticalPairs first second
bare_kind (Normalize fact) = Normalize fact
bare_kind Qed = Qed
bare_kind (Mark proved) = Mark proved
bare_kind (Bad code) = Bad code

-- a command without its line and without positions
abbrev pub bare : RawCommand → CommandKind
bare command = bare_kind command.kind
