-- Commands written by hand: each position is the start of a text.
use Rattle.std.specs.Prelude.{ℕ, Bool, List, Some, None}
use Rattle.larch_base.specs.Position.{start_of_text}
use Rattle.larch_raw.specs.RawTree.{RawTree, apply, qualified, raw_forest}
use Rattle.larch_raw.specs.declared.declared.RawForm.{RawForm}
use Rattle.larch_raw.specs.declared.declared.RawOpRef.{RawOpRef}
use Rattle.larch_raw.specs.declared.declared.RawWord.{RawWord}
use Rattle.larch_raw.specs.declared.equation.RawEquation.{RawEquation}
use Rattle.larch_raw.specs.declared.equation.RawRight.{RawRight}
use Rattle.larch_script_commands.specs.declared.command.RawInstance.{RawInstance}

-- a word
abbrev pub word : List ℕ → RawWord
word n = record { name = n; pos = start_of_text }

-- a canonical name with its arguments
abbrev pub said : List ℕ → List RawTree → RawTree
said n ts = apply n (raw_forest ts) start_of_text

-- a term with the sort that it is said to have
abbrev pub said_of : RawTree → List ℕ → RawTree
said_of t s = qualified t (word s) start_of_text

-- a term alone
abbrev pub lone : RawTree → RawEquation
lone t = record { left = t; right = None; first = start_of_text }

-- a right side
abbrev pub right_side : RawTree → RawRight
right_side t = record { term = t; pos = start_of_text }

-- that two terms are equal
abbrev pub equal : RawTree → RawTree → RawEquation
equal t u = record { left = t; right = Some (right_side u); first = start_of_text }

-- an operator's canonical name, whether it is a bare word, and how many markers it has
abbrev pub form : List ℕ → Bool → ℕ → RawForm
form n is_word markers = record { name = n; word = is_word; markers = markers; pos = start_of_text }

-- a reference by a name alone
abbrev pub by_name : RawForm → RawOpRef
by_name f = record { form = f; sig = None }

-- a reference by a name and sorts
abbrev pub by_signature : RawForm → List RawWord → RawWord → RawOpRef
by_signature f domain range = record { form = f; sig = Some (record { domain = domain; range = range }) }

-- a variable and the term that takes its place
abbrev pub instead : List ℕ → RawTree → RawInstance
instead n t = record { name = word n; term = lone t }
