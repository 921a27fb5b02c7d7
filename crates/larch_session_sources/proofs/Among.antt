-- The script of a stem among files.
use Rattle.std.proofs.Common.{◌≡◌, refl, sym, ap, ap₂, subst, ◌∙◌, ℕ, Bool, true, false, if◌then◌else◌, List, []}
use Rattle.std.proofs.Common.{◌++◌, All, Option, Some, None, Result, Ok, Err, IfOk}
use Rattle.std.specs.Prelude.{codes}
use Rattle.std.specs.Option.{is_some, option_map, option_map_or}
use Rattle.std.proofs.lemmas.List.Elements.{All-nil}
use Rattle.larch_session_law.specs.ScriptScripts.{empty_script, script_of}
use Rattle.larch_session_law.proofs.ScriptWords.{script_words}
use Rattle.larch_script_commands.specs.Worded.{WordedBlock, WordedCommand, WordedScript}
use Rattle.larch_script_commands.specs.declared.command.RawCommand.{RawCommand}
use Rattle.larch_script_commands.specs.declared.script.Block.{Block}
use Rattle.larch_script_commands.specs.declared.script.Script.{Script}
use Rattle.larch_session_sources.specs.Looked.{text_under}
use Rattle.larch_session_law.specs.SessionMeaningFiles.{script_among, script_text}
use Rattle.larch_session_law.specs.TraitsFiles.{Table}

pub among_some : (files : Table) (stem text : List ℕ) → text_under files stem (codes ".lp") ≡ Some text
    → script_of text ≡ script_among files stem
among_some files stem text e = sym (ap (λ found. option_map_or script_of found empty_script) e)

pub among_none : (files : Table) (stem : List ℕ) → text_under files stem (codes ".lp") ≡ None
    → empty_script ≡ script_among files stem
among_none files stem e = sym (ap (λ found. option_map_or script_of found empty_script) e)

-- an answer that is one thing is the other, where these are equal
pub if_ok_is : {X E : Type 0} (r : Result X E) (x y : X) → x ≡ y → IfOk r (λ v. v ≡ x) → IfOk r (λ v. v ≡ y)
if_ok_is r x y e h = subst (λ z. IfOk r (λ v. v ≡ z)) e h

-- an option whose parts are told
pub mapped_some : {A B : Type 0} (f : A → B) (found : Option A) (x : A) (y : Option B) → option_map f found ≡ y
    → found ≡ Some x → y ≡ Some (f x)
mapped_some f found x y e s = sym e ∙ ap (option_map f) s

pub mapped_none : {A B : Type 0} (f : A → B) (found : Option A) (y : Option B) → option_map f found ≡ y
    → found ≡ None → y ≡ None
mapped_none f found y e s = sym e ∙ ap (option_map f) s

pub mapped_is : {A B : Type 0} (f : A → B) (found : Option A) (y : Option B) → option_map f found ≡ y
    → is_some found ≡ is_some y
mapped_is f None y e = ap is_some e
mapped_is f (Some x) y e = ap is_some e

-- a script without commands and blocks
abbrev with_parts : List RawCommand → List Block → Script
with_parts commands blocks = record { preamble = commands; blocks = blocks }

pub no_parts : (commands : List RawCommand) (blocks : List Block) → commands ≡ [] → blocks ≡ []
    → with_parts commands blocks ≡ empty_script
no_parts commands blocks e f = ap₂ with_parts e f

pub clash : (a : Bool) → a ≡ true → a ≡ false → ⊥
clash true e f = cc
clash false e f = cc

-- it is in words
pub among_worded : (files : Table) (stem : List ℕ) → WordedScript (script_among files stem)
among_worded files stem = by (script_text files stem)
  where
    by : (found : Option (List ℕ)) → WordedScript (option_map_or script_of found empty_script)
    by None = (All-nil WordedCommand, All-nil WordedBlock)
    by (Some text) = script_words text
