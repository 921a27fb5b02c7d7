-- In which order a call looks at its folder.
use Rattle.std.specs.Prelude.{◌≡◌, if◌then◌else◌, ℕ, Bool, MatchBool, List, [], ◌∷◌, ◌++◌, fold, All, Option}
use Rattle.std.specs.Prelude.{option_map, option_to_list}
use Rattle.std.specs.List.{list_any}
use Rattle.std.specs.Str.{bytes_eq}
use Rattle.larch_io.specs.Folder.{FileMap, IsFile, with_look}
use Rattle.larch_words.specs.declared.call.Call.{Call}
use Rattle.larch_words.specs.declared.call.Call.TheVariants as call_
use Rattle.larch_words.specs.declared.call.Question.{Question}
use Rattle.larch_words.specs.declared.call.Question.TheVariants.{Check, Complete, Derive, Model, Obligations}
use Rattle.larch_words.specs.declared.call.Question.TheVariants.{Replay, Trim, Verify}

-- the looks with one more for a name that wasn't looked for
abbrev pub next_look : List (List ℕ) → List ℕ → List (List ℕ)
next_look seen name = if list_any (bytes_eq name) seen then seen else (seen ++ name ∷ [])

-- the looks for names in turn: each name once, where it stands first
abbrev pub looks_for : List (List ℕ) → List (List ℕ)
looks_for names = fold next_look [] names

-- the looks for what a question names: a certificate or a model is looked for before the files
abbrev pub looks_of : Question → List (List ℕ) → List (List ℕ)
looks_of Check names = looks_for names
looks_of Obligations names = looks_for names
looks_of (Replay limit) names = looks_for names
looks_of (Derive asked limit) names = looks_for names
looks_of (Verify asked) names = asked.certificate ∷ looks_for names
looks_of (Model tried) names = tried.model ∷ looks_for names
looks_of (Trim asked) names = asked.certificate ∷ looks_for names
looks_of (Complete stem limit) names = looks_for names

-- there is a file of this name, where the folder tells
abbrev pub IsThere : Option FileMap → List ℕ → Type 0
IsThere told name = (bytes : List ℕ) × IsFile told name bytes

-- There were these looks before and now there are those, where they are told: behind the earlier ones came the first of
-- the looks that are wanted, some for files that are there and then perhaps a last one.
pub record LookInTurn (told : Option FileMap) (wanted : List (List ℕ)) (before now : Option (List (List ℕ))) : Type 0
  where
    pub found : List (List ℕ)
    pub last : Option (List ℕ)
    pub rest : List (List ℕ)
    pub order : found ++ (option_to_list last ++ rest) ≡ wanted
    pub there : All (IsThere told) found
    pub looks : now ≡ option_map (λ looks. looks ++ (found ++ option_to_list last)) before

-- so does a call, if it names files
abbrev pub CallLooks : Call → Option FileMap → Option (List (List ℕ)) → Option (List (List ℕ)) → Type 0
CallLooks (call_.Session limit) told before now = now ≡ before
CallLooks (call_.OnFiles question names) told before now = LookInTurn told (looks_of question names) before now
CallLooks (call_.Migrate certificate) told before now = LookInTurn told (certificate ∷ []) before now
CallLooks (call_.Generate traits) told before now = now ≡ before
CallLooks call_.Nothing told before now = now ≡ before

-- a name is looked for, unless its file was put in before
abbrev pub LooksOnce : Bool → Option (List (List ℕ)) → Option (List (List ℕ)) → List ℕ → Type 0
LooksOnce known before now name = MatchBool known (now ≡ before) (now ≡ with_look before name)
