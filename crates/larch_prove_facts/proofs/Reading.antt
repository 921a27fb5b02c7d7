-- What a command writes for the variables of a fact, one after the other.
use Rattle.std.specs.Prelude.{◌≡◌, ◌++◌, ◌==◌, ℕ, Bool, true, false, List, [], ◌∷◌, All, Option, None, Some, Result, Ok}
use Rattle.std.specs.Prelude.{Err, find, refl}
use Rattle.std.proofs.Common.{ap, sym, ◌∙◌}
use Rattle.std.proofs.lemmas.List.{append_assoc, append-nil}
use Rattle.larch_base.specs.declared.code.Code.{Code}
use Rattle.larch_base.specs.declared.code.Code.TheVariants as refusal
use Rattle.larch_base.specs.declared.fact_name.FactName.{FactName}
use Rattle.larch_prove_facts.specs.Entries.{entries_for, entry_for, names_in}
use Rattle.larch_prove_meaning.specs.Facts.{Facts}
use Rattle.larch_prove_meaning.specs.Levels.{Proof, unless}
use Rattle.larch_prove_meaning.specs.Plans.{with_found}
use Rattle.larch_prove_meaning.specs.Steps.{has_name, instantiation, read_lone, sides_or, stands_once, variable_in}
use Rattle.larch_prove_work.specs.ProveSettingsTelling.{Tells}
use Rattle.larch_prove_work.specs.ProveSettingsRefusalCommandRefusal.{CommandRefusal}
use Rattle.larch_prove_work.proofs.Readings.{tells_as, tells_before}
use Rattle.larch_rewrite_meaning.specs.Sides.{Sides}
use Rattle.larch_script_commands.specs.declared.command.RawInstance.{RawInstance}
use Rattle.larch_term.specs.Tree.{Tree}
use Rattle.larch_term.specs.declared.substitution.Entry.{Entry}
use Rattle.larch_term.specs.declared.variable.Variable.{Variable}
use Rattle.larch_base_meaning.specs.Steps.{after}

-- ---- one after the other

-- further entries behind one
abbrev behind : Result (List Entry) Code → Entry → Result (List Entry) Code
behind rest x = after rest (λ es. Ok (x ∷ es))

read_by : (v : Variable) (r : Result Tree Code) (rest : Result (List Entry) Code)
    → after r (λ t. after rest (λ es. Ok (record { name = v.name; sort = v.sort; term = t } ∷ es)))
    ≡ after (after r (λ t. Ok (record { name = v.name; sort = v.sort; term = t }))) (behind rest)
read_by v (Ok t) rest = refl
read_by v (Err code) rest = refl

found_by : (o : Option Variable) (b : Bool) (read : Variable → Result Tree Code) (rest : Result (List Entry) Code)
    → with_found refusal.Variable o (λ v. unless refusal.Variable b
    (after (read v) (λ t. after rest (λ es. Ok (record { name = v.name; sort = v.sort; term = t } ∷ es)))))
    ≡ after (with_found refusal.Variable o (λ v. unless refusal.Variable b
    (after (read v) (λ t. Ok (record { name = v.name; sort = v.sort; term = t }))))) (behind rest)
found_by None b read rest = refl
found_by (Some v) false read rest = refl
found_by (Some v) true read rest = read_by v (read v) rest

pub instance_first : (p : Proof) (e : Sides) (names : List (List ℕ)) (i : RawInstance) (is : List RawInstance)
    → instantiation p e names (i ∷ is)
    ≡ after (entry_for p e names i) (λ x. after (instantiation p e names is) (λ es. Ok (x ∷ es)))
instance_first p e names i is =
    found_by (variable_in e i.name.name) (stands_once names i.name.name) (λ v. read_lone p v.sort i.term)
    (instantiation p e names is)

-- ---- so far, and those that are left

joined : (old new : List Entry) (x : Entry) (rest : Result (List Entry) Code) → new ≡ old ++ x ∷ []
    → after (after rest (λ es. Ok (x ∷ es))) (λ es. Ok (old ++ es)) ≡ after rest (λ es. Ok (new ++ es))
joined old new x (Err code) h = refl
joined old new x (Ok es) h = ap (λ ds. Ok ds) (sym (ap (λ ds. ds ++ es) h ∙ append_assoc old (x ∷ []) es))

nothing_before : (rest : Result (List Entry) Code) → rest ≡ after rest (λ es. Ok ([] ++ es))
nothing_before (Ok es) = refl
nothing_before (Err code) = refl

module _ (p : Proof) (e : Sides) (names : List (List ℕ)) where
  pub entries_first : (is : List RawInstance)
      → instantiation p e names is ≡ after (instantiation p e names is) (λ es. Ok ([] ++ es))
  entries_first is = nothing_before (instantiation p e names is)

  module _ (whole : Result (List Entry) Code) (old : List Entry) (i : RawInstance) (is : List RawInstance)
      (so : whole ≡ after (instantiation p e names (i ∷ is)) (λ es. Ok (old ++ es))) where
    parted : whole
        ≡ after (after (entry_for p e names i) (behind (instantiation p e names is))) (λ es. Ok (old ++ es))
    parted = so ∙ ap (λ r. after r (λ es. Ok (old ++ es))) (instance_first p e names i is)

    pub entries_next : (x : Entry) (new : List Entry) → entry_for p e names i ≡ Ok x → new ≡ old ++ x ∷ []
        → whole ≡ after (instantiation p e names is) (λ es. Ok (new ++ es))
    entries_next x new h n =
        parted
        ∙ ap (λ r. after (after r (behind (instantiation p e names is))) (λ es. Ok (old ++ es))) h
        ∙ joined old new x (instantiation p e names is) n

    pub entries_refused : (r : CommandRefusal) → Tells (entry_for p e names i) r → Tells whole r
    entries_refused r h =
        tells_as whole _ r parted
        (tells_before (after (entry_for p e names i) (behind (instantiation p e names is))) (λ es. Ok (old ++ es)) r
        (tells_before (entry_for p e names i) (behind (instantiation p e names is)) r h))

  pub entries_done : (whole : Result (List Entry) Code) (found : List Entry) (is : List RawInstance) → is ≡ []
      → whole ≡ after (instantiation p e names is) (λ es. Ok (found ++ es)) → whole ≡ Ok found
  entries_done whole found is none so =
      so ∙ ap (λ js. after (instantiation p e names js) (λ es. Ok (found ++ es))) none
      ∙ ap (λ ds. Ok ds) (append-nil found)

-- ---- one instance

module _ (p : Proof) (e : Sides) (names : List (List ℕ)) (i : RawInstance) where
  -- its variable isn't there
  pub no_variable : variable_in e i.name.name ≡ None → entry_for p e names i ≡ Err refusal.Variable
  no_variable h =
      ap (λ o. with_found refusal.Variable o (λ v. unless refusal.Variable (stands_once names i.name.name)
      (after (read_lone p v.sort i.term) (λ t. Ok (record { name = v.name; sort = v.sort; term = t }))))) h

  module _ (v : Variable) (found : variable_in e i.name.name ≡ Some v) where
    with_variable : entry_for p e names i
        ≡ unless refusal.Variable (stands_once names i.name.name)
        (after (read_lone p v.sort i.term) (λ t. Ok (record { name = v.name; sort = v.sort; term = t })))
    with_variable =
        ap (λ o. with_found refusal.Variable o (λ v. unless refusal.Variable (stands_once names i.name.name)
        (after (read_lone p v.sort i.term) (λ t. Ok (record { name = v.name; sort = v.sort; term = t }))))) found

    -- or it is written more than once
    pub written_twice : stands_once names i.name.name ≡ false → entry_for p e names i ≡ Err refusal.Variable
    written_twice b =
        with_variable
        ∙ ap (λ c. unless refusal.Variable c
        (after (read_lone p v.sort i.term) (λ t. Ok (record { name = v.name; sort = v.sort; term = t })))) b

    module _ (once : stands_once names i.name.name ≡ true) where
      with_one : entry_for p e names i
          ≡ after (read_lone p v.sort i.term) (λ t. Ok (record { name = v.name; sort = v.sort; term = t }))
      with_one =
          with_variable
          ∙ ap (λ c. unless refusal.Variable c
          (after (read_lone p v.sort i.term) (λ t. Ok (record { name = v.name; sort = v.sort; term = t })))) once

      pub entry_read : (t : Tree) → read_lone p v.sort i.term ≡ Ok t
          → entry_for p e names i ≡ Ok (record { name = v.name; sort = v.sort; term = t })
      entry_read t h = with_one ∙ ap (λ r. after r (λ t. Ok (record { name = v.name; sort = v.sort; term = t }))) h

      pub entry_unread : (r : CommandRefusal) → Tells (read_lone p v.sort i.term) r → Tells (entry_for p e names i) r
      entry_unread r h = tells_as (entry_for p e names i) _ r with_one (tells_before (read_lone p v.sort i.term) _ r h)

-- ---- by the name of the fact

pub named_entries : (n : FactName) (is : List RawInstance) (facts : Facts) (p : Proof) (e : Sides)
    (answer : Result (List Entry) Code) → sides_or (find (has_name n) facts.rules) ≡ Ok e
    → instantiation p e (names_in is) is ≡ answer → entries_for n is facts p ≡ answer
named_entries n is facts p e answer h k =
    ap (λ r. after r (λ d. instantiation p d (names_in is) is)) h ∙ k

pub unnamed_entries : (n : FactName) (is : List RawInstance) (facts : Facts) (p : Proof) (r : CommandRefusal)
    → Tells (sides_or (find (has_name n) facts.rules)) r → Tells (entries_for n is facts p) r
unnamed_entries n is facts p r h = tells_before (sides_or (find (has_name n) facts.rules)) _ r h
