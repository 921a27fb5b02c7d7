-- Looks at a folder are made in turn.
use Rattle.std.proofs.Common.{◌≡◌, ◌⊎◌, inl, inr, ℕ, suc, ◌+◌, ◌<◌, ◌≤◌, Bool, true, false, cond, nat_lt, ◌||◌}
use Rattle.std.proofs.Common.{List, [], ◌∷◌, ◌++◌, length, get_or, take, drop, fold, All, Option, Some, None, Ok}
use Rattle.std.proofs.Common.{refl, sym, subst, ap, ◌∙◌, add-one, append_assoc, append-nil, option_map, is_some}
use Rattle.std.specs.Prelude.{option_to_list}
use Rattle.std.specs.List.{list_any}
use Rattle.std.specs.Str.{bytes_eq}
use Rattle.std.proofs.Math.Seq.{take-suc}
use Rattle.std.proofs.lemmas.List.{take-append-drop, take_all}
use Rattle.std.proofs.lemmas.List.Elements.{All-cons, All-nil, All-push}
use Rattle.std.proofs.lemmas.List.Folds.{list_any-append}
use Rattle.std.proofs.lemmas.List.Sums.{fold-append, fold_push}
use Rattle.larch_base.specs.declared.limits.TheConstants.{MAX_FILE_BYTES}
use Rattle.larch_io.specs.Folder.{FileMap, IsFile, with_look}
use Rattle.larch_traits.specs.Files.{Table, has_file, put_file, text_of}
use Rattle.larch_words.specs.declared.call.Call.{Call}
use Rattle.larch_words.specs.declared.call.Call.TheVariants as call_
use Rattle.larch_main_files.specs.Gather.{Whole, putting}
use Rattle.larch_main_files.specs.Look.{IsSeen, Looks, Shows}
use Rattle.larch_main_status.specs.Limits.{put_is_refused}
use Rattle.larch_main_files.specs.Turns.{CallLooks, IsThere, LookInTurn, LooksOnce, looks_for, looks_of, next_look}
use Rattle.larch_main_files.proofs.Gathers.{whole_is}
use Rattle.larch_main_files.proofs.Tables.{text_put}

-- ---- the looks for names

-- the looks go on from earlier ones
abbrev GoesOn : List (List ℕ) → List (List ℕ) → Type 0
GoesOn seen all = (more : List (List ℕ)) × (seen ++ more ≡ all)

goes_by : (seen names : List (List ℕ)) (name : List ℕ) (b : Bool)
    → ((other : List (List ℕ)) → GoesOn other (fold next_look other names))
    → GoesOn seen (fold next_look (cond b seen (seen ++ name ∷ [])) names)
goes_by seen names name true go = go seen
goes_by seen names name false go =
    let further = go (seen ++ name ∷ []) in
    (name ∷ further.0, sym (append_assoc seen (name ∷ []) further.0) ∙ further.1)

goes_on : (names seen : List (List ℕ)) → GoesOn seen (fold next_look seen names)
goes_on [] seen = ([], append-nil seen)
goes_on (name ∷ names) seen =
    goes_by seen names name (list_any (bytes_eq name) seen) (λ other. goes_on names other)

-- the looks for the first names are the first looks for all
front_looks : (names : List (List ℕ)) (i : ℕ) → GoesOn (looks_for (take i names)) (looks_for names)
front_looks names i =
    let further = goes_on (drop i names) (looks_for (take i names)) in (
      further.0,
      further.1 ∙ (sym (fold-append next_look [] (take i names) (drop i names))
          ∙ ap looks_for (take-append-drop i names)),
    )

-- one name more
next_by : (names : List (List ℕ)) (i : ℕ) (name : List ℕ) → i < length names → name ≡ get_or names i name
    → looks_for (take (suc i) names) ≡ next_look (looks_for (take i names)) name
next_by names i name inside is =
    ap looks_for (take-suc names i name inside ∙ ap (λ n. take i names ++ n ∷ []) (sym is))
    ∙ fold_push next_look [] (take i names) name

known_look : (seen : List (List ℕ)) (name : List ℕ) → list_any (bytes_eq name) seen ≡ true → next_look seen name ≡ seen
known_look seen name e = ap (λ b. cond b seen (seen ++ name ∷ [])) e

new_look : (seen : List (List ℕ)) (name : List ℕ) → list_any (bytes_eq name) seen ≡ false
    → next_look seen name ≡ seen ++ name ∷ []
new_look seen name e = ap (λ b. cond b seen (seen ++ name ∷ [])) e

-- ---- told looks

no_more_told : (before : Option (List (List ℕ))) → before ≡ option_map (λ looks. looks ++ []) before
no_more_told None = refl
no_more_told (Some looks) = ap Some (sym (append-nil looks))

one_more_told : (before : Option (List (List ℕ))) (seen : List (List ℕ)) (name : List ℕ)
    → with_look (option_map (λ looks. looks ++ seen) before) name
    ≡ option_map (λ looks. looks ++ (seen ++ name ∷ [])) before
one_more_told None seen name = refl
one_more_told (Some looks) seen name = ap Some (append_assoc looks seen (name ∷ []))

further_told : (before : Option (List (List ℕ))) (name : List ℕ) (seen : List (List ℕ))
    → option_map (λ looks. looks ++ seen) (with_look before name)
    ≡ option_map (λ looks. looks ++ (name ∷ seen)) before
further_told None name seen = refl
further_told (Some looks) name seen = ap Some (append_assoc looks (name ∷ []) seen)

-- a name is looked for whose file wasn't put in before
pub looked_new : (known : Bool) (before now : Option (List (List ℕ))) (name : List ℕ) → known ≡ false
    → now ≡ with_look before name
    → LooksOnce known before now name
looked_new known before now name e once = subst (λ b. LooksOnce b before now name) (sym e) once

-- ---- the files of names that were looked for

-- these names were looked for, their files are there, and were put in
pub record Searched (told : Option FileMap) (before now : Option (List (List ℕ))) (done : List (List ℕ))
    (files : Table)
    : Type 0 where
  pub looks : now ≡ option_map (λ looks. looks ++ looks_for done) before
  pub known : (q : List ℕ) → has_file files q ≡ list_any (bytes_eq q) (looks_for done)
  pub there : All (IsThere told) (looks_for done)

pub nothing_searched : (told : Option FileMap) (before : Option (List (List ℕ))) → Searched told before before [] []
nothing_searched told before = record {
  looks = no_more_told before;
  known = λ q. refl;
  there = All-nil (IsThere told);
}

is_there : (told : Option FileMap) (name text : List ℕ) → IsSeen told name (Some text) → IsThere told name
is_there None name text h = (text, tt)
is_there (Some folder) name text h = (text, h)

put_known : (b : Bool) (text : List ℕ) (o : Option (List ℕ)) (a : Bool) → is_some o ≡ a
    → is_some (cond b (Some text) o) ≡ (a || (b || false))
put_known true text o true e = refl
put_known true text o false e = refl
put_known false text o true e = e
put_known false text o false e = e

module _ (told : Option FileMap) (before now later : Option (List (List ℕ))) (names : List (List ℕ)) (i : ℕ)
    (name : List ℕ) (files more : Table) (inside : i < length names) (is : name ≡ get_or names i name)
    (s : Searched told before now (take i names) files)
  where
    abbrev seen : List (List ℕ)
    seen = looks_for (take i names)

    -- a name that was looked for isn't looked for again
    again : has_file files name ≡ true → more ≡ files → LooksOnce (has_file files name) now later name
        → Searched told before later (take (suc i) names) more
    again h same once =
        let e : looks_for (take (suc i) names) ≡ seen =
        next_by names i name inside is ∙ known_look seen name (sym (s.known name) ∙ h) in
        let stays : later ≡ now = subst (λ b. LooksOnce b now later name) h once in
        record {
          looks = stays ∙ (s.looks ∙ ap (λ xs. option_map (λ looks. looks ++ xs) before) (sym e));
          known = λ q. ap (λ t. has_file t q) same ∙ (s.known q ∙ ap (λ xs. list_any (bytes_eq q) xs) (sym e));
          there = subst (All (IsThere told)) (sym e) s.there;
        }

    -- a file is put in
    put_in : has_file files name ≡ false → (text : List ℕ) → IsSeen told name (Some text)
        → put_file files name text ≡ more → LooksOnce (has_file files name) now later name
        → Searched told before later (take (suc i) names) more
    put_in h text shown made once =
        let e : looks_for (take (suc i) names) ≡ seen ++ name ∷ [] =
        next_by names i name inside is ∙ new_look seen name (sym (s.known name) ∙ h) in
        let one : later ≡ with_look now name = subst (λ b. LooksOnce b now later name) h once in
        record {
          looks =
              one ∙ (ap (λ o. with_look o name) s.looks ∙ (one_more_told before seen name
              ∙ ap (λ xs. option_map (λ looks. looks ++ xs) before) (sym e)));
          known = λ q.
              ap (λ t. has_file t q) (sym made)
              ∙ (ap is_some (text_put name text files q)
              ∙ (put_known (bytes_eq q name) text (text_of files q) (list_any (bytes_eq q) seen) (s.known q)
              ∙ (sym (list_any-append (bytes_eq q) seen (name ∷ []))
              ∙ ap (λ xs. list_any (bytes_eq q) xs) (sym e))));
          there = subst (All (IsThere told)) (sym e)
              (All-push (IsThere told) seen name s.there (is_there told name text shown));
        }

    shown : (o : Option (List ℕ)) → has_file files name ≡ false → IsSeen told name o
        → putting files name o ≡ Whole more → LooksOnce (has_file files name) now later name
        → Searched told before later (take (suc i) names) more
    shown None h w comes once = cc
    shown (Some text) h w comes once =
        put_in h text w (whole_is (nat_lt MAX_FILE_BYTES (length text) || put_is_refused files name)
        (put_file files name text) more comes).1 once

    went : ((has_file files name ≡ true) × (more ≡ files)) ⊎ Shows told files name (Whole more)
        → LooksOnce (has_file files name) now later name → Searched told before later (take (suc i) names) more
    went (inl known) once = again known.0 known.1 once
    went (inr shows) once = shown shows.seen shows.new shows.is_seen shows.comes_to once

    -- a look at the name went well
    pub searched_on : (told' : Option FileMap) → told' ≡ told → (done : Unit {0})
        → Looks told' files more name (Ok done)
        → LooksOnce (has_file files name) now later name → Searched told before later (take (i + 1) names) more
    searched_on told' same done looked once =
        subst (λ n. Searched told before later (take n names) more) (sym (add-one i))
        (went
        (subst (λ t. ((has_file files name ≡ true) × (more ≡ files)) ⊎ Shows t files name (Whole more)) same looked)
        once)

    -- a look at the name was refused
    ended_by : (b : Bool) → has_file files name ≡ b → LooksOnce b now later name
        → LookInTurn told (looks_for names) before later
    ended_by true h once =
        let further = front_looks names i in
        record {
          found = seen;
          last = None;
          rest = further.0;
          order = further.1;
          there = s.there;
          looks = once ∙ (s.looks ∙ ap (λ xs. option_map (λ looks. looks ++ xs) before) (sym (append-nil seen)));
        }
    ended_by false h once =
        let e : looks_for (take (suc i) names) ≡ seen ++ name ∷ [] =
        next_by names i name inside is ∙ new_look seen name (sym (s.known name) ∙ h) in
        let further = front_looks names (suc i) in
        record {
          found = seen;
          last = Some name;
          rest = further.0;
          order =
              sym (append_assoc seen (name ∷ []) further.0) ∙ (ap (λ xs. xs ++ further.0) (sym e) ∙ further.1);
          there = s.there;
          looks = once ∙ (ap (λ o. with_look o name) s.looks ∙ one_more_told before seen name);
        }

    pub searched_until : LooksOnce (has_file files name) now later name → LookInTurn told (looks_for names) before later
    searched_until once = ended_by (has_file files name) refl once

-- all names were looked for
pub searched_all : (told : Option FileMap) (before now : Option (List (List ℕ))) (names : List (List ℕ)) (i : ℕ)
    (files : Table) → length names ≤ i
    → Searched told before now (take i names) files → LookInTurn told (looks_for names) before now
searched_all told before now names i files past s =
    let e : looks_for (take i names) ≡ looks_for names = ap looks_for (take_all i names past) in
    record {
      found = looks_for (take i names);
      last = None;
      rest = [];
      order = append-nil (looks_for (take i names)) ∙ e;
      there = s.there;
      looks =
          s.looks ∙ ap (λ xs. option_map (λ looks. looks ++ xs) before) (sym (append-nil (looks_for (take i names))));
    }

-- ---- a certificate or a model first

-- it isn't there, or can't be read
pub evidence_alone : (told : Option FileMap) (evidence : List ℕ) (names : List (List ℕ))
    (before now : Option (List (List ℕ)))
    → now ≡ with_look before evidence
    → LookInTurn told (evidence ∷ looks_for names) before now
evidence_alone told evidence names before now e = record {
  found = [];
  last = Some evidence;
  rest = looks_for names;
  order = refl;
  there = All-nil (IsThere told);
  looks = e;
}

-- it is there, and then the files are looked for
pub evidence_first : (told told' : Option FileMap) (evidence bytes : List ℕ) (names : List (List ℕ))
    (before now later : Option (List (List ℕ)))
    → told' ≡ told → IsFile told evidence bytes → now ≡ with_look before evidence
    → LookInTurn told' (looks_for names) now later → LookInTurn told (evidence ∷ looks_for names) before later
evidence_first told told' evidence bytes names before now later same is e t = record {
  found = evidence ∷ t.found;
  last = t.last;
  rest = t.rest;
  order = ap (λ xs. evidence ∷ xs) t.order;
  there = All-cons (IsThere told) evidence t.found (bytes, is) (subst (λ o. All (IsThere o) t.found) same t.there);
  looks =
      t.looks ∙ (ap (λ o. option_map (λ looks. looks ++ (t.found ++ option_to_list t.last)) o) e
      ∙ further_told before evidence (t.found ++ option_to_list t.last));
}

-- ---- calls

-- nothing was looked for
pub no_look : (call : Call) (told : Option FileMap) (looks : Option (List (List ℕ))) → CallLooks call told looks looks
no_look (call_.Session limit) told looks = refl
no_look (call_.OnFiles question names) told looks = record {
  found = [];
  last = None;
  rest = looks_of question names;
  order = refl;
  there = All-nil (IsThere told);
  looks = no_more_told looks;
}
no_look (call_.Migrate certificate) told looks = record {
  found = [];
  last = None;
  rest = certificate ∷ [];
  order = refl;
  there = All-nil (IsThere told);
  looks = no_more_told looks;
}
no_look (call_.Generate traits) told looks = refl
no_look call_.Nothing told looks = refl

-- what the words ask for
pub looks_as : (call asked : Call) (told : Option FileMap) (before now : Option (List (List ℕ))) → call ≡ asked
    → CallLooks call told before now
    → CallLooks asked told before now
looks_as call asked told before now e h = subst (λ (c : Call). CallLooks c told before now) e h
