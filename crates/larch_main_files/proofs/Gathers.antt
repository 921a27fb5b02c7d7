-- How the files that words name come together.
use Rattle.std.proofs.Common.{◌≡◌, ◌⊎◌, inl, inr, ℕ, Bool, true, false, cond, nat_lt, nat_le, not, ◌&&◌, ◌||◌, List, []}
use Rattle.std.proofs.Common.{◌∷◌, length, get_or, drop, ◌+◌, ◌<◌, ◌≤◌, Option, Some, None, Ok, Err, refl}
use Rattle.std.proofs.Common.{sym, subst, ap, ◌∙◌}
use Rattle.std.specs.Prelude.{IfSome, is_some, unwrap_or}
use Rattle.std.specs.Cmp.Lexicographic.{bytes_decides, nat_list_eq_equiv}
use Rattle.std.specs.Str.{bytes_eq}
use Rattle.std.proofs.lemmas.List.{drop_all, drop_more}
use Rattle.larch_base.specs.declared.limits.TheConstants.{MAX_FILES, MAX_FILE_BYTES}
use Rattle.larch_base.proofs.Bools.{true_or_false}
use Rattle.larch_io.specs.Folder.{FileMap, file_of}
use Rattle.larch_traits.specs.Files.{Table, has_file, put_file, text_of}
use Rattle.larch_main_files.specs.Gather.{Gathered, Whole, Absent, TooLarge, IsFolder, putting, and_then, gather_names}
use Rattle.larch_io.specs.declared.refusal.FolderRefusal.{FolderRefusal}
use Rattle.larch_io.specs.declared.refusal.FolderRefusal.TheVariants.{Failed, Memory, NotThere, TooLong}
use Rattle.larch_main_files.specs.declared.gather.GatherRefusal.{GatherRefusal}
use Rattle.larch_main_files.specs.declared.gather.GatherRefusal.TheVariants as refusal_
use Rattle.larch_main_files.specs.Look.{IsRefusalFor, IsSeen, Shows, Looks, AreOf, Gathers, ComesTo, found_of}
use Rattle.larch_main_status.specs.Limits.{put_is_refused}
use Rattle.larch_main_files.proofs.Tables.{none_sorted, file_of_table, text_put, sorted_put, put_again}

-- no file has been looked for yet
pub begins : (told : Option FileMap) (names : List (List ℕ)) → Gathers told names names []
begins told names = record {
  sorted = none_sorted;
  short = λ name bytes e. cc;
  are_of = λ name bytes e. cc;
  onward = λ folder h. refl;
}

there : (o : Option (List ℕ)) → is_some o ≡ true → (bytes : List ℕ) × (o ≡ Some bytes)
there None e = cc
there (Some bytes) e = (bytes, refl)

absent : (o : Option (List ℕ)) → is_some o ≡ false → o ≡ None
absent None e = refl
absent (Some bytes) e = cc

impossible : {A : Type 0} (o : Option (List ℕ)) (bytes : List ℕ) → is_some o ≡ false → o ≡ Some bytes → A
impossible None bytes e h = cc
impossible (Some found) bytes e h = cc

-- what one name more comes to, by what the folder has under it
one_more : (folder : FileMap) (files : Table) (name : List ℕ) (rest : List (List ℕ)) (seen : Option (List ℕ))
    (found : Gathered Table)
    → file_of folder name ≡ seen → putting files name seen ≡ found
    → gather_names folder files (name ∷ rest) ≡ and_then found (λ more. gather_names folder more rest)
one_more folder files name rest seen found is comes =
    ap (λ s. and_then (putting files name s) (λ more. gather_names folder more rest)) is
    ∙ ap (λ f. and_then f (λ more. gather_names folder more rest)) comes

within : (files : Table) (name bytes : List ℕ) (a b : Bool) → nat_lt MAX_FILE_BYTES (length bytes) ≡ a
    → put_is_refused files name ≡ b → a ≡ false → b ≡ false
    → putting files name (Some bytes) ≡ Whole (put_file files name bytes)
within files name bytes a b p q e f =
    ap (λ t. cond (t || put_is_refused files name) TooLarge (Whole (put_file files name bytes))) (p ∙ e)
    ∙ ap (λ t. cond t TooLarge (Whole (put_file files name bytes))) (q ∙ f)

known_not_refused : (files : Table) (name : List ℕ) → has_file files name ≡ true → put_is_refused files name ≡ false
known_not_refused files name h = ap (λ b. not b && nat_le MAX_FILES (length files)) h

-- a name that is there already is passed over
pub passes : (told : Option FileMap) (names rest : List (List ℕ)) (files : Table) (name : List ℕ)
    → Gathers told names (name ∷ rest) files
    → has_file files name ≡ true → Gathers told names rest files
passes told names rest files name g h =
    let is = there (text_of files name) h in
    let same : putting files name (Some is.0) ≡ Whole files =
    within files name is.0 _ _ refl refl (g.short name is.0 is.1) (known_not_refused files name h)
    ∙ ap Whole (put_again name is.0 files g.sorted is.1) in
    record {
      sorted = g.sorted;
      short = g.short;
      are_of = g.are_of;
      onward =
          λ folder of. g.onward folder of
          ∙ one_more folder files name rest (Some is.0) (Whole files) (of name is.0 is.1) same;
    }

pub whole_is : (b : Bool) (t more : Table) → cond b TooLarge (Whole t) ≡ Whole more → (b ≡ false) × (t ≡ more)
whole_is true t more e = cc
whole_is false t more e = (refl, cc)

left_false : (a b : Bool) → (a || b) ≡ false → a ≡ false
left_false true b e = cc
left_false false b e = refl

module _ (name text : List ℕ) (files : Table) (new : has_file files name ≡ false) where
  -- what was there stays
  kept : (q bytes : List ℕ) → text_of files q ≡ Some bytes → text_of (put_file files name text) q ≡ Some bytes
  kept q bytes e = elim (true_or_false (bytes_eq q name)) [
    | inl same ↦ impossible (text_of files q) bytes (ap (λ n. has_file files n) ((bytes_decides q name).0 same) ∙ new) e
    | inr other ↦ text_put name text files q ∙ ap (λ b. cond b (Some text) (text_of files q)) other ∙ e
  ]

  added : text_of (put_file files name text) name ≡ Some text
  added =
      text_put name text files name ∙ ap (λ b. cond b (Some text) (text_of files name)) (nat_list_eq_equiv.refl name)

  -- what holds of each file and of the new one holds of all
  of_all : (P : List ℕ → List ℕ → Type 0) → ((q bytes : List ℕ) → text_of files q ≡ Some bytes → P q bytes)
      → P name text
      → (q bytes : List ℕ) → text_of (put_file files name text) q ≡ Some bytes → P q bytes
  of_all P all one q bytes e = elim (true_or_false (bytes_eq q name)) [
    | inl same ↦
        let is : Some text ≡ Some bytes =
        sym (text_put name text files q ∙ ap (λ b. cond b (Some text) (text_of files q)) same) ∙ e in
        subst (λ n. P n bytes) (sym ((bytes_decides q name).0 same))
        (subst (P name) (ap (λ o. unwrap_or o text) is) one)
    | inr other ↦
        all q bytes (sym (text_put name text files q ∙ ap (λ b. cond b (Some text) (text_of files q)) other) ∙ e)
  ]

puts_it : (told : Option FileMap) (names rest : List (List ℕ)) (files : Table) (name text : List ℕ)
    → Gathers told names (name ∷ rest) files
    → has_file files name ≡ false → IsSeen told name (Some text) → nat_lt MAX_FILE_BYTES (length text) ≡ false
    → putting files name (Some text) ≡ Whole (put_file files name text)
    → Gathers told names rest (put_file files name text)
puts_it told names rest files name text g new seen small comes = record {
  sorted = sorted_put name text files g.sorted;
  short = of_all name text files new (λ q bytes. nat_lt MAX_FILE_BYTES (length bytes) ≡ false) g.short small;
  are_of = of_all name text files new (λ q bytes. IsSeen told q (Some bytes)) g.are_of seen;
  onward = λ folder of.
      g.onward folder (λ q bytes e. of q bytes (kept name text files new q bytes e))
      ∙ one_more folder files name rest (Some text) (Whole (put_file files name text))
      (of name text (added name text files new)) comes;
}

puts_seen : (told : Option FileMap) (names rest : List (List ℕ)) (files more : Table) (name : List ℕ)
    → Gathers told names (name ∷ rest) files
    → has_file files name ≡ false → (seen : Option (List ℕ)) → IsSeen told name seen
    → putting files name seen ≡ Whole more → Gathers told names rest more
puts_seen told names rest files more name g new None is comes = cc
puts_seen told names rest files more name g new (Some text) is comes =
    let made = whole_is (nat_lt MAX_FILE_BYTES (length text) || put_is_refused files name)
    (put_file files name text) more comes in
    subst (Gathers told names rest) made.1
    (puts_it told names rest files name text g new is (left_false _ _ made.0) (comes ∙ ap Whole (sym made.1)))

-- a file is put in
pub puts : (told : Option FileMap) (names rest : List (List ℕ)) (files more : Table) (name : List ℕ)
    → Gathers told names (name ∷ rest) files
    → Shows told files name (Whole more) → Gathers told names rest more
puts told names rest files more name g s = puts_seen told names rest files more name g s.new s.seen s.is_seen s.comes_to

-- a look at a name that went well
pub goes_on : (told : Option FileMap) (names rest : List (List ℕ)) (old new : Table) (name : List ℕ)
    → Gathers told names (name ∷ rest) old
    → ((has_file old name ≡ true) × (new ≡ old)) ⊎ Shows told old name (Whole new) → Gathers told names rest new
goes_on told names rest old new name g look = elim look [
  | inl was ↦ subst (Gathers told names rest) (sym was.1) (passes told names rest old name g was.0)
  | inr shows ↦ puts told names rest old new name g shows
]

-- a table of files has itself
own : (files : Table) → AreOf (Some files) files
own files q bytes e = file_of_table files q ∙ e

folder_with : (files : Table) (name : List ℕ) → has_file files name ≡ false → (seen : Option (List ℕ))
    → (folder : FileMap) × AreOf (Some folder) files × (file_of folder name ≡ seen)
folder_with files name new None = (files, own files, file_of_table files name ∙ absent (text_of files name) new)
folder_with files name new (Some text) = (
  (name, text) ∷ files,
  (λ q bytes e. elim (true_or_false (bytes_eq q name)) [
    | inl same ↦ impossible (text_of files q) bytes (ap (λ n. has_file files n) ((bytes_decides q name).0 same) ∙ new) e
    | inr other ↦ ap (λ b. cond b (Some text) (file_of files q)) other ∙ own files q bytes e
  ]),
  ap (λ b. cond b (Some text) (file_of files name)) (nat_list_eq_equiv.refl name),
)

-- some folder has the files and what was seen: the told one where it is told
folder_for : (told : Option FileMap) (files : Table) (name : List ℕ) (seen : Option (List ℕ))
    → has_file files name ≡ false → IsSeen told name seen → AreOf told files
    → (folder : FileMap) × IsFolder told folder × AreOf (Some folder) files × (file_of folder name ≡ seen)
folder_for None files name seen new is of = let made = folder_with files name new seen in (made.0, tt, made.1, made.2)
folder_for (Some folder) files name seen new is of = (folder, refl, of, is)

-- a name that stops it
pub stops : (told : Option FileMap) (names rest : List (List ℕ)) (files : Table) (name : List ℕ)
    (found : Gathered Table) → Gathers told names (name ∷ rest) files
    → Shows told files name found → ((more : Table → Gathered Table) → and_then found more ≡ found)
    → ComesTo told names found
stops told names rest files name found g s ends =
    let made = folder_for told files name s.seen s.new s.is_seen g.are_of in
    record {
      folder = made.0;
      is_folder = made.1;
      is_found =
          g.onward made.0 made.2 ∙ one_more made.0 files name rest s.seen found made.3 s.comes_to
          ∙ ends (λ more. gather_names made.0 more rest);
    }

-- all names are done
pub ends : (told : Option FileMap) (names : List (List ℕ)) (files : Table) → Gathers told names [] files
    → ComesTo told names (Whole files)
ends None names files g = record { folder = files; is_folder = tt; is_found = g.onward files (own files) }
ends (Some folder) names files g = record { folder = folder; is_folder = refl; is_found = g.onward folder g.are_of }

-- the loop is at a name
module _ (told now : Option FileMap) (same : now ≡ told) (names : List (List ℕ)) (files more : Table) (i : ℕ)
    (name : List ℕ)
    (inside : i < length names) (is : name ≡ get_or names i name) (g : Gathers told names (drop i names) files) where
  at_name : Gathers told names (name ∷ drop (i + 1) names) files
  at_name =
      subst (λ rest. Gathers told names rest files)
      (drop_more names i name inside ∙ ap (λ n. n ∷ drop (i + 1) names) (sym is)) g

  stops_as : (found : Gathered Table) → Shows now files name found
      → ((onward : Table → Gathered Table) → and_then found onward ≡ found) → ComesTo told names found
  stops_as found shows ends =
      stops told names (drop (i + 1) names) files name found at_name
      (subst (λ t. Shows t files name found) same shows) ends

  -- the folder refused to give the file
  pub refused_at : (why : FolderRefusal) (refusal : GatherRefusal) → Looks now files more name (Err why)
      → IsRefusalFor name why refusal
      → IfSome (found_of {A = Table} (Err refusal)) (λ found. ComesTo told names found)
  refused_at NotThere (refusal_.Absent other) shows is =
      subst (λ n. ComesTo told names (Absent n)) (sym is) (stops_as (Absent name) shows (λ onward. refl))
  refused_at NotThere refusal_.TooLarge shows is = absurd is
  refused_at NotThere refusal_.ReadFault shows is = absurd is
  refused_at NotThere refusal_.Memory shows is = tt
  refused_at TooLong (refusal_.Absent other) shows is = cc
  refused_at TooLong refusal_.TooLarge shows is = stops_as TooLarge shows (λ onward. refl)
  refused_at TooLong refusal_.ReadFault shows is = cc
  refused_at TooLong refusal_.Memory shows is = tt
  refused_at Failed (refusal_.Absent other) shows is = cc
  refused_at Failed refusal_.TooLarge shows is = cc
  refused_at Failed refusal_.ReadFault shows is = tt
  refused_at Failed refusal_.Memory shows is = tt
  refused_at Memory (refusal_.Absent other) shows is = cc
  refused_at Memory refusal_.TooLarge shows is = cc
  refused_at Memory refusal_.ReadFault shows is = tt
  refused_at Memory refusal_.Memory shows is = tt

  pub went_on : (done : Unit {0}) → Looks now files more name (Ok done) → Gathers told names (drop (i + 1) names) more
  went_on done looked =
      goes_on told names (drop (i + 1) names) files more name at_name
      (subst (λ t. ((has_file files name ≡ true) × (more ≡ files)) ⊎ Shows t files name (Whole more)) same looked)

pub ends_at : (told : Option FileMap) (names : List (List ℕ)) (files : Table) (i : ℕ) → length names ≤ i
    → Gathers told names (drop i names) files → ComesTo told names (Whole files)
ends_at told names files i past g =
    ends told names files (subst (λ rest. Gathers told names rest files) (drop_all i names past) g)
