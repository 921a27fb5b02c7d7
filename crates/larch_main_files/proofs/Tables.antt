-- Files by their names.
use Rattle.std.proofs.Common.{◌≡◌, ℕ, Bool, true, false, cond, List, [], ◌∷◌, Option, Some, None, Ordering, refl, sym}
use Rattle.std.proofs.Common.{ap, ◌∙◌}
use Rattle.std.specs.Prelude.{unwrap_or}
use Rattle.std.specs.BTreeMap.{is_at}
use Rattle.std.specs.Cmp.Lexicographic.{slice_cmp, bytes_decides, nat_list_cmp_total}
use Rattle.std.specs.List.{AllByRecursion}
use Rattle.std.specs.List.Sorted.{IsStrictlySortedBy}
use Rattle.std.specs.Ordering.{match_ordering, ordering_reverse, is_eq, nat_cmp}
use Rattle.std.specs.declared.cmp.Ordering.TheVariants.{Less, Equal, Greater}
use Rattle.std.specs.Str.{bytes_eq}
use Rattle.std.proofs.lemmas.Map.{lookup-none}
use Rattle.std.proofs.lemmas.Map.Entries.{none_below_head}
use Rattle.std.proofs.lemmas.Map.Keys.{sorted_tail}
use Rattle.std.proofs.lemmas.Map.Text.{is_eq-slice_cmp}
use Rattle.larch_io.specs.Folder.{file_of}
use Rattle.larch_io.proofs.Files.{file_of_found}
use Rattle.larch_traits.specs.Files.{Table, names_of, put_file, text_of}

-- the byte order of names
abbrev pub order : List ℕ → List ℕ → Ordering
order = slice_cmp nat_cmp

-- the names of files are in order, and differ
abbrev pub IsSorted : Table → Type 0
IsSorted files = IsStrictlySortedBy order (names_of files)

pub none_sorted : IsSorted []
unfolding IsStrictlySortedBy
none_sorted = tt

-- a table of files is a folder
pub file_of_table : (files : Table) (name : List ℕ) → file_of files name ≡ text_of files name
file_of_table files name = sym (file_of_found files name)

same_name : (x y : List ℕ) → order x y ≡ Equal → x ≡ y
same_name x y e = (bytes_decides x y).0 (sym (is_eq-slice_cmp x y) ∙ ap is_eq e)

above : (x y : List ℕ) → order x y ≡ Greater → order y x ≡ Less
above x y e = nat_list_cmp_total.antisymm y x ∙ ap ordering_reverse e

-- of two tests that don't both pass, the order doesn't matter
swapped : {A : Type 0} (b c : Bool) (x y z : A) → (b ≡ true → c ≡ false) → cond b x (cond c y z) ≡ cond c y (cond b x z)
swapped true true x y z h = let e = h refl in cc
swapped true false x y z h = refl
swapped false c x y z h = refl

twice : {A : Type 0} (b : Bool) (x y z : A) → cond b x z ≡ cond b x (cond b y z)
twice true x y z = refl
twice false x y z = refl

apart : (x y q : List ℕ) → order x y ≡ Greater → is_eq (order q y) ≡ true → is_eq (order q x) ≡ false
apart x y q e t =
    let q_is_y : q ≡ y = (bytes_decides q y).0 (sym (is_eq-slice_cmp q y) ∙ t) in
    ap (λ n. is_eq (order n x)) q_is_y ∙ ap is_eq (above x y e)

module _ (name text : List ℕ) where
  text_in : (file : List ℕ × List ℕ) (files : Table) (q : List ℕ) (r : Ordering) → order name file.0 ≡ r
      → text_of (put_file files name text) q ≡ cond (is_eq (order q name)) (Some text) (text_of files q)
      → text_of (match_ordering r ((name, text) ∷ file ∷ files) ((file.0, text) ∷ files)
      (file ∷ put_file files name text)) q
      ≡ cond (is_eq (order q name)) (Some text) (text_of (file ∷ files) q)
  text_in file files q Less e h = refl
  text_in file files q Equal e h =
      twice (is_eq (order q file.0)) (Some text) (Some file.1) (text_of files q)
      ∙ ap (λ n. cond (is_eq (order q n)) (Some text) (text_of (file ∷ files) q)) (sym (same_name name file.0 e))
  text_in file files q Greater e h =
      ap (λ t. cond (is_eq (order q file.0)) (Some file.1) t) h
      ∙ swapped (is_eq (order q file.0)) (is_eq (order q name)) (Some file.1) (Some text) (text_of files q)
      (apart name file.0 q e)

  text_after : (files : Table) (q : List ℕ)
      → text_of (put_file files name text) q ≡ cond (is_eq (order q name)) (Some text) (text_of files q)
  text_after [] q = refl
  text_after (file ∷ files) q = text_in file files q (order name file.0) refl (text_after files q)

  -- what a table has once a file is put in
  pub text_put : (files : Table) (q : List ℕ)
      → text_of (put_file files name text) q ≡ cond (bytes_eq q name) (Some text) (text_of files q)
  text_put files q = text_after files q ∙ ap (λ b. cond b (Some text) (text_of files q)) (is_eq-slice_cmp q name)

  all_in : (P : List ℕ → Type 0) (file : List ℕ × List ℕ) (files : Table) (r : Ordering) → P name
      → AllByRecursion P (names_of (file ∷ files)) → AllByRecursion P (names_of (put_file files name text))
      → AllByRecursion P
      (names_of (match_ordering r ((name, text) ∷ file ∷ files) ((file.0, text) ∷ files)
      (file ∷ put_file files name text)))
  all_in P file files Less p a h = (p, a)
  all_in P file files Equal p a h = a
  all_in P file files Greater p a h = (a.0, h)

  all_put : (P : List ℕ → Type 0) (files : Table) → P name → AllByRecursion P (names_of files)
      → AllByRecursion P (names_of (put_file files name text))
  all_put P [] p a = (p, tt)
  all_put P (file ∷ files) p a = all_in P file files (order name file.0) p a (all_put P files p a.1)

  one_sorted : IsSorted ((name, text) ∷ [])
  unfolding IsStrictlySortedBy
  one_sorted = (tt, tt)

  later : (first : List ℕ) → order name first ≡ Less → (names : List (List ℕ))
      → AllByRecursion (λ n. order first n ≡ Less) names → AllByRecursion (λ n. order name n ≡ Less) names
  later first e [] a = tt
  later first e (n ∷ names) a = (nat_list_cmp_total.trans name first n e a.0, later first e names a.1)

  in_front : (file : List ℕ × List ℕ) (files : Table) → order name file.0 ≡ Less → IsSorted (file ∷ files)
      → IsSorted ((name, text) ∷ file ∷ files)
  unfolding IsStrictlySortedBy
  in_front file files e s = ((e, later file.0 e (names_of files) s.0), s)

  behind : (file : List ℕ × List ℕ) (files : Table) → order file.0 name ≡ Less → IsSorted (file ∷ files)
      → IsSorted (put_file files name text) → IsSorted (file ∷ put_file files name text)
  unfolding IsStrictlySortedBy
  behind file files e s h = (all_put (λ n. order file.0 n ≡ Less) files e s.0, h)

  sorted_in : (file : List ℕ × List ℕ) (files : Table) (r : Ordering) → order name file.0 ≡ r → IsSorted (file ∷ files)
      → IsSorted (put_file files name text)
      → IsSorted (match_ordering r ((name, text) ∷ file ∷ files) ((file.0, text) ∷ files)
      (file ∷ put_file files name text))
  sorted_in file files Less e s h = in_front file files e s
  sorted_in file files Equal e s h = s
  sorted_in file files Greater e s h = behind file files (above name file.0 e) s h

  -- names stay in order
  pub sorted_put : (files : Table) → IsSorted files → IsSorted (put_file files name text)
  sorted_put [] s = one_sorted
  sorted_put (file ∷ files) s =
      sorted_in file files (order name file.0) refl s (sorted_put files (sorted_tail order file.0 (names_of files) s))

  found_here : (first : List ℕ) (b : Bool) (o : Option (List ℕ)) → b ≡ true → cond b (Some first) o ≡ Some text
      → first ≡ text
  found_here first true o e h = ap (λ t. unwrap_or t first) h
  found_here first false o e h = cc

  found_later : (first : List ℕ) (b : Bool) (o : Option (List ℕ)) → b ≡ false → cond b (Some first) o ≡ Some text
      → o ≡ Some text
  found_later first true o e h = cc
  found_later first false o e h = h

  nothing_found : {A : Type 0} (o : Option (List ℕ)) → o ≡ None → o ≡ Some text → A
  nothing_found o e h = cc

  again_in : (file : List ℕ × List ℕ) (files : Table) (r : Ordering) → order name file.0 ≡ r → IsSorted (file ∷ files)
      → text_of (file ∷ files) name ≡ Some text
      → (text_of files name ≡ Some text → put_file files name text ≡ files)
      → match_ordering r ((name, text) ∷ file ∷ files) ((file.0, text) ∷ files) (file ∷ put_file files name text)
      ≡ file ∷ files
  again_in file files Less e s h more =
      nothing_found (text_of (file ∷ files) name)
      (lookup-none (is_at (order name)) (file ∷ files) (none_below_head nat_list_cmp_total name file files s e)) h
  again_in file files Equal e s h more =
      ap (λ t. (file.0, t) ∷ files) (sym
      (found_here file.1 (is_eq (order name file.0)) (text_of files name) (ap is_eq e) h))
  again_in file files Greater e s h more =
      ap (λ fs. file ∷ fs) (more (found_later file.1 (is_eq (order name file.0)) (text_of files name) (ap is_eq e) h))

  -- what is there, put in again, changes nothing
  pub put_again : (files : Table) → IsSorted files → text_of files name ≡ Some text → put_file files name text ≡ files
  put_again [] s h = cc
  put_again (file ∷ files) s h =
      again_in file files (order name file.0) refl s h (put_again files (sorted_tail order file.0 (names_of files) s))
