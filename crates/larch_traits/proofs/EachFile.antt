-- What is read of a stem is what the text of its trait file says.
use Rattle.std.proofs.Common.{◌≡◌, ◌⊎◌, inl, inr, refl, sym, ap, ap₂, subst, ◌∙◌, arith, ℕ, suc, ◌+◌, ◌<◌, Bool, true}
use Rattle.std.proofs.Common.{false, cond, ◌&&◌, not, List, [], ◌∷◌, ◌++◌, length, take, drop, Contains, Option}
use Rattle.std.proofs.Common.{Some, None, Result, length-drop}
use Rattle.std.specs.Prelude.{bytes_eq, codes, fold, is_some}
use Rattle.std.specs.BTreeMap.{is_at}
use Rattle.std.specs.Cmp.Lexicographic.{bytes_decides, slice_cmp}
use Rattle.std.specs.List.{list_all, position_or_len}
use Rattle.std.specs.Map.{lookup}
use Rattle.std.specs.Option.{option_map}
use Rattle.std.specs.Ordering.{nat_cmp}
use Rattle.std.proofs.lemmas.Bool.Decides.{nat_tests}
use Rattle.std.proofs.lemmas.List.Sums.{passes_at_first, split_at_first}
use Rattle.std.proofs.Math.Seq.{drop-append-add, take-append_seam}
use Rattle.std.proofs.lemmas.Map.Text.{is_eq-slice_cmp}
use Rattle.std.proofs.lemmas.Map.Views.{Contains-keys_from_lookup}
use Rattle.indexmap.specs.IndexMap.{insert_entry}
use Rattle.larch_base.specs.FileName.{ending_of, is_dot, is_stem, is_stem_byte, is_trait_file, stem_of}
use Rattle.larch_base.specs.declared.fault.Fault.{Fault}
use Rattle.larch_base.proofs.Bools.{and_both, and_left, and_right, true_or_false}
use Rattle.larch_base.proofs.Members.{contains_cases, contains_none}
use Rattle.larch_raw.specs.declared.equation.RawTrait.{RawTrait}
use Rattle.larch_flat.specs.FlatSourcesSources.{Table as Sources, files_in, put_text}
use Rattle.larch_traits.specs.Files.{Table, names_of, text_of}
use Rattle.larch_traits.specs.Reading.{file_of, read_files, read_text, trait_text, with_file}

abbrev Names : Type 0
Names = List (List ℕ)

bytes_same : (a b : List ℕ) → bytes_eq a b ≡ true → a ≡ b
bytes_same a b = (bytes_decides a b).0

bytes_here : (a : List ℕ) → bytes_eq a a ≡ true
bytes_here a = (bytes_decides a a).1 refl

-- the name of a trait file is its stem with the ending
module _ (name : List ℕ) (e : is_trait_file name ≡ true) where
  ending : ending_of name ≡ codes "lsl"
  ending = bytes_same (ending_of name) (codes "lsl") (and_right (is_stem (stem_of name)) _ e)

  inside : position_or_len is_dot name < length name
  inside =
      let long : length (drop (position_or_len is_dot name + 1) name) ≡ 3 = ap length ending in
      omega (arith, length-drop (position_or_len is_dot name + 1) name)

  dot_is : (byte : ℕ) → is_dot byte ≡ true → byte ≡ 46
  dot_is byte d = grind (arith, nat_tests)

  its_file : name ≡ file_of (stem_of name)
  its_file =
      split_at_first is_dot name 0 inside
      ∙ ap₂ (λ b bs. stem_of name ++ (b ∷ bs)) (dot_is _ (passes_at_first is_dot name 0 inside)) ending

-- the stem of a name with the ending
no_dot : (byte : ℕ) → is_stem_byte byte ≡ true → is_dot byte ≡ false
no_dot byte e = grind (arith, nat_tests)

one_more : (n m : ℕ) → n ≡ m → 1 + n ≡ suc m
one_more n m e = omega (arith, e)

dot_behind : (stem : List ℕ) → list_all is_stem_byte stem ≡ true
    → position_or_len is_dot (file_of stem) ≡ length stem
dot_behind [] e = refl
dot_behind (b ∷ stem) e =
    ap (λ t. cond (not t) (1 + position_or_len is_dot (file_of stem)) 0) (no_dot b (and_left _ _ e))
    ∙ one_more _ _ (dot_behind stem (and_right (is_stem_byte b) _ e))

module _ (stem : List ℕ) (e : is_stem stem ≡ true) where
  its_dot : position_or_len is_dot (file_of stem) ≡ length stem
  its_dot = dot_behind stem (and_right _ (list_all is_stem_byte stem) e)

  its_stem : stem_of (file_of stem) ≡ stem
  its_stem = ap (λ n. take n (file_of stem)) its_dot ∙ take-append_seam stem (codes ".lsl")

  its_ending : ending_of (file_of stem) ≡ codes "lsl"
  its_ending = ap (λ n. drop (n + 1) (file_of stem)) its_dot ∙ drop-append-add stem (codes ".lsl") 1

  is_file : is_trait_file (file_of stem) ≡ true
  is_file =
      and_both (is_stem (stem_of (file_of stem))) (bytes_eq (ending_of (file_of stem)) (codes "lsl"))
      (ap is_stem its_stem ∙ e)
      (ap (λ bs. bytes_eq bs (codes "lsl")) its_ending ∙ bytes_here (codes "lsl"))

-- what a table says of a stem behind a text that is put in
put_this : (stem : List ℕ) (v : Result RawTrait Fault) (read : Sources)
    → lookup (bytes_eq stem) (insert_entry bytes_eq read stem v) ≡ Some v
put_this stem v [] = ap (λ b. cond b (Some v) None) (bytes_here stem)
put_this stem v (r ∷ read) = by (bytes_eq stem r.0) refl (put_this stem v read)
  where
    by : (b : Bool) → bytes_eq stem r.0 ≡ b → lookup (bytes_eq stem) (insert_entry bytes_eq read stem v) ≡ Some v
        → lookup (bytes_eq stem) (cond b ((r.0, v) ∷ read) (r ∷ insert_entry bytes_eq read stem v)) ≡ Some v
    by true e h = ap (λ c. cond c (Some v) (lookup (bytes_eq stem) read)) e
    by false e h =
        ap (λ c. cond c (Some r.1) (lookup (bytes_eq stem) (insert_entry bytes_eq read stem v))) e ∙ h

put_other : (stem key : List ℕ) (v : Result RawTrait Fault) (read : Sources) → bytes_eq stem key ≡ false
    → lookup (bytes_eq stem) (insert_entry bytes_eq read key v) ≡ lookup (bytes_eq stem) read
put_other stem key v [] e = ap (λ b. cond b (Some v) None) e
put_other stem key v (r ∷ read) e = by (bytes_eq key r.0) refl (put_other stem key v read e)
  where
    by : (b : Bool) → bytes_eq key r.0 ≡ b
        → lookup (bytes_eq stem) (insert_entry bytes_eq read key v) ≡ lookup (bytes_eq stem) read
        → lookup (bytes_eq stem) (cond b ((r.0, v) ∷ read) (r ∷ insert_entry bytes_eq read key v))
        ≡ cond (bytes_eq stem r.0) (Some r.1) (lookup (bytes_eq stem) read)
    by true f h =
        let away : bytes_eq stem r.0 ≡ false = subst (λ k. bytes_eq stem k ≡ false) (bytes_same key r.0 f) e in
        ap (λ c. cond c (Some v) (lookup (bytes_eq stem) read)) away
        ∙ sym (ap (λ c. cond c (Some r.1) (lookup (bytes_eq stem) read)) away)
    by false f h = ap (λ o. cond (bytes_eq stem r.0) (Some r.1) o) h

-- whether a name is that of the trait file of a stem
abbrev is_of : List ℕ → List ℕ → Bool
is_of stem name = is_trait_file name && bytes_eq stem (stem_of name)

of_file : (stem : List ℕ) → is_stem stem ≡ true → is_of stem (file_of stem) ≡ true
of_file stem e =
    and_both (is_trait_file (file_of stem)) (bytes_eq stem (stem_of (file_of stem))) (is_file stem e)
    (ap (bytes_eq stem) (its_stem stem e) ∙ bytes_here stem)

-- such a name
module _ (stem name : List ℕ) (e : is_of stem name ≡ true) where
  of_stem : stem ≡ stem_of name
  of_stem = bytes_same stem (stem_of name) (and_right (is_trait_file name) _ e)

  of_name : name ≡ file_of stem
  of_name = its_file name (and_left _ _ e) ∙ ap file_of (sym of_stem)

  stem_is : is_stem stem ≡ true
  stem_is = ap is_stem of_stem ∙ and_left _ _ (and_left (is_trait_file name) (bytes_eq stem (stem_of name)) e)

-- a file of another stem says nothing of this one
other_file : (stem name : List ℕ) (text : Option (List ℕ)) (read : Sources) → is_of stem name ≡ false
    → files_in (with_file read name text) stem ≡ files_in read stem
other_file stem name None read e = refl
other_file stem name (Some text) read e = by (is_trait_file name) e
  where
    by : (b : Bool) → (b && bytes_eq stem (stem_of name)) ≡ false
        → files_in (cond b (put_text read (stem_of name) (read_text text)) read) stem ≡ files_in read stem
    by true f = put_other stem (stem_of name) (read_text text) read f
    by false f = refl

-- its own file says what it says
own_file : (stem name text : List ℕ) (read : Sources) → is_of stem name ≡ true
    → files_in (with_file read name (Some text)) stem ≡ Some (read_text text)
own_file stem name text read e =
    ap (λ b. files_in (cond b (put_text read (stem_of name) (read_text text)) read) stem) (and_left _ _ e)
    ∙ ap (λ k. files_in (put_text read k (read_text text)) stem) (sym (of_stem stem name e))
    ∙ put_this stem (read_text text) read

module _ (files : Table) where
  abbrev all_read : Names → Sources → Sources
  all_read names read = fold (λ read name. with_file read name (text_of files name)) read names

  -- where there is a text
  module _ (stem text : List ℕ) (e : is_stem stem ≡ true) (is : text_of files (file_of stem) ≡ Some text) where
    stays : (names : Names) (read : Sources)
        → Contains names (file_of stem) ⊎ (files_in read stem ≡ Some (read_text text))
        → files_in (all_read names read) stem ≡ Some (read_text text)
    stays [] read (inl c) = absurd (contains_none (file_of stem) c)
    stays [] read (inr h) = h
    stays (name ∷ names) read h =
        elim (true_or_false (is_of stem name)) [
          | inl t ↦
              let same : text_of files name ≡ Some text = ap (text_of files) (of_name stem name t) ∙ is in
              stays names (with_file read name (text_of files name))
              (inr (ap (λ o. files_in (with_file read name o) stem) same ∙ own_file stem name text read t))
          | inr f ↦
              let kept : files_in (with_file read name (text_of files name)) stem ≡ files_in read stem =
              other_file stem name (text_of files name) read f in
              stays names (with_file read name (text_of files name))
              (elim h [
                | inl c ↦ elim (contains_cases name (file_of stem) names c) [
                  | inl q ↦ absurd (not_both (is_of stem name) (ap (is_of stem) q ∙ of_file stem e) f)
                  | inr d ↦ inl d
                ]
                | inr q ↦ inr (kept ∙ q)
              ])
        ]
      where
        not_both : (b : Bool) → b ≡ true → b ≡ false → ⊥
        not_both true p q = cc
        not_both false p q = cc

  -- where there is none
  none_comes : (stem : List ℕ) → trait_text files stem ≡ None → (names : Names) (read : Sources)
      → files_in read stem ≡ None → files_in (all_read names read) stem ≡ None
  none_comes stem e [] read h = h
  none_comes stem e (name ∷ names) read h =
      none_comes stem e names (with_file read name (text_of files name))
      (elim (true_or_false (is_of stem name)) [
        | inl t ↦
            let absent : text_of files name ≡ None =
            ap (text_of files) (of_name stem name t)
            ∙ sym (ap (λ b. cond b (text_of files (file_of stem)) None) (stem_is stem name t)) ∙ e in
            ap (λ o. files_in (with_file read name o) stem) absent ∙ h
        | inr f ↦ other_file stem name (text_of files name) read f ∙ h
      ])

  -- a file that has a text is among the files
  listed_file : (name text : List ℕ) → text_of files name ≡ Some text → Contains (names_of files) name
  listed_file name text e =
      Contains-keys_from_lookup {eq = λ q. is_at (slice_cmp nat_cmp q)}
      (λ x y h. bytes_same x y (sym (is_eq-slice_cmp x y) ∙ h)) name files (ap is_some e)

  by_text : (stem : List ℕ) (b : Bool) (o : Option (List ℕ)) → is_stem stem ≡ b → text_of files (file_of stem) ≡ o
      → files_in (read_files files) stem ≡ option_map read_text (cond b o None)
  by_text stem true (Some text) e h =
      stays stem text e h (names_of files) [] (inl (listed_file (file_of stem) text h))
  by_text stem true None e h =
      none_comes stem (ap (λ b. cond b (text_of files (file_of stem)) None) e ∙ h) (names_of files) [] refl
  by_text stem false o e h =
      none_comes stem (ap (λ b. cond b (text_of files (file_of stem)) None) e) (names_of files) [] refl

  -- what is read of a stem
  pub read_by_itself : (stem : List ℕ) → files_in (read_files files) stem ≡ option_map read_text (trait_text files stem)
  read_by_itself stem = by_text stem (is_stem stem) (text_of files (file_of stem)) refl refl
