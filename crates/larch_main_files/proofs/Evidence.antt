-- A certificate or a model, and files that a folder has.
use Rattle.std.proofs.Common.{◌≡◌, refl, sym, ap, subst, ◌∙◌, ℕ, ◌≤◌, Bool, true, false, cond, nat_lt, ◌&&◌, List, []}
use Rattle.std.proofs.Common.{◌∷◌, length, Option, Some, None, inl, inr, arith, Err}
use Rattle.std.specs.Prelude.{IfSome}
use Rattle.std.specs.List.{list_all}
use Rattle.std.specs.Str.{bytes_eq}
use Rattle.std.specs.Cmp.Lexicographic.{bytes_decides, nat_list_eq_equiv}
use Rattle.std.proofs.lemmas.Bool.Decides.{nat_tests}
use Rattle.larch_base.specs.FileName.{is_file_name}
use Rattle.larch_base.specs.declared.limits.TheConstants.{MAX_FILE_BYTES}
use Rattle.larch_base.proofs.Bools.{true_or_false}
use Rattle.larch_io.specs.Folder.{FileMap, file_of, IsFile}
use Rattle.larch_io.specs.Refusal.{FileRefused}
use Rattle.larch_io.specs.declared.refusal.FolderRefusal.{FolderRefusal}
use Rattle.larch_io.specs.declared.refusal.FolderRefusal.TheVariants.{Failed, Memory, NotThere, TooLong}
use Rattle.larch_main_files.specs.declared.gather.GatherRefusal.{GatherRefusal}
use Rattle.larch_main_files.specs.declared.gather.GatherRefusal.TheVariants as refusal_
use Rattle.larch_traits.specs.Files.{Table}
use Rattle.larch_main_files.specs.Gather.{Gathered, Whole, Absent, TooLarge, IsFolder, and_then, fetching, gather_names}
use Rattle.larch_main_files.specs.Gather.{putting}
use Rattle.larch_main_files.specs.Look.{ComesTo, EvidenceFor, Fetches, IsRefusalFor, IsSeen, found_of}
use Rattle.larch_main_files.specs.declared.gather.Evidence.{Evidence}
use Rattle.larch_main_files.proofs.Looking.{seen_absent, seen_file, seen_long}

-- what a folder gave under the name of a certificate or a model
pub fetched : (told : Option FileMap) (name bytes : List ℕ) → IsFile told name bytes → length bytes ≤ MAX_FILE_BYTES
    → Fetches told name (Whole bytes)
fetched told name bytes is short =
    let small : nat_lt MAX_FILE_BYTES (length bytes) ≡ false = grind (arith, nat_tests) in
    record {
      seen = Some bytes;
      is_seen = seen_file told name bytes is;
      comes_to = ap (λ b. cond b TooLarge (Whole bytes)) small;
    }

fetched_long : (told : Option FileMap) (name : List ℕ) → FileRefused TooLong told name → Fetches told name TooLarge
fetched_long told name why =
    let long = seen_long told name why in
    let large : nat_lt MAX_FILE_BYTES (length long.0) ≡ true = let more = long.2 in grind (arith, nat_tests, more) in
    record { seen = Some long.0; is_seen = long.1; comes_to = ap (λ b. cond b TooLarge (Whole long.0)) large }

-- another folder has the same under each of these names
same_gathered : (folder other : FileMap) (names : List (List ℕ)) → list_all is_file_name names ≡ true
    → ((name : List ℕ) → is_file_name name ≡ true → file_of other name ≡ file_of folder name) → (files : Table)
    → gather_names other files names ≡ gather_names folder files names
same_gathered folder other [] all same files = refl
same_gathered folder other (name ∷ names) all same files =
    let p = both (is_file_name name) (list_all is_file_name names) all in
    ap (λ seen. and_then (putting files name seen) (λ more. gather_names other more names)) (same name p.0)
    ∙ then_same (putting files name (file_of folder name)) (same_gathered folder other names p.1 same)
  where
    both : (a b : Bool) → (a && b) ≡ true → (a ≡ true) × (b ≡ true)
    both true b e = (refl, e)
    both false b e = cc

    then_same : {A B : Type 0} (found : Gathered A) {f g : A → Gathered B} → ((a : A) → f a ≡ g a)
        → and_then found f ≡ and_then found g
    then_same (Whole a) h = h a
    then_same (Absent name) h = refl
    then_same TooLarge h = refl

-- some folder, the told one where it is told, has this under the name of evidence and the files of the other one
record Joined (told : Option FileMap) (evidence : List ℕ) (seen : Option (List ℕ)) (folder : FileMap) : Type 0 where
  pub both : FileMap
  pub is_folder : IsFolder told both
  pub is_seen : file_of both evidence ≡ seen
  pub same : (name : List ℕ) → is_file_name name ≡ true → file_of both name ≡ file_of folder name

joined_with : (evidence : List ℕ) → is_file_name evidence ≡ false → (bytes : List ℕ) (folder : FileMap)
    → Joined None evidence (Some bytes) folder
joined_with evidence is bytes folder = record {
  both = (evidence, bytes) ∷ folder;
  is_folder = tt;
  is_seen = ap (λ b. cond b (Some bytes) (file_of folder evidence)) (nat_list_eq_equiv.refl evidence);
  same = λ name named. ap (λ b. cond b (Some bytes) (file_of folder name)) (apart name named);
}
  where
    apart : (name : List ℕ) → is_file_name name ≡ true → bytes_eq name evidence ≡ false
    apart name named = elim (true_or_false (bytes_eq name evidence)) [
      | inl same ↦
          let other : is_file_name name ≡ false =
          subst (λ n. is_file_name n ≡ false) (sym ((bytes_decides name evidence).0 same)) is in
          let no : true ≡ false = sym named ∙ other in cc
      | inr other ↦ other
    ]

joined : (told : Option FileMap) (evidence : List ℕ) → is_file_name evidence ≡ false → (bytes : List ℕ)
    → IsSeen told evidence (Some bytes)
    → (folder : FileMap) → IsFolder told folder → Joined told evidence (Some bytes) folder
joined None evidence is bytes seen folder told_is = joined_with evidence is bytes folder
joined (Some files) evidence is bytes seen folder told_is = record {
  both = files;
  is_folder = refl;
  is_seen = seen;
  same = λ name named. ap (λ f. file_of f name) told_is;
}

-- the evidence is there, and the files come to something
module _ (told : Option FileMap) (evidence : List ℕ) (is : is_file_name evidence ≡ false) (names : List (List ℕ))
    (all : list_all is_file_name names ≡ true)
    (bytes : List ℕ) (got : Fetches told evidence (Whole bytes)) where
  seen_whole : (seen : Option (List ℕ)) → fetching evidence seen ≡ Whole bytes → seen ≡ Some bytes
  seen_whole None e = cc
  seen_whole (Some text) e = by_size (nat_lt MAX_FILE_BYTES (length text)) e
    where
      by_size : (b : Bool) → cond b TooLarge (Whole text) ≡ Whole bytes → Some text ≡ Some bytes
      by_size true e = cc
      by_size false e = cc

  pub whole_evidence : (found : Gathered Table) → ComesTo told names found
      → EvidenceFor told evidence names
      (and_then found (λ files. Whole (record { text = bytes; files = files })))
  whole_evidence found comes =
      let e = seen_whole got.seen got.comes_to in
      let j =
      joined told evidence is bytes
      (subst (IsSeen told evidence) e got.is_seen) comes.folder comes.is_folder in
      record {
        folder = j.both;
        is_folder = j.is_folder;
        is_found =
            ap
            (λ f. and_then f (λ text. and_then (gather_names j.both [] names)
            (λ files. Whole (record { text = text; files = files }))))
            (ap (fetching evidence) (j.is_seen ∙ sym e) ∙ got.comes_to)
            ∙ ap (λ f. and_then f (λ files. Whole (record { text = bytes; files = files })))
            (same_gathered comes.folder j.both names all j.same [] ∙ comes.is_found);
      }

  -- the files are not all there
  pub files_refused : (refusal : GatherRefusal)
      → IfSome (found_of {A = Table} (Err refusal)) (λ found. ComesTo told names found)
      → IfSome (found_of {A = Evidence} (Err refusal)) (λ found. EvidenceFor told evidence names found)
  files_refused (refusal_.Absent name) comes = whole_evidence (Absent name) comes
  files_refused refusal_.TooLarge comes = whole_evidence TooLarge comes
  files_refused refusal_.ReadFault comes = tt
  files_refused refusal_.Memory comes = tt

-- nothing comes of the evidence
folder_showing : (told : Option FileMap) (evidence : List ℕ) (seen : Option (List ℕ)) → IsSeen told evidence seen
    → (folder : FileMap) × IsFolder told folder × (file_of folder evidence ≡ seen)
folder_showing (Some files) evidence seen is = (files, refl, is)
folder_showing None evidence None is = ([], tt, refl)
folder_showing None evidence (Some bytes) is =
    ((evidence, bytes) ∷ [], tt, ap (λ b. cond b (Some bytes) None) (nat_list_eq_equiv.refl evidence))

no_evidence : (told : Option FileMap) (evidence : List ℕ) (names : List (List ℕ)) (found : Gathered (List ℕ))
    (ends : Gathered Evidence)
    → Fetches told evidence found → ((next : List ℕ → Gathered Evidence) → and_then found next ≡ ends)
    → EvidenceFor told evidence names ends
no_evidence told evidence names found ends got stops =
    let f = folder_showing told evidence got.seen got.is_seen in
    let next : List ℕ → Gathered Evidence =
    λ text. and_then (gather_names f.0 [] names) (λ files. Whole (record { text = text; files = files })) in
    record {
      folder = f.0;
      is_folder = f.1;
      is_found = ap (λ g. and_then g next) (ap (fetching evidence) f.2 ∙ got.comes_to) ∙ stops next;
    }

-- the evidence isn't there
pub evidence_refused : (told : Option FileMap) (evidence : List ℕ) (names : List (List ℕ))
    (refusal : GatherRefusal)
    → IfSome (found_of {A = List ℕ} (Err refusal)) (λ found. Fetches told evidence found)
    → IfSome (found_of {A = Evidence} (Err refusal)) (λ found. EvidenceFor told evidence names found)
evidence_refused told evidence names (refusal_.Absent name) got =
    no_evidence told evidence names (Absent name) (Absent name) got (λ next. refl)
evidence_refused told evidence names refusal_.TooLarge got =
    no_evidence told evidence names TooLarge TooLarge got (λ next. refl)
evidence_refused told evidence names refusal_.ReadFault got = tt
evidence_refused told evidence names refusal_.Memory got = tt

-- the folder refused to give the evidence
pub fetch_refused : (told : Option FileMap) (name : List ℕ) (why : FolderRefusal) (refusal : GatherRefusal)
    → FileRefused why told name → IsRefusalFor name why refusal
    → IfSome (found_of {A = List ℕ} (Err refusal)) (λ found. Fetches told name found)
fetch_refused told name NotThere (refusal_.Absent other) h is =
    subst (λ n. Fetches told name (Absent n)) (sym is)
    (record { seen = None; is_seen = seen_absent told name h; comes_to = refl })
fetch_refused told name NotThere refusal_.TooLarge h is = absurd is
fetch_refused told name NotThere refusal_.ReadFault h is = absurd is
fetch_refused told name NotThere refusal_.Memory h is = tt
fetch_refused told name TooLong (refusal_.Absent other) h is = cc
fetch_refused told name TooLong refusal_.TooLarge h is = fetched_long told name h
fetch_refused told name TooLong refusal_.ReadFault h is = cc
fetch_refused told name TooLong refusal_.Memory h is = tt
fetch_refused told name Failed (refusal_.Absent other) h is = cc
fetch_refused told name Failed refusal_.TooLarge h is = cc
fetch_refused told name Failed refusal_.ReadFault h is = tt
fetch_refused told name Failed refusal_.Memory h is = tt
fetch_refused told name Memory (refusal_.Absent other) h is = cc
fetch_refused told name Memory refusal_.TooLarge h is = cc
fetch_refused told name Memory refusal_.ReadFault h is = tt
fetch_refused told name Memory refusal_.Memory h is = tt
