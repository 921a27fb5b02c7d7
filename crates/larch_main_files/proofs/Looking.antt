-- What one look at a folder shows.
use Rattle.std.proofs.Common.{◌≡◌, ℕ, zero, suc, ◌<◌, ◌≤◌, Bool, true, false, cond, nat_lt, nat_le, not, ◌&&◌, ◌||◌}
use Rattle.std.proofs.Common.{List, [], ◌∷◌, length, Option, Some, None, Err, refl, sym, ap, ◌∙◌, arith}
use Rattle.std.specs.Prelude.{IsSomeAnd}
use Rattle.std.proofs.lemmas.Bool.Decides.{nat_tests}
use Rattle.larch_base.specs.declared.limits.TheConstants.{MAX_FILES, MAX_FILE_BYTES}
use Rattle.larch_base.proofs.Bools.{or_left, or_right, or_both}
use Rattle.larch_io.specs.Folder.{FileMap, file_of, IsFile}
use Rattle.larch_io.specs.Refusal.{FileRefused}
use Rattle.larch_io.specs.declared.refusal.FolderRefusal.{FolderRefusal}
use Rattle.larch_io.specs.declared.refusal.FolderRefusal.TheVariants.{Failed, NotThere, TooLong, Memory}
use Rattle.larch_traits.specs.Files.{Table, has_file, put_file}
use Rattle.larch_main_files.specs.Gather.{Whole, TooLarge, putting}
use Rattle.larch_main_files.specs.Look.{IsSeen, Shows, Looks}
use Rattle.larch_main_status.specs.Limits.{put_is_refused}

pub seen_absent : (told : Option FileMap) (name : List ℕ) → FileRefused NotThere told name → IsSeen told name None
seen_absent None name h = tt
seen_absent (Some folder) name h = h

pub seen_file : (told : Option FileMap) (name bytes : List ℕ) → IsFile told name bytes → IsSeen told name (Some bytes)
seen_file None name bytes h = tt
seen_file (Some folder) name bytes h = h

longer : (n : ℕ) → (bytes : List ℕ) × (n < length bytes)
longer zero = (0 ∷ [], omega arith)
longer (suc n) = let more = longer n in (0 ∷ more.0, omega (arith, more.1))

long_found : (folder : FileMap) (name : List ℕ) (seen : Option (List ℕ)) → file_of folder name ≡ seen
    → IsSomeAnd seen (λ bytes. MAX_FILE_BYTES < length bytes)
    → (bytes : List ℕ) × (file_of folder name ≡ Some bytes) × (MAX_FILE_BYTES < length bytes)
long_found folder name None e h = absurd h
long_found folder name (Some bytes) e h = (bytes, e, h)

pub seen_long : (told : Option FileMap) (name : List ℕ) → FileRefused TooLong told name
    → (bytes : List ℕ) × IsSeen told name (Some bytes) × (MAX_FILE_BYTES < length bytes)
seen_long None name h = let made = longer MAX_FILE_BYTES in (made.0, tt, made.1)
seen_long (Some folder) name h = long_found folder name (file_of folder name) refl h

stopped : (files : Table) (name bytes : List ℕ) (b : Bool)
    → (nat_lt MAX_FILE_BYTES (length bytes) || put_is_refused files name) ≡ b → b ≡ true
    → putting files name (Some bytes) ≡ TooLarge
stopped files name bytes b e t = ap (λ c. cond c TooLarge (Whole (put_file files name bytes))) (e ∙ t)

-- a file has too many bytes
pub too_long : (files : Table) (name bytes : List ℕ) → MAX_FILE_BYTES < length bytes
    → putting files name (Some bytes) ≡ TooLarge
too_long files name bytes h =
    let long : nat_lt MAX_FILE_BYTES (length bytes) ≡ true = grind (arith, nat_tests) in
    stopped files name bytes _ refl (or_left _ (put_is_refused files name) long)

refused_new : (files : Table) (name : List ℕ) (b : Bool) → has_file files name ≡ false
    → nat_le MAX_FILES (length files) ≡ b → put_is_refused files name ≡ b
refused_new files name b new e = ap (λ h. not h && nat_le MAX_FILES (length files)) new ∙ e

module _ (told : Option FileMap) (files : Table) (name : List ℕ) (new : has_file files name ≡ false) where
  -- the folder refused to give the file
  pub refused : (refusal : FolderRefusal) → FileRefused refusal told name → Looks told files files name (Err refusal)
  refused Failed h = tt
  refused NotThere h = record { new = new; seen = None; is_seen = seen_absent told name h; comes_to = refl }
  refused TooLong h =
      let long = seen_long told name h in
      record { new = new; seen = Some long.0; is_seen = long.1; comes_to = too_long files name long.0 long.2 }
  refused Memory h = tt

  -- there are too many files
  pub one_too_many : (bytes : List ℕ) → IsFile told name bytes → MAX_FILES ≤ length files
      → Shows told files name TooLarge
  one_too_many bytes is many =
      let full : nat_le MAX_FILES (length files) ≡ true = grind (arith, nat_tests) in
      record {
        new = new;
        seen = Some bytes;
        is_seen = seen_file told name bytes is;
        comes_to =
            stopped files name bytes _ refl
            (or_right (nat_lt MAX_FILE_BYTES (length bytes)) _ (refused_new files name true new full));
      }

  -- the file is put in
  pub put_in : (more : Table) (bytes : List ℕ) → IsFile told name bytes → length bytes ≤ MAX_FILE_BYTES
      → length files < MAX_FILES → more ≡ put_file files name bytes
      → Shows told files name (Whole more)
  put_in more bytes is short few made =
      let small : nat_lt MAX_FILE_BYTES (length bytes) ≡ false = grind (arith, nat_tests) in
      let room : nat_le MAX_FILES (length files) ≡ false = grind (arith, nat_tests) in
      record {
        new = new;
        seen = Some bytes;
        is_seen = seen_file told name bytes is;
        comes_to =
            ap (λ c. cond c TooLarge (Whole (put_file files name bytes)))
            (or_both _ _ small (refused_new files name false new room))
            ∙ ap Whole (sym made);
      }
