-- Files by their names.
use Rattle.std.proofs.Common.{◌≡◌, ◌∙◌, ℕ, List, [], ◌∷◌, Some, cond, refl, sym, ap}
use Rattle.std.specs.Cmp.Lexicographic.{slice_cmp}
use Rattle.std.specs.Map.{lookup}
use Rattle.std.specs.Ordering.{nat_cmp, is_eq}
use Rattle.std.specs.Str.{bytes_eq}
use Rattle.std.proofs.lemmas.Map.Text.{is_eq-slice_cmp}
use Rattle.larch_io.specs.Folder.{file_of}

-- what is found by comparing names is the file of the name
pub file_of_found : (files : List (List ℕ × List ℕ)) (name : List ℕ)
    → lookup (λ other. is_eq (slice_cmp nat_cmp name other)) files ≡ file_of files name
file_of_found [] name = refl
file_of_found (file ∷ files) name =
    ap (λ same. cond same (Some file.1) (lookup (λ other. is_eq (slice_cmp nat_cmp name other)) files))
    (is_eq-slice_cmp name file.0)
    ∙ ap (λ found. cond (bytes_eq name file.0) (Some file.1) found) (file_of_found files name)

-- a file is put in among those that are there
pub file_of_put : (old new : List (List ℕ × List ℕ)) (name bytes other : List ℕ)
    → lookup (λ key. is_eq (slice_cmp nat_cmp other key)) new
    ≡ cond (is_eq (slice_cmp nat_cmp name other)) (Some bytes) (lookup (λ key. is_eq (slice_cmp nat_cmp other key)) old)
    → file_of new other ≡ cond (bytes_eq name other) (Some bytes) (file_of old other)
file_of_put old new name bytes other e =
    sym (file_of_found new other) ∙ e
    ∙ ap (λ same. cond same (Some bytes) (lookup (λ key. is_eq (slice_cmp nat_cmp other key)) old))
    (is_eq-slice_cmp name other)
    ∙ ap (λ found. cond (bytes_eq name other) (Some bytes) found) (file_of_found old other)
