-- The next of marked statements.
use Rattle.std.proofs.Common.{◌≡◌, sym, ap, ◌∙◌, ℕ, ◌+◌, ◌<◌, length, drop, take, List, [], ◌∷◌, ◌++◌, Some}
use Rattle.std.specs.List.{slice_get}
use Rattle.std.proofs.lemmas.List.{drop_more, take_more}
use Rattle.std.proofs.lemmas.Option.{get_or_from_slice_get}
use Rattle.larch_flat_meaning.specs.Gathered.{Marked}

-- those that are left begin with it
pub next_left : (ms : List Marked) (i : ℕ) (m : Marked) → i < length ms → Some m ≡ slice_get ms i
    → drop i ms ≡ m ∷ drop (i + 1) ms
next_left ms i m lt e = drop_more ms i m lt ∙ ap (λ y. y ∷ drop (i + 1) ms) (get_or_from_slice_get ms i m m (sym e))

-- it stands behind those before it
pub next_taken : (ms : List Marked) (i : ℕ) (m : Marked) → i < length ms → Some m ≡ slice_get ms i
    → take (i + 1) ms ≡ take i ms ++ m ∷ []
next_taken ms i m lt e = take_more ms i m lt ∙ ap (λ y. take i ms ++ y ∷ []) (get_or_from_slice_get ms i m m (sym e))
