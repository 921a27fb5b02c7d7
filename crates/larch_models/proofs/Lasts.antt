-- The last value of a sort, entry by entry.
use Rattle.std.proofs.Common.{◌≡◌, ◌<◌, ◌+◌, ℕ, true, false, cond, List, bytes_eq, drop, get_or}
use Rattle.std.proofs.Common.{length, sym, ◌∙◌, ap}
use Rattle.larch_models_meaning.specs.declared.finite_model.SortValues.{SortValues}
use Rattle.larch_models.proofs.Rests.{drop_next}
use Rattle.larch_models_meaning.specs.FiniteModel.{last_among}

pub last_here : (vs : List SortValues) (i : ℕ) (v : SortValues) (s : List ℕ) → i < length vs → v ≡ get_or vs i v
    → bytes_eq v.sort s ≡ true → v.last ≡ last_among (drop i vs) s
last_here vs i v s l e h =
    sym (ap (λ us. last_among us s) (drop_next vs i v l e)
    ∙ ap (λ b. cond b v.last (last_among (drop (i + 1) vs) s)) h)

pub last_further : (vs : List SortValues) (i : ℕ) (v : SortValues) (s : List ℕ) → i < length vs → v ≡ get_or vs i v
    → bytes_eq v.sort s ≡ false → last_among (drop (i + 1) vs) s ≡ last_among (drop i vs) s
last_further vs i v s l e h =
    sym (ap (λ us. last_among us s) (drop_next vs i v l e)
    ∙ ap (λ b. cond b v.last (last_among (drop (i + 1) vs) s)) h)
