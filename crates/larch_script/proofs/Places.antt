-- What `get` answers.
use Rattle.std.proofs.Common.{◌≡◌, ℕ, ◌<◌, ◌≤◌, List, length, Option, Some, None, slice_get, option_map, MatchOption}
use Rattle.std.proofs.Common.{HoldsAt, Bor, sym, ◌∙◌, ap}
use Rattle.std.proofs.lemmas.Option.{slice_get_past, slice_get-get_or}
use Rattle.larch_lexer.specs.declared.token.Token.{Token}

pub got : (r : Option (Bor Token)) (ts : List Token) (i : ℕ)
    → MatchOption r (length ts ≤ i) (λ t. (i < length ts) × HoldsAt (λ u. t.now ≡ u) ts i)
    → option_map (λ t. t.now) r ≡ slice_get ts i
got None ts i h = sym (slice_get_past ts i h)
got (Some t) ts i h = ap Some (h.1 t.now) ∙ sym (slice_get-get_or ts i t.now h.0)
