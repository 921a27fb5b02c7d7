-- What contracts see of references in results.
use Rattle.std.specs.Prelude.{ℕ, List, [], Option, Some, None}
use Rattle.std.specs.Borrow.{Bor}
use Rattle.larch_certificate_text.specs.ListText.{split_at}

-- two texts
abbrev pub pair_view : Option (Bor (List ℕ) × Bor (List ℕ)) → Option (List ℕ × List ℕ)
pair_view None = None
pair_view (Some p) = Some (p.0.now, p.1.now)

-- three texts
abbrev pub triple_view : Option (Bor (List ℕ) × (Bor (List ℕ) × Bor (List ℕ)))
    → Option (List ℕ × (List ℕ × List ℕ))
triple_view None = None
triple_view (Some p) = Some (p.0.now, (p.1.0.now, p.1.1.now))

-- four texts
abbrev pub quadruple_view : Option (Bor (List ℕ) × (Bor (List ℕ) × (Bor (List ℕ) × Bor (List ℕ))))
    → Option (List ℕ × (List ℕ × (List ℕ × List ℕ)))
quadruple_view None = None
quadruple_view (Some p) = Some (p.0.now, (p.1.0.now, (p.1.1.0.now, p.1.1.1.now)))

-- the parts behind a word
abbrev pub parts_of : Option (Bor (List ℕ)) → List (List ℕ)
parts_of None = []
parts_of (Some t) = split_at 32 t.now
