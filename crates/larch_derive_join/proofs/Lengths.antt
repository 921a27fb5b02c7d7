-- How many lines are joined.
use Rattle.std.proofs.Common.{◌≡◌, ℕ, ◌+◌, ◌≤◌, List, [], ◌∷◌, ◌++◌, length, sum_by, refl, ◌∙◌, arith}
use Rattle.std.proofs.lemmas.List.{length-append, length-map}
use Rattle.std.proofs.lemmas.List.Recursion.{is_sum_by}
use Rattle.larch_certificate.specs.declared.line.Line.{Line}
use Rattle.larch_derive_join.specs.Joined.{joined_line, joined_lines, lemma_of, joined_from, join_parts}
use Rattle.larch_derive_join.specs.declared.lemma.Lemma.{Lemma}
use Rattle.larch_derive_join.specs.declared.part.Part.{Part}

pub from_nought : (n : ℕ) → 0 + n ≡ n
from_nought n = omega arith

-- those of all parts, one after the other
abbrev lines_of : List Part → ℕ
lines_of [] = 0
lines_of (p ∷ ps) = length p.certificate + lines_of ps

length_from : (lines : List Line) (lemmas : List Lemma) (ps : List Part)
    → length (joined_from lines lemmas ps) ≡ length lines + lines_of ps
length_from lines lemmas [] = omega arith
length_from lines lemmas (p ∷ ps) =
    let more = joined_lines (length lines) lemmas p in
    let rest = length_from (lines ++ more) (lemmas ++ lemma_of (length lines) p ∷ []) ps in
    let both = length-append lines more in
    let many = length-map p.certificate (joined_line (length lines) lemmas p) in
    let cut : length more ≡ length p.certificate = many in
    let sum : length (lines ++ more) + lines_of ps ≡ length lines + (length p.certificate + lines_of ps) =
    omega (arith, both, cut) in
    rest ∙ sum

-- there are no fewer than before
pub grows_longer : (lines : List Line) (lemmas : List Lemma) (ps : List Part)
    → length lines ≤ length (joined_from lines lemmas ps)
grows_longer lines lemmas ps = let e = length_from lines lemmas ps in omega (arith, e)

pub joined_length : (ps : List Part) → length (join_parts ps) ≡ sum_by (λ p. length p.certificate) ps
joined_length ps =
    length_from [] [] ps ∙ from_nought (lines_of ps)
    ∙ is_sum_by lines_of (λ p. length p.certificate) refl (λ _ _. refl) ps
