-- Boxes of one predicate, and of two constants.
use Rattle.std.proofs.Common.{◌≡◌, ◌≢◌, ℕ, Bool, true, false, not, ◌&&◌, List, [], ◌∷◌, length, map, get_or, bytes_eq}
use Rattle.std.proofs.Common.{refl, sym, ◌∙◌, ap, arith}
use Rattle.std.specs.Cmp.Lexicographic.{pointwise, unequal}
use Rattle.std.specs.List.{list_all}
use Rattle.std.proofs.lemmas.List.{length-map}
use Rattle.larch_base.proofs.Bools.{and_not_right}
use Rattle.larch_certificate.specs.declared.line.BoxPart.{BoxPart}
use Rattle.larch_verify_meaning.specs.Events.{PlainBox}
use Rattle.larch_verify_meaning.specs.Matching.{has_constants, is_predicate_on}

abbrev pub is_constant : List ℕ → BoxPart → Bool
is_constant s p = not p.predicate && bytes_eq p.sort s

all_four : (a b c d : Bool) → ((a && (b && true)) && (c && (d && true))) ≡ ((a && c) && (b && d))
all_four true true true true = refl
all_four true true true false = refl
all_four true true false d = refl
all_four true false true d = refl
all_four true false false d = refl
all_four false b c d = refl

constants_of : (s : List ℕ) (ps : List BoxPart) (d : BoxPart) → length ps ≡ 2
    → (list_all (λ p. not p.predicate) ps && pointwise bytes_eq (map (λ p. p.sort) ps) (s ∷ s ∷ []))
    ≡ (is_constant s (get_or ps 0 d) && is_constant s (get_or ps 1 d))
constants_of s [] d e = absurd (omega (arith, e))
constants_of s (p ∷ []) d e = absurd (omega (arith, e))
constants_of s (p ∷ q ∷ []) d e = all_four (not p.predicate) (not q.predicate) (bytes_eq p.sort s) (bytes_eq q.sort s)
constants_of s (p ∷ q ∷ r ∷ rs) d e = absurd (omega (arith, e))

-- two parts are the constants of a sort if each is one
pub two_parts : (b : PlainBox) (ps : List BoxPart) (s : List ℕ) (d : BoxPart) → b.parts ≡ ps → length ps ≡ 2
    → has_constants b (s ∷ s ∷ []) ≡ (is_constant s (get_or ps 0 d) && is_constant s (get_or ps 1 d))
two_parts b ps s d e l =
    ap (λ qs. list_all (λ p. not p.predicate) qs && pointwise bytes_eq (map (λ p. p.sort) qs) (s ∷ s ∷ [])) e
    ∙ constants_of s ps d l

pub not_two : (b : PlainBox) (ps : List BoxPart) (s : List ℕ) → b.parts ≡ ps → length ps ≢ 2
    → false ≡ has_constants b (s ∷ s ∷ [])
not_two b ps s e n =
    sym (ap (λ qs. list_all (λ p. not p.predicate) qs && pointwise bytes_eq (map (λ p. p.sort) qs) (s ∷ s ∷ [])) e
    ∙ and_not_right (list_all (λ p. not p.predicate) ps) (pointwise bytes_eq (map (λ p. p.sort) ps) (s ∷ s ∷ []))
    (unequal bytes_eq (map (λ p. p.sort) ps) (s ∷ s ∷ []) (λ k. n (sym (length-map ps (λ p. p.sort)) ∙ k))))

predicate_of : (s : List ℕ) (ps : List BoxPart) (d : BoxPart) → length ps ≡ 1
    → is_predicate_on s ps ≡ ((get_or ps 0 d).predicate && bytes_eq (get_or ps 0 d).sort s)
predicate_of s [] d e = absurd (omega (arith, e))
predicate_of s (p ∷ []) d e = refl
predicate_of s (p ∷ q ∷ ps) d e = absurd (omega (arith, e))

-- one part is the predicate on a sort
pub one_part : (s : List ℕ) (ps : List BoxPart) (p : BoxPart) → length ps ≡ 1 → p ≡ get_or ps 0 p
    → is_predicate_on s ps ≡ (p.predicate && bytes_eq p.sort s)
one_part s ps p l e = predicate_of s ps p l ∙ ap (λ q. q.predicate && bytes_eq q.sort s) (sym e)

pub not_one : (s : List ℕ) (ps : List BoxPart) → length ps ≢ 1 → false ≡ is_predicate_on s ps
not_one s [] n = refl
not_one s (p ∷ []) n = absurd (n refl)
not_one s (p ∷ q ∷ ps) n = refl
