-- A text is cut at the first of a byte.
use Rattle.std.proofs.Common.{◌≡◌, ℕ, ◌==◌, cond, Bool, true, false, List, [], ◌∷◌, ◌++◌, Option, Some, None, refl, sym}
use Rattle.std.proofs.Common.{◌∙◌, ap, arith}
use Rattle.std.specs.Prelude.{option_map}
use Rattle.std.proofs.Common.{◌<◌, ◌≤◌, ◌+◌, ◌-◌, length, get_or, take, drop, drop-cons, add-one}
use Rattle.std.proofs.lemmas.List.{take_rest, take-append-drop, take_all}
use Rattle.std.proofs.lemmas.Grind.{common_steps}
use Rattle.std.proofs.lemmas.Bool.{ne_eqb, cond-false, cond-true, eqb-true, eq-eqb}
use Rattle.std.proofs.lemmas.Option.{some_pair_parts, none-some}
use Rattle.larch_certificate_text.specs.ByteClasses.{Lacks}
use Rattle.larch_certificate_text.specs.Parts.{cut_at, onto}

pub cut_again : (c : ℕ) (xs ys : List ℕ) → Lacks c xs → cut_at c (xs ++ (c ∷ ys)) ≡ Some (xs, ys)
cut_again c [] ys l = cond-true (c == c) (Some ([], ys)) (option_map (onto c) (cut_at c ys)) (eq-eqb c c refl)
cut_again c (x ∷ xs) ys l =
    cond-false (x == c) (Some ([], xs ++ (c ∷ ys))) (option_map (onto x) (cut_at c (xs ++ (c ∷ ys)))) (ne_eqb x c l.0)
    ∙ ap (option_map (onto x)) (cut_again c xs ys l.1)

pub cut_none : (c : ℕ) (xs : List ℕ) → Lacks c xs → cut_at c xs ≡ None
cut_none c [] l = refl
cut_none c (x ∷ xs) l =
    cond-false (x == c) (Some ([], xs)) (option_map (onto x) (cut_at c xs)) (ne_eqb x c l.0)
    ∙ ap (option_map (onto x)) (cut_none c xs l.1)

cut_more : (b : ℕ) (bs : List ℕ) (c : ℕ) (o : Option (List ℕ × List ℕ)) (xs ys : List ℕ)
    → ((us vs : List ℕ) → o ≡ Some (us, vs) → bs ≡ us ++ (c ∷ vs)) → option_map (onto b) o ≡ Some (xs, ys)
    → b ∷ bs ≡ xs ++ (c ∷ ys)
cut_more b bs c None xs ys f e = absurd (none-some (xs, ys) e)
cut_more b bs c (Some p) xs ys f e =
    let q = some_pair_parts (b ∷ p.0) xs p.1 ys e in
    ap (λ z. b ∷ z) (f p.0 p.1 refl) ∙ ap (λ z. z ++ (c ∷ p.1)) q.0 ∙ ap (λ z. xs ++ (c ∷ z)) q.1

cut_first : (b : ℕ) (bs : List ℕ) (c : ℕ) (t : Bool) → (b == c) ≡ t → (o : Option (List ℕ × List ℕ)) (xs ys : List ℕ)
    → ((us vs : List ℕ) → o ≡ Some (us, vs) → bs ≡ us ++ (c ∷ vs))
    → cond {A = Option (List ℕ × List ℕ)} t (Some ([], bs)) (option_map (onto b) o) ≡ Some (xs, ys)
    → b ∷ bs ≡ xs ++ (c ∷ ys)
cut_first b bs c true i o xs ys f e =
    let q = some_pair_parts [] xs bs ys e in
    ap (λ z. z ∷ bs) (eqb-true b c i) ∙ ap (λ z. z ++ (c ∷ bs)) q.0 ∙ ap (λ z. xs ++ (c ∷ z)) q.1
cut_first b bs c false i o xs ys f e = cut_more b bs c o xs ys f e

pub cut_some : (c : ℕ) (text xs ys : List ℕ) → cut_at c text ≡ Some (xs, ys) → text ≡ xs ++ (c ∷ ys)
cut_some c [] xs ys e = absurd (none-some (xs, ys) e)
cut_some c (b ∷ bs) xs ys e = cut_first b bs c (b == c) refl (cut_at c bs) xs ys (λ us vs i. cut_some c bs us vs i) e

-- the cut at the byte that was found
pub cut_found : (c i : ℕ) (text : List ℕ) → i < length text → get_or text i 0 ≡ c → Lacks c (take i text)
    → Some (take i text, take (length text - (i + 1)) (drop (i + 1) text)) ≡ cut_at c text
cut_found c i text s e l =
    let k : text ≡ take i text ++ (c ∷ drop (i + 1) text) =
    grind (arith, common_steps, drop-cons text i 0 s, take-append-drop i text, add-one) in
    rw (take_rest text (i + 1)) (sym (ap (cut_at c) k ∙ cut_again c (take i text) (drop (i + 1) text) l))

pub cut_missing : (c i : ℕ) (text : List ℕ) → length text ≤ i → Lacks c (take i text) → None ≡ cut_at c text
cut_missing c i text s l = sym (cut_none c text (rw (take_all i text s) at l))
