-- The cut of an equation goes on by one byte.
use Rattle.std.proofs.Common.{◌≡◌, ◌≢◌, ℕ, ◌+◌, ◌<◌, ◌==◌, List, [], ◌∷◌, ◌++◌, length, take, drop, get_or, Option}
use Rattle.std.proofs.Common.{Some, None, refl, sym, ◌∙◌, ap, arith, drop-cons, add-one, append_assoc}
use Rattle.std.specs.Prelude.{option_map}
use Rattle.std.proofs.lemmas.Grind.{common_steps}
use Rattle.std.proofs.lemmas.Bool.{cond-false, ne_eqb}
use Rattle.larch_certificate_text.specs.EquationText.{ahead_of, behind_equals, cut_by, cut_equals}
use Rattle.larch_certificate_text.specs.Parts.{onto}

pub ahead_more : (xs : List ℕ) (b : ℕ) (o : Option (List ℕ × List ℕ))
    → option_map (ahead_of xs) (option_map (onto b) o) ≡ option_map (ahead_of (xs ++ (b ∷ []))) o
ahead_more xs b None = refl
ahead_more xs b (Some p) = ap (λ z. Some (z, p.1)) (sym (append_assoc xs (b ∷ []) p.0))

cut_step : (xs : List ℕ) (b : ℕ) (bs : List ℕ) → b ≢ 40 → behind_equals (b ∷ bs) ≡ None
    → option_map (ahead_of xs) (cut_equals (b ∷ bs)) ≡ option_map (ahead_of (xs ++ (b ∷ []))) (cut_equals bs)
cut_step xs b bs n e =
    ap (option_map (ahead_of xs)) (cond-false (b == 40) None
    (cut_by (behind_equals (b ∷ bs)) (option_map (onto b) (cut_equals bs))) (ne_eqb b 40 n)
    ∙ ap (λ o. cut_by o (option_map (onto b) (cut_equals bs))) e)
    ∙ ahead_more xs b (cut_equals bs)

pub first_step : (i : ℕ) (text : List ℕ) → i < length text → get_or text i 0 ≢ 40 → behind_equals (drop i text) ≡ None
    → option_map (ahead_of (take (i + 1) text)) (cut_equals (drop (i + 1) text))
    ≡ option_map (ahead_of (take i text)) (cut_equals (drop i text))
first_step i text l n e =
    let d : drop i text ≡ get_or text i 0 ∷ drop (i + 1) text = rw (add-one i) (drop-cons text i 0 l) in
    let t : take (i + 1) text ≡ take i text ++ (get_or text i 0 ∷ []) = grind (arith, common_steps) in
    rw (t, d) (sym (cut_step (take i text) (get_or text i 0) (drop (i + 1) text) n (rw d at e)))
