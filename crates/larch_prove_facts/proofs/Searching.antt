-- Variables and instances by name, one after the other.
use Rattle.std.specs.Prelude.{◌≡◌, ◌≢◌, ◌+◌, ◌++◌, ◌<◌, ◌==◌, ℕ, Bool, true, false, cond, List, [], ◌∷◌, Option, Some}
use Rattle.std.specs.Prelude.{bytes_eq, drop, filter, find, get_or, length, map, refl, take}
use Rattle.std.proofs.Common.{ap, sym, ◌∙◌}
use Rattle.std.proofs.lemmas.Bool.Decides.{Decides-eqb}
use Rattle.std.proofs.lemmas.List.{drop_more, length-append, map-append, take_more}
use Rattle.std.proofs.lemmas.List.Elements.{filter-append}
use Rattle.larch_prove_facts.specs.Entries.{names_in}
use Rattle.larch_script_commands.specs.declared.command.RawInstance.{RawInstance}

-- the next one is found, or the search goes on
pub found_at : {X : Type 0} (test : X → Bool) (xs : List X) (k : ℕ) (x : X) (b : Bool) → k < length xs
    → x ≡ get_or xs k x → test x ≡ b → find test (drop k xs) ≡ cond b (Some x) (find test (drop (k + 1) xs))
found_at test xs k x b lt is h =
    ap (find test) (drop_more xs k x lt ∙ ap (λ y. y ∷ drop (k + 1) xs) (sym is))
    ∙ ap (λ c. cond c (Some x) (find test (drop (k + 1) xs))) h

-- names of one instance more
names_more : (is : List RawInstance) (k : ℕ) (i : RawInstance) → k < length is → i ≡ get_or is k i
    → names_in (take (k + 1) is) ≡ names_in (take k is) ++ i.name.name ∷ []
names_more is k i lt h =
    ap names_in (take_more is k i lt ∙ ap (λ y. take k is ++ y ∷ []) (sym h))
    ∙ map-append (λ (j : RawInstance). j.name.name) (take k is) (i ∷ [])

pub counted_at : (n : List ℕ) (is : List RawInstance) (k : ℕ) (i : RawInstance) (b : Bool) → k < length is
    → i ≡ get_or is k i → bytes_eq n i.name.name ≡ b
    → length (filter (bytes_eq n) (names_in (take (k + 1) is)))
    ≡ length (filter (bytes_eq n) (names_in (take k is))) + length (cond b (i.name.name ∷ []) [])
counted_at n is k i b lt h e =
    ap (λ ns. length (filter (bytes_eq n) ns)) (names_more is k i lt h)
    ∙ (ap length (filter-append (bytes_eq n) (names_in (take k is)) (i.name.name ∷ []))
    ∙ (length-append (filter (bytes_eq n) (names_in (take k is))) (filter (bytes_eq n) (i.name.name ∷ []))
    ∙ ap (λ c. length (filter (bytes_eq n) (names_in (take k is))) + length (cond c (i.name.name ∷ []) [])) e))

told_not : (b : Bool) → (b ≡ true → ⊥) → b ≡ false
told_not true h = absurd (h refl)
told_not false h = refl

pub one_told : (k : ℕ) → k ≡ 1 → (k == 1) ≡ true
one_told k h = (Decides-eqb k 1).1 h

pub others_told : (k : ℕ) → k ≢ 1 → (k == 1) ≡ false
others_told k h = told_not (k == 1) (λ e. h ((Decides-eqb k 1).0 e))
