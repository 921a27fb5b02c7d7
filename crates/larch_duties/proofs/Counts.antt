-- How many duties there are.
use Rattle.std.proofs.Common.{◌≡◌, refl, sym, ap, ap₂, ◌∙◌, ℕ, suc, ◌+◌, ◌<◌, min, Bool, true, false, arith, length}
use Rattle.std.proofs.Common.{List, [], ◌∷◌, ◌++◌, map}
use Rattle.std.specs.Prelude.{nat_lt, sum_by, flat_map}
use Rattle.std.specs.Bool.{Decides}
use Rattle.std.proofs.lemmas.Bool.Decides.{Decides-ltb}
use Rattle.std.proofs.lemmas.List.{length-append}
use Rattle.std.proofs.lemmas.List.Sums.{sum_by-cons}
use Rattle.larch_base.specs.declared.label.Label.{Label}
use Rattle.larch_base.specs.declared.label.Label.TheVariants.{Assume, Imply, Convert}
use Rattle.larch_term.specs.Operator.{PlainOperator}
use Rattle.larch_term.specs.declared.statement.Statement.{Statement}
use Rattle.larch_term.specs.declared.statement.Theory.{Theory}
use Rattle.larch_flat_meaning.specs.Gathered.{Gathered}
use Rattle.larch_duties_meaning.specs.Conversions.{Conversion, bytes_of, clause_over, clause_theory, copies, free_word}
use Rattle.larch_duties_meaning.specs.Conversions.{word_tried}
use Rattle.larch_duties_meaning.specs.Duties.{Duty, all_duties, clause_duties, is_its_copy, label_all}
use Rattle.larch_duties.specs.Kept.{duties_in, theory_in}

pub labelled_length : (kind : ℕ → Label) (n : ℕ) (t : Theory) (ss : List Statement)
    → length (label_all kind n t ss) ≡ length ss
labelled_length kind n t [] = refl
labelled_length kind n t (s ∷ ss) = ap suc (labelled_length kind (suc n) t ss)

map_length : {A B : Type 0} (f : A → B) (xs : List A) → length (map f xs) ≡ length xs
map_length f [] = refl
map_length f (x ∷ xs) = ap suc (map_length f xs)

pub copies_length : (place : ℕ) (taken : List (List ℕ)) (fs : List PlainOperator)
    → length (copies place taken fs) ≡ length fs
copies_length place taken [] = refl
copies_length place taken (f ∷ fs) =
    ap suc (copies_length (suc place) (free_word taken (word_tried place (bytes_of f.name)) ∷ taken) fs)

clauses_length : (n : ℕ) (t : Theory) (cs : List Conversion)
    → length (flat_map (λ c. c.duties) (clause_duties n t (map (clause_over t) cs)))
    ≡ sum_by (λ c. length c.converted) cs
clauses_length n t [] = refl
clauses_length n t (c ∷ cs) =
    let k = clause_over t c in
    let ds : List Duty = label_all Convert n (clause_theory t k) (map is_its_copy k.copies) in
    let own : length ds ≡ length c.converted =
    labelled_length Convert n (clause_theory t k) (map is_its_copy k.copies) ∙ map_length is_its_copy k.copies
    ∙ copies_length 1 (map (λ f. bytes_of f.name) t.operators) c.converted in
    length-append ds (flat_map (λ c. c.duties) (clause_duties (n + length k.copies) t (map (clause_over t) cs)))
    ∙ ap₂ (λ a b. a + b) own (clauses_length (n + length k.copies) t cs)
    ∙ sym (sum_by-cons (λ c. length c.converted) c cs)

-- those of the trait itself, and one for each converted operator
pub counted : (g : Gathered) (implied : List Statement) (cs : List Conversion)
    → length (all_duties (duties_in g implied cs))
    ≡ length g.discharge + length implied + sum_by (λ c. length c.converted) cs
counted g implied cs =
    let t = theory_in g in
    length-append (label_all Assume 1 t g.discharge ++ label_all Imply 1 t implied)
    (flat_map (λ c. c.duties) (clause_duties 1 t (map (clause_over t) cs)))
    ∙ ap₂ (λ a b. a + b)
    (length-append (label_all Assume 1 t g.discharge) (label_all Imply 1 t implied)
    ∙ ap₂ (λ a b. a + b) (labelled_length Assume 1 t g.discharge) (labelled_length Imply 1 t implied))
    (clauses_length 1 t cs)

by_tests : (a b : Bool) → (a ≡ true → b ≡ true) → (b ≡ true → a ≡ true) → a ≡ b
by_tests true b h k = sym (h refl)
by_tests false true h k = k refl
by_tests false false h k = refl

same_lt : (m x y : ℕ) → (m < x → m < y) → (m < y → m < x) → nat_lt m x ≡ nat_lt m y
same_lt m x y h k =
    let p : Decides (nat_lt m x) (m < x) = Decides-ltb m x in
    let q : Decides (nat_lt m y) (m < y) = Decides-ltb m y in
    by_tests (nat_lt m x) (nat_lt m y) (λ e. q.1 (h (p.0 e))) (λ e. p.1 (k (q.0 e)))

-- sums that stop at the top tell the same
pub many_told : (d i s o k r n : ℕ) → o ≡ min (d + i) 18446744073709551615 → k ≡ min s 18446744073709551615
    → r ≡ min (o + k) 18446744073709551615 → n ≡ d + i + s → nat_lt 1000 r ≡ nat_lt 1000 n
many_told d i s o k r n a b c e =
    same_lt 1000 r n (λ h. omega (arith, a, b, c, e, h)) (λ h. omega (arith, a, b, c, e, h))
