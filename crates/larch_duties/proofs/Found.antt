-- Duties are found by their labels.
use Rattle.std.proofs.Common.{◌≡◌, refl, sym, ap, ap₂, ◌∙◌, ℕ, suc, ◌+◌, Bool, true, false, cond, length, List, [], ◌∷◌}
use Rattle.std.proofs.Common.{◌++◌, map, Option, Some, None}
use Rattle.std.specs.Prelude.{bytes_eq, find, flat_map, is_some, option_map}
use Rattle.larch_base.specs.Label.{label_text}
use Rattle.larch_base.specs.declared.label.Label.{Label}
use Rattle.larch_base.specs.declared.label.Label.TheVariants.{Assume, Imply, Convert}
use Rattle.larch_term.specs.declared.statement.Statement.{Statement}
use Rattle.larch_term.specs.declared.statement.Theory.{Theory}
use Rattle.larch_flat_meaning.specs.Gathered.{Gathered}
use Rattle.larch_duties_meaning.specs.Conversions.{Clause, Conversion, bytes_of, clause_over, clause_theory}
use Rattle.larch_duties_meaning.specs.Duties.{Duty, all_duties, clause_duties, is_its_copy, label_all}
use Rattle.larch_duties.specs.Finding.{clause_duty, converted_duty, kept_duty, label_behind, labelled_in, or_else}
use Rattle.larch_duties.specs.Kept.{duties_in, theory_in}
use Rattle.larch_duties.proofs.Counts.{copies_length}

-- the label of a duty has this text
abbrev has : List ℕ → Duty → Bool
has text d = bytes_eq text (label_text d.label)

-- its theory and statement
abbrev parts : Duty → Theory × Statement
parts d = (d.theory, d.statement)

-- the theory and the statement of the first duty whose label has this text
abbrev pub duty_with : List ℕ → List Duty → Option (Theory × Statement)
duty_with text ds = option_map parts (find (has text) ds)

found_by : (text : List ℕ) (d : Duty) (ds es : List Duty) (b : Bool)
    → duty_with text (ds ++ es) ≡ or_else (duty_with text ds) (duty_with text es)
    → option_map parts (cond b (Some d) (find (has text) (ds ++ es)))
    ≡ or_else (option_map parts (cond b (Some d) (find (has text) ds))) (duty_with text es)
found_by text d ds es true h = refl
found_by text d ds es false h = h

-- what isn't found among the first is found among the others
pub found_joined : (text : List ℕ) (ds es : List Duty)
    → duty_with text (ds ++ es) ≡ or_else (duty_with text ds) (duty_with text es)
found_joined text [] es = refl
found_joined text (d ∷ ds) es = found_by text d ds es (has text d) (found_joined text ds es)

labelled_by : {A : Type 0} (kind : ℕ → Label) (n : ℕ) (t : Theory) (f : A → Statement) (x : A) (xs : List A)
    (text : List ℕ) (b : Bool)
    → duty_with text (label_all kind (suc n) t (map f xs))
    ≡ option_map (λ y. (t, f y)) (labelled_in (kind (suc n)) xs text)
    → option_map parts (cond b (Some (record { label = kind n; theory = t; statement = f x }))
    (find (has text) (label_all kind (suc n) t (map f xs))))
    ≡ option_map (λ y. (t, f y)) (cond b (Some x) (labelled_in (kind (suc n)) xs text))
labelled_by kind n t f x xs text true h = refl
labelled_by kind n t f x xs text false h = h

-- among duties of one kind
labelled_found : {A : Type 0} (kind : ℕ → Label) (next : (n : ℕ) → label_behind (kind n) ≡ kind (suc n)) (n : ℕ)
    (t : Theory) (f : A → Statement) (xs : List A) (text : List ℕ)
    → duty_with text (label_all kind n t (map f xs)) ≡ option_map (λ y. (t, f y)) (labelled_in (kind n) xs text)
labelled_found kind next n t f [] text = refl
labelled_found kind next n t f (x ∷ xs) text =
    labelled_by kind n t f x xs text (bytes_eq text (label_text (kind n)))
    (labelled_found kind next (suc n) t f xs text)
    ∙ ap (λ l. option_map (λ y. (t, f y)) (cond (bytes_eq text (label_text (kind n))) (Some x) (labelled_in l xs text)))
    (sym (next n))

map_same : {A : Type 0} (xs : List A) → map (λ x. x) xs ≡ xs
map_same [] = refl
map_same (x ∷ xs) = ap (λ ys. x ∷ ys) (map_same xs)

-- among duties of one kind with these statements
pub stated_found : (kind : ℕ → Label) (next : (n : ℕ) → label_behind (kind n) ≡ kind (suc n)) (n : ℕ) (t : Theory)
    (ss : List Statement) (text : List ℕ)
    → duty_with text (label_all kind n t ss) ≡ option_map (λ s. (t, s)) (labelled_in (kind n) ss text)
stated_found kind next n t ss text =
    ap (λ rs. duty_with text (label_all kind n t rs)) (sym (map_same ss))
    ∙ labelled_found kind next n t (λ s. s) ss text

is_there_by : {A B : Type 0} (x : A) (y : B) (o : Option A) (p : Option B) (b : Bool) → is_some o ≡ is_some p
    → is_some (cond b (Some x) o) ≡ is_some (cond b (Some y) p)
is_there_by x y o p true h = refl
is_there_by x y o p false h = h

-- whether something is found depends on how many things there are
there_alike : {A B : Type 0} (label : Label) (xs : List A) (ys : List B) (text : List ℕ) → length xs ≡ length ys
    → is_some (labelled_in label xs text) ≡ is_some (labelled_in label ys text)
there_alike label [] [] text e = refl
there_alike label [] (y ∷ ys) text e = cc
there_alike label (x ∷ xs) [] text e = cc
there_alike label (x ∷ xs) (y ∷ ys) text e =
    is_there_by x y (labelled_in (label_behind label) xs text) (labelled_in (label_behind label) ys text)
    (bytes_eq text (label_text label))
    (there_alike (label_behind label) xs ys text (cc))

chosen : {A B : Type 0} (f : A → B) (o : Option A) (p : Option B)
    → or_else (option_map f o) p ≡ cond (is_some o) (option_map f o) p
chosen f None p = refl
chosen f (Some x) p = refl

-- among the duties of clauses
converted_found : (g : Gathered) (n : ℕ) (cs : List Conversion) (text : List ℕ)
    → duty_with text (flat_map (λ c. c.duties) (clause_duties n (theory_in g) (map (clause_over (theory_in g)) cs)))
    ≡ converted_duty g n cs text
converted_found g n [] text = refl
converted_found g n (c ∷ cs) text =
    let t = theory_in g in
    let k : Clause = clause_over t c in
    let long : length k.copies ≡ length c.converted =
    copies_length 1 (map (λ f. bytes_of f.name) t.operators) c.converted in
    let rest : List Duty = flat_map (λ c. c.duties) (clause_duties (n + length k.copies) t (map (clause_over t) cs)) in
    found_joined text (label_all Convert n (clause_theory t k) (map is_its_copy k.copies)) rest
    ∙ ap₂ or_else (labelled_found Convert (λ _. refl) n (clause_theory t k) is_its_copy k.copies text)
    (converted_found g (n + length k.copies) cs text ∙ ap (λ m. converted_duty g (n + m) cs text) long)
    ∙ chosen (λ c. (clause_theory t k, is_its_copy c)) (labelled_in (Convert n) k.copies text)
    (converted_duty g (n + length c.converted) cs text)
    ∙ ap (λ b. cond b (clause_duty g n c text) (converted_duty g (n + length c.converted) cs text))
    (there_alike (Convert n) k.copies c.converted text long)

own_chosen : (t : Theory) (o p : Option Statement)
    → or_else {A = Theory × Statement} (option_map (λ s. (t, s)) o) (option_map (λ s. (t, s)) p)
    ≡ option_map (λ s. (t, s)) (or_else o p)
own_chosen t None p = refl
own_chosen t (Some s) p = refl

-- among all duties of a trait
pub kept_found : (g : Gathered) (implied : List Statement) (cs : List Conversion) (text : List ℕ)
    → kept_duty g implied cs text ≡ duty_with text (all_duties (duties_in g implied cs))
kept_found g implied cs text =
    let t = theory_in g in
    let ds : List Duty = label_all Assume 1 t g.discharge in
    let is : List Duty = label_all Imply 1 t implied in
    let rest : List Duty = flat_map (λ c. c.duties) (clause_duties 1 t (map (clause_over t) cs)) in
    sym (found_joined text (ds ++ is) rest
    ∙ ap₂ or_else
    (found_joined text ds is ∙ ap₂ or_else (stated_found Assume (λ _. refl) 1 t g.discharge text)
    (stated_found Imply (λ _. refl) 1 t implied text)
    ∙ own_chosen t (labelled_in (Assume 1) g.discharge text) (labelled_in (Imply 1) implied text))
    (converted_found g 1 cs text))
