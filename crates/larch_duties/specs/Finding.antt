-- Duties that are found by the texts of their labels.
use Rattle.std.specs.Prelude.{ℕ, suc, if◌then◌else◌, ◌+◌, bytes_eq, is_some, length, List, [], ◌∷◌, Option, Some, None}
use Rattle.std.specs.Prelude.{option_map}
use Rattle.larch_base.specs.Label.{label_text}
use Rattle.larch_base.specs.declared.label.Label.{Label}
use Rattle.larch_base.specs.declared.label.Label.TheVariants.{Assume, Imply, Convert}
use Rattle.larch_term.specs.declared.statement.Statement.{Statement}
use Rattle.larch_term.specs.declared.statement.Theory.{Theory}
use Rattle.larch_flat_meaning.specs.Gathered.{Gathered}
use Rattle.larch_duties_meaning.specs.Conversions.{Clause, Conversion, clause_over, clause_theory}
use Rattle.larch_duties_meaning.specs.Duties.{is_its_copy}
use Rattle.larch_duties.specs.Kept.{theory_in}

-- the label of the same kind with the next number
abbrev pub label_behind : Label → Label
label_behind (Assume n) = Assume (suc n)
label_behind (Imply n) = Imply (suc n)
label_behind (Convert n) = Convert (suc n)

-- of things with labels of one kind, numbered on from this label, the first whose label has this text
abbrev pub labelled_in : {A : Type 0} → Label → List A → List ℕ → Option A
labelled_in label [] text = None
labelled_in label (x ∷ xs) text =
    if bytes_eq text (label_text label) then Some x else labelled_in (label_behind label) xs text

-- the first, or else the other
abbrev pub or_else : {A : Type 0} → Option A → Option A → Option A
or_else (Some x) other = Some x
or_else None other = other

-- what is to be discharged or is implied under a label with this text
abbrev pub own_labelled : Gathered → List Statement → List ℕ → Option Statement
own_labelled g implied text = or_else (labelled_in (Assume 1) g.discharge text) (labelled_in (Imply 1) implied text)

-- the theory and the statement of a duty of a clause, whose label has this text
abbrev pub duty_in : Theory → Clause → ℕ → List ℕ → Option (Theory × Statement)
duty_in theory clause n text =
    option_map (λ c. (clause_theory theory clause, is_its_copy c)) (labelled_in (Convert n) clause.copies text)

-- the same of the clause of a conversion
abbrev pub clause_duty : Gathered → ℕ → Conversion → List ℕ → Option (Theory × Statement)
clause_duty g n c text = duty_in (theory_in g) (clause_over (theory_in g) c) n text

-- the same of conversions, whose labels have numbers from here on
abbrev pub converted_duty : Gathered → ℕ → List Conversion → List ℕ → Option (Theory × Statement)
converted_duty g n [] text = None
converted_duty g n (c ∷ cs) text =
    if is_some (labelled_in (Convert n) c.converted text) then clause_duty g n c text
    else converted_duty g (n + length c.converted) cs text

-- the theory and the statement of the duty whose label has this text, by what is kept
abbrev pub kept_duty : Gathered → List Statement → List Conversion → List ℕ → Option (Theory × Statement)
kept_duty g implied conversions text =
    or_else (option_map (λ s. (theory_in g, s)) (own_labelled g implied text)) (converted_duty g 1 conversions text)
