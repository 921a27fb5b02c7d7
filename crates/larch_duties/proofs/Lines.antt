-- The lines of a trait and its duties, by what is kept of these.
use Rattle.std.proofs.Common.{◌≡◌, refl, sym, ap, ap₂, ◌∙◌, ℕ, suc, ◌+◌, ◌<◌, add-one, append_assoc, drop, get_or}
use Rattle.std.proofs.Common.{length, List, [], ◌∷◌, ◌++◌, map, Bool}
use Rattle.std.specs.Prelude.{codes, decimal, flat_map}
use Rattle.std.proofs.lemmas.List.{drop_more}
use Rattle.std.proofs.lemmas.List.Concat.{flat_map-append}
use Rattle.larch_base.specs.declared.label.Label.TheVariants.{Assume, Imply, Convert}
use Rattle.larch_raw.specs.declared.equation.RawTrait.{RawTrait}
use Rattle.larch_print.specs.Print.{printed_statement}
use Rattle.larch_term.specs.declared.statement.Statement.{Statement}
use Rattle.larch_term.specs.declared.statement.Theory.{Theory}
use Rattle.larch_flat_meaning.specs.Gathered.{Gathered, Marked}
use Rattle.larch_duties_meaning.specs.Conversions.{Clause, Conversion, clause_over, clause_theory}
use Rattle.larch_duties_meaning.specs.Duties.{Duties, clause_duties, is_its_copy, label_all}
use Rattle.larch_duties_meaning.specs.Listing.{trait_listing, listed_clause, listed_duty, listed_marked}
use Rattle.larch_duties_meaning.specs.Listing.{listed_operator, listed_statement, listed_statements, mark_text}
use Rattle.larch_duties.specs.Kept.{duties_in, theory_in}
use Rattle.larch_duties.specs.Lines.{added_lines, clause_lines, clauses_lines, copy_lines, flat_lines, numbered_line}
use Rattle.larch_duties.specs.Lines.{numbered_lines, own_lines}
use Rattle.larch_duties.specs.TraitDuties.{flat_with}

copied_listed : (n : ℕ) (ss : List Statement)
    → listed_statements n (codes "copied") ss ≡ numbered_lines (codes "A") n (codes " copied ") ss
copied_listed n [] = refl
copied_listed n (s ∷ ss) = ap (λ r. listed_statement n (codes "copied") s ++ r) (copied_listed (suc n) ss)

exempt_listed : (n : ℕ) (ss : List Statement)
    → listed_statements n (codes "exempt") ss ≡ numbered_lines (codes "A") n (codes " exempt ") ss
exempt_listed n [] = refl
exempt_listed n (s ∷ ss) = ap (λ r. listed_statement n (codes "exempt") s ++ r) (exempt_listed (suc n) ss)

assumed_listed : (n : ℕ) (t : Theory) (ss : List Statement)
    → flat_map listed_duty (label_all Assume n t ss) ≡ numbered_lines (codes "assume.") n (codes " ") ss
assumed_listed n t [] = refl
assumed_listed n t (s ∷ ss) =
    ap (λ r. listed_duty (record { label = Assume n; theory = t; statement = s }) ++ r) (assumed_listed (suc n) t ss)

implied_listed : (n : ℕ) (t : Theory) (ss : List Statement)
    → flat_map listed_duty (label_all Imply n t ss) ≡ numbered_lines (codes "imply.") n (codes " ") ss
implied_listed n t [] = refl
implied_listed n t (s ∷ ss) =
    ap (λ r. listed_duty (record { label = Imply n; theory = t; statement = s }) ++ r) (implied_listed (suc n) t ss)

converted_listed : (n : ℕ) (t : Theory) (ss : List Statement)
    → flat_map listed_duty (label_all Convert n t ss) ≡ numbered_lines (codes "convert.") n (codes " ") ss
converted_listed n t [] = refl
converted_listed n t (s ∷ ss) =
    ap (λ r. listed_duty (record { label = Convert n; theory = t; statement = s }) ++ r) (converted_listed (suc n) t ss)

own_listed : (t : Theory) (ds is : List Statement)
    → flat_map listed_duty (label_all Assume 1 t ds ++ label_all Imply 1 t is) ≡ own_lines ds is
own_listed t ds is =
    flat_map-append listed_duty (label_all Assume 1 t ds) (label_all Imply 1 t is)
    ∙ ap₂ (λ a b. a ++ b) (assumed_listed 1 t ds) (implied_listed 1 t is)

added_listed : (count : ℕ) (c : Clause)
    → listed_statements (suc count) (codes "copied") c.copied
    ++ listed_statements (suc (count + length c.copied)) (codes "exempt") c.exempt
    ≡ added_lines count c
added_listed count c =
    ap₂ (λ a b. a ++ b) (copied_listed (suc count) c.copied) (exempt_listed (suc (count + length c.copied)) c.exempt)

clause_listed : (count n : ℕ) (t : Theory) (c : Clause)
    → listed_clause count (record { clause = c; duties = label_all Convert n t (map is_its_copy c.copies) })
    ≡ clause_lines count n c
clause_listed count n t c =
    let copied = listed_statements (suc count) (codes "copied") c.copied in
    let exempt = listed_statements (suc (count + length c.copied)) (codes "exempt") c.exempt in
    let duties = flat_map listed_duty (label_all Convert n t (map is_its_copy c.copies)) in
    ap (λ r. copy_lines c.copies ++ r)
    (sym (append_assoc copied exempt duties)
    ∙ ap₂ (λ a b. a ++ b) (added_listed count c) (converted_listed n t (map is_its_copy c.copies)))

clauses_listed : (count : ℕ) (t : Theory) (n : ℕ) (cs : List Conversion)
    → flat_map (listed_clause count) (clause_duties n t (map (clause_over t) cs)) ≡ clauses_lines count t n cs
clauses_listed count t n [] = refl
clauses_listed count t n (c ∷ cs) =
    let k = clause_over t c in
    ap₂ (λ a b. a ++ b) (clause_listed count n (clause_theory t k) k) (clauses_listed count t (n + length k.copies) cs)

-- all lines are those of the parts, one behind the other
pub all_listed : (raw : RawTrait) (g h : Gathered) (is : List Statement) (cs : List Conversion)
    → (flat_lines g ++ own_lines h.discharge is) ++ clauses_lines (length g.marked) (theory_in h) 1 cs
    ≡ trait_listing (flat_with raw g) (duties_in h is cs)
all_listed raw g h is cs =
    let operators = flat_map listed_operator g.operators in
    let marked = listed_marked 1 g.marked in
    let own = own_lines h.discharge is in
    let clauses = clauses_lines (length g.marked) (theory_in h) 1 cs in
    append_assoc (operators ++ marked) own clauses ∙ append_assoc operators marked (own ++ clauses)
    ∙ ap (λ r. operators ++ (marked ++ r))
    (ap₂ (λ a b. a ++ b) (sym (own_listed (theory_in h) h.discharge is))
    (sym (clauses_listed (length g.marked) (theory_in h) 1 cs)))

-- what is left to write or to put is written in part
pub went_on : {A : Type 0} (text new part left whole all : List A) → new ≡ text ++ part → whole ≡ part ++ left
    → text ++ whole ≡ all → new ++ left ≡ all
went_on text new part left whole all a b h =
    ap (λ r. r ++ left) a ∙ append_assoc text part left ∙ ap (λ r. text ++ r) (sym b) ∙ h

marked_line : (n : ℕ) (mark : List ℕ) (s : Statement)
    → numbered_line (codes "A") n (codes " " ++ (mark ++ codes " ")) s ≡ listed_statement n mark s
marked_line n mark s =
    ap (λ r. codes "A" ++ (decimal n ++ (codes " " ++ r)))
    (append_assoc mark (codes " ") (printed_statement s ++ codes "\n"))

-- the line of a marked statement is written
pub marked_step : (ms : List Marked) (i : ℕ) (s : Statement) (assumed : Bool) (word text new all : List ℕ)
    → drop i ms ≡ record { statement = s; assumed = assumed } ∷ drop (i + 1) ms
    → ((m : Marked) → m.assumed ≡ assumed → word ≡ codes " " ++ (mark_text m ++ codes " "))
    → new ≡ text ++ numbered_line (codes "A") (i + 1) word s
    → text ++ listed_marked (i + 1) (drop i ms) ≡ all → new ++ listed_marked (i + 1 + 1) (drop (i + 1) ms) ≡ all
marked_step ms i s assumed word text new all e w a h =
    let m : Marked = record { statement = s; assumed = assumed } in
    let line : numbered_line (codes "A") (i + 1) word s ≡ listed_statement (i + 1) (mark_text m) s =
    ap (λ v. numbered_line (codes "A") (i + 1) v s) (w m refl) ∙ marked_line (i + 1) (mark_text m) s in
    went_on text new (numbered_line (codes "A") (i + 1) word s) (listed_marked (i + 1 + 1) (drop (i + 1) ms))
    (listed_marked (i + 1) (drop i ms)) all a
    (ap (listed_marked (i + 1)) e
    ∙ ap₂ (λ v k. v ++ listed_marked k (drop (i + 1) ms)) (sym line) (sym (add-one (i + 1))))
    h

-- the lines of a clause are written
pub clause_step : (count : ℕ) (t : Theory) (cs : List Conversion) (i : ℕ) (c : Conversion) (n next : ℕ) (k : Clause)
    (text new all : List ℕ)
    → i < length cs → c ≡ get_or cs i c → k ≡ clause_over t c → new ≡ text ++ clause_lines count n k
    → next ≡ n + length k.copies
    → text ++ clauses_lines count t n (drop i cs) ≡ all → new ++ clauses_lines count t next (drop (i + 1) cs) ≡ all
clause_step count t cs i c n next k text new all lt is e a m h =
    went_on text new (clause_lines count n k) (clauses_lines count t next (drop (i + 1) cs))
    (clauses_lines count t n (drop i cs)) all a
    (ap (clauses_lines count t n) (drop_more cs i c lt ∙ ap (λ y. y ∷ drop (i + 1) cs) (sym is))
    ∙ ap (λ j. clause_lines count n j ++ clauses_lines count t (n + length j.copies) (drop (i + 1) cs)) (sym e)
    ∙ ap (λ j. clause_lines count n k ++ clauses_lines count t j (drop (i + 1) cs)) (sym m))
    h

-- all parts are written, one behind the other
pub all_written : (raw : RawTrait) (g h : Gathered) (is js : List Statement) (cs ks : List Conversion)
    (d : Duties) (count : ℕ)
    (ds : List Statement) (none flat own text : List ℕ) → none ≡ [] → flat ≡ none ++ flat_lines g
    → own ≡ flat ++ own_lines ds js
    → text ≡ own ++ clauses_lines count (theory_in h) 1 ks → ds ≡ h.discharge → js ≡ is → ks ≡ cs
    → count ≡ length g.marked
    → duties_in h is cs ≡ d → text ≡ trait_listing (flat_with raw g) d
all_written raw g h is js cs ks d count ds none flat own text n f o t discharged implied converted counted view =
    t ∙ ap (λ r. r ++ clauses_lines count (theory_in h) 1 ks)
    (o ∙ ap (λ r. r ++ own_lines ds js) (f ∙ ap (λ r. r ++ flat_lines g) n))
    ∙ ap (λ xs. (flat_lines g ++ own_lines xs js) ++ clauses_lines count (theory_in h) 1 ks) discharged
    ∙ ap (λ xs. (flat_lines g ++ own_lines h.discharge xs) ++ clauses_lines count (theory_in h) 1 ks) implied
    ∙ ap (λ xs. (flat_lines g ++ own_lines h.discharge is) ++ clauses_lines count (theory_in h) 1 xs) converted
    ∙ ap (λ k. (flat_lines g ++ own_lines h.discharge is) ++ clauses_lines k (theory_in h) 1 cs) counted
    ∙ all_listed raw g h is cs ∙ ap (trait_listing (flat_with raw g)) view
