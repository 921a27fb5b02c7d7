-- Lines as texts, both ways.
use Rattle.std.specs.Prelude.{◌≡◌, ◌<◌, ℕ, ◌==◌, Bool, true, false, List, [], ◌∷◌, ◌++◌, map, codes, decimal}
use Rattle.std.specs.Prelude.{bytes_eq, Option, Some, None, option_map, option_and_then}
use Rattle.std.specs.Prelude.{if◌then◌else◌}
use Rattle.std.specs.List.{join_with_byte}
use Rattle.larch_certificate.specs.BaseWord.{is_word}
use Rattle.larch_certificate.specs.Coded.{CodedTree}
use Rattle.larch_certificate.specs.declared.line.Binding.{Binding}
use Rattle.larch_certificate.specs.declared.line.BoxPart.{BoxPart}
use Rattle.larch_certificate.specs.declared.line.CodedEquation.{CodedEquation}
use Rattle.larch_certificate.specs.declared.line.CodedVar.{CodedVar}
use Rattle.larch_certificate.specs.declared.line.Line.{Line}
use Rattle.larch_certificate.specs.declared.line.Line.TheVariants as rule
use Rattle.larch_certificate_text.specs.EquationText.{equation_text, FitEquation, read_term, read_equation}
use Rattle.larch_certificate_text.specs.ListText.{split_at, list_text, read_listed, part_with_label, part}
use Rattle.larch_certificate_text.specs.Parts.{IsSmall, Each, read_number, ref_text, read_ref, cut_at}
use Rattle.larch_certificate_text.specs.TermText.{term_text, FitTerm}
use Rattle.larch_certificate_text.specs.declared.here.Here.{Here}
use Rattle.larch_certificate_text.specs.declared.rule_word.RuleWord.{RuleWord}
use Rattle.larch_certificate_text.specs.declared.rule_word.RuleWord.TheVariants as word

-- a word: names of variables and sorts
abbrev pub IsWord : List ℕ → Type 0
IsWord w = is_word w ≡ true

-- the word that a text is
abbrev pub read_word : List ℕ → Option (List ℕ)
read_word text = if is_word text then Some text else None

-- what is made of two things, of three, of four, where all are there
abbrev pub two : {A B C : Type 0} → (A → B → C) → Option A → Option B → Option C
two f None q = None
two f (Some x) None = None
two f (Some x) (Some y) = Some (f x y)

abbrev pub three : {A B C D : Type 0} → (A → B → C → D) → Option A → Option B → Option C → Option D
three f None q s = None
three f (Some x) None s = None
three f (Some x) (Some y) None = None
three f (Some x) (Some y) (Some z) = Some (f x y z)

abbrev pub four : {A B C D E : Type 0} → (A → B → C → D → E)
    → Option A → Option B → Option C → Option D → Option E
four f None q s t = None
four f (Some x) None s t = None
four f (Some x) (Some y) None t = None
four f (Some x) (Some y) (Some z) None = None
four f (Some x) (Some y) (Some z) (Some w) = Some (f x y z w)

-- ---- variables, bindings and parts of boxes

-- name and sort with a colon between them
abbrev pub variable_text : CodedVar → List ℕ
variable_text v = v.name ++ (58 ∷ v.sort)

-- a variable that has a text
abbrev pub FitVariable : CodedVar → Type 0
FitVariable v = IsWord v.name × IsWord v.sort

-- the variable of a name and a sort
abbrev pub variable : List ℕ → List ℕ → CodedVar
variable n s = record { name = n; sort = s }

-- the variable that two words are
abbrev pub words_of : List ℕ × List ℕ → Option CodedVar
words_of p = two variable (read_word p.0) (read_word p.1)

-- the variable that a text is: name and sort with a colon between them
abbrev pub read_variable : List ℕ → Option CodedVar
read_variable text = option_and_then words_of (cut_at 58 text)

-- a variable and a term with an equality sign between them
abbrev pub binding_text : Here → Binding → List ℕ
binding_text h b = (b.name ++ (58 ∷ b.sort)) ++ (61 ∷ term_text h b.term)

-- a binding that has a text
abbrev pub FitBinding : Binding → Type 0
FitBinding b = IsWord b.name × (IsWord b.sort × FitTerm b.term)

-- the binding of a variable and a term
abbrev pub binding : CodedVar → CodedTree → Binding
binding v t = record { name = v.name; sort = v.sort; term = t }

-- the binding that two texts are
abbrev pub binding_of : Here → List ℕ × List ℕ → Option Binding
binding_of h p = two binding (read_variable p.0) (read_term h p.1)

-- the binding that a text is: a variable and a term with an equality sign between them
abbrev pub read_binding : Here → List ℕ → Option Binding
read_binding h text = option_and_then (binding_of h) (cut_at 61 text)

-- a sort, with what a predicate answers
abbrev pub box_part_by : List ℕ → Bool → List ℕ
box_part_by s false = s
box_part_by s true = s ++ (62 ∷ codes "Bool")

-- a constant is its sort, and a predicate says what it answers
abbrev pub box_part_text : BoxPart → List ℕ
box_part_text p = box_part_by p.sort p.predicate

-- a part of a box that has a text
abbrev pub FitBoxPart : BoxPart → Type 0
FitBoxPart p = IsWord p.sort

-- a predicate on a sort, or a constant of it
abbrev pub box_part : Bool → List ℕ → BoxPart
box_part b s = record { sort = s; predicate = b }

-- the predicate or the constant whose sort a text is
abbrev pub sort_as : Bool → List ℕ → Option BoxPart
sort_as b text = option_map (box_part b) (read_word text)

-- the predicate on a sort, whose answer is a truth value
abbrev pub predicate_of : List ℕ × List ℕ → Option BoxPart
predicate_of p = if bytes_eq p.1 (codes "Bool") then sort_as true p.0 else None

-- a predicate has a sign between its sort and what it answers, and a constant has none
abbrev pub box_part_of : List ℕ → Option (List ℕ × List ℕ) → Option BoxPart
box_part_of text (Some p) = predicate_of p
box_part_of text None = sort_as false text

-- the part of a box that a text is
abbrev pub read_box_part : List ℕ → Option BoxPart
read_box_part text = box_part_of text (cut_at 62 text)

-- ---- numbers in lists

-- the number of an argument
abbrev pub IsArgument : ℕ → Type 0
IsArgument k = (0 < k) × IsSmall k

-- numbers but 0
abbrev pub positive : ℕ → Option ℕ
positive k = if k == 0 then None else Some k

-- the number of an argument that a text is
abbrev pub read_argument : List ℕ → Option ℕ
read_argument text = option_and_then positive (read_number text)

-- an operator as clauses list it
abbrev pub operator_text : ℕ → List ℕ
operator_text k = 35 ∷ decimal k

-- the operator that a text is, as clauses list it
abbrev pub read_operator : List ℕ → Option ℕ
read_operator [] = None
read_operator (b ∷ bs) = if b == 35 then read_number bs else None

-- ---- parts of a line: each has its name in front, where parts have names

abbrev pub number_part : Here → List ℕ → List ℕ → Option ℕ
number_part h label text = part h label read_number text

abbrev pub ref_part : Here → List ℕ → List ℕ → Option ℕ
ref_part h label text = part h label (read_ref h) text

abbrev pub refs_part : Here → List ℕ → List ℕ → Option (List ℕ)
refs_part h label text = part h label (read_listed (read_ref h) 44) text

abbrev pub operators_part : Here → List ℕ → Option (List ℕ)
operators_part h text = part h (codes "ops") (read_listed read_operator 44) text

abbrev pub place_part : Here → List ℕ → Option (List ℕ)
place_part h text = part h (codes "at") (read_listed read_argument 46) text

abbrev pub term_part : Here → List ℕ → Option CodedTree
term_part h text = part h (codes "term") (read_term h) text

abbrev pub sort_part : Here → List ℕ → Option (List ℕ)
sort_part h text = part h (codes "sort") read_word text

abbrev pub variable_part : Here → List ℕ → Option CodedVar
variable_part h text = part h (codes "var") read_variable text

abbrev pub goal_part : Here → List ℕ → Option CodedEquation
goal_part h text = part h (codes "goal") (read_equation h) text

abbrev pub by_part : Here → List ℕ → Option (List Binding)
by_part h text = part h (codes "by") (read_listed (read_binding h) 59) text

abbrev pub variables_part : Here → List ℕ → Option (List CodedVar)
variables_part h text = part h (codes "by") (read_listed read_variable 59) text

abbrev pub sorts_part : Here → List ℕ → Option (List BoxPart)
sorts_part h text = part h (codes "sorts") (read_listed read_box_part 44) text

abbrev pub hyps_part : Here → List ℕ → Option (List CodedEquation)
hyps_part h text = part h (codes "hyps") (read_listed (read_equation h) 59) text

-- the texts of some parts

abbrev pub number_text : Here → List ℕ → ℕ → List ℕ
number_text h label k = part_with_label h label (decimal k)

abbrev pub named_ref : Here → List ℕ → ℕ → List ℕ
named_ref h label m = part_with_label h label (ref_text h m)

abbrev pub refs_text : Here → List ℕ → List ℕ → List ℕ
refs_text h label ms = part_with_label h label (list_text 44 (map (ref_text h) ms))

abbrev pub place_text : Here → List ℕ → List ℕ
place_text h p = part_with_label h (codes "at") (list_text 46 (map decimal p))

abbrev pub goal_text : Here → CodedEquation → List ℕ
goal_text h e = part_with_label h (codes "goal") (equation_text h e)

abbrev pub sorts_text : Here → List BoxPart → List ℕ
sorts_text h ss = part_with_label h (codes "sorts") (list_text 44 (map box_part_text ss))

abbrev pub hyps_text : Here → List CodedEquation → List ℕ
hyps_text h es = part_with_label h (codes "hyps") (list_text 59 (map (equation_text h) es))

abbrev pub by_text : Here → List Binding → List ℕ
by_text h bs = part_with_label h (codes "by") (list_text 59 (map (binding_text h) bs))

abbrev pub variables_text : Here → List CodedVar → List ℕ
variables_text h vs = part_with_label h (codes "by") (list_text 59 (map variable_text vs))

abbrev pub operators_text : Here → List ℕ → List ℕ
operators_text h ks = part_with_label h (codes "ops") (list_text 44 (map operator_text ks))

-- a bar stands between the lists of a box, where parts have no names
abbrev pub box_parts : Bool → List ℕ → List ℕ → List (List ℕ)
box_parts false sorts hyps = sorts ∷ codes "|" ∷ hyps ∷ []
box_parts true sorts hyps = sorts ∷ hyps ∷ []

-- ---- rules

-- the word of a rule and its parts
abbrev pub rule_fields : Here → Line → List (List ℕ)
rule_fields h (rule.Axiom k) = codes "axiom" ∷ number_text h (codes "statement") k ∷ []
rule_fields h (rule.Hyp b k) = codes "hyp" ∷ named_ref h (codes "box") b ∷ number_text h (codes "number") k ∷ []
rule_fields h (rule.Row k None) = codes "row" ∷ number_text h (codes "number") k ∷ []
rule_fields h (rule.Row k (Some s)) =
    codes "row" ∷ number_text h (codes "number") k ∷ part_with_label h (codes "sort") s ∷ []
rule_fields h (rule.Refl t) = codes "refl" ∷ part_with_label h (codes "term") (term_text h t) ∷ []
rule_fields h (rule.Sym m) = codes "sym" ∷ named_ref h (codes "line") m ∷ []
rule_fields h (rule.Inst m bs) = codes "inst" ∷ named_ref h (codes "line") m ∷ by_text h bs ∷ []
rule_fields h (rule.Repl m p l) =
    codes "repl" ∷ named_ref h (codes "line") m ∷ place_text h p ∷ named_ref h (codes "with") l ∷ []
rule_fields h (rule.Equal m) = codes "equal" ∷ named_ref h (codes "line") m ∷ []
rule_fields h (rule.BoxLine ss es) = codes "box" ∷ box_parts h.relative (sorts_text h ss) (hyps_text h es)
rule_fields h rule.Done = codes "done" ∷ []
rule_fields h (rule.Fresh b vs) = codes "fresh" ∷ named_ref h (codes "box") b ∷ variables_text h vs ∷ []
rule_fields h (rule.Cases b c) = codes "cases" ∷ named_ref h (codes "true") b ∷ named_ref h (codes "false") c ∷ []
rule_fields h (rule.Induct m x e bs) =
    codes "induct" ∷ named_ref h (codes "line") m ∷ part_with_label h (codes "var") (variable_text x) ∷ goal_text h e
    ∷ refs_text h (codes "boxes") bs ∷ []
rule_fields h (rule.Observe m e ls) =
    codes "observe" ∷ named_ref h (codes "line") m ∷ goal_text h e ∷ refs_text h (codes "lines") ls ∷ []
rule_fields h (rule.Generated b s fs) =
    codes "generated" ∷ named_ref h (codes "box") b ∷ part_with_label h (codes "sort") s ∷ operators_text h fs ∷ []
rule_fields h (rule.Partitioned b s fs) =
    codes "partitioned" ∷ named_ref h (codes "box") b ∷ part_with_label h (codes "sort") s ∷ operators_text h fs ∷ []

-- lines that have a text: words where there should be, and numbers below 2 ^ 64
abbrev pub FitLine : Line → Type 0
FitLine (rule.Axiom k) = IsSmall k
FitLine (rule.Hyp b k) = IsSmall b × IsSmall k
FitLine (rule.Row k None) = IsSmall k
FitLine (rule.Row k (Some s)) = IsSmall k × IsWord s
FitLine (rule.Refl t) = FitTerm t
FitLine (rule.Sym m) = IsSmall m
FitLine (rule.Inst m bs) = IsSmall m × Each FitBinding bs
FitLine (rule.Repl m p l) = IsSmall m × (Each IsArgument p × IsSmall l)
FitLine (rule.Equal m) = IsSmall m
FitLine (rule.BoxLine ss es) = Each FitBoxPart ss × Each FitEquation es
FitLine rule.Done = Unit {0}
FitLine (rule.Fresh b vs) = IsSmall b × Each FitVariable vs
FitLine (rule.Cases b c) = IsSmall b × IsSmall c
FitLine (rule.Induct m x e bs) = IsSmall m × (FitVariable x × (FitEquation e × Each IsSmall bs))
FitLine (rule.Observe m e ls) = IsSmall m × (FitEquation e × Each IsSmall ls)
FitLine (rule.Generated b s fs) = IsSmall b × (IsWord s × Each IsSmall fs)
FitLine (rule.Partitioned b s fs) = IsSmall b × (IsWord s × Each IsSmall fs)

-- ---- how many parts there are

-- a part in front of others
abbrev pub behind : {A : Type 0} → List ℕ → A → List ℕ × A
behind x y = (x, y)

-- exactly one part, exactly two, three, four
abbrev pub one_of : List (List ℕ) → Option (List ℕ)
one_of [] = None
one_of (p ∷ []) = Some p
one_of (p ∷ q ∷ qs) = None

abbrev pub two_of : List (List ℕ) → Option (List ℕ × List ℕ)
two_of [] = None
two_of (p ∷ ps) = option_map (behind p) (one_of ps)

abbrev pub three_of : List (List ℕ) → Option (List ℕ × (List ℕ × List ℕ))
three_of [] = None
three_of (p ∷ ps) = option_map (behind p) (two_of ps)

abbrev pub four_of : List (List ℕ) → Option (List ℕ × (List ℕ × (List ℕ × List ℕ)))
four_of [] = None
four_of (p ∷ ps) = option_map (behind p) (three_of ps)

-- two parts of which the second stands behind a bar
abbrev pub barred_by : List ℕ → List ℕ × List ℕ → Option (List ℕ × List ℕ)
barred_by x p = if bytes_eq p.0 (codes "|") then Some (x, p.1) else None

-- two parts with a bar between them
abbrev pub split_at_bar : List (List ℕ) → Option (List ℕ × List ℕ)
split_at_bar [] = None
split_at_bar (p ∷ ps) = option_and_then (barred_by p) (two_of ps)

-- the lists of a box, with the bar or without
abbrev pub box_by : Bool → List (List ℕ) → Option (List ℕ × List ℕ)
box_by false ps = split_at_bar ps
box_by true ps = two_of ps

-- ---- what each rule's parts say

-- each rule has its parts in this order
abbrev pub axiom_of : Here → List ℕ → Option Line
axiom_of h p = option_map (λ k. rule.Axiom k) (number_part h (codes "statement") p)

abbrev pub hyp_of : Here → List ℕ × List ℕ → Option Line
hyp_of h p = two (λ b k. rule.Hyp b k) (ref_part h (codes "box") p.0) (number_part h (codes "number") p.1)

abbrev pub row_of : Here → List ℕ → Option Line
row_of h p = option_map (λ k. rule.Row k None) (number_part h (codes "number") p)

abbrev pub row_at_of : Here → List ℕ × List ℕ → Option Line
row_at_of h p = two (λ k s. rule.Row k (Some s)) (number_part h (codes "number") p.0) (sort_part h p.1)

-- a row without a sort or with one
abbrev pub row_by : Here → Option (List ℕ) → Option (List ℕ × List ℕ) → Option Line
row_by h (Some p) o = row_of h p
row_by h None o = option_and_then (row_at_of h) o

abbrev pub refl_of : Here → List ℕ → Option Line
refl_of h p = option_map (λ t. rule.Refl t) (term_part h p)

abbrev pub sym_of : Here → List ℕ → Option Line
sym_of h p = option_map (λ m. rule.Sym m) (ref_part h (codes "line") p)

abbrev pub inst_of : Here → List ℕ × List ℕ → Option Line
inst_of h p = two (λ m bs. rule.Inst m bs) (ref_part h (codes "line") p.0) (by_part h p.1)

abbrev pub repl_of : Here → List ℕ × (List ℕ × List ℕ) → Option Line
repl_of h p =
    three (λ m q l. rule.Repl m q l) (ref_part h (codes "line") p.0) (place_part h p.1.0)
    (ref_part h (codes "with") p.1.1)

abbrev pub equal_of : Here → List ℕ → Option Line
equal_of h p = option_map (λ m. rule.Equal m) (ref_part h (codes "line") p)

abbrev pub box_of : Here → List ℕ × List ℕ → Option Line
box_of h p = two (λ ss es. rule.BoxLine ss es) (sorts_part h p.0) (hyps_part h p.1)

abbrev pub fresh_of : Here → List ℕ × List ℕ → Option Line
fresh_of h p = two (λ b vs. rule.Fresh b vs) (ref_part h (codes "box") p.0) (variables_part h p.1)

abbrev pub cases_of : Here → List ℕ × List ℕ → Option Line
cases_of h p = two (λ b c. rule.Cases b c) (ref_part h (codes "true") p.0) (ref_part h (codes "false") p.1)

abbrev pub induct_of : Here → List ℕ × (List ℕ × (List ℕ × List ℕ)) → Option Line
induct_of h p =
    four (λ m x e bs. rule.Induct m x e bs) (ref_part h (codes "line") p.0) (variable_part h p.1.0)
    (goal_part h p.1.1.0) (refs_part h (codes "boxes") p.1.1.1)

abbrev pub observe_of : Here → List ℕ × (List ℕ × List ℕ) → Option Line
observe_of h p =
    three (λ m e ls. rule.Observe m e ls) (ref_part h (codes "line") p.0) (goal_part h p.1.0)
    (refs_part h (codes "lines") p.1.1)

abbrev pub generated_of : Here → List ℕ × (List ℕ × List ℕ) → Option Line
generated_of h p =
    three (λ b s fs. rule.Generated b s fs) (ref_part h (codes "box") p.0) (sort_part h p.1.0)
    (operators_part h p.1.1)

abbrev pub partitioned_of : Here → List ℕ × (List ℕ × List ℕ) → Option Line
partitioned_of h p =
    three (λ b s fs. rule.Partitioned b s fs) (ref_part h (codes "box") p.0) (sort_part h p.1.0)
    (operators_part h p.1.1)

-- the end of a box has no parts
abbrev pub read_done : List (List ℕ) → Option Line
read_done [] = Some rule.Done
read_done (p ∷ ps) = None

-- what the parts behind the word of a rule say
abbrev pub read_by_word : Here → List (List ℕ) → RuleWord → Option Line
read_by_word h ps word.Axiom = option_and_then (axiom_of h) (one_of ps)
read_by_word h ps word.Hyp = option_and_then (hyp_of h) (two_of ps)
read_by_word h ps word.Row = row_by h (one_of ps) (two_of ps)
read_by_word h ps word.Refl = option_and_then (refl_of h) (one_of ps)
read_by_word h ps word.Sym = option_and_then (sym_of h) (one_of ps)
read_by_word h ps word.Inst = option_and_then (inst_of h) (two_of ps)
read_by_word h ps word.Repl = option_and_then (repl_of h) (three_of ps)
read_by_word h ps word.Equal = option_and_then (equal_of h) (one_of ps)
read_by_word h ps word.BoxLine = option_and_then (box_of h) (box_by h.relative ps)
read_by_word h ps word.Done = read_done ps
read_by_word h ps word.Fresh = option_and_then (fresh_of h) (two_of ps)
read_by_word h ps word.Cases = option_and_then (cases_of h) (two_of ps)
read_by_word h ps word.Induct = option_and_then (induct_of h) (four_of ps)
read_by_word h ps word.Observe = option_and_then (observe_of h) (three_of ps)
read_by_word h ps word.Generated = option_and_then (generated_of h) (three_of ps)
read_by_word h ps word.Partitioned = option_and_then (partitioned_of h) (three_of ps)

-- the words of the rules
abbrev pub word_text : RuleWord → List ℕ
word_text word.Axiom = codes "axiom"
word_text word.Hyp = codes "hyp"
word_text word.Row = codes "row"
word_text word.Refl = codes "refl"
word_text word.Sym = codes "sym"
word_text word.Inst = codes "inst"
word_text word.Repl = codes "repl"
word_text word.Equal = codes "equal"
word_text word.BoxLine = codes "box"
word_text word.Done = codes "done"
word_text word.Fresh = codes "fresh"
word_text word.Cases = codes "cases"
word_text word.Induct = codes "induct"
word_text word.Observe = codes "observe"
word_text word.Generated = codes "generated"
word_text word.Partitioned = codes "partitioned"

-- the rule that a word names
abbrev pub read_rule_word : List ℕ → Option RuleWord
read_rule_word w =
    if bytes_eq w (codes "axiom") then Some word.Axiom
    else if bytes_eq w (codes "hyp") then Some word.Hyp
    else if bytes_eq w (codes "row") then Some word.Row
    else if bytes_eq w (codes "refl") then Some word.Refl
    else if bytes_eq w (codes "sym") then Some word.Sym
    else if bytes_eq w (codes "inst") then Some word.Inst
    else if bytes_eq w (codes "repl") then Some word.Repl
    else if bytes_eq w (codes "equal") then Some word.Equal
    else if bytes_eq w (codes "box") then Some word.BoxLine
    else if bytes_eq w (codes "done") then Some word.Done
    else if bytes_eq w (codes "fresh") then Some word.Fresh
    else if bytes_eq w (codes "cases") then Some word.Cases
    else if bytes_eq w (codes "induct") then Some word.Induct
    else if bytes_eq w (codes "observe") then Some word.Observe
    else if bytes_eq w (codes "generated") then Some word.Generated
    else if bytes_eq w (codes "partitioned") then Some word.Partitioned
    else None

-- a word and its parts
abbrev pub read_rule : Here → List (List ℕ) → Option Line
read_rule h [] = None
read_rule h (w ∷ ps) = option_and_then (read_by_word h ps) (read_rule_word w)

-- ---- lines

-- the number of the line stands in front, where lines name each other by number
abbrev pub fields_by : Bool → ℕ → List (List ℕ) → List (List ℕ)
fields_by false n fs = decimal n ∷ fs
fields_by true n fs = fs

-- the fields of a line
abbrev pub line_fields : Here → Line → List (List ℕ)
line_fields h r = fields_by h.relative h.line (rule_fields h r)

-- the text of a line: its fields with one blank between them
abbrev pub line_text : Here → Line → List ℕ
line_text h r = join_with_byte 32 (line_fields h r)

-- the number of the line is its own
abbrev pub read_fields : Here → Bool → List (List ℕ) → Option Line
read_fields h true fs = read_rule h fs
read_fields h false [] = None
read_fields h false (n ∷ fs) = if bytes_eq n (decimal h.line) then read_rule h fs else None

-- the line that a text is
abbrev pub read_line : Here → List ℕ → Option Line
read_line h text = read_fields h h.relative (split_at 32 text)
