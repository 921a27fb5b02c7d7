-- A line has one text.
use Rattle.std.proofs.Common.{◌≡◌, ◌<◌, ℕ, ◌==◌, ◌||◌, cond, Bool, true, false, List, [], ◌∷◌, ◌++◌, Option, Some, None}
use Rattle.std.proofs.Common.{refl, sym, ◌∙◌, ap, arith, subst}
use Rattle.std.specs.Prelude.{codes, decimal, bytes_eq, option_map, option_and_then, zero, suc}
use Rattle.std.specs.List.{join_with_byte}
use Rattle.std.specs.Char.{is_ascii_digit}
use Rattle.std.proofs.lemmas.Fmt.{digits_decimal}
use Rattle.std.proofs.lemmas.Bool.{cond-false, cond-true, or_left, ne_eqb, eqb-false, eqb-true}
use Rattle.std.proofs.lemmas.Option.{none-some, same_Some, option_and_then_some, cond_some}
use Rattle.std.proofs.lemmas.Slice.Eq.{bytes_eq-Decides}
use Rattle.larch_certificate.specs.BaseWord.{is_word}
use Rattle.larch_certificate.specs.Coded.{CodedTree, CodedForest, coded_var, coded_app, no_terms, term_then}
use Rattle.larch_certificate.specs.declared.line.Binding.{Binding}
use Rattle.larch_certificate.specs.declared.line.BoxPart.{BoxPart}
use Rattle.larch_certificate.specs.declared.line.CodedVar.{CodedVar}
use Rattle.larch_certificate.specs.declared.line.Line.{Line}
use Rattle.larch_certificate.specs.declared.line.Line.TheVariants as rule
use Rattle.larch_certificate_text.specs.ByteClasses.{passes, Lacks, is_ref_byte, is_word_byte, is_op_byte, is_atom_byte}
use Rattle.larch_certificate_text.specs.ByteClasses.{is_term_byte, is_part_byte, is_line_byte}
use Rattle.larch_certificate_text.specs.EquationText.{equation_text, FitEquation, read_term, read_equation}
use Rattle.larch_certificate_text.specs.LineText.{IsWord, read_word, two, three, four, variable_text, FitVariable}
use Rattle.larch_certificate_text.specs.LineText.{variable, words_of, read_variable, binding_text, FitBinding, binding}
use Rattle.larch_certificate_text.specs.LineText.{binding_of, read_binding, box_part_by, box_part_text, FitBoxPart}
use Rattle.larch_certificate_text.specs.LineText.{box_part, sort_as, box_part_of, read_box_part, IsArgument, positive}
use Rattle.larch_certificate_text.specs.LineText.{read_argument, operator_text, read_operator}
use Rattle.larch_certificate_text.specs.LineText.{number_part, ref_part, refs_part, place_part, term_part, sort_part}
use Rattle.larch_certificate_text.specs.LineText.{variable_part, goal_part, by_part, variables_part, sorts_part}
use Rattle.larch_certificate_text.specs.LineText.{hyps_part, operators_part, number_text, named_ref, refs_text}
use Rattle.larch_certificate_text.specs.LineText.{place_text, goal_text, sorts_text, hyps_text, by_text, variables_text}
use Rattle.larch_certificate_text.specs.LineText.{operators_text, box_parts}
use Rattle.larch_certificate_text.specs.LineText.{rule_fields, FitLine, behind, one_of, two_of, three_of, four_of}
use Rattle.larch_certificate_text.specs.LineText.{barred_by, box_by, axiom_of, hyp_of, row_of, row_at_of, row_by}
use Rattle.larch_certificate_text.specs.LineText.{refl_of, sym_of, inst_of, repl_of, equal_of, box_of, fresh_of}
use Rattle.larch_certificate_text.specs.LineText.{cases_of, induct_of, observe_of, generated_of, partitioned_of}
use Rattle.larch_certificate_text.specs.LineText.{read_done, read_by_word, word_text, read_rule_word, read_rule}
use Rattle.larch_certificate_text.specs.LineText.{fields_by, line_fields, line_text, read_fields, read_line}
use Rattle.larch_certificate_text.specs.ListText.{Laws, split_at, part_with_label}
use Rattle.larch_certificate_text.specs.SymbolText.{symbol_text}
use Rattle.larch_certificate_text.specs.Parts.{IsSmall, Each, read_number, ref_text, read_ref, read_ref_by, cut_at}
use Rattle.larch_certificate_text.specs.TermText.{term_text, arguments_text, others_text, FitTerm, FitTerms}
use Rattle.larch_certificate_text.specs.declared.here.Here.{Here}
use Rattle.larch_certificate_text.specs.declared.rule_word.RuleWord.{RuleWord}
use Rattle.larch_certificate_text.specs.declared.rule_word.RuleWord.TheVariants as word
use Rattle.larch_certificate_text.proofs.Bytes.{lacks, passes_more, passes_append, word_in_op, op_in_atom, atom_in_term}
use Rattle.larch_certificate_text.proofs.Bytes.{ref_in_op, word_passes, digits_pass, digit_in_word}
use Rattle.larch_certificate_text.proofs.Cuts.{cut_again, cut_none, cut_some}
use Rattle.larch_certificate_text.proofs.EquationLaws.{term_again, term_read, equation_again, equation_read}
use Rattle.larch_certificate_text.proofs.EquationLaws.{equation_not_dash}
use Rattle.larch_certificate_text.proofs.ListLaws.{list_laws, part_laws, split_joined, joined_split, joined_passes}
use Rattle.larch_certificate_text.proofs.Numbers.{own, number_again, number_read}
use Rattle.larch_certificate_text.proofs.SymbolLaws.{mapped, op_passes}
use Rattle.larch_certificate_text.proofs.Refs.{ref_by_again, ref_by_read, ref_passes}
use Rattle.larch_certificate_text.proofs.TermLaws.{var_passes}

-- ---- bytes

term_in_part : (b : ℕ) → is_term_byte b ≡ true → is_part_byte b ≡ true
term_in_part b e = or_left (is_term_byte b) ((b == 59) || ((b == 45) || (b == 124))) e

op_in_term : (b : ℕ) → is_op_byte b ≡ true → is_term_byte b ≡ true
op_in_term b e = atom_in_term b (op_in_atom b e)

op_in_part : (b : ℕ) → is_op_byte b ≡ true → is_part_byte b ≡ true
op_in_part b e = term_in_part b (op_in_term b e)

word_in_part : (b : ℕ) → is_word_byte b ≡ true → is_part_byte b ≡ true
word_in_part b e = op_in_part b (word_in_op b e)

same_part : (b : ℕ) → is_part_byte b ≡ true → is_part_byte b ≡ true
same_part b e = e

mutual
  pub tree_passes : (h : Here) (t : CodedTree) → IsSmall h.line → FitTerm t → passes is_term_byte (term_text h t) ≡ true
  tree_passes h (coded_var n s) l f =
      passes_more is_atom_byte is_term_byte atom_in_term (n ++ (58 ∷ s)) (var_passes n s f.0 f.1)
  tree_passes h (coded_app g ts) l f =
      passes_append is_term_byte (symbol_text h g) (arguments_text h ts)
      (passes_more is_op_byte is_term_byte op_in_term (symbol_text h g) (op_passes h g l f.0)) (list_passes h ts l f.1)

  pub list_passes : (h : Here) (ts : CodedForest) → IsSmall h.line → FitTerms ts
      → passes is_term_byte (arguments_text h ts) ≡ true
  list_passes h no_terms l f = refl
  list_passes h (term_then t ts) l f =
      passes_append is_term_byte (term_text h t) (others_text h ts) (tree_passes h t l f.0) (others_passes h ts l f.1)

  pub others_passes : (h : Here) (ts : CodedForest) → IsSmall h.line → FitTerms ts
      → passes is_term_byte (others_text h ts) ≡ true
  others_passes h no_terms l f = refl
  others_passes h (term_then t ts) l f =
      passes_append is_term_byte (term_text h t) (others_text h ts) (tree_passes h t l f.0) (others_passes h ts l f.1)

-- ---- the laws of each kind of part

number_laws : Laws is_op_byte read_number decimal IsSmall
number_laws = record {
  again = number_again;
  back = number_read;
  bytes =
      λ k s. passes_more is_ascii_digit is_op_byte (λ b e. word_in_op b (digit_in_word b e)) (decimal k)
      (digits_pass (decimal k) (digits_decimal own k s));
}

ref_laws : (h : Here) → IsSmall h.line → Laws is_op_byte (read_ref h) (ref_text h) IsSmall
ref_laws h l = record {
  again = λ m s. ref_by_again h.relative h.line m l s;
  back = λ text m e. ref_by_read h.relative h.line text m l e;
  bytes = λ m s. passes_more is_ref_byte is_op_byte ref_in_op (ref_text h m) (ref_passes h.relative h.line m l s);
}

word_laws : Laws is_word_byte read_word (λ w. w) IsWord
word_laws = record {
  again = λ w e. cond-true (is_word w) (Some w) None e;
  back = λ text w e. let c = cond_some (is_word text) text w e in (c.1, subst IsWord c.1 c.0);
  bytes = λ w e. word_passes w e;
}

term_laws : (h : Here) → IsSmall h.line → Laws is_term_byte (read_term h) (term_text h) FitTerm
term_laws h l = record {
  again = λ t f. term_again h t l f;
  back = λ text t e. term_read h text t l e;
  bytes = λ t f. tree_passes h t l f;
}

equation_laws : (h : Here) → IsSmall h.line → Laws is_term_byte (read_equation h) (equation_text h) FitEquation
equation_laws h l = record {
  again = λ e f. equation_again h e l f;
  back = λ text e i. equation_read h text e l i;
  bytes =
      λ e f. passes_append is_term_byte (term_text h e.left) (61 ∷ 61 ∷ term_text h e.right)
      (tree_passes h e.left l f.0) (tree_passes h e.right l f.1);
}

pub two_some : {A B C P : Type 0} (f : A → B → C) (o : Option A) (q : Option B) (z : C) → two f o q ≡ Some z
    → ((x : A) (y : B) → o ≡ Some x → q ≡ Some y → f x y ≡ z → P) → P
two_some f None q z e k = absurd (none-some z e)
two_some f (Some x) None z e k = absurd (none-some z e)
two_some f (Some x) (Some y) z e k = k x y refl refl (same_Some (f x y) z e)

variable_lacks : (n s : List ℕ) → IsWord n → IsWord s → Lacks 61 (n ++ (58 ∷ s))
variable_lacks n s a b = lacks (λ b. is_word_byte b || (b == 58)) 61 (n ++ (58 ∷ s))
    (passes_append (λ b. is_word_byte b || (b == 58)) n (58 ∷ s)
    (passes_more is_word_byte (λ b. is_word_byte b || (b == 58)) (λ x e. or_left (is_word_byte x) (x == 58) e) n
    (word_passes n a))
    (passes_more is_word_byte (λ b. is_word_byte b || (b == 58)) (λ x e. or_left (is_word_byte x) (x == 58) e) s
    (word_passes s b)))
    refl

-- variables, bindings and parts of boxes

variable_again : (v : CodedVar) → FitVariable v → read_variable (variable_text v) ≡ Some v
variable_again v f =
    ap (option_and_then words_of) (cut_again 58 v.name v.sort
    (lacks is_word_byte 58 v.name (word_passes v.name f.0) refl))
    ∙ ap (λ o. two variable o (read_word v.sort)) (word_laws.again v.name f.0)
    ∙ ap (λ o. two variable (Some v.name) o) (word_laws.again v.sort f.1)

variable_back : (text : List ℕ) (v : CodedVar) → read_variable text ≡ Some v → (text ≡ variable_text v) × FitVariable v
variable_back text v e =
    option_and_then_some words_of (cut_at 58 text) v e (λ q c d.
    two_some variable (read_word q.0) (read_word q.1) v d (λ n s u w m.
    let a = word_laws.back q.0 n u in
    let k = word_laws.back q.1 s w in
    subst (λ v. (text ≡ variable_text v) × FitVariable v) m (
      cut_some 58 text q.0 q.1 c ∙ ap (λ z. z ++ (58 ∷ q.1)) a.0 ∙ ap (λ z. n ++ (58 ∷ z)) k.0,
      (a.1, k.1),
    )))

variable_laws : Laws is_atom_byte read_variable variable_text FitVariable
variable_laws = record {
  again = variable_again;
  back = variable_back;
  bytes = λ v f. var_passes v.name v.sort f.0 f.1;
}

binding_again : (h : Here) (b : Binding) → IsSmall h.line → FitBinding b → read_binding h (binding_text h b) ≡ Some b
binding_again h b l f =
    ap (option_and_then (binding_of h))
    (cut_again 61 (b.name ++ (58 ∷ b.sort)) (term_text h b.term) (variable_lacks b.name b.sort f.0 f.1.0))
    ∙ ap (λ o. two binding o (read_term h (term_text h b.term))) (variable_again (variable b.name b.sort) (f.0, f.1.0))
    ∙ ap (λ o. two binding (Some (variable b.name b.sort)) o) (term_again h b.term l f.1.1)

binding_back : (h : Here) (text : List ℕ) (b : Binding) → IsSmall h.line → read_binding h text ≡ Some b
    → (text ≡ binding_text h b) × FitBinding b
binding_back h text b l e =
    option_and_then_some (binding_of h) (cut_at 61 text) b e (λ p i j.
    two_some binding (read_variable p.0) (read_term h p.1) b j (λ v t x y z.
    let a = variable_back p.0 v x in
    let r = term_read h p.1 t l y in
    subst (λ b. (text ≡ binding_text h b) × FitBinding b) z (
      cut_some 61 text p.0 p.1 i ∙ ap (λ z. z ++ (61 ∷ p.1)) a.0 ∙ ap (λ z. variable_text v ++ (61 ∷ z)) r.0,
      (a.1.0, (a.1.1, r.1)),
    )))

binding_laws : (h : Here) → IsSmall h.line → Laws is_term_byte (read_binding h) (binding_text h) FitBinding
binding_laws h l = record {
  again = λ b f. binding_again h b l f;
  back = λ text b e. binding_back h text b l e;
  bytes =
      λ b f. passes_append is_term_byte (b.name ++ (58 ∷ b.sort)) (61 ∷ term_text h b.term)
      (passes_more is_atom_byte is_term_byte atom_in_term (b.name ++ (58 ∷ b.sort))
      (var_passes b.name b.sort f.0 f.1.0)) (tree_passes h b.term l f.1.1);
}

same_box_part : (p : BoxPart) (b : Bool) → b ≡ p.predicate → box_part b p.sort ≡ p
same_box_part p b e = λ i. record { sort = p.sort; predicate = e i }

box_part_again_by : (p : BoxPart) (b : Bool) → b ≡ p.predicate → FitBoxPart p
    → read_box_part (box_part_by p.sort b) ≡ Some p
box_part_again_by p false e f =
    ap (box_part_of p.sort) (cut_none 62 p.sort (lacks is_word_byte 62 p.sort (word_passes p.sort f) refl))
    ∙ ap (option_map (box_part false)) (word_laws.again p.sort f)
    ∙ ap Some (same_box_part p false e)
box_part_again_by p true e f =
    ap (box_part_of (p.sort ++ (62 ∷ codes "Bool")))
    (cut_again 62 p.sort (codes "Bool") (lacks is_word_byte 62 p.sort (word_passes p.sort f) refl))
    ∙ ap (option_map (box_part true)) (word_laws.again p.sort f)
    ∙ ap Some (same_box_part p true e)

box_part_again : (p : BoxPart) → FitBoxPart p → read_box_part (box_part_text p) ≡ Some p
box_part_again p f = box_part_again_by p p.predicate refl f

sort_as_back : (b : Bool) (text : List ℕ) (p : BoxPart) → sort_as b text ≡ Some p
    → (box_part_by text b ≡ box_part_text p) × FitBoxPart p
sort_as_back b text p e = mapped (box_part b) (read_word text) p e (λ s i j.
    let a = word_laws.back text s i in
    subst (λ p. (box_part_by text b ≡ box_part_text p) × FitBoxPart p) j (ap (λ z. box_part_by z b) a.0, a.1))

predicate_back : (text : List ℕ) (q : List ℕ × List ℕ) (p : BoxPart) (t : Bool) → text ≡ q.0 ++ (62 ∷ q.1)
    → bytes_eq q.1 (codes "Bool") ≡ t → cond t (sort_as true q.0) None ≡ Some p
    → (text ≡ box_part_text p) × FitBoxPart p
predicate_back text q p true c i e =
    let a = sort_as_back true q.0 p e in
    (c ∙ ap (λ z. q.0 ++ (62 ∷ z)) ((bytes_eq-Decides q.1 (codes "Bool")).0 i) ∙ a.0, a.1)
predicate_back text q p false c i e = absurd (none-some p e)

box_part_back_by : (text : List ℕ) (o : Option (List ℕ × List ℕ)) (p : BoxPart) → cut_at 62 text ≡ o
    → box_part_of text o ≡ Some p → (text ≡ box_part_text p) × FitBoxPart p
box_part_back_by text (Some q) p c e =
    predicate_back text q p (bytes_eq q.1 (codes "Bool")) (cut_some 62 text q.0 q.1 c) refl e
box_part_back_by text None p c e = sort_as_back false text p e

box_part_passes : (s : List ℕ) (b : Bool) → IsWord s → passes is_op_byte (box_part_by s b) ≡ true
box_part_passes s false f = passes_more is_word_byte is_op_byte word_in_op s (word_passes s f)
box_part_passes s true f =
    passes_append is_op_byte s (62 ∷ codes "Bool")
    (passes_more is_word_byte is_op_byte word_in_op s (word_passes s f)) refl

box_part_laws : Laws is_op_byte read_box_part box_part_text FitBoxPart
box_part_laws = record {
  again = box_part_again;
  back = λ text p e. box_part_back_by text (cut_at 62 text) p refl e;
  bytes = λ p f. box_part_passes p.sort p.predicate f;
}

-- numbers of arguments

positive_some : (k : ℕ) → 0 < k → positive k ≡ Some k
positive_some k p = cond-false (k == 0) None (Some k) (ne_eqb k 0 (λ e. omega (arith, p, e)))

positive_by : (n k : ℕ) (t : Bool) → (n == 0) ≡ t → cond t None (Some n) ≡ Some k → (n ≡ k) × (0 < k)
positive_by n k true i e = absurd (none-some k e)
positive_by zero k false i e = absurd (eqb-false 0 0 i refl)
positive_by (suc n) k false i e =
    let j : suc n ≡ k = same_Some (suc n) k e in
    (j, rw (← j) (omega arith))

positive_back : (n k : ℕ) → positive n ≡ Some k → (n ≡ k) × (0 < k)
positive_back n k e = positive_by n k (n == 0) refl e

argument_again : (k : ℕ) → IsArgument k → read_argument (decimal k) ≡ Some k
argument_again k f = ap (option_and_then positive) (number_again k f.1) ∙ positive_some k f.0

argument_back : (text : List ℕ) (k : ℕ) → read_argument text ≡ Some k → (text ≡ decimal k) × IsArgument k
argument_back text k e =
    option_and_then_some positive (read_number text) k e (λ n i j.
    let a = number_read text n i in
    let b = positive_back n k j in
    (a.0 ∙ ap decimal b.0, (b.1, subst IsSmall b.0 a.1)))

argument_laws : Laws is_word_byte read_argument decimal IsArgument
argument_laws = record {
  again = argument_again;
  back = argument_back;
  bytes =
      λ k f. passes_more is_ascii_digit is_word_byte digit_in_word (decimal k)
      (digits_pass (decimal k) (digits_decimal own k f.1));
}

-- operators as clauses list them

operator_back_by : (b : ℕ) (bs : List ℕ) (k : ℕ) (t : Bool) → (b == 35) ≡ t → cond t (read_number bs) None ≡ Some k
    → (b ∷ bs ≡ operator_text k) × IsSmall k
operator_back_by b bs k true i e =
    let a = number_read bs k e in
    (cc (eqb-true b 35 i, a.0), a.1)
operator_back_by b bs k false i e = absurd (none-some k e)

operator_back : (text : List ℕ) (k : ℕ) → read_operator text ≡ Some k → (text ≡ operator_text k) × IsSmall k
operator_back [] k e = absurd (none-some k e)
operator_back (b ∷ bs) k e = operator_back_by b bs k (b == 35) refl e

operator_laws : Laws is_op_byte read_operator operator_text IsSmall
operator_laws = record {
  again = number_again;
  back = operator_back;
  bytes = λ k s. passes_append is_op_byte (35 ∷ []) (decimal k) refl (number_laws.bytes k s);
}

ref_not_dash_by : (b : Bool) (n : ℕ) → read_ref_by b n (45 ∷ []) ≡ None
ref_not_dash_by false n = refl
ref_not_dash_by true n = refl

-- ---- named parts

label_lacks : (label : List ℕ) → passes is_word_byte label ≡ true → Lacks 61 label
label_lacks label e = lacks is_word_byte 61 label e refl

label_in_part : (label : List ℕ) → passes is_word_byte label ≡ true → passes is_part_byte label ≡ true
label_in_part label e = passes_more is_word_byte is_part_byte word_in_part label e

atom_in_part : (b : ℕ) → is_atom_byte b ≡ true → is_part_byte b ≡ true
atom_in_part b e = term_in_part b (atom_in_term b e)

number_part_laws : (h : Here) (label : List ℕ) → passes is_word_byte label ≡ true
    → Laws is_part_byte (number_part h label) (number_text h label) IsSmall
number_part_laws h label e =
    part_laws number_laws is_part_byte op_in_part h label (label_lacks label e) (label_in_part label e) refl

ref_part_laws : (h : Here) (label : List ℕ) → passes is_word_byte label ≡ true → IsSmall h.line
    → Laws is_part_byte (ref_part h label) (named_ref h label) IsSmall
ref_part_laws h label e l =
    part_laws (ref_laws h l) is_part_byte op_in_part h label (label_lacks label e) (label_in_part label e) refl

refs_part_laws : (h : Here) (label : List ℕ) → passes is_word_byte label ≡ true → IsSmall h.line
    → Laws is_part_byte (refs_part h label) (refs_text h label) (Each IsSmall)
refs_part_laws h label e l =
    part_laws (list_laws (ref_laws h l) is_part_byte op_in_part 44 refl refl refl refl
    (ref_not_dash_by h.relative h.line)) is_part_byte same_part h label (label_lacks label e)
    (label_in_part label e) refl

operators_part_laws : (h : Here) → Laws is_part_byte (operators_part h) (operators_text h) (Each IsSmall)
operators_part_laws h =
    part_laws (list_laws operator_laws is_part_byte op_in_part 44 refl refl refl refl refl) is_part_byte same_part h
    (codes "ops") (label_lacks (codes "ops") refl) refl refl

place_part_laws : (h : Here) → Laws is_part_byte (place_part h) (place_text h) (Each IsArgument)
place_part_laws h =
    part_laws (list_laws argument_laws is_part_byte word_in_part 46 refl refl refl refl refl) is_part_byte same_part h
    (codes "at") (label_lacks (codes "at") refl) refl refl

term_part_laws : (h : Here) → IsSmall h.line
    → Laws is_part_byte (term_part h) (λ t. part_with_label h (codes "term") (term_text h t)) FitTerm
term_part_laws h l =
    part_laws (term_laws h l) is_part_byte term_in_part h (codes "term") (label_lacks (codes "term") refl) refl refl

sort_part_laws : (h : Here) → Laws is_part_byte (sort_part h) (λ s. part_with_label h (codes "sort") s) IsWord
sort_part_laws h =
    part_laws word_laws is_part_byte word_in_part h (codes "sort") (label_lacks (codes "sort") refl) refl refl

variable_part_laws : (h : Here)
    → Laws is_part_byte (variable_part h) (λ v. part_with_label h (codes "var") (variable_text v)) FitVariable
variable_part_laws h =
    part_laws variable_laws is_part_byte atom_in_part h (codes "var") (label_lacks (codes "var") refl) refl refl

goal_part_laws : (h : Here) → IsSmall h.line → Laws is_part_byte (goal_part h) (goal_text h) FitEquation
goal_part_laws h l =
    part_laws (equation_laws h l) is_part_byte term_in_part h (codes "goal") (label_lacks (codes "goal") refl) refl refl

by_part_laws : (h : Here) → IsSmall h.line → Laws is_part_byte (by_part h) (by_text h) (Each FitBinding)
by_part_laws h l =
    part_laws (list_laws (binding_laws h l) is_part_byte term_in_part 59 refl refl refl refl refl) is_part_byte
    same_part h (codes "by") (label_lacks (codes "by") refl) refl refl

variables_part_laws : (h : Here) → Laws is_part_byte (variables_part h) (variables_text h) (Each FitVariable)
variables_part_laws h =
    part_laws (list_laws variable_laws is_part_byte atom_in_part 59 refl refl refl refl refl) is_part_byte same_part h
    (codes "by") (label_lacks (codes "by") refl) refl refl

sorts_part_laws : (h : Here) → Laws is_part_byte (sorts_part h) (sorts_text h) (Each FitBoxPart)
sorts_part_laws h =
    part_laws (list_laws box_part_laws is_part_byte op_in_part 44 refl refl refl refl refl) is_part_byte same_part h
    (codes "sorts") (label_lacks (codes "sorts") refl) refl refl

hyps_part_laws : (h : Here) → IsSmall h.line → Laws is_part_byte (hyps_part h) (hyps_text h) (Each FitEquation)
hyps_part_laws h l =
    part_laws (list_laws (equation_laws h l) is_part_byte term_in_part 59 refl refl refl refl (equation_not_dash h))
    is_part_byte same_part h (codes "hyps") (label_lacks (codes "hyps") refl) refl refl

-- ---- rules: what is written is read again

two_again : {A B C : Type 0} (f : A → B → C) (o : Option A) (q : Option B) (x : A) (y : B) → o ≡ Some x → q ≡ Some y
    → two f o q ≡ Some (f x y)
two_again f o q x y a b = ap (λ z. two f z q) a ∙ ap (two f (Some x)) b

three_again : {A B C D : Type 0} (f : A → B → C → D) (o : Option A) (q : Option B) (s : Option C) (x : A) (y : B)
    (z : C) → o ≡ Some x → q ≡ Some y → s ≡ Some z → three f o q s ≡ Some (f x y z)
three_again f o q s x y z a b c =
    ap (λ w. three f w q s) a ∙ ap (λ w. three f (Some x) w s) b ∙ ap (three f (Some x) (Some y)) c

four_again : {A B C D E : Type 0} (f : A → B → C → D → E) (o : Option A) (q : Option B) (s : Option C) (t : Option D)
    (x : A) (y : B) (z : C) (w : D) → o ≡ Some x → q ≡ Some y → s ≡ Some z → t ≡ Some w
    → four f o q s t ≡ Some (f x y z w)
four_again f o q s t x y z w a b c d =
    ap (λ v. four f v q s t) a ∙ ap (λ v. four f (Some x) v s t) b ∙ ap (λ v. four f (Some x) (Some y) v t) c
    ∙ ap (four f (Some x) (Some y) (Some z)) d

box_by_again : (r : Bool) (p q : List ℕ) → box_by r (box_parts r p q) ≡ Some (p, q)
box_by_again false p q = refl
box_by_again true p q = refl

pub rule_again : (h : Here) (r : Line) → IsSmall h.line → FitLine r → read_rule h (rule_fields h r) ≡ Some r
rule_again h (rule.Axiom k) l f =
    ap (option_map (λ k. rule.Axiom k)) ((number_part_laws h (codes "statement") refl).again k f)
rule_again h (rule.Hyp b k) l f =
    two_again (λ b k. rule.Hyp b k) (ref_part h (codes "box") (named_ref h (codes "box") b))
    (number_part h (codes "number") (number_text h (codes "number") k)) b k
    ((ref_part_laws h (codes "box") refl l).again b f.0) ((number_part_laws h (codes "number") refl).again k f.1)
rule_again h (rule.Row k None) l f =
    ap (option_map (λ k. rule.Row k None)) ((number_part_laws h (codes "number") refl).again k f)
rule_again h (rule.Row k (Some s)) l f =
    two_again (λ k s. rule.Row k (Some s)) (number_part h (codes "number") (number_text h (codes "number") k))
    (sort_part h (part_with_label h (codes "sort") s)) k s ((number_part_laws h (codes "number") refl).again k f.0)
    ((sort_part_laws h).again s f.1)
rule_again h (rule.Refl t) l f = ap (option_map (λ t. rule.Refl t)) ((term_part_laws h l).again t f)
rule_again h (rule.Sym m) l f = ap (option_map (λ m. rule.Sym m)) ((ref_part_laws h (codes "line") refl l).again m f)
rule_again h (rule.Inst m bs) l f =
    two_again (λ m bs. rule.Inst m bs) (ref_part h (codes "line") (named_ref h (codes "line") m))
    (by_part h (by_text h bs)) m bs ((ref_part_laws h (codes "line") refl l).again m f.0)
    ((by_part_laws h l).again bs f.1)
rule_again h (rule.Repl m p k) l f =
    three_again (λ m q l. rule.Repl m q l) (ref_part h (codes "line") (named_ref h (codes "line") m))
    (place_part h (place_text h p)) (ref_part h (codes "with") (named_ref h (codes "with") k)) m p k
    ((ref_part_laws h (codes "line") refl l).again m f.0) ((place_part_laws h).again p f.1.0)
    ((ref_part_laws h (codes "with") refl l).again k f.1.1)
rule_again h (rule.Equal m) l f =
    ap (option_map (λ m. rule.Equal m)) ((ref_part_laws h (codes "line") refl l).again m f)
rule_again h (rule.BoxLine ss es) l f =
    ap (option_and_then (box_of h)) (box_by_again h.relative (sorts_text h ss) (hyps_text h es))
    ∙ two_again (λ ss es. rule.BoxLine ss es) (sorts_part h (sorts_text h ss)) (hyps_part h (hyps_text h es)) ss es
    ((sorts_part_laws h).again ss f.0) ((hyps_part_laws h l).again es f.1)
rule_again h rule.Done l f = refl
rule_again h (rule.Fresh b vs) l f =
    two_again (λ b vs. rule.Fresh b vs) (ref_part h (codes "box") (named_ref h (codes "box") b))
    (variables_part h (variables_text h vs)) b vs ((ref_part_laws h (codes "box") refl l).again b f.0)
    ((variables_part_laws h).again vs f.1)
rule_again h (rule.Cases b c) l f =
    two_again (λ b c. rule.Cases b c) (ref_part h (codes "true") (named_ref h (codes "true") b))
    (ref_part h (codes "false") (named_ref h (codes "false") c)) b c
    ((ref_part_laws h (codes "true") refl l).again b f.0) ((ref_part_laws h (codes "false") refl l).again c f.1)
rule_again h (rule.Induct m x e bs) l f =
    four_again (λ m x e bs. rule.Induct m x e bs) (ref_part h (codes "line") (named_ref h (codes "line") m))
    (variable_part h (part_with_label h (codes "var") (variable_text x))) (goal_part h (goal_text h e))
    (refs_part h (codes "boxes") (refs_text h (codes "boxes") bs)) m x e bs
    ((ref_part_laws h (codes "line") refl l).again m f.0) ((variable_part_laws h).again x f.1.0)
    ((goal_part_laws h l).again e f.1.1.0) ((refs_part_laws h (codes "boxes") refl l).again bs f.1.1.1)
rule_again h (rule.Observe m e ls) l f =
    three_again (λ m e ls. rule.Observe m e ls) (ref_part h (codes "line") (named_ref h (codes "line") m))
    (goal_part h (goal_text h e)) (refs_part h (codes "lines") (refs_text h (codes "lines") ls)) m e ls
    ((ref_part_laws h (codes "line") refl l).again m f.0) ((goal_part_laws h l).again e f.1.0)
    ((refs_part_laws h (codes "lines") refl l).again ls f.1.1)
rule_again h (rule.Generated b s fs) l f =
    three_again (λ b s fs. rule.Generated b s fs) (ref_part h (codes "box") (named_ref h (codes "box") b))
    (sort_part h (part_with_label h (codes "sort") s)) (operators_part h (operators_text h fs)) b s fs
    ((ref_part_laws h (codes "box") refl l).again b f.0) ((sort_part_laws h).again s f.1.0)
    ((operators_part_laws h).again fs f.1.1)
rule_again h (rule.Partitioned b s fs) l f =
    three_again (λ b s fs. rule.Partitioned b s fs) (ref_part h (codes "box") (named_ref h (codes "box") b))
    (sort_part h (part_with_label h (codes "sort") s)) (operators_part h (operators_text h fs)) b s fs
    ((ref_part_laws h (codes "box") refl l).again b f.0) ((sort_part_laws h).again s f.1.0)
    ((operators_part_laws h).again fs f.1.1)

-- ---- rules: what is read is spelled so

three_some : {A B C D P : Type 0} (f : A → B → C → D) (o : Option A) (q : Option B) (s : Option C) (z : D)
    → three f o q s ≡ Some z → ((x : A) (y : B) (w : C) → o ≡ Some x → q ≡ Some y → s ≡ Some w → f x y w ≡ z → P) → P
three_some f None q s z e k = absurd (none-some z e)
three_some f (Some x) None s z e k = absurd (none-some z e)
three_some f (Some x) (Some y) None z e k = absurd (none-some z e)
three_some f (Some x) (Some y) (Some w) z e k = k x y w refl refl refl (same_Some (f x y w) z e)

four_some : {A B C D E P : Type 0} (f : A → B → C → D → E) (o : Option A) (q : Option B) (s : Option C) (t : Option D)
    (z : E) → four f o q s t ≡ Some z
    → ((x : A) (y : B) (w : C) (v : D) → o ≡ Some x → q ≡ Some y → s ≡ Some w → t ≡ Some v → f x y w v ≡ z → P) → P
four_some f None q s t z e k = absurd (none-some z e)
four_some f (Some x) None s t z e k = absurd (none-some z e)
four_some f (Some x) (Some y) None t z e k = absurd (none-some z e)
four_some f (Some x) (Some y) (Some w) None z e k = absurd (none-some z e)
four_some f (Some x) (Some y) (Some w) (Some v) z e k = k x y w v refl refl refl refl (same_Some (f x y w v) z e)

-- the fields are those of the rule
abbrev pub Spelled : Here → List (List ℕ) → Line → Type 0
Spelled h fs r = (fs ≡ rule_fields h r) × FitLine r

one_of_some : (ps : List (List ℕ)) (p : List ℕ) → one_of ps ≡ Some p → ps ≡ p ∷ []
one_of_some [] p e = absurd (none-some p e)
one_of_some (q ∷ []) p e = ap (λ z. z ∷ []) (same_Some q p e)
one_of_some (q ∷ s ∷ qs) p e = absurd (none-some p e)

two_of_some : (ps : List (List ℕ)) (p : List ℕ × List ℕ) → two_of ps ≡ Some p → ps ≡ p.0 ∷ p.1 ∷ []
two_of_some [] p e = absurd (none-some p e)
two_of_some (q ∷ qs) p e =
    mapped (behind q) (one_of qs) p e (λ x i j. ap (λ z. q ∷ z) (one_of_some qs x i) ∙ ap (λ o. o.0 ∷ o.1 ∷ []) j)

three_of_some : (ps : List (List ℕ)) (p : List ℕ × (List ℕ × List ℕ)) → three_of ps ≡ Some p
    → ps ≡ p.0 ∷ p.1.0 ∷ p.1.1 ∷ []
three_of_some [] p e = absurd (none-some p e)
three_of_some (q ∷ qs) p e =
    mapped (behind q) (two_of qs) p e
    (λ x i j. ap (λ z. q ∷ z) (two_of_some qs x i) ∙ ap (λ o. o.0 ∷ o.1.0 ∷ o.1.1 ∷ []) j)

four_of_some : (ps : List (List ℕ)) (p : List ℕ × (List ℕ × (List ℕ × List ℕ))) → four_of ps ≡ Some p
    → ps ≡ p.0 ∷ p.1.0 ∷ p.1.1.0 ∷ p.1.1.1 ∷ []
four_of_some [] p e = absurd (none-some p e)
four_of_some (q ∷ qs) p e =
    mapped (behind q) (three_of qs) p e
    (λ x i j. ap (λ z. q ∷ z) (three_of_some qs x i) ∙ ap (λ o. o.0 ∷ o.1.0 ∷ o.1.1.0 ∷ o.1.1.1 ∷ []) j)

three_fields : (w : List ℕ) {x y z a b c : List ℕ} → x ≡ a → y ≡ b → z ≡ c → w ∷ x ∷ y ∷ z ∷ [] ≡ w ∷ a ∷ b ∷ c ∷ []
three_fields w e f g = λ i. w ∷ e i ∷ f i ∷ g i ∷ []

axiom_back : (h : Here) (p : List ℕ) (r : Line) → axiom_of h p ≡ Some r → Spelled h (codes "axiom" ∷ p ∷ []) r
axiom_back h p r e = mapped (λ k. rule.Axiom k) (number_part h (codes "statement") p) r e (λ k i j.
    let w = (number_part_laws h (codes "statement") refl).back p k i in
    subst (Spelled h (codes "axiom" ∷ p ∷ [])) j (ap (λ z. codes "axiom" ∷ z ∷ []) w.0, w.1))

hyp_back : (h : Here) (p : List ℕ × List ℕ) (r : Line) → IsSmall h.line → hyp_of h p ≡ Some r
    → Spelled h (codes "hyp" ∷ p.0 ∷ p.1 ∷ []) r
hyp_back h p r l e =
    two_some (λ b k. rule.Hyp b k) (ref_part h (codes "box") p.0) (number_part h (codes "number") p.1) r e (λ b k i j o.
    let a = (ref_part_laws h (codes "box") refl l).back p.0 b i in
    let c = (number_part_laws h (codes "number") refl).back p.1 k j in
    subst (Spelled h (codes "hyp" ∷ p.0 ∷ p.1 ∷ [])) o (
      ap (λ z. codes "hyp" ∷ z ∷ p.1 ∷ []) a.0 ∙ ap (λ z. codes "hyp" ∷ named_ref h (codes "box") b ∷ z ∷ []) c.0,
      (a.1, c.1),
    ))

refl_back : (h : Here) (p : List ℕ) (r : Line) → IsSmall h.line → refl_of h p ≡ Some r
    → Spelled h (codes "refl" ∷ p ∷ []) r
refl_back h p r l e = mapped (λ k. rule.Refl k) (term_part h p) r e (λ k i j.
    let w = (term_part_laws h l).back p k i in
    subst (Spelled h (codes "refl" ∷ p ∷ [])) j (ap (λ z. codes "refl" ∷ z ∷ []) w.0, w.1))

sym_back : (h : Here) (p : List ℕ) (r : Line) → IsSmall h.line → sym_of h p ≡ Some r
    → Spelled h (codes "sym" ∷ p ∷ []) r
sym_back h p r l e = mapped (λ k. rule.Sym k) (ref_part h (codes "line") p) r e (λ k i j.
    let w = (ref_part_laws h (codes "line") refl l).back p k i in
    subst (Spelled h (codes "sym" ∷ p ∷ [])) j (ap (λ z. codes "sym" ∷ z ∷ []) w.0, w.1))

equal_back : (h : Here) (p : List ℕ) (r : Line) → IsSmall h.line → equal_of h p ≡ Some r
    → Spelled h (codes "equal" ∷ p ∷ []) r
equal_back h p r l e = mapped (λ k. rule.Equal k) (ref_part h (codes "line") p) r e (λ k i j.
    let w = (ref_part_laws h (codes "line") refl l).back p k i in
    subst (Spelled h (codes "equal" ∷ p ∷ [])) j (ap (λ z. codes "equal" ∷ z ∷ []) w.0, w.1))

inst_back : (h : Here) (p : List ℕ × List ℕ) (r : Line) → IsSmall h.line → inst_of h p ≡ Some r
    → Spelled h (codes "inst" ∷ p.0 ∷ p.1 ∷ []) r
inst_back h p r l e =
    two_some (λ m bs. rule.Inst m bs) (ref_part h (codes "line") p.0) (by_part h p.1) r e (λ m bs i j k.
    let a = (ref_part_laws h (codes "line") refl l).back p.0 m i in
    let b = (by_part_laws h l).back p.1 bs j in
    subst (Spelled h (codes "inst" ∷ p.0 ∷ p.1 ∷ [])) k (
      ap (λ z. codes "inst" ∷ z ∷ p.1 ∷ []) a.0 ∙ ap (λ z. codes "inst" ∷ named_ref h (codes "line") m ∷ z ∷ []) b.0,
      (a.1, b.1),
    ))

repl_back : (h : Here) (p : List ℕ × (List ℕ × List ℕ)) (r : Line) → IsSmall h.line → repl_of h p ≡ Some r
    → Spelled h (codes "repl" ∷ p.0 ∷ p.1.0 ∷ p.1.1 ∷ []) r
repl_back h p r l e =
    three_some (λ m q k. rule.Repl m q k) (ref_part h (codes "line") p.0) (place_part h p.1.0)
    (ref_part h (codes "with") p.1.1) r e (λ m q k i j o u.
    let a = (ref_part_laws h (codes "line") refl l).back p.0 m i in
    let b = (place_part_laws h).back p.1.0 q j in
    let c = (ref_part_laws h (codes "with") refl l).back p.1.1 k o in
    subst (Spelled h (codes "repl" ∷ p.0 ∷ p.1.0 ∷ p.1.1 ∷ [])) u (
      ap (λ z. codes "repl" ∷ z ∷ p.1.0 ∷ p.1.1 ∷ []) a.0
          ∙ ap (λ z. codes "repl" ∷ named_ref h (codes "line") m ∷ z ∷ p.1.1 ∷ []) b.0
          ∙ ap (λ z. codes "repl" ∷ named_ref h (codes "line") m ∷ place_text h q ∷ z ∷ []) c.0,
      (a.1, (b.1, c.1)),
    ))

fresh_back : (h : Here) (p : List ℕ × List ℕ) (r : Line) → IsSmall h.line → fresh_of h p ≡ Some r
    → Spelled h (codes "fresh" ∷ p.0 ∷ p.1 ∷ []) r
fresh_back h p r l e =
    two_some (λ b vs. rule.Fresh b vs) (ref_part h (codes "box") p.0) (variables_part h p.1) r e (λ b vs i j k.
    let a = (ref_part_laws h (codes "box") refl l).back p.0 b i in
    let c = (variables_part_laws h).back p.1 vs j in
    subst (Spelled h (codes "fresh" ∷ p.0 ∷ p.1 ∷ [])) k (
      ap (λ z. codes "fresh" ∷ z ∷ p.1 ∷ []) a.0
          ∙ ap (λ z. codes "fresh" ∷ named_ref h (codes "box") b ∷ z ∷ []) c.0,
      (a.1, c.1),
    ))

cases_back : (h : Here) (p : List ℕ × List ℕ) (r : Line) → IsSmall h.line → cases_of h p ≡ Some r
    → Spelled h (codes "cases" ∷ p.0 ∷ p.1 ∷ []) r
cases_back h p r l e =
    two_some (λ b c. rule.Cases b c) (ref_part h (codes "true") p.0) (ref_part h (codes "false") p.1) r e (λ b c i j k.
    let a = (ref_part_laws h (codes "true") refl l).back p.0 b i in
    let d = (ref_part_laws h (codes "false") refl l).back p.1 c j in
    subst (Spelled h (codes "cases" ∷ p.0 ∷ p.1 ∷ [])) k (
      ap (λ z. codes "cases" ∷ z ∷ p.1 ∷ []) a.0
          ∙ ap (λ z. codes "cases" ∷ named_ref h (codes "true") b ∷ z ∷ []) d.0,
      (a.1, d.1),
    ))

induct_back : (h : Here) (p : List ℕ × (List ℕ × (List ℕ × List ℕ))) (r : Line) → IsSmall h.line
    → induct_of h p ≡ Some r → Spelled h (codes "induct" ∷ p.0 ∷ p.1.0 ∷ p.1.1.0 ∷ p.1.1.1 ∷ []) r
induct_back h p r l e =
    four_some (λ m x g bs. rule.Induct m x g bs) (ref_part h (codes "line") p.0) (variable_part h p.1.0)
    (goal_part h p.1.1.0) (refs_part h (codes "boxes") p.1.1.1) r e (λ m x g bs i j o u v.
    let a = (ref_part_laws h (codes "line") refl l).back p.0 m i in
    let b = (variable_part_laws h).back p.1.0 x j in
    let c = (goal_part_laws h l).back p.1.1.0 g o in
    let d = (refs_part_laws h (codes "boxes") refl l).back p.1.1.1 bs u in
    subst (Spelled h (codes "induct" ∷ p.0 ∷ p.1.0 ∷ p.1.1.0 ∷ p.1.1.1 ∷ [])) v (
      ap (λ z. codes "induct" ∷ z ∷ p.1.0 ∷ p.1.1.0 ∷ p.1.1.1 ∷ []) a.0
          ∙ ap (λ z. codes "induct" ∷ named_ref h (codes "line") m ∷ z ∷ p.1.1.0 ∷ p.1.1.1 ∷ []) b.0
          ∙ ap (λ z. codes "induct" ∷ named_ref h (codes "line") m ∷ part_with_label h (codes "var") (variable_text x)
          ∷ z ∷ p.1.1.1 ∷ []) c.0
          ∙ ap (λ z. codes "induct" ∷ named_ref h (codes "line") m ∷ part_with_label h (codes "var") (variable_text x)
          ∷ goal_text h g ∷ z ∷ []) d.0,
      (a.1, (b.1, (c.1, d.1))),
    ))

observe_back : (h : Here) (p : List ℕ × (List ℕ × List ℕ)) (r : Line) → IsSmall h.line → observe_of h p ≡ Some r
    → Spelled h (codes "observe" ∷ p.0 ∷ p.1.0 ∷ p.1.1 ∷ []) r
observe_back h p r l e =
    three_some (λ m g ls. rule.Observe m g ls) (ref_part h (codes "line") p.0) (goal_part h p.1.0)
    (refs_part h (codes "lines") p.1.1) r e (λ m g ls i j o u.
    let a = (ref_part_laws h (codes "line") refl l).back p.0 m i in
    let b = (goal_part_laws h l).back p.1.0 g j in
    let c = (refs_part_laws h (codes "lines") refl l).back p.1.1 ls o in
    subst (Spelled h (codes "observe" ∷ p.0 ∷ p.1.0 ∷ p.1.1 ∷ [])) u
    (three_fields (codes "observe") a.0 b.0 c.0, (a.1, (b.1, c.1))))

generated_back : (h : Here) (p : List ℕ × (List ℕ × List ℕ)) (r : Line) → IsSmall h.line → generated_of h p ≡ Some r
    → Spelled h (codes "generated" ∷ p.0 ∷ p.1.0 ∷ p.1.1 ∷ []) r
generated_back h p r l e =
    three_some (λ b s fs. rule.Generated b s fs) (ref_part h (codes "box") p.0) (sort_part h p.1.0)
    (operators_part h p.1.1) r e (λ b s fs i j o u.
    let a = (ref_part_laws h (codes "box") refl l).back p.0 b i in
    let c = (sort_part_laws h).back p.1.0 s j in
    let d = (operators_part_laws h).back p.1.1 fs o in
    subst (Spelled h (codes "generated" ∷ p.0 ∷ p.1.0 ∷ p.1.1 ∷ [])) u
    (three_fields (codes "generated") a.0 c.0 d.0, (a.1, (c.1, d.1))))

partitioned_back : (h : Here) (p : List ℕ × (List ℕ × List ℕ)) (r : Line) → IsSmall h.line → partitioned_of h p ≡ Some r
    → Spelled h (codes "partitioned" ∷ p.0 ∷ p.1.0 ∷ p.1.1 ∷ []) r
partitioned_back h p r l e =
    three_some (λ b s fs. rule.Partitioned b s fs) (ref_part h (codes "box") p.0) (sort_part h p.1.0)
    (operators_part h p.1.1) r e (λ b s fs i j o u.
    let a = (ref_part_laws h (codes "box") refl l).back p.0 b i in
    let c = (sort_part_laws h).back p.1.0 s j in
    let d = (operators_part_laws h).back p.1.1 fs o in
    subst (Spelled h (codes "partitioned" ∷ p.0 ∷ p.1.0 ∷ p.1.1 ∷ [])) u
    (three_fields (codes "partitioned") a.0 c.0 d.0, (a.1, (c.1, d.1))))

row_one_back : (h : Here) (p : List ℕ) (r : Line) → row_of h p ≡ Some r → Spelled h (codes "row" ∷ p ∷ []) r
row_one_back h p r e = mapped (λ k. rule.Row k None) (number_part h (codes "number") p) r e (λ k i j.
    let w = (number_part_laws h (codes "number") refl).back p k i in
    subst (Spelled h (codes "row" ∷ p ∷ [])) j (ap (λ z. codes "row" ∷ z ∷ []) w.0, w.1))

row_two_back : (h : Here) (p : List ℕ × List ℕ) (r : Line) → row_at_of h p ≡ Some r
    → Spelled h (codes "row" ∷ p.0 ∷ p.1 ∷ []) r
row_two_back h p r e =
    two_some (λ k s. rule.Row k (Some s)) (number_part h (codes "number") p.0) (sort_part h p.1) r e (λ k s i j o.
    let a = (number_part_laws h (codes "number") refl).back p.0 k i in
    let b = (sort_part_laws h).back p.1 s j in
    subst (Spelled h (codes "row" ∷ p.0 ∷ p.1 ∷ [])) o (
      ap (λ z. codes "row" ∷ z ∷ p.1 ∷ []) a.0
          ∙ ap (λ z. codes "row" ∷ number_text h (codes "number") k ∷ z ∷ []) b.0,
      (a.1, b.1),
    ))

row_back : (h : Here) (ps : List (List ℕ)) (r : Line) → row_by h (one_of ps) (two_of ps) ≡ Some r
    → Spelled h (codes "row" ∷ ps) r
row_back h [] r e = absurd (none-some r e)
row_back h (p ∷ []) r e = row_one_back h p r e
row_back h (p ∷ q ∷ []) r e = row_two_back h (p, q) r e
row_back h (p ∷ q ∷ s ∷ qs) r e = absurd (none-some r e)

done_back : (h : Here) (ps : List (List ℕ)) (r : Line) → read_done ps ≡ Some r → Spelled h (codes "done" ∷ ps) r
done_back h [] r e = subst (Spelled h (codes "done" ∷ [])) (same_Some rule.Done r e) (refl, tt)
done_back h (p ∷ ps) r e = absurd (none-some r e)

-- what the parts of a box say, whatever stands between them
box_of_back : (h : Here) (p : List ℕ × List ℕ) (r : Line) → IsSmall h.line → box_of h p ≡ Some r
    → Spelled h (codes "box" ∷ box_parts h.relative p.0 p.1) r
box_of_back h p r l e = two_some (λ ss es. rule.BoxLine ss es) (sorts_part h p.0) (hyps_part h p.1) r e (λ ss es i j k.
    let a = (sorts_part_laws h).back p.0 ss i in
    let c = (hyps_part_laws h l).back p.1 es j in
    subst (Spelled h (codes "box" ∷ box_parts h.relative p.0 p.1)) k (
      ap (λ z. codes "box" ∷ box_parts h.relative z p.1) a.0
          ∙ ap (λ z. codes "box" ∷ box_parts h.relative (sorts_text h ss) z) c.0,
      (a.1, c.1),
    ))

bar_back : (x : List ℕ) (p o : List ℕ × List ℕ) (t : Bool) → bytes_eq p.0 (codes "|") ≡ t
    → cond t (Some (x, p.1)) None ≡ Some o → x ∷ p.0 ∷ p.1 ∷ [] ≡ box_parts false o.0 o.1
bar_back x p o true i e =
    ap (λ c. x ∷ c ∷ p.1 ∷ []) ((bytes_eq-Decides p.0 (codes "|")).0 i)
    ∙ ap (λ o. box_parts false o.0 o.1) (same_Some (x, p.1) o e)
bar_back x p o false i e = absurd (none-some o e)

box_by_back : (b : Bool) (ps : List (List ℕ)) (o : List ℕ × List ℕ) → box_by b ps ≡ Some o → ps ≡ box_parts b o.0 o.1
box_by_back false [] o e = absurd (none-some o e)
box_by_back false (p ∷ ps) o e = option_and_then_some (barred_by p) (two_of ps) o e (λ q i j.
    ap (λ z. p ∷ z) (two_of_some ps q i) ∙ bar_back p q o (bytes_eq q.0 (codes "|")) refl j)
box_by_back true ps o e = two_of_some ps o e

box_back : (h : Here) (ps : List (List ℕ)) (r : Line) → IsSmall h.line
    → option_and_then (box_of h) (box_by h.relative ps) ≡ Some r → Spelled h (codes "box" ∷ ps) r
box_back h ps r l e =
    option_and_then_some (box_of h) (box_by h.relative ps) r e (λ o i j.
    subst (λ z. Spelled h (codes "box" ∷ z) r) (sym (box_by_back h.relative ps o i)) (box_of_back h o r l j))

-- a rule with one part, with two, with three, with four
one_back : (h : Here) (w : List ℕ) (f : List ℕ → Option Line) (ps : List (List ℕ)) (r : Line)
    → ((p : List ℕ) → f p ≡ Some r → Spelled h (w ∷ p ∷ []) r) → option_and_then f (one_of ps) ≡ Some r
    → Spelled h (w ∷ ps) r
one_back h w f ps r k e =
    option_and_then_some f (one_of ps) r e
    (λ p i j. subst (λ z. Spelled h (w ∷ z) r) (sym (one_of_some ps p i)) (k p j))

two_back : (h : Here) (w : List ℕ) (f : List ℕ × List ℕ → Option Line) (ps : List (List ℕ)) (r : Line)
    → ((p : List ℕ × List ℕ) → f p ≡ Some r → Spelled h (w ∷ p.0 ∷ p.1 ∷ []) r) → option_and_then f (two_of ps) ≡ Some r
    → Spelled h (w ∷ ps) r
two_back h w f ps r k e =
    option_and_then_some f (two_of ps) r e
    (λ p i j. subst (λ z. Spelled h (w ∷ z) r) (sym (two_of_some ps p i)) (k p j))

three_back : (h : Here) (w : List ℕ) (f : List ℕ × (List ℕ × List ℕ) → Option Line) (ps : List (List ℕ)) (r : Line)
    → ((p : List ℕ × (List ℕ × List ℕ)) → f p ≡ Some r → Spelled h (w ∷ p.0 ∷ p.1.0 ∷ p.1.1 ∷ []) r)
    → option_and_then f (three_of ps) ≡ Some r → Spelled h (w ∷ ps) r
three_back h w f ps r k e =
    option_and_then_some f (three_of ps) r e
    (λ p i j. subst (λ z. Spelled h (w ∷ z) r) (sym (three_of_some ps p i)) (k p j))

four_back : (h : Here) (w : List ℕ) (f : List ℕ × (List ℕ × (List ℕ × List ℕ)) → Option Line) (ps : List (List ℕ))
    (r : Line) → ((p : List ℕ × (List ℕ × (List ℕ × List ℕ))) → f p ≡ Some r
    → Spelled h (w ∷ p.0 ∷ p.1.0 ∷ p.1.1.0 ∷ p.1.1.1 ∷ []) r) → option_and_then f (four_of ps) ≡ Some r
    → Spelled h (w ∷ ps) r
four_back h w f ps r k e =
    option_and_then_some f (four_of ps) r e
    (λ p i j. subst (λ z. Spelled h (w ∷ z) r) (sym (four_of_some ps p i)) (k p j))

word_row : (text : List ℕ) (x : RuleWord) (next : Option RuleWord) (k : RuleWord) (t : Bool)
    → bytes_eq text (word_text x) ≡ t → (next ≡ Some k → text ≡ word_text k) → cond t (Some x) next ≡ Some k
    → text ≡ word_text k
word_row text x next k true i f e = (bytes_eq-Decides text (word_text x)).0 i ∙ ap word_text (same_Some x k e)
word_row text x next k false i f e = f e

word_back : (text : List ℕ) (k : RuleWord) → read_rule_word text ≡ Some k → text ≡ word_text k
word_back text k e =
    word_row text word.Axiom _ k _ refl
    (λ e. word_row text word.Hyp _ k _ refl (λ e. word_row text word.Row _ k _ refl (λ e.
    word_row text word.Refl _ k _ refl
    (λ e. word_row text word.Sym _ k _ refl (λ e. word_row text word.Inst _ k _ refl (λ e.
    word_row text word.Repl _ k _ refl
    (λ e. word_row text word.Equal _ k _ refl (λ e. word_row text word.BoxLine _ k _ refl (λ e.
    word_row text word.Done _ k _ refl
    (λ e. word_row text word.Fresh _ k _ refl (λ e. word_row text word.Cases _ k _ refl (λ e.
    word_row text word.Induct _ k _ refl
    (λ e. word_row text word.Observe _ k _ refl (λ e. word_row text word.Generated _ k _ refl (λ e.
    word_row text word.Partitioned None k _ refl (λ e. absurd (none-some k e)) e) e) e) e) e) e) e) e) e) e) e) e) e) e)
    e) e

by_word_back : (h : Here) (ps : List (List ℕ)) (r : Line) (k : RuleWord) → IsSmall h.line → read_by_word h ps k ≡ Some r
    → Spelled h (word_text k ∷ ps) r
by_word_back h ps r word.Axiom l e = one_back h (codes "axiom") (axiom_of h) ps r (λ p. axiom_back h p r) e
by_word_back h ps r word.Hyp l e = two_back h (codes "hyp") (hyp_of h) ps r (λ p. hyp_back h p r l) e
by_word_back h ps r word.Row l e = row_back h ps r e
by_word_back h ps r word.Refl l e = one_back h (codes "refl") (refl_of h) ps r (λ p. refl_back h p r l) e
by_word_back h ps r word.Sym l e = one_back h (codes "sym") (sym_of h) ps r (λ p. sym_back h p r l) e
by_word_back h ps r word.Inst l e = two_back h (codes "inst") (inst_of h) ps r (λ p. inst_back h p r l) e
by_word_back h ps r word.Repl l e = three_back h (codes "repl") (repl_of h) ps r (λ p. repl_back h p r l) e
by_word_back h ps r word.Equal l e = one_back h (codes "equal") (equal_of h) ps r (λ p. equal_back h p r l) e
by_word_back h ps r word.BoxLine l e = box_back h ps r l e
by_word_back h ps r word.Done l e = done_back h ps r e
by_word_back h ps r word.Fresh l e = two_back h (codes "fresh") (fresh_of h) ps r (λ p. fresh_back h p r l) e
by_word_back h ps r word.Cases l e = two_back h (codes "cases") (cases_of h) ps r (λ p. cases_back h p r l) e
by_word_back h ps r word.Induct l e = four_back h (codes "induct") (induct_of h) ps r (λ p. induct_back h p r l) e
by_word_back h ps r word.Observe l e = three_back h (codes "observe") (observe_of h) ps r (λ p. observe_back h p r l) e
by_word_back h ps r word.Generated l e =
    three_back h (codes "generated") (generated_of h) ps r (λ p. generated_back h p r l) e
by_word_back h ps r word.Partitioned l e =
    three_back h (codes "partitioned") (partitioned_of h) ps r (λ p. partitioned_back h p r l) e

pub rule_back : (h : Here) (fs : List (List ℕ)) (r : Line) → IsSmall h.line → read_rule h fs ≡ Some r → Spelled h fs r
rule_back h [] r l e = absurd (none-some r e)
rule_back h (w ∷ ps) r l e =
    option_and_then_some (read_by_word h ps) (read_rule_word w) r e (λ k i j.
    subst (λ z. Spelled h (z ∷ ps) r) (sym (word_back w k i)) (by_word_back h ps r k l j))

-- ---- the bytes of the fields

abbrev pub InPart : List ℕ → Type 0
InPart x = passes is_part_byte x ≡ true

box_passes : (b : Bool) (p q : List ℕ) → InPart p → InPart q → Each InPart (box_parts b p q)
box_passes false p q e f = (e, (refl, (f, tt)))
box_passes true p q e f = (e, (f, tt))

rule_passes : (h : Here) (r : Line) → IsSmall h.line → FitLine r → Each InPart (rule_fields h r)
rule_passes h (rule.Axiom k) l f = (refl, ((number_part_laws h (codes "statement") refl).bytes k f, tt))
rule_passes h (rule.Hyp b k) l f = (
  refl,
  (
    (ref_part_laws h (codes "box") refl l).bytes b f.0,
    ((number_part_laws h (codes "number") refl).bytes k f.1, tt),
  ),
)
rule_passes h (rule.Row k None) l f = (refl, ((number_part_laws h (codes "number") refl).bytes k f, tt))
rule_passes h (rule.Row k (Some s)) l f =
    (refl, ((number_part_laws h (codes "number") refl).bytes k f.0, ((sort_part_laws h).bytes s f.1, tt)))
rule_passes h (rule.Refl t) l f = (refl, ((term_part_laws h l).bytes t f, tt))
rule_passes h (rule.Sym m) l f = (refl, ((ref_part_laws h (codes "line") refl l).bytes m f, tt))
rule_passes h (rule.Inst m bs) l f =
    (refl, ((ref_part_laws h (codes "line") refl l).bytes m f.0, ((by_part_laws h l).bytes bs f.1, tt)))
rule_passes h (rule.Repl m p k) l f = (
  refl,
  (
    (ref_part_laws h (codes "line") refl l).bytes m f.0,
    ((place_part_laws h).bytes p f.1.0, ((ref_part_laws h (codes "with") refl l).bytes k f.1.1, tt)),
  ),
)
rule_passes h (rule.Equal m) l f = (refl, ((ref_part_laws h (codes "line") refl l).bytes m f, tt))
rule_passes h (rule.BoxLine ss es) l f = (
  refl,
  box_passes h.relative (sorts_text h ss) (hyps_text h es) ((sorts_part_laws h).bytes ss f.0)
      ((hyps_part_laws h l).bytes es f.1),
)
rule_passes h rule.Done l f = (refl, tt)
rule_passes h (rule.Fresh b vs) l f =
    (refl, ((ref_part_laws h (codes "box") refl l).bytes b f.0, ((variables_part_laws h).bytes vs f.1, tt)))
rule_passes h (rule.Cases b c) l f = (
  refl,
  (
    (ref_part_laws h (codes "true") refl l).bytes b f.0,
    ((ref_part_laws h (codes "false") refl l).bytes c f.1, tt),
  ),
)
rule_passes h (rule.Induct m x e bs) l f = (
  refl,
  (
    (ref_part_laws h (codes "line") refl l).bytes m f.0,
    (
      (variable_part_laws h).bytes x f.1.0,
      ((goal_part_laws h l).bytes e f.1.1.0, ((refs_part_laws h (codes "boxes") refl l).bytes bs f.1.1.1, tt)),
    ),
  ),
)
rule_passes h (rule.Observe m e ls) l f = (
  refl,
  (
    (ref_part_laws h (codes "line") refl l).bytes m f.0,
    ((goal_part_laws h l).bytes e f.1.0, ((refs_part_laws h (codes "lines") refl l).bytes ls f.1.1, tt)),
  ),
)
rule_passes h (rule.Generated b s fs) l f = (
  refl,
  (
    (ref_part_laws h (codes "box") refl l).bytes b f.0,
    ((sort_part_laws h).bytes s f.1.0, ((operators_part_laws h).bytes fs f.1.1, tt)),
  ),
)
rule_passes h (rule.Partitioned b s fs) l f = (
  refl,
  (
    (ref_part_laws h (codes "box") refl l).bytes b f.0,
    ((sort_part_laws h).bytes s f.1.0, ((operators_part_laws h).bytes fs f.1.1, tt)),
  ),
)

-- ---- lines

fields_pass : (b : Bool) (n : ℕ) (fs : List (List ℕ)) → IsSmall n → Each InPart fs → Each InPart (fields_by b n fs)
fields_pass false n fs l e = (passes_more is_op_byte is_part_byte op_in_part (decimal n) (number_laws.bytes n l), e)
fields_pass true n fs l e = e

-- the fields of a rule are some
abbrev pub Some_of : List (List ℕ) → Type 0
Some_of [] = ⊥
Some_of (x ∷ xs) = Unit {0}

box_some : (b : Bool) (p q : List ℕ) → Some_of (box_parts b p q)
box_some false p q = tt
box_some true p q = tt

rule_some : (h : Here) (r : Line) → Some_of (rule_fields h r)
rule_some h (rule.Axiom k) = tt
rule_some h (rule.Hyp b k) = tt
rule_some h (rule.Row k None) = tt
rule_some h (rule.Row k (Some s)) = tt
rule_some h (rule.Refl t) = tt
rule_some h (rule.Sym m) = tt
rule_some h (rule.Inst m bs) = tt
rule_some h (rule.Repl m p l) = tt
rule_some h (rule.Equal m) = tt
rule_some h (rule.BoxLine ss es) = tt
rule_some h rule.Done = tt
rule_some h (rule.Fresh b vs) = tt
rule_some h (rule.Cases b c) = tt
rule_some h (rule.Induct m x e bs) = tt
rule_some h (rule.Observe m e ls) = tt
rule_some h (rule.Generated b s fs) = tt
rule_some h (rule.Partitioned b s fs) = tt

fields_some : (b : Bool) (n : ℕ) (fs : List (List ℕ)) → Some_of fs → Some_of (fields_by b n fs)
fields_some false n fs s = tt
fields_some true n fs s = s

parts_lack : (c : ℕ) → is_part_byte c ≡ false → (xs : List (List ℕ)) → Each InPart xs → Each (Lacks c) xs
parts_lack c n [] e = tt
parts_lack c n (x ∷ xs) e = (lacks is_part_byte c x e.0 n, parts_lack c n xs e.1)

split_some : (c : ℕ) (xs : List (List ℕ)) → Some_of xs → Each (Lacks c) xs → split_at c (join_with_byte c xs) ≡ xs
split_some c [] s e = absurd s
split_some c (x ∷ xs) s e = split_joined c x xs e

line_split : (h : Here) (r : Line) → IsSmall h.line → FitLine r → split_at 32 (line_text h r) ≡ line_fields h r
line_split h r l f =
    split_some 32 (line_fields h r) (fields_some h.relative h.line (rule_fields h r) (rule_some h r))
    (parts_lack 32 refl (line_fields h r) (fields_pass h.relative h.line (rule_fields h r) l (rule_passes h r l f)))

fields_again : (h : Here) (b : Bool) (fs : List (List ℕ)) → read_fields h b (fields_by b h.line fs) ≡ read_rule h fs
fields_again h false fs =
    cond-true (bytes_eq (decimal h.line) (decimal h.line)) (read_rule h fs) None
    ((bytes_eq-Decides (decimal h.line) (decimal h.line)).1 refl)
fields_again h true fs = refl

pub line_again : (h : Here) (r : Line) → IsSmall h.line → FitLine r → read_line h (line_text h r) ≡ Some r
line_again h r l f =
    ap (read_fields h h.relative) (line_split h r l f) ∙ fields_again h h.relative (rule_fields h r)
    ∙ rule_again h r l f

numbered_back : (h : Here) (n : List ℕ) (fs : List (List ℕ)) (r : Line) (t : Bool) → bytes_eq n (decimal h.line) ≡ t
    → IsSmall h.line → cond t (read_rule h fs) None ≡ Some r → (n ∷ fs ≡ decimal h.line ∷ rule_fields h r) × FitLine r
numbered_back h n fs r true i l e =
    let w = rule_back h fs r l e in
    (cc ((bytes_eq-Decides n (decimal h.line)).0 i, w.0), w.1)
numbered_back h n fs r false i l e = absurd (none-some r e)

fields_back : (h : Here) (b : Bool) (fs : List (List ℕ)) (r : Line) → IsSmall h.line → read_fields h b fs ≡ Some r
    → (fs ≡ fields_by b h.line (rule_fields h r)) × FitLine r
fields_back h true fs r l e = rule_back h fs r l e
fields_back h false [] r l e = absurd (none-some r e)
fields_back h false (n ∷ fs) r l e = numbered_back h n fs r (bytes_eq n (decimal h.line)) refl l e

pub line_back : (h : Here) (text : List ℕ) (r : Line) → IsSmall h.line → read_line h text ≡ Some r
    → (text ≡ line_text h r) × FitLine r
line_back h text r l e =
    let w = fields_back h h.relative (split_at 32 text) r l e in
    (sym (joined_split 32 text) ∙ ap (join_with_byte 32) w.0, w.1)

each_line : (xs : List (List ℕ)) → Each InPart xs → Each (λ x. passes is_line_byte x ≡ true) xs
each_line [] e = tt
each_line (x ∷ xs) e =
    (passes_more is_part_byte is_line_byte (λ b i. or_left (is_part_byte b) (b == 32) i) x e.0, each_line xs e.1)

pub line_lacks : (h : Here) (r : Line) → IsSmall h.line → FitLine r → Lacks 10 (line_text h r)
line_lacks h r l f =
    lacks is_line_byte 10 (line_text h r)
    (joined_passes is_line_byte 32 refl (line_fields h r)
    (each_line (line_fields h r) (fields_pass h.relative h.line (rule_fields h r) l (rule_passes h r l f)))) refl
