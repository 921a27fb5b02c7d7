-- The tests of commands tell exactly which are equal without lines and positions.
use Rattle.std.specs.Prelude.{◌≡◌, ◌==◌, ◌&&◌, ℕ, Bool, true, false, List, [], ◌∷◌, map, find, bytes_eq, unwrap_or}
use Rattle.std.specs.Prelude.{Decides, Option, Some, None, option_map, refl}
use Rattle.std.specs.Cmp.Lexicographic.{pointwise}
use Rattle.std.proofs.Common.{ap, ap₂, ◌∙◌, sym}
use Rattle.std.proofs.lemmas.Bool.Decides.{Decides-and, Decides-eqb, Decides-like}
use Rattle.std.proofs.lemmas.Slice.Eq.{bytes_eq-Decides}
use Rattle.larch_base.specs.CodeText.{code_text}
use Rattle.larch_base.specs.Position.{start_of_text}
use Rattle.larch_base.specs.declared.code.Code.{Code}
use Rattle.larch_base.specs.declared.code.Code.TheVariants as code
use Rattle.larch_base.specs.declared.fact_name.FactLetter.{FactLetter}
use Rattle.larch_base.specs.declared.fact_name.FactLetter.TheVariants.{Axiom, Derived, Hypothesis, Lemma}
use Rattle.larch_base.specs.declared.fact_name.FactName.{FactName}
use Rattle.larch_base.specs.declared.way.Way.{Way}
use Rattle.larch_base.specs.declared.way.Way.TheVariants.{LeftToRight, RightToLeft, Multiset}
use Rattle.larch_raw.specs.RawTree.{RawTree, RawForest, apply, qualified, no_more, one_more}
use Rattle.larch_raw.specs.declared.declared.RawForm.{RawForm}
use Rattle.larch_raw.specs.declared.declared.RawOpRef.{RawOpRef}
use Rattle.larch_raw.specs.declared.declared.RawSig.{RawSig}
use Rattle.larch_raw.specs.declared.declared.RawWord.{RawWord}
use Rattle.larch_raw.specs.declared.equation.RawEquation.{RawEquation}
use Rattle.larch_raw.specs.declared.equation.RawRight.{RawRight}
use Rattle.larch_script_commands.specs.Bare.{bare_all, bare_equation, bare_form, bare_instance, bare_kind}
use Rattle.larch_script_commands.specs.Bare.{bare_reference, bare_right, bare_signature, bare_tree, bare_word}
use Rattle.larch_script_commands.specs.Same.{same_equation, same_fact_name, same_form, same_instance, same_kind}
use Rattle.larch_script_commands.specs.Same.{same_letter, same_option, same_reference, same_right, same_signature}
use Rattle.larch_script_commands.specs.Same.{same_term, same_terms, same_truth, same_way, same_word}
use Rattle.larch_script_commands.specs.declared.command.CommandKind.{CommandKind}
use Rattle.larch_script_commands.specs.declared.command.CommandKind.TheVariants as command
use Rattle.larch_script_commands.specs.declared.command.RawInstance.{RawInstance}

-- a test that is never passed
never : {R : Type 0} → (R → ⊥) → Decides false R
never f = (λ e. cc, λ r. absurd (f r))

-- a test that is always passed
always : {R : Type 0} → R → Decides true R
always r = (λ _. r, λ _. refl)

-- ---- lists and options, one by one

pub list_Decides : {A B : Type 0} (bare : A → B) (same : A → A → Bool)
    → ((x y : A) → Decides (same x y) (bare x ≡ bare y)) → (xs ys : List A)
    → Decides (pointwise same xs ys) (map bare xs ≡ map bare ys)
list_Decides bare same d [] [] = always refl
list_Decides bare same d [] (y ∷ ys) = never (λ e. cc)
list_Decides bare same d (x ∷ xs) [] = never (λ e. cc)
list_Decides bare same d (x ∷ xs) (y ∷ ys) =
    Decides-like (same x y && pointwise same xs ys) (λ h. ap₂ (λ z zs. z ∷ zs) h.0 h.1) (λ e. (cc, cc))
    (Decides-and (same x y) (pointwise same xs ys) (d x y) (list_Decides bare same d xs ys))

option_Decides : {A B : Type 0} (bare : A → B) (same : A → A → Bool)
    → ((x y : A) → Decides (same x y) (bare x ≡ bare y)) → (o p : Option A)
    → Decides (same_option same o p) (option_map bare o ≡ option_map bare p)
option_Decides bare same d None None = always refl
option_Decides bare same d None (Some y) = never (λ e. cc)
option_Decides bare same d (Some x) None = never (λ e. cc)
option_Decides bare same d (Some x) (Some y) =
    Decides-like (same x y) (λ e. ap (λ z. Some z) e) (λ e. cc) (d x y)

truth_Decides : (a b : Bool) → Decides (same_truth a b) (a ≡ b)
truth_Decides true true = always refl
truth_Decides true false = never (λ e. cc)
truth_Decides false true = never (λ e. cc)
truth_Decides false false = always refl

-- ---- parts of commands

word_Decides : (w v : RawWord) → Decides (same_word w v) (bare_word w ≡ bare_word v)
word_Decides w v =
    Decides-like (same_word w v)
    (λ e. ap (λ (n : List ℕ). let u : RawWord = record { name = n; pos = start_of_text } in u) e)
    (λ e. ap (λ (u : RawWord). u.name) e) (bytes_eq-Decides w.name v.name)

mutual
  term_Decides : (t u : RawTree) → Decides (same_term t u) (bare_tree t ≡ bare_tree u)
  term_Decides (apply n ts p) (apply m us q) =
      Decides-like (bytes_eq n m && same_terms ts us) (λ h. ap₂ (λ x xs. apply x xs start_of_text) h.0 h.1)
      (λ e. (cc, cc))
      (Decides-and (bytes_eq n m) (same_terms ts us) (bytes_eq-Decides n m) (terms_Decides ts us))
  term_Decides (apply n ts p) (qualified u v q) = never (λ e. cc)
  term_Decides (qualified t w p) (apply m us q) = never (λ e. cc)
  term_Decides (qualified t w p) (qualified u v q) =
      Decides-like (same_term t u && same_word w v) (λ h. ap₂ (λ x y. qualified x y start_of_text) h.0 h.1)
      (λ e. (cc, cc)) (Decides-and (same_term t u) (same_word w v) (term_Decides t u) (word_Decides w v))

  terms_Decides : (ts us : RawForest) → Decides (same_terms ts us) (bare_all ts ≡ bare_all us)
  terms_Decides no_more no_more = always refl
  terms_Decides no_more (one_more u us) = never (λ e. cc)
  terms_Decides (one_more t ts) no_more = never (λ e. cc)
  terms_Decides (one_more t ts) (one_more u us) =
      Decides-like (same_term t u && same_terms ts us) (λ h. ap₂ one_more h.0 h.1) (λ e. (cc, cc))
      (Decides-and (same_term t u) (same_terms ts us) (term_Decides t u) (terms_Decides ts us))

right_Decides : (r q : RawRight) → Decides (same_right r q) (bare_right r ≡ bare_right q)
right_Decides r q =
    Decides-like (same_right r q)
    (λ e. ap (λ (t : RawTree). let s : RawRight = record { term = t; pos = start_of_text } in s) e)
    (λ e. ap (λ (s : RawRight). s.term) e) (term_Decides r.term q.term)

-- an equation by its sides
equation_by : RawTree → Option RawRight → RawEquation
equation_by l r = record { left = l; right = r; first = start_of_text }

equation_Decides : (e d : RawEquation) → Decides (same_equation e d) (bare_equation e ≡ bare_equation d)
unfolding equation_by
equation_Decides e d =
    Decides-like (same_equation e d) (λ h. ap₂ equation_by h.0 h.1)
    (λ k. (ap (λ (x : RawEquation). x.left) k, ap (λ (x : RawEquation). x.right) k))
    (Decides-and (same_term e.left d.left) (same_option same_right e.right d.right) (term_Decides e.left d.left)
    (option_Decides bare_right same_right right_Decides e.right d.right))

form_by : List ℕ → Bool × ℕ → RawForm
form_by n p = record { name = n; word = p.0; markers = p.1; pos = start_of_text }

form_Decides : (f g : RawForm) → Decides (same_form f g) (bare_form f ≡ bare_form g)
unfolding form_by
form_Decides f g =
    Decides-like (same_form f g)
    (λ h. ap₂ form_by h.0 (ap₂ (λ (a : Bool) (k : ℕ). let p : Bool × ℕ = (a, k) in p) h.1.0 h.1.1))
    (λ k. (
      ap (λ (x : RawForm). x.name) k,
      (ap (λ (x : RawForm). x.word) k, ap (λ (x : RawForm). x.markers) k),
    ))
    (Decides-and (bytes_eq f.name g.name) (same_truth f.word g.word && (f.markers == g.markers))
    (bytes_eq-Decides f.name g.name)
    (Decides-and (same_truth f.word g.word) (f.markers == g.markers) (truth_Decides f.word g.word)
    (Decides-eqb f.markers g.markers)))

signature_by : List RawWord → RawWord → RawSig
signature_by ws w = record { domain = ws; range = w }

signature_Decides : (s r : RawSig) → Decides (same_signature s r) (bare_signature s ≡ bare_signature r)
unfolding signature_by
signature_Decides s r =
    Decides-like (same_signature s r) (λ h. ap₂ signature_by h.0 h.1)
    (λ k. (ap (λ (x : RawSig). x.domain) k, ap (λ (x : RawSig). x.range) k))
    (Decides-and (pointwise same_word s.domain r.domain) (same_word s.range r.range)
    (list_Decides bare_word same_word word_Decides s.domain r.domain) (word_Decides s.range r.range))

reference_by : RawForm → Option RawSig → RawOpRef
reference_by f s = record { form = f; sig = s }

reference_Decides : (r q : RawOpRef) → Decides (same_reference r q) (bare_reference r ≡ bare_reference q)
unfolding reference_by
reference_Decides r q =
    Decides-like (same_reference r q) (λ h. ap₂ reference_by h.0 h.1)
    (λ k. (ap (λ (x : RawOpRef). x.form) k, ap (λ (x : RawOpRef). x.sig) k))
    (Decides-and (same_form r.form q.form) (same_option same_signature r.sig q.sig) (form_Decides r.form q.form)
    (option_Decides bare_signature same_signature signature_Decides r.sig q.sig))

instance_by : RawWord → RawEquation → RawInstance
instance_by w e = record { name = w; term = e }

instance_Decides : (i j : RawInstance) → Decides (same_instance i j) (bare_instance i ≡ bare_instance j)
unfolding instance_by
instance_Decides i j =
    Decides-like (same_instance i j) (λ h. ap₂ instance_by h.0 h.1)
    (λ k. (ap (λ (x : RawInstance). x.name) k, ap (λ (x : RawInstance). x.term) k))
    (Decides-and (same_word i.name j.name) (same_equation i.term j.term) (word_Decides i.name j.name)
    (equation_Decides i.term j.term))

way_Decides : (v w : Way) → Decides (same_way v w) (v ≡ w)
way_Decides LeftToRight LeftToRight = always refl
way_Decides RightToLeft RightToLeft = always refl
way_Decides Multiset Multiset = always refl
way_Decides v w = never (λ e. cc)

letter_Decides : (l m : FactLetter) → Decides (same_letter l m) (l ≡ m)
letter_Decides Axiom Axiom = always refl
letter_Decides Lemma Lemma = always refl
letter_Decides Hypothesis Hypothesis = always refl
letter_Decides Derived Derived = always refl
letter_Decides l m = never (λ e. cc)

fact_by : FactLetter → ℕ × ℕ → FactName
fact_by l p = record { letter = l; number = p.0; part = p.1 }

pub fact_Decides : (n m : FactName) → Decides (same_fact_name n m) (n ≡ m)
unfolding fact_by
fact_Decides n m =
    Decides-like (same_fact_name n m)
    (λ h. ap₂ fact_by h.0 (ap₂ (λ (a b : ℕ). let p : ℕ × ℕ = (a, b) in p) h.1.0 h.1.1))
    (λ k. (
      ap (λ (x : FactName). x.letter) k,
      (ap (λ (x : FactName). x.number) k, ap (λ (x : FactName). x.part) k),
    ))
    (Decides-and (same_letter n.letter m.letter) ((n.number == m.number) && (n.part == m.part))
    (letter_Decides n.letter m.letter)
    (Decides-and (n.number == m.number) (n.part == m.part) (Decides-eqb n.number m.number)
    (Decides-eqb n.part m.part)))

-- ---- codes

abbrev all_codes : List Code
all_codes =
    code.Lex ∷ code.Syntax ∷ code.Mixed ∷ code.Deep ∷ code.Size ∷ code.TraitName ∷ code.UnknownTrait ∷ code.Cycle
    ∷ code.BadReference ∷ code.Rename ∷ code.FieldTwice ∷ code.Arity ∷ code.BuiltIn ∷ code.UnknownSort
    ∷ code.VariableTwice ∷ code.Generator ∷ code.Partition ∷ code.NoReading ∷ code.Ambiguous ∷ code.ImpliedOperator
    ∷ code.Converted ∷ code.Exempt ∷ code.Command ∷ code.Mark ∷ code.Done ∷ code.Variable ∷ code.Operator ∷ code.Shape
    ∷ code.Generated ∷ code.Partitioned ∷ code.Fact ∷ code.Open ∷ code.Limit ∷ code.UnknownDuty ∷ code.DutyTwice ∷ []

-- the code of a text
abbrev code_said : List ℕ → Code
code_said text = unwrap_or (find (λ c. bytes_eq (code_text c) text) all_codes) code.Lex

code_again : (c : Code) → code_said (code_text c) ≡ c
code_again code.Lex = refl
code_again code.Syntax = refl
code_again code.Mixed = refl
code_again code.Deep = refl
code_again code.Size = refl
code_again code.TraitName = refl
code_again code.UnknownTrait = refl
code_again code.Cycle = refl
code_again code.BadReference = refl
code_again code.Rename = refl
code_again code.FieldTwice = refl
code_again code.Arity = refl
code_again code.BuiltIn = refl
code_again code.UnknownSort = refl
code_again code.VariableTwice = refl
code_again code.Generator = refl
code_again code.Partition = refl
code_again code.NoReading = refl
code_again code.Ambiguous = refl
code_again code.ImpliedOperator = refl
code_again code.Converted = refl
code_again code.Exempt = refl
code_again code.Command = refl
code_again code.Mark = refl
code_again code.Done = refl
code_again code.Variable = refl
code_again code.Operator = refl
code_again code.Shape = refl
code_again code.Generated = refl
code_again code.Partitioned = refl
code_again code.Fact = refl
code_again code.Open = refl
code_again code.Limit = refl
code_again code.UnknownDuty = refl
code_again code.DutyTwice = refl

code_Decides : (c d : Code) → Decides (bytes_eq (code_text c) (code_text d)) (c ≡ d)
code_Decides c d =
    Decides-like (bytes_eq (code_text c) (code_text d)) (λ e. sym (code_again c) ∙ (ap code_said e ∙ code_again d))
    (λ e. ap code_text e) (bytes_eq-Decides (code_text c) (code_text d))

-- ---- commands

pub kind_Decides : (c d : CommandKind) → Decides (same_kind c d) (bare_kind c ≡ bare_kind d)
kind_Decides (command.Declare ns s) (command.Declare ms r) =
    Decides-like (pointwise same_word ns ms && same_word s r) (λ h. ap₂ (λ xs x. command.Declare xs x) h.0 h.1)
    (λ e. (cc, cc))
    (Decides-and (pointwise same_word ns ms) (same_word s r) (list_Decides bare_word same_word word_Decides ns ms)
    (word_Decides s r))
kind_Decides (command.Limit n) (command.Limit m) =
    Decides-like (n == m) (λ e. ap (λ k. command.Limit k) e) (λ e. cc) (Decides-eqb n m)
kind_Decides (command.BoxChecking on) (command.BoxChecking other) =
    Decides-like (same_truth on other) (λ e. ap (λ b. command.BoxChecking b) e) (λ e. cc) (truth_Decides on other)
kind_Decides (command.Height f g) (command.Height h k) =
    Decides-like (same_reference f h && same_reference g k) (λ d. ap₂ (λ r q. command.Height r q) d.0 d.1)
    (λ e. (cc, cc))
    (Decides-and (same_reference f h) (same_reference g k) (reference_Decides f h) (reference_Decides g k))
kind_Decides (command.Status v f) (command.Status w g) =
    Decides-like (same_way v w && same_reference f g) (λ d. ap₂ (λ x r. command.Status x r) d.0 d.1) (λ e. (cc, cc))
    (Decides-and (same_way v w) (same_reference f g) (way_Decides v w) (reference_Decides f g))
kind_Decides (command.Prove e) (command.Prove d) =
    Decides-like (same_equation e d) (λ h. ap (λ x. command.Prove x) h) (λ h. cc) (equation_Decides e d)
kind_Decides (command.Cases e) (command.Cases d) =
    Decides-like (same_equation e d) (λ h. ap (λ x. command.Cases x) h) (λ h. cc) (equation_Decides e d)
kind_Decides command.Implication command.Implication = always refl
kind_Decides command.Conjunction command.Conjunction = always refl
kind_Decides command.Contradiction command.Contradiction = always refl
kind_Decides (command.Induction x) (command.Induction y) =
    Decides-like (same_word x y) (λ h. ap (λ w. command.Induction w) h) (λ h. cc) (word_Decides x y)
kind_Decides command.Partition command.Partition = always refl
kind_Decides (command.Instantiate is n) (command.Instantiate js m) =
    Decides-like (pointwise same_instance is js && same_fact_name n m)
    (λ h. ap₂ (λ xs k. command.Instantiate xs k) h.0 h.1) (λ e. (cc, cc))
    (Decides-and (pointwise same_instance is js) (same_fact_name n m)
    (list_Decides bare_instance same_instance instance_Decides is js) (fact_Decides n m))
kind_Decides (command.CriticalPairs n m) (command.CriticalPairs k l) =
    Decides-like (same_fact_name n k && same_fact_name m l) (λ h. ap₂ (λ x y. command.CriticalPairs x y) h.0 h.1)
    (λ e. (cc, cc)) (Decides-and (same_fact_name n k) (same_fact_name m l) (fact_Decides n k) (fact_Decides m l))
kind_Decides (command.Normalize n) (command.Normalize m) =
    Decides-like (same_fact_name n m) (λ h. ap (λ k. command.Normalize k) h) (λ h. cc) (fact_Decides n m)
kind_Decides command.Qed command.Qed = always refl
kind_Decides (command.Mark proved) (command.Mark other) =
    Decides-like (same_truth proved other) (λ h. ap (λ b. command.Mark b) h) (λ h. cc) (truth_Decides proved other)
kind_Decides (command.Bad code) (command.Bad other) =
    Decides-like (bytes_eq (code_text code) (code_text other)) (λ h. ap (λ c. command.Bad c) h) (λ h. cc)
    (code_Decides code other)
kind_Decides c d = never (λ e. cc)

pub kinds_Decide : (cs ds : List CommandKind)
    → Decides (pointwise same_kind cs ds) (map bare_kind cs ≡ map bare_kind ds)
kinds_Decide cs ds = list_Decides bare_kind same_kind kind_Decides cs ds
