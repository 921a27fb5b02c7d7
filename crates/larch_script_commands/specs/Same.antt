-- Whether two commands are equal, as tests that compute. Lines and positions don't count.
use Rattle.std.specs.Prelude.{◌==◌, ◌&&◌, Bool, true, false, not, bytes_eq, Option, Some, None}
use Rattle.std.specs.Cmp.Lexicographic.{pointwise}
use Rattle.larch_base.specs.CodeText.{code_text}
use Rattle.larch_base.specs.declared.fact_name.FactLetter.{FactLetter}
use Rattle.larch_base.specs.declared.fact_name.FactLetter.TheVariants.{Axiom, Derived, Hypothesis, Lemma}
use Rattle.larch_base.specs.declared.fact_name.FactName.{FactName}
use Rattle.larch_base.specs.declared.way.Way.{Way}
use Rattle.larch_base.specs.declared.way.Way.TheVariants.{LeftToRight, RightToLeft, Multiset}
use Rattle.larch_raw.specs.RawTree.{RawTree, RawForest, apply, qualified, no_more, one_more}
use Rattle.larch_raw.specs.declared.declared.RawForm.{RawForm}
use Rattle.larch_raw.specs.declared.declared.RawOpRef.{RawOpRef}
use Rattle.larch_raw.specs.declared.declared.RawSig.{RawSig}
use Rattle.larch_raw.specs.declared.declared.RawWord.{RawWord}
use Rattle.larch_raw.specs.declared.equation.RawEquation.{RawEquation}
use Rattle.larch_raw.specs.declared.equation.RawRight.{RawRight}
use Rattle.larch_script_commands.specs.declared.command.CommandKind.{CommandKind}
use Rattle.larch_script_commands.specs.declared.command.CommandKind.TheVariants as command
use Rattle.larch_script_commands.specs.declared.command.RawInstance.{RawInstance}

-- whether two truth values are one
abbrev pub same_truth : Bool → Bool → Bool
same_truth true b = b
same_truth false b = not b

-- whether two options agree by a test
abbrev pub same_option : {A : Type 0} → (A → A → Bool) → Option A → Option A → Bool
same_option same None None = true
same_option same None (Some y) = false
same_option same (Some x) None = false
same_option same (Some x) (Some y) = same x y

-- whether two words have one text
abbrev pub same_word : RawWord → RawWord → Bool
same_word w v = bytes_eq w.name v.name

abbrev mutual
  -- whether two terms have the same names, sorts and shape
  pub same_term : RawTree → RawTree → Bool
  same_term (apply n ts p) (apply m us q) = bytes_eq n m && same_terms ts us
  same_term (apply n ts p) (qualified u v q) = false
  same_term (qualified t w p) (apply m us q) = false
  same_term (qualified t w p) (qualified u v q) = same_term t u && same_word w v

  -- the same of arguments
  pub same_terms : RawForest → RawForest → Bool
  same_terms no_more no_more = true
  same_terms no_more (one_more u us) = false
  same_terms (one_more t ts) no_more = false
  same_terms (one_more t ts) (one_more u us) = same_term t u && same_terms ts us

-- whether two right sides are equal
abbrev pub same_right : RawRight → RawRight → Bool
same_right r q = same_term r.term q.term

-- whether two equations have equal sides
abbrev pub same_equation : RawEquation → RawEquation → Bool
same_equation e d = same_term e.left d.left && same_option same_right e.right d.right

-- whether two names of operators are one
abbrev pub same_form : RawForm → RawForm → Bool
same_form f g = bytes_eq f.name g.name && (same_truth f.word g.word && (f.markers == g.markers))

-- whether two signatures have the same sorts
abbrev pub same_signature : RawSig → RawSig → Bool
same_signature s r = pointwise same_word s.domain r.domain && same_word s.range r.range

-- whether two references have one name and the same sorts
abbrev pub same_reference : RawOpRef → RawOpRef → Bool
same_reference r q = same_form r.form q.form && same_option same_signature r.sig q.sig

-- whether two variables with what takes their places are equal
abbrev pub same_instance : RawInstance → RawInstance → Bool
same_instance i j = same_word i.name j.name && same_equation i.term j.term

-- whether two statuses are one
abbrev pub same_way : Way → Way → Bool
same_way LeftToRight LeftToRight = true
same_way RightToLeft RightToLeft = true
same_way Multiset Multiset = true
same_way v w = false

-- whether two facts come from the same
abbrev pub same_letter : FactLetter → FactLetter → Bool
same_letter Axiom Axiom = true
same_letter Lemma Lemma = true
same_letter Hypothesis Hypothesis = true
same_letter Derived Derived = true
same_letter l m = false

-- whether two names of facts are one
abbrev pub same_fact_name : FactName → FactName → Bool
same_fact_name n m = same_letter n.letter m.letter && ((n.number == m.number) && (n.part == m.part))

-- whether the same is commanded
abbrev pub same_kind : CommandKind → CommandKind → Bool
same_kind (command.Declare ns s) (command.Declare ms r) = pointwise same_word ns ms && same_word s r
same_kind (command.Limit n) (command.Limit m) = n == m
same_kind (command.BoxChecking on) (command.BoxChecking other) = same_truth on other
same_kind (command.Height f g) (command.Height h k) = same_reference f h && same_reference g k
same_kind (command.Status v f) (command.Status w g) = same_way v w && same_reference f g
same_kind (command.Prove e) (command.Prove d) = same_equation e d
same_kind (command.Cases t) (command.Cases u) = same_equation t u
same_kind command.Implication command.Implication = true
same_kind command.Conjunction command.Conjunction = true
same_kind command.Contradiction command.Contradiction = true
same_kind (command.Induction x) (command.Induction y) = same_word x y
same_kind command.Partition command.Partition = true
same_kind (command.Instantiate is n) (command.Instantiate js m) = pointwise same_instance is js && same_fact_name n m
same_kind (command.CriticalPairs n m) (command.CriticalPairs k l) = same_fact_name n k && same_fact_name m l
same_kind (command.Normalize n) (command.Normalize m) = same_fact_name n m
same_kind command.Qed command.Qed = true
same_kind (command.Mark proved) (command.Mark other) = same_truth proved other
same_kind (command.Bad code) (command.Bad other) = bytes_eq (code_text code) (code_text other)
same_kind c d = false
