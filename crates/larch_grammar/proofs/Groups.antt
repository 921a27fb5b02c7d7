-- What is read of a term, or of actuals, closes each parenthesis that it opens, so what stands behind a parenthesis
-- doesn't depend on how the tokens inside are read.
use Rattle.std.proofs.Common.{◌≡◌, ℕ, suc, Bool, Option, Some, List, refl, ◌∙◌}
use Rattle.larch_raw.specs.declared.declared.RawForm.{RawForm}
use Rattle.larch_raw.specs.declared.declared.RawOpRef.{RawOpRef}
use Rattle.larch_raw.specs.declared.declared.RawSig.{RawSig}
use Rattle.larch_raw.specs.declared.declared.RawWord.{RawWord}
use Rattle.larch_raw.specs.declared.reference.RawActual.{RawActual}
use Rattle.larch_raw.specs.RawTree.{RawTree}
use Rattle.larch_grammar.specs.Composition.{AreActuals, in_place, replaces, EndActuals, no_actual, another_actual}
use Rattle.larch_grammar.specs.Form.{Marked, without_mark, a_word, AreWords, no_word, another_word, AreMarkers}
use Rattle.larch_grammar.specs.Form.{no_marker, another_marker, Markers, empty, marked, IsForm, bare_word, bare_symbol}
use Rattle.larch_grammar.specs.Form.{bare_field, field_form, prefix_form, postfix_form, infix_form, bracketed_form}
use Rattle.larch_grammar.specs.Form.{bracket_behind, IsDomain, no_sort, sorts, IsSig, signature, IsOpRef, by_form}
use Rattle.larch_grammar.specs.Form.{by_signature}
use Rattle.larch_grammar.specs.Leading.{behind_group}
use Rattle.larch_grammar.specs.Terms.{Cond, conditional, logic, Connectives, no_connective, connective, Equal, equal}
use Rattle.larch_grammar.specs.Terms.{Equalities, no_equality, equality, Oper, prefixed, plain, Operand, another_prefix}
use Rattle.larch_grammar.specs.Terms.{operand, Symbols, no_symbol, behind, between, Infixes, no_infix, another_infix}
use Rattle.larch_grammar.specs.Terms.{Postfixes, no_postfix, another_postfix, Strays, no_stray, stray, Post, word_alone}
use Rattle.larch_grammar.specs.Terms.{call, parentheses, bracketed, Fields, no_field, of_sort, field, bracket}
use Rattle.larch_grammar.specs.Terms.{InBracket, no_operand, operands, Others, no_other, another, a_symbol, a_not}
use Rattle.larch_grammar.specs.declared.terminal.Bracket.{Bracket}
use Rattle.larch_grammar.specs.declared.terminal.Terminal.TheVariants.{Close, CloseBracket}

-- what stands behind a parenthesis
abbrev pub group : ℕ → List Marked → Option (List Marked)
group n i = behind_group without_mark n i

postfixes_group : {l q : RawTree} {i o : List Marked} → Postfixes l i o q → (n : ℕ) → group n i ≡ group n o
postfixes_group no_postfix n = refl
postfixes_group (another_postfix more) n = postfixes_group more n

strays_group : {s : Bool} {l q : RawTree} {i o : List Marked} → Strays s l i o q → (n : ℕ) → group n i ≡ group n o
strays_group no_stray n = refl
strays_group (stray e more) n = strays_group more n

mutual
  pub cond_group : {s : Bool} {d : ℕ} {i o : List Marked} {q : RawTree} → Cond s d i o q → (n : ℕ)
      → group n i ≡ group n o
  cond_group (conditional first second third) n = cond_group first n ∙ cond_group second n ∙ cond_group third n
  cond_group (logic a more) n = equal_group a n ∙ connectives_group more n

  connectives_group : {s : Bool} {d : ℕ} {x : Option RawWord} {l q : RawTree} {i o : List Marked}
      → Connectives s d x l i o q → (n : ℕ) → group n i ≡ group n o
  connectives_group no_connective n = refl
  connectives_group (connective term more) n = equal_group term n ∙ connectives_group more n

  equal_group : {s : Bool} {d : ℕ} {i o : List Marked} {q : RawTree} → Equal s d i o q → (n : ℕ) → group n i ≡ group n o
  equal_group (equal a more) n = oper_group a n ∙ equalities_group more n

  equalities_group : {s : Bool} {d : ℕ} {x : Option RawWord} {l q : RawTree} {i o : List Marked}
      → Equalities s d x l i o q → (n : ℕ) → group n i ≡ group n o
  equalities_group no_equality n = refl
  equalities_group (equality term more) n = oper_group term n ∙ equalities_group more n

  oper_group : {s : Bool} {d : ℕ} {i o : List Marked} {q : RawTree} → Oper s d i o q → (n : ℕ) → group n i ≡ group n o
  oper_group (prefixed a_symbol term) n = operand_group term n
  oper_group (prefixed a_not term) n = operand_group term n
  oper_group (plain term more) n = post_group term n ∙ symbols_group more n

  operand_group : {s : Bool} {d : ℕ} {i o : List Marked} {q : RawTree} → Operand s d i o q → (n : ℕ)
      → group n i ≡ group n o
  operand_group (another_prefix a_symbol term) n = operand_group term n
  operand_group (another_prefix a_not term) n = operand_group term n
  operand_group (operand term more) n = post_group term n ∙ strays_group more n

  symbols_group : {s : Bool} {d : ℕ} {l q : RawTree} {i o : List Marked} → Symbols s d l i o q → (n : ℕ)
      → group n i ≡ group n o
  symbols_group no_symbol n = refl
  symbols_group (behind e more) n = postfixes_group more n
  symbols_group (between term more) n = post_group term n ∙ infixes_group more n

  infixes_group : {s : Bool} {d : ℕ} {x : RawWord} {l q : RawTree} {i o : List Marked} → Infixes s d x l i o q → (n : ℕ)
      → group n i ≡ group n o
  infixes_group no_infix n = refl
  infixes_group (another_infix term more) n = post_group term n ∙ infixes_group more n

  post_group : {s : Bool} {d : ℕ} {i o : List Marked} {q : RawTree} → Post s d i o q → (n : ℕ) → group n i ≡ group n o
  post_group (word_alone more) n = fields_group more n
  post_group (call first further more) n = cond_group first (suc n) ∙ others_inside further n ∙ fields_group more n
  post_group (parentheses term more) n = cond_group term (suc n) ∙ fields_group more n
  post_group (bracketed term more) n = bracket_group term n ∙ fields_group more n

  fields_group : {s : Bool} {d : ℕ} {l q : RawTree} {i o : List Marked} → Fields s d l i o q → (n : ℕ)
      → group n i ≡ group n o
  fields_group no_field n = refl
  fields_group of_sort n = refl
  fields_group (field more) n = fields_group more n
  fields_group (bracket inside more) n = bracket_group inside n ∙ fields_group more n

  bracket_group : {s : Bool} {d : ℕ} {l : Option RawTree} {i o : List Marked} {q : RawTree} → InBracket s d l i o q
      → (n : ℕ) → group n i ≡ group n o
  bracket_group no_operand n = refl
  bracket_group (operands first further) n = cond_group first n ∙ others_in_bracket further n

  others_in_bracket : {s : Bool} {d : ℕ} {b : Bracket} {ts us : List RawTree} {i o : List Marked}
      → Others s d (CloseBracket b) ts i o us → (n : ℕ) → group n i ≡ group n o
  others_in_bracket no_other n = refl
  others_in_bracket (another term more) n = cond_group term n ∙ others_in_bracket more n

  others_inside : {s : Bool} {d : ℕ} {ts us : List RawTree} {i o : List Marked} → Others s d Close ts i o us → (n : ℕ)
      → group (suc n) i ≡ group n o
  others_inside no_other n = refl
  others_inside (another term more) n = cond_group term (suc n) ∙ others_inside more n

-- a list of terms closes the parenthesis
pub others_group : {s : Bool} {d : ℕ} {ts us : List RawTree} {i o : List Marked} → Others s d Close ts i o us
    → group 0 i ≡ Some o
others_group no_other = refl
others_group (another term more) = cond_group term 0 ∙ others_group more

-- forms, signatures and references to operators open no parenthesis

words_group : {ws us : List RawWord} {i o : List Marked} → AreWords ws i o us → (n : ℕ) → group n i ≡ group n o
words_group no_word n = refl
words_group (another_word a_word more) n = words_group more n

markers_group : {b : Bracket} {l m : ℕ} {i o : List Marked} → AreMarkers b l i o m → (n : ℕ) → group n i ≡ group n o
markers_group no_marker n = refl
markers_group (another_marker more) n = markers_group more n

marks_group : {b : Bracket} {m : ℕ} {i o : List Marked} → Markers b i o m → (n : ℕ) → group n i ≡ group n o
marks_group empty n = refl
marks_group (marked more) n = markers_group more n

form_group : {i o : List Marked} {f : RawForm} → IsForm i o f → (n : ℕ) → group n i ≡ group n o
form_group (bare_word a_word) n = refl
form_group bare_symbol n = refl
form_group (bare_field a_word) n = refl
form_group (field_form a_word) n = refl
form_group prefix_form n = refl
form_group postfix_form n = refl
form_group infix_form n = refl
form_group (bracketed_form marks) n = marks_group marks n
form_group (bracket_behind marks) n = marks_group marks n

domain_group : {i o : List Marked} {ws : List RawWord} → IsDomain i o ws → (n : ℕ) → group n i ≡ group n o
domain_group no_sort n = refl
domain_group (sorts a_word more) n = words_group more n

signature_group : {i o : List Marked} {s : RawSig} → IsSig i o s → (n : ℕ) → group n i ≡ group n o
signature_group (signature domain a_word) n = domain_group domain n

reference_group : {i o : List Marked} {r : RawOpRef} → IsOpRef i o r → (n : ℕ) → group n i ≡ group n o
reference_group (by_form form) n = form_group form n
reference_group (by_signature form sig) n = form_group form n ∙ signature_group sig n

mutual
  -- actuals close the parenthesis
  pub actuals_group : {b : Bool} {ps qs : List RawActual} {i o : List Marked} → AreActuals b ps i o qs
      → group 0 i ≡ Some o
  actuals_group (in_place form more) = form_group form 0 ∙ end_group more
  actuals_group (replaces form reference more) = form_group form 0 ∙ reference_group reference 0 ∙ end_group more

  end_group : {b : Bool} {ps qs : List RawActual} {i o : List Marked} → EndActuals b ps i o qs → group 0 i ≡ Some o
  end_group no_actual = refl
  end_group (another_actual more) = actuals_group more
