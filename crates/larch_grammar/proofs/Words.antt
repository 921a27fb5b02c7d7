-- Where the words of a text are words, so are those of what it is read as. By induction over the grammar: each phrase
-- is read from tokens whose words are words, and leaves such tokens behind.
use Rattle.std.proofs.Common.{◌≡◌, ℕ, suc, Bool, true, false, cond, IsTrue, Option, Some, None, List, [], ◌∷◌, ◌++◌}
use Rattle.std.proofs.Common.{map, All, codes, ◌||◌, refl, subst, sym, arith}
use Rattle.std.proofs.lemmas.List.Elements.{All-append, All-map, All-nil, All-push}
use Rattle.std.specs.Str.{bytes_eq}
use Rattle.larch_base.specs.Word.{is_word}
use Rattle.larch_base.specs.declared.position.Pos.{Pos}
use Rattle.larch_lexer.specs.declared.token.Kind.{Kind}
use Rattle.larch_lexer.specs.declared.token.Kind.TheVariants as kind
use Rattle.larch_lexer.specs.declared.token.Token.{Token}
use Rattle.larch_grammar_law.specs.Claims.{Spells, tokens_of}
use Rattle.larch_grammar_law.specs.declared.mark.Mark.{Mark}
use Rattle.larch_raw.specs.RawTree.{RawTree, raw_forest}
use Rattle.larch_raw.specs.Worded.{Worded, WordedActual, WordedConversion, WordedDecl, WordedField, WordedEquation}
use Rattle.larch_raw.specs.Worded.{WordedForm, WordedItem, WordedRef, WordedReference, WordedShorthand, WordedSig}
use Rattle.larch_raw.specs.Worded.{WordedTarget, WordedTerm, WordedTerms, WordedTrait, WordedVar}
use Rattle.larch_raw.specs.declared.declared.RawDecl.{RawDecl}
use Rattle.larch_raw.specs.declared.declared.RawForm.{RawForm}
use Rattle.larch_raw.specs.declared.declared.RawOpRef.{RawOpRef}
use Rattle.larch_raw.specs.declared.declared.RawSig.{RawSig}
use Rattle.larch_raw.specs.declared.declared.RawWord.{RawWord}
use Rattle.larch_raw.specs.declared.equation.RawEquation.{RawEquation}
use Rattle.larch_raw.specs.declared.equation.RawItem.{RawItem}
use Rattle.larch_raw.specs.declared.equation.RawTrait.{RawTrait}
use Rattle.larch_raw.specs.declared.equation.RawVar.{RawVar}
use Rattle.larch_raw.specs.declared.reference.RawActual.{RawActual}
use Rattle.larch_raw.specs.declared.reference.RawActual.TheVariants as actual
use Rattle.larch_raw.specs.declared.reference.RawRef.{RawRef}
use Rattle.larch_raw.specs.declared.shorthand.RawField.{RawField}
use Rattle.larch_raw.specs.declared.shorthand.RawShorthand.{RawShorthand}
use Rattle.larch_grammar.specs.Answers.{Equations, References, Traits}
use Rattle.larch_grammar.specs.Composition.{AreActuals, AreFields, AreRefs, EndActuals, HasActuals, HasFormals, IsField}
use Rattle.larch_grammar.specs.Composition.{IsRef, IsRefsWord, IsShort, a_ref, a_tuple, a_union, actuals}
use Rattle.larch_grammar.specs.Composition.{an_enumeration, another_actual, another_field as further_field, another_ref}
use Rattle.larch_grammar.specs.Composition.{bare, next_kind, fields_at, fields_of_sort, formals, in_place, no_actual}
use Rattle.larch_grammar.specs.Composition.{no_field as no_further_field, no_formal, no_ref, replaces, replacement}
use Rattle.larch_grammar.specs.Composition.{with_ref, with_shorthand}
use Rattle.larch_grammar.specs.Form.{Marked, IsWord, a_word, AreWords, no_word, another_word, AreMarkers, no_marker}
use Rattle.larch_grammar.specs.Form.{another_marker, Markers, empty, marked, IsForm, bare_word, bare_symbol, bare_field}
use Rattle.larch_grammar.specs.Form.{field_form, prefix_form, postfix_form, infix_form, bracketed_form, bracket_behind}
use Rattle.larch_grammar.specs.Form.{AreForms, no_form, another_form, IsDomain, no_sort, sorts, IsSig, signature}
use Rattle.larch_grammar.specs.Form.{IsOpRef, by_form, by_signature, AreOpRefs, no_reference, another_reference}
use Rattle.larch_grammar.specs.Form.{variables_at, IsGroup, group, AreGroups, no_group, another_group}
use Rattle.larch_grammar.specs.Terminal.{bracket_terminal, claim_word, head_word, punctuation_terminal, run_terminal}
use Rattle.larch_grammar.specs.Terminal.{term_word, terminal_by, terminal_of, word_terminal}
use Rattle.larch_grammar.specs.Terms.{Cond, conditional, logic, Connectives, no_connective, connective, Equal, equal}
use Rattle.larch_grammar.specs.Terms.{Equalities, no_equality, equality, Oper, prefixed, plain, Operand, another_prefix}
use Rattle.larch_grammar.specs.Terms.{operand, Symbols, no_symbol, behind, between, Infixes, no_infix, another_infix}
use Rattle.larch_grammar.specs.Terms.{Postfixes, no_postfix, another_postfix, Strays, no_stray, stray, Post, word_alone}
use Rattle.larch_grammar.specs.Terms.{call, parentheses, bracketed, Fields, no_field, of_sort, field, bracket}
use Rattle.larch_grammar.specs.Terms.{InBracket, no_operand, operands, Others, no_other, another, IsEquation, formula}
use Rattle.larch_grammar.specs.Terms.{two_sides, first_position, formula_of}
use Rattle.larch_grammar.specs.Traits.{IsMarkedTrait, trait_of_body, IsBody, parts, a_shorthand, references, AreParts}
use Rattle.larch_grammar.specs.Traits.{assertions, introduced, AreExempted, no_exempted, another_exempted, HasVariables}
use Rattle.larch_grammar.specs.Traits.{no_variables, some_variables, HasExempted, nothing_exempted, exempted}
use Rattle.larch_grammar.specs.Traits.{AreConversions, no_conversion, converted, implying, with_item, AreAssertions}
use Rattle.larch_grammar.specs.Traits.{conversions, asserted, implied_items, implied_references, AreItems, no_item}
use Rattle.larch_grammar.specs.Traits.{a_clause, for_all, without_variables, AreEquations, no_equation, ended}
use Rattle.larch_grammar.specs.Traits.{another_equation, IsClause, clause, MayEnd, no_end, an_end, AreDecls}
use Rattle.larch_grammar.specs.Traits.{no_declaration, another_declaration, IsDecl, declaration, as_marked}
use Rattle.larch_grammar.specs.Trees.{bracket_tree}
use Rattle.larch_grammar.specs.WordTokens.{AreWordTokens, IsWordToken}
use Rattle.larch_grammar.specs.declared.machine.Before.{Before}
use Rattle.larch_grammar.specs.declared.machine.RefKind.{RefKind}
use Rattle.larch_grammar.specs.declared.machine.RefKind.TheVariants.{Included, Assumed, First, Further}
use Rattle.larch_grammar.specs.declared.terminal.Bracket.{Bracket}
use Rattle.larch_grammar.specs.declared.terminal.Bracket.TheVariants.{Square, Curly}
use Rattle.larch_grammar.specs.declared.terminal.Terminal.{Terminal}
use Rattle.larch_grammar.specs.declared.terminal.Terminal.TheVariants as terminal

-- a terminal that is a word is one
abbrev Lettered : Terminal → Type 0
Lettered (terminal.Word w) = Worded w
Lettered _ = Unit {0}

-- so is each of these
abbrev AllLettered : List Marked → Type 0
AllLettered [] = Unit {0}
AllLettered (t ∷ i) = Lettered t.0 × AllLettered i

-- words, forms and signatures

word_lettered : {i o : List Marked} {w : RawWord} → IsWord i o w → AllLettered i → Worded w × AllLettered o
word_lettered a_word h = h

words_lettered : {ws vs : List RawWord} {i o : List Marked} → AreWords ws i o vs → All Worded ws → AllLettered i
    → All Worded vs × AllLettered o
words_lettered no_word a h = (a, h)
words_lettered (another_word {ws = ws} {w = w} q more) a h =
    let r = word_lettered q h.1 in
    words_lettered more (All-push Worded ws w a r.0) r.1

markers_left : {b : Bracket} {n m : ℕ} {i o : List Marked} → AreMarkers b n i o m → AllLettered i → AllLettered o
markers_left no_marker h = h.1
markers_left (another_marker more) h = markers_left more h.1.1

marks_left : {b : Bracket} {n : ℕ} {i o : List Marked} → Markers b i o n → AllLettered i → AllLettered o
marks_left empty h = h.1
marks_left (marked more) h = markers_left more h.1

form_left : {i o : List Marked} {f : RawForm} → IsForm i o f → AllLettered i → AllLettered o
form_left (bare_word q) h = (word_lettered q h).1
form_left bare_symbol h = h.1
form_left (bare_field q) h = (word_lettered q h.1).1
form_left (field_form q) h = (word_lettered q h.1.1).1
form_left prefix_form h = h.1.1
form_left postfix_form h = h.1.1
form_left infix_form h = h.1.1.1
form_left (bracketed_form q) h = marks_left q h.1
form_left (bracket_behind q) h = marks_left q h.1.1

-- a form that is a bare word is a word
form_worded : {i o : List Marked} {f : RawForm} → IsForm i o f → AllLettered i → WordedForm f
form_worded (bare_word q) h = λ bare. (word_lettered q h).0
form_worded bare_symbol h = λ bare. absurd cc
form_worded (bare_field q) h = λ bare. absurd cc
form_worded (field_form q) h = λ bare. absurd cc
form_worded prefix_form h = λ bare. absurd cc
form_worded (postfix_form) h = λ bare. absurd cc
form_worded infix_form h = λ bare. absurd cc
form_worded (bracketed_form q) h = λ bare. absurd cc
form_worded (bracket_behind q) h = λ bare. absurd cc

forms_left : {fs gs : List RawForm} {i o : List Marked} → AreForms fs i o gs → AllLettered i → AllLettered o
forms_left no_form h = h
forms_left (another_form q more) h = forms_left more (form_left q h.1)

domain_lettered : {i o : List Marked} {ws : List RawWord} → IsDomain i o ws → AllLettered i
    → All Worded ws × AllLettered o
domain_lettered no_sort h = (All-nil Worded, h)
domain_lettered (sorts {w = w} q more) h =
    let r = word_lettered q h in
    words_lettered more (All-push Worded [] w (All-nil Worded) r.0) r.1

sig_lettered : {i o : List Marked} {s : RawSig} → IsSig i o s → AllLettered i → WordedSig s × AllLettered o
sig_lettered (signature q range) h =
    let d = domain_lettered q h in
    let r = word_lettered range d.1.1 in
    ((d.0, r.0), r.1)

ref_lettered : {i o : List Marked} {r : RawOpRef} → IsOpRef i o r → AllLettered i → WordedRef r × AllLettered o
ref_lettered (by_form q) h = (tt, form_left q h)
ref_lettered (by_signature q sig) h = sig_lettered sig (form_left q h).1

refs_lettered : {rs qs : List RawOpRef} {i o : List Marked} → AreOpRefs rs i o qs → All WordedRef rs → AllLettered i
    → All WordedRef qs × AllLettered o
refs_lettered no_reference a h = (a, h)
refs_lettered (another_reference {rs = rs} {r = r} q more) a h =
    let p = ref_lettered q h.1 in
    refs_lettered more (All-push WordedRef rs r a p.0) p.1

-- variables

variables_worded : (sort : RawWord) → Worded sort → (ws : List RawWord) → All Worded ws
    → All WordedVar (variables_at ws sort)
variables_worded sort s ws a =
    All-map WordedVar (λ name. record { name = name; sort = sort }) ws (λ k d lt. (a k d lt, s))

group_lettered : {i o : List Marked} {gs : List RawVar} → IsGroup i o gs → AllLettered i
    → All WordedVar gs × AllLettered o
group_lettered (group {w = w} {sort = sort} {ws = ws} q more range) h =
    let n = word_lettered q h in
    let ns = words_lettered more (All-push Worded [] w (All-nil Worded) n.0) n.1 in
    let s = word_lettered range ns.1.1 in
    (variables_worded sort s.0 ws ns.0, s.1)

groups_lettered : {vs us : List RawVar} {i o : List Marked} → AreGroups vs i o us → All WordedVar vs → AllLettered i
    → All WordedVar us × AllLettered o
groups_lettered no_group a h = (a, h)
groups_lettered (another_group {vs = vs} {gs = gs} q more) a h =
    let p = group_lettered q h.1 in
    groups_lettered more (All-append WordedVar vs gs a p.0) p.1

-- terms

terms_push : (ts : List RawTree) (a : RawTree) → WordedTerms (raw_forest ts) → WordedTerm a
    → WordedTerms (raw_forest (ts ++ a ∷ []))
terms_push [] a h w = (w, tt)
terms_push (t ∷ ts) a h w = (h.0, terms_push ts a h.1 w)

-- what stands in front of a bracket
abbrev WordedFront : Option RawTree → Type 0
WordedFront None = Unit {0}
WordedFront (Some l) = WordedTerm l

bracket_worded : (b : Bracket) (l : Option RawTree) (p : Pos) (ts : List RawTree) → WordedFront l
    → WordedTerms (raw_forest ts) → WordedTerm (bracket_tree b l p ts)
bracket_worded b None p ts f h = h
bracket_worded b (Some l) p ts f h = (f, h)

postfixes_lettered : {l q : RawTree} {i o : List Marked} → Postfixes l i o q → WordedTerm l → AllLettered i
    → WordedTerm q × AllLettered o
postfixes_lettered no_postfix w h = (w, h)
postfixes_lettered (another_postfix more) w h = postfixes_lettered more (w, tt) h.1

strays_lettered : {s : Bool} {l q : RawTree} {i o : List Marked} → Strays s l i o q → WordedTerm l → AllLettered i
    → WordedTerm q × AllLettered o
strays_lettered no_stray w h = (w, h)
strays_lettered (stray let_in more) w h = strays_lettered more (w, tt) h.1

mutual
  cond_lettered : {s : Bool} {d : ℕ} {i o : List Marked} {q : RawTree} → Cond s d i o q → AllLettered i
      → WordedTerm q × AllLettered o
  cond_lettered (conditional a b c) h =
      let x = cond_lettered a h.1 in
      let y = cond_lettered b x.1.1 in
      let z = cond_lettered c y.1.1 in
      ((x.0, (y.0, (z.0, tt))), z.1)
  cond_lettered (logic q more) h = let x = equal_lettered q h in connectives_lettered more x.0 x.1

  connectives_lettered : {s : Bool} {d : ℕ} {x : Option RawWord} {l q : RawTree} {i o : List Marked}
      → Connectives s d x l i o q → WordedTerm l → AllLettered i → WordedTerm q × AllLettered o
  connectives_lettered no_connective w h = (w, h)
  connectives_lettered (connective q more) w h = let x = equal_lettered q h.1 in
      connectives_lettered more (w, (x.0, tt)) x.1

  equal_lettered : {s : Bool} {d : ℕ} {i o : List Marked} {q : RawTree} → Equal s d i o q → AllLettered i
      → WordedTerm q × AllLettered o
  equal_lettered (equal q more) h = let x = oper_lettered q h in equalities_lettered more x.0 x.1

  equalities_lettered : {s : Bool} {d : ℕ} {x : Option RawWord} {l q : RawTree} {i o : List Marked}
      → Equalities s d x l i o q → WordedTerm l → AllLettered i → WordedTerm q × AllLettered o
  equalities_lettered no_equality w h = (w, h)
  equalities_lettered (equality q more) w h = let x = oper_lettered q h.1 in equalities_lettered more (w, (x.0, tt)) x.1

  oper_lettered : {s : Bool} {d : ℕ} {i o : List Marked} {q : RawTree} → Oper s d i o q → AllLettered i
      → WordedTerm q × AllLettered o
  oper_lettered (prefixed sign q) h = let x = operand_lettered q h.1 in ((x.0, tt), x.1)
  oper_lettered (plain q more) h = let x = post_lettered q h in symbols_lettered more x.0 x.1

  operand_lettered : {s : Bool} {d : ℕ} {i o : List Marked} {q : RawTree} → Operand s d i o q → AllLettered i
      → WordedTerm q × AllLettered o
  operand_lettered (another_prefix sign q) h = let x = operand_lettered q h.1 in ((x.0, tt), x.1)
  operand_lettered (operand q more) h = let x = post_lettered q h in strays_lettered more x.0 x.1

  symbols_lettered : {s : Bool} {d : ℕ} {l q : RawTree} {i o : List Marked} → Symbols s d l i o q → WordedTerm l
      → AllLettered i → WordedTerm q × AllLettered o
  symbols_lettered no_symbol w h = (w, h)
  symbols_lettered (behind none more) w h = postfixes_lettered more (w, tt) h.1
  symbols_lettered (between q more) w h = let x = post_lettered q h.1 in infixes_lettered more (w, (x.0, tt)) x.1

  infixes_lettered : {s : Bool} {d : ℕ} {x : RawWord} {l q : RawTree} {i o : List Marked} → Infixes s d x l i o q
      → WordedTerm l → AllLettered i → WordedTerm q × AllLettered o
  infixes_lettered no_infix w h = (w, h)
  infixes_lettered (another_infix q more) w h = let x = post_lettered q h.1 in infixes_lettered more (w, (x.0, tt)) x.1

  post_lettered : {s : Bool} {d : ℕ} {i o : List Marked} {q : RawTree} → Post s d i o q → AllLettered i
      → WordedTerm q × AllLettered o
  post_lettered (word_alone more) h = fields_lettered more tt h.1
  post_lettered (call q list more) h =
      let x = cond_lettered q h.1.1 in
      let y = others_lettered list (x.0, tt) x.1 in
      fields_lettered more y.0 y.1
  post_lettered (parentheses q more) h = let x = cond_lettered q h.1 in fields_lettered more x.0 x.1.1
  post_lettered (bracketed q more) h = let x = bracket_lettered q tt h in fields_lettered more x.0 x.1

  fields_lettered : {s : Bool} {d : ℕ} {l q : RawTree} {i o : List Marked} → Fields s d l i o q → WordedTerm l
      → AllLettered i → WordedTerm q × AllLettered o
  fields_lettered no_field w h = (w, h)
  fields_lettered of_sort w h = ((w, h.1.0), h.1.1)
  fields_lettered (field more) w h = fields_lettered more (w, tt) h.1.1
  fields_lettered (bracket q more) w h = let x = bracket_lettered q w h in fields_lettered more x.0 x.1

  bracket_lettered : {s : Bool} {d : ℕ} {l : Option RawTree} {q : RawTree} {i o : List Marked} → InBracket s d l i o q
      → WordedFront l → AllLettered i → WordedTerm q × AllLettered o
  bracket_lettered (no_operand {b = b} {l = l} {p = p}) f h = (bracket_worded b l p [] f tt, h.1.1)
  bracket_lettered (operands {b = b} {l = l} {p = p} {ts = ts} q list) f h =
      let x = cond_lettered q h.1 in
      let y = others_lettered list (x.0, tt) x.1 in
      (bracket_worded b l p ts f y.0, y.1)

  others_lettered : {s : Bool} {d : ℕ} {c : Terminal} {ts us : List RawTree} {i o : List Marked}
      → Others s d c ts i o us → WordedTerms (raw_forest ts) → AllLettered i
      → WordedTerms (raw_forest us) × AllLettered o
  others_lettered no_other w h = (w, h.1)
  others_lettered (another {a = a} {ts = ts} q more) w h = let x = cond_lettered q h.1 in
      others_lettered more (terms_push ts a w x.0) x.1

equation_lettered : {s : Bool} {i o : List Marked} {e : RawEquation} → IsEquation s i o e → AllLettered i
    → WordedEquation e × AllLettered o
equation_lettered (formula q) h = let x = cond_lettered q h in ((x.0, tt), x.1)
equation_lettered (two_sides q r) h =
    let x = cond_lettered q h in
    let y = cond_lettered r x.1.1 in
    ((x.0, y.0), y.1)

-- declarations, items and traits

decl_lettered : {i o : List Marked} {d : RawDecl} → IsDecl i o d → AllLettered i → WordedDecl d × AllLettered o
decl_lettered (declaration q more sig) h = sig_lettered sig (forms_left more (form_left q h)).1

decls_lettered : {r z : RawTrait} {i o : List Marked} → AreDecls r i o z → WordedTrait r → AllLettered i
    → WordedTrait z × AllLettered o
decls_lettered no_declaration w h = (w, h)
decls_lettered (another_declaration {r = r} {d = d} q more) w h =
    let x = decl_lettered q h in
    decls_lettered more (w.0, All-push WordedDecl r.declarations d w.1 x.0, w.2, w.3, w.4, w.5, w.6, w.7, w.8) x.1

end_left : {i o : List Marked} → MayEnd i o → AllLettered i → AllLettered o
end_left no_end h = h
end_left an_end h = h.1

clause_lettered : {m : Mark} {i o : List Marked} {c : RawItem} → IsClause m i o c → AllLettered i
    → WordedItem c × AllLettered o
clause_lettered (clause {r = r} word q more end) h =
    let x = ref_lettered q h.1.1.1 in
    let y = refs_lettered more (All-push WordedRef [] r (All-nil WordedRef) x.0) x.1 in
    ((h.0, y.0), end_left end y.1)

equations_lettered : {s : Bool} {es fs : List RawEquation} {b : Before} {i o : List Marked} → AreEquations s es i o fs b
    → All WordedEquation es → AllLettered i → All WordedEquation fs × AllLettered o
equations_lettered no_equation a h = (a, h)
equations_lettered ended a h = (a, h.1)
equations_lettered (another_equation {es = es} {e = e} q more) a h =
    let x = equation_lettered q h.1 in
    equations_lettered more (All-push WordedEquation es e a x.0) x.1

-- a trait with an item more
item_put : (r : RawTrait) (c : RawItem) (b : Bool) → WordedTrait r → WordedItem c
    → WordedTrait (cond b (record r { implied_items = r.implied_items ++ c ∷ [] })
    (record r { items = r.items ++ c ∷ [] }))
item_put r c true w h = (w.0, w.1, w.2, w.3, w.4, w.5, w.6, All-push WordedItem r.implied_items c w.7 h, w.8)
item_put r c false w h = (w.0, w.1, All-push WordedItem r.items c w.2 h, w.3, w.4, w.5, w.6, w.7, w.8)

item_worded : (r : RawTrait) (c : RawItem) → WordedTrait r → WordedItem c → WordedTrait (with_item r c)
item_worded r c w h = item_put r c r.implies w h

items_lettered : {s : Bool} {b : Before} {r z : RawTrait} {i o : List Marked} → AreItems s b r i o z → WordedTrait r
    → AllLettered i → WordedTrait z × AllLettered o
items_lettered no_item w h = (w, h)
items_lettered (a_clause {r = r} {c = c} q more) w h =
    let x = clause_lettered q h in
    items_lettered more (item_worded r c w x.0) x.1
items_lettered (for_all {r = r} {e = e} q groups first es more) w h =
    let g = group_lettered q h.1 in
    let gs = groups_lettered groups g.0 g.1 in
    let x = equation_lettered first gs.1 in
    let y = equations_lettered es (All-push WordedEquation [] e (All-nil WordedEquation) x.0) x.1 in
    items_lettered more (item_worded r _ w (gs.0, y.0)) y.1
items_lettered (without_variables {r = r} {e = e} first es more) w h =
    let x = equation_lettered first h in
    let y = equations_lettered es (All-push WordedEquation [] e (All-nil WordedEquation) x.0) x.1 in
    items_lettered more (item_worded r _ w (All-nil WordedVar, y.0)) y.1

-- conversions

variables_lettered : {i o : List Marked} {vs : List RawVar} → HasVariables i o vs → AllLettered i
    → All WordedVar vs × AllLettered o
variables_lettered no_variables h = (All-nil WordedVar, h)
variables_lettered (some_variables q more) h = let g = group_lettered q h.1 in groups_lettered more g.0 g.1

exempted_lettered : {s : Bool} {es fs : List RawEquation} {i o : List Marked} → AreExempted s es i o fs
    → All WordedEquation es → AllLettered i → All WordedEquation fs × AllLettered o
exempted_lettered no_exempted a h = (a, h)
exempted_lettered (another_exempted {es = es} {l = l} {i = i} q more) a h =
    let x = cond_lettered q h.1 in
    exempted_lettered more (All-push WordedEquation es (formula_of l (first_position i)) a (x.0, tt)) x.1

exemptions_lettered : {s : Bool} {vs : List RawVar} {es : List RawEquation} {i o : List Marked}
    → HasExempted s i o vs es → AllLettered i → All WordedVar vs × All WordedEquation es × AllLettered o
exemptions_lettered nothing_exempted h = (All-nil WordedVar, All-nil WordedEquation, h)
exemptions_lettered (exempted {l = l} {j = j} variables q more) h =
    let v = variables_lettered variables h.1 in
    let x = cond_lettered q v.1 in
    let y = exempted_lettered more
    (All-push WordedEquation [] (formula_of l (first_position j)) (All-nil WordedEquation) (x.0, tt)) x.1 in
    (v.0, y.0, y.1)

conversions_lettered : {s : Bool} {r z : RawTrait} {i o : List Marked} → AreConversions s r i o z → WordedTrait r
    → AllLettered i → WordedTrait z × AllLettered o
conversions_lettered no_conversion w h = (w, h)
conversions_lettered (converted {r = r} {q = p} {qs = qs} {vs = vs} {es = es} q more ex further) w h =
    let x = ref_lettered q h.1 in
    let y = refs_lettered more (All-push WordedRef [] p (All-nil WordedRef) x.0) x.1 in
    let e = exemptions_lettered ex y.1 in
    conversions_lettered further (
      w.0,
      w.1,
      w.2,
      w.3,
      w.4,
      w.5,
      w.6,
      w.7,
      All-push WordedConversion r.conversions (record { converted = qs; variables = vs; exempted = es }) w.8
          (y.0, e.0, e.1),
    ) e.2

-- formals, shorthands and references

formals_lettered : {fs gs : List RawForm} {i o : List Marked} → AreForms fs i o gs → All WordedForm fs → AllLettered i
    → All WordedForm gs × AllLettered o
formals_lettered no_form a h = (a, h)
formals_lettered (another_form {fs = fs} {f = f} q more) a h =
    formals_lettered more (All-push WordedForm fs f a (form_worded q h.1)) (form_left q h.1)

has_formals_lettered : {i o : List Marked} {fs : List RawForm} → HasFormals i o fs → AllLettered i
    → All WordedForm fs × AllLettered o
has_formals_lettered no_formal h = (All-nil WordedForm, h)
has_formals_lettered (formals {f = f} q more) h =
    let x =
    formals_lettered more (All-push WordedForm [] f (All-nil WordedForm) (form_worded q h.1)) (form_left q h.1) in
    (x.0, x.1.1)

fields_worded : (sort : RawWord) → Worded sort → (ws : List RawWord) → All Worded ws
    → All WordedField (fields_at ws sort)
fields_worded sort s ws a =
    All-map WordedField (λ name. record { name = name; sort = sort }) ws (λ k d lt. (a k d lt, s))

field_lettered : {i o : List Marked} {gs : List RawField} → IsField i o gs → AllLettered i
    → All WordedField gs × AllLettered o
field_lettered (fields_of_sort {w = w} {sort = sort} {ws = ws} q more range) h =
    let n = word_lettered q h in
    let ns = words_lettered more (All-push Worded [] w (All-nil Worded) n.0) n.1 in
    let s = word_lettered range ns.1.1 in
    (fields_worded sort s.0 ws ns.0, s.1)

fields_lettered_behind : {fs gs : List RawField} {i o : List Marked} → AreFields fs i o gs → All WordedField fs
    → AllLettered i → All WordedField gs × AllLettered o
fields_lettered_behind no_further_field a h = (a, h)
fields_lettered_behind (further_field {fs = fs} {gs = gs} q more) a h =
    let p = field_lettered q h.1 in
    fields_lettered_behind more (All-append WordedField fs gs a p.0) p.1

short_lettered : {i o : List Marked} {h : RawShorthand} → IsShort i o h → AllLettered i
    → WordedShorthand h × AllLettered o
short_lettered (an_enumeration {w = w} q first more) h =
    let n = word_lettered q h in
    let c = word_lettered first n.1.1.1 in
    let cs = words_lettered more (All-push Worded [] w (All-nil Worded) c.0) c.1 in
    ((n.0, cs.0), cs.1)
short_lettered (a_tuple q first more) h =
    let n = word_lettered q h in
    let c = field_lettered first n.1.1.1 in
    let cs = fields_lettered_behind more c.0 c.1 in
    ((n.0, cs.0), cs.1)
short_lettered (a_union q first more) h =
    let n = word_lettered q h in
    let c = field_lettered first n.1.1.1 in
    let cs = fields_lettered_behind more c.0 c.1 in
    ((n.0, cs.0), cs.1)

-- a replacement of a reference to an operator
old_worded : {i o : List Marked} {q : RawOpRef} → IsOpRef i o q → AllLettered i → (f : RawForm) → WordedForm f
    → WordedActual (replacement f q)
old_worded (by_form q) h f w = (w, form_worded q h, tt)
old_worded (by_signature q sig) h f w = (w, form_worded q h, (sig_lettered sig (form_left q h).1).0)

mutual
  actuals_lettered : {b : Bool} {ps qs : List RawActual} {i o : List Marked} → AreActuals b ps i o qs
      → All WordedActual ps → AllLettered i → All WordedActual qs × AllLettered o
  actuals_lettered (in_place {ps = ps} {f = f} q ends) a h =
      actuals_end_lettered ends (All-push WordedActual ps (actual.Plain f) a (form_worded q h)) (form_left q h)
  actuals_lettered (replaces {ps = ps} {f = f} {r = r} q old ends) a h =
      let x = (form_left q h).1 in
      actuals_end_lettered ends (All-push WordedActual ps (replacement f r) a (old_worded old x f (form_worded q h)))
      (ref_lettered old x).1

  actuals_end_lettered : {b : Bool} {ps qs : List RawActual} {i o : List Marked} → EndActuals b ps i o qs
      → All WordedActual ps → AllLettered i → All WordedActual qs × AllLettered o
  actuals_end_lettered no_actual a h = (a, h.1)
  actuals_end_lettered (another_actual more) a h = actuals_lettered more a h.1

has_actuals_lettered : {i o : List Marked} {ps : List RawActual} → HasActuals i o ps → AllLettered i
    → All WordedActual ps × AllLettered o
has_actuals_lettered (bare n) h = (All-nil WordedActual, h)
has_actuals_lettered (actuals more) h = actuals_lettered more (All-nil WordedActual) h.1

-- the trait with an implied part
implying_worded : (r : RawTrait) → WordedTrait r → WordedTrait (implying r)
implying_worded r w = (w.0, w.1, w.2, w.3, w.4, w.5, w.6, w.7, w.8)

-- the trait with a reference more
target_put : (b : RefKind) (r : RawTrait) (q : RawRef) → WordedTrait r → WordedTarget q → WordedTrait (with_ref r b q)
target_put Included r q w h = (
  w.0,
  w.1,
  w.2,
  w.3,
  w.4,
  All-push WordedReference r.references (record { assumed = false; target = q }) w.5 h,
  w.6,
  w.7,
  w.8,
)
target_put Assumed r q w h = (
  w.0,
  w.1,
  w.2,
  w.3,
  w.4,
  All-push WordedReference r.references (record { assumed = true; target = q }) w.5 h,
  w.6,
  w.7,
  w.8,
)
target_put First r q w h = (w.0, w.1, w.2, w.3, w.4, w.5, All-push WordedTarget r.implied q w.6 h, w.7, w.8)
target_put Further r q w h = (w.0, w.1, w.2, w.3, w.4, w.5, All-push WordedTarget r.implied q w.6 h, w.7, w.8)

ref_worded : {i o : List Marked} {q : RawRef} → IsRef i o q → (b : RefKind) (r : RawTrait) → WordedTrait r
    → AllLettered i → WordedTrait (with_ref r b q) × AllLettered o
ref_worded (a_ref {w = n} {ps = ps} q more) b r w h =
    let x = word_lettered q h in
    let y = has_actuals_lettered more x.1 in
    (target_put b r (record { name = n; actuals = ps }) w (x.0, y.0), y.1)

refs_worded : {b : RefKind} {r z : RawTrait} {i o : List Marked} → AreRefs b r i o z → WordedTrait r → AllLettered i
    → WordedTrait z × AllLettered o
refs_worded no_ref w h = (w, h)
refs_worded (another_ref {b = b} {r = r} q more) w h = let x = ref_worded q (next_kind b) r w h.1 in
    refs_worded more x.0 x.1

assertions_lettered : {s : Bool} {r z : RawTrait} {i o : List Marked} → AreAssertions s r i o z → WordedTrait r
    → AllLettered i → WordedTrait z × AllLettered o
assertions_lettered (conversions q) w h = conversions_lettered q w h
assertions_lettered (asserted e q more) w h = let x = items_lettered q w h.1 in assertions_lettered more x.0 x.1
assertions_lettered (implied_items {r = r} e n q more) w h = let x = items_lettered q (implying_worded r w) h.1 in
    assertions_lettered more x.0 x.1
assertions_lettered (implied_references {r = r} e q n qs items more) w h =
    let x = ref_worded q First (implying r) (implying_worded r w) h.1 in
    let y = refs_worded qs x.0 x.1 in
    let z = items_lettered items y.0 y.1 in
    assertions_lettered more z.0 z.1

parts_lettered : {s : Bool} {r z : RawTrait} {i o : List Marked} → AreParts s r i o z → WordedTrait r → AllLettered i
    → WordedTrait z × AllLettered o
parts_lettered (assertions q) w h = assertions_lettered q w h
parts_lettered (introduced q more) w h = let x = decls_lettered q w h.1 in parts_lettered more x.0 x.1

body_lettered : {s : Bool} {r z : RawTrait} {i o : List Marked} → IsBody s r i o z → WordedTrait r → AllLettered i
    → WordedTrait z × AllLettered o
body_lettered (parts p) w h = parts_lettered p w h
body_lettered (a_shorthand {r = r} {h = short} q more) w h =
    let x = short_lettered q h in
    body_lettered more (w.0, w.1, w.2, w.3, All-push WordedShorthand r.shorthands short w.4 x.0, w.5, w.6, w.7, w.8) x.1
body_lettered (references {b = b} {r = r} word q qs more) w h =
    let x = ref_worded q b r w h.1 in
    let y = refs_worded qs x.0 x.1 in
    body_lettered more y.0 y.1

trait_lettered : {s : Bool} {i : List Marked} {z : RawTrait} → IsMarkedTrait s i z → AllLettered i → WordedTrait z
trait_lettered (trait_of_body q named body) h =
    let n = word_lettered q h in
    let f = has_formals_lettered named n.1 in
    (body_lettered body (
      n.0,
      All-nil WordedDecl,
      All-nil WordedItem,
      f.0,
      All-nil WordedShorthand,
      All-nil WordedReference,
      All-nil WordedTarget,
      All-nil WordedItem,
      All-nil WordedConversion,
    ) f.1.1.1).0

-- tokens

record Sealed (t : Terminal) : Type 0 where
  pub inside : Lettered t

choice : (b : Bool) (x y : Terminal) → Lettered x → Sealed y → Sealed (cond b x y)
choice true x y p q = record { inside = p }
choice false x y p q = q

other : (t : Terminal) → Lettered t → Sealed t
other t h = record { inside = h }

bracket_choice : (text : List ℕ) (pos : Pos) → Sealed (bracket_terminal text pos)
bracket_choice text pos =
    choice (bytes_eq text (codes "(")) (terminal.Open pos) _ tt
    (choice (bytes_eq text (codes ")")) (terminal.Close) _ tt
    (choice (bytes_eq text (codes "[")) (terminal.OpenBracket Square pos) _ tt
    (choice (bytes_eq text (codes "]")) (terminal.CloseBracket Square) _ tt
    (choice (bytes_eq text (codes "{")) (terminal.OpenBracket Curly pos) _ tt
    (choice (bytes_eq text (codes "}")) (terminal.CloseBracket Curly) _ tt
    (other terminal.Other tt))))))

punctuation_choice : (text : List ℕ) (pos : Pos) → Sealed (punctuation_terminal text pos)
punctuation_choice text pos =
    choice (bytes_eq text (codes ":")) (terminal.Colon pos) _ tt
    (choice (bytes_eq text (codes ",")) (terminal.Comma) _ tt
    (choice (bytes_eq text (codes ";")) (terminal.Semicolon) _ tt
    (choice (bytes_eq text (codes ".")) (terminal.Dot pos) _ tt
    (bracket_choice text pos))))

run_choice : (text : List ℕ) (pos : Pos) → Sealed (run_terminal text pos)
run_choice text pos =
    choice (bytes_eq text (codes "->")) (terminal.Arrow) _ tt
    (choice (bytes_eq text (codes "==")) (terminal.Equates pos) _ tt
    (choice (bytes_eq text (codes "=") || bytes_eq text (codes "~="))
    (terminal.Equality (record { name = text; pos = pos })) _ tt
    (choice (bytes_eq text (codes "~")) (terminal.Not (record { name = text; pos = pos })) _ tt
    (choice (bytes_eq text (codes "=>") || bytes_eq text (codes "<=>"))
    (terminal.Connective (record { name = text; pos = pos })) _ tt
    (other (terminal.Symbol (record { name = text; pos = pos })) tt)))))

backslash_choice : (text : List ℕ) (pos : Pos) → Sealed (terminal_by false kind.Backslash text pos)
backslash_choice text pos =
    choice (bytes_eq text (codes "\\forall")) (terminal.ForAll) _ tt
    (other (terminal.Symbol (record { name = text; pos = pos })) tt)

term_choice : (text : List ℕ) (pos : Pos) → IsTrue (is_word text) → Sealed (term_word text pos)
term_choice text pos w =
    choice (bytes_eq text (codes "if")) (terminal.If pos) _ tt
    (choice (bytes_eq text (codes "then")) (terminal.Then) _ tt
    (choice (bytes_eq text (codes "else")) (terminal.Else) _ tt
    (other (terminal.Word (record { name = text; pos = pos })) w)))

claim_choice : (g : Bool) (text : List ℕ) (pos : Pos) → IsTrue (is_word text) → Sealed (claim_word g text pos)
claim_choice g text pos w =
    choice (bytes_eq text (codes "implies")) (terminal.Implies g) _ tt
    (choice (bytes_eq text (codes "converts")) (terminal.Converts) _ tt
    (choice (bytes_eq text (codes "exempting")) (terminal.Exempting) _ tt
    (term_choice text pos w)))

head_choice : (g : Bool) (text : List ℕ) (pos : Pos) → IsTrue (is_word text) → Sealed (head_word g text pos)
head_choice g text pos w =
    choice (bytes_eq text (codes "includes")) (terminal.Includes) _ tt
    (choice (bytes_eq text (codes "assumes")) (terminal.Assumes) _ tt
    (choice (bytes_eq text (codes "for")) (terminal.For) _ tt
    (choice (bytes_eq text (codes "enumeration")) (terminal.Enumeration) _ tt
    (choice (bytes_eq text (codes "tuple")) (terminal.Tuple) _ tt
    (choice (bytes_eq text (codes "union")) (terminal.Union) _ tt
    (choice (bytes_eq text (codes "of")) (terminal.Of) _ tt
    (claim_choice g text pos w)))))))

word_choice : (g : Bool) (text : List ℕ) (pos : Pos) → IsTrue (is_word text) → Sealed (word_terminal g text pos)
word_choice g text pos w =
    choice (bytes_eq text (codes "trait")) (terminal.Trait) _ tt
    (choice (bytes_eq text (codes "introduces")) (terminal.Introduces) _ tt
    (choice (bytes_eq text (codes "asserts")) (terminal.Asserts) _ tt
    (choice (bytes_eq text (codes "generated")) (terminal.Generated) _ tt
    (choice (bytes_eq text (codes "partitioned")) (terminal.Partitioned) _ tt
    (choice (bytes_eq text (codes "by")) (terminal.By) _ tt
    (head_choice g text pos w))))))

lettered_by : (g : Bool) (k : Kind) (text : List ℕ) (pos : Pos) → (k ≡ kind.Word → IsTrue (is_word text))
    → Sealed (terminal_by g k text pos)
lettered_by g kind.Word text pos w = word_choice g text pos (w refl)
lettered_by g kind.Marker text pos w = other (terminal.Marker pos) tt
lettered_by g kind.Backslash text pos w = backslash_choice text pos
lettered_by g kind.Connective text pos w = other (terminal.Connective (record { name = text; pos = pos })) tt
lettered_by g kind.Run text pos w = run_choice text pos
lettered_by g kind.Punctuation text pos w = punctuation_choice text pos

token_lettered : (g : Bool) (t : Token) → IsWordToken t → Lettered (terminal_of g t)
token_lettered g t w = (lettered_by g t.kind t.text t.pos w).inside

tokens_lettered : (g : Bool) (ms : List (Token × Mark)) → AreWordTokens (tokens_of ms)
    → AllLettered (map (as_marked g) ms)
tokens_lettered g [] a = tt
tokens_lettered g (m ∷ ms) a =
    (token_lettered g m.0 (a 0 m.0 (omega arith)), tokens_lettered g ms (λ k d lt. a (suc k) d (omega arith)))

-- a token that is a word to the grammar is one
pub word_worded : (g : Bool) (t : Token) (w : RawWord) → IsWordToken t → terminal_of g t ≡ terminal.Word w → Worded w
word_worded g t w h e = subst Lettered e (token_lettered g t h)

-- the name of a reference, where it is a bare word, and its sorts
reference_lettered : {i o : List Marked} {r : RawOpRef} → IsOpRef i o r → AllLettered i
    → WordedForm r.form × WordedRef r
reference_lettered (by_form q) h = (form_worded q h, tt)
reference_lettered (by_signature q sig) h = (form_worded q h, (sig_lettered sig (form_left q h).1).0)

pub equation_worded : (tokens : List Token) (raw : RawEquation) → AreWordTokens tokens → Spells Equations tokens raw
    → WordedEquation raw
equation_worded tokens raw a s =
    (equation_lettered s.1 (tokens_lettered false s.0 (subst AreWordTokens (sym s.2) a))).0

pub reference_worded : (tokens : List Token) (raw : RawOpRef) → AreWordTokens tokens → Spells References tokens raw
    → WordedForm raw.form × WordedRef raw
reference_worded tokens raw a s =
    reference_lettered s.1 (tokens_lettered false s.0 (subst AreWordTokens (sym s.2) a))

pub trait_worded : (lists : Bool) (tokens : List Token) (raw : RawTrait) → AreWordTokens tokens
    → Spells (Traits lists) tokens raw → WordedTrait raw
trait_worded lists tokens raw a s = trait_lettered s.1 (tokens_lettered lists s.0 (subst AreWordTokens (sym s.2) a))
