-- What the grammar of equations, items and traits allows the machine reads, from behind.
use Rattle.std.proofs.Common.{◌≡◌, Bool, true, false, not, cond, IsTrue, Option, Some, None, List, [], ◌∷◌, ◌++◌, map}
use Rattle.std.proofs.Common.{refl, sym, ap, subst, ◌∙◌}
use Rattle.larch_base.specs.declared.position.Pos.{Pos}
use Rattle.larch_lexer.specs.declared.token.Token.{Token}
use Rattle.larch_grammar_law.specs.Walks.{Accepts}
use Rattle.larch_grammar_law.specs.declared.mark.Mark.{Mark}
use Rattle.larch_grammar_law.specs.declared.mark.Mark.TheVariants.{Outside, Head}
use Rattle.larch_grammar_law.proofs.Walking.{none_some, some_equal}
use Rattle.larch_raw.specs.declared.equation.ClauseKind.TheVariants as clause_kind
use Rattle.larch_raw.specs.declared.declared.RawOpRef.{RawOpRef}
use Rattle.larch_raw.specs.declared.declared.RawWord.{RawWord}
use Rattle.larch_raw.specs.declared.equation.RawEquation.{RawEquation}
use Rattle.larch_raw.specs.declared.equation.RawItem.{RawItem}
use Rattle.larch_raw.specs.declared.equation.RawTrait.{RawTrait}
use Rattle.larch_raw.specs.declared.equation.RawVar.{RawVar}
use Rattle.larch_raw.specs.RawTree.{RawTree}
use Rattle.larch_grammar.specs.Composition.{assumes, includes}
use Rattle.larch_grammar.specs.Leading.{ends_behind}
use Rattle.larch_grammar.specs.Terminal.{ends_reference}
use Rattle.larch_grammar.specs.Form.{Marked, IsOpRef, a_word, without_mark}
use Rattle.larch_grammar.specs.Machine.{Taking, at_head, begin_claim, begin_conversion, begin_part, close_conversion}
use Rattle.larch_grammar.specs.Machine.{end_equation, final, hand_equation, hand_exempted, open_conversion, outside}
use Rattle.larch_grammar.specs.Machine.{step_at, with_clause, with_exempted, word_frames, open_item}
use Rattle.larch_grammar.specs.Terms.{Cond, conditional, logic, Connectives, Equalities, Fields, Symbols, equal}
use Rattle.larch_grammar.specs.Terms.{prefixed, plain, a_symbol, a_not, word_alone, call, parentheses, bracketed}
use Rattle.larch_grammar.specs.Terms.{no_operand, operands, IsEquation, formula, two_sides, first_position, formula_of}
use Rattle.larch_grammar.specs.Terms.{equation_of}
use Rattle.larch_grammar.specs.Trees.{call_tree}
use Rattle.larch_grammar.specs.Traits.{with_equations, with_item, clause_mark, generates, partitions, MayEnd, no_end}
use Rattle.larch_grammar.specs.Traits.{an_end, IsClause, clause, AreEquations, no_equation, ended, another_equation}
use Rattle.larch_grammar.specs.Traits.{AreItems, no_item, a_clause, for_all, without_variables, AreExempted}
use Rattle.larch_grammar.specs.Traits.{no_exempted, another_exempted, HasVariables, no_variables, some_variables}
use Rattle.larch_grammar.specs.Traits.{HasExempted, nothing_exempted, exempted, AreConversions, no_conversion}
use Rattle.larch_grammar.specs.Traits.{converted, with_conversion, implying, begins_references, ends_references}
use Rattle.larch_grammar.specs.Traits.{AreAssertions, conversions, asserted, implied_items, implied_references}
use Rattle.larch_grammar.specs.Traits.{AreDecls, no_declaration, another_declaration, AreParts, assertions, introduced}
use Rattle.larch_grammar.specs.Traits.{IsBody, parts, a_shorthand, references, IsMarkedTrait, trait_of_body, as_marked}
use Rattle.larch_grammar.specs.declared.terminal.Terminal.{Terminal}
use Rattle.larch_grammar.specs.declared.terminal.Terminal.TheVariants.{Word, Equates, Comma, Semicolon, ForAll}
use Rattle.larch_grammar.specs.declared.terminal.Terminal.TheVariants.{Introduces, Asserts, Implies, Converts}
use Rattle.larch_grammar.specs.declared.terminal.Terminal.TheVariants.{Exempting, Open, Generated, Partitioned, By}
use Rattle.larch_grammar.specs.declared.machine.Before.{Before}
use Rattle.larch_grammar.specs.declared.machine.Before.TheVariants.{Anything, Equations, Semicolon as semicolon}
use Rattle.larch_grammar.specs.declared.machine.Clause.{Clause}
use Rattle.larch_grammar.specs.declared.machine.Frame.TheVariants.{InFields, InInfixes, InEqualities, InConnectives}
use Rattle.larch_grammar.specs.declared.machine.Frame.TheVariants.{InList, InLeft, InRight, InExempted}
use Rattle.larch_grammar.specs.declared.machine.Listing.TheVariants.{First as call_first}
use Rattle.larch_grammar.specs.declared.machine.OpenConversion.{OpenConversion}
use Rattle.larch_grammar.specs.declared.machine.RefKind.TheVariants.{Included, Assumed, First}
use Rattle.larch_grammar.specs.declared.machine.VariablesFor.TheVariants.{Quantified, Exempted}
use Rattle.larch_grammar.specs.declared.machine.Naming.TheVariants.{Declared, Lone}
use Rattle.larch_grammar.specs.declared.machine.State.{State}
use Rattle.larch_grammar.specs.declared.machine.State.TheVariants.{Start, AfterHead, InPart, NeedForm, AfterOperatorRef}
use Rattle.larch_grammar.specs.declared.machine.State.TheVariants.{InItems, FirstWord, AfterSemicolon, WordBehind}
use Rattle.larch_grammar.specs.declared.machine.State.TheVariants.{ClauseWord, NeedVariable, AfterGroup, NeedEquation}
use Rattle.larch_grammar.specs.declared.machine.State.TheVariants.{NeedTerm, NeedRef, AfterWord, AfterImplies}
use Rattle.larch_grammar.specs.declared.machine.State.TheVariants.{ImpliedWord, BehindFirst, AfterConverted}
use Rattle.larch_grammar.specs.declared.machine.State.TheVariants.{NeedExempted, NeedFurtherExempted, Have}
use Rattle.larch_grammar.specs.declared.machine.Waiting.{Waiting}
use Rattle.larch_grammar.specs.declared.machine.Waiting.TheVariants.{Alone, Item}
use Rattle.larch_grammar.specs.declared.machine.Whole.{Whole}
use Rattle.larch_grammar.specs.declared.machine.Whole.TheVariants as whole
use Rattle.larch_grammar.proofs.CompleteForms.{AcceptsBy, AcceptsFrom, all_converted, decl_reads, group_reads}
use Rattle.larch_grammar.proofs.CompleteForms.{groups_read, reference_reads, references_read}
use Rattle.larch_grammar.proofs.CompleteHeads.{assumes_end, first_read, further_read, head_formals_read, includes_end}
use Rattle.larch_grammar.proofs.CompleteHeads.{ref_reads, short_reads}
use Rattle.larch_grammar.proofs.CompleteTerms.{TermEnds, cond_reads, connectives_read, equalities_read, fields_read}
use Rattle.larch_grammar.proofs.CompleteTerms.{in_connectives, in_equalities, in_list, never, others_read, symbols_read}
use Rattle.larch_grammar.proofs.Groups.{cond_group, group, others_group}

-- equations

in_left : (s : Bool) (q : Pos) (w : Waiting) → TermEnds s (InLeft q w ∷ [])
in_left s q Alone = (λ r p b. (refl, refl, refl, refl), λ r x. refl, λ r x. refl, λ r x. refl)
in_left s q (Item j) = (λ r p b. (refl, refl, refl, refl), λ r x. refl, λ r x. refl, λ r x. refl)

in_right : (s : Bool) (q : Pos) (l : RawTree) (e : Pos) (w : Waiting) → TermEnds s (InRight q l e w ∷ [])
in_right s q l e Alone = (λ r p b. (refl, refl, refl, refl), λ r x. refl, λ r x. refl, λ r x. refl)
in_right s q l e (Item j) = (λ r p b. (refl, refl, refl, refl), λ r x. refl, λ r x. refl, λ r x. refl)

-- what is read behind an equation
abbrev pub AcceptsBehind : Bool → RawEquation → Waiting → List Marked → Whole → Type 0
AcceptsBehind s e w o z = AcceptsBy s (hand_equation e w) (end_equation e w) o z

no_equates : (e : RawEquation) (w : Waiting) (p : Pos) → hand_equation e w (Equates p) ≡ None
no_equates e Alone p = refl
no_equates e (Item j) p = refl

behind_formula : (s : Bool) (o : List Marked) (l : RawTree) (p : Pos) (w : Waiting) (z : Whole)
    → AcceptsBehind s (formula_of l p) w o z → AcceptsFrom s (Have l (InLeft p w ∷ [])) o z
behind_formula s [] l p w z h = h
behind_formula s ((Equates q, m) ∷ o) l p w z h = absurd (none_some (sym (no_equates (formula_of l p) w q) ∙ h.1))
behind_formula s ((t, m) ∷ o) l p w z h = h

behind_right : (s : Bool) (o : List Marked) (r : RawTree) (p : Pos) (l : RawTree) (q : Pos) (w : Waiting) (z : Whole)
    → AcceptsBehind s (equation_of l q r p) w o z → AcceptsFrom s (Have r (InRight p l q w ∷ [])) o z
behind_right s [] r p l q w z h = h
behind_right s (m ∷ o) r p l q w z h = h

equation_first : (s : Bool) (i : List Marked) (w : Waiting) (z : Whole)
    → AcceptsFrom s (NeedTerm (InLeft (first_position i) w ∷ [])) i z → AcceptsFrom s (NeedEquation w) i z
equation_first s [] w z h = h
equation_first s (m ∷ i) w z h = h

-- an equation, where what stands behind it is read
pub equation_read : {s : Bool} {i o : List Marked} {e : RawEquation} → IsEquation s i o e → (w : Waiting) (z : Whole)
    → AcceptsBehind s e w o z → AcceptsFrom s (NeedEquation w) i z
equation_read (formula {s = s} {i = i} {o = o} {l = l} term) w z h =
    equation_first s i w z (cond_reads term (InLeft (first_position i) w ∷ []) z refl (in_left s (first_position i) w)
    (behind_formula s o l (first_position i) w z h))
equation_read (two_sides {s = s} {i = i} {o = o} {l = l} {r = r} {p = p} left right) w z h =
    equation_first s i w z (cond_reads left (InLeft (first_position i) w ∷ []) z refl (in_left s (first_position i) w) (
      _,
      refl,
      cond_reads right (InRight (first_position i) l p w ∷ []) z refl (in_right s (first_position i) l p w)
          (behind_right s o r (first_position i) l p w z h),
    ))

-- an equation by itself
pub equation_reads : (s : Bool) {i : List Marked} {raw : RawEquation} → IsEquation s i [] raw
    → AcceptsFrom s (NeedEquation Alone) i (whole.Equation raw)
equation_reads s {raw = raw} e = equation_read e Alone (whole.Equation raw) refl

-- a word that begins an equation begins an item too: no clause goes on where an equation does

first_word_read : (s : Bool) (i : List Marked) (raw : RawTrait) (w : RawWord) (z : Whole)
    → AcceptsFrom s (AfterWord w (word_frames w (Item (open_item raw [] [])))) i z → AcceptsFrom s (FirstWord raw w) i z
first_word_read s [] raw w z h = h
first_word_read s ((Generated, m) ∷ i) raw w z h = absurd (none_some h.1)
first_word_read s ((Partitioned, m) ∷ i) raw w z h = absurd (none_some h.1)
first_word_read s ((t, m) ∷ i) raw w z h = h

word_behind_read : (s : Bool) (i : List Marked) (raw : RawTrait) (vs : List RawVar) (es : List RawEquation)
    (w : RawWord) (z : Whole) → AcceptsFrom s (AfterWord w (word_frames w (Item (open_item raw vs es)))) i z
    → AcceptsFrom s (WordBehind (open_item raw vs es) w) i z
word_behind_read s [] raw vs es w z h = h
word_behind_read s ((Generated, m) ∷ i) raw vs es w z h = absurd (none_some h.1)
word_behind_read s ((Partitioned, m) ∷ i) raw vs es w z h = absurd (none_some h.1)
word_behind_read s ((t, m) ∷ i) raw vs es w z h = h

-- a step and what is read behind it, where another state stands in for the one behind it
instead : (s : Bool) (i : List Marked) (z : Whole) (a b : State) (m : Mark)
    → (AcceptsFrom s a i z → AcceptsFrom s b i z)
    → (after : State) × (at_head a ≡ Some (m, after)) × AcceptsFrom s after i z
    → (after : State) × (at_head b ≡ Some (m, after)) × AcceptsFrom s after i z
instead s i z a b m go h = (
  b,
  ap (λ x. Some (x.0, b)) (some_equal h.1),
  go (subst (λ n. AcceptsFrom s n i z) (sym (ap (λ x. x.1) (some_equal h.1))) h.2),
)

equation_begins : (s : Bool) (i : List Marked) (raw : RawTrait) (z : Whole)
    → AcceptsFrom s (NeedEquation (Item (open_item raw [] []))) i z → AcceptsFrom s (InItems raw) i z
equation_begins s [] raw z h = absurd (none_some h)
equation_begins s ((Word w, m) ∷ i) raw z h =
    instead s i z (AfterWord w (word_frames w (Item (open_item raw [] [])))) (FirstWord raw w) m
    (first_word_read s i raw w z) h
equation_begins s ((ForAll, m) ∷ i) raw z h = absurd (none_some h.1)
equation_begins s ((Asserts, m) ∷ i) raw z h = absurd (none_some h.1)
equation_begins s ((Implies lists, m) ∷ i) raw z h = absurd (none_some h.1)
equation_begins s ((Converts, m) ∷ i) raw z h = absurd (none_some h.1)
equation_begins s ((t, m) ∷ i) raw z h = h

equation_goes_on : (s : Bool) (i : List Marked) (raw : RawTrait) (vs : List RawVar) (es : List RawEquation) (z : Whole)
    → AcceptsFrom s (NeedEquation (Item (open_item raw vs es))) i z
    → AcceptsFrom s (AfterSemicolon (open_item raw vs es)) i z
equation_goes_on s [] raw vs es z h = absurd (none_some h)
equation_goes_on s ((Word w, m) ∷ i) raw vs es z h =
    instead s i z (AfterWord w (word_frames w (Item (open_item raw vs es)))) (WordBehind (open_item raw vs es) w) m
    (word_behind_read s i raw vs es w z) h
equation_goes_on s ((ForAll, m) ∷ i) raw vs es z h = absurd (none_some h.1)
equation_goes_on s ((Asserts, m) ∷ i) raw vs es z h = absurd (none_some h.1)
equation_goes_on s ((Implies lists, m) ∷ i) raw vs es z h = absurd (none_some h.1)
equation_goes_on s ((Converts, m) ∷ i) raw vs es z h = absurd (none_some h.1)
equation_goes_on s ((t, m) ∷ i) raw vs es z h = h

equation_of_group : (s : Bool) (i : List Marked) (raw : RawTrait) (vs : List RawVar) (z : Whole)
    → AcceptsFrom s (NeedEquation (Item (open_item raw vs []))) i z → AcceptsFrom s (AfterGroup (Quantified raw) vs) i z
equation_of_group s [] raw vs z h = h
equation_of_group s ((Comma, m) ∷ i) raw vs z h = absurd (none_some h.1)
equation_of_group s ((t, m) ∷ i) raw vs z h = h

-- items

-- the step behind an item of equations, where the word of a clause has this mark
abbrev behind_equations : Mark → RawTrait → Terminal → Taking
behind_equations m raw (Word w) = Some (m, ClauseWord raw w)
behind_equations m raw t = begin_part raw t

-- what is read of the items that follow in a part, by what stands before
abbrev AcceptsItems : Bool → Before → RawTrait → List Marked → Whole → Type 0
AcceptsItems s Anything raw i z = AcceptsFrom s (InItems raw) i z
AcceptsItems s Equations raw i z = AcceptsBy s (behind_equations Outside raw) (Some (whole.Trait raw)) i z
AcceptsItems s semicolon raw i z = AcceptsBy s (behind_equations Head raw) (Some (whole.Trait raw)) i z

-- the step behind the items of a part
abbrev behind_items : RawTrait → Terminal → Taking
behind_items raw t = begin_claim raw t

abbrev AcceptsPart : Bool → RawTrait → List Marked → Whole → Type 0
AcceptsPart s raw i z = AcceptsBy s (behind_items raw) (Some (whole.Trait raw)) i z

no_item_read : (s : Bool) (i : List Marked) (b : Before) (raw : RawTrait) (z : Whole) → AcceptsPart s raw i z
    → AcceptsItems s b raw i z
no_item_read s [] Anything raw z h = h
no_item_read s [] Equations raw z h = h
no_item_read s [] semicolon raw z h = h
no_item_read s ((Asserts, m) ∷ i) Anything raw z h = h
no_item_read s ((Implies lists, m) ∷ i) Anything raw z h = h
no_item_read s ((Converts, m) ∷ i) Anything raw z h = h
no_item_read s ((Asserts, m) ∷ i) Equations raw z h = h
no_item_read s ((Implies lists, m) ∷ i) Equations raw z h = h
no_item_read s ((Converts, m) ∷ i) Equations raw z h = h
no_item_read s ((Asserts, m) ∷ i) semicolon raw z h = h
no_item_read s ((Implies lists, m) ∷ i) semicolon raw z h = h
no_item_read s ((Converts, m) ∷ i) semicolon raw z h = h
no_item_read s ((t, m) ∷ i) b raw z h = absurd (none_some h.1)

items_after_reference : (s : Bool) (o : List Marked) (c : Clause) (rs : List RawOpRef) (z : Whole)
    → AcceptsFrom s (InItems (with_clause c rs)) o z → AcceptsFrom s (AfterOperatorRef c rs) o z
items_after_reference s [] c rs z h = h
items_after_reference s ((Comma, m) ∷ o) c rs z h = absurd (none_some h.1)
items_after_reference s ((Semicolon, m) ∷ o) c rs z h = absurd (none_some h.1)
items_after_reference s ((t, m) ∷ o) c rs z h = h

clause_ends : {i o : List Marked} → MayEnd i o → (s : Bool) (c : Clause) (rs : List RawOpRef) (z : Whole)
    → AcceptsFrom s (InItems (with_clause c rs)) o z → AcceptsFrom s (AfterOperatorRef c rs) i z
clause_ends (no_end {o = o}) s c rs z h = items_after_reference s o c rs z h
clause_ends an_end s c rs z h = (_, refl, h)

-- the word that begins a clause
clause_first : (s : Bool) (i : List Marked) (raw : RawTrait) (w : RawWord) (z : Whole)
    → AcceptsFrom s (ClauseWord raw w) i z → AcceptsFrom s (FirstWord raw w) i z
clause_first s [] raw w z h = absurd (none_some h)
clause_first s ((Generated, m) ∷ i) raw w z h = h
clause_first s ((Partitioned, m) ∷ i) raw w z h = h
clause_first s ((t, m) ∷ i) raw w z h = absurd (none_some h.1)

clause_behind : (s : Bool) (i : List Marked) (raw : RawTrait) (vs : List RawVar) (es : List RawEquation) (w : RawWord)
    (z : Whole) → AcceptsFrom s (ClauseWord (with_equations raw vs es) w) i z
    → AcceptsFrom s (WordBehind (open_item raw vs es) w) i z
clause_behind s [] raw vs es w z h = absurd (none_some h)
clause_behind s ((Generated, m) ∷ i) raw vs es w z h = h
clause_behind s ((Partitioned, m) ∷ i) raw vs es w z h = h
clause_behind s ((t, m) ∷ i) raw vs es w z h = absurd (none_some h.1)

clause_begins : (s : Bool) (i : List Marked) (b : Before) (raw : RawTrait) (w : RawWord) (m : Mark) (z : Whole)
    → m ≡ clause_mark b → AcceptsFrom s (ClauseWord raw w) i z → AcceptsItems s b raw ((Word w, m) ∷ i) z
clause_begins s i Anything raw w m z e h =
    (FirstWord raw w, ap (λ x. Some (x, FirstWord raw w)) (sym e), clause_first s i raw w z h)
clause_begins s i Equations raw w m z e h = (ClauseWord raw w, ap (λ x. Some (x, ClauseWord raw w)) (sym e), h)
clause_begins s i semicolon raw w m z e h = (ClauseWord raw w, ap (λ x. Some (x, ClauseWord raw w)) (sym e), h)

clause_reads : {m : Mark} {i o : List Marked} {c : RawItem} → IsClause m i o c
    → (s : Bool) (b : Before) (raw : RawTrait) (z : Whole) → m ≡ clause_mark b
    → AcceptsFrom s (InItems (with_item raw c)) o z → AcceptsItems s b raw i z
clause_reads (clause {m = m} {i = i} {sort = sort} {rs = rs} generates q more end) s b raw z e h =
    let c : Clause = record { raw = raw; kind = clause_kind.Generated; sort = sort } in
    clause_begins s ((Generated, Outside) ∷ (By, Outside) ∷ i) b raw sort m z e
    (_, refl, (_, refl, references_read q more s c z (clause_ends end s c rs z h)))
clause_reads (clause {m = m} {i = i} {sort = sort} {rs = rs} partitions q more end) s b raw z e h =
    let c : Clause = record { raw = raw; kind = clause_kind.Partitioned; sort = sort } in
    clause_begins s ((Partitioned, Outside) ∷ (By, Outside) ∷ i) b raw sort m z e
    (_, refl, (_, refl, references_read q more s c z (clause_ends end s c rs z h)))

-- behind the last equation of an item, and behind its `;`
behind_last : (s : Bool) (o : List Marked) (raw : RawTrait) (vs : List RawVar) (es : List RawEquation) (e : RawEquation)
    (z : Whole) → AcceptsItems s Equations (with_equations raw vs (es ++ e ∷ [])) o z
    → AcceptsBehind s e (Item (open_item raw vs es)) o z
behind_last s [] raw vs es e z h = h
behind_last s ((Word w, m) ∷ o) raw vs es e z h = h
behind_last s ((Semicolon, m) ∷ o) raw vs es e z h = absurd (none_some h.1)
behind_last s ((t, m) ∷ o) raw vs es e z h = h

behind_semicolon : (s : Bool) (o : List Marked) (raw : RawTrait) (vs : List RawVar) (es : List RawEquation) (z : Whole)
    → AcceptsItems s semicolon (with_equations raw vs es) o z → AcceptsFrom s (AfterSemicolon (open_item raw vs es)) o z
behind_semicolon s [] raw vs es z h = h
behind_semicolon s ((Word w, m) ∷ o) raw vs es z h =
    instead s o z (ClauseWord (with_equations raw vs es) w) (WordBehind (open_item raw vs es) w) m
    (clause_behind s o raw vs es w z) h
behind_semicolon s ((ForAll, m) ∷ o) raw vs es z h = h
behind_semicolon s ((Asserts, m) ∷ o) raw vs es z h = h
behind_semicolon s ((Implies lists, m) ∷ o) raw vs es z h = h
behind_semicolon s ((Converts, m) ∷ o) raw vs es z h = h
behind_semicolon s ((t, m) ∷ o) raw vs es z h = absurd (none_some h.1)

equations_read : {s : Bool} {ds fs : List RawEquation} {i o : List Marked} {b : Before} → AreEquations s ds i o fs b
    → (raw : RawTrait) (vs : List RawVar) (es : List RawEquation) (e : RawEquation) (z : Whole) → es ++ e ∷ [] ≡ ds
    → AcceptsItems s b (with_equations raw vs fs) o z → AcceptsBehind s e (Item (open_item raw vs es)) i z
equations_read (no_equation {s = s} {o = o}) raw vs es e z u h =
    behind_last s o raw vs es e z (subst (λ y. AcceptsItems s Equations (with_equations raw vs y) o z) (sym u) h)
equations_read (ended {s = s} {o = o}) raw vs es e z u h = (
  AfterSemicolon (open_item raw vs (es ++ e ∷ [])),
  refl,
  behind_semicolon s o raw vs (es ++ e ∷ []) z
      (subst (λ y. AcceptsItems s semicolon (with_equations raw vs y) o z) (sym u) h),
)
equations_read (another_equation {s = s} {e = a} {i = i} equation more) raw vs es e z u h = (
  AfterSemicolon (open_item raw vs (es ++ e ∷ [])),
  refl,
  equation_goes_on s i raw vs (es ++ e ∷ []) z (equation_read equation (Item (open_item raw vs (es ++ e ∷ []))) z
      (equations_read more raw vs (es ++ e ∷ []) a z (ap (λ y. y ++ a ∷ []) u) h)),
)

variables_begin : (s : Bool) (i : List Marked) (b : Before) (raw : RawTrait) (z : Whole)
    → AcceptsFrom s (NeedVariable (Quantified raw) []) i z → AcceptsItems s b raw ((ForAll, Outside) ∷ i) z
variables_begin s i Anything raw z h = (_, refl, h)
variables_begin s i Equations raw z h = (_, refl, h)
variables_begin s i semicolon raw z h = (_, refl, h)

items_read : {s : Bool} {b : Before} {r t : RawTrait} {i o : List Marked} → AreItems s b r i o t → (z : Whole)
    → AcceptsPart s t o z → AcceptsItems s b r i z
items_read (no_item {s = s} {b = b} {r = r} {o = o}) z h = no_item_read s o b r z h
items_read (a_clause {s = s} {b = b} {r = r} c more) z h = clause_reads c s b r z refl (items_read more z h)
items_read (for_all {s = s} {b = b} {r = r} {vs = vs} {e = e} {i = i} {k = k} g gs equation equations more) z h =
    variables_begin s i b r z (group_reads g s (Quantified r) [] z
    (groups_read gs s (Quantified r) z
    (equation_of_group s k r vs z (equation_read equation (Item (open_item r vs [])) z
    (equations_read equations r vs [] e z refl (items_read more z h))))))
items_read (without_variables {s = s} {r = r} {e = e} {i = i} equation equations more) z h =
    equation_begins s i r z (equation_read equation (Item (open_item r [] [])) z
    (equations_read equations r [] [] e z refl (items_read more z h)))

-- parts

-- conversions

in_exempted : (s : Bool) (q : Pos) (c : OpenConversion) → TermEnds s (InExempted q c ∷ [])
in_exempted s q c = (λ r p b. (refl, refl, refl, refl), λ r x. refl, λ r x. refl, λ r x. refl)

-- what is read behind a term that is exempted
abbrev AcceptsExempted : Bool → OpenConversion → List Marked → Whole → Type 0
AcceptsExempted s c i z = AcceptsBy s (hand_exempted c) (Some (whole.Trait (close_conversion c))) i z

-- what is read behind a conversion
abbrev AcceptsConversion : Bool → RawTrait → List Marked → Whole → Type 0
AcceptsConversion s r i z = AcceptsBy s (begin_conversion r) (Some (whole.Trait r)) i z

exempted_first : (s : Bool) (i : List Marked) (c : OpenConversion) (z : Whole)
    → AcceptsFrom s (NeedTerm (InExempted (first_position i) c ∷ [])) i z → AcceptsFrom s (NeedFurtherExempted c) i z
exempted_first s [] c z h = h
exempted_first s (m ∷ i) c z h = h

behind_exempted : (s : Bool) (o : List Marked) (l : RawTree) (p : Pos) (c : OpenConversion) (z : Whole)
    → AcceptsExempted s (with_exempted c (formula_of l p)) o z → AcceptsFrom s (Have l (InExempted p c ∷ [])) o z
behind_exempted s [] l p c z h = h
behind_exempted s (m ∷ o) l p c z h = h

term_exempted : {s : Bool} {i j : List Marked} {l : RawTree} → Cond s 0 i j l → (c : OpenConversion) (z : Whole)
    → AcceptsExempted s (with_exempted c (formula_of l (first_position i))) j z
    → AcceptsFrom s (NeedFurtherExempted c) i z
term_exempted {s = s} {i = i} {j = j} {l = l} term c z h =
    exempted_first s i c z (cond_reads term (InExempted (first_position i) c ∷ []) z refl
    (in_exempted s (first_position i) c) (behind_exempted s j l (first_position i) c z h))

exempted_end : (s : Bool) (o : List Marked) (c : OpenConversion) (z : Whole)
    → AcceptsConversion s (close_conversion c) o z → AcceptsExempted s c o z
exempted_end s [] c z h = h
exempted_end s ((Comma, m) ∷ o) c z h = absurd (none_some h.1)
exempted_end s ((t, m) ∷ o) c z h = h

exempteds_read : {s : Bool} {es fs : List RawEquation} {i o : List Marked} → AreExempted s es i o fs
    → (r : RawTrait) (rs : List RawOpRef) (vs : List RawVar) (z : Whole)
    → AcceptsConversion s (with_conversion r rs vs fs) o z → AcceptsExempted s (open_conversion r rs vs es) i z
exempteds_read (no_exempted {s = s} {es = es} {o = o}) r rs vs z h = exempted_end s o (open_conversion r rs vs es) z h
exempteds_read (another_exempted {es = es} term more) r rs vs z h =
    (_, refl, term_exempted term (open_conversion r rs vs es) z (exempteds_read more r rs vs z h))

exempted_begins : (s : Bool) (i : List Marked) (r : RawTrait) (rs : List RawOpRef) (z : Whole)
    → AcceptsFrom s (NeedFurtherExempted (open_conversion r rs [] [])) i z → AcceptsFrom s (NeedExempted r rs) i z
exempted_begins s [] r rs z h = absurd (none_some h)
exempted_begins s ((ForAll, m) ∷ i) r rs z h = absurd (none_some h.1)
exempted_begins s ((t, m) ∷ i) r rs z h = h

exempted_of_group : (s : Bool) (i : List Marked) (r : RawTrait) (rs : List RawOpRef) (vs : List RawVar) (z : Whole)
    → AcceptsFrom s (NeedFurtherExempted (open_conversion r rs vs [])) i z
    → AcceptsFrom s (AfterGroup (Exempted r rs) vs) i z
exempted_of_group s [] r rs vs z h = absurd (none_some h)
exempted_of_group s ((Comma, m) ∷ i) r rs vs z h = absurd (none_some h.1)
exempted_of_group s ((t, m) ∷ i) r rs vs z h = h

variables_read : {i o : List Marked} {vs : List RawVar} → HasVariables i o vs
    → (s : Bool) (r : RawTrait) (rs : List RawOpRef) (z : Whole)
    → AcceptsFrom s (NeedFurtherExempted (open_conversion r rs vs [])) o z → AcceptsFrom s (NeedExempted r rs) i z
variables_read (no_variables {o = o}) s r rs z h = exempted_begins s o r rs z h
variables_read (some_variables {vs = vs} {o = o} g gs) s r rs z h = (
  _,
  refl,
  group_reads g s (Exempted r rs) [] z
      (groups_read gs s (Exempted r rs) z (exempted_of_group s o r rs vs z h)),
)

converted_end : (s : Bool) (o : List Marked) (r : RawTrait) (rs : List RawOpRef) (z : Whole)
    → AcceptsConversion s (with_conversion r rs [] []) o z → AcceptsFrom s (AfterConverted r rs) o z
converted_end s [] r rs z h = h
converted_end s ((Comma, m) ∷ o) r rs z h = absurd (none_some h.1)
converted_end s ((Exempting, m) ∷ o) r rs z h = absurd (none_some h.1)
converted_end s ((t, m) ∷ o) r rs z h = h

exemptions_read : {s : Bool} {vs : List RawVar} {es : List RawEquation} {i o : List Marked} → HasExempted s i o vs es
    → (r : RawTrait) (rs : List RawOpRef) (z : Whole) → AcceptsConversion s (with_conversion r rs vs es) o z
    → AcceptsFrom s (AfterConverted r rs) i z
exemptions_read (nothing_exempted {s = s} {o = o}) r rs z h = converted_end s o r rs z h
exemptions_read (exempted {s = s} {vs = vs} variables term more) r rs z h = (
  _,
  refl,
  variables_read variables s r rs z
      (term_exempted term (open_conversion r rs vs []) z (exempteds_read more r rs vs z h)),
)

conversions_read : {s : Bool} {r t : RawTrait} {i : List Marked} → AreConversions s r i [] t → (z : Whole)
    → Some (whole.Trait t) ≡ Some z → AcceptsConversion s r i z
conversions_read no_conversion z h = h
conversions_read (converted {s = s} {r = r} {qs = qs} q more ex further) z h =
    (_, refl, all_converted q more s r z (exemptions_read ex r qs z (conversions_read further z h)))

conversions_begin : (s : Bool) (i : List Marked) (r : RawTrait) (z : Whole) → AcceptsConversion s r i z
    → AcceptsPart s r i z
conversions_begin s [] r z h = h
conversions_begin s ((Converts, m) ∷ i) r z h = h
conversions_begin s ((t, m) ∷ i) r z h = absurd (none_some h.1)

-- implied parts

-- unless this holds
unless_true : {A : Type 0} (b : Bool) (x y z : A) → IsTrue (not b) → y ≡ z → cond b x y ≡ z
unless_true true x y z h e = absurd (never h)
unless_true false x y z h e = e

-- behind the arguments of the word that begins an implied part
behind_arguments : (s : Bool) (o : List Marked) (r : RawTrait) (w : RawWord) (ts : List RawTree) (z : Whole)
    → IsTrue (not (ends_references o))
    → AcceptsFrom s (Have (call_tree w ts) (InFields ∷ word_frames w (Item (open_item r [] [])))) o z
    → AcceptsFrom s (BehindFirst r w ts) o z
behind_arguments s [] r w ts z n h = absurd (never n)
behind_arguments s ((t, m) ∷ o) r w ts z n h = (h.0, unless_true (ends_reference t) None _ _ n h.1, h.2)

-- behind that word where it has none
behind_first_word : (s : Bool) (i : List Marked) (r : RawTrait) (w : RawWord) (z : Whole)
    → IsTrue (not (begins_references ((Word w, Head) ∷ i)))
    → AcceptsFrom s (Have (call_tree w []) (InFields ∷ word_frames w (Item (open_item r [] [])))) i z
    → AcceptsFrom s (ImpliedWord r w) i z
behind_first_word s [] r w z n h = absurd (never n)
behind_first_word s ((Generated, m) ∷ i) r w z n h = absurd (none_some h.1)
behind_first_word s ((Partitioned, m) ∷ i) r w z n h = absurd (none_some h.1)
behind_first_word s ((Open p, m) ∷ i) r w z n h = absurd (none_some h.1)
behind_first_word s ((t, m) ∷ i) r w z n h = (h.0, unless_true (ends_reference t) None _ _ n h.1, h.2)

-- symbols, equalities and connectives behind the first Post of an equation
chains_read : {s : Bool} {l a b q : RawTree} {i j k o : List Marked} → Symbols s 0 l i j a → Equalities s 0 None a j k b
    → Connectives s 0 None b k o q → (p : Pos) (w : Waiting) (z : Whole)
    → AcceptsFrom s (Have q (InLeft p w ∷ [])) o z
    → AcceptsFrom s (Have l (InInfixes None ∷ InEqualities None ∷ InConnectives None ∷ InLeft p w ∷ [])) i z
chains_read {s = s} {a = a} {b = b} symbols equalities connectives p w z h =
    let f = in_left s p w in
    let g = in_connectives s None (InLeft p w ∷ []) f in
    symbols_read symbols (InEqualities None ∷ InConnectives None ∷ InLeft p w ∷ []) z refl
    (in_equalities s None (InConnectives None ∷ InLeft p w ∷ []) g)
    (equalities_read equalities (InConnectives None ∷ InLeft p w ∷ []) z refl g None a refl refl
    (connectives_read connectives (InLeft p w ∷ []) z refl f None b refl refl h))

-- fields too
post_rest : {s : Bool} {v l a b q : RawTree} {h i j k o : List Marked} → Fields s 0 v h i l → Symbols s 0 l i j a
    → Equalities s 0 None a j k b → Connectives s 0 None b k o q → (w : RawWord) (n : Waiting) (z : Whole)
    → AcceptsFrom s (Have q (InLeft w.pos n ∷ [])) o z → AcceptsFrom s (Have v (InFields ∷ word_frames w n)) h z
post_rest {s = s} {v = v} fields symbols equalities connectives w n z r =
    fields_read fields (word_frames w n) z refl (in_left s w.pos n).0 v refl
    (chains_read symbols equalities connectives w.pos n z r)

-- a term that begins an implied part
whole_term : {s : Bool} {i o : List Marked} {q : RawTree} → Cond s 0 i o q → (r : RawTrait) (z : Whole)
    → AcceptsFrom s (Have q (InLeft (first_position i) (Item (open_item r [] [])) ∷ [])) o z
    → AcceptsFrom s (NeedTerm (InLeft (first_position i) (Item (open_item r [] [])) ∷ [])) i z
whole_term {s = s} {i = i} c r z h =
    cond_reads c (InLeft (first_position i) (Item (open_item r [] [])) ∷ []) z refl
    (in_left s (first_position i) (Item (open_item r [] []))) h

-- behind its parenthesis no list of references ends
none_ends : (i o : List Marked) → group 0 i ≡ Some o → IsTrue (not (ends_behind without_mark (group 0 i)))
    → IsTrue (not (ends_references o))
none_ends i o e h = subst (λ x. IsTrue (not (ends_behind without_mark x))) e h

implied_term : {s : Bool} {i o : List Marked} {q : RawTree} → Cond s 0 i o q → (r : RawTrait) (z : Whole)
    → IsTrue (not (begins_references i))
    → AcceptsFrom s (Have q (InLeft (first_position i) (Item (open_item r [] [])) ∷ [])) o z
    → AcceptsFrom s (AfterImplies r) i z
implied_term (conditional a b c) r z n h = whole_term (conditional a b c) r z h
implied_term (logic (equal (prefixed a_symbol a) b) c) r z n h =
    whole_term (logic (equal (prefixed a_symbol a) b) c) r z h
implied_term (logic (equal (prefixed a_not a) b) c) r z n h = whole_term (logic (equal (prefixed a_not a) b) c) r z h
implied_term (logic (equal (plain (parentheses t f) a) b) c) r z n h =
    whole_term (logic (equal (plain (parentheses t f) a) b) c) r z h
implied_term (logic (equal (plain (bracketed no_operand f) a) b) c) r z n h =
    whole_term (logic (equal (plain (bracketed no_operand f) a) b) c) r z h
implied_term (logic (equal (plain (bracketed (operands x y) f) a) b) c) r z n h =
    whole_term (logic (equal (plain (bracketed (operands x y) f) a) b) c) r z h
implied_term (logic (equal (plain (word_alone {s = s} {w = w} {i = i} f) a) b) c) r z n h =
    (ImpliedWord r w, refl, behind_first_word s i r w z n (post_rest f a b c w (Item (open_item r [] [])) z h))
implied_term (logic (equal (plain (call {s = s} {w = w} {i = i} {m = m} {a = x} {ts = ts} t ts_ f) a) b) c) r z n h = (
  ImpliedWord r w,
  refl,
  (
    _,
    refl,
    cond_reads t (InList (call_first r w) [] ∷ []) z refl (in_list s (call_first r w) [] [])
        (others_read ts_ (call_first r w) [] z refl x [] refl refl
        (behind_arguments s m r w ts z (none_ends i m (cond_group t 0 ∙ others_group ts_) n)
        (post_rest f a b c w (Item (open_item r [] [])) z h))),
  ),
)

implied_equation : {s : Bool} {i o : List Marked} {e : RawEquation} → IsEquation s i o e → (r : RawTrait) (z : Whole)
    → IsTrue (not (begins_references i)) → AcceptsBehind s e (Item (open_item r [] [])) o z
    → AcceptsFrom s (AfterImplies r) i z
implied_equation (formula {s = s} {i = i} {o = o} {l = l} term) r z n h =
    implied_term term r z n (behind_formula s o l (first_position i) (Item (open_item r [] [])) z h)
implied_equation (two_sides {s = s} {i = i} {o = o} {l = l} {r = t} {p = p} left right) r z n h =
    implied_term left r z n (
      _,
      refl,
      cond_reads right (InRight (first_position i) l p (Item (open_item r [] [])) ∷ []) z refl
          (in_right s (first_position i) l p (Item (open_item r [] [])))
          (behind_right s o t (first_position i) l p (Item (open_item r [] [])) z h),
    )

implied_end : (s : Bool) (o : List Marked) (r : RawTrait) (z : Whole) → AcceptsPart s r o z
    → AcceptsFrom s (AfterImplies r) o z
implied_end s [] r z h = h
implied_end s ((Asserts, m) ∷ o) r z h = h
implied_end s ((Implies lists, m) ∷ o) r z h = h
implied_end s ((Converts, m) ∷ o) r z h = h
implied_end s ((t, m) ∷ o) r z h = absurd (none_some h.1)

implied_clause : {m : Mark} {i o : List Marked} {c : RawItem} → IsClause m i o c → (s : Bool) (r : RawTrait) (z : Whole)
    → AcceptsFrom s (InItems r) i z → AcceptsFrom s (AfterImplies r) i z
implied_clause (clause {m = m} {i = i} {sort = w} generates q more end) s r z h =
    instead s ((Generated, Outside) ∷ (By, Outside) ∷ i) z (FirstWord r w) (ImpliedWord r w) m (λ x. x) h
implied_clause (clause {m = m} {i = i} {sort = w} partitions q more end) s r z h =
    instead s ((Partitioned, Outside) ∷ (By, Outside) ∷ i) z (FirstWord r w) (ImpliedWord r w) m (λ x. x) h

-- the items of an implied part that begins with none or with no references
implied_read : {s : Bool} {r t : RawTrait} {i o : List Marked} → AreItems s Anything r i o t → (z : Whole)
    → IsTrue (not (begins_references i)) → AcceptsPart s t o z → AcceptsFrom s (AfterImplies r) i z
implied_read (no_item {s = s} {r = r} {o = o}) z n h = implied_end s o r z h
implied_read (a_clause {s = s} {r = r} c more) z n h =
    implied_clause c s r z (clause_reads c s Anything r z refl (items_read more z h))
implied_read (for_all {r = r} g gs equation equations more) z n h =
    items_read {b = Anything} {r = r} (for_all {b = Anything} {r = r} g gs equation equations more) z h
implied_read (without_variables {r = r} {e = e} equation equations more) z n h =
    implied_equation equation r z n (equations_read equations r [] [] e z refl (items_read more z h))

-- parts

assertions_read : {s : Bool} {r t : RawTrait} {i : List Marked} → AreAssertions s r i [] t → (z : Whole)
    → Some (whole.Trait t) ≡ Some z → AcceptsPart s r i z
assertions_read (conversions {s = s} {r = r} {i = i} c) z h = conversions_begin s i r z (conversions_read c z h)
assertions_read (asserted {r = r} e items more) z h =
    (_, ap (λ b. cond b None (outside (InItems r))) e, items_read items z (assertions_read more z h))
assertions_read (implied_items {r = r} e n items more) z h = (
  _,
  ap (λ b. cond b None (outside (AfterImplies (implying r)))) e,
  implied_read items z n (assertions_read more z h),
)
assertions_read (implied_references {s = s} {r = r} e q n qs items more) z h = (
  _,
  ap (λ b. cond b None (outside (NeedRef (implying r) First))) e,
  ref_reads q s (implying r) First z (first_read qs s z n (items_read items z (assertions_read more z h))),
)

declaration_begins : (s : Bool) (i : List Marked) (raw : RawTrait) (z : Whole)
    → AcceptsFrom s (NeedForm (Declared raw [])) i z → AcceptsFrom s (InPart raw) i z
declaration_begins s [] raw z h = absurd (none_some h)
declaration_begins s ((Introduces, m) ∷ i) raw z h = absurd (none_some h.1)
declaration_begins s ((Asserts, m) ∷ i) raw z h = absurd (none_some h.1)
declaration_begins s ((Implies lists, m) ∷ i) raw z h = absurd (none_some h.1)
declaration_begins s ((Converts, m) ∷ i) raw z h = absurd (none_some h.1)
declaration_begins s ((t, m) ∷ i) raw z h = h

decls_read : {r t : RawTrait} {i o : List Marked} → AreDecls r i o t → (s : Bool) (z : Whole)
    → AcceptsFrom s (InPart t) o z → AcceptsFrom s (InPart r) i z
decls_read no_declaration s z h = h
decls_read (another_declaration {r = r} {i = i} d more) s z h =
    declaration_begins s i r z (decl_reads d s r z (decls_read more s z h))

part_behind : (s : Bool) (i : List Marked) (raw : RawTrait) (z : Whole) → AcceptsPart s raw i z
    → AcceptsFrom s (InPart raw) i z
part_behind s [] raw z h = h
part_behind s ((Asserts, m) ∷ i) raw z h = h
part_behind s ((Implies lists, m) ∷ i) raw z h = h
part_behind s ((Converts, m) ∷ i) raw z h = h
part_behind s ((t, m) ∷ i) raw z h = absurd (none_some h.1)

part_first : (s : Bool) (i : List Marked) (raw : RawTrait) (z : Whole) → AcceptsPart s raw i z
    → AcceptsFrom s (AfterHead raw) i z
part_first s [] raw z h = h
part_first s ((Asserts, m) ∷ i) raw z h = h
part_first s ((Implies lists, m) ∷ i) raw z h = h
part_first s ((Converts, m) ∷ i) raw z h = h
part_first s ((t, m) ∷ i) raw z h = absurd (none_some h.1)

parts_read : {s : Bool} {r t : RawTrait} {i : List Marked} → AreParts s r i [] t → (z : Whole)
    → Some (whole.Trait t) ≡ Some z → AcceptsFrom s (InPart r) i z
parts_read (assertions {s = s} {r = r} {i = i} a) z h = part_behind s i r z (assertions_read a z h)
parts_read (introduced {s = s} decls more) z h = (_, refl, decls_read decls s z (parts_read more z h))

head_reads : {s : Bool} {r t : RawTrait} {i : List Marked} → AreParts s r i [] t → (z : Whole)
    → Some (whole.Trait t) ≡ Some z → AcceptsFrom s (AfterHead r) i z
head_reads (assertions {s = s} {r = r} {i = i} a) z h = part_first s i r z (assertions_read a z h)
head_reads (introduced {s = s} decls more) z h = (_, refl, decls_read decls s z (parts_read more z h))

-- shorthands and references, and the parts behind them
body_reads : {s : Bool} {r t : RawTrait} {i : List Marked} → IsBody s r i [] t → (z : Whole)
    → Some (whole.Trait t) ≡ Some z → AcceptsFrom s (AfterHead r) i z
body_reads (parts p) z h = head_reads p z h
body_reads (a_shorthand {s = s} {r = r} q more) z h = short_reads q s r z (body_reads more z h)
body_reads (references {s = s} {r = r} {y = y} {k = k} includes q qs more) z h =
    (_, refl, ref_reads q s r Included z (further_read qs s z refl (includes_end s k y z (body_reads more z h))))
body_reads (references {s = s} {r = r} {y = y} {k = k} assumes q qs more) z h =
    (_, refl, ref_reads q s r Assumed z (further_read qs s z refl (assumes_end s k y z (body_reads more z h))))

-- a trait
pub trait_reads : (s : Bool) {i : List Marked} {raw : RawTrait} → IsMarkedTrait s i raw
    → AcceptsFrom s Start i (whole.Trait raw)
trait_reads s (trait_of_body {w = w} {z = z} a_word named body) =
    (_, refl, head_formals_read named s w (whole.Trait z) (_, refl, (_, refl, body_reads body (whole.Trait z) refl)))

-- the same of the tokens of a text, where references follow `implies` or not
tokens_read : (g s : Bool) (ms : List (Token × Mark)) (n : State) (z : Whole) → AcceptsFrom s n (map (as_marked g) ms) z
    → Accepts (step_at g s) final n ms z
tokens_read g s [] n z r = r
tokens_read g s (m ∷ ms) n z r = (r.0, r.1, tokens_read g s ms r.0 z r.2)

pub complete_trait : (g s : Bool) (ms : List (Token × Mark)) (raw : RawTrait)
    → IsMarkedTrait s (map (as_marked g) ms) raw → Accepts (step_at g s) final Start ms (whole.Trait raw)
complete_trait g s ms raw t = tokens_read g s ms Start (whole.Trait raw) (trait_reads s t)

pub complete_equation : (s : Bool) (ms : List (Token × Mark)) (raw : RawEquation)
    → IsEquation s (map (as_marked false) ms) [] raw
    → Accepts (step_at false s) final (NeedEquation Alone) ms (whole.Equation raw)
complete_equation s ms raw e = tokens_read false s ms (NeedEquation Alone) (whole.Equation raw) (equation_reads s e)

pub complete_reference : (s : Bool) (ms : List (Token × Mark)) (raw : RawOpRef)
    → IsOpRef (map (as_marked false) ms) [] raw
    → Accepts (step_at false s) final (NeedForm Lone) ms (whole.Reference raw)
complete_reference s ms raw q = tokens_read false s ms (NeedForm Lone) (whole.Reference raw) (reference_reads q s)
