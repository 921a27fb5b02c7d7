-- A step between equations, inside an item or a clause, can be taken back.
use Rattle.std.proofs.Common.{◌≡◌, ℕ, Bool, not, cond, IsTrue, Option, Some, None, List, [], ◌∷◌, refl, sym, ap, subst}
use Rattle.std.proofs.Common.{◌∙◌}
use Rattle.larch_grammar_law.specs.declared.mark.Mark.TheVariants.{Outside, Head}
use Rattle.larch_raw.specs.declared.equation.ClauseKind.{ClauseKind}
use Rattle.larch_raw.specs.declared.equation.ClauseKind.TheVariants as clause_kind
use Rattle.larch_raw.specs.declared.equation.RawItem.TheVariants as item
use Rattle.larch_raw.specs.declared.declared.RawOpRef.{RawOpRef}
use Rattle.larch_raw.specs.declared.declared.RawWord.{RawWord}
use Rattle.larch_raw.specs.declared.equation.RawEquation.{RawEquation}
use Rattle.larch_raw.specs.declared.equation.RawTrait.{RawTrait}
use Rattle.larch_raw.specs.declared.equation.RawVar.{RawVar}
use Rattle.larch_grammar.specs.declared.terminal.Terminal.{Terminal}
use Rattle.larch_grammar.specs.declared.terminal.Terminal.TheVariants.{Word, Comma, Semicolon, Open, ForAll, Asserts}
use Rattle.larch_grammar.specs.declared.terminal.Terminal.TheVariants.{Implies, Converts, Exempting, Generated}
use Rattle.larch_grammar.specs.declared.terminal.Terminal.TheVariants.{Partitioned, By}
use Rattle.larch_grammar.specs.declared.machine.Before.{Before}
use Rattle.larch_grammar.specs.declared.machine.Before.TheVariants as before
use Rattle.larch_grammar.specs.declared.machine.Clause.{Clause}
use Rattle.larch_grammar.specs.declared.machine.Naming.TheVariants.{Referred}
use Rattle.larch_grammar.specs.declared.machine.VariablesFor.{VariablesFor}
use Rattle.larch_grammar.specs.declared.machine.VariablesFor.TheVariants.{Quantified, Exempted}
use Rattle.larch_grammar.specs.declared.machine.State.TheVariants.{AfterImplies, AfterSemicolon, BehindFirst}
use Rattle.larch_grammar.specs.declared.machine.State.TheVariants.{ImpliedWord, NeedExempted, WordBehind, AfterWord}
use Rattle.larch_grammar.specs.declared.machine.Waiting.{Waiting}
use Rattle.larch_grammar.specs.declared.machine.Waiting.TheVariants.{Item}
use Rattle.larch_grammar.specs.declared.machine.Whole.{Whole}
use Rattle.larch_grammar.specs.Form.{Marked, without_mark, another_group, another_reference, no_group, no_reference}
use Rattle.larch_grammar.specs.Machine.{after_group, after_implies, after_operator_ref, after_semicolon, after_word}
use Rattle.larch_grammar.specs.Machine.{begin_equation, begin_exempted, begin_item, begin_part, begin_quantified}
use Rattle.larch_grammar.specs.Machine.{behind_first, clause_word, first_word, hand, implied_word, need_exempted}
use Rattle.larch_grammar.specs.Machine.{open_conversion, with_clause, word_behind, word_frames, open_item}
use Rattle.larch_grammar.specs.Terms.{call, equal, logic, opens, plain}
use Rattle.larch_grammar.specs.Traits.{IsClauseWord, a_clause, an_end, another_equation, begins_references, clause}
use Rattle.larch_grammar.specs.Traits.{clause_mark, ended, ends_references, exempted, generates, no_end, no_variables}
use Rattle.larch_grammar.specs.Traits.{partitions, some_variables, with_equations, without_variables}
use Rattle.larch_grammar.specs.Trees.{call_tree}
use Rattle.larch_grammar.proofs.Fits.{Fits, FitsBy, FitsEquation, FitsFirst, FitsFurther, FitsGroups, FitsImplied}
use Rattle.larch_grammar.proofs.Fits.{FitsIn, FitsItems, FitsNaming, FitsReferences, FitsScope, clause_terminal}
use Rattle.larch_grammar.proofs.BackTerms.{Back, equation_back, equation_of_term, exempted_back, hand_back, part_back}
use Rattle.larch_grammar.proofs.BackTerms.{passed, unless_back, word_back}
use Rattle.larch_grammar.proofs.Groups.{cond_group, others_group}
use Rattle.larch_grammar.specs.Leading.{behind_group, ends_behind}
use Rattle.larch_grammar.specs.Terminal.{ends_reference}
use Rattle.larch_grammar.specs.declared.machine.Frame.TheVariants.{InFields}
use Rattle.larch_raw.specs.RawTree.{RawTree}

-- an equation without variables, as the next item
pub item_of_equation : (s : Bool) (r : RawTrait) (i : List Marked) (z : Whole)
    → FitsEquation s (Item (open_item r [] [])) i z → FitsItems s before.Anything r i z
item_of_equation s r i z f = (f.3.4.0, f.3.4.1, f.3.4.2, without_variables f.2 f.3.3 f.3.4.3, f.3.4.4, f.3.4.5)

-- the first token of any item, or a part
pub item_back : (s : Bool) (r : RawTrait) (t : Terminal) → Back s (begin_item r t) t (FitsItems s before.Anything r)
item_back s r (Word w) = λ i z f. f
item_back s r ForAll = part_back s before.Anything r ForAll
item_back s r Asserts = part_back s before.Anything r Asserts
item_back s r (Implies lists) = part_back s before.Anything r (Implies lists)
item_back s r Converts = part_back s before.Anything r Converts
item_back s r t =
    passed s (begin_equation t (Item (open_item r [] []))) t (FitsEquation s (Item (open_item r [] [])))
    (FitsItems s before.Anything r) (λ m i z f. item_of_equation s r ((t, m) ∷ i) z f)
    (equation_back s (Item (open_item r [] [])) t)

-- a reference is read, and a token stands behind it
pub reference_back : (s : Bool) (c : Clause) (rs : List RawOpRef) (t : Terminal)
    → Back s (after_operator_ref c rs t) t (FitsReferences s c rs)
reference_back s c rs Comma = λ i z f. let r = f.3 i f.2 in
    (r.3.0, r.3.1, r.3.2, another_reference r.2 r.3.3, r.3.4, r.3.5)
reference_back s c rs Semicolon = λ i z f. (_, i, rs, no_reference, an_end, f)
reference_back s c rs t =
    passed s (begin_item (with_clause c rs) t) t (FitsItems s before.Anything (with_clause c rs))
    (FitsReferences s c rs) (λ m i z f. ((t, m) ∷ i, (t, m) ∷ i, rs, no_reference, no_end, f))
    (item_back s (with_clause c rs) t)

-- the word behind the sort of a clause, with the item
clause_begins : (kind : ClauseKind) → IsClauseWord (clause_terminal kind) kind
clause_begins clause_kind.Generated = generates
clause_begins clause_kind.Partitioned = partitions

-- `by` is read, whatever is counted at the sort
pub by_back : (s : Bool) (c : Clause) (i : List Marked) (z : Whole) → FitsNaming s (Referred c []) i z
    → FitsBy s c ((By, Outside) ∷ i) z
by_back s c i z f = λ m. let r = f.3 i f.2 in
    (r.3.1, item.Clause c.kind c.sort r.3.2, clause (clause_begins c.kind) r.2 r.3.3 r.3.4, r.3.5)

-- what fits behind the word of a clause
abbrev pub Clauses : Bool → Before → RawTrait → RawWord → List Marked → Whole → Type 0
Clauses s b r w i z = FitsItems s b r ((Word w, clause_mark b) ∷ i) z

-- the word that begins a clause is read
pub clause_back : (s : Bool) (b : Before) (r : RawTrait) (w : RawWord) (t : Terminal)
    → Back s (clause_word r w t) t (Clauses s b r w)
clause_back s b r w Generated = λ i z f. let c = f (clause_mark b) in
    (c.3.0, c.3.1, c.3.2, a_clause c.2 c.3.3, c.3.4, c.3.5)
clause_back s b r w Partitioned = λ i z f. let c = f (clause_mark b) in
    (c.3.0, c.3.1, c.3.2, a_clause c.2 c.3.3, c.3.4, c.3.5)
clause_back s b r w _ = tt

-- a Post in the frames of an equation that begins with a word
pub equation_of_post : (s : Bool) (w : RawWord) (n : Waiting) (i : List Marked) (z : Whole)
    → Fits s (AfterWord w (word_frames w n)) i z → FitsEquation s n ((Word w, Head) ∷ i) z
equation_of_post s w n i z f =
    equation_of_term s n ((Word w, Head) ∷ i) f.3.3.3.0 f.3.3.3.1 z
    (logic (equal (plain f.2 f.3.2) f.3.3.2) f.3.3.3.2) f.3.3.3.3

-- a word that begins an item of either kind is read
pub first_back : (s : Bool) (r : RawTrait) (w : RawWord) (t : Terminal)
    → Back s (first_word s r w t) t (Clauses s before.Anything r w)
first_back s r w Generated = clause_back s before.Anything r w Generated
first_back s r w Partitioned = clause_back s before.Anything r w Partitioned
first_back s r w t =
    passed s (after_word s w (word_frames w (Item (open_item r [] []))) t) t
    (Fits s (AfterWord w (word_frames w (Item (open_item r [] []))))) (Clauses s before.Anything r w)
    (λ m i z f. item_of_equation s r ((Word w, Head) ∷ (t, m) ∷ i) z
    (equation_of_post s w (Item (open_item r [] [])) ((t, m) ∷ i) z f))
    (word_back s w (word_frames w (Item (open_item r [] []))) t)

-- behind the `;` of these equations another equation may stand
pub ended_by_equation : (s : Bool) (r : RawTrait) (vs : List RawVar) (es : List RawEquation) (i : List Marked)
    (z : Whole) → FitsEquation s (Item (open_item r vs es)) i z → Fits s (AfterSemicolon (open_item r vs es)) i z
ended_by_equation s r vs es i z f = (f.3.0, f.3.1, f.3.2, another_equation f.2 f.3.3, f.3.4)

-- an item may stand there too
pub ended_by_item : (s : Bool) (r : RawTrait) (vs : List RawVar) (es : List RawEquation) (i : List Marked) (z : Whole)
    → FitsItems s before.Semicolon (with_equations r vs es) i z → Fits s (AfterSemicolon (open_item r vs es)) i z
ended_by_item s r vs es i z f = (i, es, before.Semicolon, ended, f)

-- the `;` of these equations is read
pub semicolon_back : (s : Bool) (r : RawTrait) (vs : List RawVar) (es : List RawEquation) (t : Terminal)
    → Back s (after_semicolon r vs es t) t (Fits s (AfterSemicolon (open_item r vs es)))
semicolon_back s r vs es (Word w) = λ i z f. f
semicolon_back s r vs es ForAll =
    passed s (begin_part (with_equations r vs es) ForAll) ForAll (FitsItems s before.Semicolon (with_equations r vs es))
    (Fits s (AfterSemicolon (open_item r vs es))) (λ m i z f. ended_by_item s r vs es ((ForAll, m) ∷ i) z f)
    (part_back s before.Semicolon (with_equations r vs es) ForAll)
semicolon_back s r vs es Asserts =
    passed s (begin_part (with_equations r vs es) Asserts) Asserts
    (FitsItems s before.Semicolon (with_equations r vs es)) (Fits s (AfterSemicolon (open_item r vs es)))
    (λ m i z f. ended_by_item s r vs es ((Asserts, m) ∷ i) z f)
    (part_back s before.Semicolon (with_equations r vs es) Asserts)
semicolon_back s r vs es (Implies lists) =
    passed s (begin_part (with_equations r vs es) (Implies lists)) (Implies lists)
    (FitsItems s before.Semicolon (with_equations r vs es)) (Fits s (AfterSemicolon (open_item r vs es)))
    (λ m i z f. ended_by_item s r vs es ((Implies lists, m) ∷ i) z f)
    (part_back s before.Semicolon (with_equations r vs es) (Implies lists))
semicolon_back s r vs es Converts =
    passed s (begin_part (with_equations r vs es) Converts) Converts
    (FitsItems s before.Semicolon (with_equations r vs es)) (Fits s (AfterSemicolon (open_item r vs es)))
    (λ m i z f. ended_by_item s r vs es ((Converts, m) ∷ i) z f)
    (part_back s before.Semicolon (with_equations r vs es) Converts)
semicolon_back s r vs es t =
    passed s (begin_equation t (Item (open_item r vs es))) t (FitsEquation s (Item (open_item r vs es)))
    (Fits s (AfterSemicolon (open_item r vs es))) (λ m i z f. ended_by_equation s r vs es ((t, m) ∷ i) z f)
    (equation_back s (Item (open_item r vs es)) t)

-- a clause of which the word is read
ended_clause : (s : Bool) (r : RawTrait) (vs : List RawVar) (es : List RawEquation) (w : RawWord) (i : List Marked)
    (z : Whole) → Clauses s before.Semicolon (with_equations r vs es) w i z
    → Fits s (WordBehind (open_item r vs es) w) i z
ended_clause s r vs es w i z f = ended_by_item s r vs es ((Word w, Head) ∷ i) z f

-- a word behind the `;` of these equations is read
pub word_behind_back : (s : Bool) (r : RawTrait) (vs : List RawVar) (es : List RawEquation) (w : RawWord) (t : Terminal)
    → Back s (word_behind s r vs es w t) t (Fits s (WordBehind (open_item r vs es) w))
word_behind_back s r vs es w Generated =
    passed s (clause_word (with_equations r vs es) w Generated) Generated
    (Clauses s before.Semicolon (with_equations r vs es) w) (Fits s (WordBehind (open_item r vs es) w))
    (λ m i z f. ended_clause s r vs es w ((Generated, m) ∷ i) z f)
    (clause_back s before.Semicolon (with_equations r vs es) w Generated)
word_behind_back s r vs es w Partitioned =
    passed s (clause_word (with_equations r vs es) w Partitioned) Partitioned
    (Clauses s before.Semicolon (with_equations r vs es) w) (Fits s (WordBehind (open_item r vs es) w))
    (λ m i z f. ended_clause s r vs es w ((Partitioned, m) ∷ i) z f)
    (clause_back s before.Semicolon (with_equations r vs es) w Partitioned)
word_behind_back s r vs es w t =
    passed s (after_word s w (word_frames w (Item (open_item r vs es))) t) t
    (Fits s (AfterWord w (word_frames w (Item (open_item r vs es))))) (Fits s (WordBehind (open_item r vs es) w))
    (λ m i z f. ended_by_equation s r vs es ((Word w, Head) ∷ (t, m) ∷ i) z
    (equation_of_post s w (Item (open_item r vs es)) ((t, m) ∷ i) z f))
    (word_back s w (word_frames w (Item (open_item r vs es))) t)

-- what variables are read for begins
quantified_back : (s : Bool) (r : VariablesFor) (vs : List RawVar) (t : Terminal)
    → Back s (begin_quantified r vs t) t (FitsScope s r vs)
quantified_back s (Quantified r) vs t = equation_back s (Item (open_item r vs [])) t
quantified_back s (Exempted r rs) vs t = exempted_back s (open_conversion r rs vs []) t

-- variables with their sorts are read
pub group_back : (s : Bool) (r : VariablesFor) (vs : List RawVar) (t : Terminal)
    → Back s (after_group r vs t) t (FitsGroups s r vs)
group_back s r vs Comma = λ i z f. (f.3.0, f.3.1, another_group f.2 f.3.2, f.3.3)
group_back s r vs t =
    passed s (begin_quantified r vs t) t (FitsScope s r vs) (FitsGroups s r vs)
    (λ m i z f. ((t, m) ∷ i, vs, no_group, f)) (quantified_back s r vs t)

-- `exempting` is read
pub need_exempted_back : (s : Bool) (r : RawTrait) (rs : List RawOpRef) (t : Terminal)
    → Back s (need_exempted r rs t) t (Fits s (NeedExempted r rs))
need_exempted_back s r rs ForAll =
    λ i z f. (f.3.3.3.0, f.3.1, f.3.3.3.1, exempted (some_variables f.2 f.3.2) f.3.3.2 f.3.3.3.2, f.3.3.3.3)
need_exempted_back s r rs t =
    passed s (begin_exempted (open_conversion r rs [] []) t) t (FitsFurther s (open_conversion r rs [] []))
    (Fits s (NeedExempted r rs)) (λ m i z f. (f.3.0, [], f.3.1, exempted no_variables f.2 f.3.2, f.3.3))
    (exempted_back s (open_conversion r rs [] []) t)

-- `implies` is read, behind which no references stand
pub implied_back : (s : Bool) (r : RawTrait) (t : Terminal) → Back s (after_implies r t) t (Fits s (AfterImplies r))
implied_back s r (Word w) = λ i z f. f
implied_back s r t =
    passed s (begin_item r t) t (FitsItems s before.Anything r) (Fits s (AfterImplies r)) (λ m i z f. (refl, f))
    (item_back s r t)

-- where no list of references ends behind its parenthesis, a word begins none
no_references : (i o : List Marked) → behind_group without_mark 0 i ≡ Some o → IsTrue (not (ends_references o))
    → IsTrue (not (ends_behind without_mark (behind_group without_mark 0 i)))
no_references i o e h = subst (λ x. IsTrue (not (ends_behind without_mark x))) (sym e) h

-- the same and a word are read
pub implied_word_back : (s : Bool) (r : RawTrait) (w : RawWord) (t : Terminal)
    → Back s (implied_word s r w t) t (Fits s (ImpliedWord r w))
implied_word_back s r w Generated =
    passed s (clause_word r w Generated) Generated (Clauses s before.Anything r w) (Fits s (ImpliedWord r w))
    (λ m i z f. (refl, f)) (clause_back s before.Anything r w Generated)
implied_word_back s r w Partitioned =
    passed s (clause_word r w Partitioned) Partitioned (Clauses s before.Anything r w) (Fits s (ImpliedWord r w))
    (λ m i z f. (refl, f)) (clause_back s before.Anything r w Partitioned)
implied_word_back s r w (Open p) = λ i z f. (
  no_references i f.3.0 (cond_group f.2 0 ∙ others_group f.3.2) f.3.3.0,
  item_of_equation s r ((Word w, Head) ∷ (Open p, opens 1) ∷ i) z
      (equation_of_post s w (Item (open_item r [] [])) ((Open p, opens 1) ∷ i) z
      (f.3.3.1.0, f.3.3.1.1, call f.2 f.3.2 f.3.3.1.2, f.3.3.1.3)),
)
implied_word_back s r w t =
    passed s (cond (ends_reference t) None (after_word s w (word_frames w (Item (open_item r [] []))) t)) t
    (λ i z. IsTrue (not (ends_reference t)) × Fits s (AfterWord w (word_frames w (Item (open_item r [] [])))) i z)
    (Fits s (ImpliedWord r w))
    (λ m i z f. (
      f.0,
      item_of_equation s r ((Word w, Head) ∷ (t, m) ∷ i) z
          (equation_of_post s w (Item (open_item r [] [])) ((t, m) ∷ i) z f.1),
    ))
    (unless_back s (ends_reference t) (after_word s w (word_frames w (Item (open_item r [] []))) t) t
    (Fits s (AfterWord w (word_frames w (Item (open_item r [] [])))))
    (word_back s w (word_frames w (Item (open_item r [] []))) t))

-- the same and its arguments are read
pub behind_first_back : (s : Bool) (r : RawTrait) (w : RawWord) (ts : List RawTree) (t : Terminal)
    → Back s (behind_first s r w ts t) t (Fits s (BehindFirst r w ts))
behind_first_back s r w ts t =
    unless_back s (ends_reference t) (hand s (call_tree w ts) (InFields ∷ word_frames w (Item (open_item r [] []))) t) t
    (FitsIn s (call_tree w ts) (InFields ∷ word_frames w (Item (open_item r [] []))))
    (hand_back s (call_tree w ts) (InFields ∷ word_frames w (Item (open_item r [] []))) t)
