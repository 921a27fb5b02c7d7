-- A step of the machine can be taken back.
use Rattle.std.proofs.Common.{Bool, List, [], ◌∷◌, refl, subst, ap, ◌∙◌}
use Rattle.larch_raw.specs.declared.declared.RawWord.{RawWord}
use Rattle.larch_grammar_law.specs.Walks.{Taken}
use Rattle.larch_grammar_law.specs.declared.mark.Mark.TheVariants.{Outside}
use Rattle.larch_grammar.specs.declared.terminal.Terminal.{Terminal}
use Rattle.larch_grammar.specs.declared.terminal.Terminal.TheVariants.{Word, Arrow, Colon, Comma, Marker, Open, Trait}
use Rattle.larch_grammar.specs.declared.terminal.Terminal.TheVariants.{By, Of}
use Rattle.larch_grammar.specs.declared.machine.Before.TheVariants as before
use Rattle.larch_grammar.specs.declared.machine.Signing.TheVariants.{Declaration, Reference, Replacement, LoneForm}
use Rattle.larch_grammar.specs.declared.machine.Signing.TheVariants.{Conversion}
use Rattle.larch_grammar.specs.declared.machine.State.{State}
use Rattle.larch_grammar.specs.declared.machine.State.TheVariants.{Start, AfterName, AfterFormals, NeedTrait, AfterHead}
use Rattle.larch_grammar.specs.declared.machine.State.TheVariants.{ShortWord, NeedConstants, NeedConstant}
use Rattle.larch_grammar.specs.declared.machine.State.TheVariants.{AfterConstant, NeedFields, NeedName, AfterNames}
use Rattle.larch_grammar.specs.declared.machine.State.TheVariants.{NeedFurtherName, NeedNamesSort, AfterField, NeedRef}
use Rattle.larch_grammar.specs.declared.machine.State.TheVariants.{AfterRefName, AfterTraitRef, AfterRename, InPart}
use Rattle.larch_grammar.specs.declared.machine.State.TheVariants.{NeedForm, AfterSymbolForm, AfterDotForm}
use Rattle.larch_grammar.specs.declared.machine.State.TheVariants.{AfterLeadingMarker, AfterMarkerSymbol}
use Rattle.larch_grammar.specs.declared.machine.State.TheVariants.{AfterFormBracket, AfterBracketMarker}
use Rattle.larch_grammar.specs.declared.machine.State.TheVariants.{NeedBracketMarker, AfterForm, NeedSig, AfterSort}
use Rattle.larch_grammar.specs.declared.machine.State.TheVariants.{NeedSort, NeedRange, AfterOperatorRef, AfterLone}
use Rattle.larch_grammar.specs.declared.machine.State.TheVariants.{InItems, FirstWord, AfterSemicolon, WordBehind}
use Rattle.larch_grammar.specs.declared.machine.State.TheVariants.{ClauseWord, NeedBy, NeedVariable, AfterVariable}
use Rattle.larch_grammar.specs.declared.machine.State.TheVariants.{NeedFurtherVariable, NeedVariableSort, AfterGroup}
use Rattle.larch_grammar.specs.declared.machine.State.TheVariants.{AfterImplies, ImpliedWord, BehindFirst}
use Rattle.larch_grammar.specs.declared.machine.State.TheVariants.{AfterConverted, NeedExempted, NeedFurtherExempted}
use Rattle.larch_grammar.specs.declared.machine.State.TheVariants.{NeedEquation, NeedTerm, NeedOperand, NeedPrefixed}
use Rattle.larch_grammar.specs.declared.machine.State.TheVariants.{NeedPost, NeedField, NeedSortOf, AfterWord}
use Rattle.larch_grammar.specs.declared.machine.State.TheVariants.{NeedFirst, AfterSymbol, Have}
use Rattle.larch_grammar.specs.declared.machine.Whole.{Whole}
use Rattle.larch_grammar.specs.Composition.{HasFormals, a_ref, fields_of_sort, formals, no_formal}
use Rattle.larch_grammar.specs.Form.{Marked, a_word, another_marker, another_word, group, no_word, signature, no_sort}
use Rattle.larch_grammar.specs.Form.{sorts}
use Rattle.larch_grammar.specs.Machine.{step}
use Rattle.larch_grammar.specs.Terms.{field, of_sort}
use Rattle.larch_grammar.specs.Traits.{trait_of_body}
use Rattle.larch_grammar.proofs.Fits.{Fits}
use Rattle.larch_grammar.proofs.BackForms.{constant_back, constants_back, converted_back, field_back, fields_back}
use Rattle.larch_grammar.proofs.BackForms.{form_back, form_read_back, head_back, mark_back, marker_back}
use Rattle.larch_grammar.proofs.BackForms.{marker_symbol_back, marks_back, part_of_decls_back, ref_back, ref_name_back}
use Rattle.larch_grammar.proofs.BackForms.{rename_back, short_word_back, symbol_form_back}
use Rattle.larch_grammar.proofs.BackItems.{behind_first_back, by_back, clause_back, first_back, group_back}
use Rattle.larch_grammar.proofs.BackItems.{implied_back, implied_word_back, item_back, need_exempted_back}
use Rattle.larch_grammar.proofs.BackItems.{reference_back, semicolon_back, word_behind_back}
use Rattle.larch_grammar.proofs.BackTerms.{bracket_back, equation_back, exempted_back, hand_back, oper_back}
use Rattle.larch_grammar.proofs.BackTerms.{operand_back, post_back, symbol_back, term_back, word_back}

-- the name of a trait is read
name_back : (s : Bool) (w : RawWord) (i : List Marked) (z : Whole) → Fits s (AfterName w) i z
    → Fits s Start ((Word w, Outside) ∷ i) z
name_back s w i z f =
    let t = f.3.3 in (
      t.2.0,
      trait_of_body a_word (subst (λ x. HasFormals i x f.1) (f.3.2 ∙ ap (λ x. (Colon f.3.1, Outside) ∷ x) t.1) f.2)
          t.2.1,
      t.2.2,
    )

-- a step can be taken back
pub step_back : (s : Bool) (n : State) (l : Terminal)
    → Taken (step s n l) (λ m k. (i : List Marked) (z : Whole) → Fits s k i z → Fits s n ((l, m) ∷ i) z)
step_back s Start (Word w) = name_back s w
step_back s (AfterName w) (Colon p) = λ i z f. ((Colon p, Outside) ∷ i, [], no_formal, (i, p, refl, f))
step_back s (AfterName w) (Open p) = λ i z f. (f.3.0, f.3.1, formals f.2 f.3.2, f.3.3)
step_back s (AfterFormals w fs) (Colon p) = λ i z f. (i, p, refl, f)
step_back s (NeedTrait w fs) Trait = λ i z f. (i, refl, f)
step_back s (AfterHead r) t = head_back s r t
step_back s (ShortWord r w) t = short_word_back s r w t
step_back s (NeedConstants r w) Of = constants_back s r w
step_back s (NeedConstant r sort ws) (Word w) = λ i z f. (i, w, a_word, f)
step_back s (AfterConstant r sort ws) t = constant_back s r sort ws t
step_back s (NeedFields r kind w) Of = fields_back s r kind w
step_back s (NeedName n) (Word w) = λ i z f. (f.1, _, fields_of_sort a_word f.5 f.6, f.7)
step_back s (AfterNames n ws) Comma = λ i z f. f
step_back s (AfterNames n ws) (Colon p) = λ i z f. (i, f.0, p, ws, f.1, no_word, f.2, f.3)
step_back s (NeedFurtherName n ws) (Word w) = λ i z f. (f.0, f.1, f.2, f.3, f.4, another_word a_word f.5, f.6, f.7)
step_back s (NeedNamesSort n ws) (Word sort) = λ i z f. (i, sort, a_word, f)
step_back s (AfterField n) t = field_back s n t
step_back s (NeedRef r b) (Word w) = λ i z f. (f.0, _, a_ref a_word f.2, f.3)
step_back s (AfterRefName r b w) t = ref_name_back s r b w t
step_back s (AfterTraitRef r b) t = ref_back s r b t
step_back s (AfterRename n) t = rename_back s n t
step_back s (InPart r) t = part_of_decls_back s r t
step_back s (NeedForm n) t = form_back s n t
step_back s (AfterSymbolForm n x) t = symbol_form_back s n x t
step_back s (AfterDotForm n p) (Word w) = λ i z f. (i, w, a_word, f)
step_back s (AfterLeadingMarker n p) t = marker_back s n p t
step_back s (AfterMarkerSymbol n p x) t = marker_symbol_back s n p x t
step_back s (AfterFormBracket c) t = marks_back s c t
step_back s (AfterBracketMarker c m) t = mark_back s c m t
step_back s (NeedBracketMarker c m) (Marker q) = λ i z f. (f.0, f.1, another_marker f.2, f.3)
step_back s (AfterForm n f) t = form_read_back s n f t
step_back s (NeedSig n) (Word w) = λ i z f. (f.1, _, signature (sorts a_word f.4) f.5, f.6)
step_back s (NeedSig n) Arrow = λ i z f. (f.0, _, signature no_sort f.2, f.3)
step_back s (AfterSort n ws) Comma = λ i z f. f
step_back s (AfterSort n ws) Arrow = λ i z f. (i, f.0, ws, f.1, no_word, f.2, f.3)
step_back s (NeedSort n ws) (Word w) = λ i z f. (f.0, f.1, f.2, f.3, another_word a_word f.4, f.5, f.6)
step_back s (NeedRange (Declaration r fs) ws) (Word w) = λ i z f. (i, w, a_word, f)
step_back s (NeedRange (Reference c rs g) ws) (Word w) = λ i z f. (i, w, a_word, f)
step_back s (NeedRange (Replacement n g h) ws) (Word w) = λ i z f. (i, w, a_word, f)
step_back s (NeedRange (LoneForm g) ws) (Word w) = λ i z f. (i, w, a_word, f)
step_back s (NeedRange (Conversion r rs g) ws) (Word w) = λ i z f. (i, w, a_word, f)
step_back s (AfterOperatorRef c rs) t = reference_back s c rs t
step_back s (InItems r) t = item_back s r t
step_back s (FirstWord r w) t = first_back s r w t
step_back s (AfterSemicolon j) t = semicolon_back s j.raw j.variables j.equations t
step_back s (WordBehind j w) t = word_behind_back s j.raw j.variables j.equations w t
step_back s (ClauseWord r w) t = clause_back s before.Equations r w t
step_back s (NeedBy c) By = by_back s c
step_back s (NeedVariable r vs) (Word w) = λ i z f. (f.1, _, group a_word f.5 f.6, f.7)
step_back s (AfterVariable r vs ws) Comma = λ i z f. f
step_back s (AfterVariable r vs ws) (Colon p) = λ i z f. (i, f.0, p, ws, f.1, no_word, f.2, f.3)
step_back s (NeedFurtherVariable r vs ws) (Word w) =
    λ i z f. (f.0, f.1, f.2, f.3, f.4, another_word a_word f.5, f.6, f.7)
step_back s (NeedVariableSort r vs ws) (Word sort) = λ i z f. (i, sort, a_word, f)
step_back s (AfterGroup r vs) t = group_back s r vs t
step_back s (AfterImplies r) t = implied_back s r t
step_back s (ImpliedWord r w) t = implied_word_back s r w t
step_back s (BehindFirst r w ts) t = behind_first_back s r w ts t
step_back s (AfterConverted r rs) t = converted_back s r rs t
step_back s (NeedExempted r rs) t = need_exempted_back s r rs t
step_back s (NeedFurtherExempted c) t = exempted_back s c t
step_back s (NeedEquation w) t = equation_back s w t
step_back s (NeedTerm k) t = term_back s k t
step_back s (NeedOperand k) t = oper_back s k t
step_back s (NeedPrefixed k) t = operand_back s k t
step_back s (NeedPost k) t = post_back s k t
step_back s (NeedField r p k) (Word w) = λ i z f. (f.0, f.1, field f.2, f.3)
step_back s (NeedSortOf r p k) (Word w) = λ i z f. (i, _, of_sort, f)
step_back s (AfterWord w k) t = word_back s w k t
step_back s (NeedFirst b l p k) t = bracket_back s b l p k t
step_back s (AfterSymbol x r k) t = symbol_back s x r k t
step_back s (Have r k) t = hand_back s r k t
step_back s _ _ = tt
