-- A step inside an equation can be taken back.
use Rattle.std.proofs.Common.{◌≡◌, suc, Bool, true, false, not, cond, IsTrue, inl, inr, Option, Some, None, List, []}
use Rattle.std.proofs.Common.{◌∷◌, ◌++◌, refl, subst}
use Rattle.larch_base.specs.declared.position.Pos.{Pos}
use Rattle.larch_grammar_law.specs.Walks.{Taken}
use Rattle.larch_grammar_law.specs.declared.mark.Mark.{Mark}
use Rattle.larch_raw.specs.RawTree.{RawTree}
use Rattle.larch_raw.specs.declared.declared.RawWord.{RawWord}
use Rattle.larch_raw.specs.declared.equation.RawEquation.{RawEquation}
use Rattle.larch_raw.specs.declared.equation.RawTrait.{RawTrait}
use Rattle.larch_grammar.specs.declared.terminal.Bracket.{Bracket}
use Rattle.larch_grammar.specs.declared.terminal.Bracket.TheVariants.{Square, Curly}
use Rattle.larch_grammar.specs.declared.terminal.Terminal.{Terminal}
use Rattle.larch_grammar.specs.declared.terminal.Terminal.TheVariants.{Word, Symbol, Not, Connective, Equality, Equates}
use Rattle.larch_grammar.specs.declared.terminal.Terminal.TheVariants.{Colon, Comma, Semicolon, Dot, Open, Close}
use Rattle.larch_grammar.specs.declared.terminal.Terminal.TheVariants.{OpenBracket, CloseBracket, ForAll, Asserts}
use Rattle.larch_grammar.specs.declared.terminal.Terminal.TheVariants.{Implies, Converts, If, Then, Else}
use Rattle.larch_grammar.specs.declared.machine.Before.{Before}
use Rattle.larch_grammar.specs.declared.machine.Before.TheVariants as before
use Rattle.larch_grammar.specs.declared.machine.Frame.{Frame}
use Rattle.larch_grammar.specs.declared.machine.Frame.TheVariants.{InFields, InStrays, Prefixed, InPostfixes, InInfixes}
use Rattle.larch_grammar.specs.declared.machine.Frame.TheVariants.{InEqualities, InConnectives, InParentheses, InList}
use Rattle.larch_grammar.specs.declared.machine.Frame.TheVariants.{InIf, InThen, InElse, InLeft, InRight, InExempted}
use Rattle.larch_grammar.specs.declared.machine.Listing.{Listing}
use Rattle.larch_grammar.specs.declared.machine.Listing.TheVariants.{Call, First as call_first, Bracketed}
use Rattle.larch_grammar.specs.declared.machine.OpenConversion.{OpenConversion}
use Rattle.larch_grammar.specs.declared.machine.State.TheVariants.{AfterWord, NeedFirst, AfterSymbol, InItems}
use Rattle.larch_grammar.specs.declared.machine.Waiting.{Waiting}
use Rattle.larch_grammar.specs.declared.machine.Waiting.TheVariants.{Alone, Item}
use Rattle.larch_grammar.specs.declared.machine.Whole.{Whole}
use Rattle.larch_grammar.specs.Depth.{depth_of}
use Rattle.larch_grammar.specs.Form.{Marked}
use Rattle.larch_grammar.specs.Terminal.{position_of}
use Rattle.larch_grammar.specs.Machine.{Taking, after_symbol, after_word, begin_bracket, begin_claim, begin_conversion}
use Rattle.larch_grammar.specs.Machine.{begin_equation, begin_exempted, begin_operand, begin_part, begin_post}
use Rattle.larch_grammar.specs.Machine.{begin_prefixed, begin_term, behind_implies, close_conversion, hand}
use Rattle.larch_grammar.specs.Machine.{hand_equation, hand_exempted, hand_list, outside, with_exempted}
use Rattle.larch_grammar.specs.Terms.{Cond, a_not, a_symbol, another, another_infix, another_postfix, another_prefix}
use Rattle.larch_grammar.specs.Terms.{behind, between, bracket, bracketed, call, conditional, connective, equal}
use Rattle.larch_grammar.specs.Terms.{equality, equation_of, first_position, formula, formula_of, logic, no_connective}
use Rattle.larch_grammar.specs.Terms.{no_equality, no_field, no_infix, no_operand, no_other, no_postfix, no_stray}
use Rattle.larch_grammar.specs.Terms.{no_symbol, operand, operands, parentheses, plain, prefixed, stray, two_sides}
use Rattle.larch_grammar.specs.Terms.{word_alone}
use Rattle.larch_grammar.specs.Traits.{another_exempted, asserted, conversions, converted, for_all, implied_items}
use Rattle.larch_grammar.specs.Traits.{implied_references, implying, no_equation, no_exempted, no_item}
use Rattle.larch_grammar.specs.Traits.{nothing_exempted, with_equations}
use Rattle.larch_grammar.specs.Trees.{call_tree, if_tree, chain_tree, postfix_tree, prefix_tree}
use Rattle.larch_grammar.proofs.Fits.{Fits, FitsAssertions, FitsBehind, FitsConversions, FitsEquation, FitsEquations}
use Rattle.larch_grammar.proofs.Fits.{FitsExempted, FitsFurther, FitsIn, FitsItems, FitsOper, FitsOperand, FitsPost}
use Rattle.larch_grammar.proofs.Fits.{FitsTerm}

-- behind a step at this token, what fits is what this says
abbrev pub Back : Bool → Taking → Terminal → (List Marked → Whole → Type 0) → Type 0
Back s o t F = Taken o (λ m n. (i : List Marked) (z : Whole) → Fits s n i z → F ((t, m) ∷ i) z)

-- the same of what follows from it at this token
pub passed : (s : Bool) (o : Taking) (t : Terminal) (F G : List Marked → Whole → Type 0)
    → ((m : Mark) (i : List Marked) (z : Whole) → F ((t, m) ∷ i) z → G ((t, m) ∷ i) z) → Back s o t F → Back s o t G
passed s None t F G g h = tt
passed s (Some p) t F G g h = λ i z f. g p.0 i z (h i z f)

-- the first token of a Post
pub post_back : (s : Bool) (k : List Frame) (t : Terminal) → Back s (begin_post t k) t (FitsPost s k)
post_back s k (Word w) = λ i z f. f
post_back s k (Open p) =
    λ i z f. (f.3.2.0, f.3.2.1, parentheses (subst (λ o. Cond s (suc (depth_of k)) i o f.1) f.3.1 f.2) f.3.2.2, f.3.2.3)
post_back s k (OpenBracket b p) = λ i z f. (f.3.0, f.3.1, bracketed f.2 f.3.2, f.3.3)
post_back s k _ = tt

-- the first token behind a prefix symbol
pub operand_back : (s : Bool) (k : List Frame) (t : Terminal) → Back s (begin_prefixed t k) t (FitsOperand s k)
operand_back s k (Symbol x) = λ i z f. (f.0, prefix_tree x f.1, another_prefix a_symbol f.2, f.3)
operand_back s k (Not x) = λ i z f. (f.0, prefix_tree x f.1, another_prefix a_not f.2, f.3)
operand_back s k t =
    passed s (begin_post t (InStrays ∷ k)) t (FitsPost s (InStrays ∷ k)) (FitsOperand s k)
    (λ m i z f. (f.3.0, f.3.1, operand f.2 f.3.2, f.3.3)) (post_back s (InStrays ∷ k) t)

-- the first token of an Oper
pub oper_back : (s : Bool) (k : List Frame) (t : Terminal) → Back s (begin_operand t k) t (FitsOper s k)
oper_back s k (Symbol x) = λ i z f. (f.0, prefix_tree x f.1, prefixed a_symbol f.2, f.3)
oper_back s k (Not x) = λ i z f. (f.0, prefix_tree x f.1, prefixed a_not f.2, f.3)
oper_back s k t =
    passed s (begin_post t (InInfixes None ∷ k)) t (FitsPost s (InInfixes None ∷ k)) (FitsOper s k)
    (λ m i z f. (f.3.0, f.3.1, plain f.2 f.3.2, f.3.3)) (post_back s (InInfixes None ∷ k) t)

-- the frames of a term
abbrev chains : List Frame → List Frame
chains k = InEqualities None ∷ InConnectives None ∷ k

-- an Oper in the frames of a term
term_of_oper : (s : Bool) (k : List Frame) (i : List Marked) (z : Whole) → FitsOper s (chains k) i z → FitsTerm s k i z
term_of_oper s k i z f = (f.3.3.0, f.3.3.1, logic (equal f.2 f.3.2) f.3.3.2, f.3.3.3)

-- the first token of a term
pub term_back : (s : Bool) (k : List Frame) (t : Terminal) → Back s (begin_term t k) t (FitsTerm s k)
term_back s k (If p) =
    λ i z f. (
      f.3.3,
      if_tree p f.1 f.3.4 f.3.5,
      conditional (subst (λ o. Cond s (suc (depth_of k)) i o f.1) f.3.6 f.2)
          (subst (λ o. Cond s (suc (depth_of k)) f.3.0 o f.3.4) f.3.8 f.3.7) f.3.9,
      f.3.10,
    )
term_back s k t =
    passed s (begin_operand t (chains k)) t (FitsOper s (chains k)) (FitsTerm s k)
    (λ m i z f. term_of_oper s k ((t, m) ∷ i) z f) (oper_back s (chains k) t)

-- a term as the left side of an equation, which ends there or goes on with `==`
pub equation_of_term : (s : Bool) (w : Waiting) (i o : List Marked) (q : RawTree) (z : Whole) → Cond s 0 i o q
    → FitsIn s q (InLeft (first_position i) w ∷ []) o z → FitsEquation s w i z
equation_of_term s w i o q z c (inl f) = (o, _, formula c, f)
equation_of_term s w i o q z c (inr f) = (f.1, _, two_sides (subst (λ x. Cond s 0 i x q) f.4 c) f.5, f.6)

-- the first token of an equation
pub equation_back : (s : Bool) (w : Waiting) (t : Terminal) → Back s (begin_equation t w) t (FitsEquation s w)
equation_back s w t =
    passed s (begin_term t (InLeft (position_of t) w ∷ [])) t (FitsTerm s (InLeft (position_of t) w ∷ []))
    (FitsEquation s w) (λ m i z f. equation_of_term s w ((t, m) ∷ i) f.0 f.1 z f.2 f.3)
    (term_back s (InLeft (position_of t) w ∷ []) t)

-- a step that is taken unless this holds
pub unless_back : (s : Bool) (b : Bool) (o : Taking) (t : Terminal) (F : List Marked → Whole → Type 0) → Back s o t F
    → Back s (cond b None o) t (λ i z. IsTrue (not b) × F i z)
unless_back s true o t F h = tt
unless_back s false o t F h = passed s o t F (λ i z. IsTrue (not false) × F i z) (λ m i z f. (refl, f)) h

-- `asserts`, where nothing is implied
asserts_back : (s : Bool) (r : RawTrait) (b : Bool) → r.implies ≡ b
    → Back s (cond b None (outside (InItems r))) Asserts (FitsAssertions s r)
asserts_back s r true e = tt
asserts_back s r false e = λ i z f. (f.2, asserted e f.3 f.4, f.5)

-- `implies`, where nothing is implied
implies_back : (s lists : Bool) (r : RawTrait) (b : Bool) → r.implies ≡ b
    → Back s (cond b None (outside (behind_implies lists (implying r)))) (Implies lists) (FitsAssertions s r)
implies_back s lists r true e = tt
implies_back s false r false e = λ i z f. (f.1.2, implied_items e f.0 f.1.3 f.1.4, f.1.5)
implies_back s true r false e = λ i z f. (f.3.4.2, implied_references e f.2 f.3.3 f.3.2 f.3.4.3 f.3.4.4, f.3.4.5)

-- a further conversion
pub conversion_back : (s : Bool) (r : RawTrait) (t : Terminal) → Back s (begin_conversion r t) t (FitsConversions s r)
conversion_back s r Converts = λ i z f. let q = f.3 i f.2 in (q.3.7.0, converted q.2 q.3.5 q.3.6 q.3.7.1, q.3.7.2)
conversion_back s r _ = tt

-- a part behind the declarations
pub claim_back : (s : Bool) (r : RawTrait) (t : Terminal) → Back s (begin_claim r t) t (FitsAssertions s r)
claim_back s r Asserts = asserts_back s r r.implies refl
claim_back s r (Implies lists) = implies_back s lists r r.implies refl
claim_back s r Converts =
    passed s (begin_conversion r Converts) Converts (FitsConversions s r) (FitsAssertions s r)
    (λ m i z f. (f.0, conversions f.1, f.2)) (conversion_back s r Converts)
claim_back s r _ = tt

-- a term that is exempted is read, the last of these, and a token stands behind it
hand_exempted_back : (s : Bool) (c : OpenConversion) (t : Terminal) → Back s (hand_exempted c t) t (FitsExempted s c)
hand_exempted_back s c Comma = λ i z f. (f.3.0, f.3.1, another_exempted f.2 f.3.2, f.3.3)
hand_exempted_back s c t =
    passed s (begin_conversion (close_conversion c) t) t (FitsConversions s (close_conversion c)) (FitsExempted s c)
    (λ m i z f. ((t, m) ∷ i, c.exempted, no_exempted, f)) (conversion_back s (close_conversion c) t)

-- the first token of a term that is exempted
pub exempted_back : (s : Bool) (c : OpenConversion) (t : Terminal) → Back s (begin_exempted c t) t (FitsFurther s c)
exempted_back s c t =
    passed s (begin_term t (InExempted (position_of t) c ∷ [])) t (FitsTerm s (InExempted (position_of t) c ∷ []))
    (FitsFurther s c) (λ m i z f. (f.0, f.1, f.2, f.3)) (term_back s (InExempted (position_of t) c ∷ []) t)

-- a part, or an item that needs no `;` before it
pub part_back : (s : Bool) (b : Before) (r : RawTrait) (t : Terminal) → Back s (begin_part r t) t (FitsItems s b r)
part_back s b r ForAll =
    λ i z f. (
      f.3.3.3.4.0,
      f.3.3.3.4.1,
      f.3.3.3.4.2,
      for_all f.2 f.3.2 f.3.3.2 f.3.3.3.3 f.3.3.3.4.3,
      f.3.3.3.4.4,
      f.3.3.3.4.5,
    )
part_back s b r t =
    passed s (begin_claim r t) t (FitsAssertions s r) (FitsItems s b r)
    (λ m i z f. ((t, m) ∷ i, r, f.0, no_item, f.1, f.2)) (claim_back s r t)

-- an equation is read, and a token stands behind it
behind_back : (s : Bool) (e : RawEquation) (w : Waiting) (t : Terminal)
    → Back s (hand_equation e w t) t (FitsBehind s e w)
behind_back s e Alone t = tt
behind_back s e (Item j) Semicolon = λ i z f. f
behind_back s e (Item j) (Word w) = λ i z f. (_, j.equations ++ e ∷ [], before.Equations, no_equation, f)
behind_back s e (Item j) t =
    passed s (begin_part (with_equations j.raw j.variables (j.equations ++ e ∷ [])) t) t
    (FitsItems s before.Equations (with_equations j.raw j.variables (j.equations ++ e ∷ [])))
    (FitsEquations s j.raw j.variables (j.equations ++ e ∷ []))
    (λ m i z f. ((t, m) ∷ i, j.equations ++ e ∷ [], before.Equations, no_equation, f))
    (part_back s before.Equations (with_equations j.raw j.variables (j.equations ++ e ∷ [])) t)

-- a term of a list is read, and a token stands behind it
list_back : (s : Bool) (r : RawTree) (h : Listing) (ts : List RawTree) (k : List Frame) (t : Terminal)
    → Back s (hand_list r h ts k t) t (FitsIn s r (InList h ts ∷ k))
list_back s r h ts k Comma = λ i z f. (f.3.0, f.3.1, another f.2 f.3.2, f.3.3)
list_back s r (Call w) ts k Close = λ i z f. (i, ts ++ r ∷ [], no_other, f)
list_back s r (call_first raw w) ts k Close = λ i z f. (i, ts ++ r ∷ [], no_other, f)
list_back s r (Bracketed Square l p) ts k (CloseBracket Square) = λ i z f. (i, ts ++ r ∷ [], no_other, f)
list_back s r (Bracketed Curly l p) ts k (CloseBracket Curly) = λ i z f. (i, ts ++ r ∷ [], no_other, f)
list_back s r h ts k _ = tt

-- a term is read, and a token stands behind it
pub hand_back : (s : Bool) (r : RawTree) (k : List Frame) (t : Terminal) → Back s (hand s r k t) t (FitsIn s r k)
hand_back s r [] t = tt
hand_back s r (InFields ∷ k) (Dot p) = λ i z f. f
hand_back s r (InFields ∷ k) (Colon p) = λ i z f. f
hand_back s r (InFields ∷ k) (OpenBracket b p) = λ i z f. (f.3.0, f.3.1, bracket f.2 f.3.2, f.3.3)
hand_back s r (InFields ∷ k) t =
    passed s (hand s r k t) t (FitsIn s r k) (FitsIn s r (InFields ∷ k)) (λ m i z f. ((t, m) ∷ i, r, no_field, f))
    (hand_back s r k t)
hand_back true r (InStrays ∷ k) (Symbol x) = λ i z f. (f.0, f.1, stray {s = true} refl f.2, f.3)
hand_back false r (InStrays ∷ k) (Symbol x) = tt
hand_back s r (InStrays ∷ k) t =
    passed s (hand s r k t) t (FitsIn s r k) (FitsIn s r (InStrays ∷ k)) (λ m i z f. ((t, m) ∷ i, r, no_stray, f))
    (hand_back s r k t)
hand_back s r (Prefixed x ∷ k) t = hand_back s (prefix_tree x r) k t
hand_back s r (InPostfixes ∷ k) (Symbol x) = λ i z f. (f.0, f.1, another_postfix f.2, f.3)
hand_back s r (InPostfixes ∷ k) t =
    passed s (hand s r k t) t (FitsIn s r k) (FitsIn s r (InPostfixes ∷ k)) (λ m i z f. ((t, m) ∷ i, r, no_postfix, f))
    (hand_back s r k t)
hand_back s r (InInfixes None ∷ k) (Symbol x) = λ i z f. f
hand_back s r (InInfixes None ∷ k) t =
    passed s (hand s r k t) t (FitsIn s r k) (FitsIn s r (InInfixes None ∷ k))
    (λ m i z f. ((t, m) ∷ i, r, no_symbol, f)) (hand_back s r k t)
hand_back s r (InInfixes (Some l) ∷ k) (Symbol x) = λ i z f. (f.3.0, f.3.1, another_infix f.2 f.3.2, f.3.3)
hand_back s r (InInfixes (Some l) ∷ k) t =
    passed s (hand s (chain_tree (Some l) r) k t) t (FitsIn s (chain_tree (Some l) r) k)
    (FitsIn s r (InInfixes (Some l) ∷ k)) (λ m i z f. ((t, m) ∷ i, chain_tree (Some l) r, no_infix, f))
    (hand_back s (chain_tree (Some l) r) k t)
hand_back s r (InEqualities l ∷ k) (Equality x) = λ i z f. (f.3.0, f.3.1, equality f.2 f.3.2, f.3.3)
hand_back s r (InEqualities l ∷ k) t =
    passed s (hand s (chain_tree l r) k t) t (FitsIn s (chain_tree l r) k) (FitsIn s r (InEqualities l ∷ k))
    (λ m i z f. ((t, m) ∷ i, chain_tree l r, no_equality, f)) (hand_back s (chain_tree l r) k t)
hand_back s r (InConnectives l ∷ k) (Connective x) =
    λ i z f. (f.3.3.0, f.3.3.1, connective (equal f.2 f.3.2) f.3.3.2, f.3.3.3)
hand_back s r (InConnectives l ∷ k) t =
    passed s (hand s (chain_tree l r) k t) t (FitsIn s (chain_tree l r) k) (FitsIn s r (InConnectives l ∷ k))
    (λ m i z f. ((t, m) ∷ i, chain_tree l r, no_connective, f)) (hand_back s (chain_tree l r) k t)
hand_back s r (InParentheses ∷ k) Close = λ i z f. (i, refl, f)
hand_back s r (InParentheses ∷ k) t = tt
hand_back s r (InList h ts ∷ k) t = list_back s r h ts k t
hand_back s r (InIf p ∷ k) Then = λ i z f. (i, f.0, f.3.0, f.3.1, f.1, f.3.2, refl, f.2, f.3.3, f.3.4, f.3.5)
hand_back s r (InIf p ∷ k) t = tt
hand_back s r (InThen p a ∷ k) Else = λ i z f. (i, f.0, f.1, refl, f.2, f.3)
hand_back s r (InThen p a ∷ k) t = tt
hand_back s r (InElse p a b ∷ k) t = hand_back s (if_tree p a b r) k t
hand_back s r (InLeft p w ∷ k) (Equates q) = λ i z f. inr (i, f.0, q, f.1, refl, f.2, f.3)
hand_back s r (InLeft p w ∷ k) t =
    passed s (hand_equation (formula_of r p) w t) t (FitsBehind s (formula_of r p) w) (FitsIn s r (InLeft p w ∷ k))
    (λ m i z f. inl f) (behind_back s (formula_of r p) w t)
hand_back s r (InRight p l q w ∷ k) t = behind_back s (equation_of l q r p) w t
hand_back s r (InExempted p c ∷ k) t = hand_exempted_back s (with_exempted c (formula_of r p)) t

-- a word is read: its arguments begin, or it stands alone
pub word_back : (s : Bool) (w : RawWord) (k : List Frame) (t : Terminal)
    → Back s (after_word s w k t) t (Fits s (AfterWord w k))
word_back s w k (Open p) = λ i z f. (f.3.3.0, f.3.3.1, call f.2 f.3.2 f.3.3.2, f.3.3.3)
word_back s w k t =
    passed s (hand s (call_tree w []) (InFields ∷ k) t) t (FitsIn s (call_tree w []) (InFields ∷ k))
    (Fits s (AfterWord w k)) (λ m i z f. (f.0, f.1, word_alone f.2, f.3))
    (hand_back s (call_tree w []) (InFields ∷ k) t)

-- a bracket is open: it ends, or its first term begins
pub bracket_back : (s : Bool) (b : Bracket) (l : Option RawTree) (p : Pos) (k : List Frame) (t : Terminal)
    → Back s (begin_bracket b l p k t) t (Fits s (NeedFirst b l p k))
bracket_back s Square l p k (CloseBracket Square) = λ i z f. (i, _, no_operand, f)
bracket_back s Curly l p k (CloseBracket Curly) = λ i z f. (i, _, no_operand, f)
bracket_back s b l p k t =
    passed s (begin_term t (InList (Bracketed b l p) [] ∷ InFields ∷ k)) t
    (FitsTerm s (InList (Bracketed b l p) [] ∷ InFields ∷ k)) (Fits s (NeedFirst b l p k))
    (λ m i z f. (f.3.0, _, operands f.2 f.3.2, f.3.3)) (term_back s (InList (Bracketed b l p) [] ∷ InFields ∷ k) t)

-- the frames where the symbol is infix
abbrev infixed : RawWord → RawTree → List Frame → List Frame
infixed x r k = InInfixes (Some (record { symbol = x; left = r })) ∷ k

infix_back : (s : Bool) (x : RawWord) (r : RawTree) (k : List Frame) (i : List Marked) (z : Whole)
    → FitsPost s (infixed x r k) i z → Fits s (AfterSymbol x r k) i z
infix_back s x r k i z f = (f.3.0, f.3.1, between f.2 f.3.2, f.3.3)

-- a term and a symbol are read
pub symbol_back : (s : Bool) (x : RawWord) (r : RawTree) (k : List Frame) (t : Terminal)
    → Back s (after_symbol s x r k t) t (Fits s (AfterSymbol x r k))
symbol_back s x r k (Word w) =
    passed s (begin_post (Word w) (infixed x r k)) (Word w) (FitsPost s (infixed x r k)) (Fits s (AfterSymbol x r k))
    (λ m i z f. infix_back s x r k ((Word w, m) ∷ i) z f) (post_back s (infixed x r k) (Word w))
symbol_back s x r k (Open p) =
    passed s (begin_post (Open p) (infixed x r k)) (Open p) (FitsPost s (infixed x r k)) (Fits s (AfterSymbol x r k))
    (λ m i z f. infix_back s x r k ((Open p, m) ∷ i) z f) (post_back s (infixed x r k) (Open p))
symbol_back s x r k (OpenBracket b p) =
    passed s (begin_post (OpenBracket b p) (infixed x r k)) (OpenBracket b p) (FitsPost s (infixed x r k))
    (Fits s (AfterSymbol x r k)) (λ m i z f. infix_back s x r k ((OpenBracket b p, m) ∷ i) z f)
    (post_back s (infixed x r k) (OpenBracket b p))
symbol_back s x r k t =
    passed s (hand s (postfix_tree x r) (InPostfixes ∷ k) t) t (FitsIn s (postfix_tree x r) (InPostfixes ∷ k))
    (Fits s (AfterSymbol x r k)) (λ m i z f. (f.0, f.1, behind refl f.2, f.3))
    (hand_back s (postfix_tree x r) (InPostfixes ∷ k) t)
