-- What the grammar of terms allows the machine reads, from behind.
use Rattle.std.proofs.Common.{◌≡◌, ℕ, suc, Bool, true, false, IsTrue, Option, Some, None, cond, List, [], ◌∷◌, ◌++◌}
use Rattle.std.proofs.Common.{refl, sym, ap, subst, ◌∙◌}
use Rattle.larch_base.specs.declared.position.Pos.{Pos}
use Rattle.larch_grammar_law.specs.declared.mark.Mark.TheVariants.{Chained}
use Rattle.larch_grammar_law.proofs.Walking.{none_some}
use Rattle.larch_raw.specs.declared.declared.RawWord.{RawWord}
use Rattle.larch_raw.specs.RawTree.{RawTree, qualified}
use Rattle.larch_grammar.specs.Depth.{depth_of}
use Rattle.larch_grammar.specs.Form.{Marked}
use Rattle.larch_grammar.specs.Machine.{Taking, begin_bracket, hand, hand_list, plainly, step, symbol_of}
use Rattle.larch_grammar.specs.Terms.{opens, opens_head, chain_link, NoPost, a_symbol, a_not, Cond, conditional, logic}
use Rattle.larch_grammar.specs.Terms.{Connectives, no_connective, connective, Equal, equal, Equalities, no_equality}
use Rattle.larch_grammar.specs.Terms.{equality, Oper, prefixed, plain, Operand, another_prefix, operand, Symbols}
use Rattle.larch_grammar.specs.Terms.{no_symbol, behind, between, Infixes, no_infix, another_infix, Postfixes}
use Rattle.larch_grammar.specs.Terms.{no_postfix, another_postfix, Strays, no_stray, stray, Post, word_alone, call}
use Rattle.larch_grammar.specs.Terms.{parentheses, bracketed, Fields, no_field, of_sort, field, bracket, InBracket}
use Rattle.larch_grammar.specs.Terms.{no_operand, operands, Others, no_other, another}
use Rattle.larch_grammar.specs.Trees.{bracket_tree, call_tree, field_tree, if_tree, infix_tree, chain_tree}
use Rattle.larch_grammar.specs.Trees.{listing_tree, postfix_tree, prefix_tree}
use Rattle.larch_grammar.specs.declared.terminal.Bracket.{Bracket}
use Rattle.larch_grammar.specs.declared.terminal.Bracket.TheVariants.{Square, Curly}
use Rattle.larch_grammar.specs.declared.terminal.Terminal.{Terminal}
use Rattle.larch_grammar.specs.declared.terminal.Terminal.TheVariants.{Word, Symbol, Not, Connective, Equality, Colon}
use Rattle.larch_grammar.specs.declared.terminal.Terminal.TheVariants.{Dot, Open, Close, OpenBracket, CloseBracket, If}
use Rattle.larch_grammar.specs.declared.machine.Frame.{Frame}
use Rattle.larch_grammar.specs.declared.machine.Frame.TheVariants.{InFields, InStrays, Prefixed, InPostfixes, InInfixes}
use Rattle.larch_grammar.specs.declared.machine.Frame.TheVariants.{InEqualities, InConnectives, InParentheses, InList}
use Rattle.larch_grammar.specs.declared.machine.Frame.TheVariants.{InIf, InThen, InElse}
use Rattle.larch_grammar.specs.declared.machine.Link.{Link}
use Rattle.larch_grammar.specs.declared.machine.Listing.{Listing}
use Rattle.larch_grammar.specs.declared.machine.Listing.TheVariants.{Call, First as call_first, Bracketed}
use Rattle.larch_grammar.specs.declared.machine.State.{State}
use Rattle.larch_grammar.specs.declared.machine.State.TheVariants.{NeedTerm, NeedOperand, NeedPrefixed, NeedPost}
use Rattle.larch_grammar.specs.declared.machine.State.TheVariants.{AfterWord, NeedFirst, AfterSymbol, BehindFirst, Have}
use Rattle.larch_grammar.specs.declared.machine.Whole.{Whole}
use Rattle.larch_grammar.proofs.CompleteForms.{AcceptsFrom}

-- what these frames don't take behind a tree: the tokens that go on with a Post, symbols, equalities, connectives

abbrev pub NoField : Bool → List Frame → Type 0
NoField s k =
    (r : RawTree) (p : Pos) (b : Bracket)
    → (hand s r k (Dot p) ≡ None) × (hand s r k (Colon p) ≡ None) × (hand s r k (Open p) ≡ None)
    × (hand s r k (OpenBracket b p) ≡ None)

abbrev pub NoSymbol : Bool → List Frame → Type 0
NoSymbol s k = (r : RawTree) (x : RawWord) → hand s r k (Symbol x) ≡ None

abbrev pub NoEquality : Bool → List Frame → Type 0
NoEquality s k = (r : RawTree) (x : RawWord) → hand s r k (Equality x) ≡ None

abbrev pub NoConnective : Bool → List Frame → Type 0
NoConnective s k = (r : RawTree) (x : RawWord) → hand s r k (Connective x) ≡ None

-- where an Oper ends, an Equal, and a Cond
abbrev pub OperEnds : Bool → List Frame → Type 0
OperEnds s k = NoField s k × NoSymbol s k

abbrev pub EqualEnds : Bool → List Frame → Type 0
EqualEnds s k = NoField s k × NoSymbol s k × NoEquality s k

abbrev pub TermEnds : Bool → List Frame → Type 0
TermEnds s k = NoField s k × NoSymbol s k × NoEquality s k × NoConnective s k

in_parentheses : (s : Bool) (k : List Frame) → TermEnds s (InParentheses ∷ k)
in_parentheses s k = (λ r p b. (refl, refl, refl, refl), λ r x. refl, λ r x. refl, λ r x. refl)

pub in_list : (s : Bool) (h : Listing) (ts : List RawTree) (k : List Frame) → TermEnds s (InList h ts ∷ k)
in_list s (call_first raw w) ts k = (λ r p b. (refl, refl, refl, refl), λ r x. refl, λ r x. refl, λ r x. refl)
in_list s (Call w) ts k = (λ r p b. (refl, refl, refl, refl), λ r x. refl, λ r x. refl, λ r x. refl)
in_list s (Bracketed Square l q) ts k = (λ r p b. (refl, refl, refl, refl), λ r x. refl, λ r x. refl, λ r x. refl)
in_list s (Bracketed Curly l q) ts k = (λ r p b. (refl, refl, refl, refl), λ r x. refl, λ r x. refl, λ r x. refl)

in_if : (s : Bool) (q : Pos) (k : List Frame) → TermEnds s (InIf q ∷ k)
in_if s q k = (λ r p b. (refl, refl, refl, refl), λ r x. refl, λ r x. refl, λ r x. refl)

in_then : (s : Bool) (q : Pos) (a : RawTree) (k : List Frame) → TermEnds s (InThen q a ∷ k)
in_then s q a k = (λ r p b. (refl, refl, refl, refl), λ r x. refl, λ r x. refl, λ r x. refl)

in_else : (s : Bool) (q : Pos) (a b : RawTree) (k : List Frame) → TermEnds s k → TermEnds s (InElse q a b ∷ k)
in_else s q a b k f =
    (λ r. f.0 (if_tree q a b r), λ r. f.1 (if_tree q a b r), λ r. f.2 (if_tree q a b r), λ r. f.3 (if_tree q a b r))

pub in_connectives : (s : Bool) (l : Option Link) (k : List Frame) → TermEnds s k → EqualEnds s (InConnectives l ∷ k)
in_connectives s l k f = (λ r. f.0 (chain_tree l r), λ r. f.1 (chain_tree l r), λ r. f.2 (chain_tree l r))

pub in_equalities : (s : Bool) (l : Option Link) (k : List Frame) → EqualEnds s k → OperEnds s (InEqualities l ∷ k)
in_equalities s l k f = (λ r. f.0 (chain_tree l r), λ r. f.1 (chain_tree l r))

in_prefixed : (s : Bool) (x : RawWord) (k : List Frame) → OperEnds s k → OperEnds s (Prefixed x ∷ k)
in_prefixed s x k f = (λ r. f.0 (prefix_tree x r), λ r. f.1 (prefix_tree x r))

-- what frames hand on is read where they wait

behind_else : (s : Bool) (o : List Marked) (q : Pos) (a b r : RawTree) (k : List Frame) (z : Whole)
    → AcceptsFrom s (Have (if_tree q a b r) k) o z → AcceptsFrom s (Have r (InElse q a b ∷ k)) o z
behind_else s [] q a b r k z h = h
behind_else s (m ∷ o) q a b r k z h = h

behind_prefix : (s : Bool) (o : List Marked) (x : RawWord) (r : RawTree) (k : List Frame) (z : Whole)
    → AcceptsFrom s (Have (prefix_tree x r) k) o z → AcceptsFrom s (Have r (Prefixed x ∷ k)) o z
behind_prefix s [] x r k z h = h
behind_prefix s (m ∷ o) x r k z h = h

behind_connectives : (s : Bool) (o : List Marked) (l : Option Link) (r : RawTree) (k : List Frame) (z : Whole)
    → NoConnective s k → AcceptsFrom s (Have (chain_tree l r) k) o z → AcceptsFrom s (Have r (InConnectives l ∷ k)) o z
behind_connectives s [] l r k z f h = h
behind_connectives s ((Connective x, m) ∷ o) l r k z f h = absurd (none_some (sym (f (chain_tree l r) x) ∙ h.1))
behind_connectives s ((t, m) ∷ o) l r k z f h = h

behind_equalities : (s : Bool) (o : List Marked) (l : Option Link) (r : RawTree) (k : List Frame) (z : Whole)
    → NoEquality s k → AcceptsFrom s (Have (chain_tree l r) k) o z → AcceptsFrom s (Have r (InEqualities l ∷ k)) o z
behind_equalities s [] l r k z f h = h
behind_equalities s ((Equality x, m) ∷ o) l r k z f h = absurd (none_some (sym (f (chain_tree l r) x) ∙ h.1))
behind_equalities s ((t, m) ∷ o) l r k z f h = h

behind_one : (s : Bool) (o : List Marked) (r : RawTree) (k : List Frame) (z : Whole) → NoSymbol s k
    → AcceptsFrom s (Have r k) o z → AcceptsFrom s (Have r (InInfixes None ∷ k)) o z
behind_one s [] r k z f h = h
behind_one s ((Symbol x, m) ∷ o) r k z f h = absurd (none_some (sym (f r x) ∙ h.1))
behind_one s ((t, m) ∷ o) r k z f h = h

behind_infixes : (s : Bool) (o : List Marked) (l : Link) (r : RawTree) (k : List Frame) (z : Whole) → NoSymbol s k
    → AcceptsFrom s (Have (chain_tree (Some l) r) k) o z → AcceptsFrom s (Have r (InInfixes (Some l) ∷ k)) o z
behind_infixes s [] l r k z f h = h
behind_infixes s ((Symbol x, m) ∷ o) l r k z f h = absurd (none_some (sym (f (chain_tree (Some l) r) x) ∙ h.1))
behind_infixes s ((t, m) ∷ o) l r k z f h = h

behind_postfixes : (s : Bool) (o : List Marked) (r : RawTree) (k : List Frame) (z : Whole) → NoSymbol s k
    → AcceptsFrom s (Have r k) o z → AcceptsFrom s (Have r (InPostfixes ∷ k)) o z
behind_postfixes s [] r k z f h = h
behind_postfixes s ((Symbol x, m) ∷ o) r k z f h = absurd (none_some (sym (f r x) ∙ h.1))
behind_postfixes s ((t, m) ∷ o) r k z f h = h

behind_strays : (s : Bool) (o : List Marked) (r : RawTree) (k : List Frame) (z : Whole) → NoSymbol s k
    → AcceptsFrom s (Have r k) o z → AcceptsFrom s (Have r (InStrays ∷ k)) o z
behind_strays s [] r k z f h = h
behind_strays s ((Symbol x, m) ∷ o) r k z f h = absurd (none_some (sym (f r x) ∙ h.1))
behind_strays s ((t, m) ∷ o) r k z f h = h

behind_fields : (s : Bool) (o : List Marked) (r : RawTree) (k : List Frame) (z : Whole) → NoField s k
    → AcceptsFrom s (Have r k) o z → AcceptsFrom s (Have r (InFields ∷ k)) o z
behind_fields s [] r k z f h = h
behind_fields s ((Dot p, m) ∷ o) r k z f h = absurd (none_some (sym (f r p Square).0 ∙ h.1))
behind_fields s ((Colon p, m) ∷ o) r k z f h = absurd (none_some (sym (f r p Square).1 ∙ h.1))
behind_fields s ((OpenBracket b p, m) ∷ o) r k z f h = absurd (none_some (sym (f r p b).3 ∙ h.1))
behind_fields s ((t, m) ∷ o) r k z f h = h

-- a word stands alone where no `(` follows
behind_word : (s : Bool) (o : List Marked) (w : RawWord) (k : List Frame) (z : Whole) → NoField s k
    → AcceptsFrom s (Have (call_tree w []) (InFields ∷ k)) o z → AcceptsFrom s (AfterWord w k) o z
behind_word s [] w k z f h = h
behind_word s ((Open p, m) ∷ o) w k z f h = absurd (none_some (sym (f (call_tree w []) p Square).2 ∙ h.1))
behind_word s ((t, m) ∷ o) w k z f h = h

pub never : false ≡ true → ⊥
never e = cc

-- a symbol is postfix where no Post follows, and infix where one does
postfix_behind : (s : Bool) (o : List Marked) (x : RawWord) (r : RawTree) (k : List Frame) (z : Whole) → NoPost o
    → AcceptsFrom s (Have (postfix_tree x r) (InPostfixes ∷ k)) o z → AcceptsFrom s (AfterSymbol x r k) o z
postfix_behind s [] x r k z n h = h
postfix_behind s ((Word w, m) ∷ o) x r k z n h = absurd (never n)
postfix_behind s ((Open p, m) ∷ o) x r k z n h = absurd (never n)
postfix_behind s ((OpenBracket b p, m) ∷ o) x r k z n h = absurd (never n)
postfix_behind s ((t, m) ∷ o) x r k z n h = h

infix_behind : (s : Bool) (o : List Marked) (x : RawWord) (r : RawTree) (k : List Frame) (z : Whole)
    → AcceptsFrom s (NeedPost (InInfixes (Some (record { symbol = x; left = r })) ∷ k)) o z
    → AcceptsFrom s (AfterSymbol x r k) o z
infix_behind s [] x r k z h = absurd (none_some h)
infix_behind s ((Word w, m) ∷ o) x r k z h = h
infix_behind s ((Open p, m) ∷ o) x r k z h = h
infix_behind s ((OpenBracket b p, m) ∷ o) x r k z h = h
infix_behind s ((t, m) ∷ o) x r k z h = absurd (none_some h.1)

-- what begins a Post begins what it stands first in
post_first : (s : Bool) (i : List Marked) (k : List Frame) (z : Whole)
    → AcceptsFrom s (NeedPost (InInfixes None ∷ k)) i z → AcceptsFrom s (NeedOperand k) i z
post_first s [] k z h = h
post_first s ((Symbol x, m) ∷ i) k z h = absurd (none_some h.1)
post_first s ((Not x, m) ∷ i) k z h = absurd (none_some h.1)
post_first s ((t, m) ∷ i) k z h = h

post_behind_prefix : (s : Bool) (i : List Marked) (k : List Frame) (z : Whole)
    → AcceptsFrom s (NeedPost (InStrays ∷ k)) i z → AcceptsFrom s (NeedPrefixed k) i z
post_behind_prefix s [] k z h = h
post_behind_prefix s ((Symbol x, m) ∷ i) k z h = absurd (none_some h.1)
post_behind_prefix s ((Not x, m) ∷ i) k z h = absurd (none_some h.1)
post_behind_prefix s ((t, m) ∷ i) k z h = h

operand_first : (s : Bool) (i : List Marked) (k : List Frame) (z : Whole)
    → AcceptsFrom s (NeedOperand (InEqualities None ∷ InConnectives None ∷ k)) i z → AcceptsFrom s (NeedTerm k) i z
operand_first s [] k z h = h
operand_first s ((If p, m) ∷ i) k z h = absurd (none_some h.1)
operand_first s ((t, m) ∷ i) k z h = h

term_in_bracket : (s : Bool) (i : List Marked) (b : Bracket) (l : Option RawTree) (p : Pos) (k : List Frame) (z : Whole)
    → AcceptsFrom s (NeedTerm (InList (Bracketed b l p) [] ∷ InFields ∷ k)) i z → AcceptsFrom s (NeedFirst b l p k) i z
term_in_bracket s [] b l p k z h = h
term_in_bracket s ((CloseBracket c, m) ∷ i) b l p k z h = absurd (none_some h.1)
term_in_bracket s ((t, m) ∷ i) Square l p k z h = h
term_in_bracket s ((t, m) ∷ i) Curly l p k z h = h

-- a list of terms ends, and a bracket without terms

abbrev pub closing_of : Listing → Terminal
closing_of (Call w) = Close
closing_of (call_first raw w) = Close
closing_of (Bracketed b l p) = CloseBracket b

-- the state behind a list of terms
abbrev pub behind_list : Listing → List RawTree → List Frame → State
behind_list (Call w) ts k = Have (listing_tree (Call w) ts) k
behind_list (call_first raw w) ts k = BehindFirst raw w ts
behind_list (Bracketed b l p) ts k = Have (listing_tree (Bracketed b l p) ts) k

list_ends : (h : Listing) (r : RawTree) (ts : List RawTree) (k : List Frame)
    → hand_list r h ts k (closing_of h) ≡ plainly (behind_list h (ts ++ r ∷ []) k)
list_ends (Call w) r ts k = refl
list_ends (call_first raw w) r ts k = refl
list_ends (Bracketed Square l p) r ts k = refl
list_ends (Bracketed Curly l p) r ts k = refl

bracket_ends : (b : Bracket) (l : Option RawTree) (p : Pos) (k : List Frame)
    → begin_bracket b l p k (CloseBracket b) ≡ plainly (Have (bracket_tree b l p []) (InFields ∷ k))
bracket_ends Square l p k = refl
bracket_ends Curly l p k = refl

-- where symbols are let in one is
lets_in : {s : Bool} (a b : Taking) → IsTrue s → cond s a b ≡ a
lets_in a b e = subst (λ x. cond x a b ≡ a) (sym e) refl

-- postfix symbols, and those that are let in
postfixes_read : {l q : RawTree} {i o : List Marked} → Postfixes l i o q → (s : Bool) (k : List Frame) (z : Whole)
    → NoSymbol s k → AcceptsFrom s (Have q k) o z → AcceptsFrom s (Have l (InPostfixes ∷ k)) i z
postfixes_read (no_postfix {l = l} {o = o}) s k z f h = behind_postfixes s o l k z f h
postfixes_read (another_postfix more) s k z f h = (_, refl, postfixes_read more s k z f h)

strays_read : {s : Bool} {l q : RawTree} {i o : List Marked} → Strays s l i o q → (k : List Frame) (z : Whole)
    → NoSymbol s k → AcceptsFrom s (Have q k) o z → AcceptsFrom s (Have l (InStrays ∷ k)) i z
strays_read (no_stray {s = s} {l = l} {o = o}) k z f h = behind_strays s o l k z f h
strays_read (stray {x = x} {l = l} e more) k z f h =
    (_, lets_in (Some (Chained true, Have (postfix_tree x l) (InStrays ∷ k))) None e, strays_read more k z f h)

-- by induction on the grammar: where what stands behind is read with the tree on these frames, so is the whole. A chain
-- and a list are read with the tree so far, which the machine makes of its last frame and its last tree
mutual
  pub cond_reads : {s : Bool} {d : ℕ} {i o : List Marked} {q : RawTree} → Cond s d i o q → (k : List Frame) (z : Whole)
      → d ≡ depth_of k → TermEnds s k → AcceptsFrom s (Have q k) o z → AcceptsFrom s (NeedTerm k) i z
  cond_reads (conditional {s = s} {p = p} {o = o} {a = a} {b = b} {c = c} first second third) k z e f h = (
    _,
    ap (λ x. Some (opens_head (suc x), NeedTerm (InIf p ∷ k))) (sym e),
    cond_reads first (InIf p ∷ k) z (ap suc e) (in_if s p k) (
      _,
      refl,
      cond_reads second (InThen p a ∷ k) z (ap suc e) (in_then s p a k) (
        _,
        refl,
        cond_reads third (InElse p a b ∷ k) z (ap suc e) (in_else s p a b k f)
            (behind_else s o p a b c k z h),
      ),
    ),
  )
  cond_reads (logic {s = s} {i = i} {l = l} a more) k z e f h =
      operand_first s i k z (equal_reads a (InConnectives None ∷ k) z e (in_connectives s None k f)
      (connectives_read more k z e f None l refl refl h))

  pub connectives_read : {s : Bool} {d : ℕ} {x : Option RawWord} {v q : RawTree} {i o : List Marked}
      → Connectives s d x v i o q → (k : List Frame) (z : Whole) → d ≡ depth_of k → TermEnds s k
      → (l : Option Link) (r : RawTree) → symbol_of l ≡ x → chain_tree l r ≡ v → AcceptsFrom s (Have q k) o z
      → AcceptsFrom s (Have r (InConnectives l ∷ k)) i z
  connectives_read (no_connective {s = s} {o = o}) k z e f l r g u h =
      behind_connectives s o l r k z f.3 (subst (λ y. AcceptsFrom s (Have y k) o z) (sym u) h)
  connectives_read (connective {s = s} {y = y} {r = a} term more) k z e f l r g u h = (
    _,
    ap (λ w. Some (
      chain_link w y,
      NeedOperand (InEqualities None ∷ InConnectives (Some (record { symbol = y; left = chain_tree l r })) ∷ k),
    )) g,
    equal_reads term (InConnectives (Some (record { symbol = y; left = chain_tree l r })) ∷ k) z e
        (in_connectives s (Some (record { symbol = y; left = chain_tree l r })) k f)
        (connectives_read more k z e f (Some (record { symbol = y; left = chain_tree l r })) a refl
        (ap (λ v. infix_tree y v a) u) h),
  )

  equal_reads : {s : Bool} {d : ℕ} {i o : List Marked} {q : RawTree} → Equal s d i o q → (k : List Frame) (z : Whole)
      → d ≡ depth_of k → EqualEnds s k → AcceptsFrom s (Have q k) o z
      → AcceptsFrom s (NeedOperand (InEqualities None ∷ k)) i z
  equal_reads (equal {s = s} {l = l} a more) k z e f h =
      oper_reads a (InEqualities None ∷ k) z e (in_equalities s None k f)
      (equalities_read more k z e f None l refl refl h)

  pub equalities_read : {s : Bool} {d : ℕ} {x : Option RawWord} {v q : RawTree} {i o : List Marked}
      → Equalities s d x v i o q → (k : List Frame) (z : Whole) → d ≡ depth_of k → EqualEnds s k
      → (l : Option Link) (r : RawTree) → symbol_of l ≡ x → chain_tree l r ≡ v → AcceptsFrom s (Have q k) o z
      → AcceptsFrom s (Have r (InEqualities l ∷ k)) i z
  equalities_read (no_equality {s = s} {o = o}) k z e f l r g u h =
      behind_equalities s o l r k z f.2 (subst (λ y. AcceptsFrom s (Have y k) o z) (sym u) h)
  equalities_read (equality {s = s} {y = y} {r = a} term more) k z e f l r g u h = (
    _,
    ap (λ w. Some (
      chain_link w y,
      NeedOperand (InEqualities (Some (record { symbol = y; left = chain_tree l r })) ∷ k),
    )) g,
    oper_reads term (InEqualities (Some (record { symbol = y; left = chain_tree l r })) ∷ k) z e
        (in_equalities s (Some (record { symbol = y; left = chain_tree l r })) k f)
        (equalities_read more k z e f (Some (record { symbol = y; left = chain_tree l r })) a refl
        (ap (λ v. infix_tree y v a) u) h),
  )

  oper_reads : {s : Bool} {d : ℕ} {i o : List Marked} {q : RawTree} → Oper s d i o q → (k : List Frame) (z : Whole)
      → d ≡ depth_of k → OperEnds s k → AcceptsFrom s (Have q k) o z → AcceptsFrom s (NeedOperand k) i z
  oper_reads (prefixed {s = s} {x = x} {o = o} {q = q} a_symbol term) k z e f h =
      (_, refl, operand_reads term (Prefixed x ∷ k) z e (in_prefixed s x k f) (behind_prefix s o x q k z h))
  oper_reads (prefixed {s = s} {x = x} {o = o} {q = q} a_not term) k z e f h =
      (_, refl, operand_reads term (Prefixed x ∷ k) z e (in_prefixed s x k f) (behind_prefix s o x q k z h))
  oper_reads (plain {s = s} {i = i} term more) k z e f h =
      post_first s i k z (post_reads term (InInfixes None ∷ k) z e f.0 (symbols_read more k z e f h))

  operand_reads : {s : Bool} {d : ℕ} {i o : List Marked} {q : RawTree} → Operand s d i o q
      → (k : List Frame) (z : Whole) → d ≡ depth_of k → OperEnds s k → AcceptsFrom s (Have q k) o z
      → AcceptsFrom s (NeedPrefixed k) i z
  operand_reads (another_prefix {s = s} {x = x} {o = o} {q = q} a_symbol term) k z e f h =
      (_, refl, operand_reads term (Prefixed x ∷ k) z e (in_prefixed s x k f) (behind_prefix s o x q k z h))
  operand_reads (another_prefix {s = s} {x = x} {o = o} {q = q} a_not term) k z e f h =
      (_, refl, operand_reads term (Prefixed x ∷ k) z e (in_prefixed s x k f) (behind_prefix s o x q k z h))
  operand_reads (operand {s = s} {i = i} term more) k z e f h =
      post_behind_prefix s i k z (post_reads term (InStrays ∷ k) z e f.0 (strays_read more k z f.1 h))

  pub symbols_read : {s : Bool} {d : ℕ} {l q : RawTree} {i o : List Marked} → Symbols s d l i o q
      → (k : List Frame) (z : Whole) → d ≡ depth_of k → OperEnds s k → AcceptsFrom s (Have q k) o z
      → AcceptsFrom s (Have l (InInfixes None ∷ k)) i z
  symbols_read (no_symbol {s = s} {l = l} {o = o}) k z e f h = behind_one s o l k z f.1 h
  symbols_read (behind {s = s} {x = x} {l = l} {i = i} n more) k z e f h =
      (_, refl, postfix_behind s i x l k z n (postfixes_read more s k z f.1 h))
  symbols_read (between {s = s} {x = x} {l = l} {r = r} {i = i} term more) k z e f h = (
    _,
    refl,
    infix_behind s i x l k z
        (post_reads term (InInfixes (Some (record { symbol = x; left = l })) ∷ k) z e (λ t. f.0 (infix_tree x l t))
        (infixes_read more k z e f (record { symbol = x; left = l }) r refl refl h)),
  )

  infixes_read : {s : Bool} {d : ℕ} {x : RawWord} {v q : RawTree} {i o : List Marked} → Infixes s d x v i o q
      → (k : List Frame) (z : Whole) → d ≡ depth_of k → OperEnds s k
      → (l : Link) (r : RawTree) → l.symbol ≡ x → chain_tree (Some l) r ≡ v → AcceptsFrom s (Have q k) o z
      → AcceptsFrom s (Have r (InInfixes (Some l) ∷ k)) i z
  infixes_read (no_infix {s = s} {o = o}) k z e f l r g u h =
      behind_infixes s o l r k z f.1 (subst (λ y. AcceptsFrom s (Have y k) o z) (sym u) h)
  infixes_read (another_infix {s = s} {y = y} {r = a} term more) k z e f l r g u h = (
    _,
    ap (λ w. Some (
      chain_link (Some w) y,
      NeedPost (InInfixes (Some (record { symbol = y; left = chain_tree (Some l) r })) ∷ k),
    )) g,
    post_reads term (InInfixes (Some (record { symbol = y; left = chain_tree (Some l) r })) ∷ k) z e
        (λ t. f.0 (infix_tree y (chain_tree (Some l) r) t))
        (infixes_read more k z e f (record { symbol = y; left = chain_tree (Some l) r }) a refl
        (ap (λ v. infix_tree y v a) u) h),
  )

  post_reads : {s : Bool} {d : ℕ} {i o : List Marked} {q : RawTree} → Post s d i o q → (k : List Frame) (z : Whole)
      → d ≡ depth_of k → NoField s k → AcceptsFrom s (Have q k) o z → AcceptsFrom s (NeedPost k) i z
  post_reads (word_alone {s = s} {w = w} {i = i} more) k z e f h =
      (_, refl, behind_word s i w k z f (fields_read more k z e f (call_tree w []) refl h))
  post_reads (call {s = s} {w = w} {a = a} {ts = ts} first further more) k z e f h = (
    _,
    refl,
    (
      _,
      ap (λ x. Some (opens (suc x), NeedTerm (InList (Call w) [] ∷ InFields ∷ k))) (sym e),
      cond_reads first (InList (Call w) [] ∷ InFields ∷ k) z (ap suc e) (in_list s (Call w) [] (InFields ∷ k))
          (others_read further (Call w) (InFields ∷ k) z (ap suc e) a [] refl refl
          (fields_read more k z e f (call_tree w ts) refl h)),
    ),
  )
  post_reads (parentheses {s = s} {l = l} term more) k z e f h = (
    _,
    ap (λ x. Some (opens (suc x), NeedTerm (InParentheses ∷ InFields ∷ k))) (sym e),
    cond_reads term (InParentheses ∷ InFields ∷ k) z (ap suc e) (in_parentheses s (InFields ∷ k))
        (_, refl, fields_read more k z e f l refl h),
  )
  post_reads (bracketed {l = l} term more) k z e f h =
      bracket_reads term (NeedPost k) k z (λ b p. refl) e (fields_read more k z e f l refl h)

  pub fields_read : {s : Bool} {d : ℕ} {v q : RawTree} {i o : List Marked} → Fields s d v i o q
      → (k : List Frame) (z : Whole) → d ≡ depth_of k → NoField s k → (r : RawTree) → r ≡ v
      → AcceptsFrom s (Have q k) o z → AcceptsFrom s (Have r (InFields ∷ k)) i z
  fields_read (no_field {s = s} {o = o}) k z e f r u h =
      behind_fields s o r k z f (subst (λ y. AcceptsFrom s (Have y k) o z) (sym u) h)
  fields_read (of_sort {s = s} {w = w} {p = p} {o = o}) k z e f r u h =
      (_, refl, (_, refl, subst (λ y. AcceptsFrom s (Have (qualified y w p) k) o z) (sym u) h))
  fields_read (field {w = w} {p = p} more) k z e f r u h =
      (_, refl, (_, refl, fields_read more k z e f (field_tree p w r) (ap (λ y. field_tree p w y) u) h))
  fields_read (bracket {s = s} {l = l} {r = a} {i = i} inside more) k z e f r u h =
      subst (λ y. AcceptsFrom s (Have y (InFields ∷ k)) i z) (sym u)
      (bracket_reads inside (Have l (InFields ∷ k)) k z (λ b p. refl) e (fields_read more k z e f a refl h))

  bracket_reads : {s : Bool} {d : ℕ} {l : Option RawTree} {i o : List Marked} {q : RawTree} → InBracket s d l i o q
      → (n : State) (k : List Frame) (z : Whole)
      → ((b : Bracket) (p : Pos) → step s n (OpenBracket b p) ≡ Some (opens_head (suc (depth_of k)), NeedFirst b l p k))
      → d ≡ depth_of k → AcceptsFrom s (Have q (InFields ∷ k)) o z → AcceptsFrom s n i z
  bracket_reads (no_operand {b = b} {l = l} {p = p}) n k z g e h =
      (_, g b p ∙ ap (λ x. Some (opens_head (suc x), NeedFirst b l p k)) (sym e), (_, bracket_ends b l p k, h))
  bracket_reads (operands {s = s} {b = b} {l = l} {p = p} {i = i} {a = a} first further) n k z g e h = (
    _,
    g b p ∙ ap (λ x. Some (opens_head (suc x), NeedFirst b l p k)) (sym e),
    term_in_bracket s i b l p k z (cond_reads first (InList (Bracketed b l p) [] ∷ InFields ∷ k) z (ap suc e)
        (in_list s (Bracketed b l p) [] (InFields ∷ k))
        (others_read further (Bracketed b l p) (InFields ∷ k) z (ap suc e) a [] refl refl h)),
  )

  pub others_read : {s : Bool} {d : ℕ} {c : Terminal} {vs us : List RawTree} {i o : List Marked}
      → Others s d c vs i o us → (h : Listing) (k : List Frame) (z : Whole) → d ≡ suc (depth_of k)
      → (r : RawTree) (ts : List RawTree) → closing_of h ≡ c → ts ++ r ∷ [] ≡ vs
      → AcceptsFrom s (behind_list h us k) o z → AcceptsFrom s (Have r (InList h ts ∷ k)) i z
  others_read (no_other {s = s} {o = o}) h k z e r ts g u rest = (
    _,
    ap (λ x. hand_list r h ts k x) (sym g) ∙ list_ends h r ts k,
    subst (λ y. AcceptsFrom s (behind_list h y k) o z) (sym u) rest,
  )
  others_read (another {s = s} {a = a} term more) h k z e r ts g u rest = (
    _,
    refl,
    cond_reads term (InList h (ts ++ r ∷ []) ∷ k) z e (in_list s h (ts ++ r ∷ []) k)
        (others_read more h k z e a (ts ++ r ∷ []) g (ap (λ y. y ++ a ∷ []) u) rest),
  )
