-- A token list is a trait in at most one way, whether references follow `implies` or an item does. So what the grammar
-- says of an answer it says of one answer alone.
use Rattle.std.proofs.Common.{◌≡◌, ◌↔◌, ℕ, Bool, true, false, not, IsTrue, codes, cond, ◌||◌, Option, Some, None}
use Rattle.std.proofs.Common.{Result, Ok, Err, List, [], ◌∷◌, map, refl, sym, ap, subst, ◌∙◌}
use Rattle.std.proofs.Math.Path.{ap₂}
use Rattle.std.specs.Str.{bytes_eq}
use Rattle.larch_base.specs.declared.position.Pos.{Pos}
use Rattle.larch_lexer.specs.TokenList.{TokenList}
use Rattle.larch_lexer.specs.declared.token.Kind.{Kind}
use Rattle.larch_lexer.specs.declared.token.Kind.TheVariants as kind
use Rattle.larch_lexer.specs.declared.token.Token.{Token}
use Rattle.larch_grammar_law.specs.Claims.{Means, Spells, tokens_of}
use Rattle.larch_grammar_law.specs.Walks.{Accepts}
use Rattle.larch_grammar_law.specs.declared.mark.Flaw.{Flaw}
use Rattle.larch_grammar_law.specs.declared.mark.Mark.{Mark}
use Rattle.larch_grammar_law.specs.declared.mark.Mark.TheVariants.{Outside}
use Rattle.larch_grammar_law.proofs.Walking.{head_equal, nil_cons, none_some, some_equal, tail_equal, taken}
use Rattle.larch_raw.specs.declared.declared.RawForm.{RawForm}
use Rattle.larch_raw.specs.declared.declared.RawWord.{RawWord}
use Rattle.larch_raw.specs.declared.equation.RawEquation.{RawEquation}
use Rattle.larch_raw.specs.declared.equation.RawTrait.{RawTrait}
use Rattle.larch_raw.specs.declared.equation.RawVar.{RawVar}
use Rattle.larch_raw.specs.declared.reference.RawRef.{RawRef}
use Rattle.larch_raw.specs.RawTree.{RawTree}
use Rattle.larch_grammar.specs.Answers.{AnyTrait, MeansTrait, Traits, either, trait_answer, trait_by}
use Rattle.larch_grammar.specs.Composition.{is_open, IsRef, a_ref, actuals, bare}
use Rattle.larch_grammar.specs.Form.{Marked, without_mark, a_word}
use Rattle.larch_grammar.specs.Leading.{behind_word, ends_behind, from_first, from_second, open_depth, or_further}
use Rattle.larch_grammar.specs.Machine.{Taking, after_form, after_group, begin_bracket, begin_claim, behind_refs}
use Rattle.larch_grammar.specs.Machine.{end_marks, final, hand, hand_equation, open_item, outside, step, step_at}
use Rattle.larch_grammar.specs.Machine.{word_frames}
use Rattle.larch_grammar.specs.Refused.{is_implies, position_of_token}
use Rattle.larch_grammar.specs.Terminal.{bracket_terminal, claim_word, ends_reference, head_word, punctuation_terminal}
use Rattle.larch_grammar.specs.Terminal.{run_terminal, term_word, terminal_by, terminal_of, word_terminal}
use Rattle.larch_grammar.specs.Terms.{equation_of, formula_of}
use Rattle.larch_grammar.specs.Traits.{begins_references, ends_references, implying, as_marked}
use Rattle.larch_grammar.specs.Trees.{call_tree, chain_tree, if_tree, prefix_tree}
use Rattle.larch_grammar.specs.declared.terminal.Bracket.{Bracket}
use Rattle.larch_grammar.specs.declared.terminal.Bracket.TheVariants.{Square, Curly}
use Rattle.larch_grammar.specs.declared.terminal.Terminal.{Terminal}
use Rattle.larch_grammar.specs.declared.terminal.Terminal.TheVariants.{Word, Symbol, Not, Connective, Equality, Equates}
use Rattle.larch_grammar.specs.declared.terminal.Terminal.TheVariants.{Arrow, Colon, Comma, Semicolon, Dot, Open, Close}
use Rattle.larch_grammar.specs.declared.terminal.Terminal.TheVariants.{OpenBracket, CloseBracket, ForAll, Trait}
use Rattle.larch_grammar.specs.declared.terminal.Terminal.TheVariants.{Introduces, Asserts, Implies, Converts}
use Rattle.larch_grammar.specs.declared.terminal.Terminal.TheVariants.{Exempting, Generated, Partitioned, By, Includes}
use Rattle.larch_grammar.specs.declared.terminal.Terminal.TheVariants.{Assumes, For, Enumeration, Tuple, Union, Of, If}
use Rattle.larch_grammar.specs.declared.terminal.Terminal.TheVariants.{Then, Else, Other}
use Rattle.larch_grammar.specs.declared.machine.Frame.{Frame}
use Rattle.larch_grammar.specs.declared.machine.Frame.TheVariants.{InFields, InStrays, Prefixed, InPostfixes, InInfixes}
use Rattle.larch_grammar.specs.declared.machine.Frame.TheVariants.{InEqualities, InConnectives, InParentheses, InList}
use Rattle.larch_grammar.specs.declared.machine.Frame.TheVariants.{InIf, InThen, InElse, InLeft, InRight, InExempted}
use Rattle.larch_grammar.specs.declared.machine.Listing.TheVariants.{Call, First as call_first, Bracketed}
use Rattle.larch_grammar.specs.declared.machine.Naming.{Naming}
use Rattle.larch_grammar.specs.declared.machine.Naming.TheVariants.{Declared, Referred, Formal, Actual, Renaming}
use Rattle.larch_grammar.specs.declared.machine.Naming.TheVariants.{Renamed, Lone, Converted}
use Rattle.larch_grammar.specs.declared.machine.RefKind.{RefKind}
use Rattle.larch_grammar.specs.declared.machine.RefKind.TheVariants.{Included, Assumed, First, Further}
use Rattle.larch_grammar.specs.declared.machine.VariablesFor.{VariablesFor}
use Rattle.larch_grammar.specs.declared.machine.VariablesFor.TheVariants.{Quantified, Exempted}
use Rattle.larch_grammar.specs.declared.machine.State.{State}
use Rattle.larch_grammar.specs.declared.machine.State.TheVariants.{Start, AfterHead, AfterConstant, AfterField}
use Rattle.larch_grammar.specs.declared.machine.State.TheVariants.{AfterRefName, AfterTraitRef, InPart, AfterSymbolForm}
use Rattle.larch_grammar.specs.declared.machine.State.TheVariants.{AfterMarkerSymbol, NeedRef, AfterFormBracket}
use Rattle.larch_grammar.specs.declared.machine.State.TheVariants.{AfterBracketMarker, AfterForm, AfterOperatorRef}
use Rattle.larch_grammar.specs.declared.machine.State.TheVariants.{InItems, FirstWord, AfterSemicolon, WordBehind}
use Rattle.larch_grammar.specs.declared.machine.State.TheVariants.{AfterGroup, AfterImplies, AfterWord, NeedFirst}
use Rattle.larch_grammar.specs.declared.machine.State.TheVariants.{AfterSymbol, Have}
use Rattle.larch_grammar.specs.declared.machine.Waiting.{Waiting}
use Rattle.larch_grammar.specs.declared.machine.Waiting.TheVariants.{Alone, Item}
use Rattle.larch_grammar.specs.declared.machine.Whole.{Whole}
use Rattle.larch_grammar.specs.declared.machine.Whole.TheVariants as whole
use Rattle.larch_grammar.proofs.Back.{step_back}
use Rattle.larch_grammar.proofs.CompleteTraits.{complete_trait}
use Rattle.larch_grammar.proofs.Ends.{final_fits}
use Rattle.larch_grammar.proofs.Fits.{Fits}
use Rattle.larch_grammar.proofs.Groups.{actuals_group, group}
use Rattle.larch_grammar.proofs.Law.{one_trait, reading_law, trait_inj, trait_law}

-- a token in the two readings

-- a token as a terminal where an item follows `implies`, and where references do: the same, or `implies`
pub data Read : Terminal → Terminal → Type 0 where
  same : {t : Terminal} → is_implies t ≡ false → Read t t
  two_parts : Read (Implies false) (Implies true)

-- it isn't `implies`
data Plain : Terminal → Type 0 where
  plain : (t : Terminal) → is_implies t ≡ false → Plain t

plain_unless : (b : Bool) (t : Terminal) {x : Terminal} → is_implies t ≡ false → Plain x → Plain (cond b t x)
plain_unless true t e p = plain t e
plain_unless false t e p = p

unless : (b : Bool) (t : Terminal) {x y : Terminal} → is_implies t ≡ false → Read x y → Read (cond b t x) (cond b t y)
unless true t e r = same e
unless false t e r = r

implies_read : (b : Bool) {x : Terminal} → Plain x → Read (cond b (Implies false) x) (cond b (Implies true) x)
implies_read true p = two_parts
implies_read false (plain x e) = same e

as_plain : {x : Terminal} → Plain x → Read x x
as_plain (plain x e) = same e

word_plain : (text : List ℕ) (pos : Pos) → Plain (term_word text pos)
word_plain text pos =
    plain_unless (bytes_eq text (codes "if")) (If pos) refl (plain_unless (bytes_eq text (codes "then")) Then refl
    (plain_unless (bytes_eq text (codes "else")) Else refl (plain (Word (record { name = text; pos = pos })) refl)))

claim_read : (text : List ℕ) (pos : Pos) → Read (claim_word false text pos) (claim_word true text pos)
claim_read text pos =
    implies_read (bytes_eq text (codes "implies"))
    (plain_unless (bytes_eq text (codes "converts")) Converts refl
    (plain_unless (bytes_eq text (codes "exempting")) Exempting refl (word_plain text pos)))

head_read : (text : List ℕ) (pos : Pos) → Read (head_word false text pos) (head_word true text pos)
head_read text pos =
    unless (bytes_eq text (codes "includes")) Includes refl
    (unless (bytes_eq text (codes "assumes")) Assumes refl (unless (bytes_eq text (codes "for")) For refl
    (unless (bytes_eq text (codes "enumeration")) Enumeration refl
    (unless (bytes_eq text (codes "tuple")) Tuple refl (unless (bytes_eq text (codes "union")) Union refl
    (unless (bytes_eq text (codes "of")) Of refl (claim_read text pos)))))))

word_read : (text : List ℕ) (pos : Pos) → Read (word_terminal false text pos) (word_terminal true text pos)
word_read text pos =
    unless (bytes_eq text (codes "trait")) Trait refl
    (unless (bytes_eq text (codes "introduces")) Introduces refl
    (unless (bytes_eq text (codes "asserts")) Asserts refl
    (unless (bytes_eq text (codes "generated")) Generated refl
    (unless (bytes_eq text (codes "partitioned")) Partitioned refl
    (unless (bytes_eq text (codes "by")) By refl (head_read text pos))))))

backslash_plain : (text : List ℕ) (pos : Pos) → Plain (terminal_by false kind.Backslash text pos)
backslash_plain text pos =
    plain_unless (bytes_eq text (codes "\\forall")) ForAll refl
    (plain (Symbol (record { name = text; pos = pos })) refl)

run_plain : (text : List ℕ) (pos : Pos) → Plain (run_terminal text pos)
run_plain text pos =
    plain_unless (bytes_eq text (codes "->")) Arrow refl (plain_unless (bytes_eq text (codes "==")) (Equates pos) refl
    (plain_unless (bytes_eq text (codes "=") || bytes_eq text (codes "~="))
    (Equality (record { name = text; pos = pos })) refl
    (plain_unless (bytes_eq text (codes "~")) (Not (record { name = text; pos = pos })) refl
    (plain_unless (bytes_eq text (codes "=>") || bytes_eq text (codes "<=>"))
    (Connective (record { name = text; pos = pos })) refl
    (plain (Symbol (record { name = text; pos = pos })) refl)))))

bracket_plain : (text : List ℕ) (pos : Pos) → Plain (bracket_terminal text pos)
bracket_plain text pos =
    plain_unless (bytes_eq text (codes "(")) (Open pos) refl (plain_unless (bytes_eq text (codes ")")) Close refl
    (plain_unless (bytes_eq text (codes "[")) (OpenBracket Square pos) refl
    (plain_unless (bytes_eq text (codes "]")) (CloseBracket Square) refl
    (plain_unless (bytes_eq text (codes "{")) (OpenBracket Curly pos) refl
    (plain_unless (bytes_eq text (codes "}")) (CloseBracket Curly) refl
    (plain Other refl))))))

punctuation_plain : (text : List ℕ) (pos : Pos) → Plain (punctuation_terminal text pos)
punctuation_plain text pos =
    plain_unless (bytes_eq text (codes ":")) (Colon pos) refl (plain_unless (bytes_eq text (codes ",")) Comma refl
    (plain_unless (bytes_eq text (codes ";")) Semicolon refl
    (plain_unless (bytes_eq text (codes ".")) (Dot pos) refl (bracket_plain text pos))))

kind_read : (k : Kind) (text : List ℕ) (pos : Pos) → Read (terminal_by false k text pos) (terminal_by true k text pos)
kind_read kind.Word text pos = word_read text pos
kind_read kind.Marker text pos = same refl
kind_read kind.Backslash text pos = as_plain (backslash_plain text pos)
kind_read kind.Connective text pos = same refl
kind_read kind.Run text pos = as_plain (run_plain text pos)
kind_read kind.Punctuation text pos = as_plain (punctuation_plain text pos)

-- a token in the two readings
pub token_read : (t : Token) → Read (terminal_of false t) (terminal_of true t)
token_read t = kind_read t.kind t.text t.pos

-- the tokens of a text in the two readings, whatever is counted at them
data AreRead : List Marked → List Marked → Type 0 where
  none_read : AreRead [] []
  more_read : {x y : Terminal} {m n : Mark} {i j : List Marked} → Read x y → AreRead i j
      → AreRead ((x, m) ∷ i) ((y, n) ∷ j)

tokens_read : (ms ns : List (Token × Mark)) → tokens_of ms ≡ tokens_of ns
    → AreRead (map (as_marked false) ms) (map (as_marked true) ns)
tokens_read [] [] e = none_read
tokens_read [] (n ∷ ns) e = absurd (nil_cons e)
tokens_read (m ∷ ms) [] e = absurd (nil_cons (sym e))
tokens_read (m ∷ ms) (n ∷ ns) e =
    more_read (subst (λ t. Read (terminal_of false m.0) (terminal_of true t)) (head_equal e) (token_read m.0))
    (tokens_read ms ns (tail_equal e))

-- in both readings a list of references ends at the same tokens, and a parenthesis closes at the same one

opened_read : {x y : Terminal} → Read x y → (n : ℕ) → open_depth x n ≡ open_depth y n
opened_read (same p) n = refl
opened_read two_parts n = refl

ends_read : {i j : List Marked} → AreRead i j → ends_references i ≡ ends_references j
ends_read none_read = refl
ends_read (more_read (same p) rs) = refl
ends_read (more_read two_parts rs) = refl

-- a list of references ends there
abbrev pub ends : Option (List Marked) → Bool
ends o = ends_behind without_mark o

further_read : (o : Option ℕ) (i j : List Marked) → ends_references i ≡ ends_references j
    → ((n : ℕ) → ends (group n i) ≡ ends (group n j))
    → ends (or_further o i (λ n. group n i)) ≡ ends (or_further o j (λ n. group n j))
further_read None i j e f = e
further_read (Some n) i j e f = f n

group_read : {i j : List Marked} → AreRead i j → (n : ℕ) → ends (group n i) ≡ ends (group n j)
group_read none_read n = refl
group_read (more_read {x} {y} {i = i} {j = j} r rs) n =
    ap (λ o. ends (or_further o i (λ l. group l i))) (opened_read r n)
    ∙ further_read (open_depth y n) i j (ends_read rs) (group_read rs)

second_read : {i j : List Marked} (x : Terminal) (m n : Mark) → AreRead i j
    → ends (from_second without_mark x (x, m) i) ≡ ends (from_second without_mark x (x, n) j)
second_read (Open p) m n rs = group_read rs 0
second_read _ m n rs = refl

behind_word_read : {i j : List Marked} → AreRead i j
    → ends (behind_word without_mark i) ≡ ends (behind_word without_mark j)
behind_word_read none_read = refl
behind_word_read (more_read {x} {m = m} {n = n} (same p) rs) = second_read x m n rs
behind_word_read (more_read two_parts rs) = refl

first_read : {i j : List Marked} (x : Terminal) → AreRead i j
    → ends (from_first without_mark x i) ≡ ends (from_first without_mark x j)
first_read (Word w) rs = behind_word_read rs
first_read _ rs = refl

-- both readings say the same of what stands behind `implies`
begins_read : {i j : List Marked} → AreRead i j → begins_references i ≡ begins_references j
begins_read none_read = refl
begins_read (more_read {x} (same p) rs) = first_read x rs
begins_read (more_read two_parts rs) = refl

-- a reference stands behind `implies` only where one begins

-- the machine reads these tokens from this state, and they end in this whole
abbrev pub From : State → List Marked → Whole → Type 0
From n i z = Accepts (step false) final n i z

pub from_seen : (g : Bool) (ms : List (Token × Mark)) (n : State) (z : Whole)
    → Accepts (step_at g false) final n ms z → From n (map (as_marked g) ms) z
from_seen g [] n z a = a
from_seen g (m ∷ ms) n z a = (a.0, a.1, from_seen g ms a.0 z a.2)

pub from_fits : (i : List Marked) (n : State) (z : Whole) → From n i z → Fits false n i z
from_fits [] n z a = final_fits false n z a
from_fits (m ∷ i) n z a =
    taken (λ l k. (j : List Marked) (y : Whole) → Fits false k j y → Fits false n ((m.0, l) ∷ j) y)
    (step false n m.0) m.1 a.0 a.1 (step_back false n m.0) i z (from_fits i a.0 z a.2)

-- behind a name that is referred to
after_first : {k l : State} {w : RawWord} {m : Mark} (r : RawTrait) (t : Terminal)
    → step false (AfterRefName r First w) t ≡ None → outside (AfterRefName r First w) ≡ Some (Outside, k)
    → step false k t ≡ Some (m, l) → ⊥
after_first r t none e a = none_some (sym none ∙ ap (λ p. step false p.1 t) (some_equal e) ∙ a)

-- the token behind it ends a list of references, and it begins no clause
name_begins : (r : RawTrait) (w : RawWord) (t : Terminal) (m : Mark) (i : List Marked) (z : Whole)
    → IsTrue (not (is_open t)) → IsTrue (ends_reference t)
    → From (NeedRef r First) ((Word w, Outside) ∷ (t, m) ∷ i) z
    → IsTrue (ends (from_second without_mark t (t, m) i))
name_begins r w (Open p) m i z o e a = let q : false ≡ true = o in cc
name_begins r w Generated m i z o e a = absurd (after_first r Generated refl a.1 a.2.1)
name_begins r w Partitioned m i z o e a = absurd (after_first r Partitioned refl a.1 a.2.1)
name_begins r w t m i z o e a = e

ref_begins : (r : RawTrait) {i j : List Marked} {q : RawRef} (z : Whole) → IsRef i j q → IsTrue (ends_references j)
    → From (NeedRef r First) i z → IsTrue (begins_references i)
ref_begins r {j = []} z (a_ref a_word (bare o)) e a = refl
ref_begins r {j = t ∷ j} z (a_ref {w = w} a_word (bare o)) e a = name_begins r w t.0 t.1 j z o e a
ref_begins r z (a_ref a_word (actuals more)) e a = ap ends (actuals_group more) ∙ e

-- the same tokens aren't read in both ways behind `implies`
parts_apart : (r : RawTrait) {i j : List Marked} (y z : Whole) → AreRead i j → From (AfterImplies r) i y
    → From (NeedRef r First) j z → ⊥
parts_apart r {i} {j} y z rs a b =
    let f = from_fits i (AfterImplies r) y a in
    let g = from_fits j (NeedRef r First) z b in
    let begins : begins_references j ≡ true = ref_begins r z g.2 g.3.3 b in
    let never : not (begins_references i) ≡ true = f.0 in
    let q : false ≡ true = sym (ap not (begins_read rs ∙ begins)) ∙ never in
    cc

-- a step at `implies`

-- `implies` is read in neither way, or in both
pub data Parts : Taking → Taking → Type 0 where
  no_part : Parts None None
  a_part : {r : RawTrait} → Parts (outside (AfterImplies r)) (outside (NeedRef r First))

claim_parts : (r : RawTrait) (b : Bool)
    → Parts (cond b None (outside (AfterImplies (implying r)))) (cond b None (outside (NeedRef (implying r) First)))
claim_parts r true = no_part
claim_parts r false = a_part

-- the two steps of a state
abbrev pub PartsIn : Bool → State → Type 0
PartsIn s n = Parts (step s n (Implies false)) (step s n (Implies true))

begin_parts : (r : RawTrait) → Parts (begin_claim r (Implies false)) (begin_claim r (Implies true))
begin_parts r = claim_parts r r.implies

equation_parts : (e : RawEquation) (w : Waiting)
    → Parts (hand_equation e w (Implies false)) (hand_equation e w (Implies true))
equation_parts e Alone = no_part
equation_parts e (Item j) = begin_parts _

hand_parts : (s : Bool) (k : List Frame) (q : RawTree) → Parts (hand s q k (Implies false)) (hand s q k (Implies true))
hand_parts s [] q = no_part
hand_parts s (InFields ∷ k) q = hand_parts s k q
hand_parts s (InStrays ∷ k) q = hand_parts s k q
hand_parts s (Prefixed x ∷ k) q = hand_parts s k (prefix_tree x q)
hand_parts s (InPostfixes ∷ k) q = hand_parts s k q
hand_parts s (InInfixes None ∷ k) q = hand_parts s k q
hand_parts s (InInfixes (Some l) ∷ k) q = hand_parts s k (chain_tree (Some l) q)
hand_parts s (InEqualities l ∷ k) q = hand_parts s k (chain_tree l q)
hand_parts s (InConnectives l ∷ k) q = hand_parts s k (chain_tree l q)
hand_parts s (InParentheses ∷ k) q = no_part
hand_parts s (InList (Call w) ts ∷ k) q = no_part
hand_parts s (InList (call_first r w) ts ∷ k) q = no_part
hand_parts s (InList (Bracketed Square l p) ts ∷ k) q = no_part
hand_parts s (InList (Bracketed Curly l p) ts ∷ k) q = no_part
hand_parts s (InIf p ∷ k) q = no_part
hand_parts s (InThen p a ∷ k) q = no_part
hand_parts s (InElse p a b ∷ k) q = hand_parts s k (if_tree p a b q)
hand_parts s (InLeft p w ∷ k) q = equation_parts (formula_of q p) w
hand_parts s (InRight p l e w ∷ k) q = equation_parts (equation_of l e q p) w
hand_parts s (InExempted p c ∷ k) q = no_part

behind_refs_parts : (b : RefKind) (r : RawTrait)
    → Parts (behind_refs b r (Implies false)) (behind_refs b r (Implies true))
behind_refs_parts Included r = begin_parts r
behind_refs_parts Assumed r = begin_parts r
behind_refs_parts First r = begin_parts r
behind_refs_parts Further r = begin_parts r

form_parts : (n : Naming) (f : RawForm) → Parts (after_form n f (Implies false)) (after_form n f (Implies true))
form_parts (Declared r fs) f = no_part
form_parts (Referred c rs) f = begin_parts _
form_parts (Formal w fs) f = no_part
form_parts (Actual o) f = no_part
form_parts (Renaming o) f = no_part
form_parts (Renamed o f) g = no_part
form_parts Lone f = no_part
form_parts (Converted r rs) f = no_part

marks_parts : (n : Naming) (behind : Bool) (b : Bracket) (m : ℕ) (p : Pos)
    → Parts (end_marks n behind b m p (Implies false)) (end_marks n behind b m p (Implies true))
marks_parts n behind Square m p = no_part
marks_parts n behind Curly m p = no_part

bracket_parts : (b : Bracket) (l : Option RawTree) (p : Pos) (k : List Frame)
    → Parts (begin_bracket b l p k (Implies false)) (begin_bracket b l p k (Implies true))
bracket_parts Square l p k = no_part
bracket_parts Curly l p k = no_part

scope_parts : (sc : VariablesFor) (vs : List RawVar)
    → Parts (after_group sc vs (Implies false)) (after_group sc vs (Implies true))
scope_parts (Quantified r) vs = no_part
scope_parts (Exempted r rs) vs = no_part

pub parts_in : (s : Bool) (n : State) → PartsIn s n
parts_in s (AfterHead r) = begin_parts r
parts_in s (AfterConstant r sort ws) = begin_parts _
parts_in s (AfterField o) = begin_parts _
parts_in s (AfterRefName r b w) = behind_refs_parts b _
parts_in s (AfterTraitRef r b) = behind_refs_parts b r
parts_in s (InPart r) = begin_parts r
parts_in s (AfterSymbolForm n x) = form_parts n _
parts_in s (AfterMarkerSymbol n p x) = form_parts n _
parts_in s (AfterFormBracket c) = marks_parts c.naming c.behind c.bracket 0 c.pos
parts_in s (AfterBracketMarker c m) = marks_parts c.naming c.behind c.bracket m c.pos
parts_in s (AfterForm n f) = form_parts n f
parts_in s (AfterOperatorRef c rs) = begin_parts _
parts_in s (InItems r) = begin_parts r
parts_in s (FirstWord r w) = hand_parts s (word_frames w (Item (open_item r [] []))) (call_tree w [])
parts_in s (AfterSemicolon j) = begin_parts _
parts_in s (WordBehind j w) =
    hand_parts s (word_frames w (Item (open_item j.raw j.variables j.equations))) (call_tree w [])
parts_in s (AfterGroup sc vs) = scope_parts sc vs
parts_in s (AfterImplies r) = begin_parts r
parts_in s (AfterWord w k) = hand_parts s k _
parts_in s (NeedFirst b l p k) = bracket_parts b l p k
parts_in s (AfterSymbol x q k) = hand_parts s k _
parts_in s (Have q k) = hand_parts s k q
parts_in s n = no_part

-- one whole

behind_parts : {a b : Taking} {m n : Mark} {k l : State} {i j : List Marked} (y z : Whole) → AreRead i j
    → Parts a b → a ≡ Some (m, k) → b ≡ Some (n, l) → From k i y → From l j z → ⊥
behind_parts y z rs no_part e f a b = none_some e
behind_parts {i = i} {j = j} y z rs (a_part {r}) e f a b =
    parts_apart r y z rs (subst (λ p. From p.1 i y) (sym (some_equal e)) a)
    (subst (λ p. From p.1 j z) (sym (some_equal f)) b)

-- the same tokens are read as one whole
one_whole : {i j : List Marked} (n : State) (y z : Whole) → AreRead i j → From n i y → From n j z → y ≡ z
one_whole n y z none_read a b = some_equal (sym a ∙ b)
one_whole n y z (more_read {j = j} (same p) rs) a b =
    let e = some_equal (sym b.1 ∙ a.1) in
    one_whole a.0 y z rs a.2 (subst (λ p. From p.1 j z) e b.2)
one_whole n y z (more_read two_parts rs) a b = absurd (behind_parts y z rs (parts_in false n) a.1 b.1 a.2 b.2)

-- what is a trait in each of the two readings is one trait
across : (ts : List Token) (y z : RawTrait) → Spells (Traits false) ts y → Spells (Traits true) ts z → y ≡ z
across ts y z c d =
    let a = from_seen false c.0 Start (whole.Trait y) (complete_trait false false c.0 y c.1) in
    let b = from_seen true d.0 Start (whole.Trait z) (complete_trait true false d.0 z d.1) in
    trait_inj y z (one_whole Start (whole.Trait y) (whole.Trait z) (tokens_read c.0 d.0 (c.2 ∙ sym d.2)) a b)

one_by : (g h : Bool) (ts : List Token) (y z : RawTrait) → Spells (Traits g) ts y → Spells (Traits h) ts z → y ≡ z
one_by false false ts y z c d = one_trait false ts y z c d
one_by false true ts y z c d = across ts y z c d
one_by true false ts y z c d = sym (across ts z y d c)
one_by true true ts y z c d = one_trait true ts y z c d

-- a token list has at most one raw trait
pub one_trait_of_all : (ts : List Token) (y z : RawTrait) → Spells AnyTrait ts y → Spells AnyTrait ts z → y ≡ z
one_trait_of_all ts y z c d = one_by c.1.0 d.1.0 ts y z (c.0, c.1.1, c.2) (d.0, d.1.1, d.2)

-- the way back

trait_back : (tokens : TokenList) (raw : RawTrait) (g : Bool)
    → Means (Traits g) position_of_token tokens.end tokens.tokens (Ok raw)
    → (x y : Result RawTrait (Flaw × Pos)) → trait_by false tokens ≡ x → trait_by true tokens ≡ y
    → either tokens x y ≡ Ok raw
trait_back tokens raw false m x y p q = ap (λ b. either tokens b y) (sym p ∙ (reading_law false tokens (Ok raw)).1 m)
trait_back tokens raw true m (Ok other) y p q =
    ap Ok (across tokens.tokens other raw ((reading_law false tokens (Ok other)).0 p).1 m.1)
trait_back tokens raw true m (Err flaw) y p q =
    ap (λ b. either tokens (Err flaw) b) (sym q ∙ (reading_law true tokens (Ok raw)).1 m)

answer_back : (tokens : TokenList) (a : Result RawTrait (Flaw × Pos)) → MeansTrait tokens a → trait_answer tokens ≡ a
answer_back tokens (Ok raw) m = trait_back tokens raw m.0 m.1 (trait_by false tokens) (trait_by true tokens) refl refl
answer_back tokens (Err flaw) m =
    ap₂ (either tokens) ((reading_law false tokens (Err m.0)).1 m.2) ((reading_law true tokens (Err m.1)).1 m.3)
    ∙ ap Err (sym m.4)

-- the trait or the flaw of a token list is exactly what the grammar says
pub reading : (tokens : TokenList) (a : Result RawTrait (Flaw × Pos)) → (trait_answer tokens ≡ a) ↔ MeansTrait tokens a
reading tokens a = (trait_law tokens a, answer_back tokens a)
