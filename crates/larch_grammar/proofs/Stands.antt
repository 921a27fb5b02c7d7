-- A flaw stands where the whole grammar has it, whether references follow `implies` or an item does.
use Rattle.std.proofs.Common.{◌≡◌, ℕ, ◌⊎◌, Bool, true, false, not, cond, Option, Some, None, Result, Err, List, [], ◌∷◌}
use Rattle.std.proofs.Common.{◌++◌, All, map, inl, inr, refl, sym, ap, subst, ◌∙◌, append_assoc}
use Rattle.std.proofs.lemmas.List.{append-nil}
use Rattle.larch_base.specs.declared.position.Pos.{Pos}
use Rattle.larch_lexer.specs.Order.{Precedes, Rising}
use Rattle.larch_lexer.specs.TokenList.{TokenList}
use Rattle.larch_lexer.specs.declared.token.Token.{Token}
use Rattle.larch_grammar_law.specs.Claims.{Begins, Counted, Means, Spells, Stands, position_or, tokens_of}
use Rattle.larch_grammar_law.specs.declared.mark.Flaw.{Flaw}
use Rattle.larch_grammar_law.specs.declared.mark.Flaw.TheVariants.{Mixed, Syntax, Deep, Large}
use Rattle.larch_grammar_law.specs.declared.mark.Mark.{Mark}
use Rattle.larch_grammar_law.proofs.Walking.{head_equal, none_some, some_equal, tail_equal}
use Rattle.larch_raw.specs.declared.equation.RawTrait.{RawTrait}
use Rattle.larch_grammar.specs.Answers.{AnyTrait, StandsInAny, Traits, trait_answer, trait_by}
use Rattle.larch_grammar.specs.Form.{without_mark}
use Rattle.larch_grammar.specs.Leading.{behind_first, behind_group, behind_word, from_first, from_second, open_depth}
use Rattle.larch_grammar.specs.Leading.{or_further}
use Rattle.larch_grammar.specs.Leading as leading
use Rattle.larch_grammar.specs.Machine.{Taking, step}
use Rattle.larch_grammar.specs.Refused.{earlier, implied_tokens, is_counted, is_implies, known, position_of_token}
use Rattle.larch_grammar.specs.Refused.{reaches, reaches_end, which}
use Rattle.larch_grammar.specs.Traits.{begins_references, ends_references, as_marked}
use Rattle.larch_grammar.specs.declared.terminal.Terminal.{Terminal}
use Rattle.larch_grammar.specs.declared.terminal.Terminal.TheVariants.{Word, Open}
use Rattle.larch_grammar.specs.declared.machine.State.{State}
use Rattle.larch_grammar.specs.declared.machine.State.TheVariants.{Start, AfterImplies}
use Rattle.larch_grammar.specs.declared.machine.Whole.{Whole}
use Rattle.larch_grammar.specs.declared.machine.Whole.TheVariants as whole
use Rattle.larch_grammar.proofs.CompleteTraits.{complete_trait}
use Rattle.larch_grammar.proofs.Groups.{group}
use Rattle.larch_grammar.proofs.Inside.{counted_either}
use Rattle.larch_grammar.proofs.Law.{reading_law, trait_law}
use Rattle.larch_grammar.proofs.Places.{Ordered, end_local, ends_at, first_after, implied_local, one_earlier, opposite}
use Rattle.larch_grammar.proofs.Places.{precedes_earlier, rest_after, rising_ordered}
use Rattle.larch_grammar.proofs.Readings.{From, Parts, Read, a_part, ends, from_fits, from_seen, no_part, parts_in}
use Rattle.larch_grammar.proofs.Readings.{same, token_read, two_parts}

-- tokens with their marks, and without

-- tokens beside their marks
abbrev MarkedTokens : Type 0
MarkedTokens = List (Token × Mark)

ends_known : (ms : MarkedTokens)
    → ends_references (map (as_marked false) ms) ≡ leading.ends_references known (tokens_of ms)
ends_known [] = refl
ends_known (m ∷ ms) = refl

further_known : (o : Option ℕ) (ms : MarkedTokens)
    → ((n : ℕ) → ends (group n (map (as_marked false) ms)) ≡ ends_at (behind_group known n (tokens_of ms)))
    → ends (or_further o (map (as_marked false) ms) (λ n. group n (map (as_marked false) ms)))
    ≡ ends_at (or_further o (tokens_of ms) (λ n. behind_group known n (tokens_of ms)))
further_known None ms h = ends_known ms
further_known (Some n) ms h = h n

group_known : (ms : MarkedTokens) (n : ℕ)
    → ends (group n (map (as_marked false) ms)) ≡ ends_at (behind_group known n (tokens_of ms))
group_known [] n = refl
group_known (m ∷ ms) n = further_known (open_depth (known m.0) n) ms (group_known ms)

second_known : (x : Terminal) (m : Token × Mark) (ms : MarkedTokens)
    → ends (from_second without_mark x (as_marked false m) (map (as_marked false) ms))
    ≡ ends_at (from_second known x m.0 (tokens_of ms))
second_known (Open p) m ms = group_known ms 0
second_known _ m ms = refl

word_known : (ms : MarkedTokens)
    → ends (behind_word without_mark (map (as_marked false) ms)) ≡ ends_at (behind_word known (tokens_of ms))
word_known [] = refl
word_known (m ∷ ms) = second_known (known m.0) m ms

from_known : (x : Terminal) (ms : MarkedTokens)
    → ends (from_first without_mark x (map (as_marked false) ms)) ≡ ends_at (from_first known x (tokens_of ms))
from_known (Word w) ms = word_known ms
from_known _ ms = refl

begins_known : (ms : MarkedTokens)
    → begins_references (map (as_marked false) ms) ≡ ends_at (behind_first known (tokens_of ms))
begins_known [] = refl
begins_known (m ∷ ms) = from_known (known m.0) ms

-- no references stand behind `implies` in a trait where an item follows it

never_true : (b : Bool) → not b ≡ true → b ≡ false
never_true true e = sym e
never_true false e = refl

part_apart : {a b : Taking} {m : Mark} {k : State} (z : Whole) (ms : MarkedTokens) → Parts a b → a ≡ Some (m, k)
    → From k (map (as_marked false) ms) z → ends_at (behind_first known (tokens_of ms)) ≡ false
part_apart z ms no_part e a = absurd (none_some e)
part_apart z ms (a_part {r}) e a =
    let i = map (as_marked false) ms in
    let f = from_fits i (AfterImplies r) z (subst (λ p. From p.1 i z) (sym (some_equal e)) a) in
    sym (begins_known ms) ∙ never_true (begins_references (map (as_marked false) ms)) f.0

token_apart : {x y : Terminal} {m : Mark} {k : State} (n : State) (z : Whole) (ms : MarkedTokens) → Read x y
    → step false n x ≡ Some (m, k) → From k (map (as_marked false) ms) z
    → ends_at (behind_first known (implied_tokens (tokens_of ms))) ≡ false
    → ends_at (behind_first known (cond (is_implies x) (tokens_of ms) (implied_tokens (tokens_of ms)))) ≡ false
token_apart n z ms (same q) e a rest =
    subst (λ b. ends_at (behind_first known (cond b (tokens_of ms) (implied_tokens (tokens_of ms)))) ≡ false)
    (sym q) rest
token_apart n z ms two_parts e a rest = part_apart z ms (parts_in false n) e a

marked_apart : (ms : MarkedTokens) (n : State) (z : Whole) → From n (map (as_marked false) ms) z
    → ends_at (behind_first known (implied_tokens (tokens_of ms))) ≡ false
marked_apart [] n z a = refl
marked_apart (m ∷ ms) n z a = token_apart n z ms (token_read m.0) a.1 a.2 (marked_apart ms a.0 z a.2)

spelled_apart : (ts : List Token) (raw : RawTrait) → Spells (Traits false) ts raw
    → ends_at (behind_first known (implied_tokens ts)) ≡ false
spelled_apart ts raw s =
    subst (λ x. ends_at (behind_first known (implied_tokens x)) ≡ false) s.2
    (marked_apart s.0 Start (whole.Trait raw)
    (from_seen false s.0 Start (whole.Trait raw) (complete_trait false false s.0 raw s.1)))

-- what no trait begins with

-- no trait of this reading begins with these tokens and the first of those, or is these at the end
abbrev Never : Bool → List Token → List Token → Type 0
Never g us [] = (raw : RawTrait) → Spells (Traits g) us raw → ⊥
Never g us (t ∷ ts) = Begins (Traits g) (us ++ t ∷ []) → ⊥

stands_never : (g : Bool) (us ts : List Token) → Stands (Traits g) Syntax us ts → Never g us ts
stands_never g us [] s = s.1
stands_never g us (t ∷ ts) s = s.2

any_begins : (g : Bool) (us : List Token) → Begins (Traits g) us → Begins AnyTrait us
any_begins g us b = (b.0, b.1, (b.2.0, (g, b.2.1), b.2.2))

stands_begins : (g : Bool) (us ts : List Token) → Stands (Traits g) Syntax us ts → Begins AnyTrait us
stands_begins g us [] s = any_begins g us s.0
stands_begins g us (t ∷ ts) s = any_begins g us s.1

never_by : (g : Bool) (us ts : List Token) → Never false us ts → Never true us ts → Never g us ts
never_by false us ts a b = a
never_by true us ts a b = b

any_stands : (us ts : List Token) → Begins AnyTrait us → Never false us ts → Never true us ts → StandsInAny Syntax us ts
any_stands us [] s a b = (s, λ raw c. never_by c.1.0 us [] a b raw (c.0, c.1.1, c.2))
any_stands us (t ∷ ts) s a b = (s, λ c. never_by c.2.1.0 us (t ∷ ts) a b (c.0, c.1, (c.2.0, c.2.1.1, c.2.2)))

-- where the first reference is read to its end, no trait where an item follows begins so
never_item : (end : Pos) (us ts : List Token) → Ordered end (us ++ ts)
    → reaches_end (position_or position_of_token end ts) end (behind_first known (implied_tokens (us ++ ts))) ≡ true
    → Never false us ts
never_item end us [] o e =
    λ raw s. opposite (end_local end end (implied_tokens us)
    (subst (λ x. reaches_end end end (behind_first known (implied_tokens x)) ≡ true) (append-nil us) e))
    (spelled_apart us raw s)
never_item end us (t ∷ ts) o e =
    λ b. opposite (implied_local end us t ts b.0 o e) (spelled_apart ((us ++ t ∷ []) ++ b.0) b.1 b.2)

-- what no trait begins with, none begins with that is longer

first_cut : (us : List Token) (t : Token) (ts : List Token) → us ++ t ∷ ts ≡ ((us ++ []) ++ t ∷ []) ++ ts
first_cut us t ts = sym (ap (λ x. (x ++ t ∷ []) ++ ts) (append-nil us) ∙ append_assoc us (t ∷ []) ts)

later_cut : (us : List Token) (x : Token) (cs : List Token) (t : Token) (vs : List Token)
    → ((us ++ x ∷ cs) ++ t ∷ []) ++ vs ≡ ((us ++ []) ++ x ∷ []) ++ ((cs ++ t ∷ []) ++ vs)
later_cut us x cs t vs =
    ap (λ y. y ++ vs) (append_assoc us (x ∷ cs) (t ∷ [])) ∙ append_assoc us (x ∷ (cs ++ t ∷ [])) vs
    ∙ first_cut us x ((cs ++ t ∷ []) ++ vs)

never_on : (g : Bool) (us : List Token) (x : Token) (more cs ts : List Token) → Never g (us ++ []) (x ∷ more)
    → Never g (us ++ x ∷ cs) ts
never_on g us x more cs [] n = λ raw s. n (cs, raw, subst (λ y. Spells (Traits g) y raw) (first_cut us x cs) s)
never_on g us x more cs (t ∷ ts) n =
    λ b. n ((cs ++ t ∷ []) ++ b.0, b.1, subst (λ y. Spells (Traits g) y b.1) (later_cut us x cs t b.0) b.2)

never_later : (g : Bool) (end : Pos) (us bs ps cs qs : List Token) → bs ++ ps ≡ cs ++ qs → Ordered end (bs ++ ps)
    → earlier (position_or position_of_token end qs) (position_or position_of_token end ps) ≡ false
    → Never g (us ++ bs) ps → Never g (us ++ cs) qs
never_later g end us [] ps [] qs e o f n = subst (λ x. Never g (us ++ []) x) e n
never_later g end us [] ps (x ∷ cs) qs e o f n =
    never_on g us x (cs ++ qs) cs qs (subst (λ y. Never g (us ++ []) y) e n)
never_later g end us (y ∷ bs) ps [] qs e o f n =
    opposite (precedes_earlier y.pos (position_or position_of_token end ps)
    (first_after y.pos end ps (rest_after y.pos end bs ps o.0)))
    (subst (λ q. earlier (position_or position_of_token end q) (position_or position_of_token end ps) ≡ false)
    (sym e) f)
never_later g end us (y ∷ bs) ps (x ∷ cs) qs e o f n =
    subst (λ z. Never g (us ++ z ∷ cs) qs) (head_equal e)
    (subst (λ z. Never g z qs) (append_assoc us (y ∷ []) cs)
    (never_later g end (us ++ y ∷ []) bs ps cs qs (tail_equal e) o.1 f
    (subst (λ z. Never g z ps) (sym (append_assoc us (y ∷ []) bs)) n)))

-- flaws that are counted

any_counted : (g : Bool) (f : Flaw) (us : List Token) (t : Token) → Counted (Traits g) f us t → Counted AnyTrait f us t
any_counted g f us t c = (c.0, c.1, c.2, c.3, (g, c.4), c.5, c.6)

counted_stands : (g : Bool) (f : Flaw) (us ts : List Token) → is_counted f ≡ true → Stands (Traits g) f us ts
    → StandsInAny f us ts
counted_stands g Syntax us ts c s = let q : false ≡ true = c in absurd (cc)
counted_stands g Mixed us [] c s = s
counted_stands g Mixed us (t ∷ ts) c s = any_counted g Mixed us t s
counted_stands g Deep us [] c s = s
counted_stands g Deep us (t ∷ ts) c s = any_counted g Deep us t s.2
counted_stands g Large us [] c s = s
counted_stands g Large us (t ∷ ts) c s = any_counted g Large us t s.3

flaw_kind : (f : Flaw) → (f ≡ Syntax) ⊎ (is_counted f ≡ true)
flaw_kind Syntax = inl refl
flaw_kind Mixed = inr refl
flaw_kind Deep = inr refl
flaw_kind Large = inr refl

not_counted : (f : Flaw) → is_counted f ≡ false → f ≡ Syntax
not_counted Syntax e = refl
not_counted Mixed e = let q : true ≡ false = e in absurd (cc)
not_counted Deep e = let q : true ≡ false = e in absurd (cc)
not_counted Large e = let q : true ≡ false = e in absurd (cc)

-- what the law says of a flaw
abbrev Placed : TokenList → Flaw × Pos → Type 0
Placed tokens f =
    (us ts : List Token) × (tokens.tokens ≡ us ++ ts) × StandsInAny f.0 us ts
    × (f.1 ≡ position_or position_of_token tokens.end ts)

-- this reading refuses so
abbrev Refuses : Bool → TokenList → Flaw × Pos → Type 0
Refuses g tokens f = Means (Traits g) position_of_token tokens.end tokens.tokens (Err f)

counted_placed : (g : Bool) (tokens : TokenList) (f : Flaw × Pos) → is_counted f.0 ≡ true → Refuses g tokens f
    → Placed tokens f
counted_placed g tokens f c m = (m.0, m.1, m.2, counted_stands g f.0 m.0 m.1 c m.4, m.5)

-- SYNTAX of one reading, where the other goes on no further
syntax_placed : (g : Bool) (tokens : TokenList) (f : Flaw × Pos) → f.0 ≡ Syntax → (m : Refuses g tokens f)
    → (Never g m.0 m.1 → (Never false m.0 m.1) × (Never true m.0 m.1)) → Placed tokens f
syntax_placed g tokens f e m both =
    let s : Stands (Traits g) Syntax m.0 m.1 = subst (λ x. Stands (Traits g) x m.0 m.1) e m.4 in
    let n = both (stands_never g m.0 m.1 s) in (
      m.0,
      m.1,
      m.2,
      subst (λ x. StandsInAny x m.0 m.1) (sym e)
          (any_stands m.0 m.1 (stands_begins g m.0 m.1 s) n.0 n.1),
      m.5,
    )

syntax_never : (g : Bool) (tokens : TokenList) (f : Flaw × Pos) → f.0 ≡ Syntax → (m : Refuses g tokens f)
    → Never g m.0 m.1
syntax_never g tokens f e m = stands_never g m.0 m.1 (subst (λ x. Stands (Traits g) x m.0 m.1) e m.4)

-- where SYNTAX of one reading doesn't stand behind a place of the other, the one goes on no further there
never_behind : (g h : Bool) (tokens : TokenList) (f l : Flaw × Pos) → Ordered tokens.end tokens.tokens
    → f.0 ≡ Syntax → (m : Refuses g tokens f) (n : Refuses h tokens l) → earlier l.1 f.1 ≡ false → Never g n.0 n.1
never_behind g h tokens f l o e m n q =
    never_later g tokens.end [] m.0 m.1 n.0 n.1 (sym m.2 ∙ n.2) (subst (Ordered tokens.end) m.2 o)
    (subst (λ x. earlier x (position_or position_of_token tokens.end m.1) ≡ false) n.5
    (subst (λ x. earlier l.1 x ≡ false) m.5 q)) (syntax_never g tokens f e m)

-- the answer that is a flaw
abbrev refused : Flaw × Pos → Result RawTrait (Flaw × Pos)
refused f = Err f

err_equal : {f g : Flaw × Pos} → refused f ≡ refused g → f ≡ g
err_equal e = cc

module _ (tokens : TokenList) (item list : Flaw × Pos) (m : Refuses false tokens item)
    (n : Refuses true tokens list) (o : Ordered tokens.end tokens.tokens) where
  list_flaw : (list.0 ≡ Syntax → Never false n.0 n.1) → (list.0 ≡ Syntax) ⊎ (is_counted list.0 ≡ true)
      → Placed tokens list
  list_flaw h (inl e) = syntax_placed true tokens list e n (λ k. (h e, k))
  list_flaw h (inr c) = counted_placed true tokens list c n

  -- the first reference is read to its end
  reached : reaches tokens list.1 ≡ true → Placed tokens list
  reached r =
      list_flaw (λ e. never_item tokens.end n.0 n.1 (subst (Ordered tokens.end) n.2 o)
      (subst (λ x. reaches_end x tokens.end (behind_first known (implied_tokens (n.0 ++ n.1))) ≡ true) n.5
      (subst (λ x. reaches_end list.1 tokens.end (behind_first known (implied_tokens x)) ≡ true) n.2 r)))
      (flaw_kind list.0)

  same_flaw : {A : Type 0} → reaches tokens list.1 ≡ false → is_counted item.0 ≡ false → is_counted list.0 ≡ true
      → (trait_by false tokens ≡ Err list) ⊎ (reaches tokens list.1 ≡ true) → A
  same_flaw r c d (inl e) =
      opposite (ap (λ (f : Flaw × Pos). is_counted f.0)
      (err_equal (sym ((reading_law false tokens (Err item)).1 m) ∙ e)) ∙ d) c
  same_flaw r c d (inr e) = opposite e r

  -- before the first reference is read to its end, what is counted where references follow stands in the item too
  no_counted : {A : Type 0} → reaches tokens list.1 ≡ false → is_counted item.0 ≡ false → is_counted list.0 ≡ true → A
  no_counted r c d =
      same_flaw r c d (counted_either tokens.end tokens.tokens 0 Start list o d
      ((reading_law true tokens (Err list)).1 n))

  -- the item's flaw stands
  item_flaw : reaches tokens list.1 ≡ false → is_counted item.0 ≡ false → earlier item.1 list.1 ≡ false
      → (list.0 ≡ Syntax) ⊎ (is_counted list.0 ≡ true) → Placed tokens item
  item_flaw r c q (inl e) =
      syntax_placed false tokens item (not_counted item.0 c) m
      (λ k. (k, never_behind true false tokens list item o e n m q))
  item_flaw r c q (inr d) = no_counted r c d

  choose : (a b c : Bool) → reaches tokens list.1 ≡ a → is_counted item.0 ≡ b → earlier item.1 list.1 ≡ c
      → Placed tokens (cond a list (cond b item (cond c list item)))
  choose true b c p q r = reached p
  choose false true c p q r = counted_placed false tokens item q m
  choose false false true p q r =
      list_flaw (λ e. never_behind false true tokens item list o (not_counted item.0 q) m n
      (one_earlier item.1 list.1 r)) (flaw_kind list.0)
  choose false false false p q r = item_flaw p q r (flaw_kind list.0)

  chosen : Placed tokens (which tokens item list)
  chosen = choose (reaches tokens list.1) (is_counted item.0) (earlier item.1 list.1) refl refl refl

-- the flaw that is answered stands in the whole grammar
pub flaw_stands : (tokens : TokenList) (f : Flaw × Pos) → Rising tokens.tokens
    → All (λ (token : Token). Precedes token.pos tokens.end) tokens.tokens → trait_answer tokens ≡ Err f
    → Placed tokens f
flaw_stands tokens f rising before e =
    let m = trait_law tokens (Err f) e in
    subst (Placed tokens) (sym m.4)
    (chosen tokens m.0 m.1 m.2 m.3 (rising_ordered tokens.end tokens.tokens rising before))
