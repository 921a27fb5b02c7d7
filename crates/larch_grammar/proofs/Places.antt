-- Where tokens rise, the place of a flaw says how many tokens stand before it; and whether a list of references ends
-- before that place is seen from the tokens up to it.
use Rattle.std.proofs.Common.{◌≡◌, ℕ, ◌==◌, ◌&&◌, ◌⊎◌, nat_lt, Bool, true, false, not, cond, Option, Some, None, List}
use Rattle.std.proofs.Common.{[], ◌∷◌, ◌++◌, All, inl, inr, refl, sym, ap, ◌∙◌, arith}
use Rattle.std.proofs.lemmas.Bool.{eq-eqb, eqb-true, lt-ltb, ltb-true, or_cases, or_left, or_right}
use Rattle.std.proofs.lemmas.List.Elements.{All-head, All-tail}
use Rattle.larch_base.specs.declared.position.Pos.{Pos}
use Rattle.larch_lexer.specs.Order.{Precedes, Rising}
use Rattle.larch_lexer.specs.declared.token.Token.{Token}
use Rattle.larch_grammar_law.specs.Claims.{position_or}
use Rattle.larch_grammar.specs.Leading.{behind_first, behind_group, behind_word, ends_behind, ends_references}
use Rattle.larch_grammar.specs.Leading.{from_first, from_second, open_depth, or_further}
use Rattle.larch_grammar.specs.Refused.{earlier, implied_tokens, is_implies, known, position_of_token, reaches_end}
use Rattle.larch_grammar.specs.declared.terminal.Terminal.{Terminal}
use Rattle.larch_grammar.specs.declared.terminal.Terminal.TheVariants.{Word, Open, Generated, Partitioned}

pub left_true : (a b : Bool) → (a && b) ≡ true → a ≡ true
left_true true b e = refl
left_true false b e = e

pub both_true : (a b : Bool) → a ≡ true → b ≡ true → (a && b) ≡ true
both_true true b e f = f
both_true false b e f = e

right_true : (a b : Bool) → (a && b) ≡ true → b ≡ true
right_true true b e = e
right_true false b e = let q : false ≡ true = e in cc

right_false : (a b : Bool) → b ≡ false → (a && b) ≡ false
right_false true b e = e
right_false false b e = refl

pub opposite : {A : Type 0} {b : Bool} → b ≡ true → b ≡ false → A
opposite e f = let q : true ≡ false = sym e ∙ f in cc

-- positions

-- a position that precedes another is earlier
pub precedes_earlier : (p q : Pos) → Precedes p q → earlier p q ≡ true
precedes_earlier p q (inl h) =
    or_left (nat_lt p.line q.line) (p.line == q.line && nat_lt p.column q.column) (lt-ltb p.line q.line h)
precedes_earlier p q (inr h) =
    or_right (nat_lt p.line q.line) (p.line == q.line && nat_lt p.column q.column)
    (both_true (p.line == q.line) (nat_lt p.column q.column) (eq-eqb p.line q.line h.0)
    (lt-ltb p.column q.column h.1))

earlier_cases : (p q : Pos)
    → (nat_lt p.line q.line ≡ true) ⊎ ((p.line == q.line && nat_lt p.column q.column) ≡ true) → Precedes p q
earlier_cases p q (inl h) = inl (ltb-true p.line q.line h)
earlier_cases p q (inr h) =
    let same = left_true (p.line == q.line) (nat_lt p.column q.column) h in
    let before = right_true (p.line == q.line) (nat_lt p.column q.column) h in
    inr (eqb-true p.line q.line same, ltb-true p.column q.column before)

-- what is earlier precedes
earlier_precedes : (p q : Pos) → earlier p q ≡ true → Precedes p q
earlier_precedes p q e =
    earlier_cases p q (or_cases (nat_lt p.line q.line) (p.line == q.line && nat_lt p.column q.column) e)

not_preceding : (p q : Pos) → (Precedes p q → ⊥) → earlier p q ≡ false
not_preceding p q n = by (earlier p q) refl
  where
    by : (b : Bool) → earlier p q ≡ b → earlier p q ≡ false
    by true e = absurd (n (earlier_precedes p q e))
    by false e = e

never_both : (p q : Pos) → Precedes p q → Precedes q p → ⊥
never_both p q (inl h) (inl k) = omega arith
never_both p q (inl h) (inr k) = omega (arith, k.0)
never_both p q (inr h) (inl k) = omega (arith, h.0)
never_both p q (inr h) (inr k) = omega (arith, h.1, k.1)

precedes_then : (p q r : Pos) → Precedes p q → Precedes q r → Precedes p r
precedes_then p q r (inl h) (inl k) = inl (omega arith)
precedes_then p q r (inl h) (inr k) = inl (omega (arith, k.0))
precedes_then p q r (inr h) (inl k) = inl (omega (arith, h.0))
precedes_then p q r (inr h) (inr k) = inr (h.0 ∙ k.0, omega (arith, h.1, k.1))

-- no position is earlier than itself
pub never_itself : (p : Pos) → earlier p p ≡ false
never_itself p = not_preceding p p (λ h. never_both p p h h)

-- what isn't earlier than a position isn't earlier than one that precedes it
pub not_earlier : (p q r : Pos) → Precedes p q → earlier r q ≡ false → earlier r p ≡ false
not_earlier p q r h e = not_preceding r p (λ k. opposite (precedes_earlier r q (precedes_then r p q k h)) e)

-- of two positions one alone is earlier
pub one_earlier : (p q : Pos) → earlier p q ≡ true → earlier q p ≡ false
one_earlier p q e = not_preceding q p (λ k. never_both p q (earlier_precedes p q e) k)

-- tokens in order

-- a position precedes these tokens and the end
abbrev pub After : Pos → Pos → List Token → Type 0
After p end [] = Precedes p end
After p end (t ∷ ts) = Precedes p t.pos × After p end ts

-- each of these tokens precedes those that follow it, and the end
abbrev pub Ordered : Pos → List Token → Type 0
Ordered end [] = Unit {0}
Ordered end (t ∷ ts) = After t.pos end ts × Ordered end ts

all_after : (p end : Pos) (ts : List Token) → All (λ (later : Token). Precedes p later.pos) ts → Precedes p end
    → After p end ts
all_after p end [] a b = b
all_after p end (t ∷ ts) a b =
    let rest = All-tail (λ (later : Token). Precedes p later.pos) t ts a in
    (All-head (λ (later : Token). Precedes p later.pos) t ts a, all_after p end ts rest b)

pub rising_ordered : (end : Pos) (ts : List Token) → Rising ts → All (λ (t : Token). Precedes t.pos end) ts
    → Ordered end ts
rising_ordered end [] r a = tt
rising_ordered end (t ∷ ts) r a =
    let first = All-head (λ (u : Token). Precedes u.pos end) t ts a in
    let rest = All-tail (λ (u : Token). Precedes u.pos end) t ts a in
    (all_after t.pos end ts r.0 first, rising_ordered end ts r.1 rest)

pub first_after : (p end : Pos) (ts : List Token) → After p end ts → Precedes p (position_or position_of_token end ts)
first_after p end [] a = a
first_after p end (t ∷ ts) a = a.0

pub rest_after : (p end : Pos) (us ts : List Token) → After p end (us ++ ts) → After p end ts
rest_after p end [] ts a = a
rest_after p end (u ∷ us) ts a = rest_after p end us ts a.1

-- no list of references ends before a position that precedes all these tokens

never_some : (p end : Pos) (ts : List Token) → After p end ts → reaches_end p end (Some ts) ≡ false
never_some p end ts a =
    right_false (ends_references known ts) _
    (ap not (precedes_earlier p (position_or position_of_token end ts) (first_after p end ts a)))

never_further : (p end : Pos) (o : Option ℕ) (ts : List Token) → After p end ts
    → ((n : ℕ) → reaches_end p end (behind_group known n ts) ≡ false)
    → reaches_end p end (or_further o ts (λ n. behind_group known n ts)) ≡ false
never_further p end None ts a h = never_some p end ts a
never_further p end (Some n) ts a h = h n

never_group : (p end : Pos) (ts : List Token) (n : ℕ) → After p end ts
    → reaches_end p end (behind_group known n ts) ≡ false
never_group p end [] n a = refl
never_group p end (t ∷ ts) n a = never_further p end (open_depth (known t) n) ts a.1 (λ m. never_group p end ts m a.1)

never_second : (p end : Pos) (x : Terminal) (t : Token) (ts : List Token) → After p end (t ∷ ts)
    → reaches_end p end (from_second known x t ts) ≡ false
never_second p end (Open q) t ts a = never_group p end ts 0 a.1
never_second p end Generated t ts a = refl
never_second p end Partitioned t ts a = refl
never_second p end _ t ts a = never_some p end (t ∷ ts) a

never_word : (p end : Pos) (ts : List Token) → After p end ts → reaches_end p end (behind_word known ts) ≡ false
never_word p end [] a = never_some p end [] a
never_word p end (t ∷ ts) a = never_second p end (known t) t ts a

never_from : (p end : Pos) (x : Terminal) (ts : List Token) → After p end ts
    → reaches_end p end (from_first known x ts) ≡ false
never_from p end (Word w) ts a = never_word p end ts a
never_from p end _ ts a = refl

never_first : (p end : Pos) (ts : List Token) → After p end ts → reaches_end p end (behind_first known ts) ≡ false
never_first p end [] a = refl
never_first p end (t ∷ ts) a = never_from p end (known t) ts a.1

never_either : (p end : Pos) (b : Bool) (ts us : List Token) → reaches_end p end (behind_first known ts) ≡ false
    → reaches_end p end (behind_first known us) ≡ false
    → reaches_end p end (behind_first known (cond b ts us)) ≡ false
never_either p end true ts us e f = e
never_either p end false ts us e f = f

never_implied : (p end : Pos) (ts : List Token) → After p end ts
    → reaches_end p end (behind_first known (implied_tokens ts)) ≡ false
never_implied p end [] a = refl
never_implied p end (t ∷ ts) a =
    never_either p end (is_implies (known t)) ts (implied_tokens ts) (never_first p end ts a.1)
    (never_implied p end ts a.1)

-- where a list of references ends up to a token, it ends there whatever follows the token

-- a list of references ends there
abbrev pub ends_at : Option (List Token) → Bool
ends_at o = ends_behind known o

some_local : (us : List Token) (t : Token) (ts vs : List Token) → ends_references known (us ++ t ∷ ts) ≡ true
    → ends_references known ((us ++ t ∷ []) ++ vs) ≡ true
some_local [] t ts vs e = e
some_local (u ∷ us) t ts vs e = e

further_local : (end : Pos) (o : Option ℕ) (us : List Token) (t : Token) (ts vs : List Token)
    → ((n : ℕ) → reaches_end t.pos end (behind_group known n (us ++ t ∷ ts)) ≡ true
    → ends_at (behind_group known n ((us ++ t ∷ []) ++ vs)) ≡ true)
    → reaches_end t.pos end (or_further o (us ++ t ∷ ts) (λ n. behind_group known n (us ++ t ∷ ts))) ≡ true
    → ends_at (or_further o ((us ++ t ∷ []) ++ vs) (λ n. behind_group known n ((us ++ t ∷ []) ++ vs))) ≡ true
further_local end None us t ts vs h e = some_local us t ts vs (left_true (ends_references known (us ++ t ∷ ts)) _ e)
further_local end (Some n) us t ts vs h e = h n e

group_local : (end : Pos) (us : List Token) (t : Token) (ts vs : List Token) (n : ℕ) → Ordered end (us ++ t ∷ ts)
    → reaches_end t.pos end (behind_group known n (us ++ t ∷ ts)) ≡ true
    → ends_at (behind_group known n ((us ++ t ∷ []) ++ vs)) ≡ true
group_local end [] t ts vs n o e =
    opposite e (never_further t.pos end (open_depth (known t) n) ts o.0 (λ m. never_group t.pos end ts m o.0))
group_local end (u ∷ us) t ts vs n o e =
    further_local end (open_depth (known u) n) us t ts vs (λ m f. group_local end us t ts vs m o.1 f) e

second_here : (end : Pos) (x : Terminal) (t : Token) (ts vs : List Token) → After t.pos end ts
    → reaches_end t.pos end (from_second known x t ts) ≡ true → ends_at (from_second known x t vs) ≡ true
second_here end (Open q) t ts vs a e = opposite e (never_group t.pos end ts 0 a)
second_here end Generated t ts vs a e = e
second_here end Partitioned t ts vs a e = e
second_here end _ t ts vs a e = left_true (ends_references known (t ∷ ts)) _ e

second_local : (end : Pos) (x : Terminal) (u : Token) (us : List Token) (t : Token) (ts vs : List Token)
    → Ordered end (us ++ t ∷ ts) → reaches_end t.pos end (from_second known x u (us ++ t ∷ ts)) ≡ true
    → ends_at (from_second known x u ((us ++ t ∷ []) ++ vs)) ≡ true
second_local end (Open q) u us t ts vs o e = group_local end us t ts vs 0 o e
second_local end Generated u us t ts vs o e = e
second_local end Partitioned u us t ts vs o e = e
second_local end _ u us t ts vs o e = left_true (ends_references known (u ∷ us ++ t ∷ ts)) _ e

word_local : (end : Pos) (us : List Token) (t : Token) (ts vs : List Token) → Ordered end (us ++ t ∷ ts)
    → reaches_end t.pos end (behind_word known (us ++ t ∷ ts)) ≡ true
    → ends_at (behind_word known ((us ++ t ∷ []) ++ vs)) ≡ true
word_local end [] t ts vs o e = second_here end (known t) t ts vs o.0 e
word_local end (u ∷ us) t ts vs o e = second_local end (known u) u us t ts vs o.1 e

from_local : (end : Pos) (x : Terminal) (us : List Token) (t : Token) (ts vs : List Token)
    → Ordered end (us ++ t ∷ ts) → reaches_end t.pos end (from_first known x (us ++ t ∷ ts)) ≡ true
    → ends_at (from_first known x ((us ++ t ∷ []) ++ vs)) ≡ true
from_local end (Word w) us t ts vs o e = word_local end us t ts vs o e
from_local end _ us t ts vs o e = e

first_local : (end : Pos) (us : List Token) (t : Token) (ts vs : List Token) → Ordered end (us ++ t ∷ ts)
    → reaches_end t.pos end (behind_first known (us ++ t ∷ ts)) ≡ true
    → ends_at (behind_first known ((us ++ t ∷ []) ++ vs)) ≡ true
first_local end [] t ts vs o e = opposite e (never_from t.pos end (known t) ts o.0)
first_local end (u ∷ us) t ts vs o e = from_local end (known u) us t ts vs o.1 e

either_local : (end : Pos) (b : Bool) (t : Token) (us ts vs ws : List Token)
    → (reaches_end t.pos end (behind_first known us) ≡ true → ends_at (behind_first known vs) ≡ true)
    → (reaches_end t.pos end (behind_first known ts) ≡ true → ends_at (behind_first known ws) ≡ true)
    → reaches_end t.pos end (behind_first known (cond b us ts)) ≡ true
    → ends_at (behind_first known (cond b vs ws)) ≡ true
either_local end true t us ts vs ws g h e = g e
either_local end false t us ts vs ws g h e = h e

-- where references are read up to a token behind `implies`, they are whatever follows the token
pub implied_local : (end : Pos) (us : List Token) (t : Token) (ts vs : List Token) → Ordered end (us ++ t ∷ ts)
    → reaches_end t.pos end (behind_first known (implied_tokens (us ++ t ∷ ts))) ≡ true
    → ends_at (behind_first known (implied_tokens ((us ++ t ∷ []) ++ vs))) ≡ true
implied_local end [] t ts vs o e =
    opposite e (never_either t.pos end (is_implies (known t)) ts (implied_tokens ts) (never_first t.pos end ts o.0)
    (never_implied t.pos end ts o.0))
implied_local end (u ∷ us) t ts vs o e =
    either_local end (is_implies (known u)) t (us ++ t ∷ ts) (implied_tokens (us ++ t ∷ ts)) ((us ++ t ∷ []) ++ vs)
    (implied_tokens ((us ++ t ∷ []) ++ vs))
    (λ f. first_local end us t ts vs o.1 f) (λ f. implied_local end us t ts vs o.1 f) e

some_end : (place end : Pos) (o : Option (List Token)) → reaches_end place end o ≡ true → ends_at o ≡ true
some_end place end None e = e
some_end place end (Some ts) e = left_true (ends_references known ts) _ e

-- the same at the end of the tokens
pub end_local : (place end : Pos) (ts : List Token) → reaches_end place end (behind_first known ts) ≡ true
    → ends_at (behind_first known ts) ≡ true
end_local place end ts e = some_end place end (behind_first known ts) e
