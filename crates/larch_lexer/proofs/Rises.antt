-- The positions of tokens rise, and the text ends behind all of its bytes.
use Rattle.std.proofs.Common.{ℕ, ◌≡◌, ◌+◌, ◌≤◌, ◌<◌, ◌==◌, ◌⊎◌, List, [], ◌∷◌, ◌++◌, refl, sym, subst, arith, inl, inr}
use Rattle.std.proofs.Common.{All, IfOk, Ok, Err}
use Rattle.std.proofs.lemmas.Bool.{cond_both}
use Rattle.std.proofs.lemmas.List.Elements.{All-nil, All-cons, All-weaker}
use Rattle.larch_base.specs.Position.{advance, position_behind}
use Rattle.larch_base.specs.declared.position.Pos.{Pos}
use Rattle.larch_lexer.specs.Order.{Precedes, Rising}
use Rattle.larch_lexer.specs.TokenList.{TokenList}
use Rattle.larch_lexer.specs.TokenTable.{Longest, LexAnswer, with_tokens, Lexes, at_end, skips_blank, skips_comment}
use Rattle.larch_lexer.specs.TokenTable.{takes_token, no_token}
use Rattle.larch_lexer.specs.declared.token.Kind.{Kind}
use Rattle.larch_lexer.specs.declared.token.Token.{Token}
use Rattle.larch_lexer.proofs.Slices.{behind_both}
use Rattle.larch_lexer.proofs.Table.{form_reaches}

-- the same position or a later one
abbrev pub NotAfter : Pos → Pos → Type 0
NotAfter earlier later = (earlier.line < later.line) ⊎ ((earlier.line ≡ later.line) × (earlier.column ≤ later.column))

same_place : (position : Pos) → NotAfter position position
same_place position = inr (refl, omega arith)

precedes_then : (p q r : Pos) → Precedes p q → NotAfter q r → Precedes p r
precedes_then p q r (inl h) (inl k) = inl (omega arith)
precedes_then p q r (inl h) (inr k) = inl (omega arith)
precedes_then p q r (inr h) (inl k) = inl (omega arith)
precedes_then p q r (inr h) (inr k) = inr (omega arith, omega arith)

loosely : (p q : Pos) → Precedes p q → NotAfter p q
loosely p q (inl h) = inl h
loosely p q (inr h) = inr (h.0, omega arith)

not_after_then : (p q r : Pos) → NotAfter p q → NotAfter q r → NotAfter p r
not_after_then p q r (inl h) (inl k) = inl (omega arith)
not_after_then p q r (inl h) (inr k) = inl (omega arith)
not_after_then p q r (inr h) (inl k) = inl (omega arith)
not_after_then p q r (inr h) (inr k) = inr (omega arith, omega arith)

advance_later : (position : Pos) (byte : ℕ) → Precedes position (advance position byte)
advance_later position byte =
    cond_both {A = Pos} (byte == 10) (record { line = position.line + 1; column = 1 })
    (record { line = position.line; column = position.column + 1 }) (Precedes position) (λ _. inl (omega arith))
    (λ _. inr (refl, omega arith))

behind_not_before : (position : Pos) (bytes : List ℕ) → NotAfter position (position_behind position bytes)
behind_not_before position [] = same_place position
behind_not_before position (byte ∷ bytes) =
    not_after_then position (advance position byte) (position_behind (advance position byte) bytes)
    (loosely position (advance position byte) (advance_later position byte))
    (behind_not_before (advance position byte) bytes)

behind_later : (kind : Kind) (position : Pos) (front behind : List ℕ) → Longest kind front behind
    → Precedes position (position_behind position front)
behind_later kind position [] behind longest = absurd (form_reaches kind [] behind longest.has_it)
behind_later kind position (byte ∷ bytes) behind longest =
    precedes_then position (advance position byte) (position_behind (advance position byte) bytes)
    (advance_later position byte) (behind_not_before (advance position byte) bytes)

-- the tokens stand from a position on, and their positions rise
InOrder : Pos → LexAnswer → Type 0
InOrder position answer = IfOk answer (λ all. All (λ token. NotAfter position token.pos) all.tokens × Rising all.tokens)

from_earlier : (position next : Pos) (answer : LexAnswer) → NotAfter position next → InOrder next answer
    → InOrder position answer
unfolding InOrder
from_earlier position next (Ok all) h order = (
  All-weaker (λ (token : Token). NotAfter next token.pos) (λ (token : Token). NotAfter position token.pos)
      (λ token k. not_after_then position next token.pos h k) all.tokens order.0,
  order.1,
)
from_earlier position next (Err refusal) h order = tt

one_more : (kind : Kind) (text : List ℕ) (position next : Pos) (answer : LexAnswer) → Precedes position next
    → InOrder next answer → InOrder position
    (with_tokens (record { kind = kind; text = text; pos = position } ∷ []) answer)
unfolding InOrder
one_more kind text position next (Ok all) h order =
    let token : Token = record { kind = kind; text = text; pos = position } in (
      All-cons (λ (later : Token). NotAfter position later.pos) token all.tokens (same_place position)
          (All-weaker (λ (later : Token). NotAfter next later.pos) (λ (later : Token). NotAfter position later.pos)
          (λ later k. not_after_then position next later.pos (loosely position next h) k) all.tokens order.0),
      (
        All-weaker (λ (later : Token). NotAfter next later.pos) (λ (later : Token). Precedes position later.pos)
            (λ later k. precedes_then position next later.pos h k) all.tokens order.0,
        order.1,
      ),
    )
one_more kind text position next (Err refusal) h order = tt

in_order : (position : Pos) (text : List ℕ) (answer : LexAnswer) → Lexes position text answer → InOrder position answer
unfolding InOrder
in_order position text answer (at_end _) = (All-nil (λ (token : Token). NotAfter position token.pos), tt)
in_order position text answer (skips_blank {byte = byte} {rest = rest} e more) =
    from_earlier position (advance position byte) answer
    (loosely position (advance position byte) (advance_later position byte))
    (in_order (advance position byte) rest answer more)
in_order position text answer (skips_comment words rest all ends more) =
    from_earlier position (position_behind position (37 ∷ words)) answer (behind_not_before position (37 ∷ words))
    (in_order (position_behind position (37 ∷ words)) rest answer more)
in_order position text answer (takes_token {answer = later} kind front behind longest more) =
    one_more kind front position (position_behind position front) later
    (behind_later kind position front behind longest) (in_order (position_behind position front) behind later more)
in_order position text answer (no_token _ byte rest e percent none) = tt

pub positions_rise : (start : Pos) (text : List ℕ) (all : TokenList) → Lexes start text (Ok all) → Rising all.tokens
unfolding InOrder
positions_rise start text all lexes = (in_order start text (Ok all) lexes).1

-- the answer has the end of the text
EndsAt : Pos → LexAnswer → Type 0
EndsAt position answer = IfOk answer (λ all. all.end ≡ position)

same_end : (tokens : List Token) (position : Pos) (answer : LexAnswer) → EndsAt position answer
    → EndsAt position (with_tokens tokens answer)
unfolding EndsAt
same_end tokens position (Ok all) e = e
same_end tokens position (Err refusal) e = tt

ends : (position : Pos) (text : List ℕ) (answer : LexAnswer) → Lexes position text answer
    → EndsAt (position_behind position text) answer
unfolding EndsAt
ends position text answer (at_end _) = refl
ends position text answer (skips_blank {byte = byte} {rest = rest} e more) =
    ends (advance position byte) rest answer more
ends position text answer (skips_comment words rest all line more) =
    subst (λ last. EndsAt last answer) (sym (behind_both position (37 ∷ words) rest))
    (ends (position_behind position (37 ∷ words)) rest answer more)
ends position text answer (takes_token {answer = later} kind front behind longest more) =
    same_end (record { kind = kind; text = front; pos = position } ∷ [])
    (position_behind position (front ++ behind)) later
    (subst (λ last. EndsAt last later) (sym (behind_both position front behind))
    (ends (position_behind position front) behind later more))
ends position text answer (no_token _ byte rest e percent none) = tt

pub end_is_behind : (start : Pos) (text : List ℕ) (all : TokenList) → Lexes start text (Ok all)
    → all.end ≡ position_behind start text
unfolding EndsAt
end_is_behind start text all lexes = ends start text (Ok all) lexes
