-- Tokens are slices of their text, in order.
use Rattle.std.proofs.Common.{ℕ, ◌≡◌, List, [], ◌∷◌, ◌++◌, refl, sym, ◌∙◌, ap, append_assoc, All, IfOk, Ok, Err}
use Rattle.std.proofs.lemmas.List.Elements.{All-nil, All-cons}
use Rattle.larch_base.specs.Position.{advance, position_behind}
use Rattle.larch_base.specs.declared.position.Pos.{Pos}
use Rattle.larch_lexer.specs.Order.{IsSliceOf}
use Rattle.larch_lexer.specs.TokenList.{TokenList}
use Rattle.larch_lexer.specs.TokenTable.{LexAnswer, with_tokens, Lexes, at_end, skips_blank, skips_comment, takes_token}
use Rattle.larch_lexer.specs.TokenTable.{no_token}
use Rattle.larch_lexer.specs.declared.token.Token.{Token}

-- behind some bytes and then others
pub behind_both : (position : Pos) (bytes more : List ℕ)
    → position_behind position (bytes ++ more) ≡ position_behind (position_behind position bytes) more
behind_both position [] more = refl
behind_both position (byte ∷ bytes) more = behind_both (advance position byte) bytes more

-- the text that is left of a whole, and the position where it begins
record Left (start : Pos) (whole : List ℕ) (position : Pos) (text : List ℕ) : Type 0 where
  pub before : List ℕ
  pub cut : whole ≡ before ++ text
  pub begins : position ≡ position_behind start before

left_behind : (start : Pos) (whole : List ℕ) (position : Pos) (front rest : List ℕ)
    → Left start whole position (front ++ rest) → Left start whole (position_behind position front) rest
left_behind start whole position front rest left = record {
  before = left.before ++ front;
  cut = left.cut ∙ sym (append_assoc left.before front rest);
  begins = ap (λ p. position_behind p front) left.begins ∙ sym (behind_both start left.before front);
}

-- what holds of the tokens of an answer
OfTokens : (Token → Type 0) → LexAnswer → Type 0
OfTokens P answer = IfOk answer (λ all. All P all.tokens)

of_one_more : (P : Token → Type 0) (token : Token) (answer : LexAnswer) → P token → OfTokens P answer
    → OfTokens P (with_tokens (token ∷ []) answer)
unfolding OfTokens
of_one_more P token (Ok all) holds rest = All-cons P token all.tokens holds rest
of_one_more P token (Err refusal) holds rest = rest

slices : (start : Pos) (whole : List ℕ) (position : Pos) (text : List ℕ) (answer : LexAnswer)
    → Lexes position text answer → Left start whole position text → OfTokens (IsSliceOf start whole) answer
unfolding OfTokens
slices start whole position text answer (at_end _) left = All-nil (IsSliceOf start whole)
slices start whole position text answer (skips_blank {byte = byte} {rest = rest} e more) left =
    slices start whole (advance position byte) rest answer more (left_behind start whole position (byte ∷ []) rest left)
slices start whole position text answer (skips_comment words rest all ends more) left =
    slices start whole (position_behind position (37 ∷ words)) rest answer more
    (left_behind start whole position (37 ∷ words) rest left)
slices start whole position text answer (takes_token {answer = later} kind front behind longest more) left =
    of_one_more (IsSliceOf start whole) (record { kind = kind; text = front; pos = position }) later
    (record { before = left.before; behind = behind; cut = left.cut; begins = left.begins })
    (slices start whole (position_behind position front) behind later more
    (left_behind start whole position front behind left))
slices start whole position text answer (no_token _ byte rest e percent none) left = tt

pub tokens_are_slices : (start : Pos) (text : List ℕ) (all : TokenList) → Lexes start text (Ok all)
    → All (IsSliceOf start text) all.tokens
unfolding OfTokens
tokens_are_slices start text all lexes =
    slices start text start text (Ok all) lexes (record { before = []; cut = refl; begins = refl })
