-- Texts of replies, one behind the other, and fronts of them.
use Rattle.std.proofs.Common.{ℕ, List, [], ◌∷◌, ◌++◌, sym, subst, append_assoc, append-nil}
use Rattle.larch_main_session.specs.Replies.{Reply, IsShown, Spells, Texts, no_texts, one_text, Front, no_front}
use Rattle.larch_main_session.specs.Replies.{front_behind, front_within}

module _ {P : Reply → List ℕ → Type 0} where
  -- the text of one reply
  pub single : (reply : Reply) (written : List ℕ) → P reply written → Texts P (reply ∷ []) written
  single reply written is = subst (Texts P (reply ∷ [])) (append-nil written) (one_text written is no_texts)

  pub texts_then : {first second : List Reply} {written output : List ℕ} → Texts P first written
      → Texts P second output → Texts P (first ++ second) (written ++ output)
  texts_then no_texts more = more
  texts_then {second = second} {output = output}
      (one_text {reply = reply} {replies = replies} {output = rest} text is others) more =
      subst (Texts P (reply ∷ (replies ++ second))) (sym (append_assoc text rest output))
      (one_text text is (texts_then others more))

  pub texts_then_front : {first second : List Reply} {written front : List ℕ} → Texts P first written
      → Front P second front → Front P (first ++ second) (written ++ front)
  texts_then_front no_texts more = more
  texts_then_front {second = second} {front = front}
      (one_text {reply = reply} {replies = replies} {output = rest} text is others) more =
      subst (Front P (reply ∷ (replies ++ second))) (sym (append_assoc text rest front))
      (front_behind text is (texts_then_front others more))

  -- where there are whole texts, a front goes on to such
  pub front_goes_on : {replies : List Reply} {front output : List ℕ} → Front P replies front → Texts P replies output
      → (rest : List ℕ) × Texts P replies (front ++ rest)
  front_goes_on {output = output} no_front texts = (output, texts)
  front_goes_on (front_within front behind is)
      (one_text {reply = reply} {replies = replies} {output = output} text also others) = (
        behind ++ output,
        subst (Texts P (reply ∷ replies)) (append_assoc front behind output) (one_text (front ++ behind) is others),
      )
  front_goes_on (front_behind {front = front} written is more)
      (one_text {reply = reply} {replies = replies} {output = output} text also others) =
      let further = front_goes_on more others in (
        further.0,
        subst (Texts P (reply ∷ replies)) (sym (append_assoc written front further.0))
            (one_text written is further.1),
      )

-- what is shown may be written
pub texts_spelled : {replies : List Reply} {output : List ℕ} → Texts IsShown replies output
    → Texts Spells replies output
texts_spelled no_texts = no_texts
texts_spelled (one_text text is others) = one_text text is.spells (texts_spelled others)

pub front_spelled : {replies : List Reply} {front : List ℕ} → Front IsShown replies front → Front Spells replies front
front_spelled no_front = no_front
front_spelled (front_within front behind is) = front_within front behind is.spells
front_spelled (front_behind text is more) = front_behind text is.spells (front_spelled more)
