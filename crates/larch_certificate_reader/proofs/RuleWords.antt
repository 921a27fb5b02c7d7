-- The words of rules, by their bytes.
use Rattle.std.proofs.Common.{◌≡◌, ℕ, List, length, Some, sym, ◌∙◌, ap}
use Rattle.std.proofs.lemmas.Slice.Eq.{HasBytesAt, text_from_reads}
use Rattle.larch_certificate_text.specs.LineText.{read_rule_word, word_text}
use Rattle.larch_certificate_text.specs.declared.rule_word.RuleWord.{RuleWord}

-- a text with the length and the bytes of a word is that word
pub word_found : (text : List ℕ) (k : RuleWord) → length text ≡ length (word_text k)
    → HasBytesAt text 0 (word_text k) → Some k ≡ read_rule_word (word_text k) → Some k ≡ read_rule_word text
word_found text k l b r = r ∙ ap read_rule_word (sym (text_from_reads text (word_text k) l b))
