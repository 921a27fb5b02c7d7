-- Names of files are texts.
use Rattle.std.proofs.Common.{◌≡◌, ◌≢◌, ℕ, ◌+◌, ◌-◌, ◌<◌, ◌≤◌, Bool, true, false, ◌||◌, nat_le, List, [], ◌∷◌, length}
use Rattle.std.proofs.Common.{drop, get_or, refl, sym, subst, ap, ◌∙◌, arith, drop-drop, length-drop}
use Rattle.std.specs.List.{list_all, position_or_len}
use Rattle.std.specs.Prelude.{codes}
use Rattle.std.specs.Str.{IsAscii, IsUtf8}
use Rattle.std.specs.Cmp.Lexicographic.{bytes_decides}
use Rattle.std.proofs.lemmas.Bool.Decides.{nat_tests}
use Rattle.std.proofs.lemmas.List.Sums.{passes_at_first, split_at_first}
use Rattle.std.proofs.lemmas.Str.{IsAscii-append, IsUtf8-from_ascii}
use Rattle.std.proofs.lemmas.Str.Ascii.{IsAscii-cons, IsAscii-nil}
use Rattle.larch_base.proofs.Bools.{and_left, and_right}
use Rattle.larch_words.specs.Call.{is_certificate, is_model}
use Rattle.larch_base.specs.FileName.{ending_of, is_dot, is_file_name, is_stem, is_stem_byte, is_trait_file}
use Rattle.larch_base.specs.FileName.{is_script_file, stem_of}

stem_byte_low : (byte : ℕ) → is_stem_byte byte ≡ true → byte < 128
stem_byte_low byte e = grind (arith, nat_tests)

dot_low : (byte : ℕ) → is_dot byte ≡ true → byte < 128
dot_low byte e = grind (arith, nat_tests)

stem_is_ascii : (bytes : List ℕ) → list_all is_stem_byte bytes ≡ true → IsAscii bytes
stem_is_ascii [] e = IsAscii-nil
stem_is_ascii (byte ∷ bytes) e =
    IsAscii-cons byte bytes (stem_byte_low byte (and_left _ _ e))
    (stem_is_ascii bytes (and_right (is_stem_byte byte) _ e))

module _ (name ending : List ℕ) (stem : is_stem (stem_of name) ≡ true) (is : ending_of name ≡ ending)
    (some : 0 < length ending) (ascii : IsAscii ending) where
  inside : position_or_len is_dot name < length name
  inside =
      let long : length (drop (position_or_len is_dot name + 1) name) ≡ length ending = ap length is in
      omega (arith, length-drop (position_or_len is_dot name + 1) name)

  parts_are_ascii : IsAscii name
  parts_are_ascii =
      subst IsAscii (sym (split_at_first is_dot name 0 inside))
      (IsAscii-append (stem_of name) _ (stem_is_ascii (stem_of name) (and_right _ _ stem))
      (IsAscii-cons _ _ (dot_low _ (passes_at_first is_dot name 0 inside)) (subst IsAscii (sym is) ascii)))

trait_ending : IsAscii (codes "lsl")
trait_ending =
    IsAscii-cons 108 (115 ∷ 108 ∷ []) (omega arith)
    (IsAscii-cons 115 (108 ∷ []) (omega arith) (IsAscii-cons 108 [] (omega arith) IsAscii-nil))

script_ending : IsAscii (codes "lp")
script_ending = IsAscii-cons 108 (112 ∷ []) (omega arith) (IsAscii-cons 112 [] (omega arith) IsAscii-nil)

trait_is_ascii : (name : List ℕ) → is_trait_file name ≡ true → IsAscii name
trait_is_ascii name e =
    parts_are_ascii name (codes "lsl") (and_left _ _ e)
    ((bytes_decides (ending_of name) (codes "lsl")).0 (and_right (is_stem (stem_of name)) _ e))
    (omega arith) trait_ending

script_is_ascii : (name : List ℕ) → is_script_file name ≡ true → IsAscii name
script_is_ascii name e =
    parts_are_ascii name (codes "lp") (and_left _ _ e)
    ((bytes_decides (ending_of name) (codes "lp")).0 (and_right (is_stem (stem_of name)) _ e))
    (omega arith) script_ending

either_is_ascii : (name : List ℕ) (a b : Bool) → is_trait_file name ≡ a → is_script_file name ≡ b → (a || b) ≡ true
    → IsAscii name
either_is_ascii name true b p q e = trait_is_ascii name p
either_is_ascii name false true p q e = script_is_ascii name q
either_is_ascii name false false p q e = cc

-- the bytes of a name of a file are a text
pub name_is_text : (name : List ℕ) → is_file_name name ≡ true → IsUtf8 name
name_is_text name e =
    IsUtf8-from_ascii name (either_is_ascii name (is_trait_file name) (is_script_file name) refl refl e)

-- the ending of a name with these last bytes
ending_is : (name last ending : List ℕ) (size k : ℕ) → ending_of name ≡ ending → 0 < length ending
    → length ending + k ≡ size → size ≤ length name
    → drop (length name - size) name ≡ last → ending ≡ drop k last
ending_is name last ending size k is some long enough e =
    let place : ℕ = position_or_len is_dot name in
    let behind : length (drop (place + 1) name) ≡ length ending = ap length is in
    let rest = length-drop (place + 1) name in
    let at : (length name - size) + k ≡ place + 1 = omega (arith, behind, rest, some, long, enough) in
    sym is ∙ ap (λ n. drop n name) (sym at) ∙ sym (drop-drop k (length name - size) name) ∙ ap (λ xs. drop k xs) e

abbrev first_of : List ℕ → ℕ
first_of bytes = get_or bytes 0 0

-- the endings of names of files begin with other bytes than stand there in the name of a certificate or of a model
abbrev DifferAt : List ℕ → ℕ → List ℕ → Type 0
DifferAt ending k last = first_of ending ≡ first_of (drop k last) → ⊥

trait_first : first_of (codes "lsl") ≡ 108
trait_first = refl

script_first : first_of (codes "lp") ≡ 108
script_first = refl

other_than : (ending last : List ℕ) (k byte : ℕ) → first_of ending ≡ 108 → first_of (drop k last) ≡ byte → 108 ≢ byte
    → DifferAt ending k last
other_than ending last k byte e f other same = other (sym e ∙ same ∙ f)

trait_no_certificate : DifferAt (codes "lsl") 2 (codes ".cert")
trait_no_certificate = other_than (codes "lsl") (codes ".cert") 2 101 trait_first refl (λ e. absurd (omega (arith, e)))

script_no_certificate : DifferAt (codes "lp") 3 (codes ".cert")
script_no_certificate = other_than (codes "lp") (codes ".cert") 3 114 script_first refl (λ e. absurd (omega (arith, e)))

trait_no_model : DifferAt (codes "lsl") 1 (codes ".mod")
trait_no_model = other_than (codes "lsl") (codes ".mod") 1 109 trait_first refl (λ e. absurd (omega (arith, e)))

script_no_model : DifferAt (codes "lp") 2 (codes ".mod")
script_no_model = other_than (codes "lp") (codes ".mod") 2 111 script_first refl (λ e. absurd (omega (arith, e)))

no_ending : (name last ending : List ℕ) (size k : ℕ) → 0 < length ending → length ending + k ≡ size
    → DifferAt ending k last → size ≤ length name → drop (length name - size) name ≡ last
    → ending_of name ≡ ending → ⊥
no_ending name last ending size k some long differ enough is named =
    differ (ap first_of (ending_is name last ending size k named some long enough is))

-- a name that ends in one of these is no name of a file
no_file : (name last : List ℕ) (size k m : ℕ) → 3 + k ≡ size → 2 + m ≡ size → DifferAt (codes "lsl") k last
    → DifferAt (codes "lp") m last → size ≤ length name → drop (length name - size) name ≡ last
    → is_file_name name ≡ false
no_file name last size k m long short trait script enough is =
    by_kind (is_trait_file name) (is_script_file name) refl refl
  where
    by_kind : (a b : Bool) → is_trait_file name ≡ a → is_script_file name ≡ b → (a || b) ≡ false
    by_kind true b p q =
        absurd (no_ending name last (codes "lsl") size k (omega arith) long trait enough is
        ((bytes_decides (ending_of name) (codes "lsl")).0 (and_right (is_stem (stem_of name)) _ p)))
    by_kind false true p q =
        absurd (no_ending name last (codes "lp") size m (omega arith) short script enough is
        ((bytes_decides (ending_of name) (codes "lp")).0 (and_right (is_stem (stem_of name)) _ q)))
    by_kind false false p q = refl

at_least : (size : ℕ) (name : List ℕ) → nat_le size (length name) ≡ true → size ≤ length name
at_least size name le = grind (arith, nat_tests, le)

-- the name of a certificate is no name of a file
pub certificate_is_no_file : (name : List ℕ) → is_certificate name ≡ true → is_file_name name ≡ false
certificate_is_no_file name is =
    no_file name (codes ".cert") 5 2 3 refl refl trait_no_certificate script_no_certificate
    (at_least 5 name (and_left (nat_le 5 (length name)) _ is))
    ((bytes_decides (drop (length name - 5) name) (codes ".cert")).0 (and_right (nat_le 5 (length name)) _ is))

-- nor is that of a model
pub model_is_no_file : (name : List ℕ) → is_model name ≡ true → is_file_name name ≡ false
model_is_no_file name is =
    let rest = and_right (nat_le 4 (length name)) _ is in
    no_file name (codes ".mod") 4 1 2 refl refl trait_no_model script_no_model
    (at_least 4 name (and_left (nat_le 4 (length name)) _ is))
    ((bytes_decides (drop (length name - 4) name) (codes ".mod")).0 (and_left _ _ rest))
