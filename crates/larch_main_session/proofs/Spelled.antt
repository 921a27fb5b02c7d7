-- The lines of commands: they are lines, and spell their commands.
use Rattle.std.proofs.Common.{◌≡◌, ◌≢◌, ℕ, ◌+◌, ◌<◌, ◌≤◌, ◌&&◌, ◌||◌, Bool, true, false, nat_le, List}
use Rattle.std.proofs.Common.{[], ◌∷◌, ◌++◌, length, take, drop, get_or}
use Rattle.std.proofs.Common.{Option, Some, None, refl, sym, subst, ap, ap₂, ◌∙◌}
use Rattle.std.proofs.Common.{if◌then◌else◌, arith, codes, length-append, length-drop}
use Rattle.std.specs.Prelude.{option_map}
use Rattle.std.specs.List.{All, position_or_len, before_first, after_first}
use Rattle.std.specs.Str.{bytes_eq}
use Rattle.std.specs.Cmp.Lexicographic.{bytes_decides}
use Rattle.std.proofs.lemmas.Bool.Decides.{nat_tests}
use Rattle.std.proofs.lemmas.Grind.{common_steps}
use Rattle.std.proofs.lemmas.List.Elements.{All-append, All-cons, All-nil, All-weaker}
use Rattle.std.proofs.lemmas.List.Sums.{passes_at_first, position_or_len_is, split_at_first}
use Rattle.std.proofs.Math.Seq.{take-append_seam, drop-append-add}
use Rattle.larch_base.proofs.Bools.{and_both, and_left, and_right}
use Rattle.larch_base.specs.FileName.{ending_of, is_dot, is_file_name, is_script_file, is_stem}
use Rattle.larch_base.specs.FileName.{is_trait_file, stem_of}
use Rattle.larch_base.specs.Label.{read_label}
use Rattle.larch_base.specs.declared.label.Label.{Label}
use Rattle.larch_io.specs.Take.{HasNoNewline, IsLine}
use Rattle.larch_main_session.specs.declared.command.Command.{Command}
use Rattle.larch_main_session.specs.declared.command.Command.TheVariants.{Derive, Drop, Put}
use Rattle.larch_main_session.specs.Command.{are_digits, command_of, derive_of, drop_of, is_blank, is_length}
use Rattle.larch_main_session.specs.Command.{number_of_digits, put_of}
use Rattle.larch_main_session.specs.Input.{Entry}
use Rattle.larch_main_session.specs.Input.{IsSpelled, empty_line, put_line, drop_line, report_line, derive_line}
use Rattle.larch_main_session.specs.Input.{quit_line}
use Rattle.larch_main_session.proofs.Plain.{IsPlain, IsShortWord, label_word, plain_digits, plain_word, stem_word}

dot_plain : (byte : ℕ) → is_dot byte ≡ true → 33 ≤ byte
dot_plain byte e = grind (arith, nat_tests)

plain_is_no_newline : (byte : ℕ) → 33 ≤ byte → byte ≢ 10
plain_is_no_newline byte e same = absurd (omega (arith, e, same))

blank_is_no_newline : (byte : ℕ) → is_blank byte ≡ true → byte ≢ 10
blank_is_no_newline byte e same = absurd (grind (arith, nat_tests))

plain_is_no_blank : (byte : ℕ) → 33 ≤ byte → is_blank byte ≡ false
plain_is_no_blank byte e = grind (arith, nat_tests)

module _ (name ending : List ℕ) (stem : is_stem (stem_of name) ≡ true) (is : ending_of name ≡ ending)
    (some : 0 < length ending) (few : length ending ≤ 3) (plain : All IsPlain ending) where
  inside : position_or_len is_dot name < length name
  inside =
      let long : length (drop (position_or_len is_dot name + 1) name) ≡ length ending = ap length is in
      omega (arith, length-drop (position_or_len is_dot name + 1) name)

  split : name ≡ stem_of name ++ (get_or name (position_or_len is_dot name) 0 ∷ ending_of name)
  split = split_at_first is_dot name 0 inside

  parts_plain : All IsPlain name
  parts_plain =
      subst (All IsPlain) (sym split)
      (All-append IsPlain (stem_of name) _ (stem_word (stem_of name) stem).0
      (All-cons IsPlain _ _ (dot_plain _ (passes_at_first is_dot name 0 inside)) (subst (All IsPlain) (sym is) plain)))

  parts_short : length name ≤ 68
  parts_short =
      let long : length name
      ≡ length (stem_of name) + length (get_or name (position_or_len is_dot name) 0 ∷ ending_of name) =
      ap length split ∙ length-append (stem_of name) (get_or name (position_or_len is_dot name) 0 ∷ ending_of name) in
      let last : length (ending_of name) ≡ length ending = ap length is in
      let short = (stem_word (stem_of name) stem).1 in omega (arith, long, last, short, few)

trait_ending : All IsPlain (codes "lsl")
trait_ending = plain_word (codes "lsl") refl

script_ending : All IsPlain (codes "lp")
script_ending = plain_word (codes "lp") refl

trait_word : (name : List ℕ) → is_trait_file name ≡ true → IsShortWord 68 name
trait_word name e =
    let stem : is_stem (stem_of name) ≡ true = and_left _ _ e in
    let is : ending_of name ≡ codes "lsl" =
    (bytes_decides (ending_of name) (codes "lsl")).0 (and_right (is_stem (stem_of name)) _ e) in (
      parts_plain name (codes "lsl") stem is (omega arith) (omega arith) trait_ending,
      parts_short name (codes "lsl") stem is (omega arith) (omega arith) trait_ending,
    )

script_word : (name : List ℕ) → is_script_file name ≡ true → IsShortWord 68 name
script_word name e =
    let stem : is_stem (stem_of name) ≡ true = and_left _ _ e in
    let is : ending_of name ≡ codes "lp" =
    (bytes_decides (ending_of name) (codes "lp")).0 (and_right (is_stem (stem_of name)) _ e) in (
      parts_plain name (codes "lp") stem is (omega arith) (omega arith) script_ending,
      parts_short name (codes "lp") stem is (omega arith) (omega arith) script_ending,
    )

file_word : (name : List ℕ) → is_file_name name ≡ true → IsShortWord 68 name
file_word name e = by_kind (is_trait_file name) (is_script_file name) refl refl e
  where
    by_kind : (a b : Bool) → is_trait_file name ≡ a → is_script_file name ≡ b → (a || b) ≡ true → IsShortWord 68 name
    by_kind true b p q e = trait_word name p
    by_kind false true p q e = script_word name q
    by_kind false false p q e = cc

length_word : (digits : List ℕ) → is_length digits ≡ true → IsShortWord 8 digits
length_word [] e = cc
length_word (digit ∷ digits) e =
    let form = and_left _ _ e in
    let few : nat_le (length digits) 7 ≡ true = and_right (are_digits (digit ∷ digits)) _ form in (
      plain_digits (digit ∷ digits) (and_left (are_digits (digit ∷ digits)) _ form),
      grind (arith, nat_tests, few),
    )

no_newlines : (word : List ℕ) → All IsPlain word → HasNoNewline word
no_newlines word plain = All-weaker IsPlain (λ byte. byte ≢ 10) plain_is_no_newline word plain

put_word : All IsPlain (codes "put")
put_word = plain_word (codes "put") refl

drop_word : All IsPlain (codes "drop")
drop_word = plain_word (codes "drop") refl

derive_word : All IsPlain (codes "derive")
derive_word = plain_word (codes "derive") refl

-- words with a blank between them
joined : (word rest : List ℕ) (blank : ℕ) → All IsPlain word → is_blank blank ≡ true → HasNoNewline rest
    → HasNoNewline (word ++ (blank ∷ rest))
joined word rest blank plain is more =
    All-append (λ byte. byte ≢ 10) word (blank ∷ rest) (no_newlines word plain)
    (All-cons (λ byte. byte ≢ 10) blank rest (blank_is_no_newline blank is) more)

-- the line of a command is a line
pub spelled_is_line : {entry : Entry} {line : List ℕ} → IsSpelled entry line → IsLine line
spelled_is_line empty_line = (All-nil (λ byte. byte ≢ 10), omega arith)
spelled_is_line (put_line name bytes digits blank between p q named form number short) =
    let word = file_word name named in
    let ends = length_word digits form in
    let long = length-append name (between ∷ digits) in
    let a = word.1 in let b = ends.1 in (
      joined (codes "put") (name ++ (between ∷ digits)) blank put_word p
          (joined name digits between word.0 q (no_newlines digits ends.0)),
      omega (arith, long, a, b),
    )
spelled_is_line (drop_line name blank p named) =
    let word = file_word name named in
    let a = word.1 in
    (joined (codes "drop") name blank drop_word p (no_newlines name word.0), omega (arith, a))
spelled_is_line report_line = (no_newlines (codes "report") (plain_word (codes "report") refl), omega arith)
spelled_is_line (derive_line stem word label blank between p q named is) =
    let first = stem_word stem named in
    let second = label_word word label is in
    let long = length-append stem (between ∷ word) in
    let a = first.1 in let b = second.1 in (
      joined (codes "derive") (stem ++ (between ∷ word)) blank derive_word p
          (joined stem word between first.0 q (no_newlines word second.0)),
      omega (arith, long, a, b),
    )
spelled_is_line quit_line = (no_newlines (codes "quit") (plain_word (codes "quit") refl), omega arith)

-- a word ends where its blank stands
word_size : (word rest : List ℕ) (blank : ℕ) → All IsPlain word → is_blank blank ≡ true
    → position_or_len is_blank (word ++ (blank ∷ rest)) ≡ length word
word_size word rest blank plain is =
    position_or_len_is is_blank (word ++ (blank ∷ rest)) (length word) 0
    (omega (arith, length-append word (blank ∷ rest)))
    (λ k h. plain_is_no_blank (get_or (word ++ (blank ∷ rest)) k 0)
    (let e : get_or (word ++ (blank ∷ rest)) k 0 ≡ get_or word k 0 =
    grind (arith, common_steps) in rw e (plain k 0 h)))
    (λ _. let e : get_or (word ++ (blank ∷ rest)) (length word) 0 ≡ blank = grind (arith, common_steps) in
    ap is_blank e ∙ is)

word_before : (word rest : List ℕ) (blank : ℕ) → All IsPlain word → is_blank blank ≡ true
    → before_first is_blank (word ++ (blank ∷ rest)) ≡ word
word_before word rest blank plain is =
    ap (λ n. take n (word ++ (blank ∷ rest))) (word_size word rest blank plain is)
    ∙ take-append_seam word (blank ∷ rest)

word_behind : (word rest : List ℕ) (blank : ℕ) → All IsPlain word → is_blank blank ≡ true
    → after_first is_blank (word ++ (blank ∷ rest)) ≡ rest
word_behind word rest blank plain is =
    ap (λ n. drop (n + 1) (word ++ (blank ∷ rest))) (word_size word rest blank plain is)
    ∙ drop-append-add word (blank ∷ rest) 1

-- the command of a line by its first word and what stands behind it
abbrev by_words : List ℕ → List ℕ → Option Command
by_words first behind =
    if bytes_eq first (codes "put") then put_of behind
    else if bytes_eq first (codes "drop") then drop_of behind
    else if bytes_eq first (codes "derive") then derive_of behind else None

abbrev put_by : List ℕ → List ℕ → Option Command
put_by name digits = if is_file_name name && is_length digits then Some (Put name (number_of_digits digits)) else None

-- the line of a `put` spells it
pub put_is_spelled : (name digits : List ℕ) (blank between : ℕ) → is_blank blank ≡ true → is_blank between ≡ true
    → is_file_name name ≡ true → is_length digits ≡ true
    → command_of (codes "put" ++ (blank ∷ (name ++ (between ∷ digits)))) ≡ Some (Put name (number_of_digits digits))
put_is_spelled name digits blank between p q named form =
    let rest : List ℕ = name ++ (between ∷ digits) in
    let word = file_word name named in
    let first : by_words (before_first is_blank (codes "put" ++ (blank ∷ rest)))
    (after_first is_blank (codes "put" ++ (blank ∷ rest))) ≡ put_of rest =
    ap₂ by_words (word_before (codes "put") rest blank put_word p) (word_behind (codes "put") rest blank put_word p) in
    let second : put_of rest ≡ put_by name digits =
    ap₂ put_by (word_before name digits between word.0 q) (word_behind name digits between word.0 q) in
    first ∙ second
    ∙ ap (λ b. if b then Some (Put name (number_of_digits digits)) else None) (and_both _ _ named form)

pub drop_is_spelled : (name : List ℕ) (blank : ℕ) → is_blank blank ≡ true → is_file_name name ≡ true
    → command_of (codes "drop" ++ (blank ∷ name)) ≡ Some (Drop name)
drop_is_spelled name blank p named =
    let first : by_words (before_first is_blank (codes "drop" ++ (blank ∷ name)))
    (after_first is_blank (codes "drop" ++ (blank ∷ name))) ≡ drop_of name =
    ap₂ by_words (word_before (codes "drop") name blank drop_word p)
    (word_behind (codes "drop") name blank drop_word p) in
    first ∙ ap (λ b. if b then Some (Drop name) else None) named

abbrev derive_by : List ℕ → List ℕ → Option Command
derive_by stem word = if is_stem stem then option_map (Derive stem) (read_label word) else None

pub derive_is_spelled : (stem word : List ℕ) (label : Label) (blank between : ℕ) → is_blank blank ≡ true
    → is_blank between ≡ true → is_stem stem ≡ true → read_label word ≡ Some label
    → command_of (codes "derive" ++ (blank ∷ (stem ++ (between ∷ word)))) ≡ Some (Derive stem label)
derive_is_spelled stem word label blank between p q named is =
    let rest : List ℕ = stem ++ (between ∷ word) in
    let plain = (stem_word stem named).0 in
    let first : by_words (before_first is_blank (codes "derive" ++ (blank ∷ rest)))
    (after_first is_blank (codes "derive" ++ (blank ∷ rest))) ≡ derive_of rest =
    ap₂ by_words (word_before (codes "derive") rest blank derive_word p)
    (word_behind (codes "derive") rest blank derive_word p) in
    let second : derive_of rest ≡ derive_by stem word =
    ap₂ derive_by (word_before stem word between plain q) (word_behind stem word between plain q) in
    first ∙ second ∙ ap (λ b. if b then option_map (Derive stem) (read_label word) else None) named
    ∙ ap (option_map (Derive stem)) is
