-- Each command that is read is in words: form by form, as what is there of it has a property.
use Rattle.std.proofs.Common.{◌≡◌, ℕ, zero, suc, ◌+◌, Bool, true, false, cond, List, [], ◌∷◌, ◌++◌, length, drop, All}
use Rattle.std.proofs.Common.{Option, Some, None, option_map, option_and_then, slice_get, Result, Ok, Err, IfSome}
use Rattle.std.proofs.Common.{◌==◌, ◌&&◌, ◌||◌, is_some, nat_le, codes, refl}
use Rattle.std.specs.Option.{option_map_or}
use Rattle.std.specs.Str.{bytes_eq}
use Rattle.std.proofs.lemmas.List.Elements.{All-cons, All-drop, All-head, All-nil, All-tail}
use Rattle.larch_base.specs.declared.fault.Fault.{Fault}
use Rattle.larch_base.specs.declared.limits.TheConstants.{MAX_REWRITING_LIMIT}
use Rattle.larch_grammar.specs.Terminal.{terminal_of}
use Rattle.larch_grammar.specs.WordTokens.{AreWordTokens, IsWordToken}
use Rattle.larch_grammar.specs.declared.terminal.Terminal.{Terminal}
use Rattle.larch_grammar.specs.declared.terminal.Terminal.TheVariants.{Word}
use Rattle.larch_grammar.proofs.Words.{word_worded}
use Rattle.larch_lexer.specs.Lexing.{lexed_line}
use Rattle.larch_lexer.specs.TokenList.{TokenList}
use Rattle.larch_lexer.specs.TokenTable.{LexAnswer}
use Rattle.larch_lexer.specs.declared.token.Token.{Token}
use Rattle.larch_raw.specs.Worded.{Worded, WordedEquation}
use Rattle.larch_raw.specs.declared.declared.RawWord.{RawWord}
use Rattle.larch_raw.specs.declared.equation.RawEquation.{RawEquation}
use Rattle.larch_raw.specs.declared.equation.RawRight.{RawRight}
use Rattle.larch_script_commands.specs.Worded.{WordedBlock, WordedCommand, WordedInstance, WordedKind, WordedLone}
use Rattle.larch_script_commands.specs.Worded.{WordedOperator, WordedScript}
use Rattle.larch_script_commands.specs.declared.command.CommandKind.TheVariants as command
use Rattle.larch_script_commands.specs.declared.command.RawInstance.{RawInstance}
use Rattle.larch_script_commands.specs.declared.script.Script.{Script}
use Rattle.larch_syntax.specs.Read.{reference_of, term_of}
use Rattle.larch_syntax.proofs.Words.{equation_words, line_words, reference_words}
use Rattle.larch_script.specs.Commands.{above, behind_names, box_checking, by_verb, command_of, critical, declaration}
use Rattle.larch_script.specs.Commands.{declaration_of, duty, height, induction, limit, limit_of, lone_word, method}
use Rattle.larch_script.specs.Commands.{method_of, of_sort, of_status, registration, setting, status, switch_of}
use Rattle.larch_script.specs.Commands.{verb_of, way_of, with_second}
use Rattle.larch_script.specs.Facts.{fact_at, whole_fact_at}
use Rattle.larch_script.specs.Instances.{behind_others, instance_at, instance_of, instances_at, instances_of_fact}
use Rattle.larch_script.specs.Instances.{instantiation, with_further}
use Rattle.larch_script.specs.Line.{line_from, line_of, mark_of, no_command, said}
use Rattle.larch_script.specs.Numbers.{number_of}
use Rattle.larch_script.specs.Scripts.{block, lines_of, on_line, script_from, script_of, with_line}
use Rattle.larch_script.specs.Terms.{equation_at, read_value, reference_at, term_alone, term_at, whole}
use Rattle.larch_script.specs.Terms.{whole_equation_at, whole_reference_at, whole_term_at}
use Rattle.larch_script.specs.Texts.{ends, plain, says, says_dashed, text_at, word_at}
use Rattle.larch_script.specs.declared.commands.Verb.{Verb}
use Rattle.larch_script.specs.declared.commands.Verb.TheVariants as verb
use Rattle.larch_script.specs.declared.line.Line.{Line}
use Rattle.larch_script.specs.declared.line.Line.TheVariants.{Nothing, Duty, Command}

-- ---- what is there, if anything is, has a property

module _ {A B : Type 0} (P : A → Type 0) (Q : B → Type 0) where
  image : (f : A → B) → ((x : A) → P x → Q (f x)) → (o : Option A) → IfSome o P → IfSome (option_map f o) Q
  image f w None h = tt
  image f w (Some x) h = w x h

  chain : (f : A → Option B) → ((x : A) → P x → IfSome (f x) Q) → (o : Option A) → IfSome o P
      → IfSome (option_and_then f o) Q
  chain f w None h = tt
  chain f w (Some x) h = w x h

module _ {A : Type 0} (P : A → Type 0) where
  choice : (b : Bool) (x y : Option A) → IfSome x P → IfSome y P → IfSome (cond b x y) P
  choice true x y h k = h
  choice false x y h k = k

  -- what has a test passed, or isn't there
  only_if : (b : Bool) (x : Option A) → IfSome x P → IfSome (cond b x None) P
  only_if b x h = choice b x None h tt

  element : (xs : List A) (i : ℕ) → All P xs → IfSome (slice_get xs i) P
  element [] i h = tt
  element (x ∷ xs) zero h = All-head P x xs h
  element (x ∷ xs) (suc i) h = element xs i (All-tail P x xs h)

  value : (answer : Result A Fault) → ((x : A) → answer ≡ Ok x → P x) → IfSome (read_value answer) P
  value (Ok x) w = w x refl
  value (Err fault) w = tt

-- each thing has this property
abbrev Each : {A : Type 0} → A → Type 0
Each x = Unit {0}

each : {A : Type 0} (o : Option A) → IfSome o (λ x. Each x)
each None = tt
each (Some x) = tt

-- what is read up to an index has a property
abbrev UpTo : {A : Type 0} → (A → Type 0) → A × ℕ → Type 0
UpTo P found = P found.0

-- ---- words, terms and references

plain_word : (t : Terminal) → ((w : RawWord) → t ≡ Word w → Worded w) → IfSome (plain t) Worded
plain_word (Word w) h = h w refl
plain_word _ h = tt

token_word : (token : Token) → IsWordToken token → IfSome (plain (terminal_of false token)) Worded
token_word token h = plain_word (terminal_of false token) (λ w e. word_worded false token w h e)

-- an equation in words that has no right side
without_right : (e : RawEquation) (right : Option RawRight) → e.right ≡ right → WordedEquation e
    → IfSome (cond (is_some right) None (Some e)) WordedLone
without_right e None k h = (h, k)
without_right e (Some right) k h = tt

module _ (all : TokenList) (words : AreWordTokens all.tokens) where
  word : (i : ℕ) → IfSome (word_at all.tokens i) Worded
  word i =
      chain IsWordToken Worded (λ token. plain (terminal_of false token)) token_word (slice_get all.tokens i)
      (element IsWordToken all.tokens i words)

  equation : (i : ℕ) → IfSome (equation_at all i) (UpTo WordedEquation)
  equation i =
      only_if (UpTo WordedEquation) (nat_le i (length all.tokens)) (read_value (term_of all i))
      (value (UpTo WordedEquation) (term_of all i) (λ read e. equation_words all i read words e))

  whole_equation : (i : ℕ) → IfSome (whole_equation_at all i) WordedEquation
  whole_equation i =
      chain (UpTo WordedEquation) WordedEquation (whole (length all.tokens))
      (λ found h. only_if WordedEquation (found.1 == length all.tokens) (Some found.0) h) (equation_at all i)
      (equation i)

  alone : (e : RawEquation) → WordedEquation e → IfSome (term_alone e) WordedLone
  alone e h = without_right e e.right refl h

  whole_term : (i : ℕ) → IfSome (whole_term_at all i) WordedLone
  whole_term i = chain WordedEquation WordedLone term_alone alone (whole_equation_at all i) (whole_equation i)

  term : (i : ℕ) → IfSome (term_at all i) (UpTo WordedLone)
  term i =
      chain (UpTo WordedEquation) (UpTo WordedLone)
      (λ found. option_map (λ t. (t, found.1)) (term_alone found.0))
      (λ found h. image WordedLone (UpTo WordedLone) (λ t. (t, found.1)) (λ t k. k) (term_alone found.0)
      (alone found.0 h)) (equation_at all i) (equation i)

  reference : (i : ℕ) → IfSome (reference_at all i) (UpTo WordedOperator)
  reference i =
      only_if (UpTo WordedOperator) (nat_le i (length all.tokens)) (read_value (reference_of all i))
      (value (UpTo WordedOperator) (reference_of all i) (λ read e. reference_words all i read words e))

  whole_reference : (i : ℕ) → IfSome (whole_reference_at all i) WordedOperator
  whole_reference i =
      chain (UpTo WordedOperator) WordedOperator (whole (length all.tokens))
      (λ found h. only_if WordedOperator (found.1 == length all.tokens) (Some found.0) h) (reference_at all i)
      (reference i)

-- ---- declarations

-- names and their sort are words
abbrev Declared : List RawWord × RawWord → Type 0
Declared found = All Worded found.0 × Worded found.1

lone : (tokens : List Token) → AreWordTokens tokens → IfSome (lone_word tokens) Worded
lone [] h = tt
lone (token ∷ []) h = token_word token (All-head IsWordToken token [] h)
lone (token ∷ other ∷ tokens) h = tt

behind : (name : RawWord) → Worded name → (found : Option (List RawWord × RawWord)) → IfSome found Declared
    → IfSome (behind_names (name ∷ []) found) Declared
behind name w None h = tt
behind name w (Some found) h = (All-cons Worded name found.0 w h.0, h.1)

declared : (tokens : List Token) → AreWordTokens tokens → IfSome (declaration_of tokens) Declared
declared [] h = tt
declared (first ∷ []) h = tt
declared (first ∷ sign ∷ rest) h =
    let others = All-tail IsWordToken sign rest (All-tail IsWordToken first (sign ∷ rest) h) in
    let further : IfSome (declaration_of rest) Declared = declared rest others in
    let sort : IfSome (lone_word rest) Worded = lone rest others in
    chain Worded Declared
    (λ name.
    cond (bytes_eq sign.text (codes ",")) (behind_names (name ∷ []) (declaration_of rest))
    (cond (bytes_eq sign.text (codes ":")) (option_map (of_sort name) (lone_word rest)) None))
    (λ name w. choice Declared (bytes_eq sign.text (codes ",")) (behind_names (name ∷ []) (declaration_of rest))
    (cond (bytes_eq sign.text (codes ":")) (option_map (of_sort name) (lone_word rest)) None)
    (behind name w (declaration_of rest) further)
    (only_if Declared (bytes_eq sign.text (codes ":")) (option_map (of_sort name) (lone_word rest))
    (image Worded Declared (of_sort name) (λ s k. (All-cons Worded name [] w (All-nil Worded), k)) (lone_word rest)
    sort)))
    (plain (terminal_of false first)) (token_word first (All-head IsWordToken first (sign ∷ rest) h))

-- ---- instances

-- instances up to an index are in words
abbrev AreInstances : List RawInstance × ℕ → Type 0
AreInstances found = All WordedInstance found.0

more_instances : (first : RawInstance) → WordedInstance first → (found : Option (List RawInstance × ℕ))
    → IfSome found AreInstances
    → IfSome (behind_others (first ∷ []) found) AreInstances
more_instances first w None h = tt
more_instances first w (Some found) h = All-cons WordedInstance first found.0 w h

module _ (all : TokenList) (words : AreWordTokens all.tokens) where
  instance : (i : ℕ) → IfSome (instance_at all i) (UpTo WordedInstance)
  instance i =
      chain Worded (UpTo WordedInstance)
      (λ name. cond (says all.tokens (i + 1) (codes "by")) (option_map (instance_of name) (term_at all (i + 2))) None)
      (λ name w. only_if (UpTo WordedInstance) (says all.tokens (i + 1) (codes "by"))
      (option_map (instance_of name) (term_at all (i + 2)))
      (image (UpTo WordedLone) (UpTo WordedInstance) (instance_of name) (λ t k. (w, k)) (term_at all (i + 2))
      (term all words (i + 2))))
      (word_at all.tokens i) (word all words i)

  instances : (n i : ℕ) → IfSome (instances_at n all i) AreInstances
  instances zero i = tt
  instances (suc n) i =
      chain (UpTo WordedInstance) AreInstances (with_further all (λ next. instances_at n all next))
      (λ first w. choice AreInstances (says all.tokens first.1 (codes ","))
      (behind_others (first.0 ∷ []) (instances_at n all (first.1 + 1)))
      (cond (says all.tokens first.1 (codes "in")) (Some (first.0 ∷ [], first.1 + 1)) None)
      (more_instances first.0 w (instances_at n all (first.1 + 1)) (instances n (first.1 + 1)))
      (only_if AreInstances (says all.tokens first.1 (codes "in")) (Some (first.0 ∷ [], first.1 + 1))
      (All-cons WordedInstance first.0 [] w (All-nil WordedInstance))))
      (instance_at all i) (instance i)

  -- ---- commands, by their first word

  declares : IfSome (declaration all.tokens) WordedKind
  declares =
      only_if WordedKind (says all.tokens 1 (codes "variables") || says all.tokens 1 (codes "variable"))
      (option_map (λ found. command.Declare found.0 found.1) (declaration_of (drop 2 all.tokens)))
      (image Declared WordedKind (λ found. command.Declare found.0 found.1) (λ found h. h)
      (declaration_of (drop 2 all.tokens))
      (declared (drop 2 all.tokens) (All-drop IsWordToken 2 all.tokens words)))

  sets : IfSome (setting all.tokens) WordedKind
  sets =
      choice WordedKind (says all.tokens 1 (codes "box")) (box_checking all.tokens) (limit all.tokens)
      (only_if WordedKind (says_dashed all.tokens 1 (codes "box") (codes "checking") && ends all.tokens 5)
      (option_map command.BoxChecking (switch_of (text_at all.tokens 4)))
      (image Each WordedKind command.BoxChecking (λ on h. tt) (switch_of (text_at all.tokens 4))
      (each (switch_of (text_at all.tokens 4)))))
      (only_if WordedKind (says_dashed all.tokens 1 (codes "rewriting") (codes "limit") && ends all.tokens 5)
      (option_and_then limit_of (number_of (text_at all.tokens 4)))
      (chain Each WordedKind limit_of
      (λ n h. only_if WordedKind (nat_le 1 n && nat_le n MAX_REWRITING_LIMIT) (Some (command.Limit n)) tt)
      (number_of (text_at all.tokens 4)) (each (number_of (text_at all.tokens 4)))))

  registers : IfSome (registration all) WordedKind
  registers =
      choice WordedKind (says all.tokens 1 (codes "height")) (height all)
      (cond (says all.tokens 1 (codes "status")) (status all) None)
      (chain (UpTo WordedOperator) WordedKind (above all)
      (λ upper w. only_if WordedKind (says all.tokens upper.1 (codes ">"))
      (option_map (λ lower. command.Height upper.0 lower) (whole_reference_at all (upper.1 + 1)))
      (image WordedOperator WordedKind (λ lower. command.Height upper.0 lower) (λ lower k. (w, k))
      (whole_reference_at all (upper.1 + 1)) (whole_reference all words (upper.1 + 1))))
      (reference_at all 2) (reference all words 2))
      (only_if WordedKind (says all.tokens 1 (codes "status")) (status all)
      (chain Each WordedKind (of_status all)
      (λ found w. image WordedOperator WordedKind (command.Status found.0) (λ r k. k) (whole_reference_at all found.1)
      (whole_reference all words found.1)) (way_of all.tokens) (each (way_of all.tokens))))

  -- a method that is named by one word
  named : (text : List ℕ) → IfSome (method_of text) WordedKind
  named text =
      choice WordedKind (bytes_eq text (codes "=>")) (Some command.Implication)
      (cond (bytes_eq text (codes "/\\")) (Some command.Conjunction)
      (cond (bytes_eq text (codes "contradiction")) (Some command.Contradiction)
      (cond (bytes_eq text (codes "partition")) (Some command.Partition) None))) tt
      (choice WordedKind (bytes_eq text (codes "/\\")) (Some command.Conjunction)
      (cond (bytes_eq text (codes "contradiction")) (Some command.Contradiction)
      (cond (bytes_eq text (codes "partition")) (Some command.Partition) None)) tt
      (choice WordedKind (bytes_eq text (codes "contradiction")) (Some command.Contradiction)
      (cond (bytes_eq text (codes "partition")) (Some command.Partition) None) tt
      (only_if WordedKind (bytes_eq text (codes "partition")) (Some command.Partition) tt)))

  methods : IfSome (method all) WordedKind
  methods =
      choice WordedKind (says all.tokens 2 (codes "cases")) (option_map command.Cases (whole_term_at all 3))
      (cond (says all.tokens 2 (codes "induction")) (induction all.tokens)
      (cond (ends all.tokens 3) (method_of (text_at all.tokens 2)) None))
      (image WordedLone WordedKind command.Cases (λ t h. h) (whole_term_at all 3) (whole_term all words 3))
      (choice WordedKind (says all.tokens 2 (codes "induction")) (induction all.tokens)
      (cond (ends all.tokens 3) (method_of (text_at all.tokens 2)) None)
      (only_if WordedKind (says all.tokens 3 (codes "on") && ends all.tokens 5)
      (option_map command.Induction (word_at all.tokens 4))
      (image Worded WordedKind command.Induction (λ x h. h) (word_at all.tokens 4) (word all words 4)))
      (only_if WordedKind (ends all.tokens 3) (method_of (text_at all.tokens 2)) (named (text_at all.tokens 2))))

  instantiates : IfSome (instantiation all) WordedKind
  instantiates =
      chain AreInstances WordedKind (instances_of_fact all)
      (λ found h. image Each WordedKind (λ fact. command.Instantiate found.0 fact) (λ fact k. h)
      (whole_fact_at all.tokens found.1) (each (whole_fact_at all.tokens found.1)))
      (instances_at (length all.tokens) all 1) (instances (length all.tokens) 1)

  pairs : IfSome (critical all.tokens) WordedKind
  pairs =
      only_if WordedKind (says all.tokens 1 (codes "-") && says all.tokens 2 (codes "pairs"))
      (option_and_then (with_second all.tokens) (fact_at all.tokens 3))
      (chain Each WordedKind (with_second all.tokens)
      (λ first h. only_if WordedKind (says all.tokens first.1 (codes "with"))
      (option_map (command.CriticalPairs first.0) (whole_fact_at all.tokens (first.1 + 1)))
      (image Each WordedKind (command.CriticalPairs first.0) (λ second k. tt)
      (whole_fact_at all.tokens (first.1 + 1)) (each (whole_fact_at all.tokens (first.1 + 1)))))
      (fact_at all.tokens 3) (each (fact_at all.tokens 3)))

  verbs : (v : Verb) → IfSome (by_verb all v) WordedKind
  verbs verb.Declare = declares
  verbs verb.Set = sets
  verbs verb.Register = registers
  verbs verb.Prove =
      image WordedEquation WordedKind command.Prove (λ e h. h) (whole_equation_at all 1) (whole_equation all words 1)
  verbs verb.Resume =
      only_if WordedKind (says all.tokens 1 (codes "by")) (method all) methods
  verbs verb.Instantiate = instantiates
  verbs verb.Critical = pairs
  verbs verb.Normalize =
      image Each WordedKind command.Normalize (λ fact k. tt) (whole_fact_at all.tokens 1)
      (each (whole_fact_at all.tokens 1))
  verbs verb.Qed = only_if WordedKind (ends all.tokens 1) (Some command.Qed) tt

  commands : IfSome (command_of all) WordedKind
  commands =
      chain Each WordedKind (by_verb all) (λ v h. verbs v) (verb_of (text_at all.tokens 0))
      (each (verb_of (text_at all.tokens 0)))

-- ---- lines and scripts

-- a line that is a command is one in words
abbrev WordedLine : Line → Type 0
WordedLine (Command kind) = WordedKind kind
WordedLine (Duty label) = Unit {0}
WordedLine Nothing = Unit {0}

either : (b : Bool) (x y : Line) → WordedLine x → WordedLine y → WordedLine (cond b x y)
either true x y h k = h
either false x y h k = k

-- what makes a line of what is there, or else a line that is no command
or_none : {A : Type 0} (P : A → Type 0) (f : A → Line) → ((x : A) → P x → WordedLine (f x)) → (o : Option A)
    → IfSome o P → (line : Line) → WordedLine line → WordedLine (option_map_or f o line)
or_none P f w None h line k = k
or_none P f w (Some x) h line k = w x h

tokens_say : (all : TokenList) → AreWordTokens all.tokens → WordedLine (said all)
tokens_say all words =
    either (says all.tokens 0 (codes "duty")) (option_map_or Duty (duty all.tokens) no_command)
    (option_map_or Command (command_of all) no_command)
    (or_none Each Duty (λ label h. tt) (duty all.tokens) (each (duty all.tokens)) no_command tt)
    (or_none WordedKind Command (λ kind h. h) (command_of all) (commands all words) no_command tt)

lexed_says : (number : ℕ) (line : List ℕ) (answer : LexAnswer) → lexed_line number line ≡ answer
    → WordedLine (line_from answer)
lexed_says number line (Ok all) e =
    either (ends all.tokens 0) Nothing (said all) tt (tokens_say all (line_words number line all e))
lexed_says number line (Err position) e = tt

line_says : (number : ℕ) (line : List ℕ) → WordedLine (line_of number line)
line_says number line =
    or_none Each (λ proved. Command (command.Mark proved)) (λ proved h. tt) (mark_of line) (each (mark_of line))
    (line_from (lexed_line number line)) (lexed_says number line (lexed_line number line) refl)

-- a line in front of a script
in_front : (number : ℕ) (line : Line) → WordedLine line → (script : Script) → WordedScript script
    → WordedScript (with_line number line script)
in_front number Nothing w script h = h
in_front number (Command kind) w script h =
    (All-cons WordedCommand (on_line number kind) script.preamble w h.0, h.1)
in_front number (Duty label) w script h =
    (All-nil WordedCommand, All-cons WordedBlock (block number label script.preamble) script.blocks h.0 h.1)

lines_say : (number : ℕ) (lines : List (List ℕ)) → WordedScript (script_from number lines)
lines_say number [] = (All-nil WordedCommand, All-nil WordedBlock)
lines_say number (line ∷ lines) =
    in_front number (line_of number line) (line_says number line) (script_from (number + 1) lines)
    (lines_say (number + 1) lines)

-- each command of a script that is read is in words
pub script_words : (text : List ℕ) → WordedScript (script_of text)
unfolding script_of
script_words text = lines_say 1 (lines_of text)
