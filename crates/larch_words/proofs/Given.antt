-- Values of arguments, by rows.
use Rattle.std.proofs.Common.{◌≡◌, ℕ, ◌<◌, zero, suc, List, [], ◌∷◌, length, map, get_or, Bool, true, false, ◌&&◌}
use Rattle.std.proofs.Common.{if◌then◌else◌, Option, Some, None, is_some, unwrap_or, IsSomeAnd, refl, sym, ◌∙◌, ap, ap₂}
use Rattle.std.proofs.Common.{arith}
use Rattle.std.specs.List.{list_all}
use Rattle.std.specs.Option.{option_and_then, option_map}
use Rattle.clap.specs.Words.{App, Row, Text, all_of, fault_of, first_of, first_value, is_simple, is_simple_and_free}
use Rattle.clap.specs.Words.{matched_of, matches_of, raw_values, rows_of}
use Rattle.clap.specs.declared.parser.matches.Found.{Found}
use Rattle.clap.specs.declared.builder.range.ValueRange.{ValueRange}
use Rattle.clap.proofs.OnLiterals.{clap_on_literals}
use Rattle.clap.proofs.WalkLemmas.{first_value-rows, raw_values-rows}
use Rattle.clap.specs.Walk.{is_empty}
use Rattle.std.specs.Option.{option_map_or}
use Rattle.larch_words.specs.Call.{asked, call_from, call_in, call_of, generated_alone, generation_in}
use Rattle.larch_words.specs.CommandLine.{Request, command_line, request_in}
use Rattle.larch_words.specs.Options.{limit_of, read_limit, read_seed, read_size}
use Rattle.larch_words.specs.declared.call.Call.{Call}
use Rattle.larch_words.specs.declared.call.Call.TheVariants.{Nothing}

is_some_map : {X Y : Type 0} (f : X → Y) (o : Option X) → is_some o ≡ is_some (option_map f o)
is_some_map f None = refl
is_some_map f (Some x) = refl

-- a value is there where the rows have it
pub given : {X : Type 0} (now : X → Text) (f : Found) (id : Text) (o : Option X) → option_map now o ≡ first_value f id
    → is_some o ≡ is_some (first_of id (rows_of f))
given now f id o e = is_some_map now o ∙ ap is_some (e ∙ first_value-rows f id)

-- where one fails, not all hold
pub all_but : {X : Type 0} (now : X → Text) (p : Text → Bool) (xs : List X) (i : ℕ) (d : X) → i < length xs
    → p (now (get_or xs i d)) ≡ false → list_all p (map now xs) ≡ false
all_but now p [] i d l e = absurd (omega arith)
all_but now p (x ∷ xs) zero d l e = ap (λ b. b && list_all p (map now xs)) e
all_but now p (x ∷ xs) (suc i) d l e =
    ap (λ b. p (now x) && b) (all_but now p xs i d (omega arith) e) ∙ and_false (p (now x))
  where
    and_false : (b : Bool) → (b && false) ≡ false
    and_false true = refl
    and_false false = refl

unwrap_or_map : {X Y : Type 0} (f : X → Y) (o : Option X) (d : X) → f (unwrap_or o d) ≡ unwrap_or (option_map f o) (f d)
unwrap_or_map f None d = refl
unwrap_or_map f (Some x) d = refl

-- the first value, or another text where there is none
pub taken : {X : Type 0} (now : X → Text) (f : Found) (id : Text) (o : Option X) (d : X)
    → option_map now o ≡ first_value f id
    → now (unwrap_or o d) ≡ unwrap_or (first_of id (rows_of f)) (now d)
taken now f id o d e = unwrap_or_map now o d ∙ ap (λ p. unwrap_or p (now d)) (e ∙ first_value-rows f id)

-- all values, where there are some, and none where there are none
pub all_taken : {X : Type 0} (now : X → List Text) (f : Found) (id : Text) (o : Option X) (x : X) → o ≡ Some x
    → option_map now o ≡ option_map raw_values (matched_of f id) → now x ≡ unwrap_or (all_of id (rows_of f)) []
all_taken now f id o x s e = ap (λ p. unwrap_or p []) (ap (option_map now) (sym s) ∙ e ∙ raw_values-rows f id)

pub none_taken : {X : Type 0} (now : X → List Text) (f : Found) (id : Text) (o : Option X) → o ≡ None
    → option_map now o ≡ option_map raw_values (matched_of f id) → [] ≡ unwrap_or (all_of id (rows_of f)) []
none_taken now f id o s e = ap (λ p. unwrap_or p []) (ap (option_map now) (sym s) ∙ e ∙ raw_values-rows f id)

-- the limit, where one was given, and where none was
pub limit_taken : {X : Type 0} (now : X → Text) (f : Found) (id : Text) (o : Option X) (x : X) (limit : Option ℕ)
    → o ≡ Some x → option_map now o ≡ first_value f id → limit ≡ read_limit (now x)
    → limit ≡ limit_of (first_of id (rows_of f))
limit_taken now f id o x limit s e k = k ∙ ap limit_of (ap (option_map now) (sym s) ∙ e ∙ first_value-rows f id)

pub no_limit_taken : {X : Type 0} (now : X → Text) (f : Found) (id : Text) (o : Option X) → o ≡ None
    → option_map now o ≡ first_value f id → limit_of None ≡ limit_of (first_of id (rows_of f))
no_limit_taken now f id o s e = ap limit_of (ap (option_map now) (sym s) ∙ e ∙ first_value-rows f id)

-- what the digits of an option spell, where it was given, and where it wasn't
pub value_taken : {X : Type 0} (now : X → Text) (read : Text → Option ℕ) (f : Found) (id : Text) (o : Option X) (x : X)
    (value : Option ℕ) → o ≡ Some x → option_map now o ≡ first_value f id → value ≡ read (now x)
    → value ≡ option_and_then read (first_of id (rows_of f))
value_taken now read f id o x value s e k =
    k ∙ ap (option_and_then read) (ap (option_map now) (sym s) ∙ e ∙ first_value-rows f id)

pub no_value_taken : {X : Type 0} (now : X → Text) (read : Text → Option ℕ) (f : Found) (id : Text) (o : Option X)
    → o ≡ None → option_map now o ≡ first_value f id
    → option_and_then read None ≡ option_and_then read (first_of id (rows_of f))
no_value_taken now read f id o s e =
    ap (option_and_then read) (ap (option_map now) (sym s) ∙ e ∙ first_value-rows f id)

-- what is to be generated by a seed, a size and words
pub generates : (request : Request) (seed size : Option ℕ) (words : List Text) (call : Call)
    → seed ≡ option_and_then read_seed request.seed → size ≡ option_and_then read_size request.size
    → words ≡ request.words → call ≡ generated_alone words seed size → call ≡ generation_in request
generates request seed size words call s z w k =
    k ∙ ap₂ (generated_alone words) s z
    ∙ ap (λ ws. generated_alone ws (option_and_then read_seed request.seed) (option_and_then read_size request.size)) w

-- what a command with words asks for
pub asks_for : (request : Request) (command : Text) (given : Bool) (limit : Option ℕ) (words : List Text) (call : Call)
    → command ≡ request.command → given ≡ is_some request.limit → limit ≡ limit_of request.limit
    → words ≡ request.words → call ≡ call_from command given limit words → call ≡ call_in request
asks_for request command given limit words call e g l f k =
    k
    ∙ ap (λ c. call_from c given limit words) e
    ∙ ap₂ (λ b n. call_from request.command b n words) g l
    ∙ ap (call_from request.command (is_some request.limit) (limit_of request.limit)) f

-- the range of an argument
pub some_range : (o : Option ValueRange) (v : ValueRange) → IsSomeAnd o (λ r. r ≡ v) → o ≡ Some v
some_range None v h = absurd h
some_range (Some r) v h = ap Some h

simple : is_simple command_line ≡ true
unfolding clap_on_literals
simple = refl

free : is_simple_and_free command_line ≡ true
unfolding clap_on_literals
free = refl

-- what matches of the command line ask for is what the words ask for
pub asks : (a : App) (words : List Text) (rows : List Row) (call : Call) → a ≡ command_line
    → (is_simple a ≡ true → rows ≡ matches_of a words) → (is_simple_and_free a ≡ true → fault_of a words ≡ [])
    → call ≡ asked (request_in rows) → call ≡ call_of words
asks a words rows call e m k h =
    let f : fault_of command_line words ≡ [] =
    ap (λ b. fault_of b words) (sym e) ∙ k (ap is_simple_and_free e ∙ free) in
    let r : rows ≡ matches_of command_line words = m (ap is_simple e ∙ simple) ∙ ap (λ b. matches_of b words) e in
    h ∙ ap (λ rs. asked (request_in rs)) r
    ∙ ap (λ fs. option_map_or asked
    (if is_empty fs then Some (request_in (matches_of command_line words)) else None) Nothing)
    (sym f)
