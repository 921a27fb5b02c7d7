-- What a clause `converts` claims: that its operators are the only ones of which the trait's statements hold.
use Rattle.std.specs.Prelude.{ℕ, zero, suc, if◌then◌else◌, ◌||◌, Bool, false, not, bytes_eq, codes, Option}
use Rattle.std.specs.Prelude.{Some, None, is_some, unwrap_or}
use Rattle.std.specs.Prelude.{List, [], ◌∷◌, ◌++◌, map, filter, find, length, decimal, Result, Ok, Err}
use Rattle.std.specs.List.{list_any}
use Rattle.larch_base.specs.Word.{is_word}
use Rattle.larch_base.specs.declared.code.Code.TheVariants.{Converted, Exempt}
use Rattle.larch_base.specs.declared.fault.Fault.{Fault}
use Rattle.larch_base.specs.declared.position.Pos.{Pos}
use Rattle.larch_raw.specs.declared.declared.RawOpRef.{RawOpRef}
use Rattle.larch_raw.specs.declared.equation.RawConversion.{RawConversion}
use Rattle.larch_raw.specs.declared.equation.RawEquation.{RawEquation}
use Rattle.larch_calculus.specs.RenamingRenaming.{rename_tree, renamed_statement}
use Rattle.larch_term.specs.Operator.{OperatorName, PlainOperator, plain, boxed}
use Rattle.larch_term.specs.Tree.{Tree, Forest, var, app, none, more}
use Rattle.larch_term.specs.declared.statement.Statement.{Statement}
use Rattle.larch_term.specs.declared.statement.Statement.TheVariants.{Equation, Generated, Partitioned}
use Rattle.larch_term.specs.declared.statement.Theory.{Theory}
use Rattle.larch_flat_meaning.specs.SortsMeaningFaults.{fault}
use Rattle.larch_flat_meaning.specs.SortsMeaningRead.{read_term}
use Rattle.larch_flat_meaning.specs.SortsMeaningScope.{Variables}
use Rattle.larch_flat_meaning.specs.TraitsItemsReferences.{exact_of, is_meant, only_operator}
use Rattle.larch_base_meaning.specs.Steps.{after, all_taken}
use Rattle.larch_flat_meaning.specs.TraitsItemsVariables.{variables_declared}
use Rattle.larch_flat_meaning.specs.Replacements.{Replacements, renaming}
use Rattle.larch_flat_meaning.specs.Stops.{refused_if}
use Rattle.larch_duties_meaning.specs.Implied.{is_among}

-- operators with one more behind them, unless there is none or it is there
abbrev pub with_converted : Pos → List PlainOperator → Option PlainOperator → Result (List PlainOperator) Fault
with_converted pos fs None = Err (fault Converted pos)
with_converted pos fs (Some f) = refused_if Converted pos (is_among fs f) (Ok (fs ++ f ∷ []))

-- with the one operator of a trait that a reference names
abbrev pub take_converted : List PlainOperator → RawOpRef → List PlainOperator → Result (List PlainOperator) Fault
take_converted own ref fs = with_converted ref.form.pos fs (only_operator (is_meant (exact_of ref) ref.form.name) own)

abbrev mutual
  -- one of these operators stands in the term
  pub has_one_of : List PlainOperator → Tree → Bool
  has_one_of fs (var n s) = false
  has_one_of fs (app f ts) = is_among fs f || have_one_of fs ts

  pub have_one_of : List PlainOperator → Forest → Bool
  have_one_of fs none = false
  have_one_of fs (more t ts) = has_one_of fs t || have_one_of fs ts

-- one of these operators stands in the statement
abbrev pub names_one_of : List PlainOperator → Statement → Bool
names_one_of fs (Equation l r) = has_one_of fs l || has_one_of fs r
names_one_of fs (Generated s gs) = list_any (is_among fs) gs
names_one_of fs (Partitioned s gs) = list_any (is_among fs) gs

-- with an exempted term, read over a trait's operators; it is no equation, and a converted one must stand in it
abbrev pub take_exempted : List PlainOperator → List PlainOperator → Variables → RawEquation → List Tree
    → Result (List Tree) Fault
take_exempted own converted vs raw ts =
    refused_if Exempt raw.first (is_some raw.right)
    (after (read_term own vs None raw) (λ t.
    refused_if Exempt raw.first (not (has_one_of converted t)) (Ok (ts ++ t ∷ []))))

-- the converted operators and the exempted terms of a clause
pub record Conversion : Type 0 where
  pub converted : List PlainOperator
  pub exempted : List Tree

-- a clause over a trait's operators, or what is wrong with it first: operators, then variables, then terms
abbrev pub conversion_of : List PlainOperator → RawConversion → Result Conversion Fault
conversion_of own raw =
    after (all_taken (take_converted own) raw.converted []) (λ fs.
    after (variables_declared own raw.variables) (λ vs.
    after (all_taken (take_exempted own fs vs) raw.exempted []) (λ ts.
    Ok (record { converted = fs; exempted = ts }))))

-- so many words: a word, the word with ' behind it, with '', ..
abbrev pub primes_of : ℕ → List ℕ → List (List ℕ)
primes_of zero word = []
primes_of (suc n) word = word ∷ primes_of n (word ++ codes "'")

-- all the bytes of names, one behind the other
abbrev pub all_bytes : List (List ℕ) → List ℕ
all_bytes [] = []
all_bytes (n ∷ ns) = n ++ all_bytes ns

-- The first of a word, the word with ', with '', .. that isn't taken. One word more than are taken is looked at, so
-- that one of them is free; what would stand there else is longer than all that are taken.
abbrev pub free_word : List (List ℕ) → List ℕ → List ℕ
free_word taken word =
    unwrap_or (find (λ n. not (list_any (bytes_eq n) taken)) (primes_of (suc (length taken)) word))
    (all_bytes taken ++ word)

-- the bytes of a name
abbrev pub bytes_of : OperatorName → List ℕ
bytes_of (plain n) = n
bytes_of (boxed b k) = []

-- the word that is tried first for a copy: of a word the word with ', of another name the place in the clause
abbrev pub word_tried : ℕ → List ℕ → List ℕ
word_tried place name = if is_word name then name ++ codes "'" else codes "conv" ++ (decimal place ++ codes "'")

-- an operator with the word that its copy has as a name
pub record Copied : Type 0 where
  pub operator : PlainOperator
  pub word : List ℕ

-- the copy
abbrev pub copy_of : Copied → PlainOperator
copy_of c = record { name = plain c.word; domain = c.operator.domain; range = c.operator.range }

-- operators with words for their copies, in order, where these names are taken; the first has this place
abbrev pub copies : ℕ → List (List ℕ) → List PlainOperator → List Copied
copies place taken [] = []
copies place taken (f ∷ fs) =
    let word : List ℕ = free_word taken (word_tried place (bytes_of f.name)) in
    record { operator = f; word = word } ∷ copies (suc place) (word ∷ taken) fs

-- what puts copies in the places of their operators
abbrev pub by_copies : List Copied → Replacements
by_copies cs = record { sorts = []; operators = map (λ c. (c.operator, c.word)) cs }

-- what a clause adds to a trait: copies, the statements that name a converted operator once more by the copies, and
-- that each exempted term is the same by the copies
pub record Clause : Type 0 where
  pub copies : List Copied
  pub copied : List Statement
  pub exempt : List Statement

-- what a clause with these copies adds to statements
abbrev pub clause_by : List Statement → Conversion → List Copied → Clause
clause_by ss c cs =
    record {
      copies = cs;
      copied = map (renamed_statement (renaming (by_copies cs))) (filter (names_one_of c.converted) ss);
      exempt = map (λ t. Equation t (rename_tree (renaming (by_copies cs)) t)) c.exempted;
    }

-- what a clause adds to a theory
abbrev pub clause_over : Theory → Conversion → Clause
clause_over theory c =
    clause_by theory.statements c (copies 1 (map (λ f. bytes_of f.name) theory.operators) c.converted)

-- the theory of a clause over that of its trait
abbrev pub clause_theory : Theory → Clause → Theory
clause_theory theory c =
    record {
      operators = theory.operators ++ map copy_of c.copies;
      statements = theory.statements ++ (c.copied ++ c.exempt);
    }
