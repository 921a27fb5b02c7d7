-- Words for copies, one by one.
use Rattle.std.proofs.Common.{◌≡◌, sym, ap, ap₂, ◌∙◌, subst, ℕ, suc, ◌+◌, ◌<◌, length, drop, get_or, List, [], ◌∷◌}
use Rattle.std.proofs.Common.{◌++◌, arith, filter, map}
use Rattle.std.proofs.lemmas.List.{append_assoc, drop_more}
use Rattle.larch_term.specs.Operator.{PlainOperator}
use Rattle.larch_term.specs.Tree.{Tree}
use Rattle.larch_term.specs.declared.statement.Statement.{Statement}
use Rattle.larch_term.specs.declared.statement.Statement.TheVariants.{Equation}
use Rattle.larch_renaming.specs.Renaming.{rename_tree, renamed_statement}
use Rattle.larch_flat_meaning.specs.Gathered.{Marked, statements_in}
use Rattle.larch_flat_meaning.specs.Replacements.{Replacements, renaming}
use Rattle.larch_duties_meaning.specs.Conversions.{Clause, Conversion, Copied, by_copies, bytes_of, clause_by, copies}
use Rattle.larch_duties_meaning.specs.Conversions.{free_word, names_one_of, word_tried}
use Rattle.larch_duties.specs.Names.{FindsNames, with_word}
use Rattle.larch_duties.proofs.Once.{name_found}

-- a name is found among more
pub word_found : (index more names : List (List ℕ)) (n : List ℕ) → FindsNames index names → more ≡ with_word index n
    → FindsNames more (n ∷ names)
word_found index more names n h e = subst (λ ns. FindsNames ns (n ∷ names)) (sym e) (name_found index names n h)

one_more : (n : ℕ) → n + 1 ≡ suc n
one_more n = omega arith

next_by : (place : ℕ) (names : List (List ℕ)) (cs new all : List Copied) (f : PlainOperator)
    (left rest : List PlainOperator) (w : List ℕ)
    → left ≡ f ∷ rest → w ≡ free_word names (word_tried place (bytes_of f.name))
    → new ≡ cs ++ record { operator = f; word = w } ∷ []
    → cs ++ copies place names left ≡ all → new ++ copies (place + 1) (w ∷ names) rest ≡ all
next_by place names cs new all f left rest w l e n h =
    ap (λ ds. ds ++ copies (place + 1) (w ∷ names) rest) n
    ∙ append_assoc cs (record { operator = f; word = w } ∷ []) (copies (place + 1) (w ∷ names) rest)
    ∙ ap (λ v. cs ++ record { operator = f; word = v } ∷ copies (place + 1) (v ∷ names) rest) e
    ∙ ap (λ m. cs ++ record { operator = f; word = free_word names (word_tried place (bytes_of f.name)) }
    ∷ copies m (free_word names (word_tried place (bytes_of f.name)) ∷ names) rest) (one_more place)
    ∙ sym (ap (λ fs. cs ++ copies place names fs) l) ∙ h

-- with one copy more, and one less to come
pub next_copy : (i : ℕ) (names : List (List ℕ)) (cs new all : List Copied) (fs : List PlainOperator)
    (f g : PlainOperator) (w : List ℕ) → i < length fs → get_or fs i f ≡ f
    → g ≡ f → w ≡ free_word names (word_tried (i + 1) (bytes_of f.name))
    → new ≡ cs ++ record { operator = g; word = w } ∷ []
    → cs ++ copies (i + 1) names (drop i fs) ≡ all → new ++ copies (i + 1 + 1) (w ∷ names) (drop (i + 1) fs) ≡ all
next_copy i names cs new all fs f g w lt at e o n h =
    next_by (i + 1) names cs new all f (drop i fs) (drop (i + 1) fs) w
    (drop_more fs i f lt ∙ ap (λ y. y ∷ drop (i + 1) fs) at) o
    (n ∙ ap (λ k. cs ++ record { operator = k; word = w } ∷ []) e) h

abbrev clause_with : List Copied → List Statement → List Statement → Clause
clause_with cs copied exempt = record { copies = cs; copied = copied; exempt = exempt }

-- what a clause adds, by its parts
pub clause_told : (ms : List Marked) (k : Conversion) (cs : List Copied) (by : Replacements) (fs : List PlainOperator)
    (ts : List Tree) (copied exempt : List Statement)
    → by ≡ by_copies cs → fs ≡ k.converted → ts ≡ k.exempted
    → copied ≡ map (renamed_statement (renaming by)) (filter (names_one_of fs) (statements_in ms))
    → exempt ≡ map (λ t. Equation t (rename_tree (renaming by) t)) ts
    → clause_with cs copied exempt ≡ clause_by (statements_in ms) k cs
clause_told ms k cs by fs ts copied exempt e f g h i =
    ap₂ (clause_with cs)
    (h ∙ ap (λ r. map (renamed_statement (renaming r)) (filter (names_one_of fs) (statements_in ms))) e
    ∙ ap (λ os. map (renamed_statement (renaming (by_copies cs))) (filter (names_one_of os) (statements_in ms))) f)
    (i ∙ ap (λ r. map (λ t. Equation t (rename_tree (renaming r) t)) ts) e
    ∙ ap (map (λ t. Equation t (rename_tree (renaming (by_copies cs)) t))) g)
