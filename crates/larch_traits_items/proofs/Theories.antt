-- What a trait presents is a theory.
use Rattle.std.proofs.Common.{◌≡◌, ◌≢◌, ℕ, inl, inr, Ok, List, All, AllPairs, refl, sym, subst}
use Rattle.std.proofs.lemmas.List.Elements.{All-contains}
use Rattle.larch_base.proofs.Lists.{all_from}
use Rattle.larch_raw.specs.Worded.{WordedDecl, WordedItem, WordedTrait, WordedVar}
use Rattle.larch_raw.specs.declared.equation.RawItem.{RawItem}
use Rattle.larch_raw.specs.declared.equation.RawItem.TheVariants.{Clause, Equations}
use Rattle.larch_raw.specs.declared.equation.RawTrait.{RawTrait}
use Rattle.larch_term.specs.BuiltIn.{IsBuiltIn}
use Rattle.larch_term.specs.Operator.{PlainOperator}
use Rattle.larch_term.specs.Statement.{IsStatementOver, IsTheory, IsWellSortedTheory}
use Rattle.larch_term.specs.Tree.{Tree, Forest, var, app, none, more}
use Rattle.larch_term.specs.declared.statement.Statement.{Statement}
use Rattle.larch_term.specs.declared.statement.Statement.TheVariants.{Equation, Generated, Partitioned}
use Rattle.larch_term.specs.declared.statement.Theory.{Theory}
use Rattle.larch_sorts.specs.SortsMeaningLaws.{ForestSorts, IsSortOf, OperatorSorts, StatementSorts, StatementVariables}
use Rattle.larch_sorts.specs.SortsMeaningLaws.{TermSorts, sorts_of_operator}
use Rattle.larch_traits_items.specs.Declarations.{declared_operators}
use Rattle.larch_traits_items.specs.Items.{item_states, items_state}
use Rattle.larch_base_meaning.specs.Word.{IsWord}
use Rattle.larch_traits_items.specs.Laws.{BindsWords, DeclaresWords, NamesOwn}
use Rattle.larch_traits_items.specs.Presentation.{presentation_of}
use Rattle.larch_base_meaning.specs.Steps.{after}
use Rattle.larch_traits_items.proofs.Kept.{after_was, ok_inj}
use Rattle.larch_traits_items.proofs.Stated.{IsStated, declared_own, declared_words, item_is, items_are, items_bind}

all_weaker : {A : Type 0} (P Q : A → Type 0) → ((x : A) → P x → Q x) → (xs : List A) → All P xs → All Q xs
all_weaker P Q w xs h = all_from Q xs (λ x c. w x (All-contains P xs x h c))

-- what is presented was declared and stated
was : (raw : RawTrait) (t : Theory) → presentation_of raw ≡ Ok t
    → (declared_operators raw.declarations ≡ Ok t.operators) × (items_state t.operators raw.items ≡ Ok t.statements)
was raw t e =
    let r = after_was (declared_operators raw.declarations)
    (λ fs. after (items_state fs raw.items) (λ ss. Ok (record { operators = fs; statements = ss }))) t e in
    let q = after_was (items_state r.0 raw.items) (λ ss. Ok (record { operators = r.0; statements = ss })) t r.2 in
    subst (λ u. (declared_operators raw.declarations ≡ Ok u.operators)
    × (items_state u.operators raw.items ≡ Ok u.statements)) (ok_inj q.2) (r.1, q.1)

stated : (raw : RawTrait) (t : Theory) → presentation_of raw ≡ Ok t → All (IsStated t.operators) t.statements
stated raw t e = items_are t.operators raw.items t.statements (was raw t e).1

pub item_well_sorted : (fs : List PlainOperator) (item : RawItem) (ss : List Statement) → item_states fs item ≡ Ok ss
    → All (IsStatementOver fs) ss
item_well_sorted fs item ss e = all_weaker (IsStated fs) (IsStatementOver fs) (λ s h. h.0) ss (item_is fs item ss e)

pub item_own : (fs : List PlainOperator) (item : RawItem) (ss : List Statement) → item_states fs item ≡ Ok ss
    → All (NamesOwn fs) ss
item_own fs item ss e = all_weaker (IsStated fs) (NamesOwn fs) (λ s h. h.1) ss (item_is fs item ss e)

pub item_sorts : (fs : List PlainOperator) (item : RawItem) (ss : List Statement) → item_states fs item ≡ Ok ss
    → All (StatementSorts (IsSortOf fs)) ss
item_sorts fs item ss e = all_weaker (IsStated fs) (StatementSorts (IsSortOf fs)) (λ s h. h.2) ss (item_is fs item ss e)

pub own : (raw : RawTrait) (t : Theory) → presentation_of raw ≡ Ok t → All (λ f. IsBuiltIn f → ⊥) t.operators
own raw t e = declared_own raw.declarations t.operators (was raw t e).0

pub well_sorted : (raw : RawTrait) (t : Theory) → presentation_of raw ≡ Ok t → IsWellSortedTheory t
well_sorted raw t e =
    all_weaker (IsStated t.operators) (IsStatementOver t.operators) (λ s h. h.0) t.statements (stated raw t e)

pub theory : (raw : RawTrait) (t : Theory) → presentation_of raw ≡ Ok t → AllPairs (λ f g. f ≢ g) t.operators
    → IsTheory t
theory raw t e d = record { different = d; own = own raw t e; well_sorted = well_sorted raw t e }

pub operators_own : (raw : RawTrait) (t : Theory) → presentation_of raw ≡ Ok t → All (NamesOwn t.operators) t.statements
operators_own raw t e =
    all_weaker (IsStated t.operators) (NamesOwn t.operators) (λ s h. h.1) t.statements (stated raw t e)

pub sorts_exist : (raw : RawTrait) (t : Theory) → presentation_of raw ≡ Ok t
    → All (StatementSorts (IsSortOf t.operators)) t.statements
sorts_exist raw t e =
    all_weaker (IsStated t.operators) (StatementSorts (IsSortOf t.operators)) (λ s h. h.2) t.statements (stated raw t e)

-- a weaker property of sorts
module _ (P Q : List ℕ → Type 0) (w : (s : List ℕ) → P s → Q s) where
  mutual
    term_weaker : (t : Tree) → TermSorts P t → TermSorts Q t
    term_weaker (var n s) h = w s h
    term_weaker (app f ts) h = (all_weaker P Q w (sorts_of_operator f) h.0, forest_weaker ts h.1)

    forest_weaker : (ts : Forest) → ForestSorts P ts → ForestSorts Q ts
    forest_weaker none h = tt
    forest_weaker (more t ts) h = (term_weaker t h.0, forest_weaker ts h.1)

  statement_weaker : (s : Statement) → StatementSorts P s → StatementSorts Q s
  statement_weaker (Equation l r) h = (term_weaker l h.0, term_weaker r h.1)
  statement_weaker (Generated s gs) h =
      (w s h.0, all_weaker (OperatorSorts P) (OperatorSorts Q) (λ g k. all_weaker P Q w (sorts_of_operator g) k) gs h.1)
  statement_weaker (Partitioned s gs) h =
      (w s h.0, all_weaker (OperatorSorts P) (OperatorSorts Q) (λ g k. all_weaker P Q w (sorts_of_operator g) k) gs h.1)

word_exists : (fs : List PlainOperator) → All (OperatorSorts IsWord) fs → (s : List ℕ) → IsSortOf fs s → IsWord s
word_exists fs h s (inl e) = subst IsWord (sym e) refl
word_exists fs h s (inr (f, c, d)) =
    All-contains IsWord (sorts_of_operator f) s (All-contains (OperatorSorts IsWord) fs f h c) d

pub sort_words : (raw : RawTrait) (t : Theory) → WordedTrait raw → presentation_of raw ≡ Ok t
    → All (StatementSorts IsWord) t.statements
sort_words raw t w e =
    all_weaker (StatementSorts (IsSortOf t.operators)) (StatementSorts IsWord)
    (statement_weaker (IsSortOf t.operators) IsWord
    (word_exists t.operators (declared_words raw.declarations t.operators
    (all_weaker WordedDecl DeclaresWords (λ d h. h) raw.declarations w.1) (was raw t e).0)))
    t.statements (sorts_exist raw t e)

item_words : (item : RawItem) → WordedItem item → BindsWords item
item_words (Clause kind sort refs) h = tt
item_words (Equations variables equations) h = all_weaker WordedVar (λ v. IsWord v.name.name) (λ v k. k.0) variables h.0

pub variable_words : (raw : RawTrait) (t : Theory) → WordedTrait raw → presentation_of raw ≡ Ok t
    → All (StatementVariables IsWord) t.statements
variable_words raw t w e =
    items_bind t.operators raw.items t.statements (all_weaker WordedItem BindsWords item_words raw.items w.2)
    (was raw t e).1
