-- Each variable in a flat trait is a word, where its files are written with words.
use Rattle.std.proofs.Common.{◌≡◌, refl, ℕ, zero, suc, ◌<◌, ◌/◌, ◌%◌, Bool, true, false, cond, ◌==◌, ◌&&◌, ◌||◌, List}
use Rattle.std.proofs.Common.{[], ◌∷◌, ◌++◌, map, All, Ok, ap, sym, subst, arith}
use Rattle.std.specs.Char.{is_ascii_alphanumeric}
use Rattle.std.specs.Fmt.{decimal, digit_glyph, digits, digits_onto}
use Rattle.std.specs.Prelude.{codes, filter, fold, not}
use Rattle.std.proofs.lemmas.List.Elements.{All-nil, All-cons, All-head, All-tail, All-map, All-append, All-push}
use Rattle.std.proofs.lemmas.List.Elements.{All-contains, All-weaker}
use Rattle.larch_base.specs.Word.{begins_alphanumeric, goes_on}
use Rattle.larch_base.specs.declared.code.Code.TheVariants.{Size}
use Rattle.larch_base.proofs.Bools.{and_both}
use Rattle.larch_base.proofs.Lists.{all_from}
use Rattle.larch_raw.specs.Worded.{WordedItem, WordedTrait, WordedVar}
use Rattle.larch_raw.specs.declared.equation.RawItem.{RawItem}
use Rattle.larch_raw.specs.declared.equation.RawItem.TheVariants.{Clause, Equations}
use Rattle.larch_raw.specs.declared.equation.RawTrait.{RawTrait}
use Rattle.larch_raw.specs.declared.reference.RawReference.{RawReference}
use Rattle.larch_raw.specs.declared.shorthand.RawField.{RawField}
use Rattle.larch_raw.specs.declared.shorthand.RawShorthand.{RawShorthand}
use Rattle.larch_raw.specs.declared.shorthand.RawShorthand.TheVariants.{Enumeration, Tuple, Union}
use Rattle.larch_term.specs.BuiltIn.{built_in}
use Rattle.larch_term.specs.Operator.{PlainOperator}
use Rattle.larch_term.specs.Tree.{Tree, var, forest_of}
use Rattle.larch_term.specs.Variable.{occurrences, occurrences_in}
use Rattle.larch_term.specs.declared.built_in.BuiltIn.TheVariants.{Unequal}
use Rattle.larch_term.specs.declared.statement.Statement.{Statement}
use Rattle.larch_term.specs.declared.statement.Statement.TheVariants.{Equation, Generated, Partitioned}
use Rattle.larch_term.specs.declared.variable.Variable.{Variable}
use Rattle.larch_renaming.specs.Renaming.{Renaming, rename_tree, renamed_statement, renamed_variable}
use Rattle.larch_renaming.proofs.Renamed.{renamed_occurrences}
use Rattle.larch_shorthand.specs.SortsMeaningLaws.{StatementSorts, StatementVariables}
use Rattle.larch_shorthand.specs.TraitsItemsDeclarations.{declared_operators}
use Rattle.larch_shorthand.specs.TraitsItemsItems.{items_state}
use Rattle.larch_shorthand.specs.BaseMeaningWord.{IsWord}
use Rattle.larch_shorthand.specs.TraitsItemsLaws.{BindsWords}
use Rattle.larch_shorthand.proofs.TraitsItemsKept.{Any, after_was, all_any, ok_inj, unless_was}
use Rattle.larch_shorthand.proofs.TraitsItemsStated.{items_bind}
use Rattle.larch_shorthand.specs.Enumeration.{all_differ, all_followed, differ, elements, enumeration}
use Rattle.larch_shorthand.specs.Enumeration.{following_statement, followed_from, successor}
use Rattle.larch_shorthand.specs.Operators.{on, on_two}
use Rattle.larch_shorthand.specs.Shorthand.{expand, expansion_of, names_in, wrong_in}
use Rattle.larch_shorthand.specs.Tuple.{all_set, component_of, components_of, is_got, is_set, maker, tuple, tuple_of}
use Rattle.larch_shorthand.specs.Union.{case_of, is_back, is_tagged, names_of, tag, tag_sort, union_, union_statements}
use Rattle.larch_shorthand.specs.declared.expansion.Expansion.{Expansion}
use Rattle.larch_flat_meaning.specs.Files.{Files}
use Rattle.larch_flat_meaning.specs.Flat.{FlatTrait, finish_trait, flat, renamed_mark, renamed_marked, take_flat}
use Rattle.larch_flat_meaning.specs.Flat.{take_items, take_own, take_shorthand, theory_of, with_renamed, within}
use Rattle.larch_flat_meaning.specs.Gathered.{Gathered, Marked, is_too_large, stands_in, statements_in, with_asserted}
use Rattle.larch_flat_meaning.specs.Gathered.{with_discharge, with_marked, with_operators, with_taken}
use Rattle.larch_flat_meaning.specs.Laws.{AreWorded, IsInWords, gathered_in}
use Rattle.larch_flat_meaning.specs.Replacements.{Replacements, new_operator, renaming, replacements_of}
use Rattle.larch_flat_meaning.proofs.Gathering.{Keeps, every_flat}
use Rattle.larch_flat_meaning.proofs.Proper.{refused_if_was}
use Rattle.larch_flat_meaning.proofs.Sound.{AllMarked, marks_from, with_statement_all}
use Rattle.larch_flat_meaning.proofs.Theory.{all_left, all_new}
use Rattle.larch_flat_meaning.proofs.Words.{discharge_words}

-- the variable's name is a word
abbrev pub Named : Variable → Type 0
Named v = IsWord v.name

-- the variables of the term are words
abbrev pub Binds : Tree → Type 0
Binds t = All Named (occurrences t)

-- the variables of the statement are words
abbrev pub Says : Statement → Type 0
Says s = StatementVariables IsWord s

-- what has two properties has both
pub both_hold : {A : Type 0} (P Q : A → Type 0) (xs : List A) → All P xs → All Q xs → All (λ x. P x × Q x) xs
both_hold P Q xs a b = all_from (λ x. P x × Q x) xs (λ x c. (All-contains P xs x a c, All-contains Q xs x b c))

glyph : (d : ℕ) → d < 10 → is_ascii_alphanumeric (digit_glyph false d) ≡ true
glyph zero h = refl
glyph (suc zero) h = refl
glyph (suc (suc zero)) h = refl
glyph (suc (suc (suc zero))) h = refl
glyph (suc (suc (suc (suc zero)))) h = refl
glyph (suc (suc (suc (suc (suc zero))))) h = refl
glyph (suc (suc (suc (suc (suc (suc zero)))))) h = refl
glyph (suc (suc (suc (suc (suc (suc (suc zero))))))) h = refl
glyph (suc (suc (suc (suc (suc (suc (suc (suc zero)))))))) h = refl
glyph (suc (suc (suc (suc (suc (suc (suc (suc (suc zero))))))))) h = refl
glyph (suc (suc (suc (suc (suc (suc (suc (suc (suc (suc d)))))))))) h = absurd (omega (arith, h))

below_ten : (n : ℕ) → n % 10 < 10
below_ten n = omega arith

one_more_goes : (b : ℕ) (acc : List ℕ) → is_ascii_alphanumeric b ≡ true → goes_on acc ≡ true → goes_on (b ∷ acc) ≡ true
one_more_goes b acc e h =
    and_both (is_ascii_alphanumeric b || (b == 39) || ((b == 95) && begins_alphanumeric acc)) (goes_on acc)
    (ap (λ a. a || (b == 39) || ((b == 95) && begins_alphanumeric acc)) e) h

digits_by : (k n : ℕ) (acc : List ℕ) (b : Bool) → goes_on acc ≡ true
    → (goes_on acc ≡ true → goes_on (digits_onto k 10 false (n / 10) acc) ≡ true)
    → goes_on (cond b acc (digits_onto k 10 false (n / 10) acc)) ≡ true
digits_by k n acc true h r = h
digits_by k n acc false h r = r h

digits_go : (k n : ℕ) (acc : List ℕ) → goes_on acc ≡ true → goes_on (digits_onto k 10 false n acc) ≡ true
digits_go zero n acc h = h
digits_go (suc k) n acc h =
    let g : ℕ = digit_glyph false (n % 10) in
    digits_by k n (g ∷ acc) (n / 10 == 0) (one_more_goes g acc (glyph (n % 10) (below_ten n)) h)
    (digits_go k (n / 10) (g ∷ acc))

number_word : (k : ℕ) → IsWord (codes "x" ++ decimal k)
unfolding digits
number_word k = digits_go 64 k [] refl

pub of_number : (k : ℕ) (s : List ℕ) → Binds (var (codes "x" ++ decimal k) s)
of_number k s = All-cons Named (record { name = codes "x" ++ decimal k; sort = s }) [] (number_word k) (All-nil Named)

of_z : (s : List ℕ) → Binds (var (codes "z") s)
of_z s = All-cons Named (record { name = codes "z"; sort = s }) [] refl (All-nil Named)

of_x : (s : List ℕ) → Binds (var (codes "x") s)
of_x s = All-cons Named (record { name = codes "x"; sort = s }) [] refl (All-nil Named)

binds_on : (f : PlainOperator) (t : Tree) → Binds t → Binds (on f t)
binds_on f t h = All-append Named (occurrences t) [] h (All-nil Named)

binds_on_two : (f : PlainOperator) (t u : Tree) → Binds t → Binds u → Binds (on_two f t u)
binds_on_two f t u h k =
    All-append Named (occurrences t) (occurrences u ++ []) h (All-append Named (occurrences u) [] k (All-nil Named))

binds_forest : (ts : List Tree) → All Binds ts → All Named (occurrences_in (forest_of ts))
binds_forest [] h = All-nil Named
binds_forest (t ∷ ts) h =
    All-append Named (occurrences t) (occurrences_in (forest_of ts)) (All-head Binds t ts h)
    (binds_forest ts (All-tail Binds t ts h))

differ_says : (u a b : PlainOperator) → Says (differ u a b)
differ_says u a b = (All-nil Named, All-nil Named)

followed_says : (u a b : PlainOperator) → Says (following_statement u a b)
followed_says u a b = (All-nil Named, All-nil Named)

says_map : {A : Type 0} (f : A → Statement) → ((x : A) → Says (f x)) → (xs : List A) → All Says (map f xs)
says_map f h [] = All-nil Says
says_map f h (x ∷ xs) = All-cons Says (f x) (map f xs) (h x) (says_map f h xs)

all_differ_says : (u : PlainOperator) (es : List PlainOperator) → All Says (all_differ u es)
all_differ_says u [] = All-nil Says
all_differ_says u (a ∷ bs) =
    All-append Says (map (differ u a) bs) (all_differ u bs) (says_map (differ u a) (differ_says u a) bs)
    (all_differ_says u bs)

from_says : (u a : PlainOperator) (bs : List PlainOperator) → All Says (followed_from u a bs)
from_says u a [] = All-nil Says
from_says u a (b ∷ bs) =
    All-cons Says (following_statement u a b) (followed_from u b bs) (followed_says u a b) (from_says u b bs)

all_followed_says : (u : PlainOperator) (es : List PlainOperator) → All Says (all_followed u es)
all_followed_says u [] = All-nil Says
all_followed_says u (a ∷ bs) = from_says u a bs

enumeration_says : (sort : List ℕ) (names : List (List ℕ)) → All Says (enumeration sort names).statements
enumeration_says sort names =
    let es : List PlainOperator = elements sort names in
    All-cons Says (Generated sort es) (all_differ (built_in Unequal sort) es ++ all_followed (successor sort) es) tt
    (All-append Says (all_differ (built_in Unequal sort) es) (all_followed (successor sort) es)
    (all_differ_says (built_in Unequal sort) es) (all_followed_says (successor sort) es))

module _ (sort : List ℕ) where
  values_bind : (k : ℕ) (fields : List RawField) → All Binds (map (λ c. c.value) (components_of sort k fields))
  values_bind k [] = All-nil Binds
  values_bind k (f ∷ fields) =
      All-cons Binds (var (codes "x" ++ decimal k) f.sort.name) (map (λ c. c.value) (components_of sort (suc k) fields))
      (of_number k f.sort.name) (values_bind (suc k) fields)

  got_says : (whole : Tree) → Binds whole → (k : ℕ) (fields : List RawField)
      → All Says (map (is_got whole) (components_of sort k fields))
  got_says whole h k [] = All-nil Says
  got_says whole h k (f ∷ fields) =
      All-cons Says (is_got whole (component_of sort k f)) (map (is_got whole) (components_of sort (suc k) fields))
      (binds_on (component_of sort k f).getter whole h, of_number k f.sort.name) (got_says whole h (suc k) fields)

  set_says : (make : PlainOperator) (whole : Tree) → Binds whole → (before : List Tree) → All Binds before
      → (k : ℕ) (fields : List RawField)
      → All Says (all_set make whole before (components_of sort k fields))
  set_says make whole h before b k [] = All-nil Says
  set_says make whole h before b k (f ∷ fields) =
      let behind : List Tree = map (λ c. c.value) (components_of sort (suc k) fields) in
      let x : Tree = var (codes "x" ++ decimal k) f.sort.name in
      let z : Tree = var (codes "z") f.sort.name in
      All-cons Says (is_set make whole before (component_of sort k f) behind)
      (all_set make whole (before ++ x ∷ []) (components_of sort (suc k) fields)) (
        binds_on_two (component_of sort k f).setter whole z h (of_z f.sort.name),
        binds_forest (before ++ z ∷ behind)
            (All-append Binds before (z ∷ behind) b
            (All-cons Binds z behind (of_z f.sort.name) (values_bind (suc k) fields))),
      )
      (set_says make whole h (before ++ x ∷ []) (All-push Binds before x b (of_number k f.sort.name)) (suc k) fields)

  tuple_says : (fields : List RawField) → All Says (tuple sort fields).statements
  tuple_says fields =
      let make : PlainOperator = maker sort fields in
      let whole : Tree = tuple_of make (components_of sort 1 fields) in
      let h : Binds whole = binds_forest (map (λ c. c.value) (components_of sort 1 fields)) (values_bind 1 fields) in
      All-cons Says (Generated sort (make ∷ []))
      (Partitioned sort (map (λ c. c.getter) (components_of sort 1 fields))
      ∷ (map (is_got whole) (components_of sort 1 fields) ++ all_set make whole [] (components_of sort 1 fields)))
      tt
      (All-cons Says (Partitioned sort (map (λ c. c.getter) (components_of sort 1 fields)))
      (map (is_got whole) (components_of sort 1 fields) ++ all_set make whole [] (components_of sort 1 fields)) tt
      (All-append Says (map (is_got whole) (components_of sort 1 fields))
      (all_set make whole [] (components_of sort 1 fields)) (got_says whole h 1 fields)
      (set_says make whole h [] (All-nil Binds) 1 fields)))

  back_says : (fields : List RawField) → All Says (map is_back (map (case_of sort) fields))
  back_says [] = All-nil Says
  back_says (f ∷ fields) =
      All-cons Says (is_back (case_of sort f)) (map is_back (map (case_of sort) fields)) (
        binds_on (case_of sort f).getter (on (case_of sort f).injection (case_of sort f).value)
            (binds_on (case_of sort f).injection (case_of sort f).value (of_x f.sort.name)),
        of_x f.sort.name,
      )
      (back_says fields)

  tagged_says : (fields : List RawField) → All Says (map (is_tagged (tag sort)) (map (case_of sort) fields))
  tagged_says [] = All-nil Says
  tagged_says (f ∷ fields) =
      All-cons Says (is_tagged (tag sort) (case_of sort f)) (map (is_tagged (tag sort)) (map (case_of sort) fields)) (
        binds_on (tag sort) (on (case_of sort f).injection (case_of sort f).value)
            (binds_on (case_of sort f).injection (case_of sort f).value (of_x f.sort.name)),
        All-nil Named,
      )
      (tagged_says fields)

  union_says : (fields : List RawField) → All Says (union_ sort fields).statements
  union_says fields =
      All-append Says (enumeration (tag_sort sort) (names_of fields)).statements
      (union_statements sort (map (case_of sort) fields)) (enumeration_says (tag_sort sort) (names_of fields))
      (All-cons Says (Generated sort (map (λ c. c.injection) (map (case_of sort) fields)))
      (Partitioned sort (map (λ c. c.getter) (map (case_of sort) fields) ++ tag sort ∷ [])
      ∷ (map is_back (map (case_of sort) fields) ++ map (is_tagged (tag sort)) (map (case_of sort) fields))) tt
      (All-cons Says (Partitioned sort (map (λ c. c.getter) (map (case_of sort) fields) ++ tag sort ∷ []))
      (map is_back (map (case_of sort) fields) ++ map (is_tagged (tag sort)) (map (case_of sort) fields)) tt
      (All-append Says (map is_back (map (case_of sort) fields))
      (map (is_tagged (tag sort)) (map (case_of sort) fields)) (back_says fields) (tagged_says fields))))

expansion_says : (s : RawShorthand) → All Says (expansion_of s).statements
expansion_says (Enumeration sort words) = enumeration_says sort.name (names_in words)
expansion_says (Tuple sort fields) = tuple_says sort.name fields
expansion_says (Union sort fields) = union_says sort.name fields

-- the statements have words for variables, marked ones and those that are to be discharged
abbrev Marks : Gathered → Type 0
Marks g = AllMarked Says g.marked × All Says g.discharge

pub renamed_binds : (r : Renaming) (t : Tree) → Binds t → Binds (rename_tree r t)
renamed_binds r t h =
    subst (All Named) (sym (renamed_occurrences r t))
    (All-map Named (renamed_variable r) (occurrences t)
    (All-weaker Named (λ v. Named (renamed_variable r v)) (λ v k. k) (occurrences t) h))

pub renamed_says : (r : Renaming) (s : Statement) → Says s → Says (renamed_statement r s)
renamed_says r (Equation l q) h = (renamed_binds r l h.0, renamed_binds r q h.1)
renamed_says r (Generated s gs) h = tt
renamed_says r (Partitioned s gs) h = tt

taken_by : (m : Marked) (g : Gathered) (b : Bool) → Says m.statement → Marks g
    → Marks (cond b (with_discharge m.statement g) (with_marked false m.statement g))
taken_by m g true p h = (h.0, All-push Says g.discharge m.statement h.1 p)
taken_by m g false p h = (with_statement_all Says m.statement false g.marked p h.0, h.1)

taken_says : (assumes : Bool) (m : Marked) (g : Gathered) → Says m.statement → Marks g → Marks (with_taken assumes m g)
taken_says true m g p h = (with_statement_all Says m.statement true g.marked p h.0, h.1)
taken_says false m g p h = taken_by m g m.assumed p h

all_taken_says : (assumes : Bool) (ms : List Marked) (g : Gathered) → AllMarked Says ms → Marks g
    → Marks (fold (λ h m. with_taken assumes m h) g ms)
all_taken_says assumes [] g a h = h
all_taken_says assumes (m ∷ ms) g a h =
    let P : Marked → Type 0 = (λ n. Says n.statement) in
    all_taken_says assumes ms (with_taken assumes m g) (All-tail P m ms a)
    (taken_says assumes m g (All-head P m ms a) h)

asserted_says : (ss : List Statement) (g : Gathered) → All Says ss → Marks g → Marks (with_asserted ss g)
asserted_says [] g a h = h
asserted_says (s ∷ ss) g a h =
    asserted_says ss (with_marked false s g) (All-tail Says s ss a)
    (with_statement_all Says s false g.marked (All-head Says s ss a) h.0, h.1)

pub renamed_marks : (by : Replacements) (ms : List Marked) → AllMarked Says ms → AllMarked Says (renamed_marked by ms)
renamed_marks by ms a =
    marks_from Says (map (renamed_mark by) ms) []
    (All-map (λ m. Says m.statement) (renamed_mark by) ms
    (All-weaker (λ m. Says m.statement) (λ m. Says (renamed_statement (renaming by) m.statement))
    (λ m s. renamed_says (renaming by) m.statement s) ms a))
    (All-nil (λ m. Says m.statement))

says_flat : (r : RawReference) (g h : Gathered) (t : FlatTrait) → AllMarked Says t.marked → take_flat r g t ≡ Ok h
    → Marks g → Marks h
says_flat r g h t i e k =
    let p = after_was (replacements_of t.operators t.raw.formals r.target)
    (λ by. within r.target.name.pos (with_renamed r.assumed t by g)) h e in
    let by : Replacements = p.0 in
    let q = refused_if_was Size r.target.name.pos (is_too_large (with_renamed r.assumed t by g))
    (Ok (with_renamed r.assumed t by g)) h p.2 in
    subst Marks (ok_inj q.1)
    (all_taken_says r.assumed (renamed_marked by t.marked) (with_operators (map (new_operator by) t.operators) g)
    (renamed_marks by t.marked i) k)

says_shorthand : (s : RawShorthand) (g h : Gathered) → take_shorthand s g ≡ Ok h → Marks g → Marks h
says_shorthand s g h e i =
    let p = after_was (expand s) (λ x. Ok (with_asserted x.statements (with_operators x.operators g))) h e in
    let x : Expansion = p.0 in
    subst Marks (ok_inj p.2)
    (asserted_says x.statements (with_operators x.operators g)
    (subst (λ y. All Says y.statements) (ok_inj (unless_was (wrong_in s) (Ok (expansion_of s)) x p.1).1)
    (expansion_says s)) i)

pub item_words : (item : RawItem) → WordedItem item → BindsWords item
item_words (Clause kind sort refs) h = tt
item_words (Equations variables equations) h = All-weaker WordedVar (λ v. IsWord v.name.name) (λ v k. k.0) variables h.0

says_own : (raw : RawTrait) (g h : Gathered) → All WordedItem raw.items → take_own raw g ≡ Ok h → Marks g → Marks h
says_own raw g h w e i =
    let p = after_was (declared_operators raw.declarations) (λ fs. take_items raw (with_operators fs g)) h e in
    let j : Gathered = with_operators p.0 g in
    let q = after_was (items_state j.operators raw.items) (λ ss. Ok (with_asserted ss j)) h p.2 in
    subst Marks (ok_inj q.2) (asserted_says q.0 j
    (items_bind j.operators raw.items q.0 (All-weaker WordedItem BindsWords item_words raw.items w) q.1) i)

says_finished : (raw : RawTrait) (g : Gathered) → Marks g → Marks (gathered_in (finish_trait raw g))
says_finished raw g h = (
  h.0,
  all_new Says (filter (λ s. not (stands_in (statements_in g.marked) s)) g.discharge) [] (All-nil Says)
      (all_left Says (λ s. not (stands_in (statements_in g.marked) s)) g.discharge h.1),
)

says_keeps : Keeps WordedTrait Any Any Marks
says_keeps =
    record {
      references = λ raw w. all_any raw.references;
      shorthands = λ raw w. all_any raw.shorthands;
      begins = (All-nil (λ m. Says m.statement), All-nil Says);
      with_flat = λ r g h t _ i e k. says_flat r g h t i.0 e k;
      with_shorthand = λ s g h _ e i. says_shorthand s g h e i;
      with_own = λ raw g h w e i. says_own raw g h w.2 e i;
      ends = says_finished;
    }

-- the variables of the statements of a flat trait are words, and those of what is to be discharged
pub flat_says : (files : Files) → AreWorded files → (limit : ℕ) (name : List ℕ) (t : FlatTrait)
    → flat limit files name ≡ Ok t → AllMarked Says t.marked × All Says t.discharge
flat_says files w limit name t e = every_flat WordedTrait Any Any Marks says_keeps files w limit name t e

-- and so are those of its theory
pub variables_words : (files : Files) → AreWorded files → (limit : ℕ) (name : List ℕ) (t : FlatTrait)
    → flat limit files name ≡ Ok t
    → All (StatementVariables IsWord) (theory_of t).statements
variables_words files w limit name t e =
    All-map Says (λ m. m.statement) t.marked (flat_says files w limit name t e).0

-- each sort and each variable of what is to be discharged is a word
pub discharge_in_words : (files : Files) → AreWorded files → (limit : ℕ) (name : List ℕ) (t : FlatTrait)
    → flat limit files name ≡ Ok t → All IsInWords t.discharge
discharge_in_words files w limit name t e =
    both_hold (StatementSorts IsWord) Says t.discharge (discharge_words files w limit name t e)
    (flat_says files w limit name t e).1
