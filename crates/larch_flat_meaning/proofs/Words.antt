-- Each sort in a flat trait is a word, where its files are written with words.
use Rattle.std.proofs.Common.{◌≡◌, refl, ℕ, Bool, true, false, cond, not, ◌==◌, ◌&&◌, ◌||◌, List, [], ◌∷◌, ◌++◌, map}
use Rattle.std.proofs.Common.{All, Option, Some, None, Ok, ap, sym, subst, ◌∙◌, inl, inr}
use Rattle.std.specs.Char.{is_ascii_alphanumeric}
use Rattle.std.specs.Prelude.{bytes_eq, codes, is_some, unwrap_or}
use Rattle.std.specs.List.{list_any}
use Rattle.std.specs.Map.{lookup}
use Rattle.std.proofs.lemmas.List.Elements.{All-nil, All-cons, All-head, All-tail, All-map, All-append, All-push}
use Rattle.std.proofs.lemmas.List.Elements.{All-weaker, All-contains}
use Rattle.larch_base.specs.Word.{begins_alphanumeric, goes_on}
use Rattle.larch_base.specs.declared.code.Code.TheVariants.{Rename}
use Rattle.larch_base.specs.declared.position.Pos.{Pos}
use Rattle.larch_base.proofs.Bools.{and_both, both_true}
use Rattle.larch_base.proofs.Lists.{all_from}
use Rattle.larch_base.proofs.Members.{contains_here, contains_left, contains_right}
use Rattle.larch_raw.specs.Worded.{WordedActual, WordedDecl, WordedField, WordedForm, WordedReference, WordedShorthand}
use Rattle.larch_raw.specs.Worded.{WordedTrait}
use Rattle.larch_raw.specs.declared.declared.RawForm.{RawForm}
use Rattle.larch_raw.specs.declared.reference.RawActual.{RawActual}
use Rattle.larch_raw.specs.declared.reference.RawActual.TheVariants.{Plain, Replace}
use Rattle.larch_raw.specs.declared.reference.RawRef.{RawRef}
use Rattle.larch_raw.specs.declared.shorthand.RawField.{RawField}
use Rattle.larch_raw.specs.declared.shorthand.RawShorthand.{RawShorthand}
use Rattle.larch_raw.specs.declared.shorthand.RawShorthand.TheVariants.{Enumeration, Tuple, Union}
use Rattle.larch_term.specs.BuiltIn.{bool_sort, is_built_in}
use Rattle.larch_term.specs.Operator.{PlainOperator}
use Rattle.larch_term.specs.Tree.{Tree, Forest, var, app, none, more}
use Rattle.larch_term.specs.declared.statement.Statement.{Statement}
use Rattle.larch_term.specs.declared.statement.Statement.TheVariants.{Equation, Generated, Partitioned}
use Rattle.larch_shorthand.specs.SortsMeaningLaws.{ForestSorts, IsSortOf, OperatorSorts, StatementSorts, TermSorts}
use Rattle.larch_shorthand.specs.SortsMeaningLaws.{sorts_of_operator}
use Rattle.larch_shorthand.specs.BaseMeaningWord.{IsWord}
use Rattle.larch_shorthand.specs.TraitsItemsLaws.{DeclaresWords}
use Rattle.larch_shorthand.specs.BaseMeaningSteps.{after, all_taken}
use Rattle.larch_shorthand.proofs.TraitsItemsKept.{after_was, kept, ok_inj, unless_was}
use Rattle.larch_shorthand.proofs.TraitsItemsStated.{declared_words}
use Rattle.larch_shorthand.specs.Enumeration.{elements, enumeration_operators, successor}
use Rattle.larch_shorthand.specs.Operators.{operator}
use Rattle.larch_shorthand.specs.Shorthand.{expand, expansion_of, names_in, wrong_in}
use Rattle.larch_shorthand.specs.Tuple.{getter, maker, setter, tuple_operators}
use Rattle.larch_shorthand.specs.Union.{injection, names_of, tag, tag_sort, union_operators}
use Rattle.larch_shorthand.specs.declared.expansion.Expansion.{Expansion}
use Rattle.larch_flat_meaning.specs.Files.{Files}
use Rattle.larch_flat_meaning.specs.Flat.{FlatTrait, flat, theory_of}
use Rattle.larch_flat_meaning.specs.Laws.{AreWorded, IsStatedOver}
use Rattle.larch_flat_meaning.specs.Replacements.{Named, OldOperators, OldSort, Replacement, Replacements}
use Rattle.larch_flat_meaning.specs.Replacements.{all_replacements, by_name, by_position, cannot_rename}
use Rattle.larch_flat_meaning.specs.Replacements.{cannot_rename_sort, is_count_wrong, kept_apart, meant_by}
use Rattle.larch_flat_meaning.specs.Replacements.{new_operator, new_sort, none_or_any, none_replaced, plain_forms}
use Rattle.larch_flat_meaning.specs.Replacements.{replace, replace_form, replacements_of}
use Rattle.larch_flat_meaning.proofs.EachOperator.{Brings, HaveOperators, each_operator}
use Rattle.larch_flat_meaning.proofs.Gathering.{every_flat}
use Rattle.larch_flat_meaning.proofs.Proper.{refused_if_was}
use Rattle.larch_flat_meaning.proofs.Theory.{flat_discharge, flat_stated}

-- each sort of the operator is a word
abbrev HasWordSorts : PlainOperator → Type 0
HasWordSorts f = OperatorSorts IsWord f

or_false : (a b : Bool) → (a || b) ≡ false → (a ≡ false) × (b ≡ false)
or_false true b e = cc
or_false false b e = (refl, e)

not_not : (b : Bool) → not b ≡ false → b ≡ true
not_not true e = refl
not_not false e = cc

of_words : (f : PlainOperator) → All IsWord f.domain → IsWord f.range → HasWordSorts f
of_words f h k = All-append IsWord f.domain (f.range ∷ []) h (All-cons IsWord f.range [] k (All-nil IsWord))

one_word : (s : List ℕ) → IsWord s → All IsWord (s ∷ [])
one_word s h = All-cons IsWord s [] h (All-nil IsWord)

begins_tag : (bs : List ℕ) → begins_alphanumeric (bs ++ codes "_tag") ≡ begins_alphanumeric bs
begins_tag [] = refl
begins_tag (b ∷ bs) = refl

goes_tag : (bs : List ℕ) → goes_on bs ≡ true → goes_on (bs ++ codes "_tag") ≡ true
goes_tag [] h = refl
goes_tag (b ∷ bs) h =
    let p = both_true (is_ascii_alphanumeric b || (b == 39) || ((b == 95) && begins_alphanumeric bs)) (goes_on bs) h in
    and_both (is_ascii_alphanumeric b || (b == 39) || ((b == 95) && begins_alphanumeric (bs ++ codes "_tag")))
    (goes_on (bs ++ codes "_tag"))
    (ap (λ q. is_ascii_alphanumeric b || (b == 39) || ((b == 95) && q)) (begins_tag bs) ∙ p.0) (goes_tag bs p.1)

-- the sort of the tags of a word is a word
tag_word : (s : List ℕ) → IsWord s → IsWord (tag_sort s)
tag_word [] h = cc
tag_word (b ∷ bs) h =
    let p = both_true (is_ascii_alphanumeric b) (goes_on bs) h in
    and_both (is_ascii_alphanumeric b) (goes_on (bs ++ codes "_tag")) p.0 (goes_tag bs p.1)

each_worded : {A : Type 0} (P : A → Type 0) (make : A → PlainOperator) → ((x : A) → P x → HasWordSorts (make x))
    → (xs : List A) → All P xs → All HasWordSorts (map make xs)
each_worded P make h xs a = All-map HasWordSorts make xs (All-weaker P (λ x. HasWordSorts (make x)) h xs a)

anything : {A : Type 0} (xs : List A) → All (λ x. Unit {0}) xs
anything [] = All-nil (λ x. Unit {0})
anything (x ∷ xs) = All-cons (λ y. Unit {0}) x xs tt (anything xs)

enumeration_words : (sort : List ℕ) (names : List (List ℕ)) → IsWord sort
    → All HasWordSorts (enumeration_operators sort names)
enumeration_words sort names h =
    All-append HasWordSorts (elements sort names) (successor sort ∷ [])
    (each_worded (λ n. Unit {0}) (λ n. operator n [] sort) (λ n _. one_word sort h) names (anything names))
    (All-cons HasWordSorts (successor sort) [] (of_words (successor sort) (one_word sort h) h) (All-nil HasWordSorts))

module _ (sort : List ℕ) (h : IsWord sort) where
  getter_words : (f : RawField) → WordedField f → HasWordSorts (getter sort f)
  getter_words f w = of_words (getter sort f) (one_word sort h) w.1

  setter_words : (f : RawField) → WordedField f → HasWordSorts (setter sort f)
  setter_words f w = of_words (setter sort f) (All-cons IsWord sort (f.sort.name ∷ []) h (one_word f.sort.name w.1)) h

  tuple_words : (fields : List RawField) → All WordedField fields → All HasWordSorts (tuple_operators sort fields)
  tuple_words fields w =
      All-cons HasWordSorts (maker sort fields) (map (getter sort) fields ++ map (setter sort) fields)
      (of_words (maker sort fields) (All-map IsWord (λ f. f.sort.name) fields
      (All-weaker WordedField (λ f. IsWord f.sort.name) (λ f k. k.1) fields w)) h)
      (All-append HasWordSorts (map (getter sort) fields) (map (setter sort) fields)
      (each_worded WordedField (getter sort) getter_words fields w)
      (each_worded WordedField (setter sort) setter_words fields w))

  union_words : (fields : List RawField) → All WordedField fields
      → All HasWordSorts (enumeration_operators (tag_sort sort) (names_of fields) ++ union_operators sort fields)
  union_words fields w =
      All-append HasWordSorts (enumeration_operators (tag_sort sort) (names_of fields)) (union_operators sort fields)
      (enumeration_words (tag_sort sort) (names_of fields) (tag_word sort h))
      (All-append HasWordSorts (map (injection sort) fields) (map (getter sort) fields ++ tag sort ∷ [])
      (each_worded WordedField (injection sort)
      (λ f k. of_words (injection sort f) (one_word f.sort.name k.1) h) fields w)
      (All-append HasWordSorts (map (getter sort) fields) (tag sort ∷ [])
      (each_worded WordedField (getter sort) getter_words fields w)
      (All-cons HasWordSorts (tag sort) [] (of_words (tag sort) (one_word sort h) (tag_word sort h))
      (All-nil HasWordSorts))))

expansion_words_are : (s : RawShorthand) → WordedShorthand s → All HasWordSorts (expansion_of s).operators
expansion_words_are (Enumeration sort words) w = enumeration_words sort.name (names_in words) w.0
expansion_words_are (Tuple sort fields) w = tuple_words sort.name w.0 fields w.1
expansion_words_are (Union sort fields) w = union_words sort.name w.0 fields w.1

expansion_words : (s : RawShorthand) (e : Expansion) → WordedShorthand s → expand s ≡ Ok e
    → All HasWordSorts e.operators
expansion_words s e w h =
    subst (λ x. All HasWordSorts x.operators) (ok_inj (unless_was (wrong_in s) (Ok (expansion_of s)) e h).1)
    (expansion_words_are s w)

-- the new sorts are words
abbrev NewWords : Replacements → Type 0
NewWords by = All (λ p. IsWord p.1) by.sorts

look_by : (p : List ℕ × List ℕ) (rest : Option (List ℕ)) (s : List ℕ) (b : Bool) → IsWord p.1
    → IsWord (unwrap_or rest s) → IsWord (unwrap_or (cond b (Some p.1) rest) s)
look_by p rest s true h k = h
look_by p rest s false h k = k

look : (ps : List (List ℕ × List ℕ)) (s : List ℕ) → All (λ p. IsWord p.1) ps → IsWord s
    → IsWord (unwrap_or (lookup (bytes_eq s) ps) s)
look [] s h k = k
look (p ∷ ps) s h k =
    look_by p (lookup (bytes_eq s) ps) s (bytes_eq s p.0) (All-head (λ q. IsWord q.1) p ps h)
    (look ps s (All-tail (λ q. IsWord q.1) p ps h) k)

left : (ss rs : List (List ℕ)) → All IsWord (ss ++ rs) → All IsWord ss
left ss rs a = all_from IsWord ss (λ s c. All-contains IsWord (ss ++ rs) s a (contains_left ss rs s c))

renamed_words : (by : Replacements) → NewWords by → (f : PlainOperator) → HasWordSorts f
    → HasWordSorts (new_operator by f)
renamed_words by h f w =
    of_words (new_operator by f)
    (All-map IsWord (new_sort by) f.domain
    (All-weaker IsWord (λ s. IsWord (new_sort by s)) (λ s k. look by.sorts s h k) f.domain
    (left f.domain (f.range ∷ []) w)))
    (look by.sorts f.range h (All-contains IsWord (f.domain ++ f.range ∷ []) f.range w
    (contains_right f.domain (f.range ∷ []) f.range (contains_here f.range []))))

replaced_words : (pos : Pos) (new : RawForm) (what : Named) (by to : Replacements) → WordedForm new
    → replace_form pos new what by ≡ Ok to → NewWords by → NewWords to
replaced_words pos new (OldSort s) by to w e h =
    let more : Replacements = record { sorts = by.sorts ++ (s, new.name) ∷ []; operators = by.operators } in
    let r = refused_if_was Rename pos (cannot_rename_sort by new s) (Ok more) to e in
    let t = or_false (bytes_eq s bool_sort) (is_some (lookup (bytes_eq s) by.sorts) || not new.word) r.0 in
    let u = or_false (is_some (lookup (bytes_eq s) by.sorts)) (not new.word) t.1 in
    subst NewWords (ok_inj r.1) (All-push (λ p. IsWord p.1) by.sorts (s, new.name) h (w (not_not new.word u.1)))
replaced_words pos new (OldOperators fs) by to w e h =
    let more : Replacements = record { sorts = by.sorts; operators = by.operators ++ map (λ f. (f, new.name)) fs } in
    let r = refused_if_was Rename pos (none_or_any (cannot_rename by new) fs) (Ok more) to e in
    subst NewWords (ok_inj r.1) h

-- the new form of a replacement is a word where it is a bare word
abbrev NewIs : Replacement → Type 0
NewIs r = WordedForm r.new

plain_worded : (actuals : List RawActual) → All WordedActual actuals → All WordedForm (plain_forms actuals)
plain_worded [] h = All-nil WordedForm
plain_worded (Plain form ∷ actuals) h =
    All-cons WordedForm form (plain_forms actuals) (All-head WordedActual (Plain form) actuals h)
    (plain_worded actuals (All-tail WordedActual (Plain form) actuals h))
plain_worded (Replace new old sig ∷ actuals) h =
    plain_worded actuals (All-tail WordedActual (Replace new old sig) actuals h)

position_worded : (formals forms : List RawForm) → All WordedForm forms → All NewIs (by_position formals forms)
position_worded [] forms h = All-nil NewIs
position_worded (formal ∷ formals) [] h = All-nil NewIs
position_worded (formal ∷ formals) (form ∷ forms) h =
    All-cons NewIs (record { old = formal; sig = None; new = form; pos = form.pos }) (by_position formals forms)
    (All-head WordedForm form forms h)
    (position_worded formals forms (All-tail WordedForm form forms h))

name_worded : (actuals : List RawActual) → All WordedActual actuals → All NewIs (by_name actuals)
name_worded [] h = All-nil NewIs
name_worded (Plain form ∷ actuals) h = name_worded actuals (All-tail WordedActual (Plain form) actuals h)
name_worded (Replace new old sig ∷ actuals) h =
    All-cons NewIs (record { old = old; sig = sig; new = new; pos = old.pos }) (by_name actuals)
    (All-head WordedActual (Replace new old sig) actuals h).0
    (name_worded actuals (All-tail WordedActual (Replace new old sig) actuals h))

replacements_words : (fs : List PlainOperator) (formals : List RawForm) (ref : RawRef) (by : Replacements)
    → All WordedActual ref.actuals → replacements_of fs formals ref ≡ Ok by → NewWords by
unfolding replacements_of
replacements_words fs formals ref by w e =
    let rs : List Replacement = all_replacements formals ref in
    let p = refused_if_was Rename ref.name.pos (is_count_wrong formals (plain_forms ref.actuals))
    (after (all_taken (replace fs) rs none_replaced) (kept_apart fs ref.name.pos)) by e in
    let q = after_was (all_taken (replace fs) rs none_replaced) (kept_apart fs ref.name.pos) by p.1 in
    let r = refused_if_was Rename ref.name.pos (list_any (λ f. is_built_in (new_operator q.0 f)) fs) (Ok q.0) by q.2 in
    subst NewWords (ok_inj r.1)
    (kept (replace fs) NewIs NewWords
    (λ x b c v s h. replaced_words x.pos x.new (meant_by fs x.old x.sig) b c v s h) rs none_replaced q.0
    (All-append NewIs (by_position formals (plain_forms ref.actuals)) (by_name ref.actuals)
    (position_worded formals (plain_forms ref.actuals) (plain_worded ref.actuals w)) (name_worded ref.actuals w))
    q.1 (All-nil (λ p. IsWord p.1)))

words_brought : Brings WordedTrait WordedReference WordedShorthand HasWordSorts
words_brought =
    record {
      references = λ raw w. w.5;
      shorthands = λ raw w. w.4;
      renames = λ r t by w e. renamed_words by (replacements_words t.operators t.raw.formals r.target by w.1 e);
      expands = expansion_words;
      declares =
          λ raw fs w e. declared_words raw.declarations fs
          (All-weaker WordedDecl DeclaresWords (λ d k. k) raw.declarations w.1) e;
    }

-- the sorts of the operators of a flat trait are words
pub operators_words : (files : Files) → AreWorded files → (limit : ℕ) (name : List ℕ) (t : FlatTrait)
    → flat limit files name ≡ Ok t → All (OperatorSorts IsWord) t.operators
operators_words files w limit name t e =
    every_flat WordedTrait WordedReference WordedShorthand (HaveOperators HasWordSorts)
    (each_operator WordedTrait WordedReference WordedShorthand HasWordSorts words_brought) files w limit name t e

word_exists : (fs : List PlainOperator) → All (OperatorSorts IsWord) fs → (s : List ℕ) → IsSortOf fs s → IsWord s
word_exists fs h s (inl e) = subst IsWord (sym e) refl
word_exists fs h s (inr (f, c, d)) =
    All-contains IsWord (sorts_of_operator f) s (All-contains (OperatorSorts IsWord) fs f h c) d

module _ (P Q : List ℕ → Type 0) (w : (s : List ℕ) → P s → Q s) where
  mutual
    term_weaker : (t : Tree) → TermSorts P t → TermSorts Q t
    term_weaker (var n s) h = w s h
    term_weaker (app f ts) h = (All-weaker P Q w (sorts_of_operator f) h.0, forest_weaker ts h.1)

    forest_weaker : (ts : Forest) → ForestSorts P ts → ForestSorts Q ts
    forest_weaker none h = tt
    forest_weaker (more t ts) h = (term_weaker t h.0, forest_weaker ts h.1)

  statement_weaker : (s : Statement) → StatementSorts P s → StatementSorts Q s
  statement_weaker (Equation l r) h = (term_weaker l h.0, term_weaker r h.1)
  statement_weaker (Generated s gs) h =
      (w s h.0, All-weaker (OperatorSorts P) (OperatorSorts Q) (λ g k. All-weaker P Q w (sorts_of_operator g) k) gs h.1)
  statement_weaker (Partitioned s gs) h =
      (w s h.0, All-weaker (OperatorSorts P) (OperatorSorts Q) (λ g k. All-weaker P Q w (sorts_of_operator g) k) gs h.1)

-- the sorts of what is stated over operators whose sorts are words are words
pub stated_words : (fs : List PlainOperator) → All (OperatorSorts IsWord) fs → (s : Statement) → IsStatedOver fs s
    → StatementSorts IsWord s
stated_words fs h s k = statement_weaker (IsSortOf fs) IsWord (word_exists fs h) s k.2

-- the sorts of its statements are words
pub statements_words : (files : Files) → AreWorded files → (limit : ℕ) (name : List ℕ) (t : FlatTrait)
    → flat limit files name ≡ Ok t
    → All (StatementSorts IsWord) (theory_of t).statements
statements_words files w limit name t e =
    All-weaker (IsStatedOver t.operators) (StatementSorts IsWord)
    (stated_words t.operators (operators_words files w limit name t e))
    (theory_of t).statements (flat_stated files w limit name t e)

-- and so are those of what is to be discharged
pub discharge_words : (files : Files) → AreWorded files → (limit : ℕ) (name : List ℕ) (t : FlatTrait)
    → flat limit files name ≡ Ok t → All (StatementSorts IsWord) t.discharge
discharge_words files w limit name t e =
    All-weaker (IsStatedOver t.operators) (StatementSorts IsWord)
    (stated_words t.operators (operators_words files w limit name t e)) t.discharge
    (flat_discharge files w limit name t e)
