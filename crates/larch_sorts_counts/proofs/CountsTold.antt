-- How often terms read at each sort.
use Rattle.std.proofs.Common.{◌≡◌, ℕ, ◌+◌, ◌<◌, suc, ◌⊎◌, inl, inr, List, [], ◌∷◌, ◌++◌, Contains, Some, None, IfSome}
use Rattle.std.proofs.Common.{bytes_eq, map, length, take, get_or, refl, sym, ◌∙◌, ap, subst, arith, Option}
use Rattle.std.specs.List.{fold}
use Rattle.std.specs.Map.{lookup}
use Rattle.std.proofs.lemmas.List.{length-replicate, length-set, map-append, take_more}
use Rattle.larch_sorts_meaning.specs.BasePositionPos.{Pos}
use Rattle.larch_sorts_meaning.proofs.BaseMembers.{contains_cases, contains_here, contains_later, contains_none}
use Rattle.larch_sorts_meaning.specs.RawRawTree.{RawTree, RawForest, apply, qualified, raw_forest}
use Rattle.larch_sorts_meaning.specs.RawRawWord.{RawWord}
use Rattle.larch_sorts_meaning.specs.TermEquality.{same_name}
use Rattle.larch_sorts_meaning.specs.TermOperator.{PlainOperator, plain}
use Rattle.larch_sorts_meaning.specs.TermSorts.{sort_of}
use Rattle.larch_sorts_meaning.specs.TermTree.{Forest, Tree, app, forest_of, var}
use Rattle.larch_sorts_meaning.proofs.TermTreeLists.{forest_of_inj}
use Rattle.larch_sorts_counts.specs.Count.{IsCount, alone, blank, count_at, counts_made, plus, product, sum_to, times}
use Rattle.larch_sorts_counts.specs.Count.{with_count}
use Rattle.larch_sorts_counts.specs.Counts.{AllCounts, AreCounts, CountsTell, AreRead, TellsUnread}
use Rattle.larch_sorts_meaning.specs.Readings.{ReadAt, ReadsAt, Reads, a_variable, all_read, of_sort, variable_sort}
use Rattle.larch_sorts_counts.specs.Numbers.{AreDifferent, AreNumbers, number_of, as_numbers, numbers_under}
use Rattle.larch_sorts_meaning.specs.Scope.{Variables}
use Rattle.larch_sorts_meaning.specs.Signature.{operators_named, taking_part}
use Rattle.larch_sorts_counts.specs.declared.count.Count.{Count}
use Rattle.larch_sorts_counts.specs.declared.count.Count.TheVariants.{Never, Once}
use Rattle.larch_sorts_counts.specs.declared.numbers.Numbers.{Numbers}
use Rattle.larch_sorts_counts.proofs.Counting.{blank_at, count_all, count_along, count_both, count_either, count_same}
use Rattle.larch_sorts_counts.proofs.Counting.{earlier_or_now, set_at, counted_thing}
use Rattle.larch_sorts_counts.proofs.Numbering.{different_filter, numbered_within, one_number}
use Rattle.larch_sorts_meaning.proofs.Applications.{ByOperator, ByOperators, FirstAndRest, from_reads, inside}
use Rattle.larch_sorts_meaning.proofs.Applications.{none_at_sorts, only_empty, only_variable, put_together}
use Rattle.larch_sorts_meaning.proofs.Applications.{some_at_none, taken_apart, to_reads}
use Rattle.larch_sorts_meaning.specs.Parts.{head_of, inner_parts, parts}
use Rattle.larch_sorts_meaning.specs.Read.{unread_in}
use Rattle.larch_sorts_meaning.specs.declared.refusal.ReadRefusal.{ReadRefusal}
use Rattle.larch_sorts_meaning.proofs.Unread.{read_with, unread_inside, unread_without}

pub below_next : (z : List ℕ) (ss : List (List ℕ)) → number_of ss z < suc (length ss)
below_next z ss = let w = numbered_within z ss in omega (arith, w)

-- things that all have sorts of one number, counted there
alone_told : (ss : List (List ℕ)) (P : Tree → Type 0) (n : ℕ) (c : Count) (counts : List Count) → n < suc (length ss)
    → IsCount c P → ((t : Tree) → P t → number_of ss (sort_of t) ≡ n)
    → counts ≡ alone (length ss) n c → (i : ℕ) → IsCount (count_at counts i) (λ t. P t × (number_of ss (sort_of t) ≡ i))
alone_told ss P n c counts l h all is i =
    subst (λ cs. IsCount (count_at cs i) (λ t. P t × (number_of ss (sort_of t) ≡ i))) (sym is)
    (elim (set_at (blank (length ss)) n i c (subst (λ m. n < m) (sym (length-replicate (suc (length ss)) Never)) l)) [
      | inl e ↦
          subst (λ d. IsCount d (λ t. P t × (number_of ss (sort_of t) ≡ i))) (sym e.1)
          (count_same P (λ t. P t × (number_of ss (sort_of t) ≡ i)) (λ t p. (p, all t p ∙ e.0)) (λ t q. q.0) c h)
      | inr e ↦
          subst (λ d. IsCount d (λ t. P t × (number_of ss (sort_of t) ≡ i))) (sym (e.1 ∙ blank_at (length ss) i))
          (λ t q. e.0 (sym (all t q.0) ∙ q.1))
    ])

-- the counts of a variable
pub variable_counted : (numbers : Numbers) (vs : Variables) (n z : List ℕ) (rs : RawForest) (p : Pos)
    (counts : List Count) → variable_sort vs n rs ≡ Some z
    → counts ≡ alone (length numbers.sorts.keys) (number_of numbers.sorts.keys z) Once
    → AreCounts numbers vs (apply n rs p) counts
variable_counted numbers vs n z rs p counts some is = λ fs are.
    alone_told numbers.sorts.keys (Reads fs vs (apply n rs p)) (number_of numbers.sorts.keys z) Once counts
    (below_next z numbers.sorts.keys)
    (var n z, (a_variable some, λ t r. only_variable fs vs n z rs p t some r))
    (λ t r. ap (λ u. number_of numbers.sorts.keys (sort_of u)) (only_variable fs vs n z rs p t some r)) is

-- the counts of a qualification
pub qualified_counted : (numbers : Numbers) (vs : Variables) (raw : RawTree) (w : RawWord) (p : Pos)
    (inner counts : List Count) → AreCounts numbers vs raw inner
    → number_of numbers.sorts.keys w.name < length numbers.sorts.keys
    → counts ≡ alone (length numbers.sorts.keys) (number_of numbers.sorts.keys w.name)
    (count_at inner (number_of numbers.sorts.keys w.name)) → AreCounts numbers vs (qualified raw w p) counts
qualified_counted numbers vs raw w p inner counts h l is = λ fs are.
    let ss : List (List ℕ) = numbers.sorts.keys in
    alone_told ss (Reads fs vs (qualified raw w p)) (number_of ss w.name) (count_at inner (number_of ss w.name)) counts
    (below_next w.name ss)
    (count_same (λ t. Reads fs vs raw t × (number_of ss (sort_of t) ≡ number_of ss w.name))
    (Reads fs vs (qualified raw w p)) (λ t q. of_sort q.0 (one_number ss (sort_of t) w.name q.1 l))
    (λ t r. let q = inside fs vs raw w p t r in (q.0, ap (number_of ss) q.1)) (count_at inner (number_of ss w.name))
    (h fs are (number_of ss w.name)))
    (λ t r. ap (number_of ss) (inside fs vs raw w p t r).1) is

-- the count at the number of a sort is that at the sort, where it has a number, or what has none isn't counted
pub at_sort : (ss : List (List ℕ)) (fs : List PlainOperator) (vs : Variables) (raw : RawTree) (counts : List Count)
    (z : List ℕ) → CountsTell ss fs vs raw counts
    → (number_of ss z < length ss) ⊎ (count_at counts (length ss) ≡ Never)
    → IsCount (count_at counts (number_of ss z)) (ReadsAt fs vs raw z)
at_sort ss fs vs raw counts z h known =
    count_same (λ t. Reads fs vs raw t × (number_of ss (sort_of t) ≡ number_of ss z)) (ReadsAt fs vs raw z)
    (λ t q. (
      q.0,
      elim known [
        | inl l ↦ one_number ss (sort_of t) z q.1 l
        | inr e ↦ elim (earlier_or_now (number_of ss z) (length ss) (below_next z ss)) [
          | inl l ↦ one_number ss (sort_of t) z q.1 l
          | inr o ↦
              absurd (subst (λ c. IsCount c (λ u. Reads fs vs raw u × (number_of ss (sort_of u) ≡ length ss))) e
              (h (length ss)) t (q.0, q.1 ∙ o))
        ]
      ],
    )) (λ t q. (q.0, ap (number_of ss) q.1)) (count_at counts (number_of ss z)) (h (number_of ss z))

-- the product of the counts of arguments is that of how they read at sorts
pub arguments_counted : (numbers : Numbers) (vs : Variables) (fs : List PlainOperator) (raws : List RawTree)
    (all : List (List Count)) (zs : List (List ℕ)) → AllCounts numbers vs raws all
    → AreNumbers numbers (taking_part fs)
    → IsCount (product all (map (number_of numbers.sorts.keys) zs)) (ReadAt fs vs raws zs)
arguments_counted numbers vs fs [] [] [] h are = ([], ((all_read, refl), only_empty fs vs))
arguments_counted numbers vs fs [] [] (z ∷ zs) h are = none_at_sorts fs vs z zs
arguments_counted numbers vs fs [] (counts ∷ all) zs h are = absurd h
arguments_counted numbers vs fs (raw ∷ raws) [] zs h are = absurd h
arguments_counted numbers vs fs (raw ∷ raws) (counts ∷ all) [] h are = some_at_none fs vs raw raws
arguments_counted numbers vs fs (raw ∷ raws) (counts ∷ all) (z ∷ zs) h are =
    let ss : List (List ℕ) = numbers.sorts.keys in
    count_same (FirstAndRest (ReadsAt fs vs raw z) (ReadAt fs vs raws zs)) (ReadAt fs vs (raw ∷ raws) (z ∷ zs))
    (put_together fs vs raw raws z zs) (taken_apart fs vs raw raws z zs)
    (times (count_at counts (number_of ss z)) (product all (map (number_of ss) zs)))
    (count_both (ReadsAt fs vs raw z) (ReadAt fs vs raws zs) (FirstAndRest (ReadsAt fs vs raw z) (ReadAt fs vs raws zs))
    (λ t ts. t ∷ ts) (λ t ts p q. (t, ts, refl, p, q)) (λ us w. w)
    (λ t u ts us e. cc) (λ t u ts us e. cc) (count_at counts (number_of ss z)) (product all (map (number_of ss) zs))
    (at_sort ss fs vs raw counts z (h.0 fs are) (inr h.1)) (arguments_counted numbers vs fs raws all zs h.2 are))

same_head : (f g : PlainOperator) (us vs : Forest) → app f us ≡ app g vs → f ≡ g
same_head f g us vs e = cc

module _ (ss : List (List ℕ)) (fs : List PlainOperator) (vs : Variables) (raws : List RawTree)
    (all : List (List Count)) (i : ℕ)
    (told : (zs : List (List ℕ)) → IsCount (product all (map (number_of ss) zs)) (ReadAt fs vs raws zs)) where
  stepped : (P : Tree → Type 0) (cs : List Count) (g : PlainOperator) → number_of ss g.range < length cs
      → IsCount (count_at cs i) P → ((t : Tree) → P t → ByOperator fs vs raws g t → ⊥)
      → IsCount (count_at (with_count all cs (as_numbers ss g)) i)
      (λ t. P t ⊎ (ByOperator fs vs raws g t × (number_of ss (sort_of t) ≡ i)))
  stepped P cs g l h apart =
      let made : Count = product all (map (number_of ss) g.domain) in
      elim (set_at cs (number_of ss g.range) i (plus (count_at cs (number_of ss g.range)) made) l) [
        | inl e ↦
            subst (λ c. IsCount c (λ t. P t ⊎ (ByOperator fs vs raws g t × (number_of ss (sort_of t) ≡ i))))
            (sym (e.1 ∙ ap (λ j. plus (count_at cs j) made) e.0))
            (count_same (λ t. P t ⊎ ByOperator fs vs raws g t)
            (λ t. P t ⊎ (ByOperator fs vs raws g t × (number_of ss (sort_of t) ≡ i)))
            (λ t p. elim p [ inl a ↦ inl a | inr b ↦ inr (b, ap (λ u. number_of ss (sort_of u)) b.2 ∙ e.0) ])
            (λ t p. elim p [ inl a ↦ inl a | inr b ↦ inr b.0 ])
            (plus (count_at cs i) made)
            (count_either P (ByOperator fs vs raws g) apart (count_at cs i) made h
            (count_along (ReadAt fs vs raws g.domain) (ByOperator fs vs raws g) (λ ts. app g (forest_of ts))
            (λ ts q. (ts, q, refl)) (λ t r. r) (λ ts us q. forest_of_inj ts us cc) made (told g.domain))))
        | inr e ↦
            subst (λ c. IsCount c (λ t. P t ⊎ (ByOperator fs vs raws g t × (number_of ss (sort_of t) ≡ i)))) (sym e.1)
            (count_same P (λ t. P t ⊎ (ByOperator fs vs raws g t × (number_of ss (sort_of t) ≡ i))) (λ t p. inl p)
            (λ t p. elim p [ inl a ↦ a | inr b ↦ absurd (e.0 (sym (ap (λ u. number_of ss (sort_of u)) b.0.2) ∙ b.1)) ])
            (count_at cs i) h)
      ]

  folded : (P : Tree → Type 0) (cs : List Count) (hs : List PlainOperator) → length cs ≡ suc (length ss)
      → IsCount (count_at cs i) P
      → ((t : Tree) (g : PlainOperator) → Contains hs g → P t → ByOperator fs vs raws g t → ⊥) → AreDifferent hs
      → IsCount (count_at (fold (with_count all) cs (map (as_numbers ss) hs)) i)
      (λ t. P t ⊎ (ByOperators fs vs raws hs t × (number_of ss (sort_of t) ≡ i)))
  folded P cs [] long h apart d =
      count_same P (λ t. P t ⊎ (ByOperators fs vs raws [] t × (number_of ss (sort_of t) ≡ i))) (λ t p. inl p)
      (λ t p. elim p [ inl a ↦ a | inr b ↦ absurd (contains_none b.0.0 b.0.1) ]) (count_at cs i) h
  folded P cs (g ∷ hs) long h apart d =
      count_same (λ t. (P t ⊎ (ByOperator fs vs raws g t × (number_of ss (sort_of t) ≡ i)))
      ⊎ (ByOperators fs vs raws hs t × (number_of ss (sort_of t) ≡ i)))
      (λ t. P t ⊎ (ByOperators fs vs raws (g ∷ hs) t × (number_of ss (sort_of t) ≡ i)))
      (λ t p. elim p [
        | inl a ↦ elim a [ inl b ↦ inl b | inr b ↦ inr ((g, contains_here g hs, b.0), b.1) ]
        | inr b ↦ inr ((b.0.0, contains_later g b.0.0 hs b.0.1, b.0.2), b.1)
      ])
      (λ t p. elim p [
        | inl a ↦ inl (inl a)
        | inr b ↦ elim (contains_cases g b.0.0 hs b.0.1) [
          | inl e ↦ inl (inr (subst (λ f. ByOperator fs vs raws f t) (sym e) b.0.2, b.1))
          | inr c ↦ inr ((b.0.0, c, b.0.2), b.1)
        ]
      ])
      (count_at (fold (with_count all) (with_count all cs (as_numbers ss g)) (map (as_numbers ss) hs)) i)
      (folded (λ t. P t ⊎ (ByOperator fs vs raws g t × (number_of ss (sort_of t) ≡ i)))
      (with_count all cs (as_numbers ss g)) hs
      (length-set cs (number_of ss g.range)
      (plus (count_at cs (number_of ss g.range)) (product all (map (number_of ss) g.domain))) ∙ long)
      (stepped P cs g (subst (λ m. number_of ss g.range < m) (sym long) (below_next g.range ss)) h
      (λ t p b. apart t g (contains_here g hs) p b))
      (λ t f c p b. elim p [
        | inl a ↦ apart t f (contains_later g f hs c) a b
        | inr q ↦ d.0 (subst (Contains hs) (same_head f g (forest_of b.0) (forest_of q.0.0) (sym b.2 ∙ q.0.2)) c)
      ]) d.1)

  -- what different operators make of arguments
  pub made_counted : (hs : List PlainOperator) → AreDifferent hs
      → IsCount (count_at (counts_made (length ss) all (map (as_numbers ss) hs)) i)
      (λ t. ByOperators fs vs raws hs t × (number_of ss (sort_of t) ≡ i))
  made_counted hs d =
      count_same (λ t. ⊥ ⊎ (ByOperators fs vs raws hs t × (number_of ss (sort_of t) ≡ i)))
      (λ t. ByOperators fs vs raws hs t × (number_of ss (sort_of t) ≡ i))
      (λ t p. elim p [ inl a ↦ absurd a | inr b ↦ b ]) (λ t p. inr p)
      (count_at (counts_made (length ss) all (map (as_numbers ss) hs)) i)
      (folded (λ t. ⊥) (blank (length ss)) hs (length-replicate (suc (length ss)) Never)
      (subst (λ c. IsCount {A = Tree} c (λ t. ⊥)) (sym (blank_at (length ss) i)) (λ t p. p)) (λ t g c p b. p) d)

-- the counts of an application
pub application_counted : (numbers : Numbers) (vs : Variables) (n : List ℕ) (raws : List RawTree) (p : Pos)
    (all : List (List Count)) (counts : List Count) → variable_sort vs n (raw_forest raws) ≡ None
    → AllCounts numbers vs raws all
    → counts ≡ counts_made (length numbers.sorts.keys) all (numbers_under numbers.names.entries n)
    → AreCounts numbers vs (apply n (raw_forest raws) p) counts
application_counted numbers vs n raws p all counts unbound h is = λ fs are i.
    let ss : List (List ℕ) = numbers.sorts.keys in
    subst (λ cs. IsCount (count_at cs i)
    (λ t. Reads fs vs (apply n (raw_forest raws) p) t × (number_of ss (sort_of t) ≡ i)))
    (sym (is ∙ ap (counts_made (length ss) all) (are.0 n)))
    (count_same (λ t. ByOperators fs vs raws (operators_named n (taking_part fs)) t × (number_of ss (sort_of t) ≡ i))
    (λ t. Reads fs vs (apply n (raw_forest raws) p) t × (number_of ss (sort_of t) ≡ i))
    (λ t q. (to_reads fs vs n raws p t unbound q.0, q.1))
    (λ t q. (from_reads fs vs n raws (raw_forest raws) p t refl unbound q.0, q.1))
    (count_at (counts_made (length ss) all (map (as_numbers ss) (operators_named n (taking_part fs)))) i)
    (made_counted ss fs vs raws all i (λ zs. arguments_counted numbers vs fs raws all zs h are)
    (operators_named n (taking_part fs)) (different_filter (λ f. same_name f.name (plain n)) (taking_part fs) are.1.0)))

-- the counts of a word that are kept
pub word_counted : (numbers : Numbers) (vs : Variables) (n : List ℕ) (raws : List RawTree) (p : Pos)
    (counts copied : List Count) → variable_sort vs n (raw_forest raws) ≡ None
    → (raws ≡ []) × (Some counts ≡ lookup (bytes_eq n) numbers.words.entries) → copied ≡ counts
    → AreCounts numbers vs (apply n (raw_forest raws) p) copied
word_counted numbers vs n raws p counts copied unbound kept same = λ fs are.
    let made : counts ≡ counts_made (length numbers.sorts.keys) [] (numbers_under numbers.names.entries n) =
    subst
    (λ o. IfSome o (λ cs. cs ≡ counts_made (length numbers.sorts.keys) [] (numbers_under numbers.names.entries n)))
    (sym kept.1) (are.1.1 n) in
    subst (λ rs. CountsTell numbers.sorts.keys fs vs (apply n (raw_forest rs) p) copied) (sym kept.0)
    (application_counted numbers vs n [] p [] copied
    (subst (λ rs. variable_sort vs n (raw_forest rs) ≡ None) kept.0 unbound) tt (same ∙ made) fs are)

-- how often a term reads at all
pub total_counted : (ss : List (List ℕ)) (fs : List PlainOperator) (vs : Variables) (raw : RawTree)
    (counts : List Count) → CountsTell ss fs vs raw counts
    → IsCount (sum_to (count_at counts) (suc (length ss))) (Reads fs vs raw)
total_counted ss fs vs raw counts h =
    count_all (Reads fs vs raw) (λ t. number_of ss (sort_of t)) (count_at counts) (suc (length ss))
    (λ t r. below_next (sort_of t) ss) (λ i l. h i)

all_counts_more : (numbers : Numbers) (vs : Variables) (raws : List RawTree) (all : List (List Count)) (raw : RawTree)
    (counts : List Count) → AllCounts numbers vs raws all → AreCounts numbers vs raw counts
    → count_at counts (length numbers.sorts.keys) ≡ Never → AllCounts numbers vs (raws ++ raw ∷ []) (all ++ counts ∷ [])
all_counts_more numbers vs [] [] raw counts h k u = (k, u, tt)
all_counts_more numbers vs [] (m ∷ all) raw counts h k u = absurd h
all_counts_more numbers vs (r ∷ raws) [] raw counts h k u = absurd h
all_counts_more numbers vs (r ∷ raws) (m ∷ all) raw counts h k u =
    (h.0, h.1, all_counts_more numbers vs raws all raw counts h.2 k u)

-- the counts of one argument more
pub all_counts_next : {X : Type 0} (f : X → List Count) (numbers : Numbers) (vs : Variables) (raws : List RawTree)
    (i : ℕ) (old new : List X) (raw : RawTree) (x : X) → i < length raws → raw ≡ get_or raws i raw
    → new ≡ old ++ x ∷ [] → AllCounts numbers vs (take i raws) (map f old) → AreCounts numbers vs raw (f x)
    → count_at (f x) (length numbers.sorts.keys) ≡ Never
    → AllCounts numbers vs (take (i + 1) raws) (map f new)
all_counts_next f numbers vs raws i old new raw x l e grown h k u =
    let more : take (i + 1) raws ≡ take i raws ++ raw ∷ [] =
    take_more raws i raw l ∙ ap (λ r. take i raws ++ r ∷ []) (sym e) in
    let further : map f new ≡ map f old ++ f x ∷ [] = ap (map f) grown ∙ map-append f old (x ∷ []) in
    subst (AllCounts numbers vs (take (i + 1) raws)) (sym further)
    (subst (λ rs. AllCounts numbers vs rs (map f old ++ f x ∷ [])) (sym more)
    (all_counts_more numbers vs (take i raws) (map f old) raw (f x) h k u))

-- the count at a sort that has a number
pub count_told : (numbers : Numbers) (fs : List PlainOperator) (vs : Variables) (raw : RawTree) (counts : List Count)
    (s : List ℕ) (c : Count) → AreNumbers numbers (taking_part fs)
    → AreCounts numbers vs raw counts → number_of numbers.sorts.keys s < length numbers.sorts.keys
    → c ≡ count_at counts (number_of numbers.sorts.keys s) → IsCount c (ReadsAt fs vs raw s)
count_told numbers fs vs raw counts s c are h l e =
    subst (λ d. IsCount d (ReadsAt fs vs raw s)) (sym e)
    (at_sort numbers.sorts.keys fs vs raw counts s (h fs are) (inl l))

-- the count of all readings
pub total_told : (numbers : Numbers) (fs : List PlainOperator) (vs : Variables) (raw : RawTree) (counts : List Count)
    (c : Count) → AreNumbers numbers (taking_part fs)
    → AreCounts numbers vs raw counts → c ≡ sum_to (count_at counts) (suc (length numbers.sorts.keys))
    → IsCount c (Reads fs vs raw)
total_told numbers fs vs raw counts c are h e =
    subst (λ d. IsCount d (Reads fs vs raw)) (sym e) (total_counted numbers.sorts.keys fs vs raw counts (h fs are))

-- a term without a reading, whose parts are read
pub counts_unread : (numbers : Numbers) (vs : Variables) (raw : RawTree) (counts : List Count)
    → AreCounts numbers vs raw counts → sum_to (count_at counts) (suc (length numbers.sorts.keys)) ≡ Never
    → AreRead numbers vs (inner_parts raw) → (fs : List PlainOperator) → AreNumbers numbers (taking_part fs)
    → unread_in fs vs (parts raw) ≡ Some (head_of raw)
counts_unread numbers vs raw counts h e r fs are =
    unread_without fs vs raw (r fs are) (total_told numbers fs vs raw counts Never are h (sym e))

-- a term with a reading, whose parts are read
pub counts_read : (numbers : Numbers) (vs : Variables) (raw : RawTree) (counts : List Count)
    → AreCounts numbers vs raw counts → (sum_to (count_at counts) (suc (length numbers.sorts.keys)) ≡ Never → ⊥)
    → AreRead numbers vs (inner_parts raw) → AreRead numbers vs (parts raw)
counts_read numbers vs raw counts h n r = λ fs are.
    let t = counted_thing (Reads fs vs raw) (sum_to (count_at counts) (suc (length numbers.sorts.keys))) n
    (total_counted numbers.sorts.keys fs vs raw counts (h fs are)) in
    read_with fs vs raw t.0 (r fs are) t.1

-- what is unread inside a term
pub unread_outside : (numbers : Numbers) (vs : Variables) (raw : RawTree) (refusal : ReadRefusal)
    → TellsUnread numbers vs (inner_parts raw) refusal → TellsUnread numbers vs (parts raw) refusal
unread_outside numbers vs raw refusal u = λ fs are. unread_inside fs vs refusal raw (u fs are)

-- the counts of a qualification, if its sort has a number
pub qualified_told : {X : Type 0} (f : X → List Count) (numbers : Numbers) (vs : Variables) (raw : RawTree)
    (w : RawWord) (p : Pos) (inner : X) (found : Option X) → AreCounts numbers vs raw (f inner)
    → IfSome found (λ now. (number_of numbers.sorts.keys w.name < length numbers.sorts.keys)
    × (f now ≡ alone (length numbers.sorts.keys) (number_of numbers.sorts.keys w.name)
    (count_at (f inner) (number_of numbers.sorts.keys w.name))))
    → IfSome found (λ now. AreCounts numbers vs (qualified raw w p) (f now))
qualified_told f numbers vs raw w p inner None h k = tt
qualified_told f numbers vs raw w p inner (Some now) h k =
    qualified_counted numbers vs raw w p (f inner) (f now) h k.0 k.1
