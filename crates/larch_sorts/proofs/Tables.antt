-- What tables tell.
use Rattle.std.proofs.Common.{◌≡◌, ℕ, ◌⊎◌, inl, inr, Bool, true, false, cond, List, [], ◌∷◌, Option, Some, None}
use Rattle.std.proofs.Common.{bytes_eq, refl, sym, ◌∙◌, ap, ap₂, subst, ◌+◌, ◌<◌, ◌++◌, take, get_or, length, map}
use Rattle.std.specs.List.{fold}
use Rattle.std.proofs.lemmas.Slice.Eq.{bytes_eq-Decides}
use Rattle.std.proofs.lemmas.List.{take_more, map-append}
use Rattle.larch_base.specs.declared.position.Pos.{Pos}
use Rattle.larch_base.proofs.Members.{contains_here, contains_later, contains_cases, contains_none}
use Rattle.larch_raw.specs.RawTree.{RawTree, RawForest, apply, qualified, raw_forest}
use Rattle.larch_raw.specs.declared.declared.RawWord.{RawWord}
use Rattle.larch_term.specs.Operator.{PlainOperator}
use Rattle.larch_term.specs.Sorts.{sort_of}
use Rattle.larch_term.specs.Tree.{Tree, var, app, forest_of}
use Rattle.larch_term.proofs.TreeLists.{forest_of_inj}
use Rattle.larch_term.specs.Equality.{same_tree}
use Rattle.larch_term.proofs.Decided.{tree_Decides}
use Rattle.larch_sorts_signature.specs.SortsMeaningSignature.{taking_part, operators_named}
use Rattle.larch_sorts_signature.specs.SortsMeaningScope.{Variables}
use Rattle.larch_sorts_signature.specs.SortsMeaningReadings.{variable_sort, Reads, a_variable}
use Rattle.larch_sorts_signature.specs.SortsMeaningReadings.{of_sort, all_read, ReadAt}
use Rattle.larch_sorts_signature.specs.Table.{Entries, reading_at, application}
use Rattle.larch_sorts_signature.specs.SortsMeaningFound.{Tells}
use Rattle.larch_sorts.specs.Tabulate.{TableTells, AllTell}
use Rattle.larch_sorts_signature.specs.Operators.{with_argument, arguments_at, extend_found, with_operator}
use Rattle.larch_sorts_signature.specs.Operators.{operators_at}
use Rattle.larch_sorts_signature.specs.Overloads.{AreEnough, IsMade}
use Rattle.larch_sorts_signature.specs.SortsMeaningFoundFound.{Found}
use Rattle.larch_sorts_signature.specs.SortsMeaningFoundFound.TheVariants.{One, Several}
use Rattle.larch_sorts_signature.proofs.SortsMeaningTelling.{tells_same, tells_merged}
use Rattle.larch_sorts_signature.proofs.SortsMeaningApplications.{FirstAndRest, none_at_sorts, some_at_none}
use Rattle.larch_sorts_signature.proofs.SortsMeaningApplications.{only_empty, put_together}
use Rattle.larch_sorts_signature.proofs.SortsMeaningApplications.{taken_apart, ByOperator, ByOperators}
use Rattle.larch_sorts_signature.proofs.SortsMeaningApplications.{from_reads, to_reads}
use Rattle.larch_sorts_signature.proofs.SortsMeaningApplications.{only_variable, inside}
use Rattle.larch_sorts_signature.specs.SortsMeaningRead.{unread_in}
use Rattle.larch_sorts_signature.specs.SortsMeaningParts.{head_of, parts, inner_parts}
use Rattle.larch_sorts_signature.proofs.SortsMeaningUnread.{unread_without, read_with}

-- an application is read where its arguments are
pub tells_applied : (f : PlainOperator) (Q : List Tree → Type 0) (R : Tree → Type 0) (found : Found (List Tree))
    → ((ts : List Tree) → Q ts → R (app f (forest_of ts)))
    → ((t : Tree) → R t → (ts : List Tree) × Q ts × (t ≡ app f (forest_of ts)))
    → ((ts us : List Tree) → app f (forest_of ts) ≡ app f (forest_of us) → ts ≡ us)
    → Tells (Some found) Q → Tells (Some (application f found)) R
tells_applied f Q R (One ts) to from inj h =
    (to ts h.0, λ y r. let w = from y r in w.2 ∙ ap (λ us. app f (forest_of us)) (h.1 w.0 w.1))
tells_applied f Q R Several to from inj h =
    (app f (forest_of h.0), app f (forest_of h.1), to h.0 h.2, to h.1 h.3, λ e. h.4 (inj h.0 h.1 e))

of_found : (P Q : Tree → Type 0) (found : Found Tree) → Tells (Some found) (λ t. P t × Q t) → (t : Tree) × P t
of_found P Q (One t) k = (t, k.0.0)
of_found P Q Several k = (k.0, k.2.0)

-- a table with an entry has a reading
has_reading : (fs : List PlainOperator) (vs : Variables) (raw : RawTree) (s : List ℕ) (found : Found Tree)
    (es : Entries) → TableTells ((s, found) ∷ es) (Reads fs vs raw) → (t : Tree) × Reads fs vs raw t
has_reading fs vs raw s found es h =
    let here : reading_at ((s, found) ∷ es) s ≡ Some found = rw ((bytes_eq-Decides s s).1 refl) refl in
    of_found (Reads fs vs raw) (λ t. sort_of t ≡ s) found
    (subst (λ x. Tells x (λ t. Reads fs vs raw t × (sort_of t ≡ s))) here (h s))

-- the same of a table
pub unread_here : (fs : List PlainOperator) (vs : Variables) (raw : RawTree) (es : Entries) → length es ≡ 0
    → unread_in fs vs (inner_parts raw) ≡ None → TableTells es (Reads fs vs raw)
    → unread_in fs vs (parts raw) ≡ Some (head_of raw)
unread_here fs vs raw [] l e h = unread_without fs vs raw e (λ t r. h (sort_of t) t (r, refl))
unread_here fs vs raw (x ∷ es) l e h = cc

pub read_here : (fs : List PlainOperator) (vs : Variables) (raw : RawTree) (es : Entries) → (length es ≡ 0 → ⊥)
    → unread_in fs vs (inner_parts raw) ≡ None → TableTells es (Reads fs vs raw)
    → unread_in fs vs (parts raw) ≡ None
read_here fs vs raw [] l e h = absurd (l refl)
read_here fs vs raw (x ∷ es) l e h = let r = has_reading fs vs raw x.0 x.1 es h in read_with fs vs raw r.0 e r.1

-- one more table tells what one more argument reads as
pub all_tell_more : (fs : List PlainOperator) (vs : Variables) (tables : List Entries) (raws : List RawTree)
    (es : Entries) (raw : RawTree) → AllTell fs vs tables raws → TableTells es (Reads fs vs raw)
    → AllTell fs vs (tables ++ es ∷ []) (raws ++ raw ∷ [])
all_tell_more fs vs [] [] es raw h k = (k, tt)
all_tell_more fs vs [] (x ∷ raws) es raw h k = absurd h
all_tell_more fs vs (x ∷ tables) [] es raw h k = absurd h
all_tell_more fs vs (x ∷ tables) (y ∷ raws) es raw h k = (h.0, all_tell_more fs vs tables raws es raw h.1 k)

-- one more table of the code tells what one more argument reads as
pub all_tell_next : {X : Type 0} (f : X → Entries) (fs : List PlainOperator) (vs : Variables) (old new : List X)
    (table : X) (raws : List RawTree) (i : ℕ) (raw : RawTree)
    → i < length raws → raw ≡ get_or raws i raw → new ≡ old ++ table ∷ [] → AllTell fs vs (map f old) (take i raws)
    → TableTells (f table) (Reads fs vs raw) → AllTell fs vs (map f new) (take (i + 1) raws)
all_tell_next f fs vs old new table raws i raw lt e grown told h =
    let tables : map f new ≡ map f old ++ f table ∷ [] = ap (map f) grown ∙ map-append f old (table ∷ []) in
    let more : take (i + 1) raws ≡ take i raws ++ raw ∷ [] =
    take_more raws i raw lt ∙ ap (λ r. take i raws ++ r ∷ []) (sym e) in
    subst (λ ts. AllTell fs vs ts (take (i + 1) raws)) (sym tables)
    (subst (AllTell fs vs (map f old ++ f table ∷ [])) (sym more)
    (all_tell_more fs vs (map f old) (take i raws) (f table) raw told h))

tells_with_argument : (P : Tree → Type 0) (Q : List Tree → Type 0) (first : Option (Found Tree))
    (rest : Option (Found (List Tree)))
    → Tells first P → Tells rest Q → Tells (with_argument first rest) (FirstAndRest P Q)
tells_with_argument P Q None rest h k = λ us w. h w.0 w.3
tells_with_argument P Q (Some first) None h k = λ us w. k w.1 w.4
tells_with_argument P Q (Some Several) (Some (One ts)) h k =
    (h.0 ∷ ts, h.1 ∷ ts, (h.0, ts, refl, h.2, k.0), (h.1, ts, refl, h.3, k.0), λ e. h.4 cc)
tells_with_argument P Q (Some Several) (Some Several) h k =
    (h.0 ∷ k.0, h.1 ∷ k.0, (h.0, k.0, refl, h.2, k.2), (h.1, k.0, refl, h.3, k.2), λ e. h.4 cc)
tells_with_argument P Q (Some (One t)) (Some Several) h k =
    (t ∷ k.0, t ∷ k.1, (t, k.0, refl, h.0, k.2), (t, k.1, refl, h.0, k.3), λ e. k.4 cc)
tells_with_argument P Q (Some (One t)) (Some (One ts)) h k =
    ((t, ts, refl, h.0, k.0), λ us w. w.2 ∙ ap₂ (λ u us. u ∷ us) (h.1 w.0 w.3) (k.1 w.1 w.4))

-- the arguments in tables are those that are read
pub arguments_tell : (fs : List PlainOperator) (vs : Variables) (tables : List Entries) (raws : List RawTree)
    (ss : List (List ℕ))
    → AllTell fs vs tables raws → Tells (arguments_at tables ss) (ReadAt fs vs raws ss)
arguments_tell fs vs [] [] [] h = ((all_read, refl), only_empty fs vs)
arguments_tell fs vs [] [] (s ∷ ss) h = none_at_sorts fs vs s ss
arguments_tell fs vs [] (raw ∷ raws) ss h = absurd h
arguments_tell fs vs (es ∷ tables) [] ss h = absurd h
arguments_tell fs vs (es ∷ tables) (raw ∷ raws) [] h = some_at_none fs vs raw raws
arguments_tell fs vs (es ∷ tables) (raw ∷ raws) (s ∷ ss) h =
    tells_same (FirstAndRest (λ t. Reads fs vs raw t × (sort_of t ≡ s)) (ReadAt fs vs raws ss))
    (ReadAt fs vs (raw ∷ raws) (s ∷ ss))
    (put_together fs vs raw raws s ss) (taken_apart fs vs raw raws s ss)
    (with_argument (reading_at es s) (arguments_at tables ss))
    (tells_with_argument (λ t. Reads fs vs raw t × (sort_of t ≡ s)) (ReadAt fs vs raws ss) (reading_at es s)
    (arguments_at tables ss) (h.0 s) (arguments_tell fs vs tables raws ss h.1))

module _ (fs : List PlainOperator) (vs : Variables) (tables : List Entries) (raws : List RawTree)
    (told : AllTell fs vs tables raws) (s : List ℕ) where
  extended_tells : (P : Tree → Type 0) (before : Option (Found Tree)) (f : PlainOperator)
      (arguments : Option (Found (List Tree)))
      → Tells before P → Tells arguments (ReadAt fs vs raws f.domain)
      → Tells (extend_found before f arguments) (λ t. P t ⊎ ByOperator fs vs raws f t)
  extended_tells P before f None h k =
      tells_same P (λ t. P t ⊎ ByOperator fs vs raws f t) (λ t p. inl p)
      (λ t p. elim p [ inl a ↦ a | inr b ↦ absurd (k b.0 b.1) ]) before h
  extended_tells P before f (Some arguments) h k =
      tells_merged same_tree tree_Decides P (ByOperator fs vs raws f) before (application f arguments) h
      (tells_applied f (ReadAt fs vs raws f.domain) (ByOperator fs vs raws f) arguments
      (λ ts q. (ts, q, refl)) (λ t r. r)
      (λ ts us e. forest_of_inj ts us cc) k)

  stepped : (P : Tree → Type 0) (before : Option (Found Tree)) (f : PlainOperator) (b : Bool) → bytes_eq f.range s ≡ b
      → Tells before P
      → Tells (cond b (extend_found before f (arguments_at tables f.domain)) before)
      (λ t. P t ⊎ (ByOperator fs vs raws f t × (sort_of t ≡ s)))
  stepped P before f true e h =
      tells_same (λ t. P t ⊎ ByOperator fs vs raws f t) (λ t. P t ⊎ (ByOperator fs vs raws f t × (sort_of t ≡ s)))
      (λ t p. elim p [ inl a ↦ inl a | inr b ↦ inr (b, ap sort_of b.2 ∙ (bytes_eq-Decides f.range s).0 e) ])
      (λ t p. elim p [ inl a ↦ inl a | inr b ↦ inr b.0 ])
      (extend_found before f (arguments_at tables f.domain))
      (extended_tells P before f (arguments_at tables f.domain) h (arguments_tell fs vs tables raws f.domain told))
  stepped P before f false e h =
      tells_same P (λ t. P t ⊎ (ByOperator fs vs raws f t × (sort_of t ≡ s))) (λ t p. inl p)
      (λ t p. elim p [
        | inl a ↦ a
        | inr b ↦
            absurd (let w : bytes_eq f.range s ≡ true = (bytes_eq-Decides f.range s).1 (sym (ap sort_of b.0.2) ∙ b.1) in
            cc)
      ]) before h

  folded : (P : Tree → Type 0) (before : Option (Found Tree)) (gs : List PlainOperator) → Tells before P
      → Tells (fold (with_operator tables s) before gs) (λ t. P t ⊎ (ByOperators fs vs raws gs t × (sort_of t ≡ s)))
  folded P before [] h =
      tells_same P (λ t. P t ⊎ (ByOperators fs vs raws [] t × (sort_of t ≡ s))) (λ t p. inl p)
      (λ t p. elim p [ inl a ↦ a | inr b ↦ absurd (contains_none b.0.0 b.0.1) ]) before h
  folded P before (g ∷ gs) h =
      tells_same (λ t. (P t ⊎ (ByOperator fs vs raws g t × (sort_of t ≡ s)))
      ⊎ (ByOperators fs vs raws gs t × (sort_of t ≡ s)))
      (λ t. P t ⊎ (ByOperators fs vs raws (g ∷ gs) t × (sort_of t ≡ s)))
      (λ t p. elim p [
        | inl a ↦ elim a [ inl b ↦ inl b | inr b ↦ inr ((g, contains_here g gs, b.0), b.1) ]
        | inr b ↦ inr ((b.0.0, contains_later g b.0.0 gs b.0.1, b.0.2), b.1)
      ])
      (λ t p. elim p [
        | inl a ↦ inl (inl a)
        | inr b ↦ elim (contains_cases g b.0.0 gs b.0.1) [
          | inl e ↦ inl (inr (subst (λ f. ByOperator fs vs raws f t) (sym e) b.0.2, b.1))
          | inr c ↦ inr ((b.0.0, c, b.0.2), b.1)
        ]
      ])
      (fold (with_operator tables s) (with_operator tables s before g) gs)
      (folded (λ t. P t ⊎ (ByOperator fs vs raws g t × (sort_of t ≡ s))) (with_operator tables s before g) gs
      (stepped P before g (bytes_eq g.range s) refl h))

  -- what operators make of the arguments in tables
  pub operators_tell : (gs : List PlainOperator)
      → Tells (operators_at tables gs s) (λ t. ByOperators fs vs raws gs t × (sort_of t ≡ s))
  operators_tell gs =
      tells_same (λ t. ⊥ ⊎ (ByOperators fs vs raws gs t × (sort_of t ≡ s)))
      (λ t. ByOperators fs vs raws gs t × (sort_of t ≡ s))
      (λ t p. elim p [ inl a ↦ absurd a | inr b ↦ b ]) (λ t p. inr p) (operators_at tables gs s)
      (folded (λ t. ⊥) None gs (λ t p. p))

-- enough operators make the same terms
fewer : (fs : List PlainOperator) (vs : Variables) (raws : List RawTree) (tables : List Entries)
    (hs gs : List PlainOperator) (t : Tree) → AreEnough tables hs gs → ByOperators fs vs raws gs t
    → ByOperators fs vs raws hs t
fewer fs vs raws tables hs gs t enough b = (b.0, enough.0 b.0 b.1, b.2)

all_made : (fs : List PlainOperator) (vs : Variables) (raws : List RawTree) (tables : List Entries)
    (hs gs : List PlainOperator) (t : Tree) → AllTell fs vs tables raws → AreEnough tables hs gs
    → ByOperators fs vs raws hs t
    → ByOperators fs vs raws gs t
all_made fs vs raws tables hs gs t told enough b = (
  b.0,
  enough.1 b.0 b.1 (λ e. subst (λ o. Tells o (ReadAt fs vs raws b.0.domain)) e
      (arguments_tell fs vs tables raws b.0.domain told) b.2.0 b.2.1),
  b.2,
)

-- the table of an application
pub application_tells : (fs : List PlainOperator) (vs : Variables) (n : List ℕ) (raws : List RawTree) (p : Pos)
    (es : Entries) (tables : List Entries)
    → variable_sort vs n (raw_forest raws) ≡ None → AllTell fs vs tables raws
    → IsMade es tables (operators_named n (taking_part fs)) → TableTells es (Reads fs vs (apply n (raw_forest raws) p))
application_tells fs vs n raws p es tables unbound told made = λ s.
    tells_same (λ t. ByOperators fs vs raws made.0 t × (sort_of t ≡ s))
    (λ t. Reads fs vs (apply n (raw_forest raws) p) t × (sort_of t ≡ s))
    (λ t q. (
      to_reads fs vs n raws p t unbound
          (fewer fs vs raws tables (operators_named n (taking_part fs)) made.0 t made.1 q.0),
      q.1,
    ))
    (λ t q. (
      all_made fs vs raws tables (operators_named n (taking_part fs)) made.0 t told made.1
          (from_reads fs vs n raws (raw_forest raws) p t refl unbound q.0),
      q.1,
    )) (reading_at es s)
    (subst (λ x. Tells x (λ t. ByOperators fs vs raws made.0 t × (sort_of t ≡ s))) (sym (made.2 s))
    (operators_tell fs vs tables raws told s made.0))

pub variable_at : (fs : List PlainOperator) (vs : Variables) (n z : List ℕ) (rs : RawForest) (p : Pos) (s : List ℕ)
    (b : Bool) → variable_sort vs n rs ≡ Some z → bytes_eq z s ≡ b
    → Tells (cond b (Some (One (var n z))) None) (λ t. Reads fs vs (apply n rs p) t × (sort_of t ≡ s))
variable_at fs vs n z rs p s true some e =
    ((a_variable some, (bytes_eq-Decides z s).0 e), λ t q. only_variable fs vs n z rs p t some q.0)
variable_at fs vs n z rs p s false some e = λ t q.
    let zs : z ≡ s = ap sort_of (sym (only_variable fs vs n z rs p t some q.0)) ∙ q.1 in
    let w : bytes_eq z s ≡ true = (bytes_eq-Decides z s).1 zs in cc

-- the table of a variable
pub variable_tells : (fs : List PlainOperator) (vs : Variables) (n z : List ℕ) (rs : RawForest) (p : Pos) (es : Entries)
    → variable_sort vs n rs ≡ Some z
    → ((s : List ℕ) → reading_at es s ≡ cond (bytes_eq z s) (Some (One (var n z))) None)
    → TableTells es (Reads fs vs (apply n rs p))
variable_tells fs vs n z rs p es some is = λ s.
    subst (λ x. Tells x (λ t. Reads fs vs (apply n rs p) t × (sort_of t ≡ s))) (sym (is s))
    (variable_at fs vs n z rs p s (bytes_eq z s) some refl)

narrowed_at : (fs : List PlainOperator) (vs : Variables) (raw : RawTree) (w : RawWord) (p : Pos) (old : Entries)
    (s : List ℕ) (b : Bool) → bytes_eq w.name s ≡ b → TableTells old (Reads fs vs raw)
    → Tells (cond b (reading_at old w.name) None) (λ t. Reads fs vs (qualified raw w p) t × (sort_of t ≡ s))
narrowed_at fs vs raw w p old s true e h =
    let ws : w.name ≡ s = (bytes_eq-Decides w.name s).0 e in
    tells_same (λ t. Reads fs vs raw t × (sort_of t ≡ w.name))
    (λ t. Reads fs vs (qualified raw w p) t × (sort_of t ≡ s))
    (λ t q. (of_sort q.0 q.1, q.1 ∙ ws)) (λ t q. inside fs vs raw w p t q.0) (reading_at old w.name) (h w.name)
narrowed_at fs vs raw w p old s false e h = λ t q.
    let ws : w.name ≡ s = sym (inside fs vs raw w p t q.0).1 ∙ q.1 in
    let v : bytes_eq w.name s ≡ true = (bytes_eq-Decides w.name s).1 ws in cc

-- the table of a qualification
pub narrowed_tells : (fs : List PlainOperator) (vs : Variables) (raw : RawTree) (w : RawWord) (p : Pos)
    (old es : Entries) → TableTells old (Reads fs vs raw)
    → ((s : List ℕ) → reading_at es s ≡ cond (bytes_eq w.name s) (reading_at old w.name) None)
    → TableTells es (Reads fs vs (qualified raw w p))
narrowed_tells fs vs raw w p old es h is = λ s.
    subst (λ x. Tells x (λ t. Reads fs vs (qualified raw w p) t × (sort_of t ≡ s))) (sym (is s))
    (narrowed_at fs vs raw w p old s (bytes_eq w.name s) refl h)
