-- What shorthands stand for is stated over their own operators, none of which is built in.
use Rattle.std.proofs.Common.{◌≡◌, refl, ℕ, suc, length, Bool, true, false, ◌||◌, ◌==◌, List, [], ◌∷◌, ◌++◌, map, All}
use Rattle.std.proofs.Common.{Contains, Option, Some, None, find, ◌⊎◌, ap, sym, subst, ◌∙◌, inl, inr, arith, codes, Ok}
use Rattle.std.proofs.Common.{append_assoc}
use Rattle.std.specs.Prelude.{bytes_eq, decimal, option_map, if◌then◌else◌}
use Rattle.std.proofs.lemmas.List.Elements.{All-nil, All-cons, All-head, All-tail, All-map, All-append, All-contains}
use Rattle.std.proofs.lemmas.List.Elements.{All-push, All-weaker}
use Rattle.std.specs.List.{join_by}
use Rattle.std.proofs.lemmas.List.{length-append, map-append}
use Rattle.std.proofs.lemmas.Slice.Eq.{bytes_eq-Decides}
use Rattle.larch_base.specs.Word.{is_word}
use Rattle.larch_base.specs.declared.code.Code.TheVariants.{FieldTwice, BuiltIn}
use Rattle.larch_base.specs.declared.fault.Fault.{Fault}
use Rattle.larch_base.specs.declared.position.Pos.{Pos}
use Rattle.larch_base.proofs.Lists.{all_from}
use Rattle.larch_base.proofs.Members.{contained_in_map, contains_here, contains_later, contains_left, contains_map}
use Rattle.larch_base.proofs.Members.{contains_right}
use Rattle.larch_traits_items.specs.RawWorded.{Worded, WordedField, WordedShorthand}
use Rattle.larch_traits_items.specs.RawRawWord.{RawWord}
use Rattle.larch_traits_items.specs.RawShorthandRawField.{RawField}
use Rattle.larch_traits_items.specs.RawShorthandRawShorthand.{RawShorthand}
use Rattle.larch_traits_items.specs.RawShorthandRawShorthand.TheVariants.{Enumeration, Tuple, Union}
use Rattle.larch_term.specs.BuiltIn.{IsBuiltIn, bool_sort, built_in, built_in_name}
use Rattle.larch_term.specs.Operator.{PlainOperator, plain}
use Rattle.larch_term.specs.Sorts.{IsKnown, sort_of}
use Rattle.larch_term.specs.Tree.{Tree, app, forest_of}
use Rattle.larch_term.specs.Truth.{truth}
use Rattle.larch_term.specs.declared.built_in.BuiltIn.{BuiltIn as Kind}
use Rattle.larch_term.specs.declared.built_in.BuiltIn.TheVariants.{True, False, Not, And, Or, Implies, Iff, Equal}
use Rattle.larch_term.specs.declared.built_in.BuiltIn.TheVariants.{Unequal, If}
use Rattle.larch_term.specs.declared.statement.Statement.TheVariants.{Generated, Partitioned}
use Rattle.larch_traits_items.specs.SortsMeaningFaults.{fault_at}
use Rattle.larch_traits_items.specs.SortsMeaningLaws.{IsSortOf, OperatorSorts}
use Rattle.larch_traits_items.proofs.SortsMeaningSortsRead.{own_sorts}
use Rattle.larch_traits_items.proofs.Kept.{missed_is, ok_inj, unless_was}
use Rattle.larch_shorthand.specs.Enumeration.{all_differ, all_followed, differ, elements, enumeration_statements}
use Rattle.larch_shorthand.specs.Enumeration.{enumeration, enumeration_operators, following_statement, followed_from}
use Rattle.larch_shorthand.specs.Enumeration.{successor}
use Rattle.larch_shorthand.specs.Operators.{constant, on, on_two, operator}
use Rattle.larch_shorthand.specs.Shorthand.{expand, expansion_of, names_in, names_truth, or_fault, truth_among, twice}
use Rattle.larch_shorthand.specs.Shorthand.{wrong_in}
use Rattle.larch_shorthand.specs.Tuple.{all_set, component_of, components_of, getter, is_got, is_set, maker, setter}
use Rattle.larch_shorthand.specs.Tuple.{tuple, tuple_of, tuple_operators, tuple_statements}
use Rattle.larch_shorthand.specs.Union.{case_of, injection, is_back, is_tagged, names_of, tag, tag_of, tag_sort, union_}
use Rattle.larch_shorthand.specs.Union.{union_operators, union_statements}
use Rattle.larch_shorthand.specs.declared.expansion.Expansion.{Expansion}
use Rattle.larch_shorthand.specs.declared.tuple.Component.{Component}
use Rattle.larch_shorthand.specs.declared.union_.Case.{Case}
use Rattle.larch_traits_items.proofs.Stated.{IsStated}
use Rattle.larch_shorthand.proofs.Fine.{Fine, fine_app, fine_constant, fine_forest, fine_on, fine_on_two, fine_truth}
use Rattle.larch_shorthand.proofs.Fine.{fine_unequal, fine_var, sorts_of_forest, stated_equation}

true_is_false : true ≡ false → ⊥
true_is_false e = cc

or_false : (a b : Bool) → (a || b) ≡ false → (a ≡ false) × (b ≡ false)
or_false true b e = cc
or_false false b e = (refl, e)

no_argument : (s : List ℕ) (ss : List (List ℕ)) → s ∷ ss ≡ [] → ⊥
no_argument s ss e = cc

no_position : (o : Option RawWord) → option_map (λ w. w.pos) o ≡ None → o ≡ None
no_position None e = refl
no_position (Some w) e = cc

no_second : (o : Option Fault) (p : Option Pos) → or_fault o (fault_at BuiltIn p) ≡ None → p ≡ None
no_second None None e = refl
no_second None (Some pos) e = cc
no_second (Some f) p e = cc

-- the first operators are among the second ones
abbrev Within : List PlainOperator → List PlainOperator → Type 0
Within fs gs = (f : PlainOperator) → Contains fs f → Contains gs f

-- a constant of a sort among operators
abbrev Element : List PlainOperator → List ℕ → PlainOperator → Type 0
Element fs sort a = Contains fs a × (a.domain ≡ []) × (a.range ≡ sort)

module _ (fs : List PlainOperator) (sort : List ℕ) where
  clause_generated : (gs : List PlainOperator) → IsSortOf fs sort → All (λ g. Contains fs g × (g.range ≡ sort)) gs
      → IsStated fs (Generated sort gs)
  clause_generated gs x h = (
    All-weaker (λ g. Contains fs g × (g.range ≡ sort)) (λ g. IsKnown fs g × (g.range ≡ sort))
        (λ g k. (inl k.0, k.1)) gs h,
    All-weaker (λ g. Contains fs g × (g.range ≡ sort)) (Contains fs) (λ g k. k.0) gs h,
    (
      x,
      All-weaker (λ g. Contains fs g × (g.range ≡ sort)) (OperatorSorts (IsSortOf fs))
          (λ g k. own_sorts fs g k.0) gs h,
    ),
  )

  clause_partitioned : (gs : List PlainOperator) → IsSortOf fs sort
      → All (λ g. Contains fs g × Contains g.domain sort) gs → IsStated fs (Partitioned sort gs)
  clause_partitioned gs x h = (
    All-weaker (λ g. Contains fs g × Contains g.domain sort) (λ g. IsKnown fs g × Contains g.domain sort)
        (λ g k. (inl k.0, k.1)) gs h,
    All-weaker (λ g. Contains fs g × Contains g.domain sort) (Contains fs) (λ g k. k.0) gs h,
    (
      x,
      All-weaker (λ g. Contains fs g × Contains g.domain sort) (OperatorSorts (IsSortOf fs))
          (λ g k. own_sorts fs g k.0) gs h,
    ),
  )

  differ_stated : IsSortOf fs sort → (a b : PlainOperator) → Element fs sort a → Element fs sort b
      → IsStated fs (differ (built_in Unequal sort) a b)
  differ_stated x a b h k =
      stated_equation fs (on_two (built_in Unequal sort) (constant a) (constant b)) truth
      (fine_unequal fs sort (constant a) (constant b) x h.2 k.2 (fine_constant fs a h.0 h.1)
      (fine_constant fs b k.0 k.1)) (fine_truth fs) refl

  all_differ_stated : IsSortOf fs sort → (es : List PlainOperator) → All (Element fs sort) es
      → All (IsStated fs) (all_differ (built_in Unequal sort) es)
  all_differ_stated x [] h = All-nil (IsStated fs)
  all_differ_stated x (a ∷ bs) h =
      let t = All-tail (Element fs sort) a bs h in
      All-append (IsStated fs) (map (differ (built_in Unequal sort) a) bs) (all_differ (built_in Unequal sort) bs)
      (All-map (IsStated fs) (differ (built_in Unequal sort) a) bs
      (All-weaker (Element fs sort) (λ b. IsStated fs (differ (built_in Unequal sort) a b))
      (λ b k. differ_stated x a b (All-head (Element fs sort) a bs h) k) bs t))
      (all_differ_stated x bs t)

  followed_stated : Contains fs (successor sort) → (a b : PlainOperator) → Element fs sort a → Element fs sort b
      → IsStated fs (following_statement (successor sort) a b)
  followed_stated c a b h k =
      stated_equation fs (on (successor sort) (constant a)) (constant b)
      (fine_on fs (successor sort) (constant a) c (ap (λ s. s ∷ []) (sym h.2)) (fine_constant fs a h.0 h.1))
      (fine_constant fs b k.0 k.1) (sym k.2)

  from_stated : Contains fs (successor sort) → (a : PlainOperator) (bs : List PlainOperator) → Element fs sort a
      → All (Element fs sort) bs
      → All (IsStated fs) (followed_from (successor sort) a bs)
  from_stated c a [] h k = All-nil (IsStated fs)
  from_stated c a (b ∷ bs) h k =
      let e = All-head (Element fs sort) b bs k in
      All-cons (IsStated fs) (following_statement (successor sort) a b) (followed_from (successor sort) b bs)
      (followed_stated c a b h e)
      (from_stated c b bs e (All-tail (Element fs sort) b bs k))

  all_followed_stated : Contains fs (successor sort) → (es : List PlainOperator) → All (Element fs sort) es
      → All (IsStated fs) (all_followed (successor sort) es)
  all_followed_stated c [] h = All-nil (IsStated fs)
  all_followed_stated c (a ∷ bs) h =
      from_stated c a bs (All-head (Element fs sort) a bs h) (All-tail (Element fs sort) a bs h)

  enumerated_stated : Contains fs (successor sort) → (es : List PlainOperator) → All (Element fs sort) es
      → All (IsStated fs) (enumeration_statements sort es)
  enumerated_stated c es h =
      let x : IsSortOf fs sort = inr (successor sort, c, contains_here sort (sort ∷ [])) in
      All-cons (IsStated fs) (Generated sort es)
      (all_differ (built_in Unequal sort) es ++ all_followed (successor sort) es)
      (clause_generated es x (All-weaker (Element fs sort) (λ g. Contains fs g × (g.range ≡ sort))
      (λ g k. (k.0, k.2)) es h))
      (All-append (IsStated fs) (all_differ (built_in Unequal sort) es) (all_followed (successor sort) es)
      (all_differ_stated x es h) (all_followed_stated c es h))

  enumeration_stated : (names : List (List ℕ)) → Within (enumeration_operators sort names) fs
      → All (IsStated fs) (enumeration sort names).statements
  enumeration_stated names w =
      enumerated_stated (w (successor sort)
      (contains_right (elements sort names) (successor sort ∷ []) (successor sort)
      (contains_here (successor sort) [])))
      (elements sort names)
      (All-map (Element fs sort) (λ n. operator n [] sort) names
      (all_from (λ n. Element fs sort (operator n [] sort)) names (λ n c. (
        w (operator n [] sort) (contains_left (elements sort names) (successor sort ∷ []) (operator n [] sort)
            (contains_map (λ m. operator m [] sort) names n c)),
        refl,
        refl,
      ))))

-- what belongs to a field, over operators
abbrev Part : List PlainOperator → List ℕ → Component → Type 0
Part fs sort c =
    (Contains fs c.getter × Contains fs c.setter) × ((c.getter.domain ≡ sort ∷ []) × (c.getter.range ≡ sort_of c.value))
    × ((c.setter.domain ≡ sort ∷ sort_of c.value ∷ []) × (c.setter.range ≡ sort))
    × ((Fine fs c.value × Fine fs c.other) × (sort_of c.other ≡ sort_of c.value))

module _ (fs : List PlainOperator) (sort : List ℕ) where
  field_exists : (f : RawField) → Contains fs (getter sort f) → IsSortOf fs f.sort.name
  field_exists f c =
      inr (getter sort f, c, contains_later sort f.sort.name (f.sort.name ∷ []) (contains_here f.sort.name []))

  parts : (k : ℕ) (fields : List RawField) → ((f : RawField) → Contains fields f → Contains fs (getter sort f))
      → ((f : RawField) → Contains fields f → Contains fs (setter sort f))
      → All (Part fs sort) (components_of sort k fields)
  parts k [] g s = All-nil (Part fs sort)
  parts k (f ∷ fields) g s =
      let c : Contains fs (getter sort f) = g f (contains_here f fields) in
      let x : IsSortOf fs f.sort.name = field_exists f c in
      All-cons (Part fs sort) (component_of sort k f) (components_of sort (suc k) fields) (
        (c, s f (contains_here f fields)),
        (refl, refl),
        (refl, refl),
        ((fine_var fs (codes "x" ++ decimal k) f.sort.name x, fine_var fs (codes "z") f.sort.name x), refl),
      )
      (parts (suc k) fields (λ h d. g h (contains_later f h fields d)) (λ h d. s h (contains_later f h fields d)))

  module _ (make : PlainOperator) (made : Contains fs make) (ranged : make.range ≡ sort) where
    fine_made : (ts : List Tree) → map sort_of ts ≡ make.domain → All (Fine fs) ts → Fine fs (app make (forest_of ts))
    fine_made ts e h = fine_app fs make (forest_of ts) made (sorts_of_forest ts ∙ e) (fine_forest fs ts h)

    got_stated : (whole : Tree) → Fine fs whole → sort_of whole ≡ sort → (c : Component) → Part fs sort c
        → IsStated fs (is_got whole c)
    got_stated whole h e c p =
        stated_equation fs (on c.getter whole) c.value
        (fine_on fs c.getter whole p.0.0 (p.1.0 ∙ ap (λ s. s ∷ []) (sym e)) h) p.3.0.0 p.1.1

    set_stated : (whole : Tree) → Fine fs whole → sort_of whole ≡ sort
        → (before : List Tree) (c : Component) (behind : List Tree) → Part fs sort c
        → All (Fine fs) before → All (Fine fs) behind → map sort_of (before ++ c.value ∷ behind) ≡ make.domain
        → IsStated fs (is_set make whole before c behind)
    set_stated whole h e before c behind p b d m =
        stated_equation fs (on_two c.setter whole c.other) (app make (forest_of (before ++ c.other ∷ behind)))
        (fine_on_two fs c.setter whole c.other p.0.1
        (p.2.0 ∙ ap (λ s. s ∷ sort_of c.value ∷ []) (sym e) ∙ ap (λ s. sort_of whole ∷ s ∷ []) (sym p.3.1)) h p.3.0.1)
        (fine_made (before ++ c.other ∷ behind)
        (map-append sort_of before (c.other ∷ behind) ∙ ap (λ s. map sort_of before ++ s ∷ map sort_of behind) p.3.1
        ∙ sym (map-append sort_of before (c.value ∷ behind)) ∙ m)
        (All-append (Fine fs) before (c.other ∷ behind) b (All-cons (Fine fs) c.other behind p.3.0.1 d)))
        (p.2.1 ∙ sym ranged)

    values_fine : (cs : List Component) → All (Part fs sort) cs → All (Fine fs) (map (λ c. c.value) cs)
    values_fine cs h =
        All-map (Fine fs) (λ c. c.value) cs (All-weaker (Part fs sort) (λ c. Fine fs c.value) (λ c p. p.3.0.0) cs h)

    all_set_stated : (whole : Tree) → Fine fs whole → sort_of whole ≡ sort → (before : List Tree) (cs : List Component)
        → All (Fine fs) before → All (Part fs sort) cs
        → map sort_of (before ++ map (λ c. c.value) cs) ≡ make.domain → All (IsStated fs) (all_set make whole before cs)
    all_set_stated whole h e before [] b p m = All-nil (IsStated fs)
    all_set_stated whole h e before (c ∷ cs) b p m =
        let q = All-head (Part fs sort) c cs p in let t = All-tail (Part fs sort) c cs p in
        All-cons (IsStated fs) (is_set make whole before c (map (λ d. d.value) cs))
        (all_set make whole (before ++ c.value ∷ []) cs)
        (set_stated whole h e before c (map (λ d. d.value) cs) q b (values_fine cs t) m)
        (all_set_stated whole h e (before ++ c.value ∷ []) cs (All-push (Fine fs) before c.value b q.3.0.0) t
        (ap (map sort_of) (append_assoc before (c.value ∷ []) (map (λ d. d.value) cs)) ∙ m))

    tupled_stated : IsSortOf fs sort → (cs : List Component) → All (Part fs sort) cs
        → map sort_of (map (λ c. c.value) cs) ≡ make.domain
        → All (IsStated fs) (tuple_statements sort make cs)
    tupled_stated x cs p m =
        let whole : Tree = tuple_of make cs in
        let h : Fine fs whole = fine_made (map (λ c. c.value) cs) m (values_fine cs p) in
        All-cons (IsStated fs) (Generated sort (make ∷ []))
        (Partitioned sort (map (λ c. c.getter) cs) ∷ (map (is_got whole) cs ++ all_set make whole [] cs))
        (clause_generated fs sort (make ∷ []) x
        (All-cons (λ g. Contains fs g × (g.range ≡ sort)) make [] (made, ranged)
        (All-nil (λ g. Contains fs g × (g.range ≡ sort)))))
        (All-cons (IsStated fs) (Partitioned sort (map (λ c. c.getter) cs))
        (map (is_got whole) cs ++ all_set make whole [] cs)
        (clause_partitioned fs sort (map (λ c. c.getter) cs) x
        (All-map (λ g. Contains fs g × Contains g.domain sort) (λ c. c.getter) cs
        (All-weaker (Part fs sort) (λ c. Contains fs c.getter × Contains c.getter.domain sort)
        (λ c q. (q.0.0, subst (λ d. Contains d sort) (sym q.1.0) (contains_here sort []))) cs p)))
        (All-append (IsStated fs) (map (is_got whole) cs) (all_set make whole [] cs)
        (All-map (IsStated fs) (is_got whole) cs
        (All-weaker (Part fs sort) (λ c. IsStated fs (is_got whole c)) (λ c q. got_stated whole h ranged c q) cs p))
        (all_set_stated whole h ranged [] cs (All-nil (Fine fs)) p m)))

component_sorts : (sort : List ℕ) (k : ℕ) (fields : List RawField)
    → map sort_of (map (λ c. c.value) (components_of sort k fields)) ≡ map (λ f. f.sort.name) fields
component_sorts sort k [] = refl
component_sorts sort k (f ∷ fields) = ap (λ ss. f.sort.name ∷ ss) (component_sorts sort (suc k) fields)

tuple_stated : (sort : List ℕ) (fields : List RawField)
    → All (IsStated (tuple_operators sort fields)) (tuple sort fields).statements
tuple_stated sort fields =
    let fs : List PlainOperator = tuple_operators sort fields in
    let make : PlainOperator = maker sort fields in
    let made : Contains fs make = contains_here make (map (getter sort) fields ++ map (setter sort) fields) in
    tupled_stated fs sort make made refl
    (inr (make, made, contains_right make.domain (sort ∷ []) sort (contains_here sort [])))
    (components_of sort 1 fields)
    (parts fs sort 1 fields
    (λ f c. contains_later make (getter sort f) (map (getter sort) fields ++ map (setter sort) fields)
    (contains_left (map (getter sort) fields) (map (setter sort) fields) (getter sort f)
    (contains_map (getter sort) fields f c)))
    (λ f c. contains_later make (setter sort f) (map (getter sort) fields ++ map (setter sort) fields)
    (contains_right (map (getter sort) fields) (map (setter sort) fields) (setter sort f)
    (contains_map (setter sort) fields f c))))
    (component_sorts sort 1 fields)

-- what belongs to a field of a union, over operators
abbrev Branch : List PlainOperator → List ℕ → Case → Type 0
Branch fs sort c =
    (Contains fs c.injection × Contains fs c.getter × Contains fs c.tag)
    × ((c.injection.domain ≡ sort_of c.value ∷ []) × (c.injection.range ≡ sort))
    × ((c.getter.domain ≡ sort ∷ []) × (c.getter.range ≡ sort_of c.value))
    × ((c.tag.domain ≡ []) × (c.tag.range ≡ tag_sort sort)) × Fine fs c.value

module _ (fs : List PlainOperator) (sort : List ℕ) (tagged : Contains fs (tag sort)) where
  injected_fine : (c : Case) → Branch fs sort c → Fine fs (on c.injection c.value)
  injected_fine c p = fine_on fs c.injection c.value p.0.0 p.1.0 p.4

  back_stated : (c : Case) → Branch fs sort c → IsStated fs (is_back c)
  back_stated c p =
      stated_equation fs (on c.getter (on c.injection c.value)) c.value
      (fine_on fs c.getter (on c.injection c.value) p.0.1 (p.2.0 ∙ ap (λ s. s ∷ []) (sym p.1.1)) (injected_fine c p))
      p.4 p.2.1

  tagged_stated : (c : Case) → Branch fs sort c → IsStated fs (is_tagged (tag sort) c)
  tagged_stated c p =
      stated_equation fs (on (tag sort) (on c.injection c.value)) (constant c.tag)
      (fine_on fs (tag sort) (on c.injection c.value) tagged (ap (λ s. s ∷ []) (sym p.1.1)) (injected_fine c p))
      (fine_constant fs c.tag p.0.2 p.3.0) (sym p.3.1)

  united_stated : (cs : List Case) → All (Branch fs sort) cs → All (IsStated fs) (union_statements sort cs)
  united_stated cs p =
      let x : IsSortOf fs sort = inr (tag sort, tagged, contains_here sort (tag_sort sort ∷ [])) in
      let gs : List PlainOperator = map (λ c. c.getter) cs ++ tag sort ∷ [] in
      let P : PlainOperator → Type 0 = (λ g. Contains fs g × Contains g.domain sort) in
      All-cons (IsStated fs) (Generated sort (map (λ c. c.injection) cs))
      (Partitioned sort gs ∷ (map is_back cs ++ map (is_tagged (tag sort)) cs))
      (clause_generated fs sort (map (λ c. c.injection) cs) x
      (All-map (λ g. Contains fs g × (g.range ≡ sort)) (λ c. c.injection) cs
      (All-weaker (Branch fs sort) (λ c. Contains fs c.injection × (c.injection.range ≡ sort))
      (λ c q. (q.0.0, q.1.1)) cs p)))
      (All-cons (IsStated fs) (Partitioned sort gs) (map is_back cs ++ map (is_tagged (tag sort)) cs)
      (clause_partitioned fs sort gs x
      (All-append P (map (λ c. c.getter) cs) (tag sort ∷ [])
      (All-map P (λ c. c.getter) cs
      (All-weaker (Branch fs sort) (λ c. Contains fs c.getter × Contains c.getter.domain sort)
      (λ c q. (q.0.1, subst (λ d. Contains d sort) (sym q.2.0) (contains_here sort []))) cs p))
      (All-cons P (tag sort) [] (tagged, contains_here sort []) (All-nil P))))
      (All-append (IsStated fs) (map is_back cs) (map (is_tagged (tag sort)) cs)
      (All-map (IsStated fs) is_back cs (All-weaker (Branch fs sort) (λ c. IsStated fs (is_back c)) back_stated cs p))
      (All-map (IsStated fs) (is_tagged (tag sort)) cs
      (All-weaker (Branch fs sort) (λ c. IsStated fs (is_tagged (tag sort) c)) tagged_stated cs p))))

union_stated : (sort : List ℕ) (fields : List RawField)
    → All (IsStated (union_ sort fields).operators) (union_ sort fields).statements
union_stated sort fields =
    let tags : List PlainOperator = enumeration_operators (tag_sort sort) (names_of fields) in
    let own : List PlainOperator = union_operators sort fields in
    let fs : List PlainOperator = tags ++ own in
    let es : List PlainOperator = elements (tag_sort sort) (names_of fields) in
    let getters : List PlainOperator = map (getter sort) fields in
    let injections : List PlainOperator = map (injection sort) fields in
    let i : (f : RawField) → Contains fields f → Contains fs (injection sort f) =
    (λ f c. contains_right tags own (injection sort f)
    (contains_left injections (getters ++ tag sort ∷ []) (injection sort f)
    (contains_map (injection sort) fields f c))) in
    let g : (f : RawField) → Contains fields f → Contains fs (getter sort f) =
    (λ f c. contains_right tags own (getter sort f)
    (contains_right injections (getters ++ tag sort ∷ []) (getter sort f)
    (contains_left getters (tag sort ∷ []) (getter sort f) (contains_map (getter sort) fields f c)))) in
    let t : (f : RawField) → Contains fields f → Contains fs (tag_of sort f) =
    (λ f c. contains_left tags own (tag_of sort f)
    (contains_left es (successor (tag_sort sort) ∷ []) (tag_of sort f)
    (contains_map (λ n. operator n [] (tag_sort sort)) (names_of fields) f.name.name
    (contains_map (λ h. h.name.name) fields f c)))) in
    let tagged : Contains fs (tag sort) =
    contains_right tags own (tag sort)
    (contains_right injections (getters ++ tag sort ∷ []) (tag sort)
    (contains_right getters (tag sort ∷ []) (tag sort) (contains_here (tag sort) []))) in
    All-append (IsStated fs) (enumeration (tag_sort sort) (names_of fields)).statements
    (union_statements sort (map (case_of sort) fields))
    (enumeration_stated fs (tag_sort sort) (names_of fields) (λ f c. contains_left tags own f c))
    (united_stated fs sort tagged (map (case_of sort) fields)
    (All-map (Branch fs sort) (case_of sort) fields
    (all_from (λ f. Branch fs sort (case_of sort f)) fields (λ f c. (
      (i f c, g f c, t f c),
      (refl, refl),
      (refl, refl),
      (refl, refl),
      fine_var fs (codes "x") f.sort.name (field_exists fs sort f (g f c)),
    )))))

-- what a shorthand states is stated over its operators
expansion_is : (s : RawShorthand) → All (IsStated (expansion_of s).operators) (expansion_of s).statements
expansion_is (Enumeration sort words) =
    enumeration_stated (enumeration_operators sort.name (names_in words)) sort.name (names_in words) (λ f c. c)
expansion_is (Tuple sort fields) = tuple_stated sort.name fields
expansion_is (Union sort fields) = union_stated sort.name fields

pub expansion_stated : (s : RawShorthand) (e : Expansion) → expand s ≡ Ok e → All (IsStated e.operators) e.statements
expansion_stated s e h =
    subst (λ x. All (IsStated x.operators) x.statements) (ok_inj (unless_was (wrong_in s) (Ok (expansion_of s)) e h).1)
    (expansion_is s)

-- an operator isn't built in
abbrev Own : PlainOperator → Type 0
Own f = IsBuiltIn f → ⊥

-- a word is the name of no built-in operator but the truth values
word_truth : (n : List ℕ) (b : Kind) → is_word n ≡ true → n ≡ built_in_name b → (b ≡ True) ⊎ (b ≡ False)
word_truth n True w e = inl refl
word_truth n False w e = inr refl
word_truth n Not w e = absurd (true_is_false (sym w ∙ ap is_word e))
word_truth n And w e = absurd (true_is_false (sym w ∙ ap is_word e))
word_truth n Or w e = absurd (true_is_false (sym w ∙ ap is_word e))
word_truth n Implies w e = absurd (true_is_false (sym w ∙ ap is_word e))
word_truth n Iff w e = absurd (true_is_false (sym w ∙ ap is_word e))
word_truth n Equal w e = absurd (true_is_false (sym w ∙ ap is_word e))
word_truth n Unequal w e = absurd (true_is_false (sym w ∙ ap is_word e))
word_truth n If w e = absurd (true_is_false (sym w ∙ ap is_word e))

plain_inj : (n m : List ℕ) → plain n ≡ plain m → n ≡ m
plain_inj n m e = cc

-- an operator that is named by a word and has an argument is its own
word_on : (n s : List ℕ) (ss : List (List ℕ)) (r : List ℕ) → is_word n ≡ true → Own (operator n (s ∷ ss) r)
word_on n s ss r w i =
    elim (word_truth n i.0 w (plain_inj n (built_in_name i.0) (ap (λ f. f.name) i.1.1))) [
      | inl e ↦ no_argument s ss (ap (λ f. f.domain) i.1.1 ∙ ap (λ b. (built_in b i.1.0).domain) e)
      | inr e ↦ no_argument s ss (ap (λ f. f.domain) i.1.1 ∙ ap (λ b. (built_in b i.1.0).domain) e)
    ]

-- a constant that is named by a word is its own where its sort isn't Bool, or it is named otherwise than a truth value
word_constant : (n r : List ℕ) → is_word n ≡ true → (r ≡ bool_sort → (n ≡ codes "true" → ⊥) × (n ≡ codes "false" → ⊥))
    → Own (operator n [] r)
word_constant n r w k i =
    let name : n ≡ built_in_name i.0 = plain_inj n (built_in_name i.0) (ap (λ f. f.name) i.1.1) in
    elim (word_truth n i.0 w name) [
      | inl e ↦ (k (ap (λ f. f.range) i.1.1 ∙ ap (λ b. (built_in b i.1.0).range) e)).0 (name ∙ ap built_in_name e)
      | inr e ↦ (k (ap (λ f. f.range) i.1.1 ∙ ap (λ b. (built_in b i.1.0).range) e)).1 (name ∙ ap built_in_name e)
    ]

-- the first byte is this one
abbrev first_is : ℕ → List ℕ → Bool
first_is a [] = false
first_is a (x ∷ xs) = x == a

-- the third byte is this one
abbrev third_is : ℕ → List ℕ → Bool
third_is a [] = false
third_is a (x ∷ []) = false
third_is a (x ∷ y ∷ []) = false
third_is a (x ∷ y ∷ z ∷ zs) = z == a

-- no built-in operator's name begins so
begins_apart : (n : List ℕ) (b : Kind)
    → ((codes "__." ++ n) ≡ built_in_name b → ⊥) × ((codes "set_" ++ n) ≡ built_in_name b → ⊥)
    × ((codes "[" ++ n) ≡ built_in_name b → ⊥)
begins_apart n True = (
  (λ e. true_is_false (ap (third_is 46) e)),
  (λ e. true_is_false (ap (first_is 115) e)),
  (λ e. true_is_false (ap (first_is 91) e)),
)
begins_apart n False = (
  (λ e. true_is_false (ap (third_is 46) e)),
  (λ e. true_is_false (ap (first_is 115) e)),
  (λ e. true_is_false (ap (first_is 91) e)),
)
begins_apart n Not = (
  (λ e. true_is_false (ap (third_is 46) e)),
  (λ e. true_is_false (ap (first_is 115) e)),
  (λ e. true_is_false (ap (first_is 91) e)),
)
begins_apart n And = (
  (λ e. true_is_false (ap (third_is 46) e)),
  (λ e. true_is_false (ap (first_is 115) e)),
  (λ e. true_is_false (ap (first_is 91) e)),
)
begins_apart n Or = (
  (λ e. true_is_false (ap (third_is 46) e)),
  (λ e. true_is_false (ap (first_is 115) e)),
  (λ e. true_is_false (ap (first_is 91) e)),
)
begins_apart n Implies = (
  (λ e. true_is_false (ap (third_is 46) e)),
  (λ e. true_is_false (ap (first_is 115) e)),
  (λ e. true_is_false (ap (first_is 91) e)),
)
begins_apart n Iff = (
  (λ e. true_is_false (ap (third_is 46) e)),
  (λ e. true_is_false (ap (first_is 115) e)),
  (λ e. true_is_false (ap (first_is 91) e)),
)
begins_apart n Equal = (
  (λ e. true_is_false (ap (third_is 46) e)),
  (λ e. true_is_false (ap (first_is 115) e)),
  (λ e. true_is_false (ap (first_is 91) e)),
)
begins_apart n Unequal = (
  (λ e. true_is_false (ap (third_is 46) e)),
  (λ e. true_is_false (ap (first_is 115) e)),
  (λ e. true_is_false (ap (first_is 91) e)),
)
begins_apart n If = (
  (λ e. true_is_false (ap (third_is 46) e)),
  (λ e. true_is_false (ap (first_is 115) e)),
  (λ e. true_is_false (ap (first_is 91) e)),
)

name_of : (n : List ℕ) (d : List (List ℕ)) (r : List ℕ) (i : IsBuiltIn (operator n d r)) → n ≡ built_in_name i.0
name_of n d r i = plain_inj n (built_in_name i.0) (ap (λ f. f.name) i.1.1)

getter_own : (sort : List ℕ) (f : RawField) → Own (getter sort f)
getter_own sort f i = (begins_apart f.name.name i.0).0 (name_of (codes "__." ++ f.name.name) (sort ∷ []) f.sort.name i)

setter_own : (sort : List ℕ) (f : RawField) → Own (setter sort f)
setter_own sort f i =
    (begins_apart f.name.name i.0).1 (name_of (codes "set_" ++ f.name.name) (sort ∷ f.sort.name ∷ []) sort i)

maker_own : (sort : List ℕ) (fields : List RawField) → Own (maker sort fields)
maker_own sort fields i =
    (begins_apart (join_by (λ f. codes "__") (codes ", ") fields ++ codes "]") i.0).2
    (name_of (codes "[" ++ (join_by (λ f. codes "__") (codes ", ") fields ++ codes "]"))
    (map (λ f. f.sort.name) fields) sort i)

each_own : {A : Type 0} (make : A → PlainOperator) (xs : List A) → ((x : A) → Contains xs x → Own (make x))
    → All Own (map make xs)
each_own make xs h = All-map Own make xs (all_from (λ x. Own (make x)) xs h)

tuple_own : (sort : List ℕ) (fields : List RawField) → All Own (tuple_operators sort fields)
tuple_own sort fields =
    All-cons Own (maker sort fields) (map (getter sort) fields ++ map (setter sort) fields) (maker_own sort fields)
    (All-append Own (map (getter sort) fields) (map (setter sort) fields)
    (each_own (getter sort) fields (λ f c. getter_own sort f))
    (each_own (setter sort) fields (λ f c. setter_own sort f)))

-- no sort of tags is Bool
tag_not_bool : (sort : List ℕ) → tag_sort sort ≡ bool_sort → ⊥
tag_not_bool [] e = true_is_false (ap (first_is 95) e)
tag_not_bool (a ∷ []) e = cc
tag_not_bool (a ∷ b ∷ sort) e = let l = ap length e in let k = length-append sort (codes "_tag") in
    absurd (omega (arith, l, k))

successor_own : (sort : List ℕ) → Own (successor sort)
successor_own sort = word_on (codes "succ") sort [] sort refl

enumeration_own : (sort : List ℕ) (names : List (List ℕ))
    → ((n : List ℕ) → Contains names n
    → (is_word n ≡ true) × (sort ≡ bool_sort → (n ≡ codes "true" → ⊥) × (n ≡ codes "false" → ⊥)))
    → All Own (enumeration_operators sort names)
enumeration_own sort names h =
    All-append Own (elements sort names) (successor sort ∷ [])
    (each_own (λ n. operator n [] sort) names (λ n c. word_constant n sort (h n c).0 (h n c).1))
    (All-cons Own (successor sort) [] (successor_own sort) (All-nil Own))

union_own : (sort : List ℕ) (fields : List RawField) → All WordedField fields → All Own (union_ sort fields).operators
union_own sort fields w =
    All-append Own (enumeration_operators (tag_sort sort) (names_of fields)) (union_operators sort fields)
    (enumeration_own (tag_sort sort) (names_of fields) (λ n c.
    let f = contained_in_map (λ g. g.name.name) fields n c in (
      subst (λ m. is_word m ≡ true) f.2 ((All-contains WordedField fields f.0 w f.1).0),
      (λ e. absurd (tag_not_bool sort e)),
    )))
    (All-append Own (map (injection sort) fields) (map (getter sort) fields ++ tag sort ∷ [])
    (each_own (injection sort) fields
    (λ f c. word_on f.name.name f.sort.name [] sort ((All-contains WordedField fields f w c).0)))
    (All-append Own (map (getter sort) fields) (tag sort ∷ [])
    (each_own (getter sort) fields (λ f c. getter_own sort f))
    (All-cons Own (tag sort) [] (word_on (codes "tag") sort [] (tag_sort sort) refl) (All-nil Own))))

truths_by : (sort : List ℕ) (words : List RawWord) (b : Bool) → bytes_eq sort bool_sort ≡ b
    → (if b then option_map (λ w. w.pos) (find names_truth words) else None) ≡ None → sort ≡ bool_sort
    → find names_truth words ≡ None
truths_by sort words true q e s = no_position (find names_truth words) e
truths_by sort words false q e s = absurd (true_is_false (sym ((bytes_eq-Decides sort bool_sort).1 s) ∙ q))

no_truth : (w : RawWord) → names_truth w ≡ false → (w.name ≡ codes "true" → ⊥) × (w.name ≡ codes "false" → ⊥)
no_truth w e =
    let r = or_false (bytes_eq w.name (codes "true")) (bytes_eq w.name (codes "false")) e in (
      (λ q. true_is_false (sym ((bytes_eq-Decides w.name (codes "true")).1 q) ∙ r.0)),
      (λ q. true_is_false (sym ((bytes_eq-Decides w.name (codes "false")).1 q) ∙ r.1)),
    )

elements_own : (sort : List ℕ) (words : List RawWord) → All Worded words → truth_among sort words ≡ None
    → All Own (enumeration_operators sort (names_in words))
elements_own sort words w e =
    enumeration_own sort (names_in words) (λ n c.
    let f = contained_in_map (λ g. g.name) words n c in (
      subst (λ m. is_word m ≡ true) f.2 (All-contains Worded words f.0 w f.1),
      (λ s. let m = missed_is names_truth words (truths_by sort words (bytes_eq sort bool_sort) refl e s) in
          subst (λ m. (m ≡ codes "true" → ⊥) × (m ≡ codes "false" → ⊥)) f.2
          (no_truth f.0 (All-contains (λ y. names_truth y ≡ false) words f.0 m f.1))),
    ))

expansion_own_is : (s : RawShorthand) → WordedShorthand s → wrong_in s ≡ None → All Own (expansion_of s).operators
expansion_own_is (Enumeration sort words) w e =
    elements_own sort.name words w.1 (no_second (fault_at FieldTwice (twice [] words)) (truth_among sort.name words) e)
expansion_own_is (Tuple sort fields) w e = tuple_own sort.name fields
expansion_own_is (Union sort fields) w e = union_own sort.name fields w.1

pub expansion_own : (s : RawShorthand) (e : Expansion) → WordedShorthand s → expand s ≡ Ok e
    → All (λ f. IsBuiltIn f → ⊥) e.operators
expansion_own s e w h =
    let r = unless_was (wrong_in s) (Ok (expansion_of s)) e h in
    subst (λ x. All Own x.operators) (ok_inj r.1) (expansion_own_is s w r.0)
