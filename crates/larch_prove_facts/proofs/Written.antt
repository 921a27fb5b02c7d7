-- What is written for the variables of a fact: different variables of it, and terms that are in words and well sorted.
use Rattle.std.specs.Prelude.{◌≡◌, ◌≢◌, ◌++◌, ◌==◌, ◌&&◌, ◌||◌, ℕ, suc, Bool, true, false, cond, not, List, [], ◌∷◌}
use Rattle.std.specs.Prelude.{All, AllPairs, Contains, Option, None, Some, Result, Ok, Err, bytes_eq, filter, find}
use Rattle.std.specs.Prelude.{length, map, refl}
use Rattle.std.specs.List.{AllZip, list_any}
use Rattle.std.proofs.Common.{ap, ap₂, arith, subst, sym, ◌∙◌}
use Rattle.std.proofs.lemmas.Bool.Decides.{Decides-eqb}
use Rattle.std.proofs.lemmas.List.Elements.{All-append, All-cons, All-contains, All-head, All-nil, All-tail}
use Rattle.std.proofs.lemmas.List.Kept.{AllPairs-cons}
use Rattle.std.proofs.lemmas.Slice.Eq.{bytes_eq-Decides}
use Rattle.larch_base.proofs.Lists.{pairs_head, pairs_tail}
use Rattle.larch_base.proofs.Members.{contains_here, contains_later}
use Rattle.larch_base.proofs.Options.{some_inj}
use Rattle.larch_base.specs.declared.code.Code.{Code}
use Rattle.larch_base.specs.declared.code.Code.TheVariants as refusal
use Rattle.larch_certificate_text.specs.LineText.{IsWord}
use Rattle.larch_derive.proofs.Growth.{known_left, known_right}
use Rattle.larch_derive.proofs.Words.{known_worded}
use Rattle.larch_derive.specs.Predicates.{HasEquation, Known}
use Rattle.larch_derive.specs.Words.{AreWordedTerms, IsWordedTerm}
use Rattle.larch_derive.specs.declared.builder.Builder.{Builder}
use Rattle.larch_complete_pairs.specs.DeriveLinesRules.{AreKnownEntries}
use Rattle.larch_pairs_critical.proofs.Numbering.{both_have}
use Rattle.larch_prove_facts.proofs.Reading.{instance_first}
use Rattle.larch_prove_facts.specs.Entries.{MayStand, entry_for, names_in, variables_both}
use Rattle.larch_prove_meaning.proofs.LevelSorts.{between, ok_inj, unless_passed}
use Rattle.larch_prove_meaning.specs.Levels.{Proof, unless}
use Rattle.larch_prove_meaning.specs.Plans.{with_found}
use Rattle.larch_prove_meaning.specs.Steps.{instantiation, read_lone, stands_once, variable_in}
use Rattle.larch_rewrite_meaning.specs.Sides.{Sides}
use Rattle.larch_script_commands.specs.declared.command.RawInstance.{RawInstance}
use Rattle.larch_term.specs.Sorts.{sort_of}
use Rattle.larch_term.specs.Substitution.{is_entry_of}
use Rattle.larch_term.specs.Tree.{Forest, Tree, app, more, none, var}
use Rattle.larch_term.specs.Truth.{truth}
use Rattle.larch_term.specs.Variable.{occurrences, occurrences_in, variables_of}
use Rattle.larch_term.specs.declared.substitution.Entry.{Entry}
use Rattle.larch_term.specs.declared.variable.Variable.{Variable}
use Rattle.larch_base_meaning.specs.Steps.{after}

-- ---- what is found

-- an element that passes a test
pub record Passes {X : Type 0} (test : X → Bool) (xs : List X) (x : X) : Type 0 where
  pub there : Contains xs x
  pub passes : test x ≡ true

first_passes : {X : Type 0} (test : X → Bool) (y x : X) (ys : List X) (b : Bool) → test y ≡ b
    → (find test ys ≡ Some x → Passes test ys x) → cond b (Some y) (find test ys) ≡ Some x → Passes test (y ∷ ys) x
first_passes test y x ys true k go e =
    subst (Passes test (y ∷ ys)) (some_inj e) (record { there = contains_here y ys; passes = k })
first_passes test y x ys false k go e =
    let h = go e in record { there = contains_later y x ys h.there; passes = h.passes }

pub found_passes : {X : Type 0} (test : X → Bool) (xs : List X) (x : X) → find test xs ≡ Some x → Passes test xs x
found_passes test [] x e = absurd (cc)
found_passes test (y ∷ ys) x e =
    first_passes test y x ys (test y) refl (λ q. found_passes test ys x q) e

-- ---- what is read

-- an entry is what was read for an instance
pub record IsRead (p : Proof) (e : Sides) (names : List (List ℕ)) (i : RawInstance) (x : Entry) : Type 0 where
  pub variable : Contains (variables_both e) (record { name = x.name; sort = x.sort })
  pub named : x.name ≡ i.name.name
  pub once : stands_once names i.name.name ≡ true
  pub term : read_lone p x.sort i.term ≡ Ok x.term

passed_once : (b : Bool) (x : Result Entry Code) (y : Entry) → unless refusal.Variable b x ≡ Ok y → b ≡ true
passed_once true x y h = refl
passed_once false x y h = absurd (cc)

read_by : (p : Proof) (e : Sides) (names : List (List ℕ)) (i : RawInstance) (x : Entry) (o : Option Variable)
    → variable_in e i.name.name ≡ o
    → with_found refusal.Variable o (λ v. unless refusal.Variable (stands_once names i.name.name)
    (after (read_lone p v.sort i.term) (λ t. Ok (record { name = v.name; sort = v.sort; term = t })))) ≡ Ok x
    → IsRead p e names i x
read_by p e names i x None found h = absurd (cc)
read_by p e names i x (Some v) found h =
    let test : Variable → Bool = λ w. bytes_eq w.name i.name.name in
    let y = found_passes test (variables_both e) v found in
    let rest = unless_passed refusal.Variable (stands_once names i.name.name)
    (after (read_lone p v.sort i.term) (λ t. Ok (record { name = v.name; sort = v.sort; term = t }))) x h in
    let m = between (read_lone p v.sort i.term) (λ t. Ok (record { name = v.name; sort = v.sort; term = t })) x rest in
    subst (IsRead p e names i) (ok_inj m.second) (record {
      variable = y.there;
      named = (bytes_eq-Decides v.name i.name.name).0 y.passes;
      once = passed_once (stands_once names i.name.name) _ x h;
      term = m.first;
    })

entry_is_read : (p : Proof) (e : Sides) (names : List (List ℕ)) (i : RawInstance) (x : Entry)
    → entry_for p e names i ≡ Ok x → IsRead p e names i x
entry_is_read p e names i x h = read_by p e names i x (variable_in e i.name.name) refl h

pub all_read : (p : Proof) (e : Sides) (names : List (List ℕ)) (is : List RawInstance) (es : List Entry)
    → instantiation p e names is ≡ Ok es → AllZip (IsRead p e names) is es
all_read p e names [] es h = subst (AllZip (IsRead p e names) []) (ok_inj h) tt
all_read p e names (i ∷ is) es h =
    let m = between (entry_for p e names i) (λ x. after (instantiation p e names is) (λ ds. Ok (x ∷ ds))) es
    (sym (instance_first p e names i is) ∙ h) in
    let d = between (instantiation p e names is) (λ ds. Ok (m.made ∷ ds)) es m.second in
    subst (AllZip (IsRead p e names) (i ∷ is)) (ok_inj d.second)
    (entry_is_read p e names i m.made m.first, all_read p e names is d.made d.first)

-- ---- variables that differ

abbrev count : List ℕ → List (List ℕ) → ℕ
count n ns = length (filter (bytes_eq n) ns)

counted_in : (b : Bool) (n m : List ℕ) (ms : List (List ℕ)) → bytes_eq n m ≡ b
    → length (cond b (m ∷ filter (bytes_eq n) ms) (filter (bytes_eq n) ms)) ≡ 0
    → (count n ms ≡ 0 → All (λ k. n ≢ k) ms) → All (λ k. n ≢ k) (m ∷ ms)
counted_in true n m ms k h go = absurd (omega (arith, h))
counted_in false n m ms k h go =
    All-cons (λ x. n ≢ x) m ms (λ e. let q = (bytes_eq-Decides n m).1 e in apart_told (sym q ∙ k)) (go h)
  where
    apart_told : true ≡ false → ⊥
    apart_told q = cc

not_among : (n : List ℕ) (ns : List (List ℕ)) → count n ns ≡ 0 → All (λ k. n ≢ k) ns
not_among n [] h = All-nil (λ k. n ≢ k)
not_among n (m ∷ ms) h = counted_in (bytes_eq n m) n m ms refl h (λ q. not_among n ms q)

count_itself : (n : List ℕ) (ns : List (List ℕ)) → count n (n ∷ ns) ≡ suc (count n ns)
count_itself n ns =
    ap (λ b. length (cond b (n ∷ filter (bytes_eq n) ns) (filter (bytes_eq n) ns)))
    ((bytes_eq-Decides n n).1 refl)

told_false : (b : Bool) → (b ≡ true → ⊥) → b ≡ false
told_false true h = absurd (h refl)
told_false false h = refl

count_behind : (n m : List ℕ) (ns : List (List ℕ)) → n ≢ m → count m (n ∷ ns) ≡ count m ns
count_behind n m ns h =
    ap (λ b. length (cond b (n ∷ filter (bytes_eq m) ns) (filter (bytes_eq m) ns)))
    (told_false (bytes_eq m n) (λ q. h (sym ((bytes_eq-Decides m n).0 q))))

once_counted : (k : ℕ) → (k == 1) ≡ true → k ≡ 1
once_counted k h = (Decides-eqb k 1).0 h

-- names of which each stands once differ
once_apart : (ns : List (List ℕ)) → All (λ n. stands_once ns n ≡ true) ns → AllPairs (λ n m. n ≢ m) ns
once_apart [] h = λ i j d l m. absurd (omega (arith, m))
once_apart (n ∷ ns) h =
    let one : count n (n ∷ ns) ≡ 1 = once_counted (count n (n ∷ ns)) (All-head (λ k. stands_once (n ∷ ns) k ≡ true) n ns
    h) in
    let more = count_itself n ns in
    let others = not_among n ns (omega (arith, one, more)) in
    AllPairs-cons (λ x y. x ≢ y) n ns others
    (once_apart ns (λ i d l.
    ap (λ k. k == 1) (sym (count_behind n _ ns (others i d l)))
    ∙ All-tail (λ k. stands_once (n ∷ ns) k ≡ true) n ns h i d l))

-- an entry's variable isn't that of another, where their names differ
abbrev pub Differ : Entry → Entry → Type 0
Differ d x = is_entry_of x.name x.sort d ≡ false

and_false : (a b : Bool) → a ≡ false → (a && b) ≡ false
and_false a b h = ap (λ c. c && b) h

names_differ : (x d : Entry) → x.name ≢ d.name → Differ x d
names_differ x d h =
    and_false (bytes_eq x.name d.name) (bytes_eq x.sort d.sort)
    (told_false (bytes_eq x.name d.name) (λ q. h ((bytes_eq-Decides x.name d.name).0 q)))

module _ (p : Proof) (e : Sides) (names : List (List ℕ)) where
  others_differ : (x : Entry) (is : List RawInstance) (es : List Entry) → AllZip (IsRead p e names) is es
      → All (λ n. x.name ≢ n) (names_in is) → All (Differ x) es
  others_differ x [] [] z h = All-nil (Differ x)
  others_differ x [] (d ∷ ds) z h = absurd z
  others_differ x (i ∷ is) [] z h = absurd z
  others_differ x (i ∷ is) (d ∷ ds) (y, z) h =
      All-cons (Differ x) d ds
      (names_differ x d (λ q. All-head (λ n. x.name ≢ n) i.name.name (names_in is) h (q ∙ y.named)))
      (others_differ x is ds z (All-tail (λ n. x.name ≢ n) i.name.name (names_in is) h))

  apart_from : (is : List RawInstance) (es : List Entry) → AllZip (IsRead p e names) is es
      → AllPairs (λ n m. n ≢ m) (names_in is) → AllPairs Differ es
  apart_from [] [] z h = λ i j d l m. absurd (omega (arith, m))
  apart_from [] (d ∷ ds) z h = absurd z
  apart_from (i ∷ is) [] z h = absurd z
  apart_from (i ∷ is) (d ∷ ds) (y, z) h =
      AllPairs-cons Differ d ds
      (others_differ d is ds z (subst (λ k. All (λ n. k ≢ n) (names_in is)) (sym y.named)
      (pairs_head (λ n m. n ≢ m) i.name.name (names_in is) h)))
      (apart_from is ds z (pairs_tail (λ n m. n ≢ m) i.name.name (names_in is) h))

  all_once : (is : List RawInstance) (es : List Entry) → AllZip (IsRead p e names) is es
      → All (λ n. stands_once names n ≡ true) (names_in is)
  all_once [] es z = All-nil (λ n. stands_once names n ≡ true)
  all_once (i ∷ is) [] z = absurd z
  all_once (i ∷ is) (d ∷ ds) (y, z) =
      All-cons (λ n. stands_once names n ≡ true) i.name.name (names_in is) y.once (all_once is ds z)

-- the variables that are written differ
pub entries_differ : (p : Proof) (e : Sides) (is : List RawInstance) (es : List Entry)
    → instantiation p e (names_in is) is ≡ Ok es → AllPairs Differ es
entries_differ p e is es h =
    let z = all_read p e (names_in is) is es h in
    apart_from p e (names_in is) is es z (once_apart (names_in is) (all_once p e (names_in is) is es z))

-- ---- words

mutual
  occurring_named : (t : Tree) → IsWordedTerm t → All (λ (v : Variable). IsWord v.name) (occurrences t)
  occurring_named (var n s) w =
      All-cons (λ (v : Variable). IsWord v.name) (record { name = n; sort = s }) [] w.0
      (All-nil (λ (v : Variable). IsWord v.name))
  occurring_named (app f ts) w = all_occurring_named ts w.1

  all_occurring_named : (ts : Forest) → AreWordedTerms ts → All (λ (v : Variable). IsWord v.name) (occurrences_in ts)
  all_occurring_named none w = All-nil (λ (v : Variable). IsWord v.name)
  all_occurring_named (more t ts) w =
      All-append (λ (v : Variable). IsWord v.name) (occurrences t) (occurrences_in ts) (occurring_named t w.0)
      (all_occurring_named ts w.1)

variables_named : (t : Tree) → IsWordedTerm t → All (λ (v : Variable). IsWord v.name) (variables_of t)
variables_named t w =
    both_have (λ (v : Variable). IsWord v.name) t truth (occurring_named t w) (All-nil (λ
    (v : Variable). IsWord v.name))

pub both_named : (b : Builder) (n : ℕ) (e : Sides) → HasEquation b n e.left e.right
    → All (λ (v : Variable). IsWord v.name) (variables_both e)
both_named b n e h =
    All-append (λ (v : Variable). IsWord v.name) (variables_of e.left) (variables_of e.right)
    (variables_named e.left (known_worded b e.left (known_left b n e.left e.right h)))
    (variables_named e.right (known_worded b e.right (known_right b n e.left e.right h)))
