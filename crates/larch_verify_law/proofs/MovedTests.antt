-- Tests that pass before a move pass behind it.
use Rattle.std.proofs.Common.{◌≡◌, ℕ, zero, suc, ◌==◌, ◌-◌, true, false, Bool, cond, not, ◌&&◌, ◌||◌, List, [], ◌∷◌}
use Rattle.std.proofs.Common.{map}
use Rattle.std.proofs.Common.{bytes_eq, Option, Some, None, option_map, option_and_then, refl, sym, ◌∙◌, ap}
use Rattle.std.specs.List.{slice_get, list_all, list_any}
use Rattle.std.specs.Cmp.Lexicographic.{pointwise}
use Rattle.std.proofs.lemmas.Slice.Eq.{bytes_eq-Decides, slice_eq-Decides}
use Rattle.larch_base.proofs.Bools.{and_left, and_right, and_both, same_truth}
use Rattle.larch_base.proofs.Lists.{map_map}
use Rattle.larch_base.specs.ByNumber.{numbered}
use Rattle.larch_term.proofs.Decided.{name_Decides, statement_Decides, sorts_Decides}
use Rattle.larch_term.specs.Equality.{same_name, same_statement}
use Rattle.larch_term.specs.Operator.{PlainOperator, boxed}
use Rattle.larch_term.specs.Place.{at}
use Rattle.larch_term.specs.Tree.{Tree, var, app}
use Rattle.larch_term.specs.Variable.{occurrences, same_variable}
use Rattle.larch_term.specs.declared.statement.Statement.{Statement}
use Rattle.larch_term.specs.declared.statement.Theory.{Theory}
use Rattle.larch_term.specs.declared.variable.Variable.{Variable}
use Rattle.larch_verify_meaning.proofs.RenamingRenamed.{renamed_occurrences, at_renamed}
use Rattle.larch_verify_meaning.specs.RenamingRenaming.{Renaming, rename_tree, renamed_variable, renamed_statement}
use Rattle.larch_verify_meaning.proofs.CalculusRenamed.{sort_test}
use Rattle.larch_verify_meaning.specs.CalculusRenaming.{KeepsSortsApart}
use Rattle.larch_certificate.specs.declared.line.BoxPart.{BoxPart}
use Rattle.larch_verify_meaning.specs.Decoding.{each}
use Rattle.larch_verify_meaning.specs.Events.{PlainBox, box_constant, box_predicate, part_operator, operators_from}
use Rattle.larch_verify_meaning.specs.Events.{operators_of}
use Rattle.larch_verify_meaning.specs.Matching.{is_empty, same_statements, all_different, occurs_in, are_apart}
use Rattle.larch_verify_meaning.specs.Matching.{variable_name, argument_name, has_constants, is_predicate_on}
use Rattle.larch_verify_law.specs.Carrying.{IsMove}
use Rattle.larch_verify_law.specs.Moves.{Move, moved_part, moved_box}
use Rattle.larch_verify_law.proofs.Told.{statement_told, statements_told}

-- what equal things pass
pub same_bytes : (s z : List ℕ) → s ≡ z → bytes_eq s z ≡ true
same_bytes s z e = (bytes_eq-Decides s z).1 e

pub same_sorts : (ss zs : List (List ℕ)) → ss ≡ zs → pointwise bytes_eq ss zs ≡ true
same_sorts ss zs e = (sorts_Decides ss zs).1 e

pub is_same : (s z : Statement) → s ≡ z → same_statement s z ≡ true
is_same s z e = (statement_Decides s z).1 e

pub are_same : (ss zs : List Statement) → ss ≡ zs → same_statements ss zs ≡ true
are_same ss zs e = (slice_eq-Decides statement_Decides ss zs (same_statements ss zs) refl).1 e

-- a choice where the test is passed
pub chosen : {X : Type 0} (b : Bool) (x : X) → b ≡ true → cond b (Some x) None ≡ Some x
chosen true x e = refl
chosen false x e = cc

each_found : {Y B : Type 0} (made : Y → B) (o : Option Y) (p : Option (List Y)) (q : Option B) (r : Option (List B))
    (ys : List Y) → ((y : Y) → o ≡ Some y → q ≡ Some (made y)) → ((zs : List Y) → p ≡ Some zs → r ≡ Some (map made zs))
    → option_and_then (λ y. option_map (λ zs. y ∷ zs) p) o ≡ Some ys
    → option_and_then (λ y. option_map (λ zs. y ∷ zs) r) q ≡ Some (map made ys)
each_found made None p q r ys k l e = cc
each_found made (Some y) None q r ys k l e = cc
each_found made (Some y) (Some zs) q r ys k l e =
    ap (option_and_then (λ z. option_map (λ us. z ∷ us) r)) (k y refl) ∙ ap (option_map (λ us. made y ∷ us)) (l zs refl)
    ∙ ap (option_map (map made)) e

-- what is found for each is found for each in its stead
pub each_moved : {X Y A B : Type 0} (f : X → Option Y) (g : A → Option B) (new : X → A) (made : Y → B)
    → ((x : X) (y : Y) → f x ≡ Some y → g (new x) ≡ Some (made y)) → (xs : List X) (ys : List Y) → each f xs ≡ Some ys
    → each g (map new xs) ≡ Some (map made ys)
each_moved f g new made k [] ys e = ap (option_map (map made)) e
each_moved f g new made k (x ∷ xs) ys e =
    each_found made (f x) (each f xs) (g (new x)) (each g (map new xs)) ys (k x)
    (λ zs. each_moved f g new made k xs zs) e

-- tests of elements and of what stands in their stead
pub all_mapped : {X Y : Type 0} (test : Y → Bool) (f : X → Y) (xs : List X)
    → list_all test (map f xs) ≡ list_all (λ x. test (f x)) xs
all_mapped test f [] = refl
all_mapped test f (x ∷ xs) = ap (λ b. test (f x) && b) (all_mapped test f xs)

pub all_alike : {X : Type 0} (f g : X → Bool) → ((x : X) → f x ≡ g x) → (xs : List X) → list_all f xs ≡ list_all g xs
all_alike f g k [] = refl
all_alike f g k (x ∷ xs) = λ i. k x i && all_alike f g k xs i

pub any_mapped : {X Y : Type 0} (f : X → Y) (test : Y → Bool) (old : X → Bool) → ((x : X) → test (f x) ≡ old x)
    → (xs : List X) → list_any test (map f xs) ≡ list_any old xs
any_mapped f test old k [] = refl
any_mapped f test old k (x ∷ xs) = λ i. k x i || any_mapped f test old k xs i

pub empty_mapped : {X Y : Type 0} (f : X → Y) (xs : List X) → is_empty (map f xs) ≡ is_empty xs
empty_mapped f [] = refl
empty_mapped f (x ∷ xs) = refl

pub got_mapped : {X Y : Type 0} (f : X → Y) (xs : List X) (k : ℕ) (x : X) → slice_get xs k ≡ Some x
    → slice_get (map f xs) k ≡ Some (f x)
got_mapped f [] k x e = cc
got_mapped f (y ∷ ys) zero x e = ap (option_map f) e
got_mapped f (y ∷ ys) (suc k) x e = got_mapped f ys k x e

later_mapped : {X Y : Type 0} (f : X → Y) (b : Bool) (o : Option X) (p : Option Y) (x : X)
    → (o ≡ Some x → p ≡ Some (f x)) → cond b None o ≡ Some x → cond b None p ≡ Some (f x)
later_mapped f true o p x k e = cc
later_mapped f false o p x k e = k e

pub numbered_mapped : {X Y : Type 0} (f : X → Y) (xs : List X) (k : ℕ) (x : X) → numbered xs k ≡ Some x
    → numbered (map f xs) k ≡ Some (f x)
numbered_mapped f xs k x e =
    later_mapped f (k == 0) (slice_get xs (k - 1)) (slice_get (map f xs) (k - 1)) x (got_mapped f xs (k - 1) x) e

-- variables are told apart as before
pub variable_test : (r : Renaming) → KeepsSortsApart r → (v w : Variable)
    → same_variable (renamed_variable r v) (renamed_variable r w) ≡ same_variable v w
variable_test r k v w = ap (λ b. bytes_eq v.name w.name && b) (sort_test r k v.sort w.sort)

any_variable : (r : Renaming) → KeepsSortsApart r → (v : Variable) (vs : List Variable)
    → list_any (same_variable (renamed_variable r v)) (map (renamed_variable r) vs) ≡ list_any (same_variable v) vs
any_variable r k v vs =
    any_mapped (renamed_variable r) (same_variable (renamed_variable r v)) (same_variable v) (variable_test r k v) vs

pub different_moved : (r : Renaming) → KeepsSortsApart r → (vs : List Variable)
    → all_different (map (renamed_variable r) vs) ≡ all_different vs
different_moved r k [] = refl
different_moved r k (v ∷ vs) = λ i. not (any_variable r k v vs i) && different_moved r k vs i

occurs_moved : (r : Renaming) → KeepsSortsApart r → (t : Tree) (v : Variable)
    → occurs_in (rename_tree r t) (renamed_variable r v) ≡ occurs_in t v
occurs_moved r k t v =
    ap (list_any (same_variable (renamed_variable r v))) (renamed_occurrences r t)
    ∙ any_variable r k v (occurrences t)

pub apart_moved : (r : Renaming) → KeepsSortsApart r → (vs : List Variable) (a b : Tree)
    → are_apart (map (renamed_variable r) vs) (rename_tree r a) (rename_tree r b) ≡ are_apart vs a b
apart_moved r k vs a b =
    let test : Variable → Bool = λ v. not (occurs_in (rename_tree r a) v) && not (occurs_in (rename_tree r b) v) in
    let old : Variable → Bool = λ v. not (occurs_in a v) && not (occurs_in b v) in
    (λ i. different_moved r k vs i && all_mapped test (renamed_variable r) vs i)
    ∙ ap (λ b. all_different vs && b)
    (all_alike (λ v. test (renamed_variable r v)) old
    (λ v i. not (occurs_moved r k a v i) && not (occurs_moved r k b v i)) vs)

name_moved : (r : Renaming) (o : Option Tree) → variable_name (option_map (rename_tree r) o) ≡ variable_name o
name_moved r None = refl
name_moved r (Some (var n s)) = refl
name_moved r (Some (app f ts)) = refl

pub argument_moved : (r : Renaming) (t : Tree) → argument_name (rename_tree r t) ≡ argument_name t
argument_moved r t =
    λ i k. (ap variable_name (at_renamed r t (k ∷ [])) ∙ name_moved r (at t (k ∷ []))) i

pub absent_moved : (r : Renaming) (t : Tree) → is_empty (occurrences t) ≡ true
    → is_empty (occurrences (rename_tree r t)) ≡ true
absent_moved r t e =
    ap is_empty (renamed_occurrences r t) ∙ empty_mapped (renamed_variable r) (occurrences t) ∙ e

-- what a box makes, moved
pub constant_moved : (m : Move) (t u : Theory) → IsMove m t u → (b k : ℕ) (s : List ℕ)
    → m.renaming.operator (box_constant b k s) ≡ box_constant (m.box b) k (m.renaming.sort s)
constant_moved m t u x b k s =
    let c = box_constant b k s in
    λ i. record {
      name = (x.boxes c b k).0 refl i;
      domain = x.faithful.signatures.domain c i;
      range = x.faithful.signatures.range c i;
    }

pub predicate_moved : (m : Move) (t u : Theory) → IsMove m t u → (b k : ℕ) (s : List ℕ)
    → m.renaming.operator (box_predicate b k s) ≡ box_predicate (m.box b) k (m.renaming.sort s)
predicate_moved m t u x b k s =
    let c = box_predicate b k s in
    λ i. record {
      name = (x.boxes c b k).0 refl i;
      domain = x.faithful.signatures.domain c i;
      range = (x.faithful.signatures.range c ∙ x.faithful.built_in.truth_values) i;
    }

made_moved : (m : Move) (t u : Theory) → IsMove m t u → (b k : ℕ) (p : BoxPart)
    → m.renaming.operator (part_operator b k p) ≡ part_operator (m.box b) k (moved_part m p)
made_moved m t u x b k p = either p.predicate p.sort
  where
    either : (y : Bool) (s : List ℕ)
        → m.renaming.operator (cond y (box_predicate b k s) (box_constant b k s))
        ≡ cond y (box_predicate (m.box b) k (m.renaming.sort s)) (box_constant (m.box b) k (m.renaming.sort s))
    either true s = predicate_moved m t u x b k s
    either false s = constant_moved m t u x b k s

parts_moved : (m : Move) (t u : Theory) → IsMove m t u → (b k : ℕ) (ps : List BoxPart)
    → map m.renaming.operator (operators_from b k ps) ≡ operators_from (m.box b) k (map (moved_part m) ps)
parts_moved m t u x b k [] = refl
parts_moved m t u x b k (p ∷ ps) = λ i. made_moved m t u x b k p i ∷ parts_moved m t u x b (suc k) ps i

pub operators_moved : (m : Move) (t u : Theory) → IsMove m t u → (b : PlainBox)
    → map m.renaming.operator (operators_of b) ≡ operators_of (moved_box m b)
operators_moved m t u x b = parts_moved m t u x b.number 1 b.parts

-- no two boxes become one
pub boxes_apart : (m : Move) (t u : Theory) → IsMove m t u → (b c : ℕ) → m.box b ≡ m.box c → b ≡ c
boxes_apart m t u x b c e =
    let f = box_constant b 1 [] in
    same_box b c ((x.boxes f c 1).1 ((x.boxes f b 1).0 refl ∙ ap (λ n. boxed n 1) e))
  where
    same_box : (b c : ℕ) → boxed b 1 ≡ boxed c 1 → b ≡ c
    same_box b c e = cc

-- a box has the constants that it had, at the new sorts
pub constants_moved : (m : Move) (b : PlainBox) (ss : List (List ℕ)) → has_constants b ss ≡ true
    → has_constants (moved_box m b) (map m.renaming.sort ss) ≡ true
constants_moved m b ss e =
    let plain = list_all (λ p. not p.predicate) b.parts in
    let sorts = map (λ p. p.sort) b.parts in
    let behind = map (λ p. p.sort) (map (moved_part m) b.parts) in
    and_both (list_all (λ p. not p.predicate) (map (moved_part m) b.parts))
    (pointwise bytes_eq behind (map m.renaming.sort ss))
    (all_mapped (λ p. not p.predicate) (moved_part m) b.parts ∙ and_left plain (pointwise bytes_eq sorts ss) e)
    (same_sorts behind (map m.renaming.sort ss)
    (map_map (λ p. p.sort) (moved_part m) b.parts ∙ sym (map_map m.renaming.sort (λ p. p.sort) b.parts)
    ∙ ap (map m.renaming.sort) ((sorts_Decides sorts ss).0 (and_right plain (pointwise bytes_eq sorts ss) e))))

pub predicates_moved : (m : Move) (s : List ℕ) (ps : List BoxPart) → is_predicate_on s ps ≡ true
    → is_predicate_on (m.renaming.sort s) (map (moved_part m) ps) ≡ true
predicates_moved m s [] e = cc
predicates_moved m s (p ∷ []) e =
    and_both p.predicate (bytes_eq (m.renaming.sort p.sort) (m.renaming.sort s))
    (and_left p.predicate (bytes_eq p.sort s) e)
    (same_bytes (m.renaming.sort p.sort) (m.renaming.sort s)
    (ap m.renaming.sort ((bytes_eq-Decides p.sort s).0 (and_right p.predicate (bytes_eq p.sort s) e))))
predicates_moved m s (p ∷ q ∷ ps) e = cc

-- statements that are equal are so moved
pub statements_moved : (r : Renaming) (ss zs : List Statement) → same_statements ss zs ≡ true
    → map (renamed_statement r) ss ≡ map (renamed_statement r) zs
statements_moved r ss zs e = ap (map (renamed_statement r)) (statements_told ss zs e)

pub statement_moved : (r : Renaming) (s z : Statement) → same_statement s z ≡ true
    → renamed_statement r s ≡ renamed_statement r z
statement_moved r s z e = ap (renamed_statement r) (statement_told s z e)

-- the names of what a box makes are told from all others as before
pub name_test : (m : Move) (t u : Theory) → IsMove m t u → (c f : PlainOperator) (b k : ℕ) → c.name ≡ boxed b k
    → same_name (m.renaming.operator c).name (m.renaming.operator f).name ≡ same_name c.name f.name
name_test m t u x c f b k e =
    let d = m.renaming.operator c in
    let g = m.renaming.operator f in
    let new : d.name ≡ boxed (m.box b) k = (x.boxes c b k).0 e in
    same_truth (same_name d.name g.name) (same_name c.name f.name)
    (λ p. (name_Decides c.name f.name).1
    (e ∙ sym ((x.boxes f b k).1 (sym ((name_Decides d.name g.name).0 p) ∙ new))))
    (λ p. (name_Decides d.name g.name).1
    (new ∙ sym ((x.boxes f b k).0 (sym ((name_Decides c.name f.name).0 p) ∙ e))))
